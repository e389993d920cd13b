-- A list of calls that an accepted fresh began, with no accepted beginning and no accepted removal after it: the table counts its adds in binary. By the list.
use Prim.Native.Nat.{ℕ, zero, suc}
use mathlib.Core.Path.{◌≡◌, sym, ◌∙◌, ap, subst}
use mathlib.Core.List.{List, [], ◌∷◌}
use lib.ListN.{length, drop}
use Rattle.lists.specs.Lists.{All}
use Rattle.metric_rules.specs.declared.Space.{Space}
use Rattle.table_rules.specs.Table.{Table}
use Rattle.table_rules.specs.Fresh.{fresh_refusal, fresh_table, table_after_fresh}
use Rattle.table_rules.specs.Remove.{remove_refusal, remove_reply}
use Rattle.call_rules.specs.Calls.{Begin, table_begun, Call, Areas, reply_to, areas_after}
use Rattle.call_rules.specs.Calls.Begin.{fresh}
use Rattle.call_rules.specs.Calls.Change.{add, remove, read_list}
use Rattle.call_rules.specs.Calls.Call.{begin, change, ask, write}
use Rattle.history.specs.Trace.{Step, State, Sums, starting, begun_sums, sums_after, begin_shown, change_shown, shown, overlaid, left_by, state_after, shown_at}
use Rattle.history.specs.Trace.{state_after_all}
use Rattle.history.specs.Model.{Model, answer_at}
use Rattle.history.specs.History.{IsBegin, IsCall, before, blank_model, opening, steps, final_state}
use Rattle.history.specs.Counter.{OnlyAdds, OnlyAdded}
use Rattle.history.specs.Demands.{BinaryCounter}
use Rattle.history.proofs.InvariantFresh.{freshable}
use Rattle.history.proofs.RefinesItems.{Matches}
use Rattle.history.proofs.RefinesLeft.{step_matches}
use Rattle.history.proofs.RefinesShown.{remove_number}
use Rattle.history.proofs.RefinesHistory.{first_accepted, begun_matches, history_matches}
use Rattle.history.proofs.Changing.{matches_fresh}
use Rattle.history.proofs.StepsKeep.{Left, longer, call-keeps}
use Rattle.history.proofs.Counting.{Counting, counting_keeps, counting_fresh, counts_adds}

-- an accepted fresh
fresh_left : (left t : Table) (order : ℕ) (space : Space) → length space.weights.each ≡ 4 → fresh_refusal (length t) order space ≡ 0
    → Counting (left_by left (table_after_fresh order space t)) (starting (fresh order space))
unfolding left_by starting table_after_fresh
fresh_left left t order space four e =
    let u : Table = fresh_table order space t in
    let whole : table_after_fresh order space t ≡ u = ap (λ (n : ℕ). elim n as (λ _. Table) [ zero ↦ u | suc j ↦ t ]) e in
    subst (λ (x : Table). Counting (left_by left x) (starting (fresh order space))) (sym whole)
    (longer Counting counting_keeps (matches_fresh order space t four e).invariant.long (counting_fresh order space t (freshable (length t) order space four e).long) (drop (length u) left))

first_counting : (state : State) (b : Begin) (order : ℕ) (space : Space) → b ≡ fresh order space → (area : Table) → IsBegin b → (shown_at state (opening b area)).refusal ≡ 0
    → Counting (state_after state (opening b area)).table (state_after state (opening b area)).sums
unfolding state_after opening sums_after begun_sums begin_shown
first_counting state b order space is-fresh area =
    subst
    (λ (x : Begin). IsBegin x → (shown_at state (opening x area)).refusal ≡ 0 → Counting (state_after state (opening x area)).table (state_after state (opening x area)).sums)
    (sym is-fresh)
    (λ is e.
    let t = overlaid state.table area in
    let accepted = first_accepted state blank_model (fresh order space) area e in
    subst (λ (n : ℕ). Counting (left_by state.table (table_begun (fresh order space) t)) (begun_sums n (fresh order space) state.sums)) (sym accepted)
    (fresh_left state.table t order space is.1.weights.four accepted))

-- no accepted beginning and no accepted removal: nothing is left to say
only_left : {left : Table} {m : Model} (ok : Matches left m) {sums : Sums} (q : Counting left sums) (c : Call) (t : Table) (areas : Areas c)
    → OnlyAdds c (shown c (reply_to c t areas) (areas_after c t areas)).refusal → Left Counting counting_keeps ok q c t areas
unfolding shown change_shown remove_reply
only_left ok q (begin b) t none only = λ e. absurd (only e)
only_left ok q (change (add tag p day)) t work only = tt
only_left ok q (change (remove tag)) t work only = λ e here held order. absurd (only (remove_number (remove_refusal t work tag) _ ∙ e))
only_left ok q (change (read_list list day)) t work only = tt
only_left ok q (ask x) t areas only = tt
only_left ok q (write w) t bytes only = tt

list_counting : (ss : List Step) (state : State) (m : Model) → Matches state.table m → Counting state.table state.sums → All (λ s. IsCall s.call) ss → OnlyAdded state ss
    → Counting (state_after_all state ss).table (state_after_all state ss).sums
unfolding state_after_all state_after shown_at
list_counting [] state m ok c h only = c
list_counting (s ∷ ss) state m ok c h only =
    list_counting ss (state_after state s) (answer_at m s).model (step_matches state m ok s h.0)
    (call-keeps Counting counting_keeps ok c s.call h.0 s.table s.areas (only_left ok c s.call (overlaid state.table s.table) s.areas only.0)) h.1 only.1

pub binary_counter : BinaryCounter
unfolding final_state steps state_after_all
binary_counter h order space is-fresh only some =
    let first = opening h.first h.area in
    let start = before h.initial in
    counts_adds (history_matches h).invariant
    (list_counting h.rest (state_after start first) (answer_at blank_model first).model (begun_matches h)
    (first_counting start h.first order space is-fresh h.area h.arguments.0 h.accepted) h.arguments.1 only)
    some
