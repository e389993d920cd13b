-- The rebuild bound after a whole list of calls: an accepted fresh, load or restore begins within what is paid, and each call keeps it.
use Prim.Native.Nat.{ℕ, ◌≤◌}
use mathlib.Core.Path.{◌≡◌, sym, subst}
use mathlib.Core.List.{List, [], ◌∷◌}
use Rattle.lists.specs.Lists.{All}
use Rattle.table_rules.specs.Table.{Table}
use Rattle.call_rules.specs.Calls.{Begin, table_begun}
use Rattle.history.specs.Trace.{Step, State, begun_sums, sums_after, overlaid, left_by, state_after, shown_at, state_after_all}
use Rattle.history.specs.Model.{Model, answer_at}
use Rattle.history.specs.History.{IsBegin, IsCall, before, blank_model, opening, History, steps, final_state, final_model}
use Rattle.history.specs.Represents.{rebuild_bound}
use Rattle.history.proofs.RefinesItems.{Matches}
use Rattle.history.proofs.RefinesLeft.{step_matches}
use Rattle.history.proofs.RefinesHistory.{first_accepted, begun_matches, history_matches}
use Rattle.history.proofs.AmortizedSums.{Paid, paid_bound}
use Rattle.history.proofs.AmortizedSteps.{begun_paid, call_paid}

-- a first call that is accepted
first_paid : (state : State) (b : Begin) (area : Table) → IsBegin b → (shown_at state (opening b area)).refusal ≡ 0
    → Paid (state_after state (opening b area)).table (state_after state (opening b area)).sums
unfolding state_after opening sums_after begun_sums
first_paid state b area is e =
    let t = overlaid state.table area in
    let accepted = first_accepted state blank_model b area e in
    subst (λ (n : ℕ). Paid (left_by state.table (table_begun b t)) (begun_sums n b state.sums)) (sym accepted) (begun_paid state.table t b is accepted)

list_paid : (ss : List Step) (state : State) (m : Model) → Matches state.table m → Paid state.table state.sums → All (λ s. IsCall s.call) ss
    → Paid (state_after_all state ss).table (state_after_all state ss).sums
unfolding state_after_all state_after
list_paid [] state m ok paid h = paid
list_paid (s ∷ ss) state m ok paid h =
    list_paid ss (state_after state s) (answer_at m s).model (step_matches state m ok s h.0) (call_paid ok paid s.call h.0 s.table s.areas) h.1

history_paid : (h : History) → Paid (final_state h).table (final_state h).sums
unfolding final_state steps state_after_all
history_paid h =
    let first = opening h.first h.area in
    let start = before h.initial in
    list_paid h.rest (state_after start first) (answer_at blank_model first).model (begun_matches h)
    (first_paid start h.first h.area h.arguments.0 h.accepted) h.arguments.1

pub history_bound : (h : History) → (final_state h).sums.distances ≤ rebuild_bound (final_model h).order (final_state h).sums
history_bound h =
    subst (λ (o : ℕ). (final_state h).sums.distances ≤ rebuild_bound o (final_state h).sums) (history_matches h).order (paid_bound (history_paid h))
