-- A whole list of calls: at each call table and model show the same, and after the list the table represents the model. By the list; an accepted
-- fresh, load or restore begins it on an area that may hold anything.
use Prim.Native.Nat.{ℕ}
use mathlib.Core.Path.{◌≡◌, refl, sym, ◌∙◌, ap, ap₂, subst}
use mathlib.Core.List.{List, [], ◌∷◌}
use lib.ListN.{length, drop}
use Rattle.lists.specs.Lists.{All}
use Rattle.table_rules.specs.Table.{Table}
use Rattle.call_rules.specs.Calls.{Begin, begin_reply, table_begun}
use Rattle.history.specs.Trace.{Step, State, Shown, shown, begin_shown, overlaid, left_by, state_after, shown_at, state_after_all, trace}
use Rattle.history.specs.Model.{Model, after_unless, model_begun, begun_shown, begin_answer, answer, answer_at, model_after_all, model_trace}
use Rattle.history.specs.History.{IsBegin, IsCall, before, blank_model, opening, History, steps, final_state, final_model}
use Rattle.history.specs.Represents.{Represents}
use Rattle.history.proofs.RefinesItems.{Matches}
use Rattle.history.proofs.RefinesRefusals.{begun_alike}
use Rattle.history.proofs.RefinesStep.{overlaid_length, step_shown}
use Rattle.history.proofs.RefinesRepresents.{represents}
use Rattle.history.proofs.RefinesLeft.{matches_longer, step_matches}
use Rattle.history.proofs.Changing.{begin_matches}

-- the first call: it reads nothing of the table but its length, which is the area's
module _ (state : State) (m : Model) (b : Begin) (area : Table) where
  first_shown_lem : shown_at state (opening b area) ≡ (answer_at m (opening b area)).shows
  unfolding shown_at opening shown answer_at answer begin_answer
  first_shown_lem = ap (λ (rows : ℕ). begin_shown b (begin_reply b rows)) (overlaid_length state.table area) ∙ begun_alike b (length area)

  -- accepted, it leaves the model's table
  pub first_accepted : (shown_at state (opening b area)).refusal ≡ 0 → (begin_shown b (begin_reply b (length (overlaid state.table area)))).refusal ≡ 0
  unfolding shown_at opening shown
  first_accepted e = e

  first_matches : IsBegin b → (shown_at state (opening b area)).refusal ≡ 0
      → Matches (state_after state (opening b area)).table (answer_at m (opening b area)).model
  unfolding state_after opening answer_at answer begin_answer after_unless left_by
  first_matches is e =
      let t = overlaid state.table area in
      let accepted = first_accepted e in
      let here : (begun_shown b (length area)).refusal ≡ 0 = ap (λ (s : Shown). s.refusal) (sym first_shown_lem) ∙ e in
      subst (λ (n : ℕ). Matches (left_by state.table (table_begun b t)) (after_unless n m (model_begun b))) (sym here)
      (matches_longer (begin_matches b is t accepted) (drop (length (table_begun b t)) state.table))

list_shown : (ss : List Step) (state : State) (m : Model) → Matches state.table m → All (λ s. IsCall s.call) ss → trace state ss ≡ model_trace m ss
unfolding trace model_trace
list_shown [] state m ok h = refl
list_shown (s ∷ ss) state m ok h =
    ap₂ ◌∷◌ (step_shown state m ok s h.0) (list_shown ss (state_after state s) (answer_at m s).model (step_matches state m ok s h.0) h.1)

list_matches : (ss : List Step) (state : State) (m : Model) → Matches state.table m → All (λ s. IsCall s.call) ss
    → Matches (state_after_all state ss).table (model_after_all m ss)
unfolding state_after_all model_after_all
list_matches [] state m ok h = ok
list_matches (s ∷ ss) state m ok h = list_matches ss (state_after state s) (answer_at m s).model (step_matches state m ok s h.0) h.1

module _ (h : History) where
  abbrev first : Step
  first = opening h.first h.area

  pub begun_matches : Matches (state_after (before h.initial) first).table (answer_at blank_model first).model
  begun_matches = first_matches (before h.initial) blank_model h.first h.area h.arguments.0 h.accepted

  pub history_traces : trace (before h.initial) (steps h) ≡ model_trace blank_model (steps h)
  unfolding steps trace model_trace
  history_traces =
      ap₂ ◌∷◌ (first_shown_lem (before h.initial) blank_model h.first h.area)
      (list_shown h.rest (state_after (before h.initial) first) (answer_at blank_model first).model begun_matches h.arguments.1)

  pub history_matches : Matches (final_state h).table (final_model h)
  unfolding final_state final_model steps state_after_all model_after_all
  history_matches = list_matches h.rest (state_after (before h.initial) first) (answer_at blank_model first).model begun_matches h.arguments.1

  pub history_represents : Represents (final_state h).table (final_model h)
  history_represents = represents history_matches
