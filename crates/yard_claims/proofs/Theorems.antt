-- The claims of `specs/Claims`, by the lines: the first one begins the model or ends all, and each later one prints as
-- the model does and leaves areas for the next.
use Rattle.std.proofs.Common.{Option, Some, None}
use Prim.Native.Nat.{ℕ, zero, suc, ◌^◌, ◌<◌}
use native.Mathlib.Omega.{arith}
use mathlib.Core.Path.{◌≡◌, refl, ◌∙◌, ap, ap₂}
use mathlib.Core.Bool.{Bool, true, false}
use mathlib.Core.Logic.{◌⊎◌, inl, inr}
use mathlib.Core.List.{List, [], ◌∷◌, ◌++◌, append-nil}
use lib.Dec.{leb, eqb}
use lib.ListN.{length}
use Rattle.metric_rules.specs.declared.Profile.{Profile}
use Rattle.history.specs.Figures.{tag_sound, measures_within}
use Rattle.table_rules.specs.Refusals.{bad_day}
use Rattle.call_rules.specs.Calls.Begin.{fresh}
use Rattle.history.specs.Model.{Model, is_in, tag_refusal, item_refusal, model_begun}
use Rattle.yard_rules.specs.declared.Header.{Header}
use Rattle.yard_rules.specs.declared.Command.{Command}
use Rattle.yard_rules.specs.declared.Command.TheVariants as command
use Rattle.yard_rules.specs.declared.Stage.TheVariants as stage
use Rattle.yard_rules.specs.Line.{letter_f, header_in, command_in, profile_in}
use Rattle.yard_rules.specs.Reply.{reply_line}
use Rattle.yard_rules.specs.Conversation.{Areas, Ample, LineOutcome, yard_space, other_text, header_refusal, header_outcome, areas_after, text_after, command_outcome}
use Rattle.yard_rules.specs.Conversation.{line_outcome, after, after_lines, printed, lines_in, waiting, conversation}
use Rattle.yard_rules.proofs.Ended.{ended_prints}
use Rattle.yard_rules.proofs.Fitting.{command_fits}
use Rattle.yard_claims.specs.Claims.{Counts, counts_of, line_refusal, model_after, model_text, model_printed, model_opened, model_conversation}
use Rattle.yard_claims.specs.Claims.{EveryConversation, NoAreaRefused}
use Rattle.yard_claims.proofs.Serving.{ServedBy, serving, text_served, stays_served, first_outcome, after_first_lem, first_refused_lem, first_served}
pub use Rattle.yard_claims.proofs.Kept.{every_table_kept}

lines_served : (lines : List (List ℕ)) (a : Areas) (m : Model) (n : ℕ) → ServedBy a m
    → printed (serving a n) lines ≡ model_printed m (suc n) lines (counts_of (serving a n) lines)
unfolding printed after line_outcome command_outcome model_printed counts_of after_lines
lines_served [] a m n s = refl
lines_served (line ∷ lines) a m n s =
    let c : Option Command = command_in line in
    let p : Profile = profile_in line in
    let here : text_after a (suc n) c p ≡ model_text m (suc n) c p (counts_of (serving a n) (line ∷ lines) 0) = text_served s (suc n) c p in
    ap₂ ◌++◌ here (lines_served lines (areas_after a c p) (model_after m c p) (suc n) (stays_served s c p (command_fits line)))

-- the first line: what it leads to and what the model prints, by the header's number
module _ {a : Areas} (ample : Ample a) (lines : List (List ℕ)) where
  abbrev followed : LineOutcome → List ℕ
  followed o = o.text ++ printed (after_first_lem o) lines

  ended_as_model : (text : List ℕ) → followed (record { areas = a; stage = stage.Ended; text = text }) ≡ text
  ended_as_model text = ap (λ (t : List ℕ). text ++ t) (ended_prints a 1 lines) ∙ append-nil text

  opened_as_model : (h : Option Header) → followed (header_outcome a 1 h) ≡ model_opened h lines (counts_of (after_first_lem (header_outcome a 1 h)) lines)
  unfolding header_outcome model_opened
  opened_as_model None = ended_as_model (other_text 1)
  opened_as_model (Some header) =
      let n = header_refusal a.table header.order header.metric in
      go n refl ∙ ap (λ (i : ℕ). opened i (counts_of (after_first_lem (first_outcome a header.order header.metric n)) lines)) (first_refused_lem ample header.order header.metric)
    where
      opened : ℕ → (ℕ → Counts) → List ℕ
      opened n counts = elim n [ zero ↦ model_printed (model_begun (fresh header.order (yard_space header.metric))) 2 lines counts | suc i ↦ reply_line letter_f (suc i ∷ []) ]

      go : (n : ℕ) → header_refusal a.table header.order header.metric ≡ n → followed (first_outcome a header.order header.metric n) ≡ opened n (counts_of (after_first_lem (first_outcome a header.order header.metric n)) lines)
      go zero e = lines_served lines _ _ 1 (first_served ample header.order header.metric e)
      go (suc n) e = ended_as_model (reply_line letter_f (suc n ∷ []))

all_as_model : (a : Areas) → Ample a → (lines : List (List ℕ))
    → printed (waiting a) lines ≡ model_conversation lines (counts_of (waiting a) lines)
unfolding printed after line_outcome model_conversation counts_of after_lines
all_as_model a ample [] = refl
all_as_model a ample (line ∷ lines) = opened_as_model ample lines (header_in line)

pub every_conversation : EveryConversation
unfolding conversation
every_conversation a ample input = all_as_model a ample (lines_in input)

-- the model's numbers are below 6, or 20 to 22, or 33
abbrev Number : ℕ → Type 0
Number n = (n < 6) ⊎ (((19 < n) × (n < 23)) ⊎ (n ≡ bad_day))

either : (test : Bool) {x y : ℕ} → Number x → Number y → Number (elim test [ true ↦ x | false ↦ y ])
either true h k = h
either false h k = k

line_number : (m : Model) (c : Option Command) (p : Profile) → Number (line_refusal m c p)
unfolding line_refusal item_refusal tag_refusal
line_number m (Some (command.Add tag day)) p =
    either (tag_sound tag)
    (either (measures_within p)
    (either (eqb day 0) (inr (inr refl))
    (either (is_in m tag) (inr (inl (omega arith, omega arith)))
    (either (leb (2 ^ m.order) (length m.items)) (inr (inl (omega arith, omega arith))) (inl (omega arith)))))
    (inl (omega arith)))
    (inl (omega arith))
line_number m (Some (command.Remove tag)) p = either (tag_sound tag) (either (is_in m tag) (inl (omega arith)) (inr (inl (omega arith, omega arith)))) (inl (omega arith))
line_number m (Some (command.Within radius firstDay)) p = either (measures_within p) (inl (omega arith)) (inl (omega arith))
line_number m (Some (command.Nearest k firstDay)) p = either (measures_within p) (either (eqb k 0) (inl (omega arith)) (inl (omega arith))) (inl (omega arith))
line_number m None p = inl (omega arith)

pub no_area_refused : NoAreaRefused
no_area_refused m c p = apart (line_refusal m c p) (line_number m c p)
  where
    apart : (n : ℕ) → Number n → (n ≡ 6 → ⊥) × ((n ≡ 23 → ⊥) × ((n ≡ 24 → ⊥) × Unit {0}))
    apart n (inl h) = ((λ e. omega arith), ((λ e. omega arith), ((λ e. omega arith), tt)))
    apart n (inr (inl h)) = ((λ e. omega (arith, h.0)), ((λ e. omega (arith, h.1)), ((λ e. omega (arith, h.1)), tt)))
    apart n (inr (inr h)) = ((λ e. omega arith), ((λ e. omega arith), ((λ e. omega arith), tt)))
