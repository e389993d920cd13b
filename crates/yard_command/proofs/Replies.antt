-- What each command's function leaves is what the definition says of a line that is that command.
use Prim.Native.Nat.{ℕ}
use mathlib.Core.Path.{◌≡◌, refl, ap, ap₂, subst, ◌∙◌}
use mathlib.Core.Bool.{Bool, true, false, ◌&&◌, false≢true}
use mathlib.Core.List.{List, [], ◌∷◌}
use lib.Dec.{eqb}
use Rattle.std.proofs.Common.{Option, Some, None}
use Rattle.metric_rules.specs.declared.Profile.{Profile}
use Rattle.metric_rules.specs.Row.{Row}
use Rattle.search_rules.specs.Range.{Entry}
use Rattle.table_rules.specs.Table.{Table}
use Rattle.table_rules.specs.Add.{add_reply, table_after_add, work_after_add}
use Rattle.table_rules.specs.Remove.{remove_reply, table_after_remove, work_after_remove}
use Rattle.table_rules.specs.Search.{range_reply, result_after_range, nearest_reply, result_after_nearest}
use Rattle.yard_rules.specs.declared.Command.{Command}
use Rattle.yard_rules.specs.declared.Command.TheVariants as command
use Rattle.text_rules.specs.Text.{space, parts_in, numeral}
use Rattle.text_rules.specs.Fields.{is_tag}
use Rattle.yard_rules.specs.Line.{letter_a, letter_n, letter_r, letter_w, question_mark, field, is_number, opens, has_profile, day_or, command_in, profile_in}
use Rattle.yard_rules.specs.Reply.{reply_line, add_text, remove_text, search_text}
use Rattle.yard_rules.specs.Conversation.{areas_after, text_after, other_text}
use Rattle.yard_reply.specs.Put.{Puts}
use Rattle.yard_command.specs.Lent.{lent}

-- an add and the searches have a profile beside them
abbrev pub needs_profile : Option Command → Bool
needs_profile (Some (command.Add tag day)) = true
needs_profile (Some (command.Remove tag)) = false
needs_profile (Some (command.Within radius firstDay)) = true
needs_profile (Some (command.Nearest k firstDay)) = true
needs_profile None = false

unprofiled : (b t : Bool) (c : Option Command) (n : ℕ) → needs_profile (elim b [ true ↦ c | false ↦ elim t [ true ↦ Some (command.Remove n) | false ↦ None ] ]) ≡ true → b ≡ true
unprofiled true t c n h = refl
unprofiled false true c n h = absurd (false≢true h)
unprofiled false false c n h = absurd (false≢true h)

pub profile_beside : (line : List ℕ) → needs_profile (command_in line) ≡ true → has_profile line ≡ true
unfolding command_in
profile_beside line h =
    let number = numeral 10 (field line 1) in
    unprofiled (has_profile line) (eqb (parts_in space line) 2 && opens letter_r is_tag line)
    (elim (opens letter_a is_tag line) [
      | true ↦ Some (command.Add number (day_or 1 line))
      | false ↦
          elim (opens letter_w is_number line) [
            | true ↦ Some (command.Within number (day_or 0 line))
            | false ↦ elim (opens letter_n is_number line) [ true ↦ Some (command.Nearest number (day_or 0 line)) | false ↦ None ]
          ]
    ])
    number
    h

module _ (t : Table) (w : List Row) (q : List Entry) (number : ℕ) (line : List ℕ) (out after : List ℕ) (n : ℕ) where
  abbrev pub Answers : Table → List Row → List Entry → Type 0
  Answers t' w' q' =
      (lent t' w' q' ≡ areas_after (lent t w q) (command_in line) (profile_in line))
      × Puts out after n (text_after (lent t w q) number (command_in line) (profile_in line))

  answered_by : (c : Option Command) (p : Profile) (t' : Table) (w' : List Row) (q' : List Entry) → c ≡ command_in line → p ≡ profile_in line
      → lent t' w' q' ≡ areas_after (lent t w q) c p → Puts out after n (text_after (lent t w q) number c p) → Answers t' w' q'
  answered_by c p t' w' q' e f h k =
      (h ∙ ap₂ (areas_after (lent t w q)) e f, subst (Puts out after n) (ap₂ (text_after (lent t w q) number) e f) k)

  pub add_answered : (tag : ℕ) (p : Profile) (day : ℕ) (t' : Table) (w' : List Row) → Some (command.Add tag day) ≡ command_in line → p ≡ profile_in line
      → t' ≡ table_after_add t w tag p day → w' ≡ work_after_add t w tag p day → Puts out after n (add_text (add_reply t w tag p day)) → Answers t' w' q
  unfolding areas_after text_after lent
  add_answered tag p day t' w' e f h i k = answered_by (Some (command.Add tag day)) p t' w' q e f (ap₂ (λ (x : Table) (y : List Row). lent x y q) h i) k

  pub remove_answered : (tag : ℕ) (t' : Table) (w' : List Row) → Some (command.Remove tag) ≡ command_in line
      → t' ≡ table_after_remove t w tag → w' ≡ work_after_remove t w tag → Puts out after n (remove_text (remove_reply t w tag)) → Answers t' w' q
  unfolding areas_after text_after lent
  remove_answered tag t' w' e h i k = answered_by (Some (command.Remove tag)) (profile_in line) t' w' q e refl (ap₂ (λ (x : Table) (y : List Row). lent x y q) h i) k

  pub within_answered : (radius : ℕ) (p : Profile) (firstDay : ℕ) (q' : List Entry) → Some (command.Within radius firstDay) ≡ command_in line → p ≡ profile_in line
      → q' ≡ result_after_range t q p radius firstDay → Puts out after n (search_text letter_w (range_reply t q p radius firstDay) (result_after_range t q p radius firstDay)) → Answers t w q'
  unfolding areas_after text_after lent
  within_answered radius p firstDay q' e f h k = answered_by (Some (command.Within radius firstDay)) p t w q' e f (ap (lent t w) h) k

  pub nearest_answered : (k : ℕ) (p : Profile) (firstDay : ℕ) (q' : List Entry) → Some (command.Nearest k firstDay) ≡ command_in line → p ≡ profile_in line
      → q' ≡ result_after_nearest t q p k firstDay → Puts out after n (search_text letter_n (nearest_reply t q p k firstDay) (result_after_nearest t q p k firstDay)) → Answers t w q'
  unfolding areas_after text_after lent
  nearest_answered k p firstDay q' e f h put = answered_by (Some (command.Nearest k firstDay)) p t w q' e f (ap (lent t w) h) put

  pub other_answered : None ≡ command_in line → Puts out after n (reply_line question_mark (number ∷ [])) → Answers t w q
  unfolding areas_after text_after other_text
  other_answered e k = answered_by None (profile_in line) t w q e refl refl k
