-- The adds and removals of some lines as a list of calls, each lent the table that the line before it left. No call
-- makes a table shorter, so what it leaves is all that the list keeps: after every line list and conversation have the
-- same table, and the same model.
use Rattle.std.proofs.Common.{Option, Some, None}
use Prim.Native.Nat.{ℕ, suc, ◌^◌, ◌≤◌, ◌<◌}
use native.Mathlib.Omega.{arith}
use mathlib.Core.Path.{◌≡◌, refl, sym, ◌∙◌, ap, subst}
use mathlib.Core.Bool.{Bool, true, false, ◌&&◌}
use mathlib.Core.List.{List, [], ◌∷◌, ◌++◌, append-nil}
use lib.Dec.{leb, eqb}
use lib.ListN.{length, take, length-take, drop_of_length-le}
use lib.Seq.{take-take, take-length, take_all}
use borrow.Author.Tests.{le-leb, leb-true}
use Rattle.lists.specs.Lists.{All}
use Rattle.lists.proofs.Lists.{all_append}
use Rattle.lists.proofs.Tests.{and_pass, and_second}
use Rattle.metric_rules.specs.declared.Profile.{Profile}
use Rattle.metric_rules.specs.Distance.{weight, valid_metric, last_metric, weights_one}
use Rattle.metric_rules.proofs.Elements.{each_at}
use Rattle.table_rules.specs.Refusals.{bad_order, bad_metric, short_area, unless}
use Rattle.table_rules.specs.Geometry.{room, first_slot, table_rows, work_rows}
use Rattle.table_rules.specs.Table.{Table, order_of}
use Rattle.table_rules.specs.Fresh.{fresh_refusal, table_after_fresh}
use Rattle.table_rules.specs.Add.{table_after_add}
use Rattle.table_rules.specs.Remove.{table_after_remove}
use Rattle.table_rules.proofs.Chains.{unless_zero}
use Rattle.text_rules.specs.Text.{space, parts_in, numeral}
use Rattle.text_rules.specs.Fields.{is_tag}
use Rattle.text_rules.proofs.Digits.{numeral_below}
use Rattle.call_rules.specs.Calls.Begin.{fresh}
use Rattle.history.specs.Trace.{Step, State, Shown, own_rows, overlaid, left_by, begin_shown, shown, state_after, shown_at, state_after_all}
use Rattle.history.specs.Model.{Model, with, without, can_read, can_change, tag_refusal, item_refusal, add_refusal_of, remove_refusal_of, after_unless, model_begun}
use Rattle.history.specs.Model.{begin_answer, change_answer, answer, answer_at, model_after_all}
use Rattle.history.specs.History.{IsBegin, IsCall, before, blank_model, opening, History, steps, final_state, final_model}
use Rattle.history.proofs.LongAreas.{begun_alike}
use Rattle.history.proofs.Theorems.{any_area}
use Rattle.yard_rules.specs.declared.Header.{Header}
use Rattle.yard_rules.specs.declared.Command.{Command}
use Rattle.yard_rules.specs.declared.Command.TheVariants as command
use Rattle.yard_rules.specs.Line.{only_byte, field, has_profile, letter_a, letter_n, letter_r, letter_w, is_number, opens, day_or, header_in, command_in, profile_in}
use Rattle.yard_rules.specs.Conversation.{Areas, Yard, Ample, most_yard_order, yard_space, header_refusal, header_outcome, areas_after, command_outcome, line_outcome}
use Rattle.yard_rules.specs.Conversation.{after, after_lines, waiting}
use Rattle.yard_rules.proofs.Fitting.{CommandFits, command_fits}
use Rattle.yard_claims.specs.Claims.{line_refusal, model_after, first_refusal, change_at, changes_of, model_after_lines, KeptByCalls, EveryTableKept}
use Rattle.yard_claims.proofs.Serving.{ServedBy, serving, stays_served, first_outcome, after_first_lem, first_refused_lem, first_served}
use Rattle.yard_claims.proofs.NoShorter.{add_longer, remove_longer, fresh_longer}

-- lent the table itself, a call is lent that table whole, and what it leaves is all that is kept
lent_whole : (t : Table) → overlaid t t ≡ t
unfolding own_rows
lent_whole t =
    let n = table_rows (order_of t) in
    let own = take n t in
    any_area t t
    (sym (take-take (length own) n t (omega (arith, length-take n t))) ∙ take-length own
    ∙ sym (take_all (length t) own (omega (arith, length-take n t))))

left_whole : (change : Table → Table) → ((t : Table) → length t ≤ length (change t)) → (t : Table) → left_by t (change (overlaid t t)) ≡ change t
unfolding left_by
left_whole change longer t =
    ap (λ (u : Table). left_by t (change u)) (lent_whole t)
    ∙ ap (λ (past : Table). change t ++ past) (drop_of_length-le t {i = length (change t)} (longer t))
    ∙ append-nil (change t)

-- the line's own add or removal: the table after it, and the model's answer to it
change_table : (state : State) (a : Areas) → state.table ≡ a.table → (c : Option Command) (p : Profile) → (state_after_all state (change_at a c p)).table ≡ (areas_after a c p).table
unfolding state_after_all state_after change_at areas_after
change_table state a e (Some (command.Add tag day)) p =
    ap (λ (t : Table). left_by t (table_after_add (overlaid t a.table) a.work tag p day)) e
    ∙ left_whole (λ t. table_after_add t a.work tag p day) (add_longer a.work tag p day) a.table
change_table state a e (Some (command.Remove tag)) p =
    ap (λ (t : Table). left_by t (table_after_remove (overlaid t a.table) a.work tag)) e
    ∙ left_whole (λ t. table_after_remove t a.work tag) (remove_longer a.work tag) a.table
change_table state a e (Some (command.Within radius firstDay)) p = e
change_table state a e (Some (command.Nearest k firstDay)) p = e
change_table state a e None p = e

module _ {a : Areas} {m : Model} (s : ServedBy a m) where
  long_enough : can_change m (length a.table) (length a.work) ≡ true
  unfolding can_change can_read table_rows first_slot work_rows room
  long_enough =
      and_pass (leb (table_rows m.order) (length a.table)) (leb (work_rows m.order) (length a.work))
      (le-leb (table_rows m.order) (length a.table) (omega (arith, ap table_rows s.matches.order, s.matches.invariant.long)))
      (le-leb (work_rows m.order) (length a.work) s.work_long)

  change_model : (c : Option Command) (p : Profile) → model_after_all m (change_at a c p) ≡ model_after m c p
  unfolding model_after_all answer_at answer change_answer add_refusal_of remove_refusal_of change_at model_after line_refusal
  change_model (Some (command.Add tag day)) p =
      ap (λ (b : Bool). after_unless (unless b short_area (item_refusal m tag p day)) m (with (record { tag = tag; profile = p; day = day }) m)) long_enough
  change_model (Some (command.Remove tag)) p = ap (λ (b : Bool). after_unless (unless b short_area (tag_refusal m tag)) m (without tag m)) long_enough
  change_model (Some (command.Within radius firstDay)) p = refl
  change_model (Some (command.Nearest k firstDay)) p = refl
  change_model None p = refl

-- its arguments are values of their machine types
abbrev RemovalFits : Option Command → Type 0
RemovalFits (Some (command.Add tag day)) = Unit {0}
RemovalFits (Some (command.Remove tag)) = tag < 2 ^ 64
RemovalFits (Some (command.Within radius firstDay)) = Unit {0}
RemovalFits (Some (command.Nearest k firstDay)) = Unit {0}
RemovalFits None = Unit {0}

removal_fits : (line : List ℕ) → RemovalFits (command_in line)
unfolding command_in opens
removal_fits line =
    go (has_profile line) (opens letter_a is_tag line) (opens letter_w is_number line) (opens letter_n is_number line)
    (eqb (parts_in space line) 2 && opens letter_r is_tag line) refl
  where
    number : ℕ
    number = numeral 10 (field line 1)

    go : (profile a w n r : Bool) → (eqb (parts_in space line) 2 && opens letter_r is_tag line) ≡ r
        → RemovalFits
        (elim profile as (λ _. Option Command) [
          | true ↦
              elim a [
                | true ↦ Some (command.Add number (day_or 1 line))
                | false ↦
                    elim w [
                      | true ↦ Some (command.Within number (day_or 0 line))
                      | false ↦ elim n [ true ↦ Some (command.Nearest number (day_or 0 line)) | false ↦ None ]
                    ]
              ]
          | false ↦ elim r [ true ↦ Some (command.Remove number) | false ↦ None ]
        ])
    go true true w n r e = tt
    go true false true n r e = tt
    go true false false true r e = tt
    go true false false false r e = tt
    go false a w n true e =
        let tagged : is_tag (field line 1) ≡ true =
        and_second (eqb (only_byte (field line 0)) letter_r) (is_tag (field line 1)) (and_second (eqb (parts_in space line) 2) (opens letter_r is_tag line) e) in
        omega (arith, numeral_below 15 15 (field line 1) tagged)
    go false a w n false e = tt

change_fits : (a : Areas) (c : Option Command) (p : Profile) → CommandFits c p → RemovalFits c → All (λ s. IsCall s.call) (change_at a c p)
unfolding change_at
change_fits a (Some (command.Add tag day)) p is fits = (is, tt)
change_fits a (Some (command.Remove tag)) p is fits = (fits, tt)
change_fits a (Some (command.Within radius firstDay)) p is fits = tt
change_fits a (Some (command.Nearest k firstDay)) p is fits = tt
change_fits a None p is fits = tt

-- a list behind another goes on from what that left
state_append : (xs ys : List Step) (state : State) → state_after_all state (xs ++ ys) ≡ state_after_all (state_after_all state xs) ys
unfolding state_after_all
state_append [] ys state = refl
state_append (x ∷ xs) ys state = state_append xs ys (state_after state x)

model_append : (xs ys : List Step) (m : Model) → model_after_all m (xs ++ ys) ≡ model_after_all (model_after_all m xs) ys
unfolding model_after_all
model_append [] ys m = refl
model_append (x ∷ xs) ys m = model_append xs ys (answer_at m x).model

-- some lines
lines_table : (lines : List (List ℕ)) (a : Areas) (n : ℕ) (state : State) → state.table ≡ a.table
    → (state_after_all state (changes_of (serving a n) lines)).table ≡ (after_lines (serving a n) lines).areas.table
unfolding state_after_all changes_of after_lines after line_outcome command_outcome
lines_table [] a n state e = e
lines_table (line ∷ lines) a n state e =
    let c : Option Command = command_in line in
    let p : Profile = profile_in line in
    ap (λ (st : State). st.table) (state_append (change_at a c p) (changes_of (serving (areas_after a c p) (suc n)) lines) state)
    ∙ lines_table lines (areas_after a c p) (suc n) (state_after_all state (change_at a c p)) (change_table state a e c p)

lines_model : (lines : List (List ℕ)) (a : Areas) (n : ℕ) (m : Model) → ServedBy a m → model_after_all m (changes_of (serving a n) lines) ≡ model_after_lines m lines
unfolding model_after_all changes_of model_after_lines after line_outcome command_outcome
lines_model [] a n m s = refl
lines_model (line ∷ lines) a n m s =
    let c : Option Command = command_in line in
    let p : Profile = profile_in line in
    let rest : List Step = changes_of (serving (areas_after a c p) (suc n)) lines in
    model_append (change_at a c p) rest m
    ∙ ap (λ (k : Model). model_after_all k rest) (change_model s c p)
    ∙ lines_model lines (areas_after a c p) (suc n) (model_after m c p) (stays_served s c p (command_fits line))

lines_fit : (lines : List (List ℕ)) (y : Yard) → All (λ s. IsCall s.call) (changes_of y lines)
unfolding changes_of
lines_fit [] y = tt
lines_fit (line ∷ lines) y =
    let c : Option Command = command_in line in
    let p : Profile = profile_in line in
    all_append (λ s. IsCall s.call) (change_at y.areas c p) (changes_of (after y line) lines)
    (change_fits y.areas c p (command_fits line) (removal_fits line)) (lines_fit lines (after y line))

-- an accepted first line and some more
module _ {a : Areas} (ample : Ample a) (first : List ℕ) (order metric : ℕ) (h : header_in first ≡ Some (record { order = order; metric = metric })) (e : first_refusal order metric ≡ 0) where
  abbrev opened : Step
  opened = opening (fresh order (yard_space metric)) a.table

  abbrev begun : Areas
  begun = record { table = table_after_fresh order (yard_space metric) a.table; work = a.work; result = a.result }

  accepted : header_refusal a.table order metric ≡ 0
  accepted = first_refused_lem ample order metric ∙ e

  fresh_accepted : fresh_refusal (length a.table) order (yard_space metric) ≡ 0
  unfolding header_refusal
  fresh_accepted = (unless_zero (leb order most_yard_order) bad_order _ (omega arith) accepted).1

  begun_after : after (waiting a) first ≡ serving begun 1
  unfolding after line_outcome header_outcome
  begun_after =
      ap (λ (k : Option Header). after_first_lem (header_outcome a 1 k)) h ∙ ap (λ (n : ℕ). after_first_lem (first_outcome a order metric n)) accepted

  first_accepted : (shown_at (before a.table) opened).refusal ≡ 0
  unfolding shown_at opening before shown begin_shown
  first_accepted = ap (λ (t : Table). fresh_refusal (length t) order (yard_space metric)) (lent_whole a.table) ∙ fresh_accepted

  first_fits : IsBegin (fresh order (yard_space metric))
  unfolding first_refusal most_yard_order valid_metric last_metric weights_one weight
  first_fits =
      let few = unless_zero (leb order most_yard_order) bad_order _ (omega arith) e in
      let known = unless_zero (valid_metric (yard_space metric)) bad_metric _ (omega arith) few.1 in (
        omega (arith, leb-true order most_yard_order few.0),
        record {
          metric = omega (arith, leb-true metric last_metric known.0);
          weights = record { four = refl; fits = each_at (λ (n : ℕ). n < 2 ^ 32) 0 (omega arith) weights_one.each (omega arith, (omega arith, (omega arith, (omega arith, tt)))) };
        },
      )

  first_table : (state_after (before a.table) opened).table ≡ begun.table
  unfolding state_after opening before
  first_table = left_whole (table_after_fresh order (yard_space metric)) (fresh_longer order (yard_space metric)) a.table

  first_model : (answer_at blank_model opened).model ≡ model_begun (fresh order (yard_space metric))
  unfolding answer_at answer begin_answer opening begin_shown after_unless
  first_model =
      let b = fresh order (yard_space metric) in
      ap (λ (n : ℕ). after_unless n blank_model (model_begun b)) (ap (λ (s : Shown). s.refusal) (sym (begun_alike b (length a.table))) ∙ fresh_accepted)

  listed : List (List ℕ) → History
  listed lines =
      record {
        initial = a.table;
        first = fresh order (yard_space metric);
        area = a.table;
        rest = changes_of (serving begun 1) lines;
        accepted = first_accepted;
        arguments = (first_fits, lines_fit lines (serving begun 1));
      }

  kept_serving : (lines : List (List ℕ)) → KeptByCalls a.table order metric (serving begun 1) lines
  unfolding steps final_state final_model state_after_all model_after_all listed
  kept_serving lines =
      record {
        history = listed lines;
        calls = refl;
        table = lines_table lines begun 1 (state_after (before a.table) opened) first_table;
        model =
            ap (λ (m : Model). model_after_all m (changes_of (serving begun 1) lines)) first_model
            ∙ lines_model lines begun 1 (model_begun (fresh order (yard_space metric))) (first_served ample order metric accepted);
      }

pub every_table_kept : EveryTableKept
every_table_kept a ample first order metric h e lines =
    subst (λ (y : Yard). KeptByCalls a.table order metric y lines) (sym (begun_after ample first order metric h e)) (kept_serving ample first order metric h e lines)
