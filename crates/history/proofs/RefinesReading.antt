-- A herd list read into a table and by the model at once: both stop at the same line for the same reason, or both take the same item in and go on (`Reads`).
-- By the lines: each is an add, refused alike, and what an accepted add leaves matches the model again.
use Prim.Native.Nat.{ℕ, zero, suc, ◌^◌, ◌≤◌, ◌<◌}
use mathlib.Core.Path.{◌≡◌, refl, sym, ◌∙◌, ap, subst}
use mathlib.Core.Bool.{Bool, true, false}
use mathlib.Core.Logic.{inl}
use mathlib.Core.List.{List, [], ◌∷◌}
use lib.Dec.{leb}
use lib.ListN.{length, replicate, drop, length-append, length-replicate}
use native.Mathlib.Omega.{arith}
use borrow.Author.Tests.{le-leb}
use Rattle.lists.specs.Lists.{All}
use Rattle.lists.proofs.Tests.{and_pass}
use Rattle.metric_rules.specs.declared.Profile.{Profile}
use Rattle.metric_rules.specs.Row.{Row, zero_row}
use Rattle.table_rules.specs.Refusals.{short_area, unless}
use Rattle.table_rules.specs.Geometry.{room, work_rows}
use Rattle.table_rules.specs.Table.{Table, order_of, cleared}
use Rattle.table_rules.specs.Add.{add_refusal, add_reply, added, table_after_add, work_after_add}
use Rattle.list_rules.specs.Lines.{ListLine, has_header, item_lines}
use Rattle.list_rules.specs.Lines.ListLine.{an_item, malformed}
use Rattle.list_rules.specs.ReadList.{Reading, bad_list_header, bad_list_line, stopped, one_more, reading, list_reading}
use Rattle.list_rules.proofs.Fitting.{LineFits, lines_fit}
use Rattle.history.specs.Model.{Model, ListAnswered, with, can_read, can_change, item_refusal, add_refusal_of, stops_at, one_more_added, lines_answered}
use Rattle.history.specs.Model.{list_answered}
use Rattle.history.proofs.RefinesItems.{Matches}
use Rattle.history.proofs.RefinesRefusals.{Lendable, can_read_lem, changeable, add-refusal, long_accepts}
use Rattle.history.proofs.Changing.{matches_added}

-- the reading of a table and the model's answer go the same way: both stop, or both take an item in and go on
pub data Reads : Table → List Row → Model → Reading → ListAnswered → Type 0 where
  stops : {t : Table} {work : List Row} {m : Model} (refusal line : ℕ) → Reads t work m (stopped refusal line t work) (stops_at m refusal line)
  takes_in :
      {t : Table} {work : List Row} {m : Model} {r : Reading} {a : ListAnswered} (tag : ℕ) (p : Profile)
      (day : ℕ) → Matches t m → add_refusal t work tag p day ≡ 0
      → Matches (table_after_add t work tag p day) (with (record { tag = tag; profile = p; day = day }) m)
      → Reads (table_after_add t work tag p day) (work_after_add t work tag p day) (with (record { tag = tag; profile = p; day = day }) m) r a
      → Reads t work m (one_more (add_reply t work tag p day).distances r) (one_more_added a)

-- an accepted add leaves room for the next line's
cleared_room : (n : ℕ) (work : List Row) → n ≤ length (cleared zero_row n work)
unfolding cleared
cleared_room n work = omega (arith, length-append (replicate n zero_row) (drop n work), length-replicate n zero_row)

module _ (t : Table) (work : List Row) (tag : ℕ) (p : Profile) (day : ℕ) (e : add_refusal t work tag p day ≡ 0) where
  pub accepted_table : table_after_add t work tag p day ≡ (added t tag p day).table
  unfolding table_after_add
  accepted_table = ap (λ (k : ℕ). elim k as (λ _. Table) [ zero ↦ (added t tag p day).table | suc j ↦ t ]) e

  accepted_work : work_after_add t work tag p day ≡ cleared zero_row (work_rows (order_of t)) work
  unfolding work_after_add
  accepted_work = ap (λ (k : ℕ). elim k as (λ _. List Row) [ zero ↦ cleared zero_row (work_rows (order_of t)) work | suc j ↦ work ]) e

pub can_go_on : {t : Table} {m : Model} → Matches t m → (work : List Row) → work_rows (order_of t) ≤ length work → can_change m (length t) (length work) ≡ true
unfolding can_change work_rows room
can_go_on {t} {m} ok work roomy =
    and_pass (can_read m (length t)) (leb (work_rows m.order) (length work)) (can_read_lem m t ok)
    (le-leb (work_rows m.order) (length work) (subst (λ (o : ℕ). work_rows o ≤ length work) ok.order roomy))

-- the lines from one on, in areas that the model's lengths tell as long enough or not
reads_lines :
    (day : ℕ) → day < 2 ^ 16 → (lines : List ListLine) → All LineFits lines → (t : Table) (work : List Row) (m : Model) (rows room i : ℕ) → Lendable t m
    → can_change m (length t) (length work) ≡ can_change m rows room → Reads t work m (reading day t work i lines) (lines_answered day m rows room i lines)
unfolding reading lines_answered add_refusal_of with can_change can_read
reads_lines day dayFits [] fit t work m rows room i lendable same = stops 0 0
reads_lines day dayFits (malformed ∷ lines) fit t work m rows room i lendable same = stops bad_list_line i
reads_lines day dayFits (an_item tag p ∷ lines) fit t work m rows room i lendable same =
    subst (λ (k : ℕ). Reads t work m (read k) (answered (add_refusal_of m rows room tag p day))) (sym alike)
    (go (reads_lines day dayFits lines fit.1 u v after rows room (suc i)) (add_refusal_of m rows room tag p day) refl)
  where
    -- what the line's add leaves
    u : Table
    u = table_after_add t work tag p day

    v : List Row
    v = work_after_add t work tag p day

    after : Model
    after = with (record { tag = tag; profile = p; day = day }) m

    read : ℕ → Reading
    read k = elim k [ suc r ↦ stopped (suc r) i t work | zero ↦ one_more (add_reply t work tag p day).distances (reading day u v (suc i) lines) ]

    answered : ℕ → ListAnswered
    answered k = elim k [ suc r ↦ stops_at m (suc r) i | zero ↦ one_more_added (lines_answered day after rows room (suc i) lines) ]

    alike : add_refusal t work tag p day ≡ add_refusal_of m rows room tag p day
    alike = add-refusal m t work lendable tag p day ∙ ap (λ (can : Bool). unless can short_area (item_refusal m tag p day)) same

    go :
        (Lendable u after → can_change after (length u) (length v) ≡ can_change after rows room → Reads u v after (reading day u v (suc i) lines)
        (lines_answered day after rows room (suc i) lines))
        → (k : ℕ) → add_refusal_of m rows room tag p day ≡ k → Reads t work m (read k) (answered k)
    go others (suc r) e = stops (suc r) i
    go others zero e =
        let asked = long_accepts (can_change m rows room) (item_refusal m tag p day) e in
        let here : Matches t m = changeable m t work lendable (same ∙ asked.0) in
        let accepted : add_refusal t work tag p day ≡ 0 = alike ∙ e in
        let next : Matches u after =
        subst (λ (x : Table). Matches x after) (sym (accepted_table t work tag p day accepted))
        (matches_added here tag p day fit.0.0 fit.0.1 dayFits asked.1) in
        let roomy : work_rows (order_of u) ≤ length v =
        rw (accepted_work t work tag p day accepted, next.order, sym here.order) (cleared_room (work_rows (order_of t)) work) in
        takes_in tag p day here accepted next (others (inl next) (can_go_on next v roomy ∙ sym asked.0))

-- the whole list
pub reads : (m : Model) (t : Table) (work : List Row) → Lendable t m → (list : List ℕ) (day : ℕ) → day < 2 ^ 16
    → Reads t work m (list_reading t work list day) (list_answered m (length t) (length work) list day)
unfolding list_reading list_answered can_change can_read
reads m t work lendable list day dayFits = go (has_header list)
  where
    go : (b : Bool)
        → Reads t work m
        (elim b as (λ _. Reading) [ false ↦ stopped bad_list_header 1 t work | true ↦ reading day t work 2 (item_lines list) ])
        (elim b as (λ _. ListAnswered) [ false ↦ stops_at m bad_list_header 1 | true ↦ lines_answered day m (length t) (length work) 2 (item_lines list) ])
    go false = stops bad_list_header 1
    go true = reads_lines day dayFits (item_lines list) (lines_fit list) t work m (length t) (length work) 2 lendable refl

-- both show the same
pub record Alike (r : Reading) (a : ListAnswered) : Type 0 where
  pub refusal : r.reply.refusal ≡ a.refusal
  pub line : r.reply.line ≡ a.line
  pub added : r.reply.added ≡ a.added

pub reads_alike : {t : Table} {work : List Row} {m : Model} {r : Reading} {a : ListAnswered} → Reads t work m r a → Alike r a
unfolding stopped stops_at one_more one_more_added
reads_alike (stops refusal line) = record { refusal = refl; line = refl; added = refl }
reads_alike (takes_in tag p day here accepted next rest) =
    let same = reads_alike rest in
    record { refusal = same.refusal; line = same.line; added = ap suc same.added }

-- what a reading leaves matches the model again
pub reads_matches : {t : Table} {work : List Row} {m : Model} {r : Reading} {a : ListAnswered} → Reads t work m r a → Matches t m
    → Matches r.table a.model
unfolding stopped stops_at one_more one_more_added
reads_matches (stops refusal line) ok = ok
reads_matches (takes_in tag p day here accepted next rest) ok = reads_matches rest next
