-- A list with the header and without it: 30 first of all, or the lines behind the header.
use Prim.Native.Nat.{ℕ}
use mathlib.Core.Path.{◌≡◌, refl, ap, sym, ◌∙◌}
use mathlib.Core.Bool.{Bool, true, false, ◌&&◌}
use mathlib.Core.List.{List, [], ◌∷◌}
use lib.Dec.{eqb}
use Rattle.std.specs.Cmp.Lexicographic.{pointwise}
use Rattle.lists.specs.Lists.{alike, same_numbers}
use Rattle.metric_rules.specs.Row.{Row}
use Rattle.table_rules.specs.Table.{Table}
use Rattle.list_rules.specs.declared.ListRead.{ListRead}
use Rattle.list_rules.specs.Lines.{has_header, item_lines}
use Rattle.list_rules.specs.ReadList.{bad_list_header, stopped, reading, list_reading, read_list_reply, table_after_read_list, work_after_read_list}

-- the library's comparison is the definition's
pub as_numbers : (xs ys : List ℕ) → same_numbers xs ys ≡ pointwise eqb xs ys
unfolding same_numbers alike
as_numbers [] [] = refl
as_numbers [] (y ∷ ys) = refl
as_numbers (x ∷ xs) [] = refl
as_numbers (x ∷ xs) (y ∷ ys) = ap (λ t. eqb x y && t) (as_numbers xs ys)

-- the reply and both areas
abbrev pub Read : Table → List Row → List ℕ → ℕ → ListRead → Table → List Row → Type 0
Read t₀ work₀ list day reply t work =
    (reply ≡ read_list_reply t₀ work₀ list day) × ((t ≡ table_after_read_list t₀ work₀ list day) × (work ≡ work_after_read_list t₀ work₀ list day))

module _ (t₀ : Table) (work₀ : List Row) (list : List ℕ) (day : ℕ) where
  by_header : {b : Bool} → has_header list ≡ b
      → list_reading t₀ work₀ list day ≡ elim b [ false ↦ stopped bad_list_header 1 t₀ work₀ | true ↦ reading day t₀ work₀ 2 (item_lines list) ]
  unfolding list_reading
  by_header e = ap (λ b. elim b [ false ↦ stopped bad_list_header 1 t₀ work₀ | true ↦ reading day t₀ work₀ 2 (item_lines list) ]) e

  pub without_header : has_header list ≡ false → Read t₀ work₀ list day (record { refusal = 30; line = 1; added = 0; distances = 0 }) t₀ work₀
  unfolding read_list_reply table_after_read_list work_after_read_list stopped
  without_header e =
      let all = sym (by_header e) in
      (ap (λ r. r.reply) all, (ap (λ r. r.table) all, ap (λ r. r.work) all))

  pub with_header : has_header list ≡ true → {reply : ListRead} {t : Table} {work : List Row}
      → reply ≡ (reading day t₀ work₀ 2 (item_lines list)).reply → t ≡ (reading day t₀ work₀ 2 (item_lines list)).table
      → work ≡ (reading day t₀ work₀ 2 (item_lines list)).work → Read t₀ work₀ list day reply t work
  unfolding read_list_reply table_after_read_list work_after_read_list
  with_header e f g h =
      let all = sym (by_header e) in
      (f ∙ ap (λ r. r.reply) all, (g ∙ ap (λ r. r.table) all, h ∙ ap (λ r. r.work) all))
