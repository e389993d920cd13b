-- `image_put::put_record` meets its contract: the record's fields are ten words and, in two bytes behind them, the day.
use Prim.Native.Nat.{ℕ, ◌+◌}
use mathlib.Core.Path.{◌≡◌, sym, ap, ap₂, ◌∙◌}
use mathlib.Core.List.{List, map, flatten}
use native.Mathlib.Omega.{arith}
use lib.ListN.{length, take, drop, length-take, length-drop}
use lib.Seq.{sets}
use Rattle.lists.specs.Lists.{total}
use Rattle.lists.proofs.Lists.{all_always}
use Rattle.metric_rules.specs.Row.{Row, IsRow, row_width, day_of}
use Rattle.metric_rules.proofs.Values.{is_row}
use Rattle.tree_rules.proofs.Stores.{sets_more}
use Rattle.image_rules.specs.Bytes.{written_form, bytes_of, record_fields, day_fields, record_bytes}
use Rattle.image_rules.proofs.Bytes.{length_bytes_lem}
use Rattle.image_rules.proofs.Blocks.{length_blocks}
use Rattle.image_put.proofs.Stores.{record_words}
use Rattle.image_put.proofs.put_record.Goals as goal

-- the row's ten words have forty bytes
words : Row → List ℕ
words row = flatten (map (bytes_of 4) (take 10 (drop 2 row)))

length_words : (row : Row) → IsRow row → length (words row) ≡ 40
unfolding words row_width
length_words row p =
    let ns = take 10 (drop 2 row) in
    length_blocks (bytes_of 4) 4 ns (all_always {P = λ n. length (bytes_of 4 n) ≡ 4} (length_bytes_lem 4) ns)
    ∙ omega (arith, length-take 10 (drop 2 row), length-drop 2 row, p.width)

pub put_words-requires : goal.put_words-requires
unfolding row_width written_form record_bytes record_fields day_fields total
put_words-requires c =
    omega (arith, c.requires, length-take 10 (drop 2 c.args.row))

pub put-requires : goal.put-requires
unfolding written_form record_bytes record_fields day_fields total
put-requires c = (omega arith, omega (arith, c.put_words.auto.image, c.requires))

pub returns : goal.returns
unfolding words
returns c =
    let a = c.args in
    let put = c.put_words.ensures in
    let row_fits : IsRow a.row = is_row a.row _ c.well_formed.1.1.0 in
    let day = c.day_of.ensures in
    c.put.ensures
    ∙ ap₂ (λ (l : List ℕ) (n : ℕ). sets l (a.at + 40) (bytes_of 2 n)) put day
    ∙ sets_more a.image.now a.at (a.at + 40) (words a.row) (bytes_of 2 (day_of a.row)) (omega (arith, length_words a.row row_fits))
    ∙ ap (sets a.image.now a.at) (sym (record_words a.row row_fits))
