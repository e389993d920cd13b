-- The rows that a fresh or a loaded table is written with are whole rows: the zero row, a bucket's sizes, and the header of a valid order and space;
-- their numbers are words.
use Prim.Native.Nat.{ℕ, ◌+◌, ◌^◌, ◌<◌}
use mathlib.Core.Path.{◌≡◌, refl}
use mathlib.Core.Bool.{true}
use native.Mathlib.Omega.{arith}
use lib.Dec.{lit<}
use lib.ListN.{set}
use Rattle.lists.proofs.Tests.{and_first, and_second}
use Rattle.metric_rules.specs.Row.{Row, IsRow, zero_row, row_width, word}
use Rattle.metric_rules.specs.declared.Weights.{Weights}
use Rattle.metric_rules.specs.declared.Space.{Space}
use Rattle.metric_rules.specs.Distance.{weight, metric_at, weights_at, valid_metric, valid_weights, valid_space}
use Rattle.metric_rules.proofs.Elements.{each_at}
use Rattle.metric_rules.proofs.Codec.{set_fits}
use Rattle.metric_rules.proofs.Laws.{metric_byte_lem, weight_byte}
use Rattle.table_rules.specs.Geometry.{valid_order}
use Rattle.table_rules.specs.Table.{pair_row, with_weights, header_of}
use Rattle.table_rules.proofs.Buckets.{order_most}

pub zero_row_fits : IsRow zero_row
unfolding zero_row row_width word
zero_row_fits = record { width = refl; fits = each_at (λ n. n < 2 ^ 32) 0 (lit< tt) zero_row (omega arith) }

pub pair_row_fits : (a b : ℕ) → a < 2 ^ 32 → b < 2 ^ 32 → IsRow (pair_row a b)
unfolding pair_row
pair_row_fits a b h l = set_fits (set zero_row 0 a) b (set_fits zero_row a zero_row_fits h 0) l 1

weights_fit : (weights : Weights) (row : Row) → IsRow row → valid_weights weights ≡ true → IsRow (with_weights weights row)
unfolding with_weights
weights_fit weights row is e =
    let word_fits : (i : ℕ) → weight weights i < 2 ^ 32 = λ i. omega (arith, weight_byte weights e i) in
    let one = set_fits row (weight weights 0) is (word_fits 0) weights_at in
    let two = set_fits _ (weight weights 1) one (word_fits 1) (weights_at + 1) in
    let three = set_fits _ (weight weights 2) two (word_fits 2) (weights_at + 2) in
    set_fits _ (weight weights 3) three (word_fits 3) (weights_at + 3)

pub header_fits : (order : ℕ) (space : Space) → valid_order order ≡ true → valid_space space ≡ true → IsRow (header_of order space)
unfolding header_of
header_fits order space h l =
    weights_fit space.weights (set (set zero_row 0 order) metric_at space.metric)
    (set_fits (set zero_row 0 order) space.metric (set_fits zero_row order zero_row_fits (omega (arith, order_most order h)) 0)
    (omega (arith, metric_byte_lem space (and_first _ _ l))) metric_at)
    (and_second (valid_metric space) _ l)
