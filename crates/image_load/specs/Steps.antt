-- Load's checks before the trees, in steps: those of the start, those of the weights, those of the sizes and lengths,
-- and those of the slots' fields, each with 0 where all pass; and what the code answers to the first and the third
-- (RULES 12.4).
use Rattle.std.specs.Prelude.{ℕ, Bool, List, length, leb, ltb, eqb}
use Rattle.metric_rules.specs.Distance.{valid_metric, valid_weights}
use Rattle.table_rules.specs.Refusals.{bad_order, bad_metric, bad_day, bad_length, bad_image, short_area, bad_table, unless}
use Rattle.table_rules.specs.Refusals.{when}
use Rattle.table_rules.specs.Geometry.{valid_order, table_rows}
use Rattle.table_rules.specs.Checks.{sizes_pass}
use Rattle.image_rules.specs.Bytes.{valid_form, start_bytes, header_bytes, sizes_end, image_length}
use Rattle.image_rules.specs.Read.{form_in, order_in, space_in, built_in, live_in, slots_in}
use Rattle.image_read.specs.declared.Header.{Header}
use Rattle.image_load.specs.declared.Beginning.{Beginning}

unfoldable pub start_by : Bool → Bool → Bool → Bool → Bool → ℕ
start_by short order metric form header =
    when short bad_length
    (unless order bad_order
    (unless metric bad_metric
    (unless form bad_image
    (unless header bad_length
    0))))

unfoldable pub start_refusal : List ℕ → ℕ
start_refusal image =
    start_by (ltb (length image) start_bytes) (valid_order (order_in image)) (valid_metric (space_in image)) (valid_form (form_in image))
    (leb (header_bytes (form_in image)) (length image))

abbrev pub weights_pass : List ℕ → Bool
weights_pass image = valid_weights (space_in image).weights

unfoldable pub sizes_by : Bool → Bool → Bool → Bool → ℕ
sizes_by pairs sizes whole roomy =
    unless pairs bad_length
    (unless sizes bad_table
    (unless whole bad_length
    (unless roomy short_area
    0)))

unfoldable pub sizes_refusal : ℕ → List ℕ → ℕ
sizes_refusal rows image =
    sizes_by (leb (sizes_end (form_in image) (order_in image)) (length image)) (sizes_pass (order_in image) (built_in image) (live_in image))
    (eqb (length image) (image_length (form_in image) (order_in image) (slots_in image))) (leb (table_rows (order_in image)) rows)

unfoldable pub slots_by : Bool → Bool → ℕ
slots_by days fields =
    unless days bad_day
    (unless fields bad_image
    0)

-- what an image begins with and its header, as the code has them
unfoldable pub start_in : List ℕ → Beginning
start_in image = record { order = record { t = order_in image }; metric = (space_in image).metric; form = record { number = form_in image } }

unfoldable pub header_in : List ℕ → Header
header_in image = record { order = record { t = order_in image }; space = space_in image; form = record { number = form_in image } }
