-- `image_load::load` meets its contract: nothing is written until every check has passed, and then the header and each
-- bucket are put.
use Rattle.std.proofs.Common.{◌≡◌, ℕ, ◌<◌, List, length, set, refl, sym, ap, ap₂, ◌∙◌, arith}
use mathlib.Core.List.{foldl}
use Rattle.metric_rules.specs.declared.Space.{Space}
use Rattle.table_rules.specs.Geometry.{buckets_of, header_row, first_slot, table_rows}
use Rattle.table_rules.specs.Table.{Table, header_of, put_bucket}
use Rattle.refusals.proofs.Refused.{some_number}
use Rattle.image_rules.specs.declared.Loaded.{Loaded}
use Rattle.image_rules.specs.Read.{order_in, space_in, live_in, bucket_in}
use Rattle.image_rules.specs.Load.{load_reply, load_refusal}
use Rattle.image_rules.proofs.Accepting.{Accepted, accepted}
use Rattle.image_read.specs.declared.image.WholeImage.{WholeImage}
use Rattle.image_load.proofs.Loading.{begun, begun_lent, load_puts, load_stops}
use Rattle.image_load.proofs.load.Goals as goal

-- an accepted image
goes : (rows : ℕ) (image : List ℕ) {fault : Loaded} → fault ≡ load_reply rows image → fault.refusal ≡ 0 → load_refusal rows image ≡ 0
unfolding load_refusal
goes rows image e none = ap (λ (r : Loaded). r.refusal) (sym e) ∙ none

some_rows : (rows : ℕ) (image : List ℕ) → Accepted rows image → 0 < rows
unfolding table_rows first_slot
some_rows rows image ok = omega (arith, ok.roomy)

-- the table with its header
put_known : (image : List ℕ) (whole : WholeImage) → whole.image.bytes.now ≡ image → (table put : Table) (ok : Accepted (length table) image)
    → put ≡ set table header_row (header_of whole.image.header.order.t whole.image.header.space) → put ≡ begun image table ok
put_known image whole same table put ok e =
    let headed = whole.image.headed in
    e
    ∙ ap₂ (λ (o : ℕ) (space : Space). set table header_row (header_of o space)) (headed.order ∙ ap order_in same) (headed.space ∙ ap space_in same)

-- and with every bucket of the image
put_all : (image bytes : List ℕ) (table put : Table) → bytes ≡ image → table ≡ put
    → foldl (λ u k. put_bucket k (bucket_in bytes k) (live_in bytes k) u) table (buckets_of (order_in bytes))
    ≡ foldl (λ u k. put_bucket k (bucket_in image k) (live_in image k) u) put (buckets_of (order_in image))
put_all image bytes table put same e =
    ap₂ (λ (l : List ℕ) (t : Table). foldl (λ u k. put_bucket k (bucket_in l k) (live_in l k) u) t (buckets_of (order_in l))) same e

pub returns-in-Err-clause-area : goal.returns-in-Err-clause-area
returns-in-Err-clause-area c =
    let fault = c.in-Err.fault in
    load_stops c.args.image.now c.args.table.now _ c.in-Err.ensures.reply (λ e. let some = some_number fault.refusal in absurd (omega arith))

pub put_header-requires : goal.put_header-requires
put_header-requires c =
    some_rows _ c.args.image.now (accepted (length c.args.table.now) c.args.image.now (goes _ _ c.in-Ok.ensures.reply refl))

pub put_buckets-requires : goal.put_buckets-requires
put_buckets-requires c =
    let image = c.args.image.now in
    let table = c.args.table.now in
    let same = c.in-Ok.ensures.image in
    let ok = accepted (length table) image (goes _ _ c.in-Ok.ensures.reply refl) in
    let made = put_known image c.in-Ok.whole same table _ ok c.put_header.ensures in
    rw (made, same) (begun_lent image table ok)

pub returns-clause-area : goal.returns-clause-area
returns-clause-area c =
    let image = c.args.image.now in
    let table = c.args.table.now in
    let same = c.in-Ok.ensures.image in
    let none = goes (length table) image c.in-Ok.ensures.reply refl in
    let ok = accepted (length table) image none in
    let made = put_known image c.in-Ok.whole same table _ ok c.put_header.ensures in
    load_puts image table ok none _ (c.put_buckets.ensures ∙ put_all image _ _ _ same made)
