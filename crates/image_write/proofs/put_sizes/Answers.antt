-- `image_write::put_sizes` meets its contract. The loop's invariant: the sizes of the first k buckets are stored.
use Prim.Native.Nat.{ℕ, suc, ◌+◌, ◌*◌}
use mathlib.Core.Path.{◌≡◌, refl, sym, ap, ap₂, ◌∙◌}
use mathlib.Core.List.{◌++◌, flatten}
use native.Mathlib.Numerals.{add-one}
use native.Mathlib.Omega.{arith}
use lib.ListN.{length, length-append}
use lib.Seq.{sets}
use Rattle.lists.specs.Lists.{count_from}
use Rattle.table_rules.specs.Geometry.{buckets_of}
use Rattle.table_rules.specs.Table.{Table, built_of, live_of}
use Rattle.image_rules.specs.Bytes.{written_form, bytes_of, header_bytes, size_bytes, pair_bytes, sizes_end}
use Rattle.image_rules.specs.Write.{sizes_of}
use Rattle.image_rules.proofs.Bytes.{length_bytes_lem}
use Rattle.image_write.proofs.Runs.{run, length_even, run_more}
use Rattle.image_write.proofs.put_sizes.Invariants.{pair}
use Rattle.image_write.proofs.put_sizes.Goals as goal

length_pair : (t : Table) (k : ℕ) → length (pair t k) ≡ 4
unfolding pair
length_pair t k = length-append (bytes_of 2 (built_of t k)) (bytes_of 2 (live_of t k)) ∙ ap₂ ◌+◌ (length_bytes_lem 2 (built_of t k)) (length_bytes_lem 2 (live_of t k))

pub loop-k-init : goal.loop-k-init
unfolding run count_from flatten
loop-k-init c = refl

pub put_pair-requires : goal.put_pair-requires
unfolding sizes_end pair_bytes size_bytes
put_pair-requires c =
    -- the place of the pair of bucket k
    let place : c.sizes_at.result ≡ header_bytes written_form + 4 * c.loop-k.k =
    c.sizes_at.ensures ∙ ap (λ (form : ℕ). header_bytes form + 4 * c.loop-k.k) c.written-form.ensures in
    omega (arith, c.requires, place, c.loop-k.auto.image, c.buckets-k-end.ensures)

pub loop-k-preserved : goal.loop-k-preserved
unfolding pair size_bytes pair_bytes
loop-k-preserved c =
    let place : c.sizes_at.result ≡ header_bytes written_form + 4 * c.loop-k.k =
    c.sizes_at.ensures ∙ ap (λ (form : ℕ). header_bytes form + 4 * c.loop-k.k) c.written-form.ensures in
    let l = c.loop-k in
    let t = c.args.table.rows.now in
    rw (add-one l.k)
    (c.put_pair.ensures
    ∙ ap (λ (at : ℕ). sets l.image at (bytes_of 2 c.built.result ++ bytes_of 2 c.live.result)) place
    ∙ ap₂ (λ (b v : ℕ). sets l.image (header_bytes written_form + 4 * l.k) (bytes_of 2 b ++ bytes_of 2 v)) c.built.ensures c.live.ensures
    ∙ run_more (pair t) c.args.image.now l.image (header_bytes written_form) (header_bytes written_form + 4 * l.k) l.k (ap (λ (n : ℕ). header_bytes written_form + n) (sym (length_even (pair t) 4 (length_pair t) l.k))) l.invariant)

pub returns : goal.returns
unfolding sizes_of size_bytes buckets_of pair run
returns c =
    let a = c.args in
    let done : c.loop-k.k ≡ suc a.table.order.t = omega (arith, c.buckets-k-end.ensures) in
    c.loop-k.invariant ∙ ap (λ (k : ℕ). sets a.image.now (header_bytes written_form) (run (pair a.table.rows.now) k)) done
