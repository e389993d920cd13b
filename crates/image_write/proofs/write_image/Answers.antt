-- `image_write::write_image` meets its contract: by each test in its order, and then by what is put.
use native.Mathlib.Omega.{arith}
use Prim.Native.Nat.{◌≤◌}
use mathlib.Core.Path.{◌≡◌, ap, ◌∙◌}
use lib.ListN.{length}
use lib.Seq.{sets}
use Rattle.std.proofs.lemmas.Result.{err_from_is_err_and}
use Rattle.table_rules.specs.Table.{Table}
use Rattle.image_rules.specs.Write.{image_of, write_refusal}
use Rattle.image_rules.proofs.Bounds.{image_fits}
use Rattle.refusals.proofs.Refused.{some_number, stopped}
use Rattle.image_write.proofs.Replies.{too_short, goes, kept, put}
use Rattle.image_write.proofs.write_image.Goals as goal
use Rattle.image_write.proofs.write_image.Goals.{After-image_length-length}

pub returns-in_err-checked-clause-refusal : goal.returns-in_err-checked-clause-refusal
unfolding write_refusal
returns-in_err-checked-clause-refusal c =
    let p = err_from_is_err_and c.from_residual.result c.from_residual.ensures.1 in
    rw (p.1, p.2) (stopped _ _ c.in_err-checked.ensures.refusal)

pub returns-in_err-checked-clause-area : goal.returns-in_err-checked-clause-area
unfolding write_refusal
returns-in_err-checked-clause-area c =
    kept c.args.table.now c.args.image.now _ (stopped c.in_err-checked.field-0.0 _ c.in_err-checked.ensures.refusal) (some_number c.in_err-checked.field-0.0)

-- the image's length is that of the table that was lent
module _ (c : After-image_length-length) where
  long : c.image_length-length.result ≡ length (image_of c.args.table.now)
  long = c.image_length-length.ensures ∙ ap (λ (t : Table). length (image_of t)) c.in_ok-checked.ensures.rows

pub returns-then-image-length-clause-refusal : goal.returns-then-image-length-clause-refusal
returns-then-image-length-clause-refusal c =
    let e = long (goal.at.returns-then-image-length-clause-refusal c).After-image_length-length in
    too_short c.args.table.now c.args.image.now c.in_ok-checked.ensures.refusal (omega (arith, e))

pub returns-then-image-length-clause-area : goal.returns-then-image-length-clause-area
returns-then-image-length-clause-area c =
    let e = long (goal.at.returns-then-image-length-clause-area c).After-image_length-length in
    kept c.args.table.now c.args.image.now 6 (too_short c.args.table.now c.args.image.now c.in_ok-checked.ensures.refusal (omega (arith, e))) (omega arith)

pub returns-clause-refusal : goal.returns-clause-refusal
returns-clause-refusal c =
    let e = long (goal.at.returns-clause-refusal c).After-image_length-length in
    goes c.args.table.now c.args.image.now c.in_ok-checked.ensures.refusal (omega (arith, e, c.if-image-length.false))

pub returns-clause-length : goal.returns-clause-length
returns-clause-length c =
    let e = long (goal.at.returns-clause-length c).After-image_length-length in
    (e, omega (arith, c.image_length-length.ensures, image_fits c.in_ok-checked.checked.passed))

pub returns-clause-area : goal.returns-clause-area
returns-clause-area c =
    let e = long (goal.at.returns-clause-area c).After-image_length-length in
    let t = c.args.table.now in
    let fits : length (image_of t) ≤ length c.args.image.now = omega (arith, e, c.if-image-length.false) in
    put t c.args.image.now (goes t c.args.image.now c.in_ok-checked.ensures.refusal fits) fits c.put_image.new.image
    (c.put_image.ensures ∙ ap (λ (rows : Table). sets c.args.image.now 0 (image_of rows)) c.in_ok-checked.ensures.rows)
