-- `image_put::put` meets its contract: the bytes that are written, one behind the other, are the number's lowest.
use Rattle.std.proofs.Common.{◌≡◌, ℕ, zero, suc, ◌+◌, ◌≤◌, ◌<◌, List, length, take, set, get_or, refl, sym, ◌∙◌, ap, arith, w32}
use Rattle.std.specs.Int.{to_le_bytes}
use Rattle.std.proofs.Math.Nat.{div-div-eq-div-mul}
use mathlib.Core.List.{append_assoc}
use lib.ListN.{drop, length-take}
use lib.Seq.{paste}
use Rattle.std.proofs.lemmas.List.Edits.{sets, sets-eq, paste_none, paste_more, paste_all}
use Rattle.image_rules.specs.Bytes.{bytes_of}
use Rattle.image_put.proofs.put.Goals as goal

low_bytes : (w n : ℕ) → w ≤ 4 → take w (to_le_bytes w32 n) ≡ bytes_of w n
unfolding bytes_of
low_bytes zero n h = refl
low_bytes (suc zero) n h = refl
low_bytes (suc (suc zero)) n h = refl
low_bytes (suc (suc (suc zero))) n h = simp div-div-eq-div-mul
low_bytes (suc (suc (suc (suc zero)))) n h = simp div-div-eq-div-mul
low_bytes (suc (suc (suc (suc (suc w))))) n h = absurd (omega arith)

lowest : (n w : ℕ) (bytes : List ℕ) → bytes ≡ to_le_bytes w32 n → w ≤ 4 → take w bytes ≡ bytes_of w n
lowest n w bytes e h = rw e (low_bytes w n h)

pub loop-i-init : goal.loop-i-init
loop-i-init g c = paste_none c.args.image.now c.args.at (take g.row.W c.to_le_bytes.result)

pub loop-i-preserved : goal.loop-i-preserved
loop-i-preserved g c =
    let l = c.loop-i in
    let bytes = take g.row.W c.to_le_bytes.result in
    let here : l.i < length bytes = omega (arith, c.loop-i-test.true) in
    let inside : c.args.at + l.i < length c.args.image.now = omega (arith, here, length-take g.row.W c.to_le_bytes.result, c.requires.1) in
    ap (λ (image : List ℕ). set image (c.args.at + l.i) (get_or bytes l.i 0)) l.invariant ∙ paste_more c.args.image.now c.args.at bytes l.i 0 inside here

pub returns : goal.returns
returns g c =
    let l = c.loop-i in
    let image = c.args.image.now in
    let bytes = take g.row.W c.to_le_bytes.result in
    let all : l.i ≡ length bytes = omega (arith, c.loop-i-test.false) in
    let inside : c.args.at + length bytes ≤ length image = omega (arith, length-take g.row.W c.to_le_bytes.result, c.requires.1) in
    l.invariant
    ∙ ap (paste image c.args.at bytes) all
    ∙ paste_all image c.args.at bytes (length bytes) refl
    ∙ sym (append_assoc (take c.args.at image) bytes (drop (c.args.at + length bytes) image))
    ∙ sym (sets-eq bytes image c.args.at inside)
    ∙ ap (sets image c.args.at) (lowest _ g.row.W c.to_le_bytes.result c.to_le_bytes.ensures c.requires.0 ∙ ap (bytes_of g.row.W) (omega arith))
