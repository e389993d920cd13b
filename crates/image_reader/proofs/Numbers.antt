-- A number read at a place is its lowest byte and 256 times the number read from the next place on.
use Prim.Native.Nat.{ℕ, suc, ◌+◌, ◌*◌, ◌≤◌, ◌<◌}
use mathlib.Core.Path.{◌≡◌, refl}
use mathlib.Core.List.{List}
use native.Mathlib.Numerals.{add-one}
use native.Mathlib.Omega.{arith}
use lib.ListN.{length, get_or}
use lib.Seq.{drop-cons}
use Rattle.image_rules.specs.Bytes.{number_of}
use Rattle.image_rules.specs.Read.{number_at}

pub number_more : (l : List ℕ) (w at next : ℕ) → next ≡ at + 1 → at < length l → number_at l (suc w) at ≡ get_or l at 0 + 256 * number_at l w next
unfolding number_at number_of
number_more l w at next e h = rw (e, add-one at, drop-cons l at 0 h) refl

pub number_none : (l : List ℕ) (at : ℕ) → number_at l 0 at ≡ 0
unfolding number_at number_of
number_none l at = refl

pub one_at : (l : List ℕ) (at : ℕ) → at < length l → number_at l 1 at ≡ get_or l at 0
one_at l at h = omega (arith, number_more l 0 at (at + 1) (omega arith) h, number_none l (at + 1))

pub two_at : (l : List ℕ) (at second : ℕ) → second ≡ at + 1 → at + 2 ≤ length l → number_at l 2 at ≡ get_or l at 0 + 256 * get_or l second 0
two_at l at second e h =
    omega (arith, number_more l 1 at second e (omega arith), number_more l 0 second (at + 2) (omega arith) (omega arith), number_none l (at + 2))

pub four_at : (l : List ℕ) (at second third fourth : ℕ) → second ≡ at + 1 → third ≡ at + 2 → fourth ≡ at + 3 → at + 4 ≤ length l
    → number_at l 4 at ≡ get_or l at 0 + 256 * (get_or l second 0 + 256 * (get_or l third 0 + 256 * get_or l fourth 0))
four_at l at second third fourth e f g h =
    let first = number_more l 3 at second e (omega arith) in
    let next = number_more l 2 second third (omega arith) (omega arith) in
    let rest = two_at l third fourth (omega arith) (omega arith) in
    omega arith
