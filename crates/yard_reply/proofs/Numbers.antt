-- The numbers of a reply by its refusal, and two runs of bytes that adjoin.
use Prim.Native.Nat.{ℕ, zero, suc, ◌+◌, ◌-◌, ◌≤◌, ◌<◌}
use native.Mathlib.Omega.{arith}
use mathlib.Core.Path.{◌≡◌, refl, ap, sym, ◌∙◌}
use mathlib.Core.List.{List, [], ◌∷◌, ◌++◌}
use borrow.Rule.Slice.PartMut.{put_mid}
use lib.ListN.{length, get_or, take, drop, length-append}
use lib.Seq.{sets, length-sets}
use Rattle.tree_rules.proofs.Stores.{sets_more}
use Rattle.yard_rules.specs.Reply.{reply_numbers}
use Rattle.yard_print.proofs.Runs.{rest_put}
use Rattle.yard_reply.specs.Put.{Puts}

pub accepted : (ns : List ℕ) → 0 < length ns → get_or ns 0 0 ≡ 0 → ns ≡ reply_numbers (get_or ns 0 0) (drop 1 ns)
unfolding reply_numbers
accepted [] h e = absurd (omega arith)
accepted (n ∷ ns) h e = ap (λ k. k ∷ ns) e ∙ ap (λ k. reply_numbers k ns) (sym e)

pub refused : (refusal : ℕ) (ns : List ℕ) → (refusal ≡ 0 → ⊥) → refusal ∷ [] ≡ reply_numbers refusal ns
unfolding reply_numbers
refused zero ns h = absurd (h refl)
refused (suc n) ns h = refl

-- a run of bytes and the run after it
pub both_put : (l middle part : List ℕ) (at more : ℕ) (xs ys : List ℕ) → middle ≡ sets l 0 xs → at ≡ length xs
    → part ≡ sets (take (length middle - at) (drop at middle)) 0 ys → more ≡ length ys → at + more ≤ length l
    → Puts l (put_mid at (length middle - at) middle part) (at + more) (xs ++ ys)
both_put l middle part at more xs ys e place f long fits =
    let room : at + length ys ≤ length middle = omega (arith, ap length e, length-sets l 0 xs) in (
      rest_put middle ys at room f ∙ ap (λ m. sets m at ys) e ∙ sets_more l 0 at xs ys (omega arith),
      omega (arith, length-append xs ys),
      fits,
    )
