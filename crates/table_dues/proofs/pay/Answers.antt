-- `table_dues::pay` meets its contract: as many dues as a list may have, each of 32 bits, and their sum fits.
use Rattle.std.proofs.Common.{arith, rules, tests}
use Rattle.std.proofs.lemmas.Iterator.{YieldsList-from_slice, YieldsList-from_map}
use Rattle.std.proofs.lemmas.Iterator.Adapters.{at_most_from_yields_List, fits_from_length}
use Rattle.std.proofs.lemmas.Iterator.Consumers.{sum_by_from_yields_List}
use Rattle.std.proofs.lemmas.List.Sums.{sum_by-cons}
use Rattle.std.specs.List.{sum_by}
use Prim.Native.Nat.{ℕ, ◌+◌, ◌<◌}
use mathlib.Core.Path.{◌≡◌, refl, sym, ap, ap₂, ◌∙◌}
use mathlib.Core.List.{List, [], ◌∷◌}
use lib.ListN.{length, get_or, set}
use lib.Seq.{paste}
use Rattle.std.proofs.lemmas.List.Edits.{sets-eq, paste_none, paste_more, paste_all}
use Rattle.lists.specs.Lists.{total}
use Rattle.table_dues.proofs.pay.Goals as goal

summed : (ns : List ℕ) → sum_by (λ n. n) ns ≡ total ns
unfolding total
summed [] = refl
summed (n ∷ ns) = sum_by-cons (λ m. m) n ns ∙ ap (λ (m : ℕ). n + m) (summed ns)

pub sum-requires-clause-fits : goal.sum-requires-clause-fits
sum-requires-clause-fits c =
    fits_from_length _ _ 4096 _ (at_most_from_yields_List (YieldsList-from_slice c.args.held.now cc) c.requires.few) c.map.ensures.closure (omega arith)
    (λ x r q k. search (rules, tests))

pub returns-clause-sum : goal.returns-clause-sum
returns-clause-sum c =
    sum_by_from_yields_List (λ n. n) c.args.held.now c.map.result c.sum.result c.sum.ensures.ran
    (YieldsList-from_map _ (λ n. n) (YieldsList-from_slice c.args.held.now cc) c.map.ensures.closure (λ x r q k. search rules))
    ∙ summed c.args.held.now

pub loop-i-init : goal.loop-i-init
loop-i-init c = paste_none c.args.dues.now 0 c.args.held.now

pub loop-i-preserved : goal.loop-i-preserved
loop-i-preserved c =
    let l = c.loop-i in
    let held = c.args.held.now in
    let here : l.i < length held = omega arith in
    let inside : 0 + l.i < length c.args.dues.now = omega (arith, here, c.requires.room) in
    let place : 0 + l.i ≡ l.i = omega arith in
    ap₂ (λ (dues : List ℕ) (i : ℕ). set dues i (get_or held l.i 0)) l.invariant (sym place) ∙ paste_more c.args.dues.now 0 held l.i 0 inside here

pub returns-clause-area : goal.returns-clause-area
returns-clause-area c =
    let l = c.loop-i in
    let held = c.args.held.now in
    let dues = c.args.dues.now in
    let all : l.i ≡ length held = omega arith in
    l.invariant
    ∙ ap (paste dues 0 held) all
    ∙ paste_all dues 0 held (length held) refl
    ∙ sym (sets-eq held dues 0 (omega (arith, c.requires.room)))
