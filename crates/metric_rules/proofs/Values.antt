-- What a function knows of its arguments by their types: an array of thirteen words is a row, a struct `Profile` has four signed measures and two
-- words, and `Weights` four words. Each follows from the relation that `c.good` holds (and `.ok` of a call's result), element by element.
use Prim.Native.Nat.{ℕ, zero, suc, ◌<◌, ◌^◌}
use mathlib.Core.Path.{◌≡◌, ap, ◌∙◌}
use mathlib.Core.List.{List, [], ◌∷◌}
use lib.IntN.{ℤ, pos}
use lib.ListN.{length, get_or}
use mir.Syntax.{w32, w64}
use mir.Val.{Val, SFits, to_z, of_z}
use mir.Facts.{sfits_lit, to_z-of_z}
use denote.Laws.{Is}
use denote.Plain.{UInt}
use denote.Signed.{SInt}
use denote.Shadow.{shadow}
use denote.Array.{Array, each}
use denote.Struct.Declared.{row}
use borrow.Author.Rules.{elem_Fits}
use Rattle.metric_rules.specs.declared.Profile.{Profile}
use Rattle.metric_rules.specs.declared.Weights.{Weights}
use Rattle.metric_rules.specs.Row.{Row, IsRow, IsProfile, row_width, word, measure, code_word}
use Rattle.metric_rules.specs.Distance.{IsWeights, weight}
use Rattle.metric_rules.specs.contracts.Profile as P
use Rattle.metric_rules.specs.contracts.Weights as W

-- the array's size is `row_width`: a type has to name the number itself
pub is_row : (xs : Row) (vs : List Val) → Is (Array (UInt w32) 13) xs vs → IsRow xs
unfolding row_width word
is_row xs vs g = record { width = g.1.0.1; fits = λ i. (elem_Fits w32 w32 xs g.0 i g.1.1 tt).fits }

signed_each : (zs : List ℤ) (us : List Val) → shadow (each ℤ (SInt w32).own_val zs us) → (i : ℕ) → SFits w32 (get_or zs i (pos 0))
signed_each [] us g i = sfits_lit tt
signed_each (z ∷ zs) [] g i = absurd g
signed_each (z ∷ zs) (u ∷ us) g zero = record { sfits = g.0.1 }
signed_each (z ∷ zs) (u ∷ us) g (suc i) = signed_each zs us g.1 i

four_signed : (zs : List ℤ) (vs : List Val) → Is (Array (SInt w32) 4) zs vs → (length zs ≡ 4) × ((i : ℕ) → SFits w32 (get_or zs i (pos 0)))
four_signed zs vs g = (g.1.0.1, signed_each zs g.0 g.1.1)

two_words : (ns : List ℕ) (vs : List Val) → Is (Array (UInt w64) 2) ns vs → (length ns ≡ 2) × ((i : ℕ) → get_or ns i 0 < 2 ^ 64)
two_words ns vs g = (g.1.0.1, λ i. (elem_Fits w64 w64 ns g.0 i g.1.1 tt).fits)

four_words : (ns : List ℕ) (vs : List Val) → Is (Array (UInt w32) 4) ns vs → (length ns ≡ 4) × ((i : ℕ) → get_or ns i 0 < 2 ^ 32)
four_words ns vs g = (g.1.0.1, λ i. (elem_Fits w32 w32 ns g.0 i g.1.1 tt).fits)

pub is_profile : (p : Profile) (vs : List Val) → Is (row P.the_type) p vs → IsProfile p
unfolding measure code_word
is_profile p vs g =
    let m = four_signed p.measures _ g.1.1.0 in
    let k = two_words p.code _ g.1.1.1.0 in
    record { four = m.0; two = k.0; signed = m.1; wide = k.1 }

pub is_weights : (weights : Weights) (vs : List Val) → Is (row W.the_type) weights vs → IsWeights weights
unfolding weight
is_weights weights vs g =
    let k = four_words weights.each _ g.1.1.0 in
    record { four = k.0; fits = k.1 }

-- a measure that is copied out of the array comes as its bits read back
pub copied : {A : Type 0} (f : ℤ → A) (p : Profile) → IsProfile p → (i : ℕ) {a : A} → a ≡ f (to_z w32 (of_z w32 (measure p i))) → a ≡ f (measure p i)
copied f p is i e = e ∙ ap f (to_z-of_z (is.signed i))
