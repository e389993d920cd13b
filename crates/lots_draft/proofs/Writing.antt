-- A list whose elements a loop maps in place: the first i are mapped, and the others stand as they did.
use Prim.Native.Nat.{ℕ, ◌+◌, ◌≤◌, ◌<◌}
use native.Mathlib.Omega.{arith}
use mathlib.Core.Path.{◌≡◌, refl, sym, ap, ◌∙◌}
use mathlib.Core.List.{List, [], map}
use lib.ListN.{length, get_or, set, length-map, length-set}
use lib.Seq.{set-get_or}
use Rattle.search_rules.specs.Range.{Entry}
use Rattle.tree_rules.proofs.Parts.{written_to, written_at, written_step, written_all, get_or_mapped}

module _ (f : Entry → Entry) (old : List Entry) where
  pub record Mapped (i : ℕ) (es : List Entry) : Type 0 where
    pub within : i ≤ length old
    pub size : length es ≡ length old
    pub written : es ≡ written_to old (map f old) i

  same : length (map f old) ≡ length old
  same = length-map old f

  pub mapped_none : Mapped 0 old
  mapped_none = record { within = omega arith; size = refl; written = refl }

  pub mapped_all : (i : ℕ) (es : List Entry) → length old ≤ i → Mapped i es → es ≡ map f old
  mapped_all i es h m = m.written ∙ written_all old (map f old) same [] i h

  module _ (i : ℕ) (es : List Entry) (m : Mapped i es) (h : i < length old) where
    -- what stands at i is still the old
    pub mapped_at : get_or es i [] ≡ get_or old i []
    mapped_at = ap (λ (l : List Entry). get_or l i []) m.written ∙ written_at old (map f old) same [] i h

    pub mapped_next : (x : Entry) → x ≡ f (get_or old i []) → Mapped (i + 1) (set es i x)
    mapped_next x e =
        record {
          within = omega arith;
          size = simp length-set m.size;
          written = written_step old (map f old) same [] es x i h m.written (e ∙ sym (get_or_mapped f old i [] [] h));
        }

    -- an element that stays as it is needs no store
    pub mapped-kept : f (get_or old i []) ≡ get_or old i [] → Mapped (i + 1) es
    mapped-kept e =
        record {
          within = omega arith;
          size = m.size;
          written = sym (set-get_or es i [])
              ∙ written_step old (map f old) same [] es (get_or es i []) i h m.written (mapped_at ∙ sym e ∙ sym (get_or_mapped f old i [] [] h));
        }
