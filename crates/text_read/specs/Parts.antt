-- Where a part of a text ends and which parts stand behind it: what the contracts of the search for one say, by the
-- parts of the grammar.
use Rattle.std.specs.Prelude.{ℕ, suc, ◌-◌, ◌≤◌, ◌≡◌, true, false, List, [], ◌∷◌, ltb, length, take, drop}
use Rattle.text_rules.specs.Text.{parted}

-- the parts behind one that ends at a place: none where the text ends there
unfoldable pub parts_behind : ℕ → List ℕ → ℕ → List (List ℕ)
parts_behind separator text end =
    elim (ltb end (length text)) [ true ↦ parted separator (drop (suc end) text) | false ↦ [] ]

-- the part that begins at a place ends before `end`
pub record PartEnd (separator : ℕ) (text : List ℕ) (from end : ℕ) : Type 0 where
  pub after : from ≤ end
  pub within : end ≤ length text
  pub part : parted separator (drop from text) ≡ take (end - from) (drop from text) ∷ parts_behind separator text end
