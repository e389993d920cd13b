-- The lines of an input that comes in pieces: those that end in a piece, and what is pending after it.
use Rattle.std.specs.Prelude.{ℕ, true, false, List, [], ◌∷◌, ◌++◌, eqb}
use Rattle.text_rules.specs.Text.{line_feed}

pub record Gathering : Type 0 where
  pub lines : List (List ℕ)
  pub left : List ℕ

-- one piece, with what is pending before it
unfoldable pub gathering : List ℕ → List ℕ → Gathering
gathering pending [] = record { lines = []; left = pending }
gathering pending (b ∷ bs) =
    elim (eqb b line_feed) [
      | true ↦ record { lines = pending ∷ (gathering [] bs).lines; left = (gathering [] bs).left }
      | false ↦ gathering (pending ++ (b ∷ [])) bs
    ]

-- all pieces, one after the other
unfoldable pub gatherings : List ℕ → List (List ℕ) → Gathering
gatherings pending [] = record { lines = []; left = pending }
gatherings pending (piece ∷ pieces) =
    let g = gathering pending piece in
    record { lines = g.lines ++ (gatherings g.left pieces).lines; left = (gatherings g.left pieces).left }

-- the pieces put end to end
unfoldable pub whole : List (List ℕ) → List ℕ
whole [] = []
whole (piece ∷ pieces) = piece ++ whole pieces

-- what is left at the end of the input is a line where it has a byte, or where no line came before it
unfoldable pub some_left : List ℕ → List (List ℕ)
some_left [] = []
some_left (b ∷ bs) = (b ∷ bs) ∷ []

unfoldable pub ended : List (List ℕ) → List ℕ → List (List ℕ)
ended [] left = left ∷ []
ended (line ∷ lines) left = (line ∷ lines) ++ some_left left
