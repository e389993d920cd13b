-- A line as it comes in, piece by piece, held in an area that may be shorter than it.
use Rattle.std.specs.Prelude.{ℕ, ◌+◌, ◌≤◌, ◌<◌, ◌≡◌, true, false, List, [], ◌∷◌, ◌++◌, eqb, length, take, drop}
use Rattle.std.specs.Prelude.{Option, Some, None}
use Rattle.yard_lines.specs.declared.Gathered.{Gathered}
use Rattle.text_rules.specs.Text.{line_feed}

-- the bytes before the first line feed, and all where there is none
unfoldable pub until_feed : List ℕ → List ℕ
until_feed [] = []
until_feed (b ∷ bs) = elim (eqb b line_feed) [ true ↦ [] | false ↦ b ∷ until_feed bs ]

-- of a line so far the area has all, so many bytes, or the line is longer than the area
abbrev pub Holds : List ℕ → Option ℕ → List ℕ → Type 0
Holds area None line = length area < length line
Holds area (Some n) line = (n ≤ length area) × (take n area ≡ line)

-- what gathering from a place of a piece leaves: the line goes on up to the next line feed
pub record Gathers (area : List ℕ) (held : Option ℕ) (piece : List ℕ) (from : ℕ) (after : List ℕ) (r : Gathered)
    : Type 0 where
  pub place : r.end ≡ from + length (until_feed (drop from piece))
  pub holds : (line : List ℕ) → Holds area held line → Holds after r.held (line ++ until_feed (drop from piece))
