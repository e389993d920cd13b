-- What the code finds at a place of a list, by the lines of the grammar (list_rules, specs/Lines).
use Rattle.std.specs.Prelude.{ℕ, ◌≤◌, ◌<◌, ◌≡◌, List, ◌∷◌, length, drop, Option, Some, None}
use Rattle.metric_rules.specs.declared.Profile.{Profile}
use Rattle.list_rules.specs.Lines.{ListLine, lines_of}
use Rattle.list_rules.specs.Lines.ListLine.{an_item, malformed}
use Rattle.list_line.specs.declared.LineRead.{LineRead}

-- an item's tag and profile, or none, as a line of the grammar
abbrev pub as_line : Option (ℕ × Profile) → ListLine
as_line None = malformed
as_line (Some (tag, profile)) = an_item tag profile

-- a place behind another and not past the end
pub record Behind (list : List ℕ) (at next : ℕ) : Type 0 where
  pub later : at < next
  pub within : next ≤ length list

-- the first line is not of the form
pub record Broken (text : List ℕ) : Type 0 where
  pub others : List ListLine
  pub same : lines_of text ≡ malformed ∷ others

-- the line from a place on, and the lines behind it
abbrev pub LineAt : List ℕ → ℕ → Option LineRead → Type 0
LineAt list at None = at < length list → Broken (drop at list)
LineAt list at (Some r) =
    (lines_of (drop at list) ≡ an_item r.tag r.profile ∷ lines_of (drop r.next list)) × Behind list at r.next
