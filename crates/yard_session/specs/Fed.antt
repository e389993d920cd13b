-- A conversation whose input comes in pieces: what stands after each, which line is pending, and what is printed for
-- it.
use Rattle.std.specs.Prelude.{ℕ, zero, suc, ◌-◌, Bool, true, false, List, [], ◌∷◌, ◌++◌, take, drop}
use Rattle.yard_rules.specs.declared.Stage.{Stage}
use Rattle.yard_rules.specs.declared.Stage.TheVariants as stage
use Rattle.yard_rules.specs.Conversation.{Areas, Yard, after_lines, printed, waiting}
use Rattle.yard_lines.specs.Pieces.{gathering, some_left}

-- between two bytes of the input: what stands after the lines that have ended, and the bytes of the one that has not
pub record Midway : Type 0 where
  pub yard : Yard
  pub pending : List ℕ

unfoldable pub begun : Areas → Midway
begun a = record { yard = waiting a; pending = [] }

-- some bytes more: a line feed ends the pending line, and any other byte goes to it (`gathering`)
unfoldable pub fed : Midway → List ℕ → Midway
fed m bytes =
    let g = gathering m.pending bytes in
    record { yard = after_lines m.yard g.lines; pending = g.left }

-- and what is printed: the replies to the lines that end in them
unfoldable pub fed_text : Midway → List ℕ → List ℕ
fed_text m bytes = printed m.yard (gathering m.pending bytes).lines

-- at the end of the input what is pending is a line where it has a byte, or where no line came before it
unfoldable pub last_of : ℕ → List ℕ → List (List ℕ)
last_of zero pending = pending ∷ []
last_of (suc lines) pending = some_left pending

unfoldable pub last_line : Midway → List (List ℕ)
last_line m = last_of m.yard.lines m.pending

unfoldable pub end_text : Midway → List ℕ
end_text m = printed m.yard (last_line m)

-- all that is printed for an input in these pieces
unfoldable pub pieces_text : Midway → List (List ℕ) → List ℕ
pieces_text m [] = end_text m
pieces_text m (piece ∷ pieces) = fed_text m piece ++ pieces_text (fed m piece) pieces

-- whether a header has ended it: nothing is printed any more
abbrev pub has_ended : Stage → Bool
has_ended stage.Waiting = false
has_ended stage.Serving = false
has_ended stage.Ended = true

-- the bytes of a piece from one place up to another
unfoldable pub stretch : List ℕ → ℕ → ℕ → List ℕ
stretch piece from to = take (to - from) (drop from piece)
