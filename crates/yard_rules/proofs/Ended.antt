-- Where a header has ended the program, no line prints anything: the stage stays, line by line.
use Prim.Native.Nat.{ℕ, suc}
use mathlib.Core.Path.{◌≡◌, refl}
use mathlib.Core.List.{List, [], ◌∷◌}
use Rattle.yard_rules.specs.declared.Stage.TheVariants as stage
use Rattle.yard_rules.specs.Conversation.{Areas, line_outcome, after, printed}

pub ended_prints : (a : Areas) (n : ℕ) (lines : List (List ℕ)) → printed (record { areas = a; stage = stage.Ended; lines = n }) lines ≡ []
unfolding printed after line_outcome
ended_prints a n [] = refl
ended_prints a n (line ∷ lines) = ended_prints a (suc n) lines
