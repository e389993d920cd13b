-- What the code has of a conversation between two bytes of its input, and what a step of it leaves.
use Rattle.std.specs.Prelude.{ℕ, suc, ◌≡◌, List}
use Rattle.yard_rules.specs.declared.Stage.{Stage}
use Rattle.yard_rules.specs.declared.Stage.TheVariants as stage
use Rattle.yard_rules.specs.Conversation.{Areas, line_outcome, after_lines}
use Rattle.yard_lines.specs.Held.{Holds}
use Rattle.yard_reply.specs.Put.{Puts}
use Rattle.yard_session.specs.declared.Place.{Place}
use Rattle.yard_session.specs.Fed.{Midway, fed, fed_text, end_text, last_line}

-- one line is answered as another is, whatever came before it
abbrev pub AnsweredAs : List ℕ → List ℕ → Type 0
AnsweredAs line other = (a : Areas) (number : ℕ) (s : Stage) → line_outcome a number s line ≡ line_outcome a number s other

-- the lent areas, the stage, the number of the line that comes in, and of that line what the area holds
pub record Matches (m : Midway) (areas : Areas) (area : List ℕ) (at : Place) : Type 0 where
  pub areas_are : areas ≡ m.yard.areas
  pub stage_is : at.stage ≡ m.yard.stage
  pub number_is : at.number ≡ suc m.yard.lines
  pub line_is : Holds area at.held m.pending

-- after some bytes of the input
pub record Takes (m : Midway) (bytes : List ℕ) (areas : Areas) (area out after : List ℕ) (r : Place) : Type 0 where
  pub stands : Matches (fed m bytes) areas area r
  pub text_is : Puts out after r.printed (fed_text m bytes)

-- after the end of the input
pub record Ends (m : Midway) (areas : Areas) (out after : List ℕ) (r : Place) : Type 0 where
  pub areas_are : areas ≡ (after_lines m.yard (last_line m)).areas
  pub stage_is : r.stage ≡ stage.Ended
  pub text_is : Puts out after r.printed (end_text m)
