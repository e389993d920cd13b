-- A line of more than 96 bytes is answered as an empty one is, so of a longer line nothing but its being longer has to be kept.
use Prim.Native.Nat.{ℕ, ◌<◌}
use mathlib.Core.Path.{◌≡◌, refl, ap, sym, ◌∙◌}
use mathlib.Core.List.{List, []}
use lib.ListN.{length}
use Rattle.std.proofs.Common.{Option, None}
use Rattle.metric_rules.specs.declared.Profile.{Profile}
use Rattle.yard_rules.specs.declared.Command.{Command}
use Rattle.yard_rules.specs.declared.Stage.{Stage}
use Rattle.yard_rules.specs.declared.Stage.TheVariants as stage
use Rattle.text_rules.specs.Text.{parted, parts_in}
use Rattle.yard_rules.specs.Line.{has_day, has_profile, header_in, command_in, profile_in}
use Rattle.yard_rules.specs.Conversation.{Areas, areas_after, text_after, header_outcome, command_outcome, line_outcome}
use Rattle.yard_line.proofs.Longer.{long_command, long_header}

empty_header : header_in [] ≡ None
unfolding header_in parts_in parted
empty_header = refl

empty_command : command_in [] ≡ None
unfolding command_in has_day has_profile parts_in parted
empty_command = refl

other_alike : (a : Areas) (number : ℕ) (p q : Profile) → command_outcome a number None p ≡ command_outcome a number None q
unfolding command_outcome areas_after text_after
other_alike a number p q = refl

pub long_outcome : (a : Areas) (number : ℕ) (s : Stage) (line : List ℕ) → 96 < length line → line_outcome a number s line ≡ line_outcome a number s []
unfolding line_outcome
long_outcome a number stage.Waiting line l = ap (header_outcome a number) (long_header line l ∙ sym empty_header)
long_outcome a number stage.Serving line l =
    ap (λ (c : Option Command). command_outcome a number c (profile_in line)) (long_command line l)
    ∙ other_alike a number (profile_in line) (profile_in [])
    ∙ ap (λ (c : Option Command). command_outcome a number c (profile_in [])) (sym empty_command)
long_outcome a number stage.Ended line l = refl
