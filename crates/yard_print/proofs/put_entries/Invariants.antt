use Prim.Native.Nat.{◌*◌, ◌≤◌}
use mathlib.Core.Path.{◌≡◌}
use lib.ListN.{length, take}
use lib.Seq.{sets}
use Rattle.yard_rules.specs.Reply.{entries_text}
use Rattle.yard_print.proofs.put_entries.Given as goal

abbrev pub invariant-loop-entry : goal.invariant-loop-entry
invariant-loop-entry l =
    (l.at ≤ 37 * l.entry-index)
    × (l.at ≡ length (entries_text (take l.entry-index l.entries)))
    × (l.out ≡ sets l.initial.out 0 (entries_text (take l.entry-index l.entries)))
