use Rattle.std.proofs.Common.{◌≡◌, ◌<◌, map}
use Rattle.std.specs.Prelude.{IfSome}
use Rattle.std.specs.Slice.Iter.{windows_size, windows_rest}
use Rattle.image_entries.specs.Entries.{places, first_word}
use Rattle.image_entries.specs.Duplicates.{found_place, least_repeated}
use Rattle.image_entries.proofs.least_repeated.Given as goal

-- the words that are left decide, with the least place so far
abbrev pub invariant-loop-pair : goal.invariant-loop-pair
invariant-loop-pair l =
    (windows_size l.pair-iterator ≡ 2)
    × (least_repeated (found_place l.least) (map first_word (windows_rest l.pair-iterator)) ≡ least_repeated places (map first_word l.entries))
    × IfSome l.least (λ place. place < places)
