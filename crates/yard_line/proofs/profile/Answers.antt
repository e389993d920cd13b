-- `yard_line::profile` meets its contract: the line has a third field, and the profile is read from there.
use Rattle.std.proofs.Common.{subst, ◌∙◌, arith}
use Rattle.yard_line.specs.Found.{ProfileAt}
use Rattle.yard_line.proofs.Fields.{several_fields, two_fields, are_profile_lem, profile_in_lem, some_profile}
use Rattle.yard_line.proofs.profile.Goals as goal

pub part_end-second_end-requires : goal.part_end-second_end-requires
part_end-second_end-requires c = several_fields _ c.part_end-first_end.ensures c.requires.1

pub unwrap-read-requires : goal.unwrap-read-requires
unwrap-read-requires c =
    let more = several_fields _ c.part_end-first_end.ensures c.requires.1 in
    let parts = two_fields _ c.part_end-first_end.ensures (omega arith) c.part_end-second_end.ensures in
    some_profile _ _ _ (are_profile_lem _ parts c.requires.1) c.profile_behind.ensures

pub returns : goal.returns
returns c =
    let more = several_fields _ c.part_end-first_end.ensures c.requires.1 in
    let parts = two_fields _ c.part_end-first_end.ensures (omega arith) c.part_end-second_end.ensures in
    (subst (ProfileAt _ _) c.unwrap-read.ensures c.profile_behind.ensures).1 ∙ profile_in_lem _ parts
