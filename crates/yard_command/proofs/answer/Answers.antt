-- `yard_command::answer` meets its contract: one command at a time.
use Rattle.std.proofs.Common.{Some}
use mathlib.Core.Path.{ap, sym, ◌∙◌}
use borrow.Author.Rules.{rules}
use Rattle.yard_command.proofs.Replies.{needs_profile, profile_beside, add_answered, remove_answered, within_answered, nearest_answered, other_answered}
use Rattle.yard_command.proofs.answer.Goals as goal

pub profile-profile-requires : goal.profile-profile-requires
profile-profile-requires c = (c.requires, profile_beside _ (ap needs_profile (sym (ap Some (sym c.in-Add.is) ∙ c.in-Some.ensures))))

pub profile-query-requires : goal.profile-query-requires
profile-query-requires c = (c.requires, profile_beside _ (ap needs_profile (sym (ap Some (sym c.in-Within.is) ∙ c.in-Some.ensures))))

pub profile-query-requires-in-Nearest : goal.profile-query-requires-in-Nearest
profile-query-requires-in-Nearest c = (c.requires, profile_beside _ (ap needs_profile (sym (ap Some (sym c.in-Nearest.is) ∙ c.in-Some.ensures))))

pub returns-in-Add : goal.returns-in-Add
returns-in-Add c =
    let a = c.args in
    let s = c.run_add in
    let r = add_answered a.lent.now.table.now a.lent.now.work.now a.lent.now.res.now a.number a.line.now a.lent.now.out.now s.new.out s.result c.in-Add.tag c.profile-profile.result c.in-Add.day s.new.table s.new.work (ap Some (sym c.in-Add.is) ∙ c.in-Some.ensures) c.profile-profile.ensures s.ensures.table s.ensures.work s.ensures.text in
    record { same = search rules; areas = r.0; text = r.1 }

pub returns-in-Remove : goal.returns-in-Remove
returns-in-Remove c =
    let a = c.args in
    let s = c.run_remove in
    let r = remove_answered a.lent.now.table.now a.lent.now.work.now a.lent.now.res.now a.number a.line.now a.lent.now.out.now s.new.out s.result c.in-Remove.tag s.new.table s.new.work (ap Some (sym c.in-Remove.is) ∙ c.in-Some.ensures) s.ensures.table s.ensures.work s.ensures.text in
    record { same = search rules; areas = r.0; text = r.1 }

pub returns-in-Within : goal.returns-in-Within
returns-in-Within c =
    let a = c.args in
    let s = c.run_range in
    let r = within_answered a.lent.now.table.now a.lent.now.work.now a.lent.now.res.now a.number a.line.now a.lent.now.out.now s.new.out s.result c.in-Within.radius c.profile-query.result c.in-Within.first_day s.new.res (ap Some (sym c.in-Within.is) ∙ c.in-Some.ensures) c.profile-query.ensures s.ensures.res s.ensures.text in
    record { same = search rules; areas = r.0; text = r.1 }

pub returns-in-Nearest : goal.returns-in-Nearest
returns-in-Nearest c =
    let a = c.args in
    let s = c.run_nearest in
    let r = nearest_answered a.lent.now.table.now a.lent.now.work.now a.lent.now.res.now a.number a.line.now a.lent.now.out.now s.new.out s.result c.in-Nearest.k c.profile-query-in-Nearest.result c.in-Nearest.first_day s.new.res (ap Some (sym c.in-Nearest.is) ∙ c.in-Some.ensures) c.profile-query-in-Nearest.ensures s.ensures.res s.ensures.text in
    record { same = search rules; areas = r.0; text = r.1 }

pub returns-in_default : goal.returns-in_default
returns-in_default c =
    let a = c.args in
    let s = c.put_one in
    let r = other_answered a.lent.now.table.now a.lent.now.work.now a.lent.now.res.now a.number a.line.now a.lent.now.out.now s.new.out s.result c.in_default.ensures s.ensures.0 in
    record { same = search rules; areas = r.0; text = r.1 }
