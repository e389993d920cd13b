-- The two tests in turn.
use Rattle.std.proofs.Common.{sym, arith}
use Rattle.image_entries.specs.Entries.{places}
use Rattle.image_entries.specs.Duplicates.{found_place}
use Rattle.image_entries.proofs.Repeated.{less_other, less_lower, less_kept}
use Rattle.image_entries.proofs.less_repeated.Goals as goal

pub returns-then-before-word-clause-found : goal.returns-then-before-word-clause-found
unfolding places
returns-then-before-word-clause-found c =
    let a = c.args in sym (less_other (found_place a.least) a.before a.word c.if-before-word.true)

pub returns-in-Some-clause-found : goal.returns-in-Some-clause-found
unfolding places
returns-in-Some-clause-found c =
    rw c.in-Some.is (sym (less_kept c.in-Some.least c.args.before c.args.word c.if-before-word.false c.if-least-place.true))

pub returns-in_default-clause-found : goal.returns-in_default-clause-found
unfolding places
returns-in_default-clause-found c =
    rw c.in-Some.is (sym (less_lower c.in-Some.least c.args.before c.args.word c.if-before-word.false c.if-least-place.false))

pub returns-in_default-2-clause-found : goal.returns-in_default-2-clause-found
unfolding places
returns-in_default-2-clause-found c =
    rw c.in_default.is (sym (less_lower places c.args.before c.args.word c.if-before-word.false (omega arith)))

pub returns-in_default-2-clause-within : goal.returns-in_default-2-clause-within
unfolding places
returns-in_default-2-clause-within c = omega arith
