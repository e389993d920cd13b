-- `table_range_batch::words_of`: after j steps the first j words are the first j numbers.
use mathlib.Core.Path.{refl, ◌∙◌}
use native.Mathlib.Omega.{arith}
use lib.ListN.{get_or, replicate}
use Rattle.tree_rules.proofs.Parts.{written_step, written_all}
use Rattle.table_range_batch.proofs.words_of.Goals as goal

pub overflow_cast-words : goal.overflow_cast-words
overflow_cast-words c = omega (arith, c.requires.each c.loop-j.j)

pub loop-j-preserved : goal.loop-j-preserved
loop-j-preserved c =
    let found = c.args.found.now in
    written_step (replicate 16 0) found c.requires.sixteen 0 c.loop-j.words (get_or found c.loop-j.j 0) c.loop-j.j (omega arith) c.loop-j.invariant refl

pub returns : goal.returns
returns c = c.loop-j.invariant ∙ written_all (replicate 16 0) c.args.found.now c.requires.sixteen 0 c.loop-j.j (omega arith)
