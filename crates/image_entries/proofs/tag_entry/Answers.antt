-- A tag below 2^50 and a place below 2^12 make a number of 62 bits.
use native.Mathlib.Omega.{arith}
use mathlib.Core.Path.{refl}
use Rattle.search_rules.specs.Range.{entry}
use Rattle.image_entries.specs.Entries.{places, tag_entry}
use Rattle.image_entries.proofs.tag_entry.Goals as goal

pub overflow_add-result : goal.overflow_add-result
unfolding places
overflow_add-result c = omega (arith, c.requires.0, c.requires.1)

pub returns : goal.returns
unfolding tag_entry entry places
returns c = refl
