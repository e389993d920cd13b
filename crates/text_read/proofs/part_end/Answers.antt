-- `text_read::part_end` meets its contract: the first place of a separator is where the part ends.
use Rattle.std.proofs.Common.{◌≡◌, ◌∙◌, rules}
use Rattle.std.proofs.lemmas.Iterator.{IsFirst-from_position, YieldsList-from_slice}
use borrow.Author.Tests.{tests}
use Rattle.text_read.proofs.Finding.{rest_whole, free_before, ends_at_separator, ends_at_end}
use Rattle.text_read.proofs.part_end.Goals as goal

pub returns-in-Some : goal.returns-in-Some
returns-in-Some c =
    let separator = c.args.separator in
    let first = IsFirst-from_position _ _ _ (λ b. b ≡ separator) (λ b. b ≡ separator → ⊥) c.in-Some.ensures.ran (YieldsList-from_slice _ (c.iter.ensures.rest ∙ rest_whole c.args.from _)) (λ x q k. search (rules, tests)) (λ x q k. search (rules, tests)) in
    ends_at_separator separator _ c.args.from _ c.requires first.0 (first.1 0) (free_before separator _ _ first.2)

pub returns-in-None : goal.returns-in-None
returns-in-None c =
    let separator = c.args.separator in
    let none = IsFirst-from_position _ _ _ (λ b. b ≡ separator) (λ b. b ≡ separator → ⊥) c.in-None.ensures.ran (YieldsList-from_slice _ (c.iter.ensures.rest ∙ rest_whole c.args.from _)) (λ x q k. search (rules, tests)) (λ x q k. search (rules, tests)) in
    ends_at_end separator _ c.args.from c.requires (free_before separator _ _ none)
