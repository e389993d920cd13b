-- The rules' `every` is the library's `list_all`.
use Rattle.std.specs.Prelude.{◌≡◌, Bool, ◌&&◌, List, [], ◌∷◌}
use Rattle.std.specs.List.{list_all}
use Rattle.std.proofs.Common.{refl, ap}
use Rattle.lists.specs.Lists.{every}

pub every_is : {A : Type 0} (test : A → Bool) (xs : List A) → every test xs ≡ list_all test xs
unfolding every
every_is test [] = refl
every_is test (x ∷ xs) = ap (λ t. test x && t) (every_is test xs)
