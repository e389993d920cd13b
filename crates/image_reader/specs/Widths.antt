-- The widths that a number of an image has: 1, 2 or 4 bytes.
use Rattle.std.specs.Prelude.{ℕ, Bool, ◌||◌, eqb}

abbrev pub is_width : ℕ → Bool
is_width w = eqb w 1 || eqb w 2 || eqb w 4
