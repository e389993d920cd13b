-- RULES 14.1: the number of each refusal, written once. 0 is an accepted call.
use Rattle.std.specs.Prelude.{ℕ, zero, suc, Bool, true, false}

-- the tag is not valid (add, remove, look up, herd list)
abbrev pub bad_tag : ℕ
bad_tag = 1

-- a measure is not valid (add, range, batch, nearest, herd list)
abbrev pub bad_measure : ℕ
bad_measure = 2

-- order above 12 (fresh, load, restore)
abbrev pub bad_order : ℕ
bad_order = 3

-- metric above the last one (fresh, load, restore)
abbrev pub bad_metric : ℕ
bad_metric = 4

-- nearest with k = 0
abbrev pub no_count : ℕ
no_count = 5

-- an area too short for the result: fewer entries than the reply, fewer bytes than the image or the snapshot, fewer
-- numbers than tags, fewer entries than radii or live items
abbrev pub no_room : ℕ
no_room = 6

-- image length wrong, or past the rest of its part (load, restore)
abbrev pub bad_length : ℕ
bad_length = 7

-- image sound in sizes, but a field of some slot breaks a rule, or its form is not known (load, restore)
abbrev pub bad_image : ℕ
bad_image = 8

-- tag already live (add, herd list)
abbrev pub already_live : ℕ
already_live = 20

-- tag not live (remove, look up), or a listed one (dues)
abbrev pub not_live : ℕ
not_live = 21

-- 2^T items live (add, herd list)
abbrev pub full : ℕ
full = 22

-- a lent table or work area shorter than its order needs, or a table too short to hold an order
abbrev pub short_area : ℕ
short_area = 23

-- order, metric, weights or sizes of a lent table, or sizes of an image, break the rules; in add, remove, a herd list
-- and lots also the marks of a lent table
abbrev pub bad_table : ℕ
bad_table = 24

-- a weight above the largest (fresh, load, restore)
abbrev pub bad_weight : ℕ
bad_weight = 32

-- the day is 0 (add, herd list, load, restore)
abbrev pub bad_day : ℕ
bad_day = 33

-- A refusal is a list of tests in the rules' order: the first that stops the call gives its number, and later ones are
-- not worked out.

-- n, unless the test passes: then what is tested after it
abbrev pub unless : Bool → ℕ → ℕ → ℕ
unless test n rest = elim test [ true ↦ rest | false ↦ n ]

-- n when the test is met, else what is tested after it
abbrev pub when : Bool → ℕ → ℕ → ℕ
when test n rest = elim test [ true ↦ n | false ↦ rest ]

-- a refusal, or else what is tested after it
abbrev pub or_else : ℕ → ℕ → ℕ
or_else refusal rest = elim refusal [ zero ↦ rest | suc n ↦ suc n ]
