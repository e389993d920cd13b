-- What load tells of an image whose trees are spoiled, worked by hand from RULES 12.8: the number, and the slot counted over all. Each is a run that antt
-- computes. The image of order 2 has tags 1 to 4 in bucket 2, of the values 10, 13, 13 and 20, and 4 is dead; its tags' first bytes are at 20, 28, 36 and
-- 44, its values at 52, 94, 136 and 178, its thresholds 32 bytes behind these, and its marks 36.
use Prim.Native.Nat.{ℕ}
use mathlib.Core.Path.{◌≡◌, refl}
use mathlib.Core.List.{List, [], ◌∷◌, ◌++◌, map, flatten}
use lib.ListN.{set}
use Rattle.image_rules.specs.Load.{load_reply}
use Rattle.worked.proofs.Computing.{performed}
use Rattle.worked.proofs.Imaged.{tag_bytes, record_bytes, dead_image}

-- the replies to loads into an area of 21 rows
told : List (List ℕ) → List (List ℕ)
unfolding performed
told images = map (λ image. let r = load_reply 21 image in r.refusal ∷ r.slot ∷ []) images

-- a threshold one too large in the first, the second and the last slot: 38
thresholds : told (set dead_image 84 4 ∷ set dead_image 126 1 ∷ set dead_image 210 1 ∷ []) ≡ (38 ∷ 0 ∷ []) ∷ (38 ∷ 1 ∷ []) ∷ (38 ∷ 3 ∷ []) ∷ []
unfolding told dead_image
thresholds = refl

-- tag 1 in slot 1, tag 3 in slot 1 before its own, tag 1 in slot 3, which is dead: 36 at the later
tags : told (set dead_image 28 1 ∷ set dead_image 28 3 ∷ set dead_image 44 1 ∷ []) ≡ (36 ∷ 1 ∷ []) ∷ (36 ∷ 2 ∷ []) ∷ (36 ∷ 3 ∷ []) ∷ []
unfolding told dead_image
tags = refl

-- slots 0 and 1 changed over, then 1 and 2, of which only the tags differ, and then 2 and 3 with their marks: 37 at the first of the two
swapped : List (List ℕ)
unfolding dead_image
swapped =
    set (set (set (set dead_image 20 2) 28 1) 52 13) 94 10
    ∷ set (set dead_image 28 3) 36 2
    ∷ set (set (set (set (set (set dead_image 36 4) 44 3) 136 20) 178 13) 172 1) 214 0
    ∷ []

places : told swapped ≡ (37 ∷ 0 ∷ []) ∷ (37 ∷ 1 ∷ []) ∷ (37 ∷ 2 ∷ []) ∷ []
unfolding told swapped
places = refl

-- two faults: tag 3 in slots 1 and 2 and a threshold before, in and behind the second of them; then 2 and 3 changed over, a threshold before and behind it
-- the other way round; and with a mark of 2, that of the last slot, 8 and no slot
twice : List (List ℕ)
unfolding dead_image
twice =
    set (set dead_image 28 3) 126 1
    ∷ set (set dead_image 28 3) 168 1
    ∷ set (set dead_image 28 3) 210 1
    ∷ set (set (set dead_image 28 3) 36 2) 84 4
    ∷ set (set (set dead_image 28 3) 36 2) 126 1
    ∷ set (set dead_image 84 4) 214 2
    ∷ set (set dead_image 28 3) 214 2
    ∷ []

first : told twice ≡ (38 ∷ 1 ∷ []) ∷ (36 ∷ 2 ∷ []) ∷ (36 ∷ 2 ∷ []) ∷ (38 ∷ 0 ∷ []) ∷ (37 ∷ 1 ∷ []) ∷ (8 ∷ 0 ∷ []) ∷ (8 ∷ 0 ∷ []) ∷ []
unfolding told twice
first = refl

-- equal tags in a bucket rank by slot. Of tags 1, 5 and 5 the third is nearer to the first than the second is, so the layout puts it before that: 37 at the
-- second slot though the tag is the same; the other way round all stand in their places, and 36 is at the third. Of tags 1, 2, 2 and 3 the layout puts the last
-- into slot 2, and 36 goes before 37 there
few_slots_lem : List ℕ → List ℕ → List (List ℕ) → List ℕ
unfolding flatten tag_bytes
few_slots_lem sizes nationals records =
    (2 ∷ 0 ∷ 2 ∷ 0 ∷ 1 ∷ 1 ∷ 1 ∷ 1 ∷ 0 ∷ 0 ∷ 0 ∷ 0 ∷ 0 ∷ 0 ∷ 0 ∷ 0 ∷ []) ++ sizes ++ flatten (map tag_bytes nationals) ++ flatten records

valued : ℕ → ℕ → List ℕ
unfolding record_bytes
valued value threshold = record_bytes (1 ∷ 0 ∷ []) value threshold 0

alike : List (List ℕ)
unfolding few_slots_lem valued
alike =
    few_slots_lem (3 ∷ 0 ∷ 3 ∷ 0 ∷ []) (1 ∷ 5 ∷ 5 ∷ []) (valued 10 1 ∷ valued 20 0 ∷ valued 11 0 ∷ [])
    ∷ few_slots_lem (3 ∷ 0 ∷ 3 ∷ 0 ∷ []) (1 ∷ 5 ∷ 5 ∷ []) (valued 10 1 ∷ valued 11 0 ∷ valued 20 0 ∷ [])
    ∷ few_slots_lem (4 ∷ 0 ∷ 4 ∷ 0 ∷ []) (1 ∷ 2 ∷ 2 ∷ 3 ∷ []) (valued 10 2 ∷ valued 11 1 ∷ valued 30 0 ∷ valued 12 0 ∷ [])
    ∷ []

ranked : told alike ≡ (37 ∷ 1 ∷ []) ∷ (36 ∷ 2 ∷ []) ∷ (36 ∷ 2 ∷ []) ∷ []
unfolding told alike
ranked = refl

-- order 1: tag 5 live in bucket 0, and in bucket 1 tags 1 and 5 of the values 10 and 11, with these marks
two_buckets : ℕ → ℕ → List ℕ
unfolding tag_bytes record_bytes
two_buckets first second =
    (1 ∷ 0 ∷ 2 ∷ 0 ∷ 1 ∷ 1 ∷ 1 ∷ 1 ∷ [])
    ++ (1 ∷ 0 ∷ 1 ∷ 0 ∷ 2 ∷ 0 ∷ 1 ∷ 0 ∷ [])
    ++ tag_bytes 5
    ++ tag_bytes 1
    ++ tag_bytes 5
    ++ record_bytes (1 ∷ 0 ∷ []) 20 0 0
    ++ record_bytes (1 ∷ 0 ∷ []) 10 1 first
    ++ record_bytes (1 ∷ 0 ∷ []) 11 0 second

-- a dead tag may equal one in another bucket; a live one is 36 at the later, and counted over all it is slot 2. Before it slot 1, the first of bucket 1, has
-- a threshold of 2 (byte 114)
apart : told (two_buckets 0 1 ∷ two_buckets 1 0 ∷ set (two_buckets 1 0) 114 2 ∷ []) ≡ (0 ∷ 0 ∷ []) ∷ (36 ∷ 2 ∷ []) ∷ (38 ∷ 1 ∷ []) ∷ []
unfolding told two_buckets
apart = refl
