-- Every refusal number of RULES 14.1 at least once, with what the areas then hold: a refusal replies its number and zeros, but for a load's slot, and leaves
-- every area as it was, but 6 on range and nearest leaves the result area all zero, and 6 on lots the summary and the listing. Each is a run that antt
-- computes.
use Prim.Native.Nat.{ℕ, ◌+◌, ◌-◌, ◌^◌}
use mathlib.Core.Path.{◌≡◌, refl}
use mathlib.Core.List.{List, [], ◌∷◌, ◌++◌, map}
use lib.IntN.{ℤ, pos, negsuc}
use lib.ListN.{set, take, replicate}
use Rattle.metric_rules.specs.declared.Profile.{Profile}
use Rattle.metric_rules.specs.Row.{row_width, zero_row, row_of, query_row, with_mark}
use Rattle.table_rules.specs.Geometry.{first_slot}
use Rattle.table_rules.specs.Table.{Table, row_at, pair_row, put_sizes}
use Rattle.table_rules.specs.LookUp.{not_found, look_up_reply}
use Rattle.call_rules.specs.Calls.{Call, Areas, draft_areas}
use Rattle.worked.proofs.Computing.{performed}
use Rattle.worked.proofs.Imaged.{dead_image}
use Rattle.worked.proofs.Running.{fresh, load, restore, write, save, add, remove, read_list, look_up, range, nearest, dues, range_batch, lots, weighing}
use Rattle.worked.proofs.Running.{by, tag, valued, areas_for, area_rows, reply_numbers, list_of, item_line, table}

-- the table of the four items, written out, so that no try works it out again; and that it is theirs
laid : Table
unfolding row_of tag valued zero_row pair_row
laid =
    ((2 ∷ 0 ∷ 1 ∷ 1 ∷ 1 ∷ 1 ∷ replicate 7 0) ∷ zero_row ∷ zero_row ∷ pair_row 4 4 ∷ zero_row ∷ zero_row ∷ zero_row ∷ [])
    ++ (row_of (tag 1) (valued 10) 3 0 1 ∷ row_of (tag 2) (valued 13) 0 0 1 ∷ row_of (tag 3) (valued 13) 0 0 1 ∷ row_of (tag 4) (valued 20) 0 0 1 ∷ [])
    ++ replicate 10 (replicate row_width 6)

table_laid : table ≡ laid
unfolding table laid
table_laid = refl

-- a call with the areas lent to it
record Try : Type 0 where
  call : Call
  table : Table
  areas : Areas call

on : Table → Call → Try
unfolding areas_for
on t c = record { call = c; table = t; areas = areas_for 9 c }

-- what a call left, in numbers: its reply, the table and its own areas
record Left : Type 0 where
  reply : List ℕ
  table : Table
  areas : List (List ℕ)

outcomes : List Try → List Left
unfolding performed reply_numbers area_rows
outcomes [] = []
outcomes (x ∷ xs) =
    let o = performed x.call x.table x.areas in
    record { reply = reply_numbers x.call o.reply o.areas; table = o.table; areas = area_rows x.call o.areas } ∷ outcomes xs

-- every area as it was, with these replies
refusals : List (List ℕ) → List Try → List Left
unfolding area_rows
refusals [] xs = []
refusals (r ∷ rs) [] = []
refusals (r ∷ rs) (x ∷ xs) = record { reply = r; table = x.table; areas = area_rows x.call x.areas } ∷ refusals rs xs

number : ℕ → List ℕ
number n = n ∷ []

no_add : ℕ → List ℕ
no_add n = n ∷ 0 ∷ 0 ∷ []

no_remove : ℕ → List ℕ
no_remove n = n ∷ 0 ∷ []

no_profile : ℕ → List ℕ
no_profile n = n ∷ 0 ∷ 0 ∷ []

no_search : ℕ → List ℕ
no_search n = n ∷ 0 ∷ 0 ∷ []

no_image_lem : ℕ → List ℕ
no_image_lem n = n ∷ 0 ∷ []

no_dues : ℕ → List ℕ
no_dues n = n ∷ 0 ∷ []

-- a batch's numbers found, and its area of nine entries
no_ranges : ℕ → List ℕ
no_ranges n = n ∷ 0 ∷ replicate 16 0 ++ replicate 18 8

-- a load or a restore refused, at a slot or at none
no_load : ℕ → ℕ → List ℕ
no_load n slot = n ∷ slot ∷ []

-- a herd list refused at a line with nothing added
no_list : ℕ → ℕ → List ℕ
no_list n line = n ∷ line ∷ 0 ∷ 0 ∷ []

below : Profile
below = record { measures = pos 0 ∷ pos 0 ∷ pos 0 ∷ negsuc 1_000_000 ∷ []; code = 0 ∷ 0 ∷ [] }

-- that table with another header, of weights 0 or of a largest weight; other sizes in bucket 2, or a fifth live item in bucket 0; and a mark that is neither 0
-- nor 1
headed : ℕ → ℕ → Table
unfolding pair_row laid
headed order metric = set laid 0 (pair_row order metric)

weighted : ℕ → ℕ → Table
unfolding laid
weighted metric most = set laid 0 (2 ∷ metric ∷ 0 ∷ 1 ∷ 100 ∷ most ∷ replicate 7 0)

sized : ℕ → ℕ → ℕ → Table
unfolding put_sizes laid
sized k built live = put_sizes k built live laid

mis_marked : Table
unfolding with_mark row_at first_slot laid
mis_marked = let at = first_slot 2 2 + 1 in set laid at (with_mark 2 (row_at laid at))

-- the same with the live size that its 0 marks number, so that the mark alone is wrong
marked_two : Table
unfolding put_sizes mis_marked
marked_two = put_sizes 2 4 3 mis_marked

-- and with item 1 of so many hundredths of a kilo in the first slot of bucket 2
weighing1 : ℤ → Table
unfolding first_slot row_of tag laid
weighing1 weight = set laid (first_slot 2 2) (row_of (tag 1) (record { measures = weight ∷ negsuc 0 ∷ negsuc 0 ∷ negsuc 0 ∷ []; code = 0 ∷ 0 ∷ [] }) 3 0 1)

-- an image of order 0 and metric 0 in form 1 or 2, with weights 1 and one live item of these bytes
one_record : ℕ → List ℕ → List ℕ
one_record form bytes = (0 ∷ 0 ∷ form ∷ 0 ∷ 1 ∷ 1 ∷ 1 ∷ 1 ∷ 1 ∷ 0 ∷ 1 ∷ 0 ∷ []) ++ bytes

tries : List Try
unfolding on laid tag valued below headed weighted sized mis_marked marked_two weighing1 one_record dead_image list_of item_line
tries =
    on laid (add (10 ^ 12) (valued 1_000_001) 1)
    ∷ on laid (add 999_999_999_999 (valued 1_000_001) 0)
    ∷ on laid (remove (10 ^ 15))
    ∷ on laid (look_up 0)
    ∷ on laid (add (tag 4) below 0)
    ∷ on laid (range below 0 0)
    ∷ on laid (nearest below 0 0)
    ∷ on laid (fresh 13 (by 3))
    ∷ on laid (fresh 12 (weighing 3 (101 ∷ 0 ∷ 0 ∷ 0 ∷ [])))
    ∷ on laid (fresh 12 (weighing 1 (0 ∷ 100 ∷ 0 ∷ 101 ∷ [])))
    ∷ on laid (fresh 12 (weighing 1 (0 ∷ 100 ∷ 0 ∷ 100 ∷ [])))
    ∷ on laid (nearest (valued 0) 0 0)
    ∷ on laid write
    ∷ on laid (load (0 ∷ 0 ∷ 0 ∷ []))
    ∷ on laid (load (13 ∷ 3 ∷ 3 ∷ 0 ∷ []))
    ∷ on laid (load (0 ∷ 3 ∷ 3 ∷ 0 ∷ []))
    ∷ on laid (load (0 ∷ 2 ∷ 3 ∷ 0 ∷ []))
    ∷ on laid (load (0 ∷ 2 ∷ 0 ∷ 1 ∷ []))
    ∷ on laid (load (0 ∷ 2 ∷ 1 ∷ 0 ∷ 101 ∷ 0 ∷ 0 ∷ []))
    ∷ on laid (load (0 ∷ 2 ∷ 2 ∷ 0 ∷ 101 ∷ 0 ∷ 0 ∷ []))
    ∷ on laid (load (0 ∷ 1 ∷ 1 ∷ 0 ∷ 0 ∷ 0 ∷ 0 ∷ 101 ∷ []))
    ∷ on laid (load (0 ∷ 1 ∷ 2 ∷ 0 ∷ 0 ∷ 0 ∷ 0 ∷ 101 ∷ []))
    ∷ on laid (load (0 ∷ 1 ∷ 1 ∷ 0 ∷ 100 ∷ 100 ∷ 100 ∷ 100 ∷ []))
    ∷ on laid (load (0 ∷ 0 ∷ 0 ∷ 0 ∷ 1 ∷ 0 ∷ 0 ∷ []))
    ∷ on laid (load (0 ∷ 0 ∷ 0 ∷ 0 ∷ 1 ∷ 0 ∷ 0 ∷ 0 ∷ []))
    ∷ on laid (load (0 ∷ 0 ∷ 0 ∷ 0 ∷ 1 ∷ 0 ∷ 1 ∷ 0 ∷ []))
    ∷ on [] (load (0 ∷ 0 ∷ 0 ∷ 0 ∷ 0 ∷ 0 ∷ 0 ∷ 0 ∷ []))
    ∷ on laid (load (0 ∷ 0 ∷ 0 ∷ 0 ∷ 1 ∷ 0 ∷ 1 ∷ 0 ∷ replicate 48 0))
    ∷ on laid (load (one_record 1 (replicate 48 0)))
    ∷ on laid (load (one_record 2 (replicate 48 0)))
    ∷ on [] (load (one_record 2 (replicate 50 0)))
    ∷ on laid (load (one_record 2 (replicate 50 0)))
    ∷ on laid (load (one_record 2 (replicate 49 0 ++ (1 ∷ []))))
    ∷ on laid (load (set dead_image 28 3))
    ∷ on laid (load (set (set dead_image 20 2) 28 1))
    ∷ on laid (load (set dead_image 210 1))
    ∷ on laid (add (tag 4) (valued 0) 0)
    ∷ on laid (add (tag 4) (valued 0) 1)
    ∷ on laid (remove (tag 5))
    ∷ on laid (look_up (tag 5))
    ∷ on laid (add (tag 5) (valued 0) 1)
    ∷ on [] (add 0 below 0)
    ∷ on (take 10 laid) (look_up 0)
    ∷ on (take 10 laid) (fresh 2 (by 0))
    ∷ record { call = add (tag 5) (valued 0) 1; table = laid; areas = replicate 3 (replicate row_width 7) }
    ∷ on (take 1 (headed 13 0)) (remove 0)
    ∷ on (headed 2 3) (range below 0 0)
    ∷ on (headed 2 2) (range below 0 0)
    ∷ on (take 10 (weighted 1 101)) (look_up 0)
    ∷ on (weighted 1 101) (look_up 0)
    ∷ on (weighted 1 100) (look_up 0)
    ∷ on (weighted 0 4_294_967_295) (add 0 below 0)
    ∷ on (sized 2 4 1) (look_up 0)
    ∷ on (sized 0 1 1) write
    ∷ on mis_marked (add 0 below 0)
    ∷ on marked_two (add (tag 5) (valued 0) 1)
    ∷ on marked_two (remove (tag 1))
    ∷ on marked_two (lots (9 ∷ []) 1)
    ∷ on [] (read_list (take 21 (list_of [])) 0)
    ∷ on [] (read_list (list_of []) 1)
    ∷ on [] (read_list (list_of []) 0)
    ∷ on [] (read_list (list_of (take 39 (item_line 5 0) ∷ [])) 0)
    ∷ on [] (read_list (list_of (item_line 5 0 ∷ [])) 0)
    ∷ on laid (read_list (list_of (set (set (item_line 5 0) 1 48) 2 48 ∷ [])) 0)
    ∷ on laid (read_list (list_of (item_line 4 1_000_001 ∷ [])) 0)
    ∷ on laid (read_list (list_of (item_line 4 1_000_000 ∷ [])) 0)
    ∷ on laid (read_list (list_of (item_line 4 1_000_000 ∷ [])) 1)
    ∷ on laid (read_list (list_of (item_line 5 0 ∷ [])) 65_535)
    ∷ on [] (save 0)
    ∷ on [] (save 9)
    ∷ on [] (save 8)
    ∷ on (sized 0 1 1) (save 1)
    ∷ on laid (save 1)
    ∷ record { call = save 8; table = sized 0 1 1; areas = replicate 64 5 }
    ∷ record { call = save 8; table = laid; areas = replicate 64 5 }
    ∷ on [] (restore [] 0)
    ∷ on [] (restore (replicate 72 1) 9)
    ∷ on [] (restore (replicate 31 1) 8)
    ∷ on [] (restore (replicate 32 0) 8)
    ∷ on [] (restore (set (replicate 32 0) 28 1) 8)
    ∷ on [] (restore (replicate 24 0 ++ (4 ∷ 0 ∷ 0 ∷ 0 ∷ 13 ∷ 0 ∷ 0 ∷ 0 ∷ []) ++ replicate 39 0) 4)
    ∷ on laid (restore (replicate 24 0 ++ (4 ∷ 0 ∷ 0 ∷ 0 ∷ 0 ∷ 0 ∷ 0 ∷ 0 ∷ []) ++ replicate 39 0) 4)
    ∷ on laid (restore ((220 ∷ 0 ∷ 0 ∷ 0 ∷ []) ++ set dead_image 210 1 ++ replicate 1568 0) 1)
    ∷ on [] (dues (0 ∷ []))
    ∷ on (headed 2 3) (dues (0 ∷ []))
    ∷ on (take 10 laid) (dues (0 ∷ []))
    ∷ on (weighted 1 101) (dues (0 ∷ []))
    ∷ on laid (dues (tag 1 ∷ 0 ∷ []))
    ∷ on mis_marked (dues (tag 2 ∷ []))
    ∷ record { call = dues (tag 1 ∷ tag 5 ∷ []); table = weighing1 (negsuc 0); areas = 4 ∷ [] }
    ∷ record { call = dues (tag 2 ∷ tag 1 ∷ []); table = weighing1 (negsuc 0); areas = 4 ∷ [] }
    ∷ on (weighing1 (negsuc (2 ^ 31 - 1))) (dues (tag 1 ∷ []))
    ∷ record { call = dues (tag 1 ∷ tag 2 ∷ []); table = weighing1 (pos 0); areas = 4 ∷ [] }
    ∷ on [] (lots [] 0)
    ∷ on (headed 2 3) (lots [] 0)
    ∷ on (take 10 laid) (lots [] 0)
    ∷ record { call = lots [] 0; table = weighted 1 101; areas = draft_areas (replicate 3 (9 ∷ 9 ∷ [])) [] [] }
    ∷ record { call = lots [] 0; table = weighted 1 101; areas = draft_areas (replicate 4 (9 ∷ 9 ∷ [])) [] [] }
    ∷ on mis_marked (lots [] 0)
    ∷ record { call = lots [] 0; table = laid; areas = draft_areas (replicate 4 (9 ∷ 9 ∷ [])) [] [] }
    ∷ on laid (lots [] 1)
    ∷ on laid (lots (replicate 33 9) 33)
    ∷ on laid (lots (9 ∷ []) 0)
    ∷ on laid (lots (9 ∷ []) 2)
    ∷ on [] (range_batch [])
    ∷ on (headed 2 3) (range_batch [])
    ∷ on laid (range_batch [])
    ∷ on laid (range_batch (replicate 17 (query_row below 0 0)))
    ∷ on laid (range_batch (query_row (valued 0) 0 0 ∷ query_row below 0 0 ∷ []))
    ∷ []

-- in the order of the tries: the first number that applies
expected : List (List ℕ)
unfolding number no_add no_remove no_profile no_search no_image_lem no_load no_list no_dues no_ranges
expected =
    no_add 2
    ∷ no_add 1
    ∷ no_remove 1
    ∷ no_profile 1
    ∷ no_add 2
    ∷ no_search 2
    ∷ no_search 2
    ∷ number 3
    ∷ number 4
    ∷ number 32
    ∷ number 23
    ∷ no_search 5
    ∷ no_image_lem 6
    ∷ no_load 7 0
    ∷ no_load 3 0
    ∷ no_load 4 0
    ∷ no_load 8 0
    ∷ no_load 8 0
    ∷ no_load 7 0
    ∷ no_load 7 0
    ∷ no_load 32 0
    ∷ no_load 32 0
    ∷ no_load 7 0
    ∷ no_load 7 0
    ∷ no_load 24 0
    ∷ no_load 7 0
    ∷ no_load 23 0
    ∷ no_load 8 0
    ∷ no_load 8 0
    ∷ no_load 7 0
    ∷ no_load 23 0
    ∷ no_load 33 0
    ∷ no_load 8 0
    ∷ no_load 36 2
    ∷ no_load 37 0
    ∷ no_load 38 3
    ∷ no_add 33
    ∷ no_add 20
    ∷ no_remove 21
    ∷ no_profile 21
    ∷ no_add 22
    ∷ no_add 23
    ∷ no_profile 23
    ∷ number 23
    ∷ no_add 23
    ∷ no_remove 24
    ∷ no_search 24
    ∷ no_search 2
    ∷ no_profile 23
    ∷ no_profile 24
    ∷ no_profile 1
    ∷ no_add 24
    ∷ no_profile 24
    ∷ no_image_lem 24
    ∷ no_add 24
    ∷ no_add 24
    ∷ no_remove 24
    ∷ number 24
    ∷ no_list 30 1
    ∷ no_list 0 0
    ∷ no_list 0 0
    ∷ no_list 31 2
    ∷ no_list 23 2
    ∷ no_list 1 2
    ∷ no_list 2 2
    ∷ no_list 33 2
    ∷ no_list 20 2
    ∷ no_list 22 2
    ∷ no_image_lem 34
    ∷ no_image_lem 34
    ∷ no_image_lem 23
    ∷ no_image_lem 24
    ∷ no_image_lem 6
    ∷ no_image_lem 24
    ∷ no_image_lem 6
    ∷ no_load 34 0
    ∷ no_load 34 0
    ∷ no_load 35 0
    ∷ no_load 35 0
    ∷ no_load 7 0
    ∷ no_load 3 0
    ∷ no_load 7 0
    ∷ no_load 38 3
    ∷ no_dues 23
    ∷ no_dues 24
    ∷ no_dues 23
    ∷ no_dues 24
    ∷ no_dues 21
    ∷ no_dues 21
    ∷ no_dues 21
    ∷ no_dues 39
    ∷ no_dues 39
    ∷ no_dues 6
    ∷ number 23
    ∷ number 24
    ∷ number 23
    ∷ number 23
    ∷ number 24
    ∷ number 24
    ∷ number 41
    ∷ number 41
    ∷ number 41
    ∷ number 41
    ∷ number 41
    ∷ no_ranges 23
    ∷ no_ranges 24
    ∷ no_ranges 40
    ∷ no_ranges 40
    ∷ no_ranges 2
    ∷ []

unchanged : outcomes tries ≡ refusals expected tries
unfolding outcomes refusals tries expected
unchanged = refl

-- a refused look up has no profile and no day either
profiles : map (look_up_reply laid) (0 ∷ tag 5 ∷ []) ≡ not_found 1 ∷ not_found 21 ∷ []
unfolding performed laid tag
profiles = refl

-- a save does not ask for the marks: with mark 2 in its second slot, and a live size of 4 or the 3 that fit, a table is saved as it is, here as the last of
-- eight parts of 224 bytes. Its live size is at byte 18 of the image and that mark at 130
saves : List Left
unfolding outcomes mis_marked marked_two
saves =
    outcomes
    (record { call = save 8; table = mis_marked; areas = replicate 1792 5 } ∷ record { call = save 8; table = marked_two; areas = replicate 1792 5 } ∷ [])

saved : Table → List ℕ → Left
saved t image = record { reply = 0 ∷ 220 ∷ []; table = t; areas = (replicate 1568 5 ++ (220 ∷ 0 ∷ 0 ∷ 0 ∷ []) ++ image) ∷ [] }

marks_saved :
    saves
    ≡ saved mis_marked (set (set (set dead_image 214 0) 130 2) 18 4)
    ∷ saved marked_two (set (set dead_image 214 0) 130 2)
    ∷ []
unfolding saves saved mis_marked marked_two dead_image
marks_saved = refl

-- nor does a batch, in which a slot of mark 2 is counted and not found
answered : Table → Left
unfolding outcomes tag
answered t =
    record {
      reply = 0 ∷ 4 ∷ 1 ∷ replicate 15 0 ++ (tag 3 ∷ 0 ∷ 0 ∷ 0 ∷ []);
      table = t;
      areas = (tag 3 ∷ 0 ∷ []) ∷ (0 ∷ 0 ∷ []) ∷ [];
    }

marks_answered :
    outcomes
    (record { call = range_batch (query_row (valued 13) 0 0 ∷ []); table = mis_marked; areas = replicate 2 (8 ∷ 8 ∷ []) }
    ∷ record { call = range_batch (query_row (valued 13) 0 0 ∷ []); table = marked_two; areas = replicate 2 (8 ∷ 8 ∷ []) }
    ∷ [])
    ≡ answered mis_marked ∷ answered marked_two ∷ []
unfolding outcomes answered mis_marked marked_two
marks_answered = refl

-- 6 on range and nearest: four and two entries for an area of one
emptied : Left
unfolding laid no_search
emptied = record { reply = no_search 6; table = laid; areas = (0 ∷ 0 ∷ []) ∷ [] }

zeroed :
    outcomes
    (record { call = range (valued 0) 99 0; table = laid; areas = (8 ∷ 8 ∷ []) ∷ [] }
    ∷ record { call = nearest (valued 0) 2 0; table = laid; areas = (8 ∷ 8 ∷ []) ∷ [] }
    ∷ [])
    ≡ emptied ∷ emptied ∷ []
unfolding outcomes valued emptied
zeroed = refl

-- dues of a list with a tag twice, by a foreign measure of 32 bits, 0 and the largest: the area past the list keeps its content
paying :
    outcomes
    (on (weighing1 (pos (2 ^ 31 - 1))) (dues (tag 1 ∷ tag 4 ∷ tag 1 ∷ [])) ∷ on (weighing1 (pos 0)) (dues (tag 1 ∷ [])) ∷ [])
    ≡ record { reply = 0 ∷ 171_798_692 ∷ []; table = weighing1 (pos (2 ^ 31 - 1)); areas = (85_899_346 ∷ 0 ∷ 85_899_346 ∷ replicate 6 4) ∷ [] }
    ∷ record { reply = 0 ∷ 0 ∷ []; table = weighing1 (pos 0); areas = (0 ∷ replicate 8 4) ∷ [] }
    ∷ []
unfolding outcomes on weighing1
paying = refl

-- the same with tag 1 in two slots, which only a foreign table holds, and the lots of a radius of 2: equal tags go by slot, so that the first leads a lot of
-- its own and the second another. The work area is zero in its first four entries, and summary and listing past theirs
twins : Table
unfolding first_slot row_of tag valued laid
twins = set laid (first_slot 2 2 + 1) (row_of (tag 1) (valued 13) 0 0 1)

drafting :
    (let areas = draft_areas (replicate 5 (9 ∷ 9 ∷ [])) (replicate 2 (3 ∷ 3 ∷ [])) (replicate 5 (8 ∷ 8 ∷ [])) in
    outcomes (record { call = lots (2 ∷ []) 1; table = twins; areas = areas } ∷ []))
    ≡ record {
      reply = number 0;
      table = twins;
      areas = replicate 4 (0 ∷ 0 ∷ [])
          ++ ((9 ∷ 9 ∷ []) ∷ (3 ∷ 2 ∷ []) ∷ (0 ∷ 0 ∷ []) ∷ (tag 1 ∷ 1 ∷ []) ∷ (tag 1 ∷ 2 ∷ []) ∷ (tag 3 ∷ 2 ∷ []) ∷ (tag 4 ∷ 3 ∷ []) ∷ (0 ∷ 0 ∷ []) ∷ []);
    }
    ∷ []
unfolding outcomes twins tag number
drafting = refl

-- 6 on a drafting, for the summary and for the listing: both are zero, and the work area is kept
undrafted : List (List ℕ) → Left
unfolding laid number
undrafted areas = record { reply = number 6; table = laid; areas = replicate 4 (9 ∷ 9 ∷ []) ++ areas }

drafts_short :
    outcomes
    (record { call = lots (2 ∷ 2 ∷ []) 1; table = laid; areas = draft_areas (replicate 4 (9 ∷ 9 ∷ [])) (replicate 1 (3 ∷ 3 ∷ [])) (replicate 4 (8 ∷ 8 ∷ [])) }
    ∷ record { call = lots (2 ∷ []) 1; table = laid; areas = draft_areas (replicate 4 (9 ∷ 9 ∷ [])) (replicate 1 (3 ∷ 3 ∷ [])) (replicate 3 (8 ∷ 8 ∷ [])) }
    ∷ [])
    ≡ undrafted (replicate 5 (0 ∷ 0 ∷ [])) ∷ undrafted (replicate 4 (0 ∷ 0 ∷ [])) ∷ []
unfolding outcomes undrafted
drafts_short = refl
