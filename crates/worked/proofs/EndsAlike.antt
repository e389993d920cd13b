-- The claims on what history cannot show, on small lists: what they ask for holds of these lists, and what they say is then this, in numbers.
use Prim.Native.Nat.{ℕ, ◌+◌, ◌*◌, ◌/◌, ◌%◌, ◌^◌, ◌<◌, ◌≤◌}
use native.Mathlib.Omega.{arith}
use native.Mathlib.Nat.{div-eq_of_lt}
use native.Mathlib.Decide.{dec_lt}
use mathlib.Core.Path.{◌≡◌, refl, sym, ap, subst}
use mathlib.Core.Bool.{true, false}
use mathlib.Core.List.Permᴰ
use mathlib.Core.List.{List, [], ◌∷◌}
use lib.Dec.{leb, ltb}
use lib.IntN.{pos}
use lib.ListN.{length, replicate, take, drop}
use lib.Pow.{pow_mono}
use borrow.Author.Tests.{leb-true, ltb-true}
use mir.Syntax.{w32}
use mir.Val.{SFits}
use mir.Facts.{sfits_lit}
use Rattle.lists.specs.Lists.{All}
use Rattle.lists.proofs.Lists.{all_weaken}
use Rattle.lists.proofs.Tests.{every_all}
use Rattle.metric_rules.specs.Row.{Row, row_of, IsProfile, measure, code_word}
use Rattle.metric_rules.specs.Distance.{IsSpace, weight}
use Rattle.metric_rules.proofs.Elements.{each_at}
use Rattle.search_rules.specs.Range.{Entry}
use Rattle.table_rules.specs.Table.{Table, in_use, slots_of, live_slots}
use Rattle.call_rules.specs.Calls.{Begin, Ask, Call, ask_reply, areas_answered}
use Rattle.history.specs.Trace.{Step, own_rows, overlaid, left_by, begin_shown, change_shown, ask_shown, shown, no_sums, plus, starting, begun_sums, if_accepted}
use Rattle.history.specs.Trace.{counted, sums_after, state_after, shown_at, state_after_all}
use Rattle.history.specs.Model.{item_of}
use Rattle.history.specs.History.{before, opening, History, steps, final_state}
use Rattle.history.specs.Represents.{items_in}
use Rattle.history.specs.Agreement.{SameItems, SameAnswers}
use Rattle.history.specs.Counter.{bit, Highest, OnlyAdded, CountsAdds}
use Rattle.worked.proofs.Computing.{performed}
use Rattle.worked.proofs.Running.{fresh, load, restore, write, save, add, remove, read_list, range, by, tag, valued, areas_for, scratch, list_of, item_line}
use Rattle.history.proofs.Theorems.{independent_of_history, binary_counter}

roomy : List Call → List Step
unfolding areas_for scratch
roomy [] = []
roomy (c ∷ cs) = record { call = c; table = scratch; areas = areas_for 9 c } ∷ roomy cs

valued_is : (v : ℕ) → SFits w32 (pos v) → IsProfile (valued v)
unfolding valued measure code_word
valued_is v fits =
    record {
      four = refl;
      two = refl;
      signed = each_at (SFits w32) (pos 0) (sfits_lit tt) (valued v).measures (fits, (sfits_lit tt, (sfits_lit tt, (sfits_lit tt, tt))));
      wide = each_at (λ (n : ℕ). n < 2 ^ 64) 0 (omega arith) (valued v).code (omega arith, (omega arith, tt));
    }

by_is : IsSpace (by 0)
unfolding weight
by_is =
    record {
      metric = omega arith;
      weights =
          record {
            four = refl;
            fits = each_at (λ (n : ℕ). n < 2 ^ 32) 0 (omega arith) (1 ∷ 1 ∷ 1 ∷ 1 ∷ []) (omega arith, (omega arith, (omega arith, (omega arith, tt))));
          };
    }

-- order 1: items 1 and 2, with 10 and 14, of days 5 and 6
first : History
unfolding performed before opening shown_at shown begin_shown own_rows overlaid scratch roomy tag valued
first =
    record {
      initial = scratch;
      first = Begin.fresh 1 (by 0);
      area = scratch;
      rest = roomy (add (tag 1) (valued 10) 5 ∷ add (tag 2) (valued 14) 6 ∷ []);
      accepted = refl;
      arguments = (
        (omega arith, by_is),
        ((omega arith, valued_is 10 (sfits_lit tt), omega arith), ((omega arith, valued_is 14 (sfits_lit tt), omega arith), tt)),
      );
    }

-- order 2: item 3 in between, struck out again; items 2 and 1 in this order by bucket
second : History
unfolding performed before opening shown_at shown begin_shown own_rows overlaid scratch roomy tag valued
second =
    record {
      initial = scratch;
      first = Begin.fresh 2 (by 0);
      area = scratch;
      rest = roomy (add (tag 1) (valued 10) 5 ∷ add (tag 3) (valued 30) 7 ∷ remove (tag 3) ∷ add (tag 2) (valued 14) 6 ∷ []);
      accepted = refl;
      arguments = (
        (omega arith, by_is),
        (
          (omega arith, valued_is 10 (sfits_lit tt), omega arith),
          ((omega arith, valued_is 30 (sfits_lit tt), omega arith), (omega arith, ((omega arith, valued_is 14 (sfits_lit tt), omega arith), tt))),
        ),
      );
    }

same : SameItems (final_state first).table (final_state second).table
unfolding performed first second final_state steps state_after_all state_after left_by items_in item_of
same = record { space = refl; items = Permᴰ.swap refl refl }

abbrev here : Table
here = overlaid (final_state first).table scratch

abbrev there : Table
there = overlaid (final_state second).table scratch

alike : SameAnswers here there
unfolding performed first second final_state steps state_after_all state_after left_by scratch
alike = independent_of_history first second same scratch scratch (omega arith) (omega arith)

area : ℕ → List Entry
area n = replicate n (8 ∷ 8 ∷ [])

-- both items are at distance 2 from 12, and go by tag whatever bucket they are in: into an area for five entries and one for two
ranges : ((ask_reply (Ask.range (valued 12) 2 0) there (area 2)).found ≡ 2)
    × (take 2 (areas_answered (Ask.range (valued 12) 2 0) there (area 2)) ≡ (tag 1 ∷ 2 ∷ []) ∷ (tag 2 ∷ 2 ∷ []) ∷ [])
unfolding same area valued tag
ranges =
    let agree = alike.ranges (valued 12) 2 0 (area 5) (area 2) (record { here = λ e. absurd (omega (arith, e)); there = omega arith }) in
    (sym agree.found, sym agree.entries)

-- and the one nearest is item 1 in both
nearests : take 1 (areas_answered (Ask.nearest (valued 12) 1 0) there (area 1)) ≡ (tag 1 ∷ 2 ∷ []) ∷ []
unfolding same area valued tag
nearests = sym (alike.nearests (valued 12) 1 0 (area 1) (area 1) (record { here = λ e. absurd (omega (arith, e)); there = omega arith })).entries

-- two queries in one call: within 2 of 12, and at 14 from day 6 on
queries : List Row
unfolding valued row_of
queries = row_of 0 (valued 12) 2 0 0 ∷ row_of 0 (valued 14) 0 0 6 ∷ []

-- the first finds both items and the second item 2 alone, in parts of two entries: into an area for five entries and one for four
batches : (take 2 (ask_reply (Ask.range_batch queries) there (area 4)).found ≡ 2 ∷ 1 ∷ [])
    × (take 1 (drop 2 (areas_answered (Ask.range_batch queries) there (area 4))) ≡ (tag 2 ∷ 0 ∷ []) ∷ [])
unfolding same area queries valued tag
batches =
    let found : List ℕ = (ask_reply (Ask.range_batch queries) here (area 5)).found in
    let few = all_weaken (λ n h. leb-true n 2 h) found (every_all (λ n. leb n 2) found refl) in
    let agree = alike.batches queries (area 5) (area 4) (record { here = λ e. absurd (omega (arith, e)); there = few }) in
    (sym (ap (take 2) agree.found), sym (agree.entries 1 (omega arith)))

lines : List ℕ
unfolding list_of item_line
lines = list_of (item_line 2 13 ∷ item_line 3 20 ∷ item_line 1 10 ∷ [])

lines_are : All (λ b. b < 2 ^ 8) lines
unfolding performed lines
lines_are = all_weaken (λ b h. ltb-true b 256 h) lines (every_all (λ b. ltb b 256) lines refl)

-- order 2: an add, refused calls, a search and a writing, and of a herd list two lines before one with a live tag: three items added
third : History
unfolding performed before opening shown_at shown begin_shown own_rows overlaid scratch roomy tag valued lines
third =
    record {
      initial = scratch;
      first = Begin.fresh 2 (by 0);
      area = scratch;
      rest =
          roomy
          (add (tag 1) (valued 10) 5
          ∷ remove (tag 9)
          ∷ fresh 13 (by 0)
          ∷ load []
          ∷ read_list lines 6
          ∷ range (valued 12) 2 0
          ∷ write
          ∷ save 3
          ∷ restore [] 9
          ∷ []);
      accepted = refl;
      arguments = (
        (omega arith, by_is),
        (
          (omega arith, valued_is 10 (sfits_lit tt), omega arith),
          (
            omega arith,
            (
              (omega arith, by_is),
              (tt, ((lines_are, omega arith), ((valued_is 12 (sfits_lit tt), omega arith, omega arith), (tt, (omega arith, ((tt, omega arith), tt)))))),
            ),
          ),
        ),
      );
    }

third_sums : (final_state third).sums ≡ record { adds = 3; removals = 0; distances = 1 }
unfolding performed third final_state steps state_after_all state_after left_by ask_shown change_shown no_sums plus starting begun_sums if_accepted counted sums_after
third_sums = refl

only : OnlyAdded (state_after (before scratch) (opening (Begin.fresh 2 (by 0)) scratch)) third.rest
unfolding third_sums
only = (
  tt,
  (
    (λ e. absurd (omega (arith, e))),
    ((λ e. absurd (omega (arith, e))), ((λ e. absurd (omega (arith, e))), (tt, (tt, (tt, (tt, ((λ e. absurd (omega (arith, e))), tt))))))),
  ),
)

counted_third : CountsAdds (final_state third)
unfolding third_sums
counted_third = binary_counter third 2 (by 0) refl only (omega arith)

-- 3 is 11 in binary: buckets 0 and 1 are in use, with 1 and 2 live items and no other slot, and bucket 2 is empty
buckets : (in_use (final_state third).table 0 ≡ true)
    × (length (live_slots (final_state third).table 1) ≡ 2)
    × (length (slots_of (final_state third).table 1) ≡ 2)
    × (in_use (final_state third).table 2 ≡ false)
unfolding third_sums bit
buckets = (
  (counted_third.buckets 0 (omega arith)).used,
  (counted_third.buckets 1 (omega arith)).live refl,
  (counted_third.buckets 1 (omega arith)).built refl,
  (counted_third.buckets 2 (omega arith)).used,
)

-- its highest one bit is bit 1, and there is but one such place: the build of the three adds keeps within 3·1·(1 + 1)/2
three : Highest 1 3
unfolding bit
three = record { one = refl; above = λ k l. ap (λ (n : ℕ). n % 2) (div-eq_of_lt {n = 3} {m = 2 ^ k} (omega (arith, pow_mono {i = 2} {j = k} l))) }

highest_once : {n p q : ℕ} → Highest p n → Highest q n → p ≡ q
highest_once {n} {p} {q} a b =
    elim (dec_lt p q) [
      | yes l ↦ absurd (omega (arith, a.above q l, b.one))
      | no h ↦ elim (dec_lt q p) [ yes l ↦ absurd (omega (arith, b.above p l, a.one)) | no g ↦ omega (arith, h, g) ]
    ]

bound : (final_state third).sums.distances ≤ 3 * 1 * (1 + 1) / 2
unfolding third_sums
bound =
    subst (λ (place : ℕ). (final_state third).sums.distances ≤ 3 * place * (place + 1) / 2) (highest_once counted_third.highest three) counted_third.bound
