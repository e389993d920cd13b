-- The parts of an area put in order one after the other: a part that is lent and given back changes in its own place alone.
use Prim.Native.Nat.{ℕ, suc, ◌+◌, ◌-◌, ◌*◌, ◌≤◌, ◌<◌}
use native.Mathlib.Omega.{arith}
use native.Mathlib.Nat.{suc-mul, mul-le-mul_right, lt_of_not-le}
use native.Mathlib.Decide.{dec_le}
use mathlib.Core.Path.{◌≡◌, sym, ap, ap₂, subst, ◌∙◌}
use mathlib.Core.Bool.{true, false}
use mathlib.Core.List.{List, [], ◌∷◌, ◌++◌, append_assoc}
use lib.ListN.{length, take, drop, get_or, replicate, length-take, length-drop, length-append, length-replicate, take-append-drop}
use lib.Seq.{sets, sets-eq, length-sets, length-take-le, drop-drop, drop_at, drop-append-le, take-append-le, take_all, take-add, get_or-take}
use lib.Dec.{leb}
use borrow.Rule.Slice.PartMut.{put_mid}
use borrow.Author.Tests.{le-leb, lt-leb}
use Rattle.lists.proofs.Tests.{scan_fails, scan_passes, scan_ends}
use Rattle.tree_rules.proofs.Stores.{sets_front}
use Rattle.tree_rules.proofs.Parts.{put_rest}
use Rattle.lists.specs.Lists.{every}
use Rattle.search_rules.specs.Range.{Entry, ordered}
use Rattle.tree_range_batch.specs.Together.{part_at}
use Rattle.tree_range_batch.proofs.Parts.{run_own, run_other}
use Rattle.table_rules.specs.Search.{Answer, zero_entry}
use Rattle.batch_rules.specs.Batch.{part_with, parts_with}
use Rattle.table_range_batch.specs.Below.{Ordered, InParts}

-- part j lent, and given back
module _ (size j : ℕ) (area : List Entry) (inside : suc j * size ≤ length area) where
  ends : j * size + size ≤ length area
  ends = omega (arith, suc-mul j size)

  pub part_lent : take (j * size + size - j * size) (drop (j * size) area) ≡ part_at size j area
  unfolding part_at
  part_lent = let k : j * size + size - j * size ≡ size = omega arith in ap (λ (n : ℕ). take n (drop (j * size) area)) k

  pub part_size_lem : length (part_at size j area) ≡ size
  unfolding part_at
  part_size_lem = omega (arith, length-take size (drop (j * size) area), length-drop (j * size) area, ends)

  module _ (last : List Entry) (kept : length last ≡ size) where
    back : put_mid (j * size) (j * size + size - j * size) area last ≡ sets area (j * size + 0) last
    back =
        let k : j * size + (j * size + size - j * size) ≡ j * size + length last = omega (arith, kept) in
        let z : j * size ≡ j * size + 0 = omega arith in
        ap (λ (xs : List Entry). take (j * size) area ++ (last ++ xs)) (drop-drop (j * size + size - j * size) (j * size) area ∙ ap (λ (n : ℕ). drop n area) k)
        ∙ sym (append_assoc (take (j * size) area) last (drop (j * size + length last) area))
        ∙ sym (sets-eq last area (j * size) (omega (arith, ends, kept)))
        ∙ ap (λ (n : ℕ). sets area n last) z

    pub back_length : length (put_mid (j * size) (j * size + size - j * size) area last) ≡ length area
    back_length = ap length back ∙ length-sets area (j * size + 0) last

    pub part-back : part_at size j (put_mid (j * size) (j * size + size - j * size) area last) ≡ last
    part-back =
        ap (part_at size j) back
        ∙ run_own size j area 0 last (omega (arith, kept))
        ∙ sym (take_all size (sets (part_at size j area) 0 last) (omega (arith, length-sets (part_at size j area) 0 last, part_size_lem)))
        ∙ sets_front last (part_at size j area) size (sym kept) (omega (arith, part_size_lem))

    pub other-back : (i : ℕ) → (i ≡ j → ⊥) → part_at size i (put_mid (j * size) (j * size + size - j * size) area last) ≡ part_at size i area
    other-back i apart = ap (part_at size i) back ∙ run_other size j area 0 last (omega (arith, kept)) i apart

-- the first n parts, one after the other
pub parts_joined : (size : ℕ) (answers : List Answer) (area : List Entry) → length answers * size ≤ length area
    → (other : Answer) → ((j : ℕ) → j < length answers → part_at size j area ≡ part_with size (get_or answers j other)) → take (length answers * size) area ≡ parts_with size answers
unfolding parts_with part_at
parts_joined size [] area fits other parts = let none : 0 * size ≡ 0 = omega arith in ap (λ (n : ℕ). take n area) none
parts_joined size (a ∷ answers) area fits other parts =
    let m = length answers in
    let next : suc m * size ≡ size + m * size = omega (arith, suc-mul m size) in
    let first : 0 * size ≡ 0 = omega arith in
    ap (λ (n : ℕ). take n area) next
    ∙ take-add size (m * size) area
    ∙ ap₂
    ◌++◌
    (sym (ap (λ (n : ℕ). take size (drop n area)) first) ∙ parts 0 (omega arith))
    (parts_joined size answers (drop size area) (omega (arith, length-drop size area, next, fits)) other
    (λ j h.
    let behind : size + j * size ≡ suc j * size = omega (arith, suc-mul j size) in
    ap (take size) (drop-drop (j * size) size area ∙ ap (λ (n : ℕ). drop n area) behind) ∙ parts (suc j) (omega arith)))

-- the parts before j are in order, the others as they were, and the numbers from j on decide
pub record OrderedTo (size n : ℕ) (found : List ℕ) (area₀ : List Entry) (j : ℕ) (area : List Entry) : Type 0 where
  pub decides : every (λ hits. leb hits size) (drop j (take n found)) ≡ every (λ hits. leb hits size) (take n found)
  pub done : (i : ℕ) → i < j → Ordered size found area₀ area i
  pub rest : (i : ℕ) → j ≤ i → part_at size i area ≡ part_at size i area₀
  pub same : length area ≡ length area₀

module _ {size n : ℕ} {found : List ℕ} {area₀ : List Entry} {j : ℕ} {area : List Entry} (o : OrderedTo size n found area₀ j area) (less : j < n) (long : n ≤ length found) where
  at : get_or (take n found) j 0 ≡ get_or found j 0
  at = get_or-take n found j 0 less

  within : j < length (take n found)
  within = omega (arith, length-take n found, less, long)

  -- a part that does not hold its hits decides
  pub ordered_short : size < get_or found j 0 → false ≡ every (λ hits. leb hits size) (take n found)
  ordered_short h = scan_fails (λ hits. leb hits size) 0 (take n found) j within o.decides (ap (λ (m : ℕ). leb m size) at ∙ lt-leb (get_or found j 0) size h)

  -- one that does is put in order
  pub ordered_next : get_or found j 0 ≤ size → suc j * size ≤ length area → (last : List Entry) → length last ≡ size
      → last ≡ ordered (take (get_or found j 0) (part_at size j area)) ++ replicate (size - get_or found j 0) zero_entry
      → OrderedTo size n found area₀ (j + 1) (put_mid (j * size) (j * size + size - j * size) area last)
  ordered_next fits inside last kept is =
      record {
        decides = scan_passes (λ hits. leb hits size) 0 (take n found) j within o.decides (ap (λ (m : ℕ). leb m size) at ∙ le-leb (get_or found j 0) size fits);
        done = λ i h. elim (dec_le j i) [ yes le ↦ own i (omega (arith, h, le)) | no more ↦ before i (lt_of_not-le more) ];
        rest = λ i h. other-back size j area inside last kept i (λ e. omega (arith, h, e)) ∙ o.rest i (omega (arith, h));
        same = back_length size j area inside last kept ∙ o.same;
      }
    where
      own : (i : ℕ) → i ≡ j → Ordered size found area₀ (put_mid (j * size) (j * size + size - j * size) area last) i
      own i e =
          subst (Ordered size found area₀ (put_mid (j * size) (j * size + size - j * size) area last)) (sym e)
          (fits, part-back size j area inside last kept ∙ is ∙ ap (λ (xs : List Entry). ordered (take (get_or found j 0) xs) ++ replicate (size - get_or found j 0) zero_entry) (o.rest j (omega arith)))

      before : (i : ℕ) → i < j → Ordered size found area₀ (put_mid (j * size) (j * size + size - j * size) area last) i
      before i h = let b = o.done i h in (b.0, other-back size j area inside last kept i (λ e. omega (arith, h, e)) ∙ b.1)

pub ordered_all : {size n : ℕ} {found : List ℕ} {area₀ : List Entry} {j : ℕ} {area : List Entry} → OrderedTo size n found area₀ j area → n ≤ j → true ≡ every (λ hits. leb hits size) (take n found)
ordered_all {size} {n} {found} {area₀} {j} {area} o h = scan_ends (λ hits. leb hits size) (take n found) j (omega (arith, length-take n found)) o.decides

-- a part in the front of a list does not see what is behind
front_part : (size j : ℕ) (front behind : List Entry) → suc j * size ≤ length front → part_at size j (front ++ behind) ≡ part_at size j front
unfolding part_at
front_part size j front behind h =
    ap (take size) (drop-append-le (j * size) front behind (omega (arith, suc-mul j size, h)))
    ∙ take-append-le size (drop (j * size) front) behind (omega (arith, length-drop (j * size) front, suc-mul j size, h))

-- what is left over behind n parts becomes zero
pub zeroed_behind : (n size : ℕ) (found : List ℕ) (area mid : List Entry) → n * size ≤ length mid → length mid ≡ length area → ((j : ℕ) → j < n → Ordered size found area mid j)
    → (last : List Entry) → last ≡ replicate (length (take (length mid - n * size) (drop (n * size) mid))) zero_entry → InParts n size found area (put_mid (n * size) (length mid - n * size) mid last)
zeroed_behind n size found area mid fits same parts last zeros =
    let used = n * size in
    let size_of : length (take used mid) ≡ used = length-take-le used mid fits in
    let many : length (take (length mid - used) (drop used mid)) ≡ length area - used = omega (arith, length-take (length mid - used) (drop used mid), length-drop used mid, same) in
    let is : put_mid used (length mid - used) mid last ≡ take used mid ++ last = put_rest used mid last in
    let left : last ≡ replicate (length area - used) zero_entry = zeros ∙ ap (λ (m : ℕ). replicate m zero_entry) many in
    record {
      parts = λ j h.
          let inside : suc j * size ≤ length (take used mid) = omega (arith, size_of, mul-le-mul_right {m = suc j} {n = n} size h) in (
            (parts j h).0,
            ap (part_at size j) is
                ∙ front_part size j (take used mid) last inside
                ∙ sym (front_part size j (take used mid) (drop used mid) inside)
                ∙ ap (part_at size j) (take-append-drop used mid)
                ∙ (parts j h).1,
          );
      rest = ap (drop used) is ∙ drop_at (take used mid) last used size_of ∙ left;
      same = ap length is ∙ omega (arith, length-append (take used mid) last, size_of, ap length left, length-replicate (length area - used) zero_entry, same, fits);
    }
