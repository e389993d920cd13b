-- Runs of stores: two that adjoin are one, the last of a run may go first, and one in the rest of an area is one in it.
use Prim.Native.Nat.{ℕ, suc, ◌+◌, ◌-◌, ◌/◌, ◌%◌, ◌≤◌, ◌<◌}
use mathlib.Core.Path.{◌≡◌, refl, ap, sym, ◌∙◌}
use mathlib.Core.List.{List, [], ◌∷◌, ◌++◌, append_assoc, append-nil}
use native.Mathlib.Omega.{arith}
use native.Mathlib.Numerals.{add-one}
use borrow.Rule.Slice.PartMut.{put_mid}
use lib.ListN.{length, set, get_or, take, drop, length-append, length-drop, drop_of_length-le}
use lib.Seq.{sets, sets-eq, take-suc, take_all, drop-drop, length-take-le}
use Rattle.tree_rules.proofs.Stores.{sets_more, sets_apart}
use Rattle.text_rules.specs.Text.{digits, decimal, space, line_feed}
use Rattle.search_rules.specs.Range.{Entry}
use Rattle.yard_rules.specs.Reply.{spaced, reply_line, entry_text, entries_text}
use Rattle.yard_print.proofs.Widths.{length_digits}

sets_last : (l : List ℕ) (i j : ℕ) (xs : List ℕ) (d : ℕ) → j ≡ i + length xs → sets (set l j d) i xs ≡ sets l i (xs ++ (d ∷ []))
sets_last l i j xs d e = sets_apart l i j xs (d ∷ []) (omega arith) ∙ sets_more l i j xs (d ∷ []) e

-- a digit stored leaves the digits before it to store
pub digit_first : (l : List ℕ) (i j n : ℕ) → i ≡ suc j → sets (set l j (48 + n % 10)) 0 (digits j (n / 10)) ≡ sets l 0 (digits i n)
unfolding digits
digit_first l i j n e =
    sets_last l 0 j (digits j (n / 10)) (48 + n % 10) (omega (arith, length_digits j (n / 10))) ∙ ap (λ k. sets l 0 (digits k n)) (sym e)

-- a run from the start, and what is behind it
pub front_put : (l xs : List ℕ) (n : ℕ) → n ≡ length xs → n ≤ length l → xs ++ drop n l ≡ sets l 0 xs
front_put l xs n e h =
    let all : n ≡ 0 + length xs = omega arith in
    ap (λ k. xs ++ drop k l) all ∙ sym (sets-eq xs l 0 (omega (arith, e, h)))

-- the digits that fill the front of an area
pub front_digits : (l : List ℕ) (w n : ℕ) {part : List ℕ} → w ≤ length l → part ≡ digits (length (take w l)) n → part ++ drop w l ≡ sets l 0 (digits w n)
front_digits l w n h e =
    ap (λ p. p ++ drop w l) (e ∙ ap (λ k. digits k n) (length-take-le w l h)) ∙ front_put l (digits w n) w (sym (length_digits w n)) h

-- a run that fills an area
pub filled : (l xs : List ℕ) → length l ≡ length xs → sets l 0 xs ≡ xs
filled l xs e = sym (front_put l xs (length l) e (omega arith)) ∙ ap (λ r. xs ++ r) (drop_of_length-le l {i = length l} (omega arith)) ∙ append-nil xs

-- a run at the start of the rest of an area
pub rest_put : (l xs : List ℕ) (at : ℕ) {part : List ℕ} → at + length xs ≤ length l → part ≡ sets (take (length l - at) (drop at l)) 0 xs
    → put_mid at (length l - at) l part ≡ sets l at xs
rest_put l xs at {part} h e =
    let rest : List ℕ = drop at l in
    let some : length xs ≤ length rest = omega (arith, length-drop at l) in
    let run : part ≡ xs ++ drop (at + length xs) l =
    e
    ∙ ap (λ r. sets r 0 xs) (take_all (length l - at) rest (omega (arith, length-drop at l)))
    ∙ sym (front_put rest xs (length xs) refl some)
    ∙ ap (λ r. xs ++ r) (drop-drop (length xs) at l) in
    ap (put_mid at (length l - at) l) run
    ∙ ap (λ r. take at l ++ ((xs ++ drop (at + length xs) l) ++ r)) (drop_of_length-le rest {i = length l - at} (omega (arith, length-drop at l)))
    ∙ ap (λ r. take at l ++ r) (append-nil (xs ++ drop (at + length xs) l))
    ∙ sym (append_assoc (take at l) xs (drop (at + length xs) l))
    ∙ sym (sets-eq xs l at h)

-- numbers printed one after the other
pub spaced_more : (xs ys : List ℕ) → spaced (xs ++ ys) ≡ spaced xs ++ spaced ys
unfolding spaced
spaced_more [] ys = refl
spaced_more (x ∷ xs) ys = ap (λ r. space ∷ decimal x ++ r) (spaced_more xs ys) ∙ ap (λ r. space ∷ r) (sym (append_assoc (decimal x) (spaced xs) (spaced ys)))

pub spaced_next : (ns : List ℕ) (i : ℕ) → i < length ns → spaced (take (i + 1) ns) ≡ spaced (take i ns) ++ space ∷ decimal (get_or ns i 0)
unfolding spaced
spaced_next ns i h =
    ap (λ k. spaced (take k ns)) (add-one i)
    ∙ ap spaced (take-suc ns i 0 h)
    ∙ spaced_more (take i ns) (get_or ns i 0 ∷ [])
    ∙ ap (λ r. spaced (take i ns) ++ space ∷ r) (append-nil (decimal (get_or ns i 0)))

-- a number put after the numbers so far, and the line feed after all of them
module _ (l out : List ℕ) (at i : ℕ) (ns : List ℕ) (place : at ≡ 1 + length (spaced (take i ns))) (was : out ≡ sets l 1 (spaced (take i ns))) where
  pub number_put : i < length ns → sets (set out at space) (at + 1) (decimal (get_or ns i 0)) ≡ sets l 1 (spaced (take (i + 1) ns))
  number_put h =
      ap (λ k. sets (set out at space) k (decimal (get_or ns i 0))) (add-one at)
      ∙ ap (λ r. sets r at (space ∷ decimal (get_or ns i 0))) was
      ∙ sets_more l 1 at (spaced (take i ns)) (space ∷ decimal (get_or ns i 0)) place
      ∙ ap (sets l 1) (sym (spaced_next ns i h))

  pub number_long : i < length ns → at + 1 + length (decimal (get_or ns i 0)) ≡ 1 + length (spaced (take (i + 1) ns))
  number_long h =
      omega (arith, place, ap length (spaced_next ns i h), length-append (spaced (take i ns)) (space ∷ decimal (get_or ns i 0)))

module _ (entry out : List ℕ) (letter at i : ℕ) (ns : List ℕ) (all : length ns ≤ i)
    (place : at ≡ 1 + length (spaced (take i ns))) (was : out ≡ sets (set entry 0 letter) 1 (spaced (take i ns))) where
  whole : take i ns ≡ ns
  whole = take_all i ns all

  pub line_put : set out at line_feed ≡ sets entry 0 (reply_line letter ns)
  unfolding reply_line
  line_put =
      ap (λ r. set r at line_feed) was
      ∙ sets_more (set entry 0 letter) 1 at (spaced (take i ns)) (line_feed ∷ []) place
      ∙ ap (λ xs. sets entry 0 (letter ∷ spaced xs ++ (line_feed ∷ []))) whole

  pub line_long : at + 1 ≡ length (reply_line letter ns)
  unfolding reply_line
  line_long = omega (arith, place, ap (λ xs. length (spaced xs)) whole, length-append (spaced ns) (line_feed ∷ []))

-- an entry's line in its four runs
entry_runs : (e : Entry) → entry_text e ≡ digits 15 (get_or e 0 0) ++ ((space ∷ decimal (get_or e 1 0)) ++ (line_feed ∷ []))
unfolding entry_text
entry_runs e = simp append_assoc

pub entry_put : (l : List ℕ) (at : ℕ) (e : Entry) (end : ℕ) → end ≡ at + 16 + length (decimal (get_or e 1 0))
    → set (sets (set (sets l at (digits 15 (get_or e 0 0))) (at + 15) space) (at + 16) (decimal (get_or e 1 0))) end line_feed ≡ sets l at (entry_text e)
entry_put l at e end place =
    let long : length (digits 15 (get_or e 0 0)) ≡ 15 = length_digits 15 (get_or e 0 0) in
    let next : at + 16 ≡ suc (at + 15) = omega arith in
    let last : end ≡ at + 15 + length (space ∷ decimal (get_or e 1 0)) = omega arith in
    let from : at + 15 ≡ at + length (digits 15 (get_or e 0 0)) = omega arith in
    ap (λ k. set (sets (set (sets l at (digits 15 (get_or e 0 0))) (at + 15) space) k (decimal (get_or e 1 0))) end line_feed) next
    ∙ sets_more (sets l at (digits 15 (get_or e 0 0))) (at + 15) end (space ∷ decimal (get_or e 1 0)) (line_feed ∷ []) last
    ∙ sets_more l at (at + 15) (digits 15 (get_or e 0 0)) ((space ∷ decimal (get_or e 1 0)) ++ (line_feed ∷ [])) from
    ∙ ap (sets l at) (sym (entry_runs e))

pub entry_long : (e : Entry) → length (entry_text e) ≡ 17 + length (decimal (get_or e 1 0))
entry_long e =
    ap length (entry_runs e)
    ∙ length-append (digits 15 (get_or e 0 0)) ((space ∷ decimal (get_or e 1 0)) ++ (line_feed ∷ []))
    ∙ omega (arith, length_digits 15 (get_or e 0 0), length-append (decimal (get_or e 1 0)) (line_feed ∷ []))

entries_more : (xs ys : List Entry) → entries_text (xs ++ ys) ≡ entries_text xs ++ entries_text ys
unfolding entries_text
entries_more [] ys = refl
entries_more (x ∷ xs) ys = ap (λ r. entry_text x ++ r) (entries_more xs ys) ∙ sym (append_assoc (entry_text x) (entries_text xs) (entries_text ys))

pub entries_next : (es : List Entry) (i : ℕ) (d : Entry) → i < length es → entries_text (take (i + 1) es) ≡ entries_text (take i es) ++ entry_text (get_or es i d)
unfolding entries_text
entries_next es i d h =
    ap (λ k. entries_text (take k es)) (add-one i)
    ∙ ap entries_text (take-suc es i d h)
    ∙ entries_more (take i es) (get_or es i d ∷ [])
    ∙ ap (λ r. entries_text (take i es) ++ r) (append-nil (entry_text (get_or es i d)))
