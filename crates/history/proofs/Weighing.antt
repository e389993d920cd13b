-- Distances in plain arithmetic: what two measures are apart is their absolute difference, and a bit flipped that was
-- the same in both words is one more place in which they differ, by the width.
use Prim.Native.Nat.{ℕ, zero, suc, ◌+◌, ◌*◌, ◌/◌, ◌%◌, ◌^◌, ◌≤◌, ◌<◌, max}
use mathlib.Core.Path.{◌≡◌, refl, sym, ap, ◌∙◌}
use mathlib.Core.Logic.{inl, inr}
use native.Mathlib.Omega.{arith}
use native.Mathlib.Nat.{mul-zero, pow-zero, pow-succ', div-div-eq-div-mul}
use lib.Bits.{differ}
use lib.IntN.{ℤ, pos, ◌+ℤ◌, ◌-ℤ◌, nat_abs, +ℤ_comm, +ℤ-neg_ℤ_cancel, +ℤ_idr}
use Rattle.metric_rules.specs.declared.Profile.{Profile}
use Rattle.metric_rules.specs.Row.{code_word}
use Rattle.metric_rules.specs.Distance.{saturated, gap, weight, weighted, largest, measure_distance, worst_distance}
use Rattle.metric_rules.specs.Distance.{differing, distance_by, distance}
use Rattle.metric_rules.proofs.Apart.{apart, differ_apart, abs_swap}
use Rattle.metric_rules.proofs.Digits.{differing_self}
use Rattle.metric_rules.proofs.Laws.{code_words}
use Rattle.history.specs.Counter.{bit}
use Rattle.history.specs.Weighing.{Apart, cut, profile, Weighs, WeighsAlone, Flipped}
use Rattle.history.specs.Demands.{WeighsEach, OneBit}

apart_abs : (a b : ℤ) (e : ℕ) → Apart a b e → nat_abs (a -ℤ b) ≡ e
apart_abs a b e (inl h) =
    ap (λ (x : ℤ). nat_abs (x -ℤ b)) (h ∙ +ℤ_comm b (pos e)) ∙ ap nat_abs (+ℤ-neg_ℤ_cancel (pos e) b)
apart_abs a b e (inr h) =
    abs_swap a b
    ∙ ap (λ (x : ℤ). nat_abs (x -ℤ a)) (h ∙ +ℤ_comm a (pos e)) ∙ ap nat_abs (+ℤ-neg_ℤ_cancel (pos e) a)

apart_none : (a : ℤ) → Apart a a 0
apart_none a = inl (sym (+ℤ_idr a))

-- numbers within the cut, the largest of which is within it
abbrev Within : ℕ → Type 0
Within n = n ≤ 4_294_967_295

uncut :
    (k l m n : ℕ) → Within k → Within l → Within m → Within n
    → cut (max (max k l) (max m n)) ≡ max (max k l) (max m n)
uncut k l m n hk hl hm hn = omega arith

weighs :
    (u v w x : ℕ) (p q : Profile) (e f g h : ℕ) → gap p q 0 ≡ e → gap p q 1 ≡ f → gap p q 2 ≡ g → gap p q 3 ≡ h
    → Weighs u v w x p q e f g h
unfolding distance measure_distance worst_distance weighted weight saturated largest
weighs u v w x p q e f g h e= f= g= h= = (
  (λ i. cut (cut (u * e= i) + cut (v * f= i) + cut (w * g= i) + cut (x * h= i))),
  (λ i. cut (max (max (cut (u * e= i)) (cut (v * f= i))) (max (cut (w * g= i)) (cut (x * h= i)))))
      ∙ uncut (cut (u * e)) (cut (v * f)) (cut (w * g)) (cut (x * h))
      (omega arith) (omega arith) (omega arith) (omega arith),
)

-- the cut of a sum or a largest number that is one number within it
cut_one : (total k : ℕ) → total ≡ k → Within k → cut total ≡ k
cut_one total k e h = omega arith

module _ (u v w x : ℕ) (a b c d : ℤ) (m n : ℕ) where
  together : (a' b' c' d' : ℤ) (m' n' e f g h : ℕ) → Apart a a' e → Apart b b' f → Apart c c' g → Apart d d' h
      → Weighs u v w x (profile a b c d m n) (profile a' b' c' d' m' n') e f g h
  unfolding gap
  together a' b' c' d' m' n' e f g h ea fb gc hd =
      weighs u v w x (profile a b c d m n) (profile a' b' c' d' m' n') e f g h
      (apart_abs a a' e ea) (apart_abs b b' f fb) (apart_abs c c' g gc) (apart_abs d d' h hd)

  alone : (i : ℕ) → i < 4 → WeighsAlone u v w x (profile a b c d m n) i
  alone zero h a' e k =
      let all = together a' b c d m n e 0 0 0 k (apart_none b) (apart_none c) (apart_none d) in (
        all.0
            ∙ (λ i. cut (cut (u * e) + cut (mul-zero v i) + cut (mul-zero w i) + cut (mul-zero x i)))
            ∙ cut_one (cut (u * e) + 0 + 0 + 0) (cut (u * e)) (omega arith) (omega arith),
        all.1
            ∙ (λ i. max (max (cut (u * e)) (cut (mul-zero v i))) (max (cut (mul-zero w i)) (cut (mul-zero x i))))
            ∙ omega arith,
      )
  alone (suc zero) h b' e k =
      let all = together a b' c d m n 0 e 0 0 (apart_none a) k (apart_none c) (apart_none d) in (
        all.0
            ∙ (λ i. cut (cut (mul-zero u i) + cut (v * e) + cut (mul-zero w i) + cut (mul-zero x i)))
            ∙ cut_one (0 + cut (v * e) + 0 + 0) (cut (v * e)) (omega arith) (omega arith),
        all.1
            ∙ (λ i. max (max (cut (mul-zero u i)) (cut (v * e))) (max (cut (mul-zero w i)) (cut (mul-zero x i))))
            ∙ omega arith,
      )
  alone (suc (suc zero)) h c' e k =
      let all = together a b c' d m n 0 0 e 0 (apart_none a) (apart_none b) k (apart_none d) in (
        all.0
            ∙ (λ i. cut (cut (mul-zero u i) + cut (mul-zero v i) + cut (w * e) + cut (mul-zero x i)))
            ∙ cut_one (0 + 0 + cut (w * e) + 0) (cut (w * e)) (omega arith) (omega arith),
        all.1
            ∙ (λ i. max (max (cut (mul-zero u i)) (cut (mul-zero v i))) (max (cut (w * e)) (cut (mul-zero x i))))
            ∙ omega arith,
      )
  alone (suc (suc (suc zero))) h d' e k =
      let all = together a b c d' m n 0 0 0 e (apart_none a) (apart_none b) (apart_none c) k in (
        all.0
            ∙ (λ i. cut (cut (mul-zero u i) + cut (mul-zero v i) + cut (mul-zero w i) + cut (x * e)))
            ∙ cut_one (0 + 0 + 0 + cut (x * e)) (cut (x * e)) (omega arith) (omega arith),
        all.1
            ∙ (λ i. max (max (cut (mul-zero u i)) (cut (mul-zero v i))) (max (cut (mul-zero w i)) (cut (x * e))))
            ∙ omega arith,
      )
  alone (suc (suc (suc (suc i)))) h b' e k = absurd (omega arith)

pub weighs_each : WeighsEach
weighs_each u v w x a b c d m n = (together u v w x a b c d m n, alone u v w x a b c d m n)

-- a bit flipped
digit : (a b : ℕ) → differ (a % 2) (b % 2) ≡ apart (a % 2) (b % 2)
digit a b = differ_apart (a % 2) (b % 2)

bit_first : (n : ℕ) → bit 0 n ≡ n % 2
unfolding bit
bit_first n = omega (arith, pow-zero 2)

bit_later : (j n : ℕ) → bit (suc j) n ≡ bit j (n / 2)
unfolding bit
bit_later j n = ap (λ (k : ℕ). n / k % 2) (pow-succ' 2 j) ∙ ap (λ (k : ℕ). k % 2) (sym (div-div-eq-div-mul n 2 (2 ^ j)))

-- the bits above the lowest
flipped_half : (j n m : ℕ) → Flipped (suc j) n m → Flipped j (n / 2) (m / 2) × (n % 2 ≡ m % 2)
flipped_half j n m (inl h) =
    (inl (omega (arith, h.0, bit_later j n), omega (arith, h.1, pow-succ' 2 j)), omega (arith, h.1, pow-succ' 2 j))
flipped_half j n m (inr h) =
    (inr (omega (arith, h.0, bit_later j m), omega (arith, h.1, pow-succ' 2 j)), omega (arith, h.1, pow-succ' 2 j))

flipped_lowest : (n m : ℕ) → Flipped 0 n m → (n / 2 ≡ m / 2) × (n % 2 + m % 2 ≡ 1)
flipped_lowest n m (inl h) =
    (omega (arith, h.0, h.1, bit_first n, pow-zero 2), omega (arith, h.0, h.1, bit_first n, pow-zero 2))
flipped_lowest n m (inr h) =
    (omega (arith, h.0, h.1, bit_first m, pow-zero 2), omega (arith, h.0, h.1, bit_first m, pow-zero 2))

flipped_more : (k j a b c : ℕ) → j < k → bit j a ≡ bit j b → Flipped j b c → differing k a c ≡ suc (differing k a b)
unfolding differing
flipped_more zero j a b c h e f = absurd (omega arith)
flipped_more (suc k) zero a b c h e f =
    let low = flipped_lowest b c f in
    let rest : differing k (a / 2) (c / 2) ≡ differing k (a / 2) (b / 2) = ap (differing k (a / 2)) (sym low.0) in
    omega (arith, rest, low.1, digit a b, digit a c, bit_first a, bit_first b, e)
flipped_more (suc k) (suc j) a b c h e f =
    let half = flipped_half j b c f in
    let rest : differing k (a / 2) (c / 2) ≡ suc (differing k (a / 2) (b / 2)) =
    flipped_more k j (a / 2) (b / 2) (c / 2) (omega arith) (sym (bit_later j a) ∙ e ∙ bit_later j b) half.0 in
    omega (arith, rest, half.1, digit a b, digit a c)

pub one_bit : OneBit
unfolding distance distance_by code_word
one_bit u v w x a b c d a' b' c' d' =
    let p : ℕ → ℕ → Profile = profile a b c d in
    let q : ℕ → ℕ → Profile = profile a' b' c' d' in
    record {
      none = λ m n. omega (arith, code_words (p m n) (q m n), differing_self 64 m, differing_self 64 n);
      first = λ j m n m' n' o h e f.
          let more = flipped_more 64 j m m' o h e f in
          omega (arith, code_words (p m n) (q m' n'), code_words (p m n) (q o n'), more);
      second = λ j m n m' n' o h e f.
          let more = flipped_more 64 j n n' o h e f in
          omega (arith, code_words (p m n) (q m' n'), code_words (p m n) (q m' o), more);
      first_alone = λ j m n o h f.
          let more = flipped_more 64 j m m o h refl f in
          omega (arith, code_words (p m n) (q o n), more, differing_self 64 m, differing_self 64 n);
      second_alone = λ j m n o h f.
          let more = flipped_more 64 j n n o h refl f in
          omega (arith, code_words (p m n) (q m o), more, differing_self 64 m, differing_self 64 n);
    }
