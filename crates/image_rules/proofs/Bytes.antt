-- Little-endian bytes: a number's bytes read back as the number, and fields of numbers that fit them as these numbers.
use Prim.Native.Nat.{ℕ, zero, suc, ◌+◌, ◌/◌, ◌^◌, ◌≤◌, ◌<◌}
use mathlib.Core.Path.{◌≡◌, refl, sym, ap, ap₂, ◌∙◌}
use mathlib.Core.List.{List, [], ◌∷◌, ◌++◌, append_assoc, append-nil}
use native.Mathlib.Nat.{pow-suc}
use native.Mathlib.Omega.{arith}
use lib.ListN.{length, drop, length-append}
use lib.Seq.{take_at, drop_at}
use Rattle.lists.specs.Lists.{total, All}
use Rattle.image_rules.specs.Bytes.{bytes_of, number_of, bytes_of_fields, start_fields, weight_fields, header_fields, start_bytes, header_bytes}
use Rattle.image_rules.specs.Read.{number_at, fields_at}

pub length_bytes_lem : (w n : ℕ) → length (bytes_of w n) ≡ w
unfolding bytes_of
length_bytes_lem zero n = refl
length_bytes_lem (suc w) n = ap suc (length_bytes_lem w (n / 256))

pub number_bytes : (w n : ℕ) → n < 256 ^ w → number_of (bytes_of w n) ≡ n
unfolding bytes_of number_of
number_bytes zero n h = omega arith
number_bytes (suc w) n h =
    let less : n / 256 < 256 ^ w = omega (arith, pow-suc 256 w) in
    rw (number_bytes w (n / 256) less) (omega arith)

pub length_fields : (ws ns : List ℕ) → length (bytes_of_fields ws ns) ≡ total ws
unfolding bytes_of_fields total
length_fields [] ns = refl
length_fields (w ∷ ws) [] = length-append (bytes_of w 0) (bytes_of_fields ws []) ∙ ap₂ ◌+◌ (length_bytes_lem w 0) (length_fields ws [])
length_fields (w ∷ ws) (n ∷ ns) = length-append (bytes_of w n) (bytes_of_fields ws ns) ∙ ap₂ ◌+◌ (length_bytes_lem w n) (length_fields ws ns)

-- fields of two groups, with as many numbers as fields in the first; numbers past the fields are left out
pub fields_append : (ws vs ns ms : List ℕ) → length ns ≡ length ws → bytes_of_fields (ws ++ vs) (ns ++ ms) ≡ bytes_of_fields ws ns ++ bytes_of_fields vs ms
unfolding bytes_of_fields
fields_append [] vs [] ms l = refl
fields_append [] vs (n ∷ ns) ms l = absurd (omega arith)
fields_append (w ∷ ws) vs [] ms l = absurd (omega arith)
fields_append (w ∷ ws) vs (n ∷ ns) ms l =
    ap (λ (r : List ℕ). bytes_of w n ++ r) (fields_append ws vs ns ms (omega arith)) ∙ sym (append_assoc (bytes_of w n) (bytes_of_fields ws ns) (bytes_of_fields vs ms))

pub fields_past : (ws ns ms : List ℕ) → length ns ≡ length ws → bytes_of_fields ws (ns ++ ms) ≡ bytes_of_fields ws ns
unfolding bytes_of_fields
fields_past ws ns ms l =
    ap (λ (vs : List ℕ). bytes_of_fields vs (ns ++ ms)) (sym (append-nil ws)) ∙ fields_append ws [] ns ms l ∙ append-nil (bytes_of_fields ws ns)

-- what stands after a list of length `at`
pub number_at_lem : (a : List ℕ) (w n : ℕ) (c : List ℕ) (at : ℕ) → length a ≡ at → n < 256 ^ w → number_at (a ++ (bytes_of w n ++ c)) w at ≡ n
unfolding number_at
number_at_lem a w n c at e h = rw (drop_at a (bytes_of w n ++ c) at e, take_at (bytes_of w n) c w (length_bytes_lem w n)) (number_bytes w n h)

-- as many numbers as fields, each with no more bytes than its field
abbrev pub Fill : List ℕ → List ℕ → Type 0
Fill [] [] = Unit {0}
Fill [] (n ∷ ns) = ⊥
Fill (w ∷ ws) [] = ⊥
Fill (w ∷ ws) (n ∷ ns) = (n < 256 ^ w) × Fill ws ns

-- fields of one width each, and what comes behind them
pub alike_fill : (w : ℕ) (ws vs ns : List ℕ) → length ws ≤ length ns → All (λ v. v ≡ w) ws → All (λ n. n < 256 ^ w) ns → Fill vs (drop (length ws) ns)
    → Fill (ws ++ vs) ns
alike_fill w [] vs ns l f h rest = rest
alike_fill w (v ∷ ws) vs [] l f h rest = omega arith
alike_fill w (v ∷ ws) vs (n ∷ ns) l f h rest = (rw f.0 h.0, alike_fill w ws vs ns (omega arith) f.1 h.1 rest)

pub fields_at_lem : (a ws ns c : List ℕ) (at : ℕ) → length a ≡ at → Fill ws ns → fields_at (a ++ (bytes_of_fields ws ns ++ c)) ws at ≡ ns
unfolding fields_at bytes_of_fields
fields_at_lem a [] [] c at e h = refl
fields_at_lem a [] (n ∷ ns) c at e h = absurd h
fields_at_lem a (w ∷ ws) [] c at e h = absurd h
fields_at_lem a (w ∷ ws) (n ∷ ns) c at e h =
    let here = bytes_of w n in
    let rest = bytes_of_fields ws ns in
    let regroup : (a ++ ((here ++ rest) ++ c)) ≡ (a ++ here) ++ (rest ++ c) = simp append_assoc in
    let first : number_at (a ++ ((here ++ rest) ++ c)) w at ≡ n =
    rw (append_assoc here rest c) (number_at_lem a w n (rest ++ c) at e h.0) in
    let next : fields_at (a ++ ((here ++ rest) ++ c)) ws (at + w) ≡ ns =
    rw regroup (fields_at_lem (a ++ here) ws ns c (at + w) (length-append a here ∙ ap₂ ◌+◌ e (length_bytes_lem w n)) h.1) in
    ap₂ ◌∷◌ first next

-- the same, where the bytes are known to split so
pub fields_in : (bytes a ws ns c : List ℕ) (at : ℕ) → bytes ≡ a ++ (bytes_of_fields ws ns ++ c) → length a ≡ at → Fill ws ns
    → fields_at bytes ws at ≡ ns
fields_in bytes a ws ns c at e la h = rw e (fields_at_lem a ws ns c at la h)

-- a header of any form begins with the start
pub header_after_start : (form : ℕ) → start_bytes ≤ header_bytes form
unfolding start_bytes header_bytes header_fields start_fields weight_fields total
header_after_start zero = omega arith
header_after_start (suc form) = omega arith
