-- Bytes fed one after the other: bytes without a line feed go to the pending line, a line feed ends it, and what stands after two stretches is what
-- stands after both put end to end.
use Prim.Native.Nat.{ℕ, suc, ◌+◌, ◌-◌, ◌≤◌, ◌<◌}
use mathlib.Core.Path.{◌≡◌, refl, ap, sym, ◌∙◌}
use mathlib.Core.Bool.{Bool, true, false}
use mathlib.Core.List.{List, [], ◌∷◌, ◌++◌, append_assoc, append-nil}
use native.Mathlib.Omega.{arith}
use lib.Dec.{eqb}
use lib.ListN.{length, take, drop, length-drop}
use lib.Seq.{take_all}
use borrow.Author.Tests.{ne_eqb}
use Rattle.text_rules.specs.Text.{line_feed}
use Rattle.yard_rules.specs.Conversation.{Yard, after, after_lines, line_outcome, printed}
use Rattle.text_rules.proofs.Parts.{Free}
use Rattle.yard_lines.specs.Held.{until_feed}
use Rattle.yard_lines.specs.Pieces.{Gathering, gathering}
use Rattle.yard_lines.proofs.Pieces.{feed_after, no_feed}
use Rattle.yard_session.specs.Fed.{Midway, fed, fed_text, stretch}

-- lines one after the other
pub after_both : (y : Yard) (xs ys : List (List ℕ)) → after_lines y (xs ++ ys) ≡ after_lines (after_lines y xs) ys
unfolding after_lines
after_both y [] ys = refl
after_both y (x ∷ xs) ys = after_both (after y x) xs ys

pub printed_both : (y : Yard) (xs ys : List (List ℕ)) → printed y (xs ++ ys) ≡ printed y xs ++ printed (after_lines y xs) ys
unfolding printed after_lines
printed_both y [] ys = refl
printed_both y (x ∷ xs) ys =
    let text = (line_outcome y.areas (suc y.lines) y.stage x).text in
    ap (λ t. text ++ t) (printed_both (after y x) xs ys) ∙ sym (append_assoc text _ _)

-- the lines of two stretches
both : Gathering → Gathering → Gathering
unfolding gathering
both g h = record { lines = g.lines ++ h.lines; left = h.left }

gathering_both : (pending xs ys : List ℕ) → gathering pending (xs ++ ys) ≡ both (gathering pending xs) (gathering (gathering pending xs).left ys)
unfolding gathering both
gathering_both pending [] ys = refl
gathering_both pending (b ∷ bs) ys = by (eqb b line_feed) (λ (p : List ℕ). gathering_both p bs ys)
  where
    next : Bool → List ℕ → Gathering
    next t rest = elim t [ true ↦ record { lines = pending ∷ (gathering [] rest).lines; left = (gathering [] rest).left } | false ↦ gathering (pending ++ (b ∷ [])) rest ]

    by : (t : Bool) → ((p : List ℕ) → gathering p (bs ++ ys) ≡ both (gathering p bs) (gathering (gathering p bs).left ys))
        → next t (bs ++ ys) ≡ both (next t bs) (gathering (next t bs).left ys)
    by true go = ap (λ (g : Gathering). record { lines = pending ∷ g.lines; left = g.left }) (go [])
    by false go = go (pending ++ (b ∷ []))

pub fed_both : (m : Midway) (xs ys : List ℕ) → fed m (xs ++ ys) ≡ fed (fed m xs) ys
unfolding fed both
fed_both m xs ys =
    let g : Gathering = gathering m.pending xs in
    ap (λ (g : Gathering). record { yard = after_lines m.yard g.lines; pending = g.left }) (gathering_both m.pending xs ys)
    ∙ ap (λ (y : Yard). record { yard = y; pending = (gathering g.left ys).left }) (after_both m.yard g.lines (gathering g.left ys).lines)

pub text_both : (m : Midway) (xs ys : List ℕ) → fed_text m (xs ++ ys) ≡ fed_text m xs ++ fed_text (fed m xs) ys
unfolding fed fed_text both
text_both m xs ys =
    let g : Gathering = gathering m.pending xs in
    ap (λ (g : Gathering). printed m.yard g.lines) (gathering_both m.pending xs ys)
    ∙ printed_both m.yard g.lines (gathering g.left ys).lines

-- bytes without a line feed
gathering_free : (pending bs : List ℕ) → Free line_feed bs → gathering pending bs ≡ record { lines = []; left = pending ++ bs }
unfolding gathering
gathering_free pending [] f = ap (λ (xs : List ℕ). record { lines = []; left = xs }) (sym (append-nil pending))
gathering_free pending (b ∷ bs) f =
    ap (λ t. elim t [ true ↦ record { lines = pending ∷ (gathering [] bs).lines; left = (gathering [] bs).left } | false ↦ gathering (pending ++ (b ∷ [])) bs ]) (ne_eqb b line_feed f.0)
    ∙ gathering_free (pending ++ (b ∷ [])) bs f.1
    ∙ ap (λ (xs : List ℕ). record { lines = []; left = xs }) (append_assoc pending (b ∷ []) bs)

pub fed_free : (m : Midway) (bs : List ℕ) → Free line_feed bs → fed m bs ≡ record { yard = m.yard; pending = m.pending ++ bs }
unfolding fed after_lines
fed_free m bs f = ap (λ (g : Gathering). record { yard = after_lines m.yard g.lines; pending = g.left }) (gathering_free m.pending bs f)

pub text_free : (m : Midway) (bs : List ℕ) → Free line_feed bs → fed_text m bs ≡ []
unfolding fed_text printed
text_free m bs f = ap (λ (g : Gathering). printed m.yard g.lines) (gathering_free m.pending bs f)

-- a line feed
pub fed_feed : (m : Midway) → fed m (line_feed ∷ []) ≡ record { yard = after m.yard m.pending; pending = [] }
unfolding fed gathering after_lines
fed_feed m = refl

pub text_feed : (m : Midway) → fed_text m (line_feed ∷ []) ≡ (line_outcome m.yard.areas (suc m.yard.lines) m.yard.stage m.pending).text
unfolding fed_text gathering printed
text_feed m = append-nil _

-- the bytes that a step takes: up to the line feed, or to the end of the piece
until_shorter : (bs : List ℕ) → length (until_feed bs) ≤ length bs
unfolding until_feed
until_shorter [] = omega arith
until_shorter (b ∷ bs) = by (eqb b line_feed) (until_shorter bs)
  where
    by : (t : Bool) → length (until_feed bs) ≤ length bs → length {A = ℕ} (elim t [ true ↦ [] | false ↦ b ∷ until_feed bs ]) ≤ length (b ∷ bs)
    by true h = omega arith
    by false h = omega arith

take_through : (xs : List ℕ) (y : ℕ) (ys : List ℕ) → take (suc (length xs)) (xs ++ y ∷ ys) ≡ xs ++ y ∷ []
take_through [] y ys = refl
take_through (x ∷ xs) y ys = ap (λ zs. x ∷ zs) (take_through xs y ys)

module _ (piece : List ℕ) (from : ℕ) (inside : from < length piece) where
  pub stretch_feed : from + length (until_feed (drop from piece)) < length piece
      → stretch piece from (from + length (until_feed (drop from piece)) + 1) ≡ until_feed (drop from piece) ++ line_feed ∷ []
  unfolding stretch
  stretch_feed h =
      let line : List ℕ = until_feed (drop from piece) in
      let count : from + length line + 1 - from ≡ suc (length line) = omega arith in
      ap (λ k. take k (drop from piece)) count
      ∙ ap (take (suc (length line))) (feed_after (drop from piece) (omega (arith, length-drop from piece)))
      ∙ take_through line line_feed (drop (suc (length line)) (drop from piece))

  pub stretch_end : length piece ≤ from + length (until_feed (drop from piece)) → stretch piece from (length piece) ≡ until_feed (drop from piece)
  unfolding stretch
  stretch_end h =
      let rest : List ℕ = drop from piece in
      let count : length piece - from ≡ length rest = omega (arith, length-drop from piece) in
      ap (λ k. take k rest) count ∙ take_all (length rest) rest (omega arith) ∙ sym (no_feed rest (omega (arith, until_shorter rest, length-drop from piece)))
