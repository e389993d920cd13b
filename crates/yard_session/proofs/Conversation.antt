-- Whatever pieces the input arrives in, what is printed for the pieces, one after the other, and for the end is the conversation over the whole input.
use Prim.Native.Nat.{ℕ, suc, ◌+◌, ◌-◌, ◌≤◌}
use mathlib.Core.Path.{◌≡◌, refl, ap, sym, ◌∙◌}
use mathlib.Core.List.{List, [], ◌∷◌, ◌++◌, append_assoc, append-nil}
use native.Mathlib.Omega.{arith}
use lib.ListN.{length, take, drop}
use lib.Seq.{take_all, take-add, drop-drop}
use Rattle.yard_rules.specs.declared.Stage.{Stage}
use Rattle.yard_rules.specs.declared.Stage.TheVariants as stage
use Rattle.yard_rules.specs.Conversation.{Areas, Yard, after, after_lines, printed, lines_in, conversation}
use Rattle.yard_rules.proofs.Ended.{ended_prints}
use Rattle.yard_lines.specs.Pieces.{Gathering, gathering, gatherings, whole, ended}
use Rattle.yard_lines.proofs.Whole.{lines_of_pieces}
use Rattle.yard_session.specs.Fed.{Midway, begun, fed, fed_text, last_of, last_line, end_text, pieces_text, stretch}
use Rattle.yard_session.proofs.Feeding.{printed_both, fed_both, text_both}

-- the pieces put end to end
pieces_whole : (m : Midway) (pieces : List (List ℕ)) → pieces_text m pieces ≡ fed_text m (whole pieces) ++ end_text (fed m (whole pieces))
unfolding pieces_text whole fed fed_text gathering printed after_lines
pieces_whole m [] = refl
pieces_whole m (piece ∷ pieces) =
    ap (λ t. fed_text m piece ++ t) (pieces_whole (fed m piece) pieces)
    ∙ sym (append_assoc (fed_text m piece) (fed_text (fed m piece) (whole pieces)) (end_text (fed (fed m piece) (whole pieces))))
    ∙ ap (λ t. t ++ end_text (fed (fed m piece) (whole pieces))) (sym (text_both m piece (whole pieces)))
    ∙ ap (λ (n : Midway). fed_text m (piece ++ whole pieces) ++ end_text n) (sym (fed_both m piece (whole pieces)))

lines_more : (y : Yard) (lines : List (List ℕ)) → (after_lines y lines).lines ≡ y.lines + length lines
unfolding after_lines after
lines_more y [] = omega arith
lines_more y (line ∷ lines) = lines_more (after y line) lines ∙ omega arith

-- the last line after the lines that have ended
last_ended : (y : Yard) (lines : List (List ℕ)) (left : List ℕ) → y.lines ≡ 0 → lines ++ last_of (after_lines y lines).lines left ≡ ended lines left
unfolding ended last_of after_lines
last_ended y [] left e = ap (λ n. last_of n left) e
last_ended y (line ∷ lines) left e =
    let more : (after_lines y (line ∷ lines)).lines ≡ suc (length lines) = lines_more y (line ∷ lines) ∙ omega (arith, e) in
    ap (λ n. (line ∷ lines) ++ last_of n left) more

one_piece : (input : List ℕ) → lines_in input ≡ ended (gathering [] input).lines (gathering [] input).left
unfolding gatherings whole
one_piece input =
    ap lines_in (sym (append-nil input))
    ∙ lines_of_pieces (input ∷ [])
    ∙ ap (λ (ls : List (List ℕ)). ended ls (gathering [] input).left) (append-nil (gathering [] input).lines)

-- for every way of cutting the input
pub pieces_as_conversation : (a : Areas) (pieces : List (List ℕ)) → pieces_text (begun a) pieces ≡ conversation a (whole pieces)
unfolding begun fed fed_text last_line end_text conversation
pieces_as_conversation a pieces =
    let y : Yard = (begun a).yard in
    let g : Gathering = gathering [] (whole pieces) in
    pieces_whole (begun a) pieces
    ∙ sym (printed_both y g.lines (last_of (after_lines y g.lines).lines g.left))
    ∙ ap (printed y) (last_ended y g.lines g.left refl ∙ sym (one_piece (whole pieces)))

-- after the end of the program nothing is printed, so no more has to be read
silent : (y : Yard) (lines : List (List ℕ)) → y.stage ≡ stage.Ended → printed y lines ≡ []
silent y lines e = ap (λ (s : Stage). printed (record { areas = y.areas; stage = s; lines = y.lines }) lines) e ∙ ended_prints y.areas y.lines lines

pub ended_silent : (m : Midway) (pieces : List (List ℕ)) → m.yard.stage ≡ stage.Ended → pieces_text m pieces ≡ []
unfolding fed fed_text last_line end_text
ended_silent m pieces e =
    let g : Gathering = gathering m.pending (whole pieces) in
    pieces_whole m pieces
    ∙ sym (printed_both m.yard g.lines (last_of (after_lines m.yard g.lines).lines g.left))
    ∙ silent m.yard (g.lines ++ last_of (after_lines m.yard g.lines).lines g.left) e

-- the stretches that the steps take one after the other are a cutting of the piece
pub stretches_adjoin : (piece : List ℕ) (a b e : ℕ) → a ≤ b → b ≤ e → stretch piece a b ++ stretch piece b e ≡ stretch piece a e
unfolding stretch
stretches_adjoin piece a b e h k =
    let place : a + (b - a) ≡ b = omega arith in
    let count : e - a ≡ (b - a) + (e - b) = omega arith in
    ap (λ n. take (b - a) (drop a piece) ++ take (e - b) (drop n piece)) (sym place)
    ∙ ap (λ xs. take (b - a) (drop a piece) ++ take (e - b) xs) (sym (drop-drop (b - a) a piece))
    ∙ sym (take-add (b - a) (e - b) (drop a piece))
    ∙ ap (λ n. take n (drop a piece)) (sym count)

pub stretch_whole : (piece : List ℕ) → stretch piece 0 (length piece) ≡ piece
unfolding stretch
stretch_whole piece = take_all (length piece - 0) piece (omega arith)
