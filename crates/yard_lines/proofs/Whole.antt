-- The lines of the pieces put end to end: whatever pieces the input arrives in, the lines gathered from them are those of the whole.
use Prim.Native.Nat.{ℕ}
use mathlib.Core.Path.{◌≡◌, refl, ap, sym, ◌∙◌}
use mathlib.Core.Bool.{Bool, true, false}
use mathlib.Core.List.{List, [], ◌∷◌, ◌++◌, append_assoc, append-nil}
use lib.Dec.{eqb}
use borrow.Author.Tests.{eqb-true, eqb-false}
use Rattle.lists.proofs.Lists.{all_append}
use Rattle.text_rules.specs.Text.{line_feed, parted}
use Rattle.yard_rules.specs.Conversation.{last_kept, first_kept, lines_in}
use Rattle.text_rules.proofs.Parts.{Free, parted_one, parted_first}
use Rattle.yard_lines.specs.Pieces.{Gathering, gathering, gatherings, whole, some_left, ended}

-- after a piece: its lines stand first, and what is left of it is pending before what comes later
record Goes (pending piece later : List ℕ) (g : Gathering) : Type 0 where
  free : Free line_feed g.left
  parts : parted line_feed (pending ++ (piece ++ later)) ≡ g.lines ++ parted line_feed (g.left ++ later)

piece_goes : (pending piece later : List ℕ) → Free line_feed pending → Goes pending piece later (gathering pending piece)
unfolding gathering
piece_goes pending [] later f = record { free = f; parts = refl }
piece_goes pending (b ∷ bs) later f = by (eqb b line_feed) refl (λ (held : List ℕ). piece_goes held bs later)
  where
    by : (t : Bool) → eqb b line_feed ≡ t → ((held : List ℕ) → Free line_feed held → Goes held bs later (gathering held bs))
        → Goes pending (b ∷ bs) later (elim t [ true ↦ record { lines = pending ∷ (gathering [] bs).lines; left = (gathering [] bs).left } | false ↦ gathering (pending ++ (b ∷ [])) bs ])
    by true e go =
        let next : Goes [] bs later (gathering [] bs) = go [] tt in
        record {
          free = next.free;
          parts =
              ap (λ (x : ℕ). parted line_feed (pending ++ (x ∷ (bs ++ later)))) (eqb-true b line_feed e)
              ∙ parted_first line_feed pending (bs ++ later) f
              ∙ ap (λ (ps : List (List ℕ)). pending ∷ ps) next.parts;
        }
    by false e go =
        let next : Goes (pending ++ (b ∷ [])) bs later (gathering (pending ++ (b ∷ [])) bs) =
        go (pending ++ (b ∷ [])) (all_append (λ x. x ≡ line_feed → ⊥) pending (b ∷ []) f (eqb-false b line_feed e, tt)) in
        record {
          free = next.free;
          parts = ap (parted line_feed) (sym (append_assoc pending (b ∷ []) (bs ++ later))) ∙ next.parts;
        }

pieces_go : (pending : List ℕ) (pieces : List (List ℕ)) → Free line_feed pending
    → parted line_feed (pending ++ whole pieces) ≡ (gatherings pending pieces).lines ++ ((gatherings pending pieces).left ∷ [])
unfolding gatherings whole
pieces_go pending [] f = ap (parted line_feed) (append-nil pending) ∙ parted_one line_feed pending f
pieces_go pending (piece ∷ pieces) f =
    let g : Gathering = gathering pending piece in
    let goes : Goes pending piece (whole pieces) (gathering pending piece) = piece_goes pending piece (whole pieces) f in
    goes.parts
    ∙ ap (λ (ps : List (List ℕ)). g.lines ++ ps) (pieces_go g.left pieces goes.free)
    ∙ sym (append_assoc g.lines (gatherings g.left pieces).lines ((gatherings g.left pieces).left ∷ []))

last_kept_lem : (lines : List (List ℕ)) (left : List ℕ) → last_kept (lines ++ (left ∷ [])) ≡ lines ++ some_left left
unfolding last_kept some_left
last_kept_lem [] [] = refl
last_kept_lem [] (b ∷ bs) = refl
last_kept_lem (line ∷ []) left = ap (λ (ls : List (List ℕ)). line ∷ ls) (last_kept_lem [] left)
last_kept_lem (line ∷ next ∷ lines) left = ap (λ (ls : List (List ℕ)). line ∷ ls) (last_kept_lem (next ∷ lines) left)

first_kept_lem : (lines : List (List ℕ)) (left : List ℕ) → first_kept (lines ++ (left ∷ [])) ≡ ended lines left
unfolding first_kept ended last_kept
first_kept_lem [] left = refl
first_kept_lem (line ∷ lines) left = ap (λ (ls : List (List ℕ)). line ∷ ls) (last_kept_lem lines left)

-- the last line without a line feed and the empty input included
pub lines_of_pieces : (pieces : List (List ℕ)) → lines_in (whole pieces) ≡ ended (gatherings [] pieces).lines (gatherings [] pieces).left
unfolding lines_in
lines_of_pieces pieces = ap first_kept (pieces_go [] pieces tt) ∙ first_kept_lem (gatherings [] pieces).lines (gatherings [] pieces).left
