-- What each step of the code leaves is what the definition says of the bytes it took: its line is answered as the pending one, and what it holds is the
-- pending line after it.
use Prim.Native.Nat.{ℕ, zero, suc, ◌+◌, ◌≤◌, ◌<◌}
use mathlib.Core.Path.{◌≡◌, refl, ap, sym, subst, ◌∙◌}
use mathlib.Core.Bool.{true, false}
use mathlib.Core.List.{List, [], ◌∷◌, ◌++◌, append-nil}
use native.Mathlib.Omega.{arith}
use native.Mathlib.Numerals.{add-one}
use lib.Dec.{eqb}
use lib.ListN.{length, take, drop, length-take}
use lib.Seq.{sets}
use borrow.Author.Tests.{ne_eqb}
use Rattle.std.proofs.Common.{Option, Some, None, min, unwrap_or}
use Rattle.yard_rules.specs.declared.Stage.{Stage}
use Rattle.yard_rules.specs.declared.Stage.TheVariants as stage
use Rattle.text_rules.specs.Text.{line_feed}
use Rattle.yard_rules.specs.Conversation.{Areas, Yard, LineOutcome, line_outcome, after, after_lines, printed}
use Rattle.text_rules.proofs.Parts.{Free}
use Rattle.yard_lines.specs.declared.Gathered.{Gathered}
use Rattle.yard_lines.specs.Held.{until_feed, Holds, Gathers}
use Rattle.yard_lines.specs.Pieces.{some_left}
use Rattle.yard_lines.proofs.Pieces.{until_free}
use Rattle.yard_reply.specs.Put.{Puts}
use Rattle.yard_step.specs.declared.Stepped.{Stepped}
use Rattle.yard_step.specs.StepLeaves.{StepLeaves}
use Rattle.yard_step.proofs.Longer.{long_outcome}
use Rattle.yard_session.specs.declared.Place.{Place}
use Rattle.yard_session.specs.Fed.{Midway, begun, fed, fed_text, last_of, last_line, end_text, stretch}
use Rattle.yard_session.specs.Matches.{AnsweredAs, Matches, Takes, Ends}
use Rattle.yard_session.proofs.Feeding.{fed_both, text_both, fed_free, text_free, fed_feed, text_feed, stretch_feed, stretch_end}

nothing_held : (area : List ℕ) → Holds area (Some 0) []
nothing_held area = (omega arith, refl)

-- before the first byte
pub begins : (a : Areas) (area : List ℕ) → Matches (begun a) a area (record { stage = stage.Waiting; number = 1; held = Some 0; from = 0; printed = 0 })
unfolding begun
begins a area = record { areas_are = refl; stage_is = refl; number_is = refl; line_is = nothing_held area }

-- the line that is held
pub held_answered : (area : List ℕ) (held : Option ℕ) (line : List ℕ) → 96 ≤ length area → Holds area held line
    → AnsweredAs (take (min (unwrap_or held 0) (length area)) area) line
held_answered area None line l k a number s =
    let none : min 0 (length area) ≡ 0 = omega arith in
    ap (λ n. line_outcome a number s (take n area)) none ∙ sym (long_outcome a number s line (omega arith))
held_answered area (Some n) line l k a number s =
    let all : min n (length area) ≡ n = omega arith in
    ap (λ n. line_outcome a number s (take n area)) all ∙ ap (line_outcome a number s) k.1

-- a line feed
pub line_taken : {m : Midway} {areas : Areas} {area : List ℕ} {at : Place} (line : List ℕ) (areas' : Areas) (out later : List ℕ) (r : Stepped) (next : ℕ)
    → Matches m areas area at → AnsweredAs line m.pending → StepLeaves (line_outcome areas at.number at.stage line) areas' out later r
    → Takes m (line_feed ∷ []) areas' area out later (record { stage = r.stage; number = at.number + 1; held = Some 0; from = next; printed = r.length })
unfolding after
line_taken {m} {areas} {area} {at} line areas' out later r next st alike says =
    let y : Yard = m.yard in
    let outcome : line_outcome areas at.number at.stage line ≡ line_outcome y.areas (suc y.lines) y.stage m.pending =
    alike areas at.number at.stage
    ∙ ap (λ (a : Areas). line_outcome a at.number at.stage m.pending) st.areas_are
    ∙ ap (λ n. line_outcome y.areas n at.stage m.pending) st.number_is
    ∙ ap (λ (s : Stage). line_outcome y.areas (suc y.lines) s m.pending) st.stage_is in
    let place : Place = record { stage = r.stage; number = at.number + 1; held = Some 0; from = next; printed = r.length } in
    record {
      stands =
          subst (λ (n : Midway). Matches n areas' area place) (sym (fed_feed m))
          (record {
            areas_are = says.areas_are ∙ ap (λ (s : LineOutcome). s.areas) outcome;
            stage_is = says.stage_is ∙ ap (λ (s : LineOutcome). s.stage) outcome;
            number_is = ap (λ n. n + 1) st.number_is ∙ add-one (suc y.lines);
            line_is = nothing_held area;
          });
      text_is = subst (Puts out later r.length) (ap (λ (s : LineOutcome). s.text) outcome ∙ sym (text_feed m)) says.text_is;
    }

-- bytes without a line feed: nothing is printed
goes_on : {m : Midway} {areas : Areas} {area : List ℕ} {at : Place} (later : List ℕ) (h : Option ℕ) (bytes : List ℕ) (next : ℕ) → Free line_feed bytes
    → Matches m areas area at → Holds later h (m.pending ++ bytes)
    → Matches (fed m bytes) areas later (record { stage = at.stage; number = at.number; held = h; from = next; printed = 0 })
goes_on {m} {areas} {area} {at} later h bytes next f st k =
    subst
    (λ (n : Midway). Matches n areas later (record { stage = at.stage; number = at.number; held = h; from = next; printed = 0 }))
    (sym (fed_free m bytes f))
    (record { areas_are = st.areas_are; stage_is = st.stage_is; number_is = st.number_is; line_is = k })

nothing_printed : (m : Midway) (out bytes : List ℕ) → Free line_feed bytes → Puts out out 0 (fed_text m bytes)
nothing_printed m out bytes f = subst (λ (t : List ℕ). Puts out out 0 t) (sym (text_free m bytes f)) (refl, refl, omega arith)

-- and a line feed after them
takes_both : (m : Midway) (xs ys : List ℕ) {areas : Areas} {area out later : List ℕ} {r : Place} → Free line_feed xs
    → Takes (fed m xs) ys areas area out later r → Takes m (xs ++ ys) areas area out later r
takes_both m xs ys {areas} {area} {out} {later} {r} f t =
    record {
      stands = subst (λ (n : Midway). Matches n areas area r) (sym (fed_both m xs ys)) t.stands;
      text_is =
          subst (Puts out later r.printed)
          (ap (λ (s : List ℕ). s ++ fed_text (fed m xs) ys) (sym (text_free m xs f)) ∙ sym (text_both m xs ys))
          t.text_is;
    }

-- a piece from a place on: to its end where no line feed follows, and else through the line feed
module _ {m : Midway} {areas : Areas} {area : List ℕ} {at : Place} (later : List ℕ) (g : Gathered) (piece : List ℕ) (from : ℕ)
    (inside : from < length piece) (gathers : Gathers area at.held piece from later g)
    (st : Matches m areas area at) where
  abbrev gathered : Place
  gathered = record { stage = at.stage; number = at.number; held = g.held; from = length piece; printed = 0 }

  goes_until : Matches (fed m (until_feed (drop from piece))) areas later gathered
  goes_until =
      goes_on later g.held (until_feed (drop from piece)) (length piece) (until_free (drop from piece)) st (gathers.holds m.pending st.line_is)

  pub piece_ends : (out : List ℕ) → length piece ≤ g.end → Takes m (stretch piece from (length piece)) areas later out out gathered
  piece_ends out h =
      subst (λ (bytes : List ℕ). Takes m bytes areas later out out gathered)
      (sym (stretch_end piece from inside (omega (arith, gathers.place))))
      (record { stands = goes_until; text_is = nothing_printed m out (until_feed (drop from piece)) (until_free (drop from piece)) })

  pub line_ends : (areas' : Areas) (out after : List ℕ) (r : Place) → g.end < length piece → r.from ≡ g.end + 1
      → ((n : Midway) → Matches n areas later gathered → Takes n (line_feed ∷ []) areas' later out after r)
      → Takes m (stretch piece from r.from) areas' later out after r
  line_ends areas' out after r h e step =
      let line : List ℕ = until_feed (drop from piece) in
      subst (λ (bytes : List ℕ). Takes m bytes areas' later out after r)
      (sym (ap (stretch piece from) (e ∙ ap (λ n. n + 1) gathers.place) ∙ stretch_feed piece from inside (omega (arith, gathers.place))))
      (takes_both m line (line_feed ∷ []) (until_free (drop from piece)) (step (fed m line) goes_until))

-- whether there is a last line
some_last : (lines : ℕ) (line : List ℕ) → 0 < length line → last_of lines line ≡ line ∷ []
unfolding last_of some_left
some_last zero line h = refl
some_last (suc n) [] h = absurd (omega arith)
some_last (suc n) (b ∷ bs) h = refl

empty_last : (lines : ℕ) → last_of lines [] ≡ elim (eqb (suc lines) 1) [ true ↦ [] ∷ [] | false ↦ [] ]
unfolding last_of some_left
empty_last zero = refl
empty_last (suc n) = ap (λ b. elim b [ true ↦ [] ∷ [] | false ↦ [] ]) (sym (ne_eqb (suc (suc n)) 1 (λ e. omega arith)))

pub long_last : (area line : List ℕ) (lines : ℕ) → Holds area None line → last_of lines line ≡ line ∷ []
long_last area line lines k = some_last lines line (omega (arith, k))

pub byte_last : (area line : List ℕ) (n lines : ℕ) → 0 < n → Holds area (Some n) line → last_of lines line ≡ line ∷ []
byte_last area line n lines h k = some_last lines line (omega (arith, ap length k.1, length-take n area, k.0))

pub first_last : (area line : List ℕ) (n number lines : ℕ) → n ≡ 0 → Holds area (Some n) line → number ≡ suc lines
    → last_of lines line ≡ elim (eqb number 1) [ true ↦ line ∷ [] | false ↦ [] ]
first_last area line n number lines z k e =
    let none : [] ≡ line = ap (λ i. take i area) (sym z) ∙ k.1 in
    ap (last_of lines) (sym none)
    ∙ empty_last lines
    ∙ ap (λ (i : ℕ). elim (eqb i 1) [ true ↦ [] ∷ [] | false ↦ [] ]) (sym e)
    ∙ ap (λ (l : List ℕ). elim (eqb number 1) [ true ↦ l ∷ [] | false ↦ [] ]) none

-- the end of the input
pub ends_without : {m : Midway} {areas : Areas} {area : List ℕ} {at : Place} (out : List ℕ) (r : Place) → Matches m areas area at
    → last_of m.yard.lines m.pending ≡ [] → r.stage ≡ stage.Ended → r.printed ≡ 0 → Ends m areas out out r
unfolding last_line end_text after_lines printed
ends_without {m} out r st none e z =
    record {
      areas_are = st.areas_are ∙ ap (λ (ls : List (List ℕ)). (after_lines m.yard ls).areas) (sym none);
      stage_is = e;
      text_is = (ap (λ (ls : List (List ℕ)). sets out 0 (printed m.yard ls)) (sym none), z ∙ ap (λ (ls : List (List ℕ)). length (printed m.yard ls)) (sym none), omega arith);
    }

pub ends_with : {m : Midway} {areas : Areas} {area out later : List ℕ} {t : Place} (r : Place) → Takes m (line_feed ∷ []) areas area out later t
    → last_of m.yard.lines m.pending ≡ m.pending ∷ [] → r.stage ≡ stage.Ended → r.printed ≡ t.printed → Ends m areas out later r
unfolding last_line end_text after_lines printed
ends_with {m} {out = out} {later} {t} r takes one e p =
    record {
      areas_are =
          takes.stands.areas_are
          ∙ ap (λ (n : Midway). n.yard.areas) (fed_feed m)
          ∙ ap (λ (ls : List (List ℕ)). (after_lines m.yard ls).areas) (sym one);
      stage_is = e;
      text_is =
          subst (λ n. Puts out later n (printed m.yard (last_of m.yard.lines m.pending))) (sym p)
          (subst (λ (ls : List (List ℕ)). Puts out later t.printed (printed m.yard ls)) (sym one) (subst (Puts out later t.printed) (text_feed m ∙ sym (append-nil _)) takes.text_is));
    }
