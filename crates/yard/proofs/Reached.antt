-- What stands after some bytes of a piece is what they lead to, and the bytes of all steps are the piece. Between two pieces stands what some bytes lead
-- to; that they are those of standard input is not said, since no contract speaks of it.
use Prim.Native.Nat.{ℕ, ◌≤◌}
use mathlib.Core.Path.{◌≡◌, ap, sym, subst, ◌∙◌}
use mathlib.Core.List.{List, [], ◌++◌}
use native.Mathlib.Omega.{arith}
use lib.ListN.{length}
use Rattle.yard_rules.specs.Conversation.{Areas, after_lines}
use Rattle.yard_lines.specs.Pieces.{gathering}
use Rattle.yard_session.specs.declared.Place.{Place}
use Rattle.yard_session.specs.Fed.{Midway, begun, fed, stretch}
use Rattle.yard_session.specs.Matches.{Matches, Takes}
use Rattle.yard_session.proofs.Feeding.{fed_both}
use Rattle.yard_session.proofs.Conversation.{stretches_adjoin, stretch_whole}

-- these bytes lead from what stood before to what stands now
abbrev pub Leads : List ℕ → Areas → List ℕ → Place → Areas → List ℕ → Place → Type 0
Leads bytes areas area before areas' later at = (m : Midway) → Matches m areas area before → Matches (fed m bytes) areas' later at

module _ {areas : Areas} {area : List ℕ} {before : Place} where
  pub no_bytes : (piece : List ℕ) → Leads (stretch piece 0 0) areas area before areas area before
  unfolding stretch fed gathering after_lines
  no_bytes piece m st = st

  pub more_bytes : {areas' : Areas} {later : List ℕ} {at : Place} (areas'' : Areas) (last out after piece : List ℕ) (from : ℕ) (r : Place)
      → Leads (stretch piece 0 from) areas area before areas' later at → from ≤ r.from
      → ((m : Midway) → Matches m areas' later at → Takes m (stretch piece from r.from) areas'' last out after r)
      → Leads (stretch piece 0 r.from) areas area before areas'' last r
  more_bytes areas'' last out after piece from r so_far h step m st =
      subst (λ (n : Midway). Matches n areas'' last r)
      (sym (fed_both m (stretch piece 0 from) (stretch piece from r.from)) ∙ ap (fed m) (stretches_adjoin piece 0 from r.from (omega arith) h))
      (step (fed m (stretch piece 0 from)) (so_far m st)).stands

  pub all_bytes : {areas' : Areas} {later : List ℕ} {at : Place} (piece : List ℕ) (from : ℕ) → from ≡ length piece
      → Leads (stretch piece 0 from) areas area before areas' later at → Leads piece areas area before areas' later at
  all_bytes {areas'} {later} {at} piece from e so_far m st =
      subst (λ (bytes : List ℕ). Matches (fed m bytes) areas' later at) (ap (stretch piece 0) e ∙ stretch_whole piece) (so_far m st)

-- some bytes lead from the start to what stands
pub record Reached (start areas : Areas) (area : List ℕ) (at : Place) : Type 0 where
  pub taken : List ℕ
  pub stands : Matches (fed (begun start) taken) areas area at

pub nothing_taken : (start : Areas) (area : List ℕ) (at : Place) → Matches (begun start) start area at → Reached start start area at
unfolding fed gathering after_lines
nothing_taken start area at st = record { taken = []; stands = st }

pub piece_taken : {start areas : Areas} {area : List ℕ} {at : Place} (areas' : Areas) (later piece : List ℕ) (r : Place)
    → Reached start areas area at → Leads piece areas area at areas' later r → Reached start areas' later r
piece_taken {start} areas' later piece r reached leads =
    record {
      taken = reached.taken ++ piece;
      stands = subst (λ (n : Midway). Matches n areas' later r) (sym (fed_both (begun start) reached.taken piece)) (leads (fed (begun start) reached.taken) reached.stands);
    }
