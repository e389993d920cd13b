-- The bytes up to a line feed from a place on, and a line so far with what is ahead of it.
use Prim.Native.Nat.{ℕ, suc, ◌+◌, ◌≤◌, ◌<◌}
use mathlib.Core.Path.{◌≡◌, refl, ap, sym, subst, ◌∙◌}
use mathlib.Core.List.{List, [], ◌∷◌, ◌++◌, append_assoc, append-nil}
use native.Mathlib.Numerals.{add-one}
use lib.ListN.{length, get_or, drop, drop_of_length-le}
use lib.Seq.{drop-cons}
use Rattle.text_rules.specs.Text.{line_feed}
use Rattle.std.proofs.Common.{Option}
use Rattle.yard_lines.specs.Held.{until_feed, Holds}
use Rattle.yard_lines.proofs.Pieces.{until_feed_lem, until_byte}

-- the bytes up to a line feed from a place on
module _ (piece : List ℕ) (i : ℕ) (more : i < length piece) where
  pub next_byte : (get_or piece i 0 ≡ line_feed → ⊥) → until_feed (drop i piece) ≡ get_or piece i 0 ∷ until_feed (drop (i + 1) piece)
  next_byte e =
      ap until_feed (drop-cons piece i 0 more)
      ∙ until_byte (get_or piece i 0) (drop (suc i) piece) e
      ∙ ap (λ k. get_or piece i 0 ∷ until_feed (drop k piece)) (sym (add-one i))

  pub next_feed : get_or piece i 0 ≡ line_feed → until_feed (drop i piece) ≡ []
  next_feed e = ap until_feed (drop-cons piece i 0 more) ∙ until_feed_lem (get_or piece i 0) (drop (suc i) piece) e

pub next_end : (piece : List ℕ) (i : ℕ) → length piece ≤ i → until_feed (drop i piece) ≡ []
unfolding until_feed
next_end piece i h = ap until_feed (drop_of_length-le piece {i = i} h)

-- a line so far is held, and with what is ahead it is the whole line
pub record Onward (area : List ℕ) (held : Option ℕ) (ahead whole : List ℕ) : Type 0 where
  pub done : List ℕ
  pub holds : Holds area held done
  pub all : done ++ ahead ≡ whole

pub onward_start : (area : List ℕ) (held : Option ℕ) (ahead line : List ℕ) → Holds area held line → Onward area held ahead (line ++ ahead)
onward_start area held ahead line h = record { done = line; holds = h; all = refl }

pub onward_more : (area after : List ℕ) (held next : Option ℕ) (b : ℕ) (ahead later whole : List ℕ) → ahead ≡ b ∷ later
    → ((line : List ℕ) → Holds area held line → Holds after next (line ++ (b ∷ []))) → Onward area held ahead whole → Onward after next later whole
onward_more area after held next b ahead later whole e step o =
    record {
      done = o.done ++ (b ∷ []);
      holds = step o.done o.holds;
      all = append_assoc o.done (b ∷ []) later ∙ ap (λ xs. o.done ++ xs) (sym e) ∙ o.all;
    }

pub onward_ends : (area : List ℕ) (held : Option ℕ) (ahead whole : List ℕ) → ahead ≡ [] → Onward area held ahead whole → Holds area held whole
onward_ends area held ahead whole e o =
    subst (Holds area held) (sym (append-nil o.done) ∙ ap (λ xs. o.done ++ xs) (sym e) ∙ o.all) o.holds
