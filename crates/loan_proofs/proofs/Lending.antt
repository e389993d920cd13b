-- A struct in a local, lent by `&mut` for one call: its cell, with what the struct owns, lies in memory as its type
-- says, so `denote.Lend`'s `lends_ref` lends it for a lifetime that the walk makes. After the call `ref_back` gives
-- back what lies there, and that is the cell again, with what the struct owns at its last value.
use Prim.Native.Nat.{ℕ}
use mathlib.Core.List.{List, [], ◌∷◌}
use seplogic.Ra.Ura.{Ura}
use base.Share
use base.Fraction.{full_share}
use mir.Val.{Val}
use base.Logic.{SProp, ent, sep, ex, wand, apply∗}
use base.Fml.{Lft, Share, fsep, flft}
use types.Logic.{Logic, sem}
use contract.BorrowLft.{meet_⊑_left}
use types.Kit.{‵, raw, ◌⊛◌, ◌$◌, ◌∵◌, !, qed, move, use1, use2, split, fsplit, fpick, fjoin, fpack, show, frame, done}
use denote.RattleType.{RattleType}
use denote.Memory.{cell_at, mem, part_of}

module _ {M : Type 1} {𝓤 : Ura M} (𝓛 : Logic 𝓤) (R : RattleType) (h : R.Denot) (b o : ℕ) where
  pub lies_in : (vs : List Val) → ent 𝓤 (sep 𝓤 (sem 𝓛 (cell_at full_share R.mir vs b o)) (sem 𝓛 (R.own_val h vs))) (sem 𝓛 ((mem R).own_at h b o))
  unfolding part_of
  lies_in vs = qed 𝓛 (‵ (cell_at full_share R.mir vs b o) ∷ ‵ (R.own_val h vs) ∷ []) ∵ fjoin ! $ fpack ! (List Val) (λ us. fsep (cell_at full_share R.mir us b o) (R.own_val h us)) vs $ done !

  pub lies_out : ent 𝓤 (sem 𝓛 ((mem R).own_at h b o)) (ex 𝓤 (λ (vs : List Val). sep 𝓤 (sem 𝓛 (cell_at full_share R.mir vs b o)) (sem 𝓛 (R.own_val h vs))))
  unfolding part_of
  lies_out = qed 𝓛 (‵ ((mem R).own_at h b o) ∷ []) ∵ fpick ! (λ vs. fsplit ! $ show ! (λ (us : List Val). sep 𝓤 (sem 𝓛 (cell_at full_share R.mir us b o)) (sem 𝓛 (R.own_val h us))) vs $ frame ! $ done !)

-- The loan of a struct that holds a reference at κ may last no longer than κ. It is at ν ∷ κ, ν being the lifetime that
-- the walk makes: of κ's token one half goes with ν's into the token of ν ∷ κ and the other stays beside it, and after
-- the call both tokens are whole again.
module _ {M : Type 1} {𝓤 : Ura M} (𝓛 : Logic 𝓤) (κ : Lft) (q : Share) (ν : ℕ) where
  -- the rest of ν's token
  open 𝓛 use {A}

  abbrev pub Kept : SProp 𝓤
  Kept = wand 𝓤 (A.lft (ν ∷ []) (Share.left q)) (A.lft (ν ∷ []) full_share)

  pub tokens_for : ent 𝓤 (sep 𝓤 (A.lft (ν ∷ []) full_share) (A.lft κ q)) (sep 𝓤 (A.lft (ν ∷ κ) (Share.left q)) (sep 𝓤 (A.lft κ (Share.right q)) Kept))
  tokens_for =
      qed 𝓛 (‵ (flft (ν ∷ []) full_share) ∷ ‵ (flft κ q) ∷ []) ∵ use1 𝓛 (‵ (flft (ν ∷ []) (Share.left q)) ⊛ raw Kept) (𝓛.lfts.lft_carve ν (Share.left q)) $ split ! $
      move ! (2 ∷ []) $ use1 𝓛 (‵ (flft κ (Share.left q)) ⊛ ‵ (flft κ (Share.right q))) (𝓛.lfts.lft_split κ q) $ split ! $
      -- [κ's left half; its right half; as much of ν; the rest of ν]
      move ! (2 ∷ 0 ∷ []) $ use2 𝓛 (‵ (flft (ν ∷ κ) (Share.left q))) (𝓛.lfts.lft_meet (ν ∷ []) κ (Share.left q)) $ frame ! $ frame ! $ done !

  pub tokens_back : ent 𝓤 (sep 𝓤 (A.lft (ν ∷ κ) (Share.left q)) (sep 𝓤 (A.lft κ (Share.right q)) Kept)) (sep 𝓤 (A.lft (ν ∷ []) full_share) (A.lft κ q))
  tokens_back =
      qed 𝓛 (‵ (flft (ν ∷ κ) (Share.left q)) ∷ ‵ (flft κ (Share.right q)) ∷ raw Kept ∷ []) ∵
      use1 𝓛 (‵ (flft (ν ∷ []) (Share.left q)) ⊛ ‵ (flft κ (Share.left q))) (𝓛.lfts.lft_unmeet (ν ∷ []) κ (Share.left q)) $ split ! $
      move ! (1 ∷ 2 ∷ []) $ use2 𝓛 (‵ (flft κ q)) (𝓛.lfts.lft_join κ q) $
      move ! (1 ∷ 2 ∷ []) $ use2 𝓛 (‵ (flft (ν ∷ []) full_share)) (apply∗ 𝓤 (A.lft (ν ∷ []) (Share.left q)) (A.lft (ν ∷ []) full_share)) $ frame ! $ done !

  -- with ν the loan is over
  pub over : ent 𝓤 (A.dead (ν ∷ [])) (A.dead (ν ∷ κ))
  over = 𝓛.lfts.dead-incl (ν ∷ κ) (ν ∷ []) (meet_⊑_left (ν ∷ []) κ)
