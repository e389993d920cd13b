-- A list weighed so far: what is known of the tags before, followed by what the tags still ahead say, is what the whole list says. One tag moves one step of
-- each definition from ahead to before.
use Prim.Native.Nat.{ℕ, ◌+◌, ◌≤◌, ◌<◌}
use native.Mathlib.Numerals.{add-one}
use native.Mathlib.Omega.{arith}
use mathlib.Core.Path.{◌≡◌, refl, sym, ap, ◌∙◌}
use mathlib.Core.Bool.{Bool, true, false, false≢true, ◌&&◌, and-true, and-false, and_assoc}
use mathlib.Core.List.{List, [], ◌∷◌}
use mathlib.Core.Option.{Option}
use lib.IntN.{ℤ}
use lib.Dec.{leb}
use lib.ListN.{length, drop, get_or, set, length-map, drop_of_length-le}
use lib.Seq.{sets, drop-cons}
use Rattle.lists.specs.Lists.{every}
use Rattle.table_rules.specs.Refusals.{not_live, unless}
use Rattle.table_rules.specs.Table.{Table}
use Rattle.dues_rules.specs.Listed.{most_listed, weight_at, weights_at, is_found, is_weight, pays, dues_of}

-- that a list's number and weights are such that it pays
abbrev pub list_pays : Table → List ℕ → Bool
list_pays t tags = leb (length (weights_at t tags)) most_listed && every is_weight (weights_at t tags)

pub record Weighed (t : Table) (tags held₀ held : List ℕ) (paying : Bool) (i : ℕ) : Type 0 where
  pub live : every is_found (weights_at t (drop i tags)) ≡ every is_found (weights_at t tags)
  pub fair : (paying && every is_weight (weights_at t (drop i tags))) ≡ list_pays t tags
  pub stored : paying ≡ true → sets held i (dues_of (weights_at t (drop i tags))) ≡ sets held₀ 0 (dues_of (weights_at t tags))

pub none_weighed : (t : Table) (tags held : List ℕ) → Weighed t tags held held (leb (length tags) most_listed) 0
none_weighed t tags held =
    record {
      live = refl;
      fair = ap (λ (n : ℕ). leb n most_listed && every is_weight (weights_at t tags)) (sym (length-map tags (weight_at t)));
      stored = λ e. refl;
    }

module _ {t : Table} {tags held₀ held : List ℕ} {paying : Bool} {i : ℕ} (so_far : Weighed t tags held₀ held paying i) where
  -- the tag ahead
  module _ (h : i < length tags) where
    here : Option ℤ
    here = weight_at t (get_or tags i 0)

    rest : List (Option ℤ)
    rest = weights_at t (drop (i + 1) tags)

    ahead : weights_at t (drop i tags) ≡ here ∷ rest
    unfolding here rest
    ahead = ap (weights_at t) (drop-cons tags i 0 h) ∙ ap (λ (n : ℕ). here ∷ weights_at t (drop n tags)) (sym (add-one i))

    found-ahead : {live : Bool} → live ≡ is_found here → live && every is_found rest ≡ every is_found (weights_at t tags)
    unfolding every
    found-ahead e = ap (λ (b : Bool). b && every is_found rest) e ∙ ap (every is_found) (sym ahead) ∙ so_far.live

    fair-ahead : {pays : Bool} → pays ≡ is_weight here → (paying && pays) && every is_weight rest ≡ list_pays t tags
    unfolding every
    fair-ahead {pays} e =
        and_assoc paying pays (every is_weight rest)
        ∙ ap (λ (b : Bool). paying && (b && every is_weight rest)) e
        ∙ ap (λ (ws : List (Option ℤ)). paying && every is_weight ws) (sym ahead)
        ∙ so_far.fair

    -- it is not live: the list is refused by that
    pub stops : {n : ℕ} (after : ℕ) → 0 < n → n ≡ unless (is_found (weight_at t (get_or tags i 0))) not_live 0 → n ≡ unless (every is_found (weights_at t tags)) not_live after
    unfolding here
    stops {n} after positive e = by (is_found here) refl e
      where
        by : (b : Bool) → is_found here ≡ b → n ≡ unless b not_live 0 → n ≡ unless (every is_found (weights_at t tags)) not_live after
        by true f e = absurd (omega arith)
        by false f e = e ∙ ap (λ (b : Bool). unless b not_live after) (found-ahead (sym f))

    -- it is live: by what it pays
    module _ (found : 0 ≡ unless (is_found (weight_at t (get_or tags i 0))) not_live 0) where
      alive : true ≡ is_found here
      unfolding here
      alive = by (is_found here) found
        where
          by : (b : Bool) → 0 ≡ unless b not_live 0 → true ≡ b
          by true e = refl
          by false e = absurd (omega arith)

      pub one_paid : {held' : List ℕ} {paying' : Bool} {cents : ℕ} → true ≡ is_weight (weight_at t (get_or tags i 0)) → cents ≡ pays (weight_at t (get_or tags i 0)) → held' ≡ set held i cents → paying' ≡ paying
          → Weighed t tags held₀ held' paying' (i + 1)
      unfolding here rest
      one_paid {held'} {cents = cents} e f s p =
          let put : held' ≡ set held i (pays here) = s ∙ ap (set held i) f in
          record {
            live = found-ahead alive;
            fair = ap (λ (b : Bool). b && every is_weight rest) (p ∙ sym (and-true paying)) ∙ fair-ahead e;
            stored = λ q.
                ap (λ (l : List ℕ). sets l (i + 1) (dues_of rest)) put
                ∙ ap (λ (n : ℕ). sets (set held i (pays here)) n (dues_of rest)) (add-one i)
                ∙ ap (λ (ws : List (Option ℤ)). sets held i (dues_of ws)) (sym ahead)
                ∙ so_far.stored (sym p ∙ q);
          }

      pub none_paid : {held' : List ℕ} {paying' : Bool} → false ≡ is_weight (weight_at t (get_or tags i 0)) → paying' ≡ false → Weighed t tags held₀ held' paying' (i + 1)
      unfolding here rest
      none_paid e p =
          record {
            live = found-ahead alive;
            fair = ap (λ (b : Bool). b && every is_weight rest) (p ∙ sym (and-false paying)) ∙ fair-ahead e;
            stored = λ q. absurd (false≢true (sym p ∙ q));
          }

  pub all_weighed : length tags ≤ i → (true ≡ every is_found (weights_at t tags)) × (paying ≡ list_pays t tags) × (paying ≡ true → held ≡ sets held₀ 0 (dues_of (weights_at t tags)))
  unfolding every
  all_weighed h =
      let none_ahead : weights_at t (drop i tags) ≡ [] = ap (weights_at t) (drop_of_length-le tags {i = i} h) in (
        sym (ap (every is_found) none_ahead) ∙ so_far.live,
        sym (and-true paying) ∙ ap (λ (ws : List (Option ℤ)). paying && every is_weight ws) (sym none_ahead) ∙ so_far.fair,
        λ q. ap (λ (ws : List (Option ℤ)). sets held i (dues_of ws)) (sym none_ahead) ∙ so_far.stored q,
      )
