-- `table_buckets::gather_live` meets its contract. The loop's invariant: the live ones of the first i slots stand behind the first n rows.
use native.Mathlib.Omega.{arith}
use mathlib.Core.Path.{◌≡◌, refl, sym, ◌∙◌, ap, subst⁻¹}
use mathlib.Core.Bool.{true, false}
use mathlib.Core.List.{List, [], ◌∷◌, ◌++◌}
use Prim.Native.Nat.{ℕ, ◌+◌, ◌≤◌, ◌<◌}
use lib.ListN.{length, set, get_or, length-append, length-set}
use lib.Seq.{sets, take_all}
use Rattle.lists.specs.Lists.{select}
use Rattle.metric_rules.specs.Row.{Row, is_live}
use Rattle.tree_rules.proofs.Stores.{sets_more}
use Rattle.rows.proofs.Selected.{selected_next, passed_over, selected_within}
use Rattle.table_buckets.specs.declared.Gathered.{Gathered}
use Rattle.table_buckets.proofs.gather_live.Invariants.{lives, State, Kept}
use Rattle.table_buckets.proofs.gather_live.Goals as goal
use Rattle.table_buckets.proofs.gather_live.Goals.{then-is_live, else-is_live}

module _ (work₀ : List Row) (n : ℕ) (slots work : List Row) (end i : ℕ) (s : State work₀ n slots work end i) (h : i < length slots) where
  room_for_one : n + length (select is_live slots) ≤ length work₀ → is_live (get_or slots i []) ≡ true → end < length work
  room_for_one fits t =
      let e : lives slots (i + 1) ≡ lives slots i ++ (get_or slots i [] ∷ []) = selected_next is_live slots i [] h t in
      omega (arith, ap length e, length-append (lives slots i) (get_or slots i [] ∷ []), selected_within is_live (i + 1) slots)

  taken_in : is_live (get_or slots i []) ≡ true → State work₀ n slots (set work end (get_or slots i [])) (end + 1) (i + 1)
  taken_in t =
      let x : Row = get_or slots i [] in
      let e : lives slots (i + 1) ≡ lives slots i ++ (x ∷ []) = selected_next is_live slots i [] h t in (
        omega (arith, ap length e, length-append (lives slots i) (x ∷ [])),
        simp length-set s.1,
        ap (λ (w : List Row). set w end x) s.2 ∙ sets_more work₀ n end (lives slots i) (x ∷ []) s.0 ∙ ap (sets work₀ n) (sym e),
      )

  left_out : is_live (get_or slots i []) ≡ false → State work₀ n slots work end (i + 1)
  left_out t =
      let e : lives slots (i + 1) ≡ lives slots i = passed_over is_live slots i [] h t in
      (s.0 ∙ ap (λ (l : List Row). n + length l) (sym e), s.1, s.2 ∙ ap (sets work₀ n) (sym e))

pub loop-row-init : goal.loop-row-init
unfolding select
loop-row-init c = ((omega arith, refl, refl), refl)

pub offset_bounds-gathered-gathered : goal.offset_bounds-gathered-gathered
offset_bounds-gathered-gathered c =
    let room = room_for_one c.args.gathered.now.work.now c.args.gathered.now.n c.args.slots.now c.loop-row.gathered.work.now c.loop-row.gathered.n c.loop-row.row-index
    c.loop-row.invariant.0 (omega arith) c.requires (sym c.is_live.ensures ∙ c.if-is_live.true) in
    omega arith

pub bounds-gathered-gathered : goal.bounds-gathered-gathered
bounds-gathered-gathered c =
    room_for_one c.args.gathered.now.work.now c.args.gathered.now.n c.args.slots.now c.loop-row.gathered.work.now c.loop-row.gathered.n c.loop-row.row-index
    c.loop-row.invariant.0 (omega arith) c.requires (sym c.is_live.ensures ∙ c.if-is_live.true)

pub overflow_add-gathered : goal.overflow_add-gathered
overflow_add-gathered c =
    let room = room_for_one c.args.gathered.now.work.now c.args.gathered.now.n c.args.slots.now c.loop-row.gathered.work.now c.loop-row.gathered.n c.loop-row.row-index
    c.loop-row.invariant.0 (omega arith) c.requires (sym c.is_live.ensures ∙ c.if-is_live.true) in
    omega arith

pub loop-row-preserved : goal.loop-row-preserved
loop-row-preserved c =
    let l = c.loop-row in
    let before = c.args.gathered.now in
    let slots = c.args.slots.now in
    elim c.if-is_live.branch [
      | then-is_live w ↦ subst⁻¹ (λ (g : Gathered). Kept before slots g (l.row-index + 1)) w.gathered-is (
        taken_in before.work.now before.n slots l.gathered.work.now l.gathered.n l.row-index l.invariant.0 (omega arith) (sym c.is_live.ensures ∙ w.if-is_live.true),
        l.invariant.1,
      )
      | else-is_live w ↦ subst⁻¹ (λ (g : Gathered). Kept before slots g (l.row-index + 1)) w.gathered-is (
        left_out before.work.now before.n slots l.gathered.work.now l.gathered.n l.row-index l.invariant.0 (omega arith) (sym c.is_live.ensures ∙ w.if-is_live.false),
        l.invariant.1,
      )
    ]

pub returns : goal.returns
returns c =
    let l = c.loop-row in
    let before = c.args.gathered.now in
    let slots = c.args.slots.now in
    let e : lives slots l.row-index ≡ select is_live slots = ap (select is_live) (take_all l.row-index slots (omega arith)) in
    record {
      same_area = l.invariant.1;
      n = l.invariant.0.0 ∙ ap (λ (s : List Row). before.n + length s) e;
      work = l.invariant.0.2 ∙ ap (sets before.work.now before.n) e;
    }
