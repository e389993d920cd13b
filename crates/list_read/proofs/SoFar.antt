-- A list read so far: what the lines before have done, followed by what the lines still ahead do, is the whole reading. A line that is added moves one
-- step of the definition from ahead to before; the live total keeps pace with the lines added, so their number and distances fit.
use Prim.Native.Nat.{ℕ, zero, suc, ◌+◌, ◌*◌, ◌≤◌, ◌<◌}
use mathlib.Core.Path.{◌≡◌, refl, ap, sym, ◌∙◌}
use mathlib.Core.List.{List, ◌∷◌}
use native.Mathlib.Omega.{arith}
use lib.ListN.{length, drop, drop_of_length-le}
use Rattle.metric_rules.specs.declared.Profile.{Profile}
use Rattle.metric_rules.specs.Row.{Row, zero_row}
use Rattle.table_rules.specs.Geometry.{work_rows}
use Rattle.table_rules.specs.declared.Added.{Added}
use Rattle.table_rules.specs.Table.{Table, order_of, live_total, cleared}
use Rattle.table_rules.specs.Add.{add_refusal, add_target, added, add_reply, table_after_add, work_after_add}
use Rattle.text_rules.specs.Text.{parted}
use Rattle.list_rules.specs.declared.ListRead.{ListRead}
use Rattle.list_rules.specs.Lines.{lines_from, lines_of}
use Rattle.list_rules.specs.Lines.ListLine.{an_item}
use Rattle.list_rules.specs.ReadList.{Reading, stopped, one_more, reading}
use Rattle.list_rules.proofs.Growing.{live_below_most, few_distances, live_one_more}
use Rattle.list_line.specs.Places.{Broken}

-- so many lines added, with so many distances, before what the others lead to
unfoldable pub after : ℕ → ℕ → Reading → Reading
after added distances r =
    record {
      reply =
          record {
            refusal = r.reply.refusal;
            line = r.reply.line;
            added = added + r.reply.added;
            distances = distances + r.reply.distances;
          };
      table = r.table;
      work = r.work;
    }

after_none : (r : Reading) → r ≡ after 0 0 r
unfolding after
after_none r =
    let a : r.reply.added ≡ 0 + r.reply.added = omega arith in
    let d : r.reply.distances ≡ 0 + r.reply.distances = omega arith in
    λ i. record { reply = record { refusal = r.reply.refusal; line = r.reply.line; added = a i; distances = d i }; table = r.table; work = r.work }

after_one : (n sum distances : ℕ) (r : Reading) → after n sum (one_more distances r) ≡ after (n + 1) (sum + distances) r
unfolding after one_more
after_one n sum distances r =
    let a : n + suc r.reply.added ≡ n + 1 + r.reply.added = omega arith in
    let d : sum + (distances + r.reply.distances) ≡ sum + distances + r.reply.distances = omega arith in
    λ i. record { reply = record { refusal = r.reply.refusal; line = r.reply.line; added = a i; distances = d i }; table = r.table; work = r.work }

after_stopped : (n sum refusal line : ℕ) (t : Table) (work : List Row)
    → after n sum (stopped refusal line t work) ≡ record { reply = record { refusal = refusal; line = line; added = n; distances = sum }; table = t; work = work }
unfolding after stopped
after_stopped n sum refusal line t work =
    let a : n + 0 ≡ n = omega arith in
    let d : sum + 0 ≡ sum = omega arith in
    λ i. record { reply = record { refusal = refusal; line = line; added = a i; distances = d i }; table = t; work = work }

-- an add's reply has its refusal
pub reply_refusal : (t : Table) (work : List Row) (tag : ℕ) (p : Profile) (day : ℕ) → (add_reply t work tag p day).refusal ≡ add_refusal t work tag p day
unfolding add_reply
reply_refusal t work tag p day = by (add_refusal t work tag p day)
  where
    by : (n : ℕ)
        → (elim n as (λ x. Added) [
          | zero ↦ record { refusal = 0; bucket = add_target t tag p day; distances = (added t tag p day).distances }
          | suc n ↦ record { refusal = suc n; bucket = 0; distances = 0 }
        ]).refusal
        ≡ n
    by zero = refl
    by (suc n) = refl

-- a refused add leaves the table and the work area
refused_keeps : (t : Table) (work : List Row) (tag : ℕ) (p : Profile) (day n : ℕ) → n ≡ add_refusal t work tag p day → (n ≡ 0 → ⊥)
    → (t ≡ table_after_add t work tag p day) × (work ≡ work_after_add t work tag p day)
unfolding table_after_add work_after_add
refused_keeps t work tag p day zero e some = absurd (some refl)
refused_keeps t work tag p day (suc n) e some = (
  ap (λ (m : ℕ). elim m as (λ x. Table) [ zero ↦ (added t tag p day).table | suc k ↦ t ]) e,
  ap (λ (m : ℕ). elim m as (λ x. List Row) [ zero ↦ cleared zero_row (work_rows (order_of t)) work | suc k ↦ work ]) e,
)

pub record SoFar (day : ℕ) (t₀ : Table) (work₀ : List Row) (list : List ℕ) (t : Table) (work : List Row) (at added distances : ℕ) : Type 0 where
  pub within : at ≤ length list
  pub live : added ≤ live_total t
  pub most : added ≤ 4096
  pub sum : distances ≤ 49152 * added
  pub table_long : length t ≡ length t₀
  pub work_long : length work ≡ length work₀
  pub whole : reading day t₀ work₀ 2 (lines_of list) ≡ after added distances (reading day t work (added + 2) (lines_of (drop at list)))

pub at_first : (day : ℕ) (t : Table) (work : List Row) (list : List ℕ) → SoFar day t work list t work 0 0 0
at_first day t work list =
    record {
      within = omega arith;
      live = omega arith;
      most = omega arith;
      sum = omega arith;
      table_long = refl;
      work_long = refl;
      whole = after_none (reading day t work 2 (lines_of list));
    }

-- the reading so far, where the rest stops at once
abbrev pub Ends : ℕ → Table → List Row → List ℕ → ListRead → Table → List Row → Type 0
Ends day t₀ work₀ list reply t work =
    (reply ≡ (reading day t₀ work₀ 2 (lines_of list)).reply)
    × ((t ≡ (reading day t₀ work₀ 2 (lines_of list)).table) × (work ≡ (reading day t₀ work₀ 2 (lines_of list)).work))

module _ {day : ℕ} {t₀ : Table} {work₀ : List Row} {list : List ℕ} {t : Table} {work : List Row} {at added distances : ℕ} (so_far : SoFar day t₀ work₀ list t work at added distances) where
  stops : {refusal line : ℕ} → reading day t work (added + 2) (lines_of (drop at list)) ≡ stopped refusal line t work
      → Ends day t₀ work₀ list (record { refusal = refusal; line = line; added = added; distances = distances }) t work
  stops {refusal} {line} e =
      let all = so_far.whole ∙ ap (after added distances) e ∙ after_stopped added distances refusal line t work in
      (ap (λ r. r.reply) (sym all), (ap (λ r. r.table) (sym all), ap (λ r. r.work) (sym all)))

  pub read_to_end : length list ≤ at → Ends day t₀ work₀ list (record { refusal = 0; line = 0; added = added; distances = distances }) t work
  unfolding reading lines_of lines_from parted
  read_to_end h = stops (ap (λ text. reading day t work (added + 2) (lines_of text)) (drop_of_length-le list {i = at} h))

  pub line_broken_here : Broken (drop at list) → Ends day t₀ work₀ list (record { refusal = 31; line = added + 2; added = added; distances = distances }) t work
  unfolding reading
  line_broken_here b = stops (ap (reading day t work (added + 2)) b.same)

  -- the line ahead is an item
  module _ {tag : ℕ} (place : ℕ) {p : Profile} (item : lines_of (drop at list) ≡ an_item tag p ∷ lines_of (drop place list)) where
    by_refusal : {r : ℕ} → add_refusal t work tag p day ≡ r
        → reading day t work (added + 2) (lines_of (drop at list))
        ≡ elim r [
          | suc r ↦ stopped (suc r) (added + 2) t work
          | zero ↦
              one_more (add_reply t work tag p day).distances
              (reading day (table_after_add t work tag p day) (work_after_add t work tag p day) (suc (added + 2)) (lines_of (drop place list)))
        ]
    unfolding reading
    by_refusal e =
        ap (reading day t work (added + 2)) item
        ∙ ap (λ r. elim r as (λ x. Reading) [
          | suc r ↦ stopped (suc r) (added + 2) t work
          | zero ↦
              one_more (add_reply t work tag p day).distances
              (reading day (table_after_add t work tag p day) (work_after_add t work tag p day) (suc (added + 2)) (lines_of (drop place list)))
        ]) e

    -- the add is refused, and leaves the areas as they were
    module _ (refusal : ℕ) (known : refusal ≡ add_refusal t work tag p day) (some : refusal ≡ 0 → ⊥) where
      refused-reading : reading day t work (added + 2) (lines_of (drop at list)) ≡ stopped refusal (added + 2) t work
      refused-reading = by refusal (sym known) some
        where
          by : (r : ℕ) → add_refusal t work tag p day ≡ r → (r ≡ 0 → ⊥) → reading day t work (added + 2) (lines_of (drop at list)) ≡ stopped r (added + 2) t work
          by zero e f = absurd (f refl)
          by (suc r) e f = by_refusal e

      pub add_refused : {u : Table} {w : List Row} → u ≡ table_after_add t work tag p day → w ≡ work_after_add t work tag p day
          → Ends day t₀ work₀ list (record { refusal = refusal; line = added + 2; added = added; distances = distances }) u w
      add_refused e f =
          let end = stops refused-reading in
          let kept = refused_keeps t work tag p day refusal known some in
          (end.0, (e ∙ sym kept.0 ∙ end.1.0, f ∙ sym kept.1 ∙ end.1.1))

    -- the add is accepted
    module _ (accepted : add_refusal t work tag p day ≡ 0) where
      pub sums-fit : {more : ℕ} → more ≡ (add_reply t work tag p day).distances → (added < 4096) × (more ≤ 49152)
      sums-fit e = (omega (arith, so_far.live, live_below_most t work tag p day accepted), omega (arith, e, few_distances t work tag p day accepted))

      pub one-line-more : place ≤ length list → {u : Table} {w : List Row} {more : ℕ} → u ≡ table_after_add t work tag p day → w ≡ work_after_add t work tag p day
          → length u ≡ length t → length w ≡ length work → more ≡ (add_reply t work tag p day).distances
          → SoFar day t₀ work₀ list u w place (added + 1) (distances + more)
      one-line-more l {u} {w} e f g h d =
          let number : suc (added + 2) ≡ added + 1 + 2 = omega arith in
          let fit = sums-fit d in
          record {
            within = l;
            live = omega (arith, so_far.live, ap live_total e, live_one_more t work tag p day accepted);
            most = omega (arith, fit.0);
            sum = omega (arith, so_far.sum, fit.1);
            table_long = g ∙ so_far.table_long;
            work_long = h ∙ so_far.work_long;
            whole =
                so_far.whole
                ∙ ap (after added distances) (by_refusal accepted)
                ∙ after_one added distances (add_reply t work tag p day).distances _
                ∙ λ i. after (added + 1) (distances + sym d i) (reading day (sym e i) (sym f i) (number i) (lines_of (drop place list)));
          }
