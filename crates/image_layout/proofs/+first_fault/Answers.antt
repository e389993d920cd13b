-- The part is arranged; its first fault is at its first slot or in one of its halves, which are parts again, with fewer
-- entries.
use Rattle.std.proofs.Common.{◌≡◌, ℕ, ◌+◌, ◌≤◌, List, length, refl, sym, arith}
use Rattle.std.proofs.lemmas.Result.{err_from_is_err_and}
use Rattle.metric_rules.specs.Distance.{distance, space_of}
use Rattle.image_read.specs.Slots.{slot_in}
use Rattle.image_entries.specs.Faults.{no_fault}
use Rattle.lists.specs.Lists.{All}
use Rattle.metric_rules.specs.declared.Profile.{Profile}
use Rattle.metric_rules.specs.Row.{Row}
use Rattle.search_rules.specs.Range.{Entry}
use Rattle.image_entries.specs.Entries.{IsEntry, laid_from, laid_out}
use Rattle.image_entries.proofs.Faults.{fault_refused}
use Rattle.image_layout.proofs.Faults.{fault_none}
use Rattle.image_layout.proofs.Halves.{Prepared, first_stops, first_goes, fault-in-left, fault-in-right, right-sound, right-lent-length}
use Rattle.image_layout.proofs.+first_fault.Goals as goal

-- the part after it is arranged
prepared : {slot : ℕ → Row} {dist : Profile → Profile → ℕ} {n : ℕ} {es after : List Entry} {place : ℕ} → (length es ≡ 0 → ⊥) → length after ≡ length es
    → laid_from slot dist after ≡ laid_out slot dist es → All (IsEntry slot n) after → place + length es ≤ n → Prepared slot dist n es after place
prepared some kept laid sound fits = record { some = omega arith; kept = kept; laid = laid; sound = sound; fits = fits }

pub returns-then-n-eq0 : goal.returns-then-n-eq0
unfolding no_fault
returns-then-n-eq0 t c =
    let a = c.args in
    sym (fault_none (slot_in a.slots) (distance (space_of a.header.now)) a.slots.first a.place a.entries.now c.if-n-eq0.true)

pub returns-in_err-first_check : goal.returns-in_err-first_check
returns-in_err-first_check t c =
    let r = err_from_is_err_and c.from_residual.result c.from_residual.ensures.1 in
    let p = prepared {place = c.args.place} c.if-n-eq0.false c.arrange.auto.entries c.arrange.ensures.laid c.arrange.ensures.kept c.requires.1 in
    rw (r.1, r.2) (first_stops p c.args.slots.first _ refl _ c.in_err-first_check.ensures (fault_refused c.in_err-first_check.field-0.0))

pub returns-in_err-first_fault : goal.returns-in_err-first_fault
returns-in_err-first_fault t c =
    let r = err_from_is_err_and c.from_residual-in_err-first_fault.result c.from_residual-in_err-first_fault.ensures.1 in
    let p = prepared {place = c.args.place} c.if-n-eq0.false c.arrange.auto.entries c.arrange.ensures.laid c.arrange.ensures.kept c.requires.1 in
    let first = c.args.slots.first in
    rw (r.1, r.2)
    (fault-in-left p first _ refl (first_goes p first _ refl _ c.in_ok-first_check.ensures refl) _ c.in_err-first_fault.ensures (fault_refused c.in_err-first_fault.field-0.0))

pub first_fault-requires-2 : goal.first_fault-requires-2
first_fault-requires-2 t c =
    let p = prepared {place = c.args.place} c.if-n-eq0.false c.arrange.auto.entries c.arrange.ensures.laid c.arrange.ensures.kept c.requires.1 in
    let b = c.first_fault in
    let n = right-lent-length p b.new.entries b.auto.entries in
    (omega (arith, c.decreases, n, p.some), (c.requires.0, omega (arith, n, p.some, p.fits), right-sound p b.new.entries b.auto.entries))

pub returns : goal.returns
returns t c =
    let p = prepared {place = c.args.place} c.if-n-eq0.false c.arrange.auto.entries c.arrange.ensures.laid c.arrange.ensures.kept c.requires.1 in
    let first = c.args.slots.first in
    let b = c.first_fault in
    let d = c.first_fault-2 in
    fault-in-right p first _ refl (first_goes p first _ refl _ c.in_ok-first_check.ensures refl) _ c.in_ok-first_fault.ensures refl b.new.entries b.auto.entries _ d.ensures
