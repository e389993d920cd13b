-- Which of the two was found, and where both were, which slot is lower.
use Rattle.std.proofs.Common.{Err, refl, sym}
use Rattle.image_rules.specs.declared.Loaded.{Loaded}
use Rattle.image_entries.specs.declared.Fault.{Fault}
use Rattle.image_entries.specs.Faults.{loaded_of}
use Rattle.image_entries.proofs.Faults.{earlier_none, earlier_first, earlier_second, fault_refused}
use Rattle.image_entries.proofs.earlier.Goals as goal

abbrev told : Fault → Loaded
told fault = loaded_of {A = Unit {0}} (Err fault)

pub returns-in-Ok-default : goal.returns-in-Ok-default
returns-in-Ok-default c = rw c.in-Ok-default.is-0 (sym (earlier_none _ (loaded_of {A = Unit {0}} c.args.b) refl))

pub returns-in-Err-Ok : goal.returns-in-Err-Ok
returns-in-Err-Ok c =
    let fault = c.in-Err-Ok.field-0-0 in
    rw (c.in-Err-Ok.is-0, c.in-Err-Ok.is-1) (sym (earlier_first (told fault) _ (fault_refused fault) (λ some. absurd (some refl))))

pub returns-then-second-first : goal.returns-then-second-first
returns-then-second-first c =
    let both = c.in-Err-Err in
    rw (both.is-0, both.is-1)
    (sym (earlier_second (told both.first) (told both.second) (fault_refused both.second) (λ _. c.if-second-first.true)))

pub returns-else-second-first : goal.returns-else-second-first
returns-else-second-first c =
    let both = c.in-Err-Err in
    rw (both.is-0, both.is-1)
    (sym (earlier_first (told both.first) (told both.second) (fault_refused both.first) (λ _. c.if-second-first.false)))
