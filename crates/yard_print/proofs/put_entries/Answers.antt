-- `yard_print::put_entries` meets its contract: the entries so far are printed.
use Rattle.std.proofs.Common.{◌<◌, length, take, get_or, [], refl, sym, ap, ◌∙◌, arith, length-append}
use lib.Seq.{sets}
use Rattle.tree_rules.proofs.Stores.{sets_more}
use Rattle.yard_rules.specs.Reply.{entry_text, entries_text}
use Rattle.yard_print.proofs.Runs.{rest_put, entries_next}
use Rattle.yard_print.proofs.put_entries.Goals as goal

pub loop-entry-init : goal.loop-entry-init
unfolding entries_text
loop-entry-init c = (omega arith, refl, refl)

pub loop-entry-preserved : goal.loop-entry-preserved
loop-entry-preserved c =
    let at = c.loop-entry in
    let a = c.args in
    let i = at.entry-index in
    let put = c.put_entry-at.ensures in
    let before = entries_text (take i a.entries.now) in
    let text = entry_text (get_or a.entries.now i []) in
    let more : i < length a.entries.now = omega arith in
    let next = entries_next a.entries.now i [] more in (
      omega (arith, put.2),
      omega (arith, put.1, at.invariant.1, ap length next, length-append before text),
      rest_put at.out text at.at (omega (arith, put.1, put.2)) put.0
          ∙ ap (λ l. sets l at.at text) at.invariant.2
          ∙ sets_more a.out.now 0 at.at before text (omega (arith, at.invariant.1))
          ∙ ap (sets a.out.now 0) (sym next),
    )
