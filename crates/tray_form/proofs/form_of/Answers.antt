-- `form_of`: the walk over the records, and its ends.
use Rattle.std.proofs.Common.{ap, sym, ◌∙◌}
use Rattle.protocol.specs.Verdict.{verdict}
use Rattle.records.proofs.Found.{found, found_none}
use Rattle.records.proofs.Requests.{first-none}
use Rattle.tray_form.proofs.Form.{walk_begins, walk-on, has-form, is_cut, too_many, all_seen, cut-inside, end_reached}
use Rattle.tray_form.proofs.form_of.Goals as goal

pub loop-count-init : goal.loop-count-init
loop-count-init c = walk_begins _

pub loop-count-preserved : goal.loop-count-preserved
loop-count-preserved c =
    walk-on _ _ _ c.loop-count.invariant (found _ _ _ _ _ _ (sym c.in-Whole.is ∙ c.record_at.ensures)) c.loop-count-test.true

pub returns-in-Cut : goal.returns-in-Cut
returns-in-Cut c =
    ap verdict (is_cut _ _ _ c.loop-count.invariant (first-none _ _ (found_none _ _ _ (sym c.in-Cut.is ∙ c.record_at.ensures) (λ k s l n e. cc)))
    (cut-inside _ _ (sym c.in-Cut.is ∙ c.record_at.ensures)) c.loop-count-test.true)

pub returns-in-End : goal.returns-in-End
returns-in-End c =
    ap verdict (has-form _ _ _ c.loop-count.invariant (first-none _ _ (found_none _ _ _ (sym c.in-End.is ∙ c.record_at.ensures) (λ k s l n e. cc)))
    (end_reached _ _ (sym c.in-End.is ∙ c.record_at.ensures)))

pub returns-then-records-at : goal.returns-then-records-at
returns-then-records-at c = ap verdict (has-form _ _ _ c.loop-count.invariant (all_seen c.args.records.now c.loop-count.at c.loop-count._count c.loop-count-test.false) c.if-records-at.true)

pub returns-else-records-at : goal.returns-else-records-at
returns-else-records-at c = ap verdict (too_many _ _ _ c.loop-count.invariant (all_seen c.args.records.now c.loop-count.at c.loop-count._count c.loop-count-test.false) c.if-records-at.false c.loop-count-test.false)
