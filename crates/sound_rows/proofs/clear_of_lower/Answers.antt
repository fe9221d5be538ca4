-- `clear_of_lower`: a place in use that clashes is a way out, and no place passed does.
use Rattle.std.proofs.Common.{true, sym, ◌∙◌}
use Rattle.laws.specs.All.{all_start, all-step, all_end, all-fails}
use Rattle.sound_rows.proofs.Below.{clash_found, apart_free, apart_clear}
use Rattle.sound_rows.proofs.clear_of_lower.Goals as goal
use Rattle.sound_rows.proofs.clear_of_lower.Goals.{else-has-via-then-has+else-clash, else-has-via-else-has}

pub loop-j-init : goal.loop-j-init
loop-j-init g c = λ p h. all_start _

pub returns-then-clash : goal.returns-then-clash
returns-then-clash g c = λ p h.
    sym (all-fails _ _ c.loop-j.j c.loop-j-test.true (clash_found _ _ (sym c.has.ensures ∙ c.if-has.true) (sym (h _ _ c.loop-j-test.true c.clash.ensures) ∙ c.if-clash.true)))

pub loop-j-preserved : goal.loop-j-preserved
loop-j-preserved g c = λ p h.
    all-step _ _ true true (c.loop-j.invariant p h)
    (elim c.else-has.branch [
      | else-has-via-then-has+else-clash w ↦ apart_clear _ _ (sym (h _ _ c.loop-j-test.true w.clash.ensures) ∙ w.if-clash.false)
      | else-has-via-else-has w ↦ apart_free _ _ (sym c.has.ensures ∙ w.if-has.false)
    ])

pub returns : goal.returns
returns g c = λ p h. all_end _ _ _ _ c.loop-j.auto.j-end c.loop-j-test.false (c.loop-j.invariant p h)
