-- `none_clash`: a row of pairs of which one clashes is a way out, and no row passed has one.
use Rattle.std.proofs.Common.{true, sym, ◌∙◌}
use Rattle.laws.specs.All.{pairs_start, pairs-row, pairs_end, clash-none}
use Rattle.sound_rows.proofs.Below.{pairs-fails, row_used}
use Rattle.sound_rows.proofs.none_clash.Goals as goal
use Rattle.sound_rows.proofs.none_clash.Goals.{else-has-via-then-has+else-not-clear_of_lower, else-has-via-else-has}

pub loop-i-init : goal.loop-i-init
loop-i-init g c = λ p h. pairs_start _

pub returns-then-not-clear_of_lower : goal.returns-then-not-clear_of_lower
returns-then-not-clear_of_lower g c = λ p h.
    let i = c.loop-i.i in
    let row = c.clear_of_lower.ensures (p i) (λ j r l post. h i j r c.loop-i-test.true l post) in
    sym (pairs-fails _ _ i c.loop-i-test.true (row_used _ _ _ (sym c.has.ensures ∙ c.if-has.true) ∙ sym row ∙ c.if-not-clear_of_lower.true))

pub loop-i-preserved : goal.loop-i-preserved
loop-i-preserved g c = λ p h.
    let i = c.loop-i.i in
    pairs-row _ i true true (c.loop-i.invariant p h)
    (elim c.else-has.branch [
      | else-has-via-then-has+else-not-clear_of_lower w ↦
          sym (row_used _ _ _ (sym c.has.ensures ∙ w.if-has.true) ∙ sym (w.clear_of_lower.ensures (p i) (λ j r l post. h i j r c.loop-i-test.true l post)) ∙ w.if-not-clear_of_lower.false)
      | else-has-via-else-has w ↦ clash-none _ _ _ (sym c.has.ensures ∙ w.if-has.false)
    ])

pub returns : goal.returns
returns g c = λ p h. pairs_end _ _ _ _ c.loop-i.auto.i-end c.loop-i-test.false (c.loop-i.invariant p h)
