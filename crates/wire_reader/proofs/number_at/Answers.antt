-- `number_at`: what is read so far, the weight of the next byte, and the number that is still to come.
use Rattle.std.proofs.Common.{◌≡◌, ◌+◌, ◌*◌, ◌-◌, ◌^◌, ◌<◌, arith}
use Rattle.wire_reader.proofs.Carry.{carry-start, light, part-light, part-heavy, carry-cut, carry-last, carry-next, carry-long}
use Rattle.wire_reader.proofs.number_at.Goals as goal
use Rattle.wire_reader.proofs.number_at.Goals.{Else-b-gt1, Else-b-lt128, Then-b-lt128}

-- the number with a last byte, with a byte that has more behind it, and with the tenth byte
last_fits : (c : Then-b-lt128) → let l = c.loop-step in l.value + l.weight * c.from-b.result < 2 ^ 64
last_fits c = part-light c.loop-step.invariant c.from-b.result (omega arith) (omega arith)

more-fits : (c : Else-b-lt128) → let l = c.loop-step in l.value + l.weight * (c.from-b.result - 128) < 2 ^ 64
more-fits c = part-light c.loop-step.invariant (c.from-b.result - 128) (omega arith) (omega arith)

tenth-fits : (c : Else-b-gt1) → let l = c.loop-step in l.value + l.weight * c.from-b-2.result < 2 ^ 64
tenth-fits c = part-heavy c.loop-step.invariant c.from-b-2.result (omega arith) (omega arith)

pub loop-step-init : goal.loop-step-init
loop-step-init c = let a = c.args in carry-start a.s.now a.at a.end

pub returns-then-end-i : goal.returns-then-end-i
returns-then-end-i c = carry-cut c.loop-step.invariant c.if-end-i.true

pub overflow_mul-result : goal.overflow_mul-result
overflow_mul-result c = omega (arith, last_fits (goal.at.overflow_mul-result c).Then-b-lt128)

pub overflow_add-result : goal.overflow_add-result
overflow_add-result c = omega (arith, last_fits (goal.at.overflow_add-result c).Then-b-lt128)

pub returns-then-b-lt128 : goal.returns-then-b-lt128
returns-then-b-lt128 c =
    carry-last c.loop-step.invariant c.from-b.ensures c.if-end-i.false c.if-b-lt128.true (last_fits (goal.at.returns-then-b-lt128 c).Then-b-lt128)

pub overflow_mul-value : goal.overflow_mul-value
overflow_mul-value c = omega (arith, more-fits (goal.at.overflow_mul-value c).Else-b-lt128)

pub overflow_add-value : goal.overflow_add-value
overflow_add-value c = omega (arith, more-fits (goal.at.overflow_add-value c).Else-b-lt128)

pub overflow_mul-weight : goal.overflow_mul-weight
overflow_mul-weight c = omega (arith, light c.loop-step.invariant (omega arith))

pub loop-step-preserved : goal.loop-step-preserved
loop-step-preserved c =
    let l = c.loop-step in
    let next = carry-next l.invariant c.from-b.ensures c.if-end-i.false (omega arith) c.if-b-lt128.false (omega arith) in
    let e : 10 - l._step - 1 ≡ 10 - (l._step + 1) = omega arith in
    rw e at next

pub returns-then-end-i-2 : goal.returns-then-end-i-2
returns-then-end-i-2 c = carry-cut c.loop-step.invariant c.if-end-i-2.true

pub returns-then-b-gt1 : goal.returns-then-b-gt1
returns-then-b-gt1 c =
    carry-long c.loop-step.invariant c.from-b-2.ensures c.if-end-i-2.false (omega arith) c.if-b-gt1.true

pub overflow_mul-result-2 : goal.overflow_mul-result-2
overflow_mul-result-2 c = omega (arith, tenth-fits (goal.at.overflow_mul-result-2 c).Else-b-gt1)

pub overflow_add-result-2 : goal.overflow_add-result-2
overflow_add-result-2 c = omega (arith, tenth-fits (goal.at.overflow_add-result-2 c).Else-b-gt1)

pub returns : goal.returns
returns c =
    carry-last c.loop-step.invariant c.from-b-2.ensures c.if-end-i-2.false (omega arith) (tenth-fits (goal.at.returns c).Else-b-gt1)
