-- `find_name`: the slots behind do not hold the name.
use Rattle.std.proofs.Common.{sym, ◌∙◌, subst, ℕ, ◌<◌, arith}
use Rattle.std.specs.Int.Count.{count_trailing_zeros}
use Rattle.laws.specs.SetBits.{fewer-left}
use Rattle.lookup.specs.Laws.{SlotsBehind, slots-start, next-slot-low, name-hit, name-miss, name-end}
use Rattle.protocol.specs.Numbers.{slot_count}
use Rattle.lookup.proofs.find_name.Goals as goal
use Rattle.lookup.proofs.find_name.Goals.{In-loop-left}

low : (c : In-loop-left) → count_trailing_zeros 32 c.loop-left.left < slot_count
low c = let a = c.args in next-slot-low a.name.now a.slots a.names.now c.loop-left.left c.loop-left.invariant c.loop-left-test.true

pub loop-left-init : goal.loop-left-init
loop-left-init c = let a = c.args in slots-start a.name.now a.slots a.names.now

pub overflow_cast-k : goal.overflow_cast-k
overflow_cast-k c = omega (arith, low (goal.at.overflow_cast-k c).In-loop-left)

pub same_name-requires : goal.same_name-requires
same_name-requires c = (c.requires, low (goal.at.same_name-requires c).In-loop-left)

pub returns-then-same_name : goal.returns-then-same_name
returns-then-same_name c =
    let a = c.args in
    let l = c.loop-left in
    record { name-found = name-hit a.name.now a.slots a.names.now l.left l.invariant c.loop-left-test.true (sym c.same_name.ensures ∙ c.if-same_name.true) }

pub loop-left-smaller : goal.loop-left-smaller
loop-left-smaller c =
    subst (λ (x : ℕ). x < c.loop-left.left) (sym c.clear_lowest-left.ensures) (fewer-left 32 c.loop-left.left (omega (arith, low (goal.at.loop-left-smaller c).In-loop-left)))

pub loop-left-preserved : goal.loop-left-preserved
loop-left-preserved c =
    let a = c.args in
    let n = a.name.now in
    let l = c.loop-left in
    subst (λ (x : ℕ). SlotsBehind n a.slots a.names.now x) (sym c.clear_lowest-left.ensures)
    (name-miss n a.slots a.names.now l.left l.invariant c.loop-left-test.true (sym c.same_name.ensures ∙ c.if-same_name.false))

pub returns : goal.returns
returns c =
    let a = c.args in
    let n = a.name.now in
    record { name-found = name-end n a.slots a.names.now (subst (λ (x : ℕ). SlotsBehind n a.slots a.names.now x) c.loop-left-test.false c.loop-left.invariant) }
