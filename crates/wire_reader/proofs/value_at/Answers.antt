-- `value_at`: each way through the tests of the type.
use Rattle.std.proofs.Common.{◌≡◌, sym, ◌∙◌}
use Rattle.wire.proofs.NumberLaws.{number-place}
use Rattle.wire.proofs.Passed.{missing}
use Rattle.wire.specs.Base128.{valued, number_at}
use Rattle.wire_reader.proofs.Ways.{value-eight, value-four, value-bad, value-number, value-bytes}
use Rattle.wire_reader.proofs.value_at.Goals as goal
use Rattle.wire_reader.proofs.value_at.Goals.{In_ok-first}

-- the number at the front of the value
number_is : (c : In_ok-first) → let a = c.args in number_at a.s.now a.start a.end ≡ valued c.in_ok-first.first.value c.in_ok-first.first.next
number_is c = sym c.number_at.ensures ∙ c.in_ok-first.ensures.ok_part

pub returns-then-kind-eq1 : goal.returns-then-kind-eq1
returns-then-kind-eq1 c = c.fixed_at.ensures ∙ value-eight _ _ _ _ _ c.if-kind-eq1.true

pub returns-then-kind-eq5 : goal.returns-then-kind-eq5
returns-then-kind-eq5 c = c.fixed_at-then-kind-eq5.ensures ∙ value-four _ _ _ _ _ c.if-kind-eq5.true

pub returns-in_err-first : goal.returns-in_err-first
returns-in_err-first c =
    let e = c.in_err-first.ensures in
    missing c.number_at.result c.from_residual.result _ _ e.value e.ok_part c.from_residual.ensures
    ∙ value-bad _ _ _ _ _ c.if-kind-eq1.false c.if-kind-eq5.false (sym c.number_at.ensures ∙ e.ok_part)

pub returns-then-kind-eq0 : goal.returns-then-kind-eq0
returns-then-kind-eq0 c = value-number _ _ _ _ _ (number_is (goal.at.returns-then-kind-eq0 c).In_ok-first) c.if-kind-eq0.true

pub fixed_at-requires-2 : goal.fixed_at-requires-2
fixed_at-requires-2 c = (number-place _ _ _ _ _ _ (number_is (goal.at.fixed_at-requires-2 c).In_ok-first)).1

pub returns : goal.returns
returns c =
    c.fixed_at-2.ensures ∙ value-bytes _ _ _ _ _ (number_is (goal.at.returns c).In_ok-first) c.if-kind-eq0.false c.if-kind-eq1.false c.if-kind-eq5.false
