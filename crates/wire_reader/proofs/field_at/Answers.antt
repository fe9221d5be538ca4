-- `field_at`: the key, and each way through its tests.
use Rattle.std.proofs.Common.{ap, ◌≡◌, sym, ◌∙◌, arith}
use Rattle.std.specs.Prelude.{not}
use Rattle.wire.proofs.NumberLaws.{number-place}
use Rattle.wire.proofs.Passed.{missing}
use Rattle.wire.specs.Base128.{valued, number_at}
use Rattle.wire_reader.proofs.Ways.{field-bad, field-other, field-zero, field-wrong, field-value}
use Rattle.wire_reader.proofs.field_at.Goals as goal
use Rattle.wire_reader.proofs.field_at.Goals.{In_ok-key}

-- the number that is the key
key-is : (c : In_ok-key) → let a = c.args in number_at a.s.now a.at a.end ≡ valued c.in_ok-key.key.value c.in_ok-key.key.next
key-is c = sym c.number_at.ensures ∙ c.in_ok-key.ensures.ok_part

pub returns-in_err-key : goal.returns-in_err-key
returns-in_err-key c =
    let e = c.in_err-key.ensures in
    missing c.number_at.result c.from_residual.result _ _ e.value e.ok_part c.from_residual.ensures ∙ field-bad _ _ _ (sym c.number_at.ensures ∙ e.ok_part)

pub returns-then-not-kind : goal.returns-then-not-kind
returns-then-not-kind c = field-other _ _ _ (key-is (goal.at.returns-then-not-kind c).In_ok-key) (ap not c.if-not-kind.true)

pub returns-then-number-eq0 : goal.returns-then-number-eq0
returns-then-number-eq0 c = field-zero _ _ _ (key-is (goal.at.returns-then-number-eq0 c).In_ok-key) (ap not c.if-not-kind.false) c.if-number-eq0.true

pub returns-then-kind-number : goal.returns-then-kind-number
returns-then-kind-number c =
    field-wrong _ _ _ (key-is (goal.at.returns-then-kind-number c).In_ok-key) (ap not c.if-not-kind.false) c.if-number-eq0.false c.if-kind-number.true

pub value_at-requires : goal.value_at-requires
value_at-requires c = ((number-place _ _ _ _ _ _ (key-is (goal.at.value_at-requires c).In_ok-key)).1, omega arith)

pub returns : goal.returns
returns c =
    c.value_at.ensures ∙ field-value _ _ _ (key-is (goal.at.returns c).In_ok-key) (ap not c.if-not-kind.false) c.if-number-eq0.false c.if-kind-number.false
