-- `reason_against`: test after test, each past those before it.
use Rattle.std.proofs.Common.{ap, ◌≡◌, sym, ◌∙◌, true, arith, length}
use Rattle.laws.specs.All.{flag_true, flag-false}
use Rattle.laws.specs.Bytes.{same}
use Rattle.protocol.specs.Names.{base}
use Rattle.store_check.proofs.Ways.{reason-fault, reason-base, reason-name, reason-repeated, reason-long, reason-many, reason-none}
use Rattle.store_check.specs.Tests.{named_right, sized_right}
use Rattle.store_file.specs.Loaded.{every, different}
use Rattle.store_file.specs.Messages.{store_in}
use Rattle.store_file.specs.Scans.{scans_from}
use Rattle.wire.proofs.Passed.{passed}
use Rattle.protocol.proofs.Verdicts.{good-verdict}
use Rattle.wire.specs.Fields.{store_keys}
use Rattle.protocol.specs.Verdict.{verdict}
use Rattle.wire.specs.Walk.{walk, last}
use Rattle.store_check.proofs.reason_against.Goals as goal
use Rattle.store_check.proofs.reason_against.Goals.{In_ok-store_fault, Else-not-all_different, Else-not-base_right, Else-not-tests, Else-not-tests-2}

-- what each test says once it is passed
no-fault : (c : In_ok-store_fault) → (store_in c.args.file.now).fault ≡ 0
no-fault c = good-verdict _ (sym c.store_fault.ensures ∙ c.in_ok-store_fault.was)

base-fits : (c : Else-not-base_right) → same (last c.args.file.now 1 (walk store_keys c.args.file.now 0 (length c.args.file.now)).items) base ≡ true
base-fits c = sym c.base_right.ensures ∙ c.if-not-base_right.false

names-fit : (c : Else-not-tests) → every named_right (scans_from c.args.file.now 0) ≡ true
names-fit c = flag_true c.test_all-tests.ensures.names-are c.if-not-tests.false

all_apart : (c : Else-not-all_different) → different (scans_from c.args.file.now 0) ≡ true
all_apart c = sym c.all_different.ensures ∙ c.if-not-all_different.false

sizes-fit : (c : Else-not-tests-2) → every sized_right (scans_from c.args.file.now 0) ≡ true
sizes-fit c = flag_true c.test_all-tests.ensures.sizes-are c.if-not-tests-2.false

pub returns-in_err-store_fault : goal.returns-in_err-store_fault
returns-in_err-store_fault c =
    passed c.from_residual.result _ c.from_residual.ensures ∙ reason-fault c.args.file.now _ (sym c.store_fault.ensures ∙ c.in_err-store_fault.was)

pub returns-then-not-base_right : goal.returns-then-not-base_right
returns-then-not-base_right c =
    ap verdict (reason-base c.args.file.now (no-fault (goal.at.returns-then-not-base_right c).In_ok-store_fault) (sym c.base_right.ensures ∙ c.if-not-base_right.true))

pub returns-then-not-tests : goal.returns-then-not-tests
returns-then-not-tests c =
    ap verdict (reason-name c.args.file.now (no-fault (goal.at.returns-then-not-tests c).In_ok-store_fault) (base-fits (goal.at.returns-then-not-tests
    c).Else-not-base_right) (flag-false c.test_all-tests.ensures.names-are c.if-not-tests.true))

pub returns-then-not-all_different : goal.returns-then-not-all_different
returns-then-not-all_different c =
    ap verdict (reason-repeated c.args.file.now (no-fault (goal.at.returns-then-not-all_different c).In_ok-store_fault)
    (base-fits (goal.at.returns-then-not-all_different c).Else-not-base_right) (names-fit (goal.at.returns-then-not-all_different
    c).Else-not-tests) (sym c.all_different.ensures ∙ c.if-not-all_different.true))

pub returns-then-not-tests-2 : goal.returns-then-not-tests-2
returns-then-not-tests-2 c =
    ap verdict (reason-long c.args.file.now (no-fault (goal.at.returns-then-not-tests-2 c).In_ok-store_fault) (base-fits (goal.at.returns-then-not-tests-2
    c).Else-not-base_right) (names-fit (goal.at.returns-then-not-tests-2 c).Else-not-tests) (all_apart (goal.at.returns-then-not-tests-2 c).Else-not-all_different)
    (flag-false c.test_all-tests.ensures.sizes-are c.if-not-tests-2.true))

pub returns-then-tests-gt-SLOTS : goal.returns-then-tests-gt-SLOTS
returns-then-tests-gt-SLOTS c =
    ap verdict (reason-many c.args.file.now (no-fault (goal.at.returns-then-tests-gt-SLOTS c).In_ok-store_fault) (base-fits (goal.at.returns-then-tests-gt-SLOTS
    c).Else-not-base_right) (names-fit (goal.at.returns-then-tests-gt-SLOTS c).Else-not-tests) (all_apart (goal.at.returns-then-tests-gt-SLOTS
    c).Else-not-all_different) (sizes-fit (goal.at.returns-then-tests-gt-SLOTS c).Else-not-tests-2)
    (omega (arith, c.test_all-tests.ensures.count-is)))

pub returns : goal.returns
returns c =
    ap verdict (reason-none c.args.file.now (no-fault (goal.at.returns c).In_ok-store_fault) (base-fits (goal.at.returns c).Else-not-base_right)
    (names-fit (goal.at.returns c).Else-not-tests) (all_apart (goal.at.returns c).Else-not-all_different) (sizes-fit (goal.at.returns c).Else-not-tests-2)
    (omega (arith, c.test_all-tests.ensures.count-is)))
