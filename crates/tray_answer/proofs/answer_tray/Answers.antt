-- `answer_tray`: refused by the state or by the form of the records, or its messages are answered.
use Rattle.std.proofs.Common.{refl, ap, ◌≡◌, sym, ◌∙◌, Bool, true, false, ◌&&◌, eqb, length, eqb-true}
use Rattle.std.proofs.lemmas.Result.{err_from_is_err_and}
use Rattle.laws.specs.All.{and-true}
use Rattle.protocol.proofs.Verdicts.{good-verdict, bad-verdict}
use Rattle.state.specs.Memory.{state_in}
use Rattle.state.specs.Soundness.{is_sound}
use Rattle.tray.specs.Tray.{tray_most}
use Rattle.tray_answer.proofs.Ways.{not-able, not-formed, formed}
use Rattle.tray_answer.proofs.answer_tray.Goals as goal
use Rattle.tray_answer.proofs.answer_tray.Goals.{Else-not-able}

able : (c : Else-not-able) → is_sound (state_in c.args.memory.now) && eqb (length c.args.results.now) tray_most ≡ true
able c = ap (λ (z : Bool). z && eqb (length c.args.results.now) tray_most) (sym c.is_sound.ensures) ∙ c.if-not-able.false

pub returns-then-not-able-clause-answered : goal.returns-then-not-able-clause-answered
returns-then-not-able-clause-answered c =
    not-able c.args.records.now (state_in c.args.memory.now) c.args.responses.now c.args.results.now
    (ap (λ (z : Bool). z && eqb (length c.args.results.now) tray_most) (sym c.is_sound.ensures) ∙ c.if-not-able.true)

pub answer_all-requires : goal.answer_all-requires
answer_all-requires c =
    let both = and-true (is_sound (state_in c.args.memory.now)) (eqb (length c.args.results.now) tray_most) (able (goal.at.answer_all-requires c).Else-not-able) in
    record { sound = both.0; results_len = eqb-true (length c.args.results.now) tray_most both.1 }

pub returns-in_err-form_of-clause-answered : goal.returns-in_err-form_of-clause-answered
returns-in_err-form_of-clause-answered c =
    let a = c.args in
    let passed = err_from_is_err_and c.from_residual.result c.from_residual.ensures.1 in
    let bad = bad-verdict _ _ (sym c.form_of.ensures ∙ c.in_err-form_of.was) in
    rw (passed.1, passed.2) (not-formed a.records.now (state_in a.memory.now) a.responses.now a.results.now (able (goal.at.returns-in_err-form_of-clause-answered c).Else-not-able) _ bad.0 bad.1)

pub returns-clause-answered : goal.returns-clause-answered
returns-clause-answered c =
    let a = c.args in
    let good = good-verdict _ (sym c.form_of.ensures ∙ c.in_ok-form_of.was) in
    c.answer_all.ensures.answered ∙ formed a.records.now (state_in a.memory.now) a.responses.now a.results.now (able (goal.at.returns-clause-answered c).Else-not-able) _ refl good
