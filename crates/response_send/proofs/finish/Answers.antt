-- `response_send::finish` meets its contract: each kind of reply by its law. Assumes nothing.
use Rattle.std.proofs.lemmas.Result.{err_from_is_err_and}
use Rattle.std.proofs.Common.{Ok, sym, ◌∙◌, ap, subst, ◌≤◌, arith}
use Rattle.protocol.specs.Frame.{reply}
use Rattle.protocol.specs.Numbers.{read_most}
use Rattle.response_send.proofs.Laws.{refused-right, done-right, fields-right}
use Rattle.response_types.specs.After.{Outcome, reply_of, fields_length}
use Rattle.response_send.proofs.finish.Goals as goal

pub seal-requires : goal.seal-requires
seal-requires c = let q = subst (λ (y : Outcome). fields_length y ≤ read_most) (c.in_ok-said.was ∙ ap Ok c.in-Fields.is) c.requires.1 in omega (arith, q)

pub returns-in_err-said : goal.returns-in_err-said
returns-in_err-said c =
    let passed = err_from_is_err_and c.from_residual.result c.from_residual.ensures.1 in
    rw (passed.1, passed.2) (refused-right c.args.sub c.args.said _ c.args.answer.now c.in_err-said.was)

pub returns-in-Done : goal.returns-in-Done
returns-in-Done c =
    done-right c.args.sub c.args.said c.args.answer.now _ _ (c.in_ok-said.was ∙ ap Ok c.in-Done.is) c.respond_empty.ensures.0
    c.respond_empty.ensures.1

pub returns-in-Session : goal.returns-in-Session
returns-in-Session c =
    fields-right c.args.sub c.args.said _ c.args.answer.now _ _ (ap (λ (y : Outcome). reply_of y c.args.answer.now) (c.in_ok-said.was ∙ ap Ok c.in-Session.is) ∙ ap
    reply (sym c.bytes_of_u16.ensures)) c.respond_with.ensures.0 c.respond_with.ensures.1

pub returns-in-Number : goal.returns-in-Number
returns-in-Number c =
    fields-right c.args.sub c.args.said _ c.args.answer.now _ _ (ap (λ (y : Outcome). reply_of y c.args.answer.now) (c.in_ok-said.was ∙ ap Ok c.in-Number.is) ∙ ap
    reply (sym c.bytes_of_u32.ensures)) c.respond_with-in-Number.ensures.0 c.respond_with-in-Number.ensures.1

pub returns-in-Stat : goal.returns-in-Stat
returns-in-Stat c =
    fields-right c.args.sub c.args.said _ c.args.answer.now _ _ (ap (λ (y : Outcome). reply_of y c.args.answer.now) (c.in_ok-said.was ∙ ap Ok c.in-Stat.is) ∙ ap
    reply (sym c.stat_bytes.ensures)) c.respond_with-in-Stat.ensures.0 c.respond_with-in-Stat.ensures.1

pub returns-in-Fields : goal.returns-in-Fields
returns-in-Fields c =
    fields-right c.args.sub c.args.said _ c.args.answer.now _ _ (ap (λ (y : Outcome). reply_of y c.args.answer.now) (c.in_ok-said.was ∙ ap Ok c.in-Fields.is))
    c.seal.ensures.0 c.seal.ensures.1
