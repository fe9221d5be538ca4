-- `blobs::job_outcome` meets its contract: refused where the state is not sound, or taken by the flash session. Assumes nothing.
use Rattle.std.proofs.Common.{sym, ◌∙◌, [], true}
use Rattle.std.proofs.lemmas.Result.{err_from_is_err_and}
use Rattle.blobs.proofs.Outcome.{no-outcome, outcome-taken, said-code, refused-code}
use Rattle.state.specs.Agree.{sound-of-test}
use Rattle.state.specs.State.{state_of}
use Rattle.blobs.proofs.job_outcome.Goals as goal

pub returns-then-not-sound-clause-taken : goal.returns-then-not-sound-clause-taken
returns-then-not-sound-clause-taken c = no-outcome c.args.good (state_of c.args.control c.args.table.now c.args.names.now c.args.committed.now c.args.staged.now c.args.image.now c.args.hash.now) (sym c.sound.ensures ∙ c.if-not-sound.true)

pub end_job-requires : goal.end_job-requires
end_job-requires c = (sound-of-test ((let a = c.args in state_of a.control a.table.now a.names.now a.committed.now a.staged.now a.image.now
    a.hash.now)) (sym c.sound.ensures ∙ c.if-not-sound.false)).shape.table-size

pub returns-in_err-end_job-clause-taken : goal.returns-in_err-end_job-clause-taken
returns-in_err-end_job-clause-taken c =
    let a = c.args in
    let passed = err_from_is_err_and c.from_residual.result c.from_residual.ensures.1 in
    rw (passed.1, passed.2) (
    outcome-taken a.good (state_of a.control a.table.now a.names.now a.committed.now a.staged.now a.image.now a.hash.now) (sym c.sound.ensures ∙ c.if-not-sound.false) _ _ _
    (c.end_job.ensures.ended 0 a.names.now a.committed.now a.staged.now a.image.now a.hash.now []) (refused-code c.end_job.result _ c.in_err-end_job.was)
    )

pub returns-clause-taken : goal.returns-clause-taken
returns-clause-taken c =
    let a = c.args in
    outcome-taken a.good (state_of a.control a.table.now a.names.now a.committed.now a.staged.now a.image.now a.hash.now) (sym c.sound.ensures ∙ c.if-not-sound.false) _ _ _
    (c.end_job.ensures.ended 0 a.names.now a.committed.now a.staged.now a.image.now a.hash.now []) (said-code c.end_job.result _ c.in_ok-end_job.was)
