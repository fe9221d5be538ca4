-- `answer_one`: what the library's function leaves, then its line.
use Rattle.std.proofs.Common.{arith, length-take, sym}
use Rattle.run_buffer.specs.Progress.{reply-fits, step_is}
use Rattle.run_buffer.proofs.answer_one.Goals as goal

pub answer-requires : goal.answer-requires
answer-requires c = c.requires.able_value

pub slice_bounds-write_line-end : goal.slice_bounds-write_line-end
slice_bounds-write_line-end c = (reply-fits _ _ _ _ c.in-Ok.ensures.served).1

pub slice_bounds-write_line-end-in-Ok : goal.slice_bounds-write_line-end-in-Ok
slice_bounds-write_line-end-in-Ok c =
    let fits = (reply-fits _ _ _ _ c.in-Ok.ensures.served).1 in
    sym (simp length-take (omega (arith, fits)))

pub write_line-requires : goal.write_line-requires
write_line-requires c =
    let fits = (reply-fits _ _ _ _ c.in-Ok.ensures.served).0 in
    (simp length-take (omega (arith, fits)), c.requires.room_for_line)

pub write_line-requires-in-Err : goal.write_line-requires-in-Err
write_line-requires-in-Err c = (omega arith, c.requires.room_for_line)

pub returns-in-Ok-clause-stepped : goal.returns-in-Ok-clause-stepped
returns-in-Ok-clause-stepped c =
    let a = c.args in
    step_is a.text.now a.at c.in-Ok.ensures.served c.write_line.ensures

pub returns-in-Err-clause-stepped : goal.returns-in-Err-clause-stepped
returns-in-Err-clause-stepped c =
    let a = c.args in
    step_is a.text.now a.at c.in-Err.ensures.served c.write_line-in-Err.ensures
