-- `write_line`: the line feed follows the code and the response.
use Rattle.std.proofs.Common.{arith}
use Rattle.run_lines.proofs.Laws.{text-fits, line-written}
use Rattle.run_lines.proofs.write_line.Goals as goal

-- the place behind the response lies in the line's room
pub bounds-text-end : goal.bounds-text-end
bounds-text-end c = omega (arith, c.write_answer-end.ensures.0, text-fits c.args.code.0 c.args.response.now c.requires.0)

pub overflow_add-result : goal.overflow_add-result
overflow_add-result c = omega (arith, c.write_answer-end.ensures.0, text-fits c.args.code.0 c.args.response.now c.requires.0)

pub returns : goal.returns
returns c =
    let a = c.args in
    let w = c.write_answer-end in
    line-written a.text.now w.new.text a.response.now a.at w.result a.code.0 w.ensures.0 w.ensures.1
