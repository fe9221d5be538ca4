-- `keep_rest`: the bytes moved stand at the front, and those behind are where they were.
use Rattle.std.proofs.Common.{◌-◌, arith, length, length-drop}
use Rattle.run_buffer.specs.Rest.{none_kept, all_moved}
use Rattle.run_buffer.proofs.keep_rest.Goals as goal

pub returns-then-buffer-from : goal.returns-then-buffer-from
returns-then-buffer-from c = none_kept c.args.buffer.now c.args.from c.if-buffer-from.true

pub returns : goal.returns
returns c =
    let a = c.args in
    let left = length-drop a.from a.buffer.now in
    (omega (arith, c.copy_within.ensures.len), all_moved a.buffer.now a.from (length a.buffer.now - a.from) c.copy_within.new.self (omega arith) c.copy_within.ensures.after (omega arith))
