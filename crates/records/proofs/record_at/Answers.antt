-- `record_at`: each way through the tests is one law of a record.
use Rattle.std.proofs.Common.{arith}
use Rattle.records.proofs.Laws.{record-none, record-cut, record-whole}
use Rattle.records.proofs.record_at.Goals as goal

pub returns-then-buffer-at : goal.returns-then-buffer-at
returns-then-buffer-at c = let a = c.args in record-none a.buffer.now a.at c.if-buffer-at.true

pub returns-then-left-lt-PREFIX_SIZE : goal.returns-then-left-lt-PREFIX_SIZE
returns-then-left-lt-PREFIX_SIZE c = let a = c.args in record-cut a.buffer.now a.at c.if-buffer-at.false (omega arith)

pub returns-then-left-len : goal.returns-then-left-len
returns-then-left-len c =
    let a = c.args in
    record-cut a.buffer.now a.at c.if-buffer-at.false (omega arith)

pub returns : goal.returns
returns c =
    let a = c.args in
    record-whole a.buffer.now a.at c.if-buffer-at.false c.u32_at-clock.result c.from-len.result
    c.u32_at-clock.ensures c.from-len.ensures (omega arith)
