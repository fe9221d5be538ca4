-- `head_size`: a key of one byte, and a length of one or two.
use Rattle.std.proofs.Common.{arith}
use Rattle.store_writer.proofs.Laws.{size-one, size-two}
use Rattle.store_writer.proofs.head_size.Goals as goal

pub returns-then-len-lt128 : goal.returns-then-len-lt128
returns-then-len-lt128 c = let e = size-one c.args.len (omega arith) in omega arith

pub returns-else-len-lt128 : goal.returns-else-len-lt128
returns-else-len-lt128 c = let e = size-two c.args.len (omega arith) (omega arith) in omega arith
