-- `put_head`: the key's byte, and the length from `put_number`.
use Rattle.std.proofs.Common.{arith, length-set}
use Rattle.store_writer.proofs.Laws.{head-put}
use Rattle.store_writer.proofs.put_head.Goals as goal

pub put_number-requires : goal.put_number-requires
put_number-requires c = (omega arith, simp length-set (omega arith))

pub returns : goal.returns
returns c = head-put _ _ _ _ (omega arith) c.put_number.ensures
