-- `put_number`: one byte, or two.
use Rattle.std.proofs.Common.{arith, length-set}
use Rattle.store_writer.proofs.Laws.{number-one, number-two}
use Rattle.store_writer.proofs.put_number.Goals as goal

pub returns-then-v-lt128 : goal.returns-then-v-lt128
returns-then-v-lt128 c = number-one _ _ _ (omega arith)

pub bounds-dst-at-3 : goal.bounds-dst-at-3
bounds-dst-at-3 c = simp length-set (omega arith)

pub returns : goal.returns
returns c = number-two _ _ _ (omega arith) (omega arith)
