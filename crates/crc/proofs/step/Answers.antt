-- `step`: the table's step is the rule's.
use Rattle.crc.proofs.Steps.{table_step}
use Rattle.crc.proofs.step.Goals as goal

pub returns : goal.returns
returns c = rw c.entry.ensures (table_step c.args.r c.args.b)
