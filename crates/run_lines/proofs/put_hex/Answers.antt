-- `put_hex`: two stores.
use Rattle.std.proofs.Common.{add-one, arith, length-set}
use Rattle.run_lines.proofs.put_hex.Goals as goal

pub bounds-text-at-2 : goal.bounds-text-at-2
bounds-text-at-2 c = simp length-set (omega arith)

pub returns : goal.returns
returns c = rw (c.digit.ensures, c.digit-2.ensures, add-one)
