-- `hash_step`: the code is the rule.
use Rattle.std.proofs.Common.{arith}
use Rattle.name_filter.specs.Hash.{hash_step}
use Rattle.name_filter.proofs.hash_step.Goals as goal

pub returns : goal.returns
unfolding hash_step
returns c = let e = c.from.ensures in omega arith
