use Rattle.std.proofs.Common.{length}
use Rattle.request_vectors.proofs.every.Given as goal

abbrev pub decreases-loop-len : goal.decreases-loop-len
decreases-loop-len g l = length l.left
