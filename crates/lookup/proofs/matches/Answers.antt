-- `matches`: one case after another.
use Rattle.std.proofs.Common.{ℕ}
use Rattle.lookup.proofs.matches.Goals as goal

pub returns-in-Id : goal.returns-in-Id
returns-in-Id c = λ (used : ℕ). cc

pub returns-in-OnBlob : goal.returns-in-OnBlob
returns-in-OnBlob c = λ (used : ℕ). cc

pub returns-in-OnFlash : goal.returns-in-OnFlash
returns-in-OnFlash c = λ (used : ℕ). cc
