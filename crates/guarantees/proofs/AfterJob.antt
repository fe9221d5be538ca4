-- What an outcome leaves of the phase fits the verdict. Assumes nothing.
use Rattle.std.proofs.Math.Path.{◌≡◌}
use Rattle.std.proofs.Common.{arith}
use Rattle.std.proofs.Math.Logic.{◌≢◌}
use Rattle.std.specs.Prelude.{Bool, ◌%◌}
use Rattle.protocol.specs.Numbers.{running}
use Rattle.protocol.specs.declared.FlashKind.{FlashKind}
use Rattle.protocol.specs.declared.FlashKind.TheVariants.{Image, Hash, Verify, Update, Cleanup}
use Rattle.state.specs.State.{Row, FlashBody}
use Rattle.state.specs.Words.{status_of}
use Rattle.state.specs.Facts.{PhaseOk}
use Rattle.rules.specs.Flash.{verdict}

pub after-job : (r : Row) (b : FlashBody) (k : FlashKind) (g : Bool) → status_of r ≡ running → PhaseOk k (status_of r) b.phase → PhaseOk k (verdict g) b.phase
after-job r b Image g st ph = absurd (let z : status_of r ≡ 0 = ph.0 in omega arith)
after-job r b Hash g st ph = absurd (let z : status_of r ≡ 0 = ph.0 in omega arith)
after-job r b Verify g st ph = (ph.0, λ (h : verdict g ≢ 0). ph.1 (omega arith))
after-job r b Update g st ph = ph
after-job r b Cleanup g st ph = absurd (let z : status_of r % 2 ≡ 0 = ph.0 in omega arith)
