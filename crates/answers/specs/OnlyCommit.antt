-- A request is the Commit of the row's own session.
use Rattle.std.proofs.Math.Path.{◌≡◌}
use Rattle.std.specs.Prelude.{ℕ}
use Rattle.protocol.specs.declared.Request.{Request}
use Rattle.protocol.specs.declared.Request.TheVariants.{Commit}
use Rattle.state.specs.State.{State}
use Rattle.state.specs.Words.{ident, Live}
use Rattle.answers.specs.Jobs.{OnJob}

-- the request is a Commit of the session of row i, which is on verify or update
pub record Own (i : ℕ) (s : State) (q : Request) : Type 0 where
  pub is_live : Live i s
  pub on-job : OnJob i s
  pub commits : q ≡ Commit (ident i s) 0 0
