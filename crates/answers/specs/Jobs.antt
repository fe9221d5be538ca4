-- A session whose job runs: on verify or update.
use Rattle.std.specs.Prelude.{◌≡◌, ℕ}
use Rattle.laws.specs.All.{Or}
use Rattle.protocol.specs.Numbers.{verify_blob, update_blob}
use Rattle.state.specs.State.{State}
use Rattle.state.specs.Words.{blob}

-- the session of row i is on verify or update
abbrev pub OnJob : ℕ → State → Type 0
OnJob i s = Or (blob i s ≡ verify_blob) (blob i s ≡ update_blob)
