-- The form of a success.
use Rattle.std.specs.Prelude.{◌≡◌, Bool, true, false, List, ℕ, ◌≤◌, length}
use Rattle.protocol.specs.Numbers.{read_most}
use Rattle.protocol.specs.Frame.{header}
use Rattle.rules.proofs.Messages.{sent}

-- header, CRC of the fields, and the fields, at most 58 bytes of them (rules 1.6 and 3.2)
pub record WithFields (sub : ℕ) (response : List ℕ) : Type 0 where
  pub fields : List ℕ
  pub as-sent : response ≡ sent sub fields
  pub few : length fields ≤ read_most

-- the response of a success of this subcommand, with fields or without (rules 1.6 and 1.7)
abbrev pub SuccessForm : (fields : Bool) (sub : ℕ) (response : List ℕ) → Type 0
SuccessForm true sub response = WithFields sub response
SuccessForm false sub response = response ≡ header sub
