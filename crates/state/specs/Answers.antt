-- What a search's answer says, as a definition gives it: the code's Option is not the definitions'.
use Rattle.std.proofs.Math.Option.{Option, none, some}
use Rattle.std.specs.Prelude.{ℕ, Option as Answer, Some, None}

abbrev pub option_of : Answer ℕ → Option ℕ
option_of (Some i) = some i
option_of None = none
