-- What a call comes to: how long its response is, or the completion code of a refusal, which writes none.
use Rattle.std.specs.Prelude.{ℕ, Result, Ok, Err}
use Rattle.protocol.specs.Numbers.{success}
use Rattle.protocol.specs.declared.Code.{Code}

abbrev pub Sent : Type 0
Sent = Result ℕ Code

-- its completion code
abbrev pub code_of : Sent → ℕ
code_of (Ok n) = success
code_of (Err code) = code.0

-- how long its response is
abbrev pub length_of : Sent → ℕ
length_of (Ok n) = n
length_of (Err code) = 0
