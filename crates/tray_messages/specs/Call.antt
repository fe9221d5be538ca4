-- What a tray's code hands back, in the terms of its definition.
use Rattle.std.specs.Prelude.{List, ℕ, ◌^◌, length, Result, Ok, Err}
use Rattle.std.proofs.lemmas.List.Edits.{sets}
use Rattle.protocol.specs.Numbers.{success}
use Rattle.protocol.specs.declared.Code.{Code}
use Rattle.state.specs.Memory.{state_in}
use Rattle.state.specs.declared.Memory.{Memory}
use Rattle.rules.specs.Respond.{Effect, Served}
use Rattle.tray.specs.Tray.{Tray}
use Rattle.tray_messages.specs.declared.Done.{Done}

-- what the code answered, or the code of a refusal, then what was lent, responses and results as they are after it
abbrev pub tray_of : Result Done Code → Memory → (responses results : List ℕ) → Tray
tray_of (Ok d) m a w = record { code = success; done = d.messages; len = d.len; state = state_in m; responses = a; results = w }
tray_of (Err code) m a w = record { code = code.0; done = 0; len = 0; state = state_in m; responses = a; results = w }

-- what one message leaves, its response written at a place of the buffer a
abbrev pub served_at : Effect → (responses : List ℕ) (at : ℕ) → Served
served_at o a at = record { code = o.code; len = length o.response; state = o.state; answer = sets a at o.response }

-- every length in a result is below this
abbrev pub length_limit : ℕ
length_limit = 2 ^ 24
