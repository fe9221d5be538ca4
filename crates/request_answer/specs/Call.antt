-- What one request leaves, in the terms of the rules, and what is tested before it.
use Rattle.std.specs.Prelude.{Bool, ◌&&◌, List, ℕ, eqb, length}
use Rattle.protocol.specs.Numbers.{answer_size}
use Rattle.state.specs.State.{State}
use Rattle.state.specs.Memory.{state_in}
use Rattle.state.specs.declared.Memory.{Memory}
use Rattle.state.specs.Soundness.{is_sound}
use Rattle.rules.specs.Respond.{Served}
use Rattle.response_types.specs.Sent.{Sent, code_of, length_of}

-- what the code answered, then what was lent and the answer buffer as they are after it
abbrev pub served_of : Sent → Memory → (answer : List ℕ) → Served
served_of r m a = record { code = code_of r; len = length_of r; state = state_in m; answer = a }

-- what is tested before a command is looked at: the state is sound, and the answer buffer has its size (rules 7.13 and 19.1)
abbrev pub answerable : State → (answer : List ℕ) → Bool
answerable s a = is_sound s && eqb (length a) answer_size
