-- What one request leaves of a run, and a run as the code hands it back.
use Rattle.std.specs.Prelude.{List, ℕ, ◌+◌, length}
use Rattle.std.proofs.lemmas.List.Edits.{sets}
use Rattle.state.specs.State.{State}
use Rattle.state.specs.Memory.{state_in}
use Rattle.state.specs.declared.Memory.{Memory}
use Rattle.rules.specs.Respond.{Served}
use Rattle.run_output.specs.Run.{line_after, Written}
use Rattle.run_buffer.specs.declared.Ran.{Ran}

-- the place behind the line, the state, the answer buffer and the text
pub record Stepped : Type 0 where
  pub end : ℕ
  pub state : State
  pub answer : List ℕ
  pub text : List ℕ

-- the line of what the library's function left is written at the place `at` of the text t
abbrev pub stepped : Served → List ℕ → ℕ → Stepped
stepped v t at = record { end = at + length (line_after v); state = v.state; answer = v.answer; text = sets t at (line_after v) }

-- a step of the code, with the place behind its line, and a run; what is lent, answer buffer and text as they are after it
abbrev pub stepped_of : ℕ → Memory → (answer text : List ℕ) → Stepped
stepped_of end m a x = record { end = end; state = state_in m; answer = a; text = x }

abbrev pub written_of : Ran → Memory → (answer text : List ℕ) → Written
written_of r m a x = record { len = r.len; used = r.used; state = state_in m; answer = a; text = x }
