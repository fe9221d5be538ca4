-- What a job outcome leaves, in the terms of the rules.
use Rattle.std.specs.Prelude.{List, [], ℕ, Result}
use Rattle.protocol.specs.Verdict.{code_of}
use Rattle.protocol.specs.declared.Code.{Code}
use Rattle.state.specs.State.{state_of}
use Rattle.state.specs.declared.Control.{Control}
use Rattle.rules.specs.Respond.{Effect}

-- of `job_outcome`: 00, or the code of a refusal; the control block as it was, then table, names, committed, staged, image and hash; there is no response
abbrev pub job_effect_of : Result Unit Code → Control → (table names committed staged image hash : List ℕ) → Effect
job_effect_of r v t n c g i h = record { code = code_of r; response = []; state = state_of v t n c g i h }
