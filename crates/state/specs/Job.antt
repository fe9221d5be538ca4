-- The number that a job's status has in a row's third word (rule 5.6).
use Rattle.std.specs.Prelude.{ℕ}
use Rattle.protocol.specs.Numbers.{untried, running, succeeded, failed}
use Rattle.state.specs.declared.Status.{Status}
use Rattle.state.specs.declared.Status.TheVariants.{Untried, Running, Succeeded, Failed}

abbrev pub status_number : Status → ℕ
status_number Untried = untried
status_number Running = running
status_number Succeeded = succeeded
status_number Failed = failed
