-- A code as the result of a test.
use Rattle.std.specs.Prelude.{Result, Ok, Err, cond, ℕ, eqb}
use Rattle.protocol.specs.Numbers.{success}
use Rattle.protocol.specs.declared.Code.{Code}

-- nothing is wrong at 0, and any other code is the reason
abbrev pub verdict : ℕ → Result Unit Code
verdict c = cond (eqb c 0) (Ok tt) (Err (record { 0 = c }))

-- the code that a verdict says
abbrev pub code_of : Result Unit Code → ℕ
code_of (Ok u) = success
code_of (Err c) = c.0
