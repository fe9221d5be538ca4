-- `source`: a part of the one slice or of the other.
use Rattle.std.proofs.Common.{◌≡◌, ◌+◌, ◌-◌, arith}
use Rattle.session_store.proofs.source.Goals as goal

pub returns-then-writing : goal.returns-then-writing
returns-then-writing c =
    let a = c.args in
    let z : a.at + a.n - a.at ≡ a.n = omega arith in
    simp (c.if-writing.true, z)

pub returns-else-writing : goal.returns-else-writing
returns-else-writing c =
    let a = c.args in
    let z : a.at + a.n - a.at ≡ a.n = omega arith in
    simp (c.if-writing.false, z)
