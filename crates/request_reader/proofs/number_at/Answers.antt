-- `request_reader::number_at` meets its contract: what is read so far is the number of the bytes from i on. Assumes nothing.
use Rattle.std.proofs.Common.{◌∙◌, ℕ, ◌≤◌, ◌<◌, ◌+◌, ◌-◌, arith}
use Rattle.request_reader.proofs.Little.{number-none, number_more, number-all, three-fit}
use Rattle.request_reader.proofs.number_at.Goals as goal
use Rattle.request_reader.proofs.number_at.Goals.{After-from}

-- what is read so far has at most three bytes
small : (c : After-from) → c.loop-i.r < 16777216
small c =
    let a = c.args in
    let few : a.n - c.loop-i.i ≤ 3 = omega arith in
    omega (arith, three-fit a.s.now (λ (i : ℕ). (c.type_inv.s i).fits) (a.n - c.loop-i.i) (a.at + c.loop-i.i) few, c.loop-i.invariant)

pub loop-i-init : goal.loop-i-init
loop-i-init c = number-none c.args.n c.args.at c.args.s.now

pub overflow_mul-r : goal.overflow_mul-r
overflow_mul-r c = omega (arith, small c)

pub overflow_add-r : goal.overflow_add-r
overflow_add-r c = omega (arith, small c)

pub loop-i-preserved : goal.loop-i-preserved
loop-i-preserved c =
    let a = c.args in
    omega (arith, number_more a.n c.loop-i.i a.at a.s.now (omega arith) (omega arith), c.loop-i.invariant, c.u8_at.ensures)

pub returns : goal.returns
returns c =
    let a = c.args in
    c.loop-i.invariant ∙ number-all a.n c.loop-i.i a.at a.s.now (omega arith)
