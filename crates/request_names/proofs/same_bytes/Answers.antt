-- `request_names::same_bytes` meets its contract: lengths first, then the answer so far is carried along. Assumes nothing.
use Rattle.std.proofs.Common.{refl, arith}
use Rattle.laws.specs.All.{all_start, all-step, all_end}
use Rattle.request_names.proofs.Names.{same-lengths, same-all}
use Rattle.request_names.proofs.same_bytes.Goals as goal

pub returns-then-a-b : goal.returns-then-a-b
returns-then-a-b c = same-lengths _ _ c.if-a-b.true

pub loop-i-init : goal.loop-i-init
loop-i-init c = (omega arith, omega arith, omega arith, all_start _)

pub bounds-a-i : goal.bounds-a-i
bounds-a-i c = omega arith

pub bounds-b-i : goal.bounds-b-i
bounds-b-i c = omega arith

pub loop-i-smaller : goal.loop-i-smaller
loop-i-smaller c = omega arith

pub loop-i-preserved : goal.loop-i-preserved
loop-i-preserved c = (omega arith, omega arith, omega arith, all-step _ _ _ _ c.loop-i.invariant.3 refl)

pub returns : goal.returns
returns c = same-all _ _ _ (omega arith) (all_end _ _ _ _ (omega arith) (omega arith) c.loop-i.invariant.3)
