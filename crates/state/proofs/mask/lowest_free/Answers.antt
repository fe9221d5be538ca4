-- `mask::lowest_free`: the trailing zeros of the complement are the place of the first clear bit, where it is below 16.
use Rattle.std.proofs.Common.{sym, ◌∙◌, ap, Bool, cond, ◌-◌, arith, lt-ltb, le-ltb}
use Rattle.std.proofs.Math.Option.{none, some}
use Rattle.laws.specs.Masks.{lowest, lowest-clear}
use lib.Count.{trailing_le}
use Rattle.state.proofs.mask.lowest_free.Goals as goal

pub overflow_cast-i : goal.overflow_cast-i
overflow_cast-i c = record { fits = omega (arith, trailing_le 32 (4294967295 - c.args.mask)) }

pub returns-then-i-lt-SLOTS : goal.returns-then-i-lt-SLOTS
returns-then-i-lt-SLOTS c = let m = c.args.mask in sym (lowest-clear 32 16 m (omega arith) (omega arith) ∙ ap (λ (y : Bool). cond y (some (lowest 32 m)) none) (lt-ltb (lowest 32 m) 16 (omega arith)))

pub returns-else-i-lt-SLOTS : goal.returns-else-i-lt-SLOTS
returns-else-i-lt-SLOTS c = let m = c.args.mask in sym (lowest-clear 32 16 m (omega arith) (omega arith) ∙ ap (λ (y : Bool). cond y (some (lowest 32 m)) none) (le-ltb (lowest 32 m) 16 (omega arith)))
