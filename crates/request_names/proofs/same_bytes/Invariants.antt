-- `request_names::same_bytes` meets its contract: lengths first, then the answer so far is carried along. Assumes nothing.
use Rattle.std.proofs.Common.{◌≡◌, ℕ, ◌≤◌, ◌-◌, length, get_or, eqb}
use Rattle.laws.specs.All.{all}
use Rattle.request_names.proofs.same_bytes.Given as goal

abbrev pub invariant-loop-i : goal.invariant-loop-i
invariant-loop-i l = (l.i-end ≡ length l.a) × (length l.a ≡ length l.b) × (l.i ≤ length l.a) × (l.ok ≡ all (λ (k : ℕ). eqb (get_or l.a k 0) (get_or l.b k 0)) l.i)

abbrev pub decreases-loop-i : goal.decreases-loop-i
decreases-loop-i l = length l.a - l.i
