-- `clear_of_lower`: none of the places passed clashes.
use Rattle.std.proofs.Common.{◌≡◌, ℕ, Bool, true, not, ◌&&◌, ◌<◌, eqb}
use Rattle.laws.specs.All.{all}
use Rattle.laws.specs.Bits.{bit}
use Rattle.sound_rows.proofs.clear_of_lower.Given as goal

abbrev pub invariant-loop-j : goal.invariant-loop-j
invariant-loop-j g l =
    (p : ℕ → Bool) → ((j : ℕ) (r : Bool) → j < l.i → goal.F-post g l.clash l.i j r → r ≡ p j) → true ≡ all (λ (j : ℕ). not (eqb (bit j l.used) 1 && p j)) l.j
