-- The state bits of the flags. Assumes nothing.
use mathlib.Core.Path.{◌≡◌, refl, ap, ◌∙◌}
use mathlib.Core.Bool.{Bool, cond}
use Prim.Native.Nat.{ℕ, zero, suc, ◌+◌, ◌*◌, ◌/◌, ◌%◌, ◌<◌}
use native.Mathlib.Omega.{arith}
use lib.Dec.{eqb}
use Rattle.protocol.specs.Numbers.{state_open_read, state_open_write}
use Rattle.state.specs.Words.{flags_in, writing_in}

-- bits 0 and 1 by their weight, where they are set
weighed : (x : ℕ) → x < 2 → (cond (eqb x 1) state_open_read 0 ≡ x) × (cond (eqb x 1) state_open_write 0 ≡ x * 2)
weighed zero h = (refl, refl)
weighed (suc zero) h = (refl, refl)
weighed (suc (suc x)) h = absurd (omega arith)

-- READ and WRITE, the two lowest of the flags, are the two lowest of the state bits
pub flag-bits : (word flags : ℕ) (writes : Bool) (reading writing rest : ℕ) → flags ≡ flags_in word → writes ≡ eqb (writing_in word) 1
    → reading ≡ cond (eqb (flags / 1 % 2) 1) state_open_read 0 → writing ≡ cond writes state_open_write 0 → reading + (writing + rest) ≡ flags_in word % 4 + rest
flag-bits word flags writes reading writing rest f w p q =
    let r : reading ≡ flags_in word % 2 = p ∙ (weighed (flags / 1 % 2) (omega arith)).0 ∙ (let e : flags / 1 ≡ flags = omega arith in omega (arith, f, e)) in
    let s : writing ≡ flags_in word / 2 % 2 * 2 = q ∙ ap (λ (b : Bool). cond b state_open_write 0) w ∙ (weighed (writing_in word) (omega arith)).1 in
    let n : ℕ = flags_in word in
    let e : n % 4 ≡ n % 2 + n / 2 % 2 * 2 = omega arith in
    omega (arith, r, s, e)
