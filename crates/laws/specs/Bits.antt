-- One bit of a mask: read, set and cleared, by recursion on its place, and as code does it by shifts and masks. Assumes nothing.
use Rattle.std.specs.Prelude.{◌≡◌, refl, ◌≢◌, ℕ, zero, suc, ◌+◌, ◌*◌, ◌-◌, ◌/◌, ◌%◌, ◌^◌, ◌<◌}
use Rattle.std.proofs.Common.{sym, ◌∙◌, ap, pow-suc, mod-eq_of_lt, arith, pow_pos}
use Rattle.std.proofs.Math.Logic.{Ne-symm}
use Rattle.std.proofs.Math.Nat.{pow-succ', div-div-eq-div-mul}
use Rattle.std.specs.Int.Bits.{bit_and, bit_or, and_step, or_step, or_zero_r}
use Rattle.std.proofs.lemmas.Nat.{and_mask}
use Rattle.std.proofs.Math.Pow.{pow-lt}
use Rattle.laws.specs.Lens.{Lens, Indep}

abbrev pub bit : (i mask : ℕ) → ℕ
bit zero m = m % 2
bit (suc i) m = bit i (m / 2)

abbrev pub put_bit : (i v mask : ℕ) → ℕ
put_bit zero b m = m / 2 * 2 + b % 2
put_bit (suc i) b m = put_bit i b (m / 2) * 2 + m % 2

pub dbl-half : (x b : ℕ) → (x * 2 + b % 2) / 2 ≡ x
dbl-half x b = omega arith

pub dbl-low : (x b : ℕ) → (x * 2 + b % 2) % 2 ≡ b % 2
dbl-low x b = omega arith

pub bit-put-other : (i j b m : ℕ) → i ≢ j → bit j (put_bit i b m) ≡ bit j m
bit-put-other zero zero b m h = absurd (h refl)
bit-put-other zero (suc j) b m h = ap (bit j) (omega arith)
bit-put-other (suc i) zero b m h = omega arith
bit-put-other (suc i) (suc j) b m h = ap (bit j) (omega arith) ∙ bit-put-other i j b (m / 2) (λ (e : i ≡ j). h (ap suc e))

pub bit-put-same : (i b m : ℕ) → bit i (put_bit i b m) ≡ b % 2
bit-put-same zero b m = omega arith
bit-put-same (suc i) b m = ap (bit i) (omega arith) ∙ bit-put-same i b (m / 2)

pub flag-kept : (i b m : ℕ) → b < 2 → bit i (put_bit i b m) ≡ b
flag-kept i b m h = bit-put-same i b m ∙ mod-eq_of_lt h

pub put-comm : (i j b c m : ℕ) → i ≢ j → put_bit i b (put_bit j c m) ≡ put_bit j c (put_bit i b m)
put-comm zero zero b c m h = absurd (h refl)
put-comm zero (suc j) b c m h = simp (dbl-half, dbl-low)
put-comm (suc i) zero b c m h = simp (dbl-half, dbl-low)
put-comm (suc i) (suc j) b c m h = simp (dbl-half, dbl-low) (ap (λ (x : ℕ). x * 2 + m % 2) (put-comm i j b c (m / 2) (λ (e : i ≡ j). h (ap suc e))))

pub put-bit : (i m : ℕ) → put_bit i (bit i m) m ≡ m
put-bit zero m = omega arith
put-bit (suc i) m = rw (put-bit i (m / 2)) (omega arith)

-- the bit as code reads it, and the mask as code writes it
pub bit-shift : (i m : ℕ) → bit i m ≡ m / 2 ^ i % 2
bit-shift zero m = omega arith
bit-shift (suc i) m = bit-shift i (m / 2) ∙ ap (λ (x : ℕ). x % 2) (div-div-eq-div-mul m 2 (2 ^ i) ∙ ap (λ (x : ℕ). m / x) (sym (pow-succ' 2 i)))

pub bit-zero : (i : ℕ) → bit i 0 ≡ 0
bit-zero zero = refl
bit-zero (suc i) = bit-zero i

pub bit-lt : (i m : ℕ) → bit i m < 2
bit-lt zero m = omega arith
bit-lt (suc i) m = bit-lt i (m / 2)

-- a number of i bits has none at place i
pub bit_high : (i m : ℕ) → m < 2 ^ i → bit i m ≡ 0
bit_high zero m h = omega arith
bit_high (suc i) m h = bit_high i (m / 2) (let q : m < 2 ^ i * 2 = rw pow-suc at h in omega arith)

-- a mask stays within its width
pub put-lt : (i w b m : ℕ) → i < w → m < 2 ^ w → put_bit i b m < 2 ^ w
put-lt i zero b m h q = absurd (let z : i < 0 = h in omega arith)
put-lt zero (suc w) b m h q = let q' : m < 2 ^ w * 2 = rw pow-suc at q in rw pow-suc (omega arith)
put-lt (suc i) (suc w) b m h q =
    let q' : m < 2 ^ w * 2 = rw pow-suc at q in
    let r : put_bit i b (m / 2) < 2 ^ w = put-lt i w b (m / 2) (omega arith) (omega arith) in
    rw pow-suc (omega arith)

-- m & (1 << i), m | (1 << i), m & !(1 << i) in w bits
pub bit-and : (i m : ℕ) → bit_and (m / 2 ^ i) 1 ≡ bit i m
bit-and i m = and_mask (m / 2 ^ i) 1 ∙ sym (bit-shift i m)

pub set-or : (i m : ℕ) → bit_or m (2 ^ i) ≡ put_bit i 1 m
set-or zero m = or_step m 1 ∙ rw (or_zero_r) (omega arith)
set-or (suc i) m = or_step m (2 ^ suc i) ∙ rw (half, low, set-or i (m / 2)) (omega arith)
  where
    half : 2 ^ suc i / 2 ≡ 2 ^ i
    half = rw pow-suc (omega arith)

    low : 2 ^ suc i % 2 ≡ 0
    low = rw pow-suc (omega arith)

pub clear-and : (i w m : ℕ) → i < w → m < 2 ^ w → bit_and m (2 ^ w - 1 - 2 ^ i) ≡ put_bit i 0 m
clear-and i zero m h q = absurd (let z : i < 0 = h in omega arith)
clear-and zero (suc w) m h q = and_step m (2 ^ suc w - 1 - 2 ^ 0) ∙ rw (half, low, and_mask (m / 2) w, mod-eq_of_lt fits) (omega arith)
  where
    fits : m / 2 < 2 ^ w
    fits = let q' : m < 2 ^ w * 2 = rw pow-suc at q in omega arith

    half : (2 ^ suc w - 1 - 1) / 2 ≡ 2 ^ w - 1
    half = rw pow-suc (omega (arith, pow_pos w))

    low : (2 ^ suc w - 1 - 1) % 2 ≡ 0
    low = rw pow-suc (omega (arith, pow_pos w))
clear-and (suc i) (suc w) m h q = and_step m (2 ^ suc w - 1 - 2 ^ suc i) ∙ rw (half, low, clear-and i w (m / 2) (omega arith) fits) (omega arith)
  where
    less : 2 ^ i < 2 ^ w
    less = pow-lt (omega arith)

    fits : m / 2 < 2 ^ w
    fits = let q' : m < 2 ^ w * 2 = rw pow-suc at q in omega arith

    half : (2 ^ suc w - 1 - 2 ^ suc i) / 2 ≡ 2 ^ w - 1 - 2 ^ i
    half = rw (pow-suc 2 w, pow-suc 2 i) (omega (arith, less))

    low : (2 ^ suc w - 1 - 2 ^ suc i) % 2 ≡ 1
    low = rw (pow-suc 2 w, pow-suc 2 i) (omega (arith, less))

abbrev pub bits : ℕ → Lens ℕ ℕ
bits i = record { get = bit i; put = put_bit i }

pub bits-indep : (i j : ℕ) → i ≢ j → Indep (bits i) (bits j)
bits-indep i j h = record {
  sees = λ (b m : ℕ). bit-put-other i j b m h;
  seen = λ (b m : ℕ). bit-put-other j i b m (Ne-symm h);
  swap = λ (b c m : ℕ). put-comm i j b c m h;
}
