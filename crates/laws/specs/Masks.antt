-- The lowest clear bit of a mask, as `u32::trailing_zeros(!mask)` finds it, and the number of its set bits, as `u32::count_ones(mask)` does. Assumes nothing.
use Rattle.std.specs.Prelude.{◌≡◌, refl, Bool, true, false, cond, ℕ, zero, suc, ◌+◌, ◌*◌, ◌-◌, ◌/◌, ◌%◌, ◌^◌, ◌≤◌, ◌<◌, eqb, ltb}
use Rattle.std.proofs.Common.{sym, ◌∙◌, ap, add-zero, add-suc, pow-suc, mod-lt, le_of_suc-le-suc, not-suc-le-zero, arith, pow_pos, eq-eqb, ne_eqb, ltb-true, ltb-false}
use Rattle.std.proofs.Math.Option.{none, some}
use Rattle.std.proofs.Math.Pow.{pow-lt}
use Rattle.std.specs.Int.Count.{count_trailing_zeros, under, ones, ones_in, ones_step}
use Rattle.laws.specs.Bits.{bit, bit-lt, bit_high}
use Rattle.laws.specs.Find.{first, first-at, first-none}

-- ---- trailing zeros
at-step : (k n d t : ℕ) → n % 2 ≡ d → (t < k → bit t (n / 2) ≡ 1) → under d t < suc k → bit (under d t) n ≡ 1
at-step k n zero t e ih h = ih (le_of_suc-le-suc h)
at-step k n (suc d) t e ih h = omega (arith, mod-lt n {m = 2} (omega arith))

-- the bit at the count is set
pub trailing_at : (k n : ℕ) → count_trailing_zeros k n < k → bit (count_trailing_zeros k n) n ≡ 1
unfolding count_trailing_zeros
trailing_at zero n h = absurd (not-suc-le-zero h)
trailing_at (suc k) n h = at-step k n (n % 2) (count_trailing_zeros k (n / 2)) refl (trailing_at k (n / 2)) h

below_step : (n d t i : ℕ) → n % 2 ≡ d → ((j : ℕ) → j < t → bit j (n / 2) ≡ 0) → i < under d t → bit i n ≡ 0
below_step n zero t zero e ih h = e
below_step n zero t (suc i) e ih h = ih i (le_of_suc-le-suc h)
below_step n (suc d) t i e ih h = absurd (not-suc-le-zero h)

-- those below it are clear
pub trailing_below : (k n i : ℕ) → i < count_trailing_zeros k n → bit i n ≡ 0
unfolding count_trailing_zeros
trailing_below zero n i h = absurd (not-suc-le-zero h)
trailing_below (suc k) n i h = below_step n (n % 2) (count_trailing_zeros k (n / 2)) i refl (trailing_below k (n / 2)) h

-- the complement in w bits has the other bit at each place
other-bit : (w m i : ℕ) → m < 2 ^ w → i < w → bit i (2 ^ w - 1 - m) ≡ 1 - bit i m
other-bit zero m i h q = absurd (let z : i < 0 = q in omega arith)
other-bit (suc w) m zero h q = let h' : m < 2 ^ w * 2 = rw pow-suc at h in rw pow-suc (omega (arith, pow_pos w))
other-bit (suc w) m (suc i) h q =
    let h' : m < 2 ^ w * 2 = rw pow-suc at h in
    let e : (2 ^ suc w - 1 - m) / 2 ≡ 2 ^ w - 1 - m / 2 = rw pow-suc (omega (arith, pow_pos w)) in
    ap (bit i) e ∙ other-bit w (m / 2) i (omega arith) (omega arith)

-- ---- the lowest clear bit
-- the place that the trailing zeros of the complement find, in a word of w bits
abbrev pub lowest : ℕ → ℕ → ℕ
lowest w m = count_trailing_zeros w (2 ^ w - 1 - m)

-- what it finds is free
pub lowest-free : (w m : ℕ) → m < 2 ^ w → lowest w m < w → bit (lowest w m) m ≡ 0
lowest-free w m h l =
    let a : bit (lowest w m) (2 ^ w - 1 - m) ≡ 1 = trailing_at w (2 ^ w - 1 - m) l in
    omega (arith, other-bit w m (lowest w m) h l, bit-lt (lowest w m) m)

-- all below it are used
pub below-used : (w m i : ℕ) → m < 2 ^ w → i < w → i < lowest w m → bit i m ≡ 1
below-used w m i h q l =
    let a : bit i (2 ^ w - 1 - m) ≡ 0 = trailing_below w (2 ^ w - 1 - m) i l in
    omega (arith, other-bit w m i h q, bit-lt i m)

-- a mask of k places finds one of them, or k where none is free
pub lowest-most : (w k m : ℕ) → k < w → m < 2 ^ k → lowest w m ≤ k
lowest-most w k m q h = go (ltb k (lowest w m)) refl
  where
    go : (y : Bool) → ltb k (lowest w m) ≡ y → lowest w m ≤ k
    go true e =
        let wide : m < 2 ^ w = let p : 2 ^ k < 2 ^ w = pow-lt q in omega arith in
        let a : bit k m ≡ 1 = below-used w m k wide q (ltb-true k (lowest w m) e) in
        absurd (omega (arith, bit_high k m h))
    go false e = ltb-false k (lowest w m) e

-- all k places used gives k
pub lowest-full : (w k m : ℕ) → k < w → m < 2 ^ k → ((i : ℕ) → i < k → bit i m ≡ 1) → lowest w m ≡ k
lowest-full w k m q h used = go (ltb (lowest w m) k) refl
  where
    go : (y : Bool) → ltb (lowest w m) k ≡ y → lowest w m ≡ k
    go true e =
        let l : lowest w m < k = ltb-true (lowest w m) k e in
        let wide : m < 2 ^ w = let p : 2 ^ k < 2 ^ w = pow-lt q in omega arith in
        let f : bit (lowest w m) m ≡ 0 = lowest-free w m wide (omega arith) in
        absurd (omega (arith, used (lowest w m) l))
    go false e = omega (arith, ltb-false (lowest w m) k e, lowest-most w k m q h)

abbrev pub clear : ℕ → ℕ → Bool
clear m i = eqb (bit i m) 0

-- so it is the first clear one below k, where there is one
pub lowest-clear : (w k m : ℕ) → k ≤ w → m < 2 ^ w → first (clear m) k ≡ cond (ltb (lowest w m) k) (some (lowest w m)) none
lowest-clear w k m kw h = go (ltb (lowest w m) k) refl
  where
    used : (i : ℕ) → i < w → i < lowest w m → clear m i ≡ false
    used i q l = ne_eqb (bit i m) 0 (λ (e : bit i m ≡ 0). omega (arith, below-used w m i h q l))

    go : (y : Bool) → ltb (lowest w m) k ≡ y → first (clear m) k ≡ cond y (some (lowest w m)) none
    go true e =
        let l : lowest w m < k = ltb-true (lowest w m) k e in
        first-at (clear m) k (lowest w m) l (eq-eqb (bit (lowest w m) m) 0 (lowest-free w m h (omega arith))) (λ (j : ℕ) (q : j < lowest w m). used j (omega arith) q)
    go false e = let l : k ≤ lowest w m = ltb-false (lowest w m) k e in first-none (clear m) k (λ (j : ℕ) (q : j < k). used j (omega arith) (omega arith))

-- ---- how many bits are set
-- one place more
pub ones-more : (n m : ℕ) → ones_in (suc n) m ≡ ones_in n m + bit n m
unfolding ones_in
ones-more zero m = omega arith
ones-more (suc n) m = let e = ones-more n (m / 2) in ap (λ (x : ℕ). m % 2 + x) e ∙ omega arith

-- no fewer among more places
pub ones-mono : (n d m : ℕ) → ones_in n m ≤ ones_in (n + d) m
ones-mono n zero m = rw add-zero (omega arith)
ones-mono n (suc d) m = rw add-suc (omega (arith, ones-mono n d m, ones-more (n + d) m))

-- a mask of k places has all its set bits there
pub ones-in : (k m : ℕ) → m < 2 ^ k → ones_in k m ≡ ones m
unfolding ones_in ones
ones-in zero m h = let e : m ≡ 0 = omega arith in rw e
ones-in (suc k) m h = ap (λ (x : ℕ). m % 2 + x) (ones-in k (m / 2) (let q : m < 2 ^ k * 2 = rw pow-suc at h in omega arith)) ∙ sym (ones_step m)
