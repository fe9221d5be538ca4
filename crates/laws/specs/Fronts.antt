-- Blocks of a list and their fronts, as code lends them, by two places; a whole list cleared. Assumes nothing.
use Rattle.std.specs.Prelude.{◌≡◌, List, ◌++◌, ℕ, ◌+◌, ◌*◌, ◌-◌, ◌≤◌, length, take, drop, replicate}
use Rattle.std.proofs.Common.{sym, ◌∙◌, ap, append-nil, zero-add, arith, length-take, drop_of_length-le, take-take}
use Rattle.std.proofs.Math.Nat.{min-le_left}
use Rattle.std.proofs.lemmas.List.{length-replicate}
use Rattle.std.proofs.lemmas.List.Edits.{sets, sets-eq}
use Rattle.laws.specs.Ranges.{part, block}
use Rattle.laws.specs.Bytes.{text, first_zero}

-- block k of n elements; the code knows n as the number m
module _ (n m : ℕ) (size : n ≡ m) (k : ℕ) (l : List ℕ) where
  -- the whole block
  pub block-lent : take (k * m + m - k * m) (drop (k * m) l) ≡ (block n k).get l
  block-lent =
      let e : k * m + m - k * m ≡ m = omega arith in
      ap (λ (j : ℕ). take j (drop (k * m) l)) e ∙ ap (λ (j : ℕ). part (k * j) j l) (sym size)

  pub front-short : (z : ℕ) → z ≤ n → length (take (k * m + z - k * m) (drop (k * m) l)) ≤ n
  front-short z h =
      let q : k * m + z - k * m ≡ z = omega arith in
      rw (q, length-take) (omega (arith, min-le_left z (length (drop (k * m) l))))

  -- its first z elements
  pub front-lent : (z : ℕ) → z ≤ n → take (k * m + z - k * m) (drop (k * m) l) ≡ take z ((block n k).get l)
  front-lent z h =
      let q : k * m + z - k * m ≡ z = omega arith in
      ap (λ (j : ℕ). take j (drop (k * m) l)) q
      ∙ ap (λ (j : ℕ). take z (drop (k * j) l)) (sym size)
      ∙ sym (take-take z n (drop (k * n) l) h)

  -- its text, up to the first zero
  pub text-lent : (z : ℕ) → z ≡ first_zero ((block n k).get l) → z ≤ n → take (k * m + z - k * m) (drop (k * m) l) ≡ text ((block n k).get l)
  text-lent z e h = front-lent z h ∙ ap (λ (j : ℕ). take j ((block n k).get l)) e

-- a list cleared from its start to its end
pub cleared : (n m : ℕ) (l : List ℕ) → n ≡ m → length l ≡ n → sets l 0 (replicate m 0) ≡ replicate n 0
cleared n m l size e =
    let o : List ℕ = replicate n 0 in
    let q : length o ≡ n = length-replicate n 0 in
    ap (λ (k : ℕ). sets l 0 (replicate k 0)) (sym size)
    ∙ sets-eq o l 0 (omega arith)
    ∙ ap (λ (k : ℕ). o ++ drop k l) (zero-add (length o) ∙ q)
    ∙ ap (λ (y : List ℕ). o ++ y) (drop_of_length-le l {i = n} (omega arith))
    ∙ append-nil o
