-- Whole blocks. Assumes nothing.
use Rattle.std.specs.Prelude.{◌≡◌, List, ℕ, ◌+◌, ◌*◌, ◌-◌, ◌≤◌, length, take, drop, replicate}
use Rattle.std.proofs.Common.{sym, ◌∙◌, ap, arith, take_all, take-take}
use Rattle.std.proofs.lemmas.List.{length-replicate}
use Rattle.std.proofs.lemmas.List.Edits.{sets}
use Rattle.laws.specs.Ranges.{part, block, sets-append}
use Rattle.laws.specs.Bytes.{padded, padded-is, padded-length}

-- ---- blocks: the code knows the size n of a block as the number m
module _ (n m : ℕ) (size : n ≡ m) (k : ℕ) (l : List ℕ) where
  pub block-cleared : sets l (k * m) (replicate m 0) ≡ (block n k).put (replicate n 0) l
  block-cleared =
      ap (λ (j : ℕ). sets l (k * j) (replicate j 0)) (sym size)
      ∙ ap (sets l (k * n)) (sym (take_all n (replicate n 0) (rw (length-replicate {A = ℕ} n 0) (omega arith))))

  pub block-copied : (s : List ℕ) → sets l (k * m) (take (k * m + m - k * m) (drop (k * m) s)) ≡ (block n k).put ((block n k).get s) l
  block-copied s =
      let e : k * m + m - k * m ≡ m = omega arith in
      ap (λ (j : ℕ). sets l (k * m) (take j (drop (k * m) s))) e
      ∙ ap (λ (j : ℕ). sets l (k * j) (part (k * j) j s)) (sym size)
      ∙ ap (sets l (k * n)) (sym (take-take n n (drop (k * n) s) (omega arith)))

  -- bytes, then zeros
  pub block-named : (w : List ℕ) → length w ≤ m → sets (sets l (k * m) w) (k * m + length w) (replicate (m - length w) 0) ≡ (block n k).put (padded n w) l
  block-named w h =
      sym (sets-append w (replicate (m - length w) 0) l (k * m))
      ∙ ap (sets l (k * m)) (sym (padded-is m w h))
      ∙ ap (λ (i : ℕ). sets l (k * i) (padded i w)) (sym size)
      ∙ ap (sets l (k * n)) (sym (take_all n (padded n w) (omega (arith, padded-length n w))))
