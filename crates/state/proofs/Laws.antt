-- Laws of masks and rows as code reads and writes them. Assumes nothing.
use mathlib.Core.Path.{◌≡◌, ◌∙◌}
use mathlib.Core.List.{List, [], ◌∷◌}
use Prim.Native.Nat.{ℕ, suc, ◌+◌, ◌*◌, ◌-◌, ◌%◌, ◌^◌, ◌≤◌, ◌<◌}
use native.Mathlib.Omega.{arith}
use lib.Bits.{bit_and, bit_or}
use lib.Pow.{shl_exact}
use lib.ListN.{length, get_or, set}
use lib.Seq.{sets, drop-cons}
use Rattle.laws.specs.Ranges.{part}
use Rattle.laws.specs.Bits.{put_bit, set-or, clear-and}

-- ---- masks: `1 << i` is the weight of bit i
one_shl : (i : ℕ) → i < 32 → 1 * 2 ^ i % 4294967296 ≡ 2 ^ i
one_shl i h = let e : 1 * 2 ^ i % 2 ^ 32 ≡ 1 * 2 ^ i = shl_exact {a = 1} 1 i 32 (omega arith) (omega arith) in e ∙ omega arith

pub code-set : (i m : ℕ) → i < 32 → bit_or m (1 * 2 ^ i % 4294967296) ≡ put_bit i 1 m
code-set i m h = rw (one_shl i h) (set-or i m)

pub code-clear : (i m : ℕ) → i < 32 → m < 4294967296 → bit_and m (4294967295 - 1 * 2 ^ i % 4294967296) ≡ put_bit i 0 m
code-clear i m h q = rw (one_shl i h) (clear-and i 32 m h q)

-- ---- rows: four reads and four stores are those of a whole row
pub row_read : (l : List ℕ) (i : ℕ) → i + 4 ≤ length l → part i 4 l ≡ get_or l i 0 ∷ get_or l (i + 1) 0 ∷ get_or l (i + 2) 0 ∷ get_or l (i + 3) 0 ∷ []
row_read l i h =
    let a : i + 1 ≡ suc i = omega arith in
    let b : i + 2 ≡ suc (suc i) = omega arith in
    let c : i + 3 ≡ suc (suc (suc i)) = omega arith in
    rw (a, b, c, drop-cons l i 0 (omega arith), drop-cons l (suc i) 0 (omega arith), drop-cons l (suc (suc i)) 0 (omega arith), drop-cons l (suc (suc (suc i))) 0 (omega arith))

pub row_write : (l : List ℕ) (i a b c d : ℕ) → set (set (set (set l i a) (i + 1) b) (i + 2) c) (i + 3) d ≡ sets l i (a ∷ b ∷ c ∷ d ∷ [])
row_write l i a b c d =
    let p : i + 1 ≡ suc i = omega arith in
    let q : i + 2 ≡ suc (suc i) = omega arith in
    let r : i + 3 ≡ suc (suc (suc i)) = omega arith in
    rw (p, q, r)
