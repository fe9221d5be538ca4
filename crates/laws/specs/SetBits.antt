-- The set bits of a mask, visited upward: the lowest one that is left, as `u32::trailing_zeros(left)` finds it, is tested and cleared, until one passes the test or none is left. Assumes nothing.
use Rattle.std.specs.Prelude.{◌≡◌, refl, ◌≢◌, Bool, true, false, ◌&&◌, ℕ, zero, suc, ◌+◌, ◌*◌, ◌-◌, ◌/◌, ◌%◌, ◌^◌, ◌≤◌, ◌<◌, eqb}
use Rattle.std.proofs.Common.{sym, ◌∙◌, ap, pow-suc, add-zero, add-suc, arith, pow_pos, eq-eqb}
use Rattle.std.proofs.Math.Option.{none, some}
use Rattle.std.proofs.Math.Nat.{mod-lt}
use Rattle.std.proofs.Math.Decide.{dec_lt, ℕ_discrete}
use Rattle.std.proofs.Math.Arith.{mod-mul}
use Rattle.std.specs.Int.Bits.{bit_and, and_step, and_self}
use Rattle.std.specs.Int.Count.{count_trailing_zeros, under, ones_in}
use Rattle.laws.specs.All.{and_both}
use Rattle.laws.specs.Bits.{bit, put_bit, dbl-half, dbl-low, bit-put-other, flag-kept, bit-zero, put-lt}
use Rattle.laws.specs.Find.{first, first-at, first-none, and-false}
use Rattle.laws.specs.Masks.{trailing_at, trailing_below, ones-more}

-- ---- bits of masks
-- the lowest n bits of a number are those of its remainder
mod-halves : (n m : ℕ) → m % 2 ^ suc n ≡ m / 2 % 2 ^ n * 2 + m % 2
mod-halves n m = ap (λ (x : ℕ). m % x) (pow-suc 2 n) ∙ mod-mul m (pow_pos n) (omega arith)

bit-mod : (n i m : ℕ) → i < n → bit i (m % 2 ^ n) ≡ bit i m
bit-mod zero i m l = absurd (let z : i < 0 = l in omega arith)
bit-mod (suc n) zero m l = ap (bit 0) (mod-halves n m) ∙ dbl-low (m / 2 % 2 ^ n) m
bit-mod (suc n) (suc i) m l = ap (bit (suc i)) (mod-halves n m) ∙ ap (bit i) (dbl-half (m / 2 % 2 ^ n) m) ∙ bit-mod n i (m / 2) (omega arith)

-- a number of n bits, none of which is set, is 0
no_bits : (n m : ℕ) → m < 2 ^ n → ((i : ℕ) → i < n → bit i m ≡ 0) → m ≡ 0
no_bits zero m h e = omega arith
no_bits (suc n) m h e =
    let h' : m < 2 ^ n * 2 = rw pow-suc at h in
    let half : m / 2 ≡ 0 = no_bits n (m / 2) (omega arith) (λ (i : ℕ) (l : i < n). e (suc i) (omega arith)) in
    let low : m % 2 ≡ 0 = e 0 (omega arith) in
    omega arith

-- among n places at most n are set
pub ones-most : (n m : ℕ) → ones_in n m ≤ n
unfolding ones_in
ones-most zero m = omega arith
ones-most (suc n) m = omega (arith, ones-most n (m / 2), mod-lt m {m = 2} (omega arith))

-- clear places add nothing to the count
ones-flat : (d a m : ℕ) → ((i : ℕ) → a ≤ i → i < a + d → bit i m ≡ 0) → ones_in (a + d) m ≡ ones_in a m
ones-flat zero a m e = rw add-zero
ones-flat (suc d) a m e =
    let more : ones_in (suc (a + d)) m ≡ ones_in (a + d) m + bit (a + d) m = ones-more (a + d) m in
    rw add-suc (omega (arith, more, e (a + d) (omega arith) (omega arith), ones-flat d a m (λ (i : ℕ) (h : a ≤ i) (l : i < a + d). e i h (omega arith))))

-- `m & (m - 1)` clears the lowest set bit
off-step : (m d t : ℕ) → m % 2 ≡ d → 0 < m → (0 < m / 2 → bit_and (m / 2) (m / 2 - 1) ≡ put_bit t 0 (m / 2)) → bit_and m (m - 1) ≡ put_bit (under d t) 0 m
off-step m zero t e h ih =
    let half : (m - 1) / 2 ≡ m / 2 - 1 = omega arith in
    let low : (m - 1) % 2 ≡ 1 = omega arith in
    and_step m (m - 1) ∙ rw (half, low, e, ih (omega arith))
off-step m (suc d) t e h ih =
    let half : (m - 1) / 2 ≡ m / 2 = omega arith in
    let low : (m - 1) % 2 ≡ 0 = omega arith in
    and_step m (m - 1) ∙ rw (half, low, and_self (m / 2)) (omega arith)

pub lowest-off : (w m : ℕ) → 0 < m → m < 2 ^ w → bit_and m (m - 1) ≡ put_bit (count_trailing_zeros w m) 0 m
unfolding count_trailing_zeros
lowest-off zero m h l = absurd (omega arith)
lowest-off (suc w) m h l = off-step m (m % 2) (count_trailing_zeros w (m / 2)) refl h (λ (q : 0 < m / 2). lowest-off w (m / 2) q (let l' : m < 2 ^ w * 2 = rw pow-suc at l in omega arith))

-- without a bit that is set a number is less
put-less : (i m : ℕ) → bit i m ≡ 1 → put_bit i 0 m < m
put-less zero m e = omega arith
put-less (suc i) m e = omega (arith, put-less i (m / 2) e)

-- so there are fewer visits to come
pub fewer-left : (w left : ℕ) → count_trailing_zeros w left < w → put_bit (count_trailing_zeros w left) 0 left < left
fewer-left w left l = put-less (count_trailing_zeros w left) left (trailing_at w left l)

-- ---- the visits
-- place i of the mask m is set and passes the test g
abbrev pub set_and : (m : ℕ) (g : ℕ → Bool) → ℕ → Bool
set_and m g i = eqb (bit i m) 1 && g i

-- of n places of m those below `place` are behind: no set one of them passed, `visited` of them are set, and `left` has m's bits at the other places only
pub record Behind (g : ℕ → Bool) (n m left visited : ℕ) : Type 0 where
  pub place : ℕ
  pub within : place ≤ n
  pub failed : (i : ℕ) → i < place → set_and m g i ≡ false
  pub counted : visited ≡ ones_in place m
  pub gone : (i : ℕ) → i < place → bit i left ≡ 0
  pub kept : (i : ℕ) → place ≤ i → i < n → bit i left ≡ bit i m
  pub small : left < 2 ^ n

-- the place t is visited next: it is set, all below it are behind, and it counts
pub record Next (g : ℕ → Bool) (n m visited t : ℕ) : Type 0 where
  pub low : t < n
  pub is_set : bit t m ≡ 1
  pub below : (i : ℕ) → i < t → set_and m g i ≡ false
  pub counts : visited + 1 ≡ ones_in (suc t) m
  pub few : visited < n

module _ (g : ℕ → Bool) (n m : ℕ) where
  -- before the first visit nothing is behind
  pub none-behind : Behind g n m (m % 2 ^ n) 0
  unfolding ones_in
  none-behind = record {
    place = 0;
    within = omega arith;
    failed = λ (i : ℕ) (l : i < 0). absurd (omega arith);
    counted = refl;
    gone = λ (i : ℕ) (l : i < 0). absurd (omega arith);
    kept = λ (i : ℕ) (h : 0 ≤ i) (l : i < n). bit-mod n i m l;
    small = mod-lt m (pow_pos n);
  }

  -- a place that is clear does not pass
  clear-fails : (i : ℕ) → bit i m ≡ 0 → set_and m g i ≡ false
  clear-fails i e = ap (λ (b : ℕ). eqb b 1 && g i) e

  -- where nothing is left, none passed, and all set places were visited
  pub all-behind : (visited : ℕ) → Behind g n m 0 visited → (first (set_and m g) n ≡ none) × (visited ≡ ones_in n m)
  all-behind v b = (first-none (set_and m g) n fails, b.counted ∙ sym (ap (λ (x : ℕ). ones_in x m) (omega (arith, b.within)) ∙ ones-flat (n - b.place) b.place m clear))
    where
      clear : (i : ℕ) → b.place ≤ i → i < b.place + (n - b.place) → bit i m ≡ 0
      clear i h l = sym (b.kept i h (omega (arith, b.within))) ∙ bit-zero i

      fails : (i : ℕ) → i < n → set_and m g i ≡ false
      fails i l = go (dec_lt i b.place)
        where
          go : Dec (i < b.place) → set_and m g i ≡ false
          go (yes q) = b.failed i q
          go (no q) = clear-fails i (sym (b.kept i (omega arith) l) ∙ bit-zero i)

  -- what is left is not behind
  ahead : (left visited : ℕ) (b : Behind g n m left visited) (t : ℕ) → bit t left ≡ 1 → b.place ≤ t
  ahead left v b t set-left = go (dec_lt t b.place)
    where
      go : Dec (t < b.place) → b.place ≤ t
      go (yes q) = absurd (omega (arith, set-left, b.gone t q))
      go (no q) = omega arith

  -- what the trailing zeros of what is left find, in a word of w bits, is next
  pub next-is : (w left visited : ℕ) → n ≤ w → Behind g n m left visited → left ≢ 0 → Next g n m visited (count_trailing_zeros w left)
  next-is w left v nw b some_left = record {
    low = low;
    is_set = set_here;
    below = fails;
    counts = omega (arith, b.counted, ones-more t m, flat, set_here);
    few = omega (arith, b.counted, ones-most b.place m, above, low);
  }
    where
      t : ℕ
      t = count_trailing_zeros w left

      low : t < n
      low = go (dec_lt t n)
        where
          go : Dec (t < n) → t < n
          go (yes q) = q
          go (no q) = absurd (some_left (no_bits n left b.small (λ (i : ℕ) (l : i < n). trailing_below w left i (omega arith))))

      set-left : bit t left ≡ 1
      set-left = trailing_at w left (omega (arith, low))

      above : b.place ≤ t
      above = ahead left v b t set-left

      set_here : bit t m ≡ 1
      set_here = sym (b.kept t above low) ∙ set-left

      clear : (i : ℕ) → b.place ≤ i → i < t → bit i m ≡ 0
      clear i h l = sym (b.kept i h (omega (arith, low))) ∙ trailing_below w left i l

      fails : (i : ℕ) → i < t → set_and m g i ≡ false
      fails i l = go (dec_lt i b.place)
        where
          go : Dec (i < b.place) → set_and m g i ≡ false
          go (yes q) = b.failed i q
          go (no q) = clear-fails i (clear i (omega arith) l)

      flat : ones_in t m ≡ ones_in b.place m
      flat =
          ap (λ (x : ℕ). ones_in x m) (omega (arith, above))
          ∙ ones-flat (t - b.place) b.place m (λ (i : ℕ) (h : b.place ≤ i) (l : i < b.place + (t - b.place)). clear i h (omega (arith, above)))

  -- where it passes, it is the first that does
  pub next-passes : (visited t : ℕ) → Next g n m visited t → g t ≡ true → first (set_and m g) n ≡ some t
  next-passes v t x e = first-at (set_and m g) n t x.low (and_both (eqb (bit t m) 1) (g t) (eq-eqb (bit t m) 1 x.is_set) e) x.below

  -- where it fails, it is cleared and behind
  pub next-fails : (w left visited : ℕ) → n ≤ w → Behind g n m left visited → left ≢ 0
      → g (count_trailing_zeros w left) ≡ false → Behind g n m (put_bit (count_trailing_zeros w left) 0 left) (visited + 1)
  next-fails w left v nw b some_left fails = record {
    place = suc t;
    within = x.low;
    failed = λ (i : ℕ) (l : i < suc t). go i (ℕ_discrete i t) l;
    counted = x.counts;
    gone = λ (i : ℕ) (l : i < suc t). out i (ℕ_discrete t i) l;
    kept = λ (i : ℕ) (h : suc t ≤ i) (l : i < n). bit-put-other t i 0 left (λ (e : t ≡ i). omega arith) ∙ b.kept i (omega (arith, above)) l;
    small = put-lt t n 0 left x.low b.small;
  }
    where
      t : ℕ
      t = count_trailing_zeros w left

      x : Next g n m v t
      x = next-is w left v nw b some_left

      above : b.place ≤ t
      above = ahead left v b t (trailing_at w left (omega (arith, x.low)))

      go : (i : ℕ) → Dec (i ≡ t) → i < suc t → set_and m g i ≡ false
      go i (yes e) l = ap (set_and m g) e ∙ and-false (eqb (bit t m) 1) (g t) (λ (u : eqb (bit t m) 1 ≡ true). fails)
      go i (no e) l = x.below i (omega arith)

      out : (i : ℕ) → Dec (t ≡ i) → i < suc t → bit i (put_bit t 0 left) ≡ 0
      out i (yes e) l = ap (λ (y : ℕ). bit y (put_bit t 0 left)) (sym e) ∙ flag-kept t 0 left (omega arith)
      out i (no e) l = bit-put-other t i 0 left e ∙ trailing_below w left i (omega arith)
