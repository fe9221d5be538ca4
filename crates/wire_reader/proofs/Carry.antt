-- A number read byte by byte: what is read so far, the weight of the next byte, and the number that is still to come. Assumes nothing.
use mathlib.Core.Path.{◌≡◌, refl, sym, ◌∙◌, ap}
use mathlib.Core.Bool.{Bool, true, false, cond}
use mathlib.Core.List.{List}
use Rattle.std.specs.Prelude.{Option, Some, None}
use Prim.Native.Nat.{ℕ, zero, suc, ◌+◌, ◌*◌, ◌-◌, ◌^◌, ◌≤◌, ◌<◌}
use native.Mathlib.Nat.{pow-suc, pow-le-pow_right, mul-le-mul_left, mul-le-mul_right, zero-add, one-mul}
use native.Mathlib.Decide.{dec_lt}
use native.Mathlib.Omega.{arith}
use lib.Dec.{ltb}
use borrow.Author.Tests.{lt-ltb, le-ltb, ltb-true, ltb-false}
use lib.ListN.{get_or}
use Rattle.wire.specs.declared.Number.{Number}
use Rattle.wire.specs.Base128.{valued, more, number_in, number_at}
use Rattle.wire.proofs.NumberLaws.{number-last, number_more, number_cut}

-- a number that is still to come, behind what is read so far: its weight, and the part read
abbrev pub carried : ℕ → ℕ → Option Number → Option Number
carried w a None = None
carried w a (Some x) = cond (ltb (a + w * x.value) (2 ^ 64)) (valued (a + w * x.value) x.next) None

-- a number has at most 64 bits
start-more : (low : ℕ) (x : Option Number) → carried 1 0 (more low x) ≡ more low x
start-more low None = refl
start-more low (Some x) = go (ltb (low + 128 * v) (2 ^ 64)) refl
  where
    v : ℕ
    v = x.value

    next : ℕ
    next = x.next

    go : (b : Bool) → ltb (low + 128 * v) (2 ^ 64) ≡ b → carried 1 0 (cond b (valued (low + 128 * v) next) None) ≡ cond b (valued (low + 128 * v) next) None
    go true q = rw (one-mul, zero-add, q)
    go false q = refl

start : (n : ℕ) (s : List ℕ) (at end : ℕ) → number_in n s at end ≡ carried 1 0 (number_in n s at end)
unfolding number_in
start zero s at end = refl
start (suc n) s at end = go (ltb at end) (ltb (get_or s at 0) 128) refl
  where
    go : (a b : Bool) → ltb (get_or s at 0) 128 ≡ b
        → cond a (cond b (valued (get_or s at 0) (at + 1)) (more (get_or s at 0 - 128) (number_in n s (at + 1) end))) None
        ≡ carried 1 0 (cond a (cond b (valued (get_or s at 0) (at + 1)) (more (get_or s at 0 - 128) (number_in n s (at + 1) end))) None)
    go true true q = let h = ltb-true (get_or s at 0) 128 q in rw (one-mul, zero-add, lt-ltb (get_or s at 0) (2 ^ 64) (omega arith))
    go true false q = sym (start-more (get_or s at 0 - 128) (number_in n s (at + 1) end))
    go false b q = refl

-- seven bits more
carry-more : (w a low : ℕ) (x : Option Number) → 0 < w → carried w a (more low x) ≡ carried (w * 128) (a + w * low) x
carry-more w a low None h = refl
carry-more w a low (Some x) h = go (ltb (low + 128 * v) (2 ^ 64)) refl
  where
    v : ℕ
    v = x.value

    next : ℕ
    next = x.next

    same : a + w * (low + 128 * v) ≡ a + w * low + w * 128 * v
    same = omega arith

    go : (b : Bool) → ltb (low + 128 * v) (2 ^ 64) ≡ b → carried w a (cond b (valued (low + 128 * v) next) None) ≡ carried (w * 128) (a + w * low) (valued v next)
    go true q = rw same
    go false q =
        let f : 2 ^ 64 ≤ low + 128 * v = ltb-false (low + 128 * v) (2 ^ 64) q in
        let m : 1 * (low + 128 * v) ≤ w * (low + 128 * v) = mul-le-mul_right (low + 128 * v) h in
        rw (le-ltb (a + w * low + w * 128 * v) (2 ^ 64) (omega arith))

-- what the reader holds before a byte: the part read, the weight of the next byte, its place, and how many bytes may still come
pub record Carries (s : List ℕ) (at end value weight i left : ℕ) : Type 0 where
  pub some : 1 ≤ left
  pub most : left ≤ 10
  pub power : weight ≡ 128 ^ (10 - left)
  pub below : value < weight
  pub whole : number_at s at end ≡ carried weight value (number_in left s i end)

pub carry-start : (s : List ℕ) (at end : ℕ) → Carries s at end 0 1 at 10
carry-start s at end = record { some = omega arith; most = omega arith; power = refl; below = omega arith; whole = start 10 s at end }

module _ {s : List ℕ} {at end value weight i left : ℕ} (c : Carries s at end value weight i left) where
  -- the weight before the tenth byte, and at it
  pub light : 1 < left → weight ≤ 2 ^ 56
  light h = rw c.power (pow-le-pow_right {n = 128} (omega arith) {i = 10 - left} {j = 8} (omega arith))

  last-left : left ≤ 1 → left ≡ 1
  last-left h = omega (arith, c.some)

  heavy : left ≤ 1 → weight ≡ 2 ^ 63
  heavy h = c.power ∙ ap (λ (k : ℕ). 128 ^ (10 - k)) (last-left h)

  -- with one byte more the number still has at most 64 bits
  pub part-light : (b : ℕ) → 1 < left → b < 128 → value + weight * b < 2 ^ 64
  part-light b h q =
      let m : weight * b ≤ weight * 127 = mul-le-mul_left weight (omega arith) in
      omega (arith, light h, c.below)

  pub part-heavy : (b : ℕ) → left ≤ 1 → b ≤ 1 → value + weight * b < 2 ^ 64
  part-heavy b h q =
      let m : weight * b ≤ weight * 1 = mul-le-mul_left weight q in
      omega (arith, heavy h, c.below)

  -- the number is one byte and what is behind it
  left_is : left ≡ suc (left - 1)
  left_is = omega (arith, c.some)

  in-turn : number_in left s i end ≡ number_in (suc (left - 1)) s i end
  in-turn = ap (λ (n : ℕ). number_in n s i end) left_is

  -- no byte is there
  pub carry-cut : end ≤ i → None ≡ number_at s at end
  carry-cut h = sym (c.whole ∙ ap (carried weight value) (in-turn ∙ number_cut (left - 1) s i end h))

  module _ {b : ℕ} (q : b ≡ get_or s i 0) (h : i < end) where
    -- the last byte
    pub carry-last : b < 128 → value + weight * b < 2 ^ 64 → valued (value + weight * b) (i + 1) ≡ number_at s at end
    carry-last l f =
        let r : number_in left s i end ≡ valued b (i + 1) = in-turn ∙ number-last (left - 1) s i end h (rw (← q) l) ∙ ap (λ (x : ℕ). valued x (i + 1)) (sym q) in
        sym (c.whole ∙ ap (carried weight value) r ∙ rw (lt-ltb (value + weight * b) (2 ^ 64) f))

    -- a byte with more behind it
    pub carry-next : 1 < left → 128 ≤ b → b < 256 → Carries s at end (value + weight * (b - 128)) (weight * 128) (i + 1) (left - 1)
    carry-next l m z =
        let k = c.below in
        let p : weight * (b - 128) ≤ weight * 127 = mul-le-mul_left weight (omega arith) in
        let later : Option Number = number_in (left - 1) s (i + 1) end in
        let r : number_in left s i end ≡ more (b - 128) later = in-turn ∙ number_more (left - 1) s i end h (rw (← q) m) ∙ ap (λ (x : ℕ). more (x - 128) later) (sym q) in
        record {
          some = omega arith;
          most = omega (arith, c.most);
          power = ap (λ (x : ℕ). x * 128) c.power ∙ sym (pow-suc 128 (10 - left)) ∙ ap (λ (x : ℕ). 128 ^ x) (omega (arith, c.most));
          below = omega arith;
          whole = c.whole ∙ ap (carried weight value) r ∙ carry-more weight value (b - 128) later (omega arith);
        }

    -- a tenth byte of more than one bit
    pub carry-long : left ≤ 1 → 1 < b → None ≡ number_at s at end
    unfolding number_in
    carry-long l m = sym (c.whole ∙ ap (λ (n : ℕ). carried weight value (number_in n s i end)) (last-left l) ∙ go (dec_lt b 128))
      where
        go : Dec (b < 128) → carried weight value (number_in 1 s i end) ≡ None
        go (yes z) =
            let p : weight * 2 ≤ weight * b = mul-le-mul_left weight m in
            let r : number_in 1 s i end ≡ valued b (i + 1) = number-last 0 s i end h (rw (← q) z) ∙ ap (λ (x : ℕ). valued x (i + 1)) (sym q) in
            ap (carried weight value) r ∙ rw (le-ltb (value + weight * b) (2 ^ 64) (omega (arith, heavy l)))
        go (no z) = ap (carried weight value) (number_more 0 s i end h (rw (← q) (omega arith)))
