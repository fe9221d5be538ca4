-- Each way through a field's tests. Assumes nothing.
use mathlib.Core.Path.{◌≡◌}
use mathlib.Core.Bool.{true, false, not}
use mathlib.Core.List.{List}
use Rattle.std.specs.Prelude.{None}
use Prim.Native.Nat.{ℕ, ◌+◌, ◌-◌, ◌/◌, ◌%◌, ◌≤◌, ◌<◌}
use native.Mathlib.Decide.{ℕ_discrete}
use native.Mathlib.Omega.{arith}
use borrow.Author.Tests.{le-leb, lt-leb, eq-eqb, ne_eqb}
use Rattle.protocol.specs.Numbers.{other_type, zero_field, wrong_type, bad_number, past_end}
use Rattle.wire.specs.Base128.{valued, number_at}
use Rattle.wire.specs.Fields.{whole, faulty, store_keys, readable, misfit, numbered, fixed, measured, value_at, keyed, field_at, known}

-- a value of a known size
module _ (n k size start end : ℕ) where
  pub fixed-whole : size ≤ end - start → whole n k start (start + size) ≡ fixed n k size start end
  unfolding fixed
  fixed-whole h = rw (le-leb size (end - start) h)

  pub fixed-past : end - start < size → faulty past_end ≡ fixed n k size start end
  unfolding fixed
  fixed-past h = rw (lt-leb size (end - start) h)

-- a value behind its key
module _ (n k : ℕ) (s : List ℕ) (start end : ℕ) where
  pub value-eight : k ≡ 1 → fixed n k 8 start end ≡ value_at n k s start end
  unfolding value_at
  value-eight e = rw (ne_eqb k 0 (λ (z : k ≡ 0). omega arith), eq-eqb k 1 e)

  pub value-four : k ≡ 5 → fixed n k 4 start end ≡ value_at n k s start end
  unfolding value_at
  value-four e = rw (ne_eqb k 0 (λ (z : k ≡ 0). omega arith), ne_eqb k 1 (λ (z : k ≡ 1). omega arith), eq-eqb k 5 e)

  pub value-bad : (k ≡ 1 → ⊥) → (k ≡ 5 → ⊥) → number_at s start end ≡ None → faulty bad_number ≡ value_at n k s start end
  unfolding value_at numbered measured
  value-bad a b e = go (ℕ_discrete k 0)
    where
      go : Dec (k ≡ 0) → faulty bad_number ≡ value_at n k s start end
      go (yes z) = rw (eq-eqb k 0 z, e)
      go (no z) = rw (ne_eqb k 0 z, ne_eqb k 1 a, ne_eqb k 5 b, e)

  module _ {v next : ℕ} (e : number_at s start end ≡ valued v next) where
    pub value-number : k ≡ 0 → whole n k start next ≡ value_at n k s start end
    unfolding value_at numbered
    value-number z = rw (eq-eqb k 0 z, e, z)

    pub value-bytes : (k ≡ 0 → ⊥) → (k ≡ 1 → ⊥) → (k ≡ 5 → ⊥) → fixed n 2 v next end ≡ value_at n k s start end
    unfolding value_at measured
    value-bytes a b c = rw (ne_eqb k 0 a, ne_eqb k 1 b, ne_eqb k 5 c, e)

-- a field at a place
module _ (s : List ℕ) (at end : ℕ) where
  pub field-bad : number_at s at end ≡ None → faulty bad_number ≡ field_at store_keys s at end
  unfolding field_at keyed
  field-bad e = rw e

  module _ {v next : ℕ} (e : number_at s at end ≡ valued v next) where
    pub field-other : not (readable (v % 8)) ≡ true → faulty other_type ≡ field_at store_keys s at end
    unfolding field_at keyed
    field-other a = rw (e, a)

    module _ (a : not (readable (v % 8)) ≡ false) where
      pub field-zero : v / 8 ≡ 0 → faulty zero_field ≡ field_at store_keys s at end
      unfolding field_at keyed known
      field-zero b = rw (e, a, eq-eqb (v / 8) 0 b)

      module _ (b : v / 8 ≡ 0 → ⊥) where
        pub field-wrong : misfit 2 (v / 8) (v % 8) ≡ true → faulty wrong_type ≡ field_at store_keys s at end
        unfolding field_at keyed known
        field-wrong c = rw (e, a, ne_eqb (v / 8) 0 b, c)

        pub field-value : misfit 2 (v / 8) (v % 8) ≡ false → value_at (v / 8) (v % 8) s next end ≡ field_at store_keys s at end
        unfolding field_at keyed known
        field-value c = rw (e, a, ne_eqb (v / 8) 0 b, c)
