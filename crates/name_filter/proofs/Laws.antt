-- Laws of the hash and of the filter's bits, as the loops use them. Assumes nothing.
use mathlib.Core.Path.{◌≡◌, refl, sym, ◌∙◌, ap}
use mathlib.Core.Bool.{Bool, true, false}
use mathlib.Core.List.{List}
use Prim.Native.Nat.{ℕ, ◌+◌, ◌*◌, ◌/◌, ◌%◌, ◌^◌, ◌≤◌, ◌<◌}
use native.Mathlib.Numerals.{add-one}
use native.Mathlib.Omega.{arith}
use lib.Dec.{eqb}
use lib.Bits.{bit_or}
use lib.Pow.{shl_exact}
use lib.ListN.{length, get_or, set, drop, length-set, drop_of_length-le}
use lib.Seq.{drop-cons, get_or-set_same, get_or-set_other}
use borrow.Author.Tests.{eqb-true, eqb-false, eq-eqb}
use Rattle.laws.specs.All.{all, all_none, all-at, all_of, all-step, all_end}
use Rattle.laws.specs.Bits.{bit, put_bit, bit-put-other, flag-kept, set-or}
use Rattle.name_filter.specs.Hash.{hash_step, hash_from}
use Rattle.name_filter.specs.Filter.{word_bits, probes, bit_at, with_bit, place_of, seen_in, Marked}

-- ---- the hash of what is left
pub hash-more : (h : ℕ) (s : List ℕ) (i : ℕ) → i < length s → hash_from h (drop i s) ≡ hash_from (hash_step h (get_or s i 0)) (drop (i + 1) s)
unfolding hash_from
hash-more h s i l = rw (add-one, drop-cons s i 0 l)

pub hash-end : (h : ℕ) (s : List ℕ) (i : ℕ) → length s ≤ i → hash_from h (drop i s) ≡ h
unfolding hash_from
hash-end h s i l = rw (drop_of_length-le s l)

-- ---- one bit set: `1 << i` is its weight
pub set-by-or : (i m : ℕ) → i < 32 → bit_or m (1 * 2 ^ i % 4294967296) ≡ put_bit i 1 m
set-by-or i m h = rw weight (set-or i m)
  where
    weight : 1 * 2 ^ i % 4294967296 ≡ 2 ^ i
    weight = let e : 1 * 2 ^ i % 2 ^ 32 ≡ 1 * 2 ^ i = shl_exact {a = 1} 1 i 32 (omega arith) (omega arith) in e ∙ omega arith

-- in its word every set bit stays set,
bit_kept : (i j m : ℕ) → bit j m ≡ 1 → bit j (put_bit i 1 m) ≡ 1
bit_kept i j m e = go (eqb i j) refl
  where
    go : (y : Bool) → eqb i j ≡ y → bit j (put_bit i 1 m) ≡ 1
    go true h = ap (λ (k : ℕ). bit k (put_bit i 1 m)) (sym (eqb-true i j h)) ∙ flag-kept i 1 m (omega arith)
    go false h = bit-put-other i j 1 m (eqb-false i j h) ∙ e

-- and in every other word
word_kept : (l : List ℕ) (w k i j : ℕ) → w < length l → bit j (get_or l k 0) ≡ 1 → bit j (get_or (set l w (put_bit i 1 (get_or l w 0))) k 0) ≡ 1
word_kept l w k i j inside e = go (eqb k w) refl
  where
    go : (y : Bool) → eqb k w ≡ y → bit j (get_or (set l w (put_bit i 1 (get_or l w 0))) k 0) ≡ 1
    go true h =
        let same : k ≡ w = eqb-true k w h in
        ap (λ (x : ℕ). bit j (get_or (set l w (put_bit i 1 (get_or l w 0))) x 0)) same
        ∙ ap (bit j) (get_or-set_same l w (put_bit i 1 (get_or l w 0)) 0 inside)
        ∙ bit_kept i j (get_or l w 0) (ap (λ (x : ℕ). bit j (get_or l x 0)) (sym same) ∙ e)
    go false h = ap (bit j) (get_or-set_other l w k (put_bit i 1 (get_or l w 0)) 0 (eqb-false k w h)) ∙ e

module _ (l : List ℕ) (p : ℕ) (inside : p / word_bits < length l) where
  set_is : bit_at (with_bit l p) p ≡ true
  unfolding bit_at with_bit
  set_is =
      eq-eqb _ _ (ap (bit (p % word_bits)) (get_or-set_same l (p / word_bits) (put_bit (p % word_bits) 1 (get_or l (p / word_bits) 0)) 0 inside)
      ∙ flag-kept (p % word_bits) 1 (get_or l (p / word_bits) 0) (omega arith))

  set-kept : (q : ℕ) → bit_at l q ≡ true → bit_at (with_bit l p) q ≡ true
  unfolding bit_at with_bit
  set-kept q e = eq-eqb _ _ (word_kept l (p / word_bits) (q / word_bits) (p % word_bits) (q % word_bits) inside (eqb-true _ _ e))

pub with-length : (l : List ℕ) (p : ℕ) → length (with_bit l p) ≡ length l
unfolding with_bit
with-length l p = length-set l (p / word_bits) (put_bit (p % word_bits) 1 (get_or l (p / word_bits) 0))

-- ---- a loop that marks
-- the filter once i places of the hash are set
pub record MarkedTo (old : List ℕ) (hash i : ℕ) (new : List ℕ) : Type 0 where
  pub few : i ≤ probes
  pub long : length new ≡ length old
  pub done : all (λ (j : ℕ). bit_at new (place_of hash j)) i ≡ true
  pub kept : (p : ℕ) → bit_at old p ≡ true → bit_at new p ≡ true

module _ (old : List ℕ) (hash : ℕ) where
  pub marked-none : MarkedTo old hash 0 old
  marked-none = record { few = omega arith; long = refl; done = all_none _; kept = λ (p : ℕ) (e : bit_at old p ≡ true). e }

  turn : (i : ℕ) (x : List ℕ) → i < probes → place_of hash i / word_bits < length x → MarkedTo old hash i x → MarkedTo old hash (i + 1) (with_bit x (place_of hash i))
  turn i x more inside m = record {
    few = omega arith;
    long = with-length x (place_of hash i) ∙ m.long;
    done =
        sym
        (all-step (λ (j : ℕ). bit_at (with_bit x (place_of hash i)) (place_of hash j)) i true true
        (sym (all_of _ i (λ (j : ℕ) (l : j < i). set-kept x (place_of hash i) inside (place_of hash j) (all-at _ i m.done j l))))
        (sym (set_is x (place_of hash i) inside)));
    kept = λ (p : ℕ) (e : bit_at old p ≡ true). set-kept x (place_of hash i) inside p (m.kept p e);
  }

  -- one turn
  pub marked_more : (i p : ℕ) (x y : List ℕ) → i < probes → p ≡ place_of hash i → p / word_bits < length x → y ≡ with_bit x p → MarkedTo old hash i x → MarkedTo old hash (i + 1) y
  marked_more i p x y more e inside q m = rw (q, e) (turn i x more (rw e at inside) m)

  -- its end
  pub marked_all : (i : ℕ) (x : List ℕ) → probes ≤ i → MarkedTo old hash i x → Marked old x hash
  marked_all i x end m = record {
    long = m.long;
    marked = sym (all_end (λ (j : ℕ). bit_at x (place_of hash j)) probes i true m.few end (sym m.done));
    kept = λ (other : ℕ) (e : seen_in old other ≡ true). all_of _ probes (λ (j : ℕ) (l : j < probes). m.kept (place_of other j) (all-at _ probes e j l));
  }
