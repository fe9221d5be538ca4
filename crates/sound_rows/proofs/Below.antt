-- Tests of the numbers below n, and of pairs of them: what the ways out of a search for one that fails say. Assumes nothing.
use Rattle.std.specs.Prelude.{◌≡◌, refl, Bool, true, false, not, ◌&&◌, ℕ, ◌<◌, length}
use Rattle.std.proofs.Common.{sym, ◌∙◌, ap, true≢false, zero-add, arith}
use Rattle.std.specs.Bool.{MatchBool}
use Rattle.std.specs.List.{slice_index_or, AllWithin, HoldsAt, range_with_len}
use Rattle.std.proofs.lemmas.List.FromFn.{get_or-range_with_len, length-range_with_len}
use Rattle.laws.specs.All.{all, all_of, all-fails, pairs, pairs-at, pairs_of}

-- what `all` and `any` over a range answer
module _ (p : ℕ → Bool) (n : ℕ) where
  abbrev pub EachIs : Bool → Type 0
  EachIs b = AllWithin (λ i. p i ≡ b) (range_with_len 0 n) 0 (length (range_with_len 0 n))

  abbrev pub OneIs : Bool → Type 0
  OneIs b = (k : ℕ) × (k < length (range_with_len 0 n)) × HoldsAt (λ i. p i ≡ b) (range_with_len 0 n) k

  at : (i : ℕ) → i < n → slice_index_or (range_with_len 0 n) i 0 ≡ i
  at i l = get_or-range_with_len 0 n i 0 l ∙ zero-add i

  each : (b : Bool) → EachIs b → (i : ℕ) → i < n → p i ≡ b
  each b h i l = ap p (sym (at i l)) ∙ h i 0 (omega arith) (omega (arith, length-range_with_len 0 n))

  one : (b : Bool) → OneIs b → (i : ℕ) × (i < n) × (p i ≡ b)
  one b h =
      let l : h.0 < n = omega (arith, h.1, length-range_with_len 0 n) in
      (h.0, l, ap p (sym (at h.0 l)) ∙ h.2 0)

  pub all_from_range : (r : Bool) → MatchBool r (EachIs true) (OneIs false) → r ≡ all p n
  all_from_range true h = sym (all_of p n (each true h))
  all_from_range false h = let f = one false h in sym (all-fails p n f.0 f.1 f.2)

  pub any_from_range : (r : Bool) → MatchBool r (OneIs true) (EachIs false) → r ≡ not (all (λ i. not (p i)) n)
  any_from_range true h = let f = one true h in rw (all-fails (λ i. not (p i)) n f.0 f.1 (ap not f.2))
  any_from_range false h = rw (all_of (λ i. not (p i)) n (λ i l. ap not (each false h i l)))

-- pairs of them
pub pairs-fails : (p : ℕ → ℕ → Bool) (n i : ℕ) → i < n → all (p i) i ≡ false → pairs p n ≡ false
pairs-fails p n i l e = go (pairs p n) refl
  where
    go : (b : Bool) → pairs p n ≡ b → pairs p n ≡ false
    go true h = absurd (true≢false (sym (all_of (p i) i (λ j k. pairs-at p n h i j l k)) ∙ e))
    go false h = h

pub pairs-ext : (p q : ℕ → ℕ → Bool) (n : ℕ) → ((i j : ℕ) → p i j ≡ q i j) → pairs p n ≡ pairs q n
pairs-ext p q n f = go (pairs p n) (pairs q n) refl refl
  where
    go : (a b : Bool) → pairs p n ≡ a → pairs q n ≡ b → a ≡ b
    go true b h k = sym (pairs_of q n (λ i j l m. sym (f i j) ∙ pairs-at p n h i j l m)) ∙ k
    go a true h k = sym h ∙ pairs_of p n (λ i j l m. f i j ∙ pairs-at q n k i j l m)
    go false false h k = refl

-- one that clashes, and one that is not in use or does not clash
pub clash_found : (a b : Bool) → a ≡ true → b ≡ true → not (a && b) ≡ false
clash_found a b e f = rw (e, f)

pub apart_free : (a b : Bool) → a ≡ false → true ≡ not (a && b)
apart_free a b e = rw e

pub apart_clear : (a b : Bool) → b ≡ false → true ≡ not (a && b)
apart_clear true b e = rw e
apart_clear false b e = refl

-- the tests of a place in use are those of the places below it
pub row_used : (a : Bool) (q : ℕ → Bool) (n : ℕ) → a ≡ true → all (λ j. not (a && q j)) n ≡ all (λ j. not (q j)) n
row_used a q n e = rw e
