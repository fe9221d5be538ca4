-- A store name, filled up with zeros, is a slot's name field. Assumes nothing.
use Rattle.std.specs.Prelude.{◌≡◌, refl, ◌≢◌, true, false, List, ℕ, zero, suc, ◌+◌, ◌-◌, ◌≤◌, ◌<◌, length, get_or, take, drop}
use Rattle.std.proofs.Common.{sym, ◌∙◌, ap, true≢false, arith, leb-true, get_or-take, get_or-drop}
use Rattle.std.proofs.Math.Decide.{dec_lt}
use Rattle.laws.specs.All.{all, all-at, and-true, and_both}
use Rattle.laws.specs.Bytes.{same, same_true, same_refl, text, padded, text-padded}
use Rattle.protocol.specs.Numbers.{name_size, store_name_most}
use Rattle.protocol.proofs.Sizes.{name-size}
use Rattle.protocol.specs.Names.{base, alnum, store_name, store_field}

alnum-not-zero : alnum 0 ≡ false
unfolding alnum
alnum-not-zero = refl

base-length : length base ≡ 6
unfolding base
base-length = refl

base-at : (i : ℕ) → i < 6 → get_or base i 0 ≢ 0
unfolding base
base-at zero h = omega arith
base-at (suc zero) h = omega arith
base-at (suc (suc zero)) h = omega arith
base-at (suc (suc (suc zero))) h = omega arith
base-at (suc (suc (suc (suc zero)))) h = omega arith
base-at (suc (suc (suc (suc (suc zero))))) h = omega arith
base-at (suc (suc (suc (suc (suc (suc i)))))) h = absurd (omega arith)

pub record IsName (n : List ℕ) : Type 0 where
  pub starts : take (length base) n ≡ base
  pub longer : length base + 1 ≤ length n
  pub shorter : length n ≤ length base + store_name_most
  pub alnums : all (λ (i : ℕ). alnum (get_or (drop (length base) n) i 0)) (length n - length base) ≡ true

is_name : (n : List ℕ) → store_name n ≡ true → IsName n
unfolding store_name
is_name n h =
    let a = and-true _ _ h in
    let b = and-true _ _ a.1 in
    let c = and-true _ _ b.0 in
    record { starts = same_true _ _ a.0; longer = leb-true _ _ c.0; shorter = leb-true _ _ c.1; alnums = b.1 }

no_zero : (n : List ℕ) → IsName n → (i : ℕ) → i < length n → get_or n i 0 ≢ 0
no_zero n f i l z = go (dec_lt i 6)
  where
    go : Dec (i < 6) → ⊥
    go (yes h) =
        let e : get_or (take (length base) n) i 0 ≡ get_or n i 0 = get_or-take (length base) n i 0 (let b = base-length in omega arith) in
        base-at i h (sym (ap (λ (x : List ℕ). get_or x i 0) f.starts) ∙ e ∙ z)
    go (no h) =
        let b = base-length in
        let a : alnum (get_or (drop (length base) n) (i - length base) 0) ≡ true = all-at (λ (j : ℕ). alnum (get_or (drop (length base) n) j 0))
        (length n - length base) f.alnums (i - length base) (omega arith) in
        let e : get_or (drop (length base) n) (i - length base) 0 ≡ get_or n i 0 = get_or-drop (length base) n (i - length base) 0 ∙ ap (λ (j : ℕ). get_or n j 0) (omega arith) in
        true≢false (sym a ∙ ap alnum (e ∙ z) ∙ alnum-not-zero)

-- it fits the field
pub name-fits : (n : List ℕ) → store_name n ≡ true → length n ≤ name_size
name-fits n h = let a = (is_name n h).shorter in let b = base-length in let c = name-size in omega arith

-- filled up with zeros it is read back, and may stand in a slot
pub text-of-name : (n : List ℕ) → store_name n ≡ true → text (padded name_size n) ≡ n
text-of-name n h = text-padded name_size n (name-fits n h) (no_zero n (is_name n h))

pub field-of-name : (n : List ℕ) → store_name n ≡ true → store_field (padded name_size n) ≡ true
unfolding store_field
field-of-name n h =
    let e = text-of-name n h in
    and_both _ _ (ap store_name e ∙ h) (ap (λ (x : List ℕ). same (padded name_size n) (padded name_size x)) e ∙ same_refl (padded name_size n))
