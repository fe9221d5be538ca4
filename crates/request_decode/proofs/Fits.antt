-- Laws of a message's lengths and its CRC. Assumes nothing.
use mathlib.Core.Path.{◌≡◌, refl, sym, ap, ◌∙◌}
use mathlib.Core.Bool.{Bool, true, false, cond, true≢false}
use mathlib.Core.List.{List}
use Prim.Native.Nat.{ℕ, zero, suc, ◌+◌, ◌-◌, ◌≤◌, ◌<◌}
use native.Mathlib.Omega.{arith}
use borrow.Author.Tests.{eq-eqb, ne_eqb, eqb-true, leb-true}
use lib.Dec.{eqb}
use lib.ListN.{length, take, drop}
use Rattle.crc.specs.Crc.{crc}
use Rattle.request_reader.specs.declared.Fields.{Fields}
use Rattle.request_names.proofs.Names.{tail-part}
use Rattle.request_reader.proofs.Little.{in_rest}
use Rattle.protocol.specs.Decode.{body_fits, crc_fits}
use Rattle.request_decode.specs.Widths.{widths_of, fields_in}

-- how long a body is at least
cond_same : (b : Bool) → cond b false false ≡ false
cond_same true = refl
cond_same false = refl

pub some-body : (sub n : ℕ) → (sub ≡ 0 → ⊥) → body_fits sub n ≡ true → 3 ≤ n
unfolding body_fits
some-body sub zero ne h = absurd (true≢false (sym h ∙ simp (ne_eqb sub 0 ne, cond_same)))
some-body sub (suc zero) ne h = absurd (true≢false (sym h ∙ simp (ne_eqb sub 0 ne, cond_same)))
some-body sub (suc (suc zero)) ne h = absurd (true≢false (sym h ∙ simp (ne_eqb sub 0 ne, cond_same)))
some-body sub (suc (suc (suc n))) ne h = omega arith

pub name_body : (k sub n : ℕ) → sub ≡ suc k → body_fits sub n ≡ true → 3 ≤ n
name_body k sub n e h = some-body sub n (λ z. omega arith) h

pub no_body : (sub n : ℕ) → sub ≡ 0 → body_fits sub n ≡ true → n ≡ 0
unfolding body_fits
no_body sub n e h = eqb-true n 0 (rw e at h)

pub open-body : (sub n : ℕ) → sub ≡ 2 → body_fits sub n ≡ true → 5 ≤ n
unfolding body_fits
open-body sub n e h = leb-true 5 n (rw e at h)

pub commit-body : (sub n : ℕ) → sub ≡ 5 → body_fits sub n ≡ true → 5 ≤ n
unfolding body_fits
commit-body sub n e h = leb-true 5 n (rw e at h)

-- where the name starts, and what follows Commit's length byte, lies in the message
module _ (m : List ℕ) (f : Fields) where
  pub open-inside : f ≡ fields_in 2 m → body_fits 2 (length m - 4) ≡ true → 4 + f.rest ≤ length m
  unfolding widths_of
  open-inside e h = omega (arith, ap (λ (g : Fields). g.rest) e, open-body 2 (length m - 4) refl h)

  pub commit-inside : f ≡ fields_in 5 m → body_fits 5 (length m - 4) ≡ true → 4 + f.rest ≤ length m
  unfolding widths_of
  commit-inside e h = omega (arith, ap (λ (g : Fields). g.rest) e, commit-body 5 (length m - 4) refl h)

  pub delete-inside : f ≡ fields_in 7 m → body_fits 7 (length m - 4) ≡ true → 4 + f.rest ≤ length m
  unfolding widths_of
  delete-inside e h = omega (arith, ap (λ (g : Fields). g.rest) e, name_body 6 7 (length m - 4) refl h)

  pub stat-inside : f ≡ fields_in 8 m → body_fits 8 (length m - 4) ≡ true → 4 + f.rest ≤ length m
  unfolding widths_of
  stat-inside e h = omega (arith, ap (λ (g : Fields). g.rest) e, name_body 7 8 (length m - 4) refl h)

-- the CRC of what is lent behind the header and the CRC, by the message
pub crc-behind : (m : List ℕ) (found r : ℕ) → r ≡ crc (take (length m - 6) (drop 6 m)) → eqb found r ≡ eqb found (crc (drop 6 m))
crc-behind m found r e = ap (λ (x : ℕ). eqb found x) (e ∙ ap crc (tail-part 6 m))

-- the CRC that the reader found, of a message that has one
pub crc-found : (sub : ℕ) (m : List ℕ) (f : Fields) → f ≡ fields_in sub m → 4 < length m → eqb f.crc (crc (drop 6 m)) ≡ crc_fits m
unfolding crc_fits
crc-found sub m f e h = rw (ne_eqb (length m - 4) 0 (omega arith), ap (λ (g : Fields). g.crc) e, in_rest 2 4 m 0)

pub no-crc : (m : List ℕ) → length m - 4 ≡ 0 → crc_fits m ≡ true
unfolding crc_fits
no-crc m h = rw (eq-eqb (length m - 4) 0 h)
