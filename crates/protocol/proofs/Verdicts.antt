-- What a verdict is, and what it tells. Assumes nothing.
use Rattle.std.specs.Prelude.{◌≡◌, refl, Result, Ok, Err, Bool, true, false, cond, ℕ, eqb}
use Rattle.std.proofs.Common.{sym, ◌∙◌, ap, arith, eq-eqb, ne_eqb, eqb-true}
use Rattle.std.proofs.lemmas.Bool.{eqb-false}
use Rattle.protocol.specs.declared.Code.{Code}
use Rattle.protocol.specs.Verdict.{verdict}

pub verdict-good : (c : ℕ) → c ≡ 0 → Ok tt ≡ verdict c
verdict-good c e = rw (eq-eqb c 0 e)

pub verdict-bad : (x : Code) (c : ℕ) → x.0 ≡ c → (x.0 ≡ 0 → ⊥) → Err x ≡ verdict c
verdict-bad x c e n = rw (← e, ne_eqb x.0 0 n)

-- and what it tells
pub good-verdict : (c : ℕ) → verdict c ≡ Ok tt → c ≡ 0
good-verdict c e = go (eqb c 0) refl e
  where
    go : (b : Bool) → eqb c 0 ≡ b → ◌≡◌ {A = Result Unit Code} (cond b (Ok tt) (Err (record { 0 = c }))) (Ok tt) → c ≡ 0
    go true q h = eqb-true c 0 q
    go false q h = absurd (let z : ◌≡◌ {A = ℕ} 0 1 = cc in omega arith)

pub bad-verdict : (x : Code) (c : ℕ) → verdict c ≡ Err x → (x.0 ≡ c) × (x.0 ≡ 0 → ⊥)
bad-verdict x c e = go (eqb c 0) refl e
  where
    go : (b : Bool) → eqb c 0 ≡ b → ◌≡◌ {A = Result Unit Code} (cond b (Ok tt) (Err (record { 0 = c }))) (Err x) → (x.0 ≡ c) × (x.0 ≡ 0 → ⊥)
    go true q h = absurd (let z : ◌≡◌ {A = ℕ} 0 1 = cc in omega arith)
    go false q h =
        let w : ◌≡◌ {A = Code} (record { 0 = c }) x = cc in
        let v : c ≡ x.0 = ap (λ (y : Code). y.0) w in
        (sym v, λ (z : x.0 ≡ 0). eqb-false c 0 q (v ∙ z))
