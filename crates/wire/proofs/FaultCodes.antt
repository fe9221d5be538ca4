-- No fault has the code 0, so that a message's fault and its verdict say the same. Assumes nothing.
use Rattle.std.specs.Prelude.{◌≡◌, refl, Option, Some, None, Result, Ok, Err, Bool, true, false, not, cond, List, ℕ, ◌-◌, ◌/◌, ◌%◌, eqb, leb}
use Rattle.std.proofs.Common.{subst, arith}
use Rattle.std.proofs.lemmas.Bool.{eqb-false}
use Rattle.protocol.specs.declared.Code.{Code}
use Rattle.wire.specs.declared.Field.{Field}
use Rattle.wire.specs.declared.Number.{Number}
use Rattle.wire.specs.Base128.{number_at}
use Rattle.wire.specs.Fields.{number_type, eight_type, four_type, bytes_type, readable, numbered, fixed, measured, value_at, KeyRule, keyed, field_at}

abbrev Coded : Result Field Code → Type 0
Coded (Ok f) = Unit {0}
Coded (Err c) = c.0 ≡ 0 → ⊥

cond-coded : (b : Bool) (f g : Result Field Code) → Coded f → Coded g → Coded (cond b f g)
cond-coded true f g p q = p
cond-coded false f g p q = q

fixed-coded : (n k size start end : ℕ) → Coded (fixed n k size start end)
unfolding fixed
fixed-coded n k size start end = cond-coded (leb size (end - start)) _ _ tt (λ (z : 229 ≡ 0). omega arith)

numbered-coded : (n start : ℕ) (x : Option Number) → Coded (numbered n start x)
unfolding numbered
numbered-coded n start None = λ (z : 228 ≡ 0). omega arith
numbered-coded n start (Some x) = tt

measured-coded : (n end : ℕ) (x : Option Number) → Coded (measured n end x)
unfolding measured
measured-coded n end None = λ (z : 228 ≡ 0). omega arith
measured-coded n end (Some x) = fixed-coded n bytes_type x.value x.next end

value-coded : (n k : ℕ) (s : List ℕ) (start end : ℕ) → Coded (value_at n k s start end)
unfolding value_at
value-coded n k s start end =
    cond-coded (eqb k number_type) _ _ (numbered-coded n start (number_at s start end))
    (cond-coded (eqb k eight_type) _ _ (fixed-coded n k 8 start end)
    (cond-coded (eqb k four_type) _ _ (fixed-coded n k 4 start end) (measured-coded n end (number_at s start end))))

module _ (rule : KeyRule) where
  ruled : (n k : ℕ) (f : Result Field Code) (b : Bool) → eqb (rule n k) 0 ≡ b → Coded f → Coded (cond b f (Err (record { 0 = rule n k })))
  ruled n k f true q h = h
  ruled n k f false q h = eqb-false (rule n k) 0 q

  keyed-coded : (s : List ℕ) (end : ℕ) (x : Option Number) → Coded (keyed rule s end x)
  unfolding keyed
  keyed-coded s end None = λ (z : 228 ≡ 0). omega arith
  keyed-coded s end (Some x) =
      let n : ℕ = x.value / 8 in
      let k : ℕ = x.value % 8 in
      cond-coded (not (readable k)) _ _ (λ (z : 225 ≡ 0). omega arith) (ruled n k (value_at n k s x.next end) (eqb (rule n k) 0) refl (value-coded n k s x.next end))

  -- NO FAULT HAS THE CODE 0
  pub fault-coded : (s : List ℕ) (at end : ℕ) (c : Code) → field_at rule s at end ≡ Err c → c.0 ≡ 0 → ⊥
  unfolding field_at
  fault-coded s at end c e = subst Coded e (keyed-coded s end (number_at s at end))
