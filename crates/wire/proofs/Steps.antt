-- A walk step by step, as code goes: where a field stands, and that the count of fields does not matter. Assumes nothing.
use Rattle.std.specs.Prelude.{Option, Some, None, Result, Ok, Err, ◌≡◌, Bool, true, false, not, cond, List, eqb, leb}
use Rattle.std.proofs.Math.Path.{refl, ap}
use Rattle.std.proofs.Common.{◌∙◌}
use Prim.Native.Nat.{ℕ, zero, suc, ◌+◌, ◌-◌, ◌/◌, ◌%◌, ◌≤◌, ◌<◌}
use native.Mathlib.Omega.{arith}
use Rattle.std.proofs.Math.Decide.{dec_lt}
use borrow.Author.Tests.{lt-ltb, le-ltb, leb-true, ne_eqb}
use Rattle.protocol.specs.declared.Code.{Code}
use Rattle.protocol.specs.Numbers.{other_type, bad_number, past_end}
use Rattle.wire.specs.declared.Number.{Number}
use Rattle.wire.specs.declared.Field.{Field}
use Rattle.wire.specs.Base128.{number_at}
use Rattle.wire.proofs.NumberLaws.{number-place}
use Rattle.wire.specs.Fields.{whole, faulty, number_type, eight_type, bytes_type, four_type, readable, numbered, fixed, measured, value_at, KeyRule, keyed, field_at}
use Rattle.wire.specs.Walk.{Walked, stopped, before, onward, walk_in}

-- a value stands behind the place `at` and before the message's end
pub record Placed (at end start next : ℕ) : Type 0 where
  pub ahead : at < start
  pub span : start ≤ next
  pub within : next ≤ end

-- whatever f is, if it is whole it stands so
Behind : ℕ → ℕ → Result Field Code → Type 0
Behind at end f = (n k start next : ℕ) → f ≡ whole n k start next → Placed at end start next

fault-behind : (at end c : ℕ) → Behind at end (faulty c)
unfolding Behind
fault-behind at end c n k start next e = absurd (let z : ◌≡◌ {A = ℕ} 0 1 = cc in omega arith)

cond-behind : (at end : ℕ) (b : Bool) (f g : Result Field Code) → Behind at end f → Behind at end g → Behind at end (cond b f g)
cond-behind at end true f g p q = p
cond-behind at end false f g p q = q

whole-behind : (at end n k start next : ℕ) → at < start → start ≤ next → next ≤ end → Behind at end (whole n k start next)
unfolding Behind
whole-behind at end n k start next a b c n' k' start' next' e =
    let same : ◌≡◌ {A = Field} (record { number = n; kind = k; start = start; next = next }) (record { number = n'; kind = k'; start = start'; next = next' }) = cc in
    let p : start ≡ start' = ap (λ (f : Field). f.start) same in
    let q : next ≡ next' = ap (λ (f : Field). f.next) same in
    record { ahead = omega arith; span = omega arith; within = omega arith }

fixed-behind : (at end n k size start : ℕ) → at < start → start ≤ end → Behind at end (fixed n k size start end)
unfolding fixed
fixed-behind at end n k size start a b = go (leb size (end - start)) refl
  where
    go : (b : Bool) → leb size (end - start) ≡ b → Behind at end (cond b (whole n k start (start + size)) (faulty past_end))
    go true q = let h = leb-true size (end - start) q in whole-behind at end n k start (start + size) a (omega arith) (omega arith)
    go false q = fault-behind at end past_end

numbered-behind : (at end n start : ℕ) (s : List ℕ) (x : Option Number) → number_at s start end ≡ x → at < start → Behind at end (numbered n start x)
unfolding numbered
numbered-behind at end n start s None e a = fault-behind at end bad_number
numbered-behind at end n start s (Some x) e a = let p = number-place 10 s start end x.value x.next e in whole-behind at end n number_type start x.next a (omega arith) p.1

measured-behind : (at end n start : ℕ) (s : List ℕ) (x : Option Number) → number_at s start end ≡ x → at < start → Behind at end (measured n end x)
unfolding measured
measured-behind at end n start s None e a = fault-behind at end bad_number
measured-behind at end n start s (Some x) e a = let p = number-place 10 s start end x.value x.next e in fixed-behind at end n bytes_type x.value x.next (omega arith) p.1

value-behind : (at end n k start : ℕ) (s : List ℕ) → at < start → start ≤ end → Behind at end (value_at n k s start end)
unfolding value_at
value-behind at end n k start s a b =
    cond-behind at end (eqb k number_type) _ _ (numbered-behind at end n start s (number_at s start end) refl a)
    (cond-behind at end (eqb k eight_type) _ _ (fixed-behind at end n k 8 start a b)
    (cond-behind at end (eqb k four_type) _ _ (fixed-behind at end n k 4 start a b) (measured-behind at end n start s (number_at s start end) refl a)))

module _ (rule : KeyRule) where
  keyed-behind : (at end : ℕ) (s : List ℕ) (x : Option Number) → number_at s at end ≡ x → Behind at end (keyed rule s end x)
  unfolding keyed
  keyed-behind at end s None e = fault-behind at end bad_number
  keyed-behind at end s (Some x) e =
      let n : ℕ = x.value / 8 in
      let k : ℕ = x.value % 8 in
      let p = number-place 10 s at end x.value x.next e in
      cond-behind at end (not (readable k)) _ _ (fault-behind at end other_type)
      (cond-behind at end (eqb (rule n k) 0) _ _ (value-behind at end n k x.next s p.0 p.1) (fault-behind at end (rule n k)))

  -- WHERE A FIELD STANDS: behind the place of its key, and before the message's end
  pub field-place : (s : List ℕ) (at end n k start next : ℕ) → field_at rule s at end ≡ whole n k start next → Placed at end start next
  unfolding field_at Behind
  field-place s at end n k start next e = keyed-behind at end s (number_at s at end) refl n k start next e

-- a whole field stands at a place of a message: its number, its type, where its value starts and where the next field starts
pub record Here (rule : KeyRule) (s : List ℕ) (at end n k start next : ℕ) : Type 0 where
  pub inside : at < end
  pub field : field_at rule s at end ≡ whole n k start next

module _ {rule : KeyRule} {s : List ℕ} {at end n k start next : ℕ} (x : Here rule s at end n k start next) where
  -- its places
  pub here-ahead : at < start
  here-ahead = (field-place rule s at end n k start next x.field).ahead

  pub here-span : start ≤ next
  here-span = (field-place rule s at end n k start next x.field).span

  pub here-within : next ≤ end
  here-within = (field-place rule s at end n k start next x.field).within

  -- fewer bytes are left behind it
  pub here-less : end - next < end - at
  here-less = omega (arith, x.inside, here-ahead, here-span, here-within)

-- ---- how many fields are allowed does not matter, if they are as many as the bytes
pub walk-count : (rule : KeyRule) (inside : Field → ℕ) (m m' : ℕ) (s : List ℕ) (at end : ℕ) → end - at ≤ m → end - at ≤ m'
    → walk_in rule inside m s at end ≡ walk_in rule inside m' s at end
unfolding walk_in onward
walk-count rule inside zero zero s at end h h' = refl
walk-count rule inside zero (suc m') s at end h h' = rw (le-ltb at end (omega arith))
walk-count rule inside (suc m) zero s at end h h' = rw (le-ltb at end (omega arith))
walk-count rule inside (suc m) (suc m') s at end h h' = go (dec_lt at end) (λ (x : ℕ). walk-count rule inside m m' s x end)
  where
    Later : Type 0
    Later = (x : ℕ) → end - x ≤ m → end - x ≤ m' → walk_in rule inside m s x end ≡ walk_in rule inside m' s x end

    on : (f : Result Field Code) → field_at rule s at end ≡ f → at < end → Later → onward inside f (λ (x : ℕ). walk_in rule inside m s x end) ≡ onward inside f (λ (x : ℕ). walk_in rule inside m' s x end)
    on (Err c) e l ih = refl
    on (Ok f) e l ih =
        let p = field-place rule s at end f.number f.kind f.start f.next e in
        ap (λ (w : Walked). onward inside (Ok f) (λ (x : ℕ). w))
        (ih f.next (omega (arith, p.ahead, p.span, p.within)) (omega (arith, p.ahead, p.span, p.within)))

    go : Dec (at < end) → Later → walk_in rule inside (suc m) s at end ≡ walk_in rule inside (suc m') s at end
    go (yes l) ih = rw (lt-ltb at end l) (on (field_at rule s at end) refl l ih)
    go (no l) ih = rw (le-ltb at end (omega arith))

-- ---- one step of a walk whose count is the bytes left
module _ (rule : KeyRule) (inside : Field → ℕ) (s : List ℕ) (at end : ℕ) where
  abbrev pub from : ℕ → Walked
  from x = walk_in rule inside (end - x) s x end

  pub step_end : end ≤ at → from at ≡ stopped 0
  unfolding walk_in
  step_end h = ap (λ (m : ℕ). walk_in rule inside m s at end) (zero_left h)
    where
      zero_left : end ≤ at → end - at ≡ 0
      zero_left h = omega arith

  left : at < end → from at ≡ onward inside (field_at rule s at end) (λ (x : ℕ). walk_in rule inside (end - at - 1) s x end)
  unfolding walk_in
  left l =
      let e : end - at ≡ suc (end - at - 1) = omega arith in
      ap (λ (m : ℕ). walk_in rule inside m s at end) e ∙ rw (lt-ltb at end l)

  pub step-fault : (c : ℕ) → at < end → field_at rule s at end ≡ faulty c → from at ≡ stopped c
  unfolding onward
  step-fault c l e = left l ∙ rw e

  module _ (n k start next : ℕ) (l : at < end) (e : field_at rule s at end ≡ whole n k start next) where
    pub step-on : inside (record { number = n; kind = k; start = start; next = next }) ≡ 0
        → from at ≡ before (record { number = n; kind = k; start = start; next = next }) (from next)
    unfolding onward
    step-on z =
        let p = field-place rule s at end n k start next e in
        left l ∙ rw (e, z)
        (ap (before (record { number = n; kind = k; start = start; next = next }))
        (walk-count rule inside (end - at - 1) (end - next) s next end (omega (arith, p.ahead, p.span, p.within)) (omega arith)))

    pub step-inside : (c : ℕ) → inside (record { number = n; kind = k; start = start; next = next }) ≡ c → (c ≡ 0 → ⊥) → from at ≡ stopped c
    unfolding onward
    step-inside c z q = left l ∙ rw (e, z, ne_eqb c 0 q)
