-- Every code of saving and loading is one that the document has for it. Assumes nothing.
use Rattle.std.specs.Prelude.{◌≡◌, Option, Some, None, Result, Ok, Err, Bool, true, false, not, cond, List, [], ◌∷◌, eqb, ltb, leb, length}
use Rattle.std.proofs.Math.Path.{refl}
use Rattle.std.proofs.Common.{sym, subst, true≢false, eqb-true}
use Prim.Native.Nat.{ℕ, zero, suc, ◌-◌, ◌/◌, ◌%◌}
use Rattle.laws.specs.All.{Or, this, that, or-true}
use Rattle.laws.specs.Merge.{All}
use Rattle.laws.specs.Bytes.{same}
use Rattle.protocol.specs.declared.Code.{Code}
use Rattle.protocol.specs.Numbers.{success, other_type, zero_field, wrong_type, bad_number, past_end, slot_count, slot_size}
use Rattle.protocol.specs.Names.{base, store_name}
use Rattle.protocol.proofs.NameForms.{one_of}
use Rattle.state.specs.State.{State}
use Rattle.state.specs.Soundness.{is_sound}
use Rattle.wire.specs.declared.Number.{Number}
use Rattle.wire.specs.declared.Field.{Field}
use Rattle.wire.specs.Base128.{number_at}
use Rattle.wire.specs.Fields.{number_type, eight_type, four_type, bytes_type, readable, numbered, fixed, measured, value_at, KeyRule, keyed, field_at, misfit, known, store_keys}
use Rattle.wire.specs.Walk.{Walked, stopped, before, onward, walk_in}
use Rattle.store_file.specs.Messages.{Scan, Reading, reading, blob_field, inside}
use Rattle.store_file.specs.Saved.{Saved, Call, scans_of, contents, part_of, buffer_size, saved_into}
use Rattle.store_file.specs.Loaded.{every, different, reason, store_open, Loaded, loaded}
use Rattle.store_guarantees.specs.Codes.{file_codes, save_codes}

-- the codes of a walk over a message: no fault, or one of the five of the wire format
abbrev pub wire_codes : List ℕ
wire_codes = success ∷ other_type ∷ zero_field ∷ wrong_type ∷ bad_number ∷ past_end ∷ []

-- ---- what holds of both branches holds of the choice, and what holds of a whole list holds of each number of it
either : {A : Type 0} (P : A → Type 0) (b : Bool) (x y : A) → P x → P y → P (cond b x y)
either P true x y p q = p
either P false x y p q = q

one-of : (P : ℕ → Type 0) (c : ℕ) (l : List ℕ) → All P l → one_of c l ≡ true → P c
one-of P c [] a h = absurd (true≢false (sym h))
one-of P c (x ∷ xs) a h = go (or-true (eqb c x) (one_of c xs) h) (λ (e : one_of c xs ≡ true). one-of P c xs a.1 e)
  where
    go : Or (eqb c x ≡ true) (one_of c xs ≡ true) → (one_of c xs ≡ true → P c) → P c
    go (this e) ih = subst P (sym (eqb-true c x e)) a.0
    go (that e) ih = ih e

-- ---- the fault of a field and of a walk
abbrev InWire : ℕ → Type 0
InWire c = one_of c wire_codes ≡ true

-- the code that a field carries, 0 for a whole one
abbrev fault_of : Result Field Code → ℕ
fault_of (Err c) = c.0
fault_of (Ok f) = 0

abbrev FieldIn : Result Field Code → Type 0
FieldIn f = InWire (fault_of f)

fixed-code : (n k size start end : ℕ) → FieldIn (fixed n k size start end)
unfolding fixed
fixed-code n k size start end = either FieldIn (leb size (end - start)) _ _ refl refl

numbered-code : (n start : ℕ) (x : Option Number) → FieldIn (numbered n start x)
unfolding numbered
numbered-code n start None = refl
numbered-code n start (Some x) = refl

measured-code : (n end : ℕ) (x : Option Number) → FieldIn (measured n end x)
unfolding measured
measured-code n end None = refl
measured-code n end (Some x) = fixed-code n bytes_type x.value x.next end

value-code : (n k : ℕ) (s : List ℕ) (start end : ℕ) → FieldIn (value_at n k s start end)
unfolding value_at
value-code n k s start end =
    either FieldIn (eqb k number_type) _ _ (numbered-code n start (number_at s start end))
    (either FieldIn (eqb k eight_type) _ _ (fixed-code n k 8 start end)
    (either FieldIn (eqb k four_type) _ _ (fixed-code n k 4 start end) (measured-code n end (number_at s start end))))

known-code : (most n k : ℕ) → InWire (known most n k)
unfolding known
known-code most n k = either InWire (eqb n 0) _ _ refl (either InWire (misfit most n k) _ _ refl refl)

module _ (rule : KeyRule) (ruled : (n k : ℕ) → InWire (rule n k)) where
  keyed-code : (s : List ℕ) (end : ℕ) (x : Option Number) → FieldIn (keyed rule s end x)
  unfolding keyed
  keyed-code s end None = refl
  keyed-code s end (Some x) =
      let n : ℕ = x.value / 8 in
      let k : ℕ = x.value % 8 in
      either FieldIn (not (readable k)) _ _ refl
      (either FieldIn (eqb (rule n k) 0) _ _ (value-code n k s x.next end) (ruled n k))

  field-code : (s : List ℕ) (at end : ℕ) → FieldIn (field_at rule s at end)
  unfolding field_at
  field-code s at end = keyed-code s end (number_at s at end)

  module _ (look : Field → ℕ) (looked : (i : Field) → InWire (look i)) where
    onward-code : (f : Result Field Code) (rest : ℕ → Walked) → FieldIn f → ((next : ℕ) → InWire (rest next).fault) → InWire (onward look f rest).fault
    unfolding onward
    onward-code (Err c) rest h g = h
    onward-code (Ok f) rest h g = either (λ (w : Walked). InWire w.fault) (eqb (look f) 0) (before f (rest f.next)) (stopped (look f)) (g f.next) (looked f)

    walk_code : (m : ℕ) (s : List ℕ) (at end : ℕ) → InWire (walk_in rule look m s at end).fault
    unfolding walk_in
    walk_code zero s at end = refl
    walk_code (suc m) s at end =
        either (λ (w : Walked). InWire w.fault) (ltb at end) _ (stopped 0)
        (onward-code (field_at rule s at end) (λ (next : ℕ). walk_in rule look m s next end) (field-code s at end) (λ (next : ℕ). walk_code m s next end)) refl

-- ---- a file
inside-code : (f : List ℕ) (i : Field) → InWire (inside f i)
inside-code f i =
    either InWire (eqb i.number blob_field) _ _ (walk_code store_keys (known-code 2) (λ (j : Field). 0) (λ (j : Field). refl) (i.next - i.start) f i.start i.next) refl

-- THE FAULT THAT READING FINDS, in any bytes, is none or one of the five of the wire format
pub reading-code : (f : List ℕ) → one_of (reading f).fault wire_codes ≡ true
unfolding reading
reading-code f = walk_code store_keys (known-code 2) (inside f) (inside-code f) (length f - 0) f 0 (length f)

abbrev InFile : ℕ → Type 0
InFile c = one_of c file_codes ≡ true

wire-file : (c : ℕ) → InWire c → InFile c
wire-file c h = one-of InFile c wire_codes (refl, (refl, (refl, (refl, (refl, (refl, tt)))))) h

reason-code : (r : Reading) → InFile r.fault → InFile (reason r)
unfolding reason
reason-code r h =
    either InFile (not (eqb r.fault 0)) _ _ h
    (either InFile (not (same r.base base)) _ _ refl
    (either InFile (not (every (λ (x : Scan). store_name x.name) r.scans)) _ _ refl
    (either InFile (not (different r.scans)) _ _ refl
    (either InFile (not (every (λ (x : Scan). leb (length x.bytes) slot_size) r.scans)) _ _ refl
    (either InFile (ltb slot_count (length r.scans)) _ _ refl refl)))))

-- THE CODE OF LOADING, of any bytes into any state, is one of thirteen (rule 21.18)
pub loaded-code : (f : List ℕ) (s : State) → one_of (loaded f s).code file_codes ≡ true
unfolding loaded
loaded-code f s =
    let P : Loaded → Type 0 = λ (r : Loaded). InFile r.code in
    either P (not (is_sound s)) _ _ refl
    (either P (store_open s) _ _ refl (either P (eqb (reason (reading f)) success) _ _ refl (reason-code (reading f) (wire-file (reading f).fault (reading-code f)))))

-- THE CODE OF SAVING, any part of any state into any buffer, is one of three
pub saved-code : (p : ℕ) (s : State) (b : List ℕ) → one_of (saved_into p s b).code save_codes ≡ true
unfolding saved_into part_of
saved-code p s b =
    either (λ (c : Call). one_of c.code save_codes ≡ true) (not (eqb (length b) buffer_size)) _ _ refl
    (either (λ (v : Saved). one_of v.code save_codes ≡ true) (not (is_sound s)) _ _ refl
    (either (λ (v : Saved). one_of v.code save_codes ≡ true) (ltb p (length (contents (scans_of s)))) _ _ refl refl))
