-- Runs of stored bytes: a number, a head, a field, a blob; and the places of set bits. Assumes nothing.
use mathlib.Core.Path.{◌≡◌, refl, sym, ◌∙◌, ap}
use mathlib.Core.Bool.{cond}
use mathlib.Core.List.{List, [], ◌∷◌, ◌++◌, append-nil}
use Prim.Native.Nat.{ℕ, zero, suc, ◌+◌, ◌*◌, ◌-◌, ◌/◌, ◌%◌, ◌≤◌, ◌<◌}
use native.Mathlib.Nat.{zero-add, add-zero, add-suc}
use native.Mathlib.Numerals.{add-one}
use native.Mathlib.Omega.{arith}
use native.Mathlib.Decide.{dec_lt}
use lib.Count.{ones_in}
use lib.Dec.{eqb}
use lib.ListN.{length, get_or, set, length-append, get_or-append}
use lib.Seq.{sets, get_or-append_seam}
use Rattle.laws.specs.Bits.{bit, bit-lt}
use Rattle.laws.specs.Masks.{ones-more, ones-mono}
use Rattle.protocol.specs.Numbers.{slot_count}
use Rattle.lookup.specs.Search.{Nth}
use Rattle.lookup.specs.Laws.{ones-start}
use Rattle.laws.specs.Ranges.{sets-append}
use Rattle.wire.specs.Base128.{shortest}
use Rattle.wire.proofs.NumberLaws.{short-last, short-more}
use Rattle.wire.specs.Written.{head_of, written, written_all}
use Rattle.wire.proofs.WalkLaws.{written-length}
use Rattle.store_file.specs.Messages.{Scan, blob_field, name_field, data_field}
use Rattle.store_file.specs.Saved.{places_below, blob_contents, blob_content}

-- ---- a number of one or two bytes
short-one : (v : ℕ) → v < 128 → shortest v ≡ v ∷ []
short-one v h = short-last 9 v h

short-two : (v : ℕ) → 128 ≤ v → v < 16384 → shortest v ≡ (128 + v % 128) ∷ v / 128 ∷ []
short-two v h l = short-more 9 v h ∙ ap (λ (y : List ℕ). (128 + v % 128) ∷ y) (short-last 8 (v / 128) (omega arith))

pub size-one : (v : ℕ) → v < 128 → length (shortest v) ≡ 1
size-one v h = ap length (short-one v h)

pub size-two : (v : ℕ) → 128 ≤ v → v < 16384 → length (shortest v) ≡ 2
size-two v h l = ap length (short-two v h l)

pub size-most : (v : ℕ) → v < 16384 → length (shortest v) ≤ 2
size-most v l = go (dec_lt v 128)
  where
    go : Dec (v < 128) → length (shortest v) ≤ 2
    go (yes h) = let e = size-one v h in omega arith
    go (no h) = let e = size-two v (omega arith) l in omega arith

-- ---- bytes put at a place: the place behind them, and what the buffer holds then
abbrev pub Put : List ℕ → ℕ → List ℕ → ℕ → List ℕ → Type 0
Put d at w next y = (next ≡ at + length w) × (y ≡ sets d at w)

-- one run behind another
put_both : {y y₂ : List ℕ} {next next₂ : ℕ} (d w w₂ : List ℕ) (at : ℕ) → Put d at w next y → Put y next w₂ next₂ y₂ → Put d at (w ++ w₂) next₂ y₂
put_both {next = next} d w w₂ at (q, e) (q₂, e₂) = (
  omega (arith, length-append w w₂),
  e₂ ∙ ap (λ (x : List ℕ). sets x next w₂) e ∙ ap (λ (i : ℕ). sets (sets d at w) i w₂) q ∙ sym (sets-append w w₂ d at),
)

pub number-one : (d : List ℕ) (at v : ℕ) → v < 128 → Put d at (shortest v) (at + 1) (set d at v)
number-one d at v h = rw (short-one v h) (refl, refl)

pub number-two : (d : List ℕ) (at v : ℕ) → 128 ≤ v → v < 16384 → Put d at (shortest v) (at + 2) (set (set d at (128 + v % 128)) (at + 1) (v / 128))
number-two d at v h l = rw (short-two v h l) (refl, rw add-one)

-- ---- a head
head-is : (n size : ℕ) → n < 15 → head_of n size ≡ (n * 8 + 2) ∷ shortest size
unfolding head_of
head-is n size h = ap (λ (y : List ℕ). y ++ shortest size) (short-one (n * 8 + 2) (omega arith))

pub head-length : (n size : ℕ) → n < 15 → length (head_of n size) ≡ 1 + length (shortest size)
head-length n size h = ap length (head-is n size h) ∙ omega arith

pub head-put : {y : List ℕ} {next : ℕ} (d : List ℕ) (at n size : ℕ) → n < 15
    → Put (set d at (n * 8 + 2)) (at + 1) (shortest size) next y → Put d at (head_of n size) next y
head-put d at n size h (q, e) = (omega (arith, head-length n size h), e ∙ rw (add-one, head-is n size h))

-- ---- a field
pub field_put : {y y₂ : List ℕ} {next next₂ : ℕ} (d b : List ℕ) (at n : ℕ)
    → Put d at (head_of n (length b)) next y → Put y next b next₂ y₂ → Put d at (written (n, b)) next₂ y₂
unfolding written
field_put d b at n p p₂ = put_both d (head_of n (length b)) b at p p₂

pub field-length : (n : ℕ) (b : List ℕ) → n < 15 → length (written (n, b)) ≡ 1 + length (shortest (length b)) + length b
field-length n b h = omega (arith, written-length (n, b), head-length n (length b) h)

-- ---- a blob: the field of its name, and the field of its data
module _ (x : Scan) where
  abbrev name_written : List ℕ
  name_written = written (name_field, x.name)

  abbrev data_written : List ℕ
  data_written = written (data_field, x.bytes)

  inner-is : written_all (blob_contents x) ≡ name_written ++ data_written
  unfolding written_all blob_contents
  inner-is = ap (λ (y : List ℕ). name_written ++ y) (append-nil data_written)

  blob-is : (inner : ℕ) → inner ≡ length (written_all (blob_contents x)) → written (blob_content x) ≡ head_of blob_field inner ++ (name_written ++ data_written)
  unfolding written
  blob-is inner i = rw i (ap (λ (y : List ℕ). head_of blob_field (length (written_all (blob_contents x))) ++ y) inner-is)

  pub blob-size : length (written_all (blob_contents x))
      ≡ (1 + length (shortest (length x.name)) + length x.name) + (1 + length (shortest (length x.bytes)) + length x.bytes)
  blob-size =
      ap length inner-is ∙ length-append name_written data_written
      ∙ omega (arith, field-length name_field x.name (omega arith), field-length data_field x.bytes (omega arith))

  -- its head and its two fields, at the front of a buffer
  pub blob-put : {d₁ d₂ d₃ : List ℕ} {inner at next r : ℕ} (d : List ℕ) → inner ≡ length (written_all (blob_contents x))
      → Put d 0 (head_of blob_field inner) at d₁ → Put d₁ at name_written next d₂ → Put d₂ next data_written r d₃
      → (r ≡ length (written (blob_content x))) × (d₃ ≡ sets d 0 (written (blob_content x)))
  blob-put {d₁ = d₁} {inner = inner} {at = at} d i head name bytes =
      let p = put_both d (head_of blob_field inner) (name_written ++ data_written) 0 head (put_both d₁ name_written data_written at name bytes) in
      rw (blob-is inner i) (p.0 ∙ zero-add _, p.1)

-- ---- the places of the set bits
one_place : (b k : ℕ) → b < 2 → length (cond (eqb b 1) (k ∷ []) []) ≡ b
one_place zero k h = refl
one_place (suc zero) k h = refl
one_place (suc (suc b)) k h = absurd (omega arith)

pub places_count : (m k : ℕ) → length (places_below m k) ≡ ones_in k m
unfolding places_below
places_count m zero = sym (ones-start m)
places_count m (suc k) =
    length-append (places_below m k) (cond (eqb (bit k m) 1) (k ∷ []) [])
    ∙ omega (arith, places_count m k, one_place (bit k m) k (bit-lt k m), ones-more k m)

places-prefix : (m i k j : ℕ) → i < ones_in k m → get_or (places_below m (k + j)) i slot_count ≡ get_or (places_below m k) i slot_count
unfolding places_below
places-prefix m i k zero l = rw add-zero
places-prefix m i k (suc j) l =
    let n : i < length (places_below m (k + j)) = omega (arith, places_count m (k + j), ones-mono k j m) in
    rw add-suc
    (get_or-append (places_below m (k + j)) (cond (eqb (bit (k + j) m) 1) ((k + j) ∷ []) []) slot_count i n ∙ places-prefix m i k j l)

places-last : (m i k : ℕ) → bit k m ≡ 1 → ones_in k m ≡ i → get_or (places_below m (suc k)) i slot_count ≡ k
unfolding places_below
places-last m i k e q =
    let n : i ≡ length (places_below m k) = sym q ∙ sym (places_count m k) in
    rw (e, n) (get_or-append_seam (places_below m k) k [] slot_count)

-- number i of them is the set bit with i set bits below it
pub place_at : (m i k : ℕ) → Nth m i k → get_or (places_below m slot_count) i slot_count ≡ k
place_at m i k p =
    let n : slot_count ≡ suc k + (slot_count - suc k) = omega (arith, p.low) in
    let l : i < ones_in (suc k) m = omega (arith, ones-more k m, p.is_set, p.below) in
    ap (λ (j : ℕ). get_or (places_below m j) i slot_count) n ∙ places-prefix m i (suc k) (slot_count - suc k) l ∙ places-last m i k p.is_set p.below
