-- A slot's scan in the lent memory, and each way through a part. Assumes nothing.
use mathlib.Core.Path.{◌≡◌, refl, sym, ◌∙◌, ap}
use mathlib.Core.Bool.{Bool, true, false, cond, ◌&&◌, ◌||◌}
use mathlib.Core.List.{List, [], ◌∷◌, ◌++◌, map}
use Prim.Native.Nat.{ℕ, zero, suc, ◌+◌, ◌*◌, ◌-◌, ◌≤◌, ◌<◌}
use native.Mathlib.Omega.{arith}
use lib.Count.{ones}
use lib.Dec.{eqb, leb}
use borrow.Author.Tests.{lt-ltb, le-ltb, eqb-true, eq-eqb, ne_eqb, leb-true}
use lib.ListN.{length, get_or, take, drop, length-map, length-take}
use lib.Seq.{sets, sets-eq}
use Rattle.laws.specs.All.{all-at, and-true}
use Rattle.laws.specs.Masks.{ones-in}
use Rattle.laws.specs.Bytes.{first_zero, zeros}
use Rattle.laws.specs.Fronts.{block-lent, front-lent, text-lent}
use Rattle.laws.specs.Ranges.{block}
use Rattle.protocol.specs.Numbers.{success, out_of_range, not_sound, sixteen_bits, slot_count, name_size, slot_size}
use Rattle.protocol.proofs.Sizes.{name-size, slot-size}
use Rattle.protocol.specs.Names.{base, store_field}
use Rattle.protocol.specs.Frame.{laid}
use Rattle.state.specs.State.{State, Slot}
use Rattle.state.specs.Soundness.{slot_at, slot_ok, used_slot, unused_slot, has_writer, is_sound}
use Rattle.state.specs.Agree.{parts, sound-of-test}
use Rattle.lookup.specs.Search.{Nth}
use Rattle.wire.specs.Written.{Content, written, written_all}
use Rattle.store_file.specs.Messages.{Scan, base_field, blob_field}
use Rattle.store_file.specs.Saved.{committed_slots, scan_of, scans_of, blob_contents, blob_content, contents, Saved, part_of, Call, laid_out, saved_into, buffer_size}
use Rattle.store_file.specs.Sizes.{buffer-size}
use Rattle.store_writer.specs.Parts.{scan_in, Lent}
use Rattle.store_writer.proofs.Laws.{size-most, blob-size, field-length, places_count, place_at}

-- ---- the lent parts
pub scan-lent : (names committed : List ℕ) (k len z : ℕ) → len ≤ slot_size → z ≡ first_zero (take (k * 32 + 32 - k * 32) (drop (k * 32) names)) → z ≤ 32
    → ◌≡◌ {A = Scan} (record { name = take (k * 32 + z - k * 32) (drop (k * 32) names); bytes = take (k * 4096 + len - k * 4096) (drop (k * 4096) committed) })
    (scan_in names committed k len)
scan-lent names committed k len z h e l =
    let p = text-lent name_size 32 name-size k names z (e ∙ ap first_zero (block-lent name_size 32 name-size k names)) (omega (arith, name-size)) in
    let q = front-lent slot_size 4096 slot-size k committed len h in
    λ i. record { name = p i; bytes = q i }

-- ---- a part is short
pub zero-short : (k z : ℕ) (l : List ℕ) → z ≤ length (take (k * 32 + 32 - k * 32) l) → z ≤ 32
zero-short k z l h = omega (arith, length-take (k * 32 + 32 - k * 32) l)

scan-fits : (x : Scan) → length x.name ≤ name_size → length x.bytes ≤ slot_size → length (written (blob_content x)) ≤ buffer_size
scan-fits x n d =
    let name = size-most (length x.name) (omega (arith, name-size)) in
    let bytes = size-most (length x.bytes) (omega (arith, slot-size)) in
    let inner : List ℕ = written_all (blob_contents x) in
    let size = blob-size x in
    omega (arith, buffer-size, name-size, slot-size, field-length blob_field inner (omega arith), size-most (length inner) (omega (arith, name-size, slot-size)))

pub blob-fits : (names committed : List ℕ) (k len : ℕ) → len ≤ slot_size → length (written (blob_content (scan_in names committed k len))) ≤ buffer_size
blob-fits names committed k len h =
    let region : List ℕ = (block name_size k).get names in
    scan-fits (scan_in names committed k len) (omega (arith, length-take (first_zero region) region, length-take name_size (drop (k * name_size) names)))
    (omega (arith, length-take len ((block slot_size k).get committed)))

pub base-fits : length (written (base_field, base)) ≤ buffer_size
unfolding base
base-fits = omega (arith, buffer-size, field-length base_field base (omega arith), size-most (length base) (omega arith))

-- stored at the front, the rest kept
laid-sets : (w b : List ℕ) → length w ≤ length b → sets b 0 w ≡ laid w b
laid-sets w b h = let e : 0 + length w ≡ length w = omega arith in sets-eq w b 0 (omega arith) ∙ ap (λ (i : ℕ). w ++ drop i b) e

-- ---- which part
get-map : {A B : Type 0} (f : A → B) (l : List A) (n : ℕ) (d : A) (e : B) → n < length l → get_or (map f l) n e ≡ f (get_or l n d)
get-map f [] n d e h = absurd (omega arith)
get-map f (x ∷ l) zero d e h = refl
get-map f (x ∷ l) (suc n) d e h = get-map f l n d e (omega arith)

module _ (p : ℕ) (s : State) where
  count-is : length (contents (scans_of s)) ≡ suc (length (committed_slots s))
  unfolding contents scans_of
  count-is = ap suc (length-map (scans_of s) blob_content ∙ length-map (committed_slots s) (λ (k : ℕ). scan_of (slot_at k s)))

  pub part-base : p ≡ 0 → part_of p s ≡ record { code = success; bytes = written (base_field, base) }
  unfolding part_of contents
  part-base e = rw (e, lt-ltb 0 (length (contents (scans_of s))) (omega (arith, count-is)))

  module _ (n : p ≡ 0 → ⊥) (small : s.store.marks < sixteen_bits) where
    slots-count : length (committed_slots s) ≡ ones s.store.marks
    slots-count = places_count s.store.marks slot_count ∙ ones-in slot_count s.store.marks small

    pub part-past : ones s.store.marks ≤ p - 1 → part_of p s ≡ record { code = out_of_range; bytes = [] }
    unfolding part_of
    part-past h = rw (le-ltb p (length (contents (scans_of s))) (omega (arith, count-is, slots-count)))

    content-at : (k : ℕ) → p - 1 < length (committed_slots s) → Nth s.store.marks (p - 1) k
        → get_or (contents (scans_of s)) p (0, []) ≡ blob_content (scan_of (slot_at k s))
    unfolding contents scans_of
    content-at k q h =
        let g : ℕ → Scan = λ (j : ℕ). scan_of (slot_at j s) in
        let i : p ≡ suc (p - 1) = omega arith in
        let m : p - 1 < length (map g (committed_slots s)) = rw (length-map (committed_slots s) g) q in
        ap (λ (j : ℕ). get_or (contents (scans_of s)) j (0, [])) i
        ∙ get-map blob_content (map g (committed_slots s)) (p - 1) (g slot_count) (0, []) m
        ∙ ap blob_content (get-map g (committed_slots s) (p - 1) slot_count (g slot_count) q)
        ∙ ap (λ (j : ℕ). blob_content (g j)) (place_at s.store.marks (p - 1) k h)

    pub part-slot : (k : ℕ) → p - 1 < ones s.store.marks → Nth s.store.marks (p - 1) k
        → part_of p s ≡ record { code = success; bytes = written (blob_content (scan_of (slot_at k s))) }
    unfolding part_of
    part-slot k l h =
        rw (lt-ltb p (length (contents (scans_of s))) (omega (arith, count-is, slots-count)))
        (ap (λ (f : Content). record { code = success; bytes = written f }) (content-at k (omega (arith, slots-count)) h))

-- ---- what soundness gives
used-len : (b : Slot) (w : Bool) → used_slot b w ≡ true → b.committed_len ≤ slot_size
unfolding used_slot
used-len b w q =
    let lens : Bool = leb b.committed_len slot_size && leb b.staged_len slot_size in
    let x = and-true (store_field b.name && lens) ((eqb b.mark 1 || (eqb b.committed_len 0 && w)) && (eqb b.staged_len 0 || w)) q in
    let y = and-true (store_field b.name) lens x.0 in
    leb-true b.committed_len slot_size (and-true (leb b.committed_len slot_size) (leb b.staged_len slot_size) y.1).0

unused-len : (b : Slot) → unused_slot b ≡ true → b.committed_len ≡ 0
unfolding unused_slot
unused-len b q =
    let lens : Bool = eqb b.committed_len 0 && eqb b.staged_len 0 in
    let x = and-true (eqb b.mark 0 && lens) (zeros b.name && (zeros b.committed_bytes && zeros b.staged_bytes)) q in
    let y = and-true (eqb b.mark 0) lens x.0 in
    eqb-true b.committed_len 0 (and-true (eqb b.committed_len 0) (eqb b.staged_len 0) y.1).0

lens-fit : (s : State) → is_sound s ≡ true → (k : ℕ) → k < slot_count → (slot_at k s).committed_len ≤ slot_size
unfolding slot_ok
lens-fit s h k l = go (eqb (slot_at k s).held 1) (all-at (slot_ok s) slot_count (parts s h).slots-ok k l)
  where
    go : (b : Bool) → cond b (used_slot (slot_at k s) (has_writer s k)) (unused_slot (slot_at k s)) ≡ true → (slot_at k s).committed_len ≤ slot_size
    go true q = used-len (slot_at k s) (has_writer s k) q
    go false q = omega (arith, unused-len (slot_at k s) q)

pub lent-sound : (s : State) (b : List ℕ) → is_sound s ≡ true → length b ≡ buffer_size
    → Lent s.store.marks s.store.names s.store.committed s.store.committed_lens b
lent-sound s b h e =
    let g = (sound-of-test s h).shape in
    record {
      marks-small = g.marks-small;
      names-size = g.names-size;
      committed-size = g.committed-size;
      lens-fit = lens-fit s h;
      buffer-size = e;
    }

-- ---- each way through a call
module _ (p : ℕ) (s : State) (b : List ℕ) where
  pub call-size : (length b ≡ buffer_size → ⊥) → ◌≡◌ {A = Call} (record { code = not_sound; len = 0; buffer = b }) (saved_into p s b)
  unfolding saved_into
  call-size n = rw (ne_eqb (length b) buffer_size n)

  pub call-unsound : length b ≡ buffer_size → is_sound s ≡ false → ◌≡◌ {A = Call} (record { code = not_sound; len = 0; buffer = b }) (saved_into p s b)
  unfolding saved_into
  call-unsound e h = rw (eq-eqb (length b) buffer_size e, h)

  pub call-part : length b ≡ buffer_size → is_sound s ≡ true → laid_out (part_of p s) b ≡ saved_into p s b
  unfolding saved_into
  call-part e h = rw (eq-eqb (length b) buffer_size e, h)

-- a part as it stands in the buffer
pub call-laid : (w b x : List ℕ) (r : ℕ) (v : Saved) → v ≡ record { code = success; bytes = w } → r ≡ length w → x ≡ sets b 0 w → length w ≤ length b
    → ◌≡◌ {A = Call} (record { code = success; len = r; buffer = x }) (laid_out v b)
call-laid w b x r v e q p h =
    let y : x ≡ laid w b = p ∙ laid-sets w b h in
    (λ i. record { code = success; len = q i; buffer = y i }) ∙ sym (ap (λ (u : Saved). laid_out u b) e)
