-- The file that a state's committed store makes, part by part.
use Rattle.std.specs.Prelude.{cond, not, List, [], ◌∷◌, ◌++◌, map, ℕ, zero, suc, eqb, ltb, length, get_or, take}
use Rattle.laws.specs.Bits.{bit}
use Rattle.laws.specs.Bytes.{text}
use Rattle.protocol.specs.Numbers.{success, not_sound, out_of_range, slot_count}
use Rattle.protocol.specs.Names.{base}
use Rattle.protocol.specs.Frame.{laid}
use Rattle.state.specs.State.{State, Slot}
use Rattle.state.specs.Soundness.{slot_at, is_sound}
use Rattle.wire.specs.Written.{Content, written, written_all}
use Rattle.store_file.specs.Messages.{Scan, base_field, blob_field, name_field, data_field}

-- the places below n whose bit is set, ascending (rule 23.2)
unfoldable pub places_below : ℕ → ℕ → List ℕ
places_below m zero = []
places_below m (suc n) = places_below m n ++ cond (eqb (bit n m) 1) (n ∷ []) []

-- the committed slots, ascending (rule 23.2)
abbrev pub committed_slots : State → List ℕ
committed_slots s = places_below s.store.marks slot_count

-- a slot's name up to its NUL, and its committed bytes up to their length (rule 23.2)
abbrev pub scan_of : Slot → Scan
scan_of b = record { name = text b.name; bytes = take b.committed_len b.committed_bytes }

-- THE COMMITTED STORE, as a list of names and scans (rule 23.2)
unfoldable pub scans_of : State → List Scan
scans_of s = map (λ (k : ℕ). scan_of (slot_at k s)) (committed_slots s)

-- a blob's fields: the name, then the data, also where it has no byte (rule 23.3)
unfoldable pub blob_contents : Scan → List Content
blob_contents x = (name_field, x.name) ∷ (data_field, x.bytes) ∷ []

-- the field of a blob (rule 23.3)
abbrev pub blob_content : Scan → Content
blob_content x = (blob_field, written_all (blob_contents x))

-- the store's fields: the base, then the blobs; no setting (rule 23.3)
unfoldable pub contents : List Scan → List Content
contents xs = (base_field, base) ∷ map blob_content xs

-- THE FILE (rule 23.3)
abbrev pub file : State → List ℕ
file s = written_all (contents (scans_of s))

-- a completion code, and the bytes of a part (rule 23.4)
pub record Saved : Type 0 where
  pub code : ℕ
  pub bytes : List ℕ

-- part p of a state that is sound: the store's field number p (rule 23.4)
unfoldable pub part_of : ℕ → State → Saved
part_of p s =
    cond (ltb p (length (contents (scans_of s)))) (record { code = success; bytes = written (get_or (contents (scans_of s)) p (0, [])) })
    (record { code = out_of_range; bytes = [] })

-- PART p (rule 23.4)
abbrev pub saved : ℕ → State → Saved
saved p s = cond (not (is_sound s)) (record { code = not_sound; bytes = [] }) (part_of p s)

-- the bytes of the lent buffer (rule 23.5)
unfoldable pub buffer_size : ℕ
buffer_size = 4200

-- what a call leaves: the code, the length of the part, the buffer (rule 23.5)
pub record Call : Type 0 where
  pub code : ℕ
  pub len : ℕ
  pub buffer : List ℕ

-- a part at the front of the buffer, the bytes behind it as they were; a refusal lays none (rule 23.5)
abbrev pub laid_out : Saved → List ℕ → Call
laid_out v b = record { code = v.code; len = length v.bytes; buffer = laid v.bytes b }

-- THE WRITER: part p of a state, in a lent buffer (rule 23.5)
unfoldable pub saved_into : ℕ → State → List ℕ → Call
saved_into p s b = cond (not (eqb (length b) buffer_size)) (record { code = not_sound; len = 0; buffer = b }) (laid_out (saved p s) b)
