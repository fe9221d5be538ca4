-- When a state is sound (section 6): a test, clause by clause in the order of the rules.
use Rattle.std.specs.Prelude.{Bool, true, false, not, cond, ◌&&◌, ◌||◌, ℕ, ◌*◌, eqb, ltb, leb, length}
use Rattle.laws.specs.All.{all, pairs}
use Rattle.laws.specs.Bytes.{same, zeros}
use Rattle.protocol.specs.Numbers.{row_count, slot_count, row_words, name_size, slot_size, image_size, hash_size, sixteen_bits, word_limit, succeeded, untried, cleanup_blob}
use Rattle.protocol.specs.declared.FlashKind.{FlashKind}
use Rattle.protocol.specs.declared.FlashKind.TheVariants.{Image, Hash, Verify, Update, Cleanup}
use Rattle.protocol.specs.Names.{store_field, kind_of}
use Rattle.state.specs.declared.Phase.{Phase}
use Rattle.state.specs.declared.Phase.TheVariants.{Idle, Uploading, Verified}
use Rattle.state.specs.State.{State, Row, Slot, FlashBody, in_row, in_body}
use Rattle.state.specs.Words.{id_of, blob_of, word_of, flags_in, status_in, clean_in, writes, writes_with, store_flags, flash_flags, ident, blob, in_use}
use Rattle.state.specs.declared.row.Place.TheVariants.{AtSlot}

-- the slot k of the state
abbrev pub slot_at : ℕ → State → Slot
slot_at k s = (in_body (AtSlot k)).get s

-- the phases (rule 5.3)
abbrev pub is_idle : Phase → Bool
is_idle Idle = true
is_idle Uploading = false
is_idle Verified = false

abbrev pub is_uploading : Phase → Bool
is_uploading Idle = false
is_uploading Uploading = true
is_uploading Verified = false

abbrev pub is_verified : Phase → Bool
is_verified Idle = false
is_verified Uploading = false
is_verified Verified = true

-- every lent buffer has its size (rule 6.1)
unfoldable pub lent_right : State → Bool
lent_right s =
    ((eqb (length s.sessions.table) (row_count * row_words) && eqb (length s.store.names) (slot_count * name_size))
    && (eqb (length s.store.committed) (slot_count * slot_size) && eqb (length s.store.staged) (slot_count * slot_size)))
    && ((eqb (length s.store.committed_lens) slot_count && eqb (length s.store.staged_lens) slot_count)
    && (eqb (length s.flash_group.image) image_size && eqb (length s.flash_group.hash) hash_size))

-- masks and next identifier have 16 bits (rule 6.2)
unfoldable pub values_fit : State → Bool
values_fit s =
    (ltb s.sessions.rows sixteen_bits && ltb s.store.slots sixteen_bits) && (ltb s.store.marks sixteen_bits && ltb s.next sixteen_bits)

-- image and hash length: within their capacity, and 0 in Idle (rule 6.3)
unfoldable pub flash_fits : FlashBody → Bool
flash_fits b = (leb b.image_len image_size && leb b.hash_len hash_size) && (not (is_idle b.phase) || (eqb b.image_len 0 && eqb b.hash_len 0))

-- ---- a row on a store blob, with third word w; b is the slot (rule 6.6)
-- a read-only row is clean
unfoldable pub reader_clean : ℕ → Bool
reader_clean w = writes_with (flags_in w) || eqb (clean_in w) 1

-- a clean row's slot is committed
unfoldable pub clean_committed : ℕ → Slot → Bool
clean_committed w b = eqb (clean_in w) 0 || eqb b.mark 1

-- the slot is used, no job is on it, the flags are allowed, and the two above (rule 6.6)
unfoldable pub store_row : ℕ → Slot → Bool
store_row w b = (eqb b.held 1 && eqb (status_in w) untried) && (store_flags (flags_in w) && (reader_clean w && clean_committed w b))

-- ---- a row on a flash blob
-- which status it may have in which phase (rule 6.8)
unfoldable pub job_fits : FlashKind → (status : ℕ) → Phase → Bool
job_fits Image st p = eqb st untried && is_uploading p
job_fits Hash st p = eqb st untried && is_uploading p
job_fits Verify st p = not (is_idle p) && (eqb st untried || is_uploading p)
job_fits Update st p = is_verified p
job_fits Cleanup st p = eqb st untried || (eqb st succeeded && is_idle p)

-- its blob and its third word (rules 6.5 and 6.7)
unfoldable pub flash_row : (blob word : ℕ) → Phase → Bool
flash_row b w p = (leb b cleanup_blob && eqb (clean_in w) 0) && (flash_flags (flags_in w) && job_fits (kind_of b) (status_in w) p)

-- ---- rows
-- a used row: identifier of 16 bits, no bit above clean, and what its blob asks (rule 6.5)
unfoldable pub used_row : Row → State → Bool
used_row r s =
    (ltb (id_of r) sixteen_bits && ltb (word_of r) word_limit)
    && cond (ltb (blob_of r) slot_count) (store_row (word_of r) (slot_at (blob_of r) s)) (flash_row (blob_of r) (word_of r) s.flash_group.phase)

-- an unused row is zero (rule 6.4)
unfoldable pub row_ok : State → ℕ → Bool
row_ok s r = cond (in_use r s) (used_row ((in_row r).get s) s) (zeros ((in_row r).get s).words)

-- two rows have one identifier, or one blob, or are both flash rows (rule 6.9)
unfoldable pub rows_clash : State → (i j : ℕ) → Bool
rows_clash s i j = eqb (ident i s) (ident j s) || (eqb (blob i s) (blob j s) || (leb slot_count (blob i s) && leb slot_count (blob j s)))

-- no two used rows do (rule 6.9)
unfoldable pub rows_apart : State → (i j : ℕ) → Bool
rows_apart s i j = not (in_use i s && (in_use j s && rows_clash s i j))

-- ---- slots
-- row r writes slot k
unfoldable pub writes_slot : State → (k r : ℕ) → Bool
writes_slot s k r = in_use r s && (eqb (blob r s) k && writes ((in_row r).get s))

-- some row writes slot k (rule 6.12)
unfoldable pub has_writer : State → ℕ → Bool
has_writer s k = not (all (λ (r : ℕ). not (writes_slot s k r)) row_count)

-- a used slot, which some row writes or none: its name and lengths (rule 6.11), and what it may hold without a commit or without a writer (rule 6.12)
unfoldable pub used_slot : Slot → (written : Bool) → Bool
used_slot b w =
    (store_field b.name && (leb b.committed_len slot_size && leb b.staged_len slot_size))
    && ((eqb b.mark 1 || (eqb b.committed_len 0 && w)) && (eqb b.staged_len 0 || w))

-- an unused slot is zero in all its parts (rule 6.10)
unfoldable pub unused_slot : Slot → Bool
unused_slot b = (eqb b.mark 0 && (eqb b.committed_len 0 && eqb b.staged_len 0)) && (zeros b.name && (zeros b.committed_bytes && zeros b.staged_bytes))

-- slot k, used or not
unfoldable pub slot_ok : State → ℕ → Bool
slot_ok s k = cond (eqb (slot_at k s).held 1) (used_slot (slot_at k s) (has_writer s k)) (unused_slot (slot_at k s))

-- no two used slots have one name (rule 6.13)
unfoldable pub names_apart : State → (k l : ℕ) → Bool
names_apart s k l = not (eqb (slot_at k s).held 1 && (eqb (slot_at l s).held 1 && same (slot_at k s).name (slot_at l s).name))

-- THE TEST: all of it, and nothing else (rule 6.14)
unfoldable pub is_sound : State → Bool
is_sound s =
    (lent_right s && (values_fit s && flash_fits s.flash_group))
    && ((all (row_ok s) row_count && pairs (rows_apart s) row_count)
    && (all (slot_ok s) slot_count && pairs (names_apart s) slot_count))
