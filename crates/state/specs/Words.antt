-- The words of a row (rule 5.4), what an unused row, an unused slot and an empty flash are, and the fresh state.
use Rattle.std.specs.Prelude.{Bool, true, ◌||◌, [], ◌∷◌, ℕ, ◌+◌, ◌*◌, ◌/◌, ◌%◌, max, ◌<◌, ◌≡◌, refl, eqb, get_or, set, replicate}
use Rattle.std.proofs.Common.{arith, eqb-true}
use Rattle.laws.specs.All.{Or, this, that, or-true}
use Rattle.protocol.specs.Numbers.{row_count, slot_count, row_words, word_limit, status_unit, clean_unit, read_only, read_write, write_only, name_size, slot_size, image_size, hash_size}
use Rattle.state.specs.declared.Phase.TheVariants.{Idle}
use Rattle.state.specs.State.{State, Row, Slot, FlashBody, in_row}

-- a row's words: identifier, blob, flags with status and clean, stamp, any number of 32 bits (rules 5.4 and 5.10)
abbrev pub id_of : Row → ℕ
id_of r = get_or r.words 0 0

abbrev pub blob_of : Row → ℕ
blob_of r = get_or r.words 1 0

abbrev pub word_of : Row → ℕ
word_of r = get_or r.words 2 0

abbrev pub stamp_of : Row → ℕ
stamp_of r = get_or r.words 3 0

-- the parts of the third word: flags below bit 16, the job status in bits 16 and 17, clean in bit 18 (rule 5.5)
abbrev pub flags_in : ℕ → ℕ
flags_in w = w % status_unit

abbrev pub status_in : ℕ → ℕ
status_in w = w / status_unit % 4

abbrev pub clean_in : ℕ → ℕ
clean_in w = w / clean_unit % 2

-- WRITE is bit 1 of the flags (rule 5.7)
abbrev pub write_bit : (flags : ℕ) → ℕ
write_bit flags = flags / 2 % 2

-- a session with these flags writes (rule 5.7)
abbrev pub writes_with : (flags : ℕ) → Bool
writes_with flags = eqb (write_bit flags) 1

-- the flags that a store name allows (rules 5.7 and 9.3)
unfoldable pub store_flags : (flags : ℕ) → Bool
store_flags flags = eqb flags read_only || eqb flags read_write

-- the flags that a flash name allows (rules 5.7 and 9.3)
abbrev pub flash_flags : (flags : ℕ) → Bool
flash_flags flags = eqb flags write_only

-- WRITE among the flags of the third word w: 1 or 0 (rule 5.7)
abbrev pub writing_in : ℕ → ℕ
writing_in w = write_bit (flags_in w)

-- the third word of these parts (rule 5.5)
abbrev pub word_with : (flags status clean : ℕ) → ℕ
word_with flags status clean = flags + status * status_unit + clean * clean_unit

abbrev pub status_of : Row → ℕ
status_of r = status_in (word_of r)

abbrev pub clean_of : Row → ℕ
clean_of r = clean_in (word_of r)

-- the session writes (rule 5.7)
abbrev pub writes : Row → Bool
writes r = writes_with (flags_in (word_of r))

-- the stamp raised to the clock, unless the clock is behind it (rule 18.1)
abbrev pub stamped : ℕ → Row → Row
stamped t r = record { words = set r.words 3 (max (stamp_of r) t); used = r.used }

-- another job status, another clean mark
abbrev pub with_status : ℕ → Row → Row
with_status v r = record { words = set r.words 2 (word_with (flags_in (word_of r)) v (clean_of r)); used = r.used }

abbrev pub with_clean : ℕ → Row → Row
with_clean v r = record { words = set r.words 2 (word_with (flags_in (word_of r)) (status_of r) v); used = r.used }

-- an unused row (rules 6.4 and 13.2) and an unused slot (rules 6.10 and 13.5)
abbrev pub free_row : Row
free_row = record { words = 0 ∷ 0 ∷ 0 ∷ 0 ∷ []; used = 0 }

abbrev pub free_slot : Slot
free_slot = record { name = replicate name_size 0; committed_bytes = replicate slot_size 0; staged_bytes = replicate slot_size 0; held = 0; mark = 0; committed_len = 0; staged_len = 0 }

-- nothing uploaded: image and hash zero, phase Idle (rules 12.6 and 13.7)
abbrev pub empty_flash : FlashBody
empty_flash = record { phase = Idle; image = replicate image_size 0; hash = replicate hash_size 0; image_len = 0; hash_len = 0 }

-- the identifier and the blob of row r, and whether it is used
abbrev pub ident : ℕ → State → ℕ
ident r s = id_of ((in_row r).get s)

abbrev pub blob : ℕ → State → ℕ
blob r s = blob_of ((in_row r).get s)

abbrev pub in_use : ℕ → State → Bool
in_use r s = eqb ((in_row r).get s).used 1

-- row r is a session's
abbrev pub Live : ℕ → State → Type 0
Live r s = (r < row_count) × (((in_row r).get s).used ≡ 1)

-- the fresh state (rule 5.11)
unfoldable pub fresh : State
fresh = record {
  sessions = record { table = replicate (row_count * row_words) 0; rows = 0 };
  store = record {
    names = replicate (slot_count * name_size) 0;
    committed = replicate (slot_count * slot_size) 0;
    staged = replicate (slot_count * slot_size) 0;
    slots = 0;
    marks = 0;
    committed_lens
        = replicate slot_count 0;
    staged_lens = replicate slot_count 0;
  };
  flash_group = empty_flash;
  next = 0;
  last_sweep = 0;
}

-- ---- the third word, taken apart again
module _ (f st c : ℕ) (hf : f < status_unit) (hs : st < 4) (hc : c < 2) where
  pub flags-with : flags_in (word_with f st c) ≡ f
  flags-with = omega arith

  pub status-with : status_in (word_with f st c) ≡ st
  status-with = omega arith

  pub clean-with : clean_in (word_with f st c) ≡ c
  clean-with = omega arith

  pub word-with : word_with f st c < word_limit
  word-with = omega arith

-- ---- allowed flags
-- a store name allows both,
pub store-reads : store_flags read_only ≡ true
unfolding store_flags
store-reads = refl

pub store_writes : store_flags read_write ≡ true
unfolding store_flags
store_writes = refl

-- and no other
pub store-flags : (flags : ℕ) → store_flags flags ≡ true → Or (flags ≡ read_only) (flags ≡ read_write)
unfolding store_flags
store-flags flags h = at (or-true _ _ h)
  where
    at : Or (eqb flags read_only ≡ true) (eqb flags read_write ≡ true) → Or (flags ≡ read_only) (flags ≡ read_write)
    at (this e) = this (eqb-true flags read_only e)
    at (that e) = that (eqb-true flags read_write e)
