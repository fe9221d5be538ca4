-- The same by sessions: what holds of each open session and its part, and of each part that no session has.
use Rattle.std.specs.Prelude.{◌≡◌, ◌≢◌, true, [], ◌∷◌, ℕ, ◌+◌, ◌%◌, ◌≤◌, ◌<◌}
use Rattle.protocol.specs.Numbers.{row_count, slot_count, slot_size, image_size, hash_size, sixteen_bits, word_limit, clean_unit, write_only, cleanup_blob}
use Rattle.protocol.specs.declared.FlashKind.{FlashKind}
use Rattle.protocol.specs.declared.FlashKind.TheVariants.{Image, Hash, Verify, Update, Cleanup}
use Rattle.protocol.specs.Names.{store_field, kind_of}
use Rattle.state.specs.declared.Phase.{Phase}
use Rattle.state.specs.declared.Phase.TheVariants.{Idle, Uploading, Verified}
use Rattle.state.specs.declared.row.Place.{Place}
use Rattle.state.specs.declared.row.Place.TheVariants.{AtSlot, AtFlash}
use Rattle.state.specs.State.{State, Row, Slot, FlashBody, Body, place_of, in_row, in_body}
use Rattle.state.specs.Parts.{Separate, InRange, Shape}
use Rattle.state.specs.Words.{id_of, blob_of, word_of, flags_in, status_in, clean_in, writing_in, store_flags, free_slot, ident, blob, Live}
use Rattle.state.specs.Soundness.{slot_at}

-- of the words id, bl, w of a row that is open on slot k, and of the slot b
pub record StoreFacts (k id bl w : ℕ) (b : Slot) : Type 0 where
  pub id-small : id < sixteen_bits
  pub on-slot : bl ≡ k
  pub flags : store_flags (flags_in w) ≡ true
  pub no-status : status_in w ≡ 0
  pub rest-zero : w < word_limit
  pub is_held : b.held ≡ 1
  pub mark-bit : b.mark < 2
  pub committed-fits : b.committed_len ≤ slot_size
  pub staged-fits : b.staged_len ≤ slot_size
  pub clean-marked : clean_in w ≤ b.mark
  pub reader-clean : 1 ≤ clean_in w + writing_in w
  pub unmarked : b.mark ≡ 0 → b.committed_len ≡ 0
  pub unstaged : writing_in w ≡ 0 → b.staged_len ≡ 0
  pub name-good : store_field b.name ≡ true

abbrev pub StoreSession : ℕ → Row → Slot → Type 0
StoreSession k r b = StoreFacts k (id_of r) (blob_of r) (word_of r) b

-- of a slot without session
pub record StoreIdle (b : Slot) : Type 0 where
  pub held-marked : b.held ≡ b.mark
  pub idle-committed : b.committed_len ≤ slot_size
  pub idle-staged : b.staged_len ≡ 0
  pub held-name : b.held ≡ 1 → store_field b.name ≡ true
  pub free-zero : b.held ≡ 0 → b ≡ free_slot

-- of a flash session's status and the phase
abbrev pub PhaseOk : FlashKind → ℕ → Phase → Type 0
PhaseOk Image st p = (st ≡ 0) × (p ≡ Uploading)
PhaseOk Hash st p = (st ≡ 0) × (p ≡ Uploading)
PhaseOk Verify st p = (p ≢ Idle) × (st ≢ 0 → p ≡ Uploading)
PhaseOk Update st p = p ≡ Verified
PhaseOk Cleanup st p = (st % 2 ≡ 0) × (st ≡ 2 → p ≡ Idle)

-- of the flash, with a session or without
pub record FlashIdle (b : FlashBody) : Type 0 where
  pub image-fits : b.image_len ≤ image_size
  pub hash-fits : b.hash_len ≤ hash_size
  pub idle-image : b.phase ≡ Idle → b.image_len ≡ 0
  pub idle-hash : b.phase ≡ Idle → b.hash_len ≡ 0

pub record FlashFacts (id bl w : ℕ) (b : FlashBody) : Type 0 where
  pub id-small : id < sixteen_bits
  pub is-flash : slot_count ≤ bl
  pub a-kind : bl ≤ cleanup_blob
  pub flags : flags_in w ≡ write_only
  pub rest-zero : w < clean_unit
  pub phased : PhaseOk (kind_of bl) (status_in w) b.phase
  pub lengths : FlashIdle b

abbrev pub FlashSession : Row → FlashBody → Type 0
FlashSession r b = FlashFacts (id_of r) (blob_of r) (word_of r) b

abbrev pub Session : (p : Place) → Row → Body p → Type 0
Session (AtSlot k) r b = StoreSession k r b
Session AtFlash r b = FlashSession r b

abbrev pub Unheld : (p : Place) → Body p → Type 0
Unheld (AtSlot k) b = StoreIdle b
Unheld AtFlash b = FlashIdle b

pub record Sound (s : State) : Type 0 where
  pub shape : Shape s
  pub session : (r : ℕ) → Live r s → Session (place_of (blob r s)) ((in_row r).get s) ((in_body (place_of (blob r s))).get s)
  pub unused : (r : ℕ) → r < row_count → ((in_row r).get s).used ≡ 0 → ((in_row r).get s).words ≡ 0 ∷ 0 ∷ 0 ∷ 0 ∷ []
  pub ids : (r q : ℕ) → Live r s → Live q s → r ≢ q → ident r s ≢ ident q s
  pub spots : (r q : ℕ) → Live r s → Live q s → r ≢ q → Separate (place_of (blob r s)) (place_of (blob q s))
  pub loose : (p : Place) → InRange p → ((r : ℕ) → Live r s → Separate (place_of (blob r s)) p) → Unheld p ((in_body p).get s)
  pub names-differ : (k l : ℕ) → k < slot_count → l < slot_count → k ≢ l → (slot_at k s).held ≡ 1 → (slot_at l s).held ≡ 1 → (slot_at k s).name ≢ (slot_at l s).name
