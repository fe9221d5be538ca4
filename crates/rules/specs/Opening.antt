-- What an Open does once its checks have passed: the row, and the slot or the flash.
use Rattle.std.specs.Prelude.{Bool, true, not, cond, List, [], ◌∷◌, ℕ, replicate}
use Rattle.laws.specs.Bytes.{bytes_of, padded}
use Rattle.protocol.specs.Numbers.{name_size, slot_size, image_size, hash_size, untried}
use Rattle.protocol.specs.Frame.{Reply, reply}
use Rattle.protocol.specs.declared.FlashKind.{FlashKind}
use Rattle.protocol.specs.declared.FlashKind.TheVariants.{Image, Hash, Verify, Update, Cleanup}
use Rattle.state.specs.declared.Phase.{Phase}
use Rattle.state.specs.declared.Phase.TheVariants.{Uploading}
use Rattle.state.specs.State.{State, Row, Slot, FlashBody, Body, cell}
use Rattle.state.specs.declared.row.Place.{Place}
use Rattle.state.specs.Words.{word_with, writes_with}
use Rattle.state.specs.Soundness.{is_idle, is_verified}
use Rattle.rules.specs.Store.{with_staged}
use Rattle.rules.specs.Flash.{with_image, with_hash, with_phase}
use Rattle.rules.specs.Lookup.{after, fresh_id}

-- ---- the session
-- its row, of a job that was not tried (rule 9.9)
abbrev pub new_row : (id blob flags clean stamp : ℕ) → Row
new_row id b flags clean t = record { words = id ∷ b ∷ word_with flags untried clean ∷ t ∷ []; used = 1 }

abbrev pub with_next : (next : ℕ) → State → State
with_next n s = record { sessions = s.sessions; store = s.store; flash_group = s.flash_group; next = n; last_sweep = s.last_sweep }

-- row r becomes a session on the place p with this body; its identifier is answered, and the next identifier moves on (rules 9.8 and 9.9)
unfoldable pub opened : (p : Place) (r blob flags clean t : ℕ) → Body p → State → Reply × State
opened p r b flags clean t body s = (reply (bytes_of 2 (fresh_id s)), with_next (after (fresh_id s)) ((cell r p).put (new_row (fresh_id s) b flags clean t, body) s))

-- ---- the slot
-- of a new name: its name, and nothing else (rule 9.12)
abbrev pub new_slot : List ℕ → Slot
new_slot n = record { name = padded name_size n; committed_bytes = replicate slot_size 0; staged_bytes = replicate slot_size 0; held = 1; mark = 0; committed_len = 0; staged_len = 0 }

-- of a held name: a session that writes has the committed bytes staged (rule 9.11), one that reads changes nothing (rule 9.10)
abbrev pub held_slot : (flags : ℕ) → Slot → Slot
held_slot flags b = cond (writes_with flags) (with_staged b.committed_bytes b.committed_len b) b

-- ---- the flash
-- which flash names there are in which phase (rules 8.2 and 9.4)
unfoldable pub flash_listed : FlashKind → Phase → Bool
flash_listed Image p = true
flash_listed Hash p = true
flash_listed Verify p = not (is_idle p)
flash_listed Update p = is_verified p
flash_listed Cleanup p = true

-- image and hash begin empty, and the phase is Uploading; the others change nothing (rule 9.13)
unfoldable pub opened_flash : FlashKind → FlashBody → FlashBody
opened_flash Image b = with_phase Uploading (with_image (replicate image_size 0) 0 b)
opened_flash Hash b = with_phase Uploading (with_hash (replicate hash_size 0) 0 b)
opened_flash Verify b = b
opened_flash Update b = b
opened_flash Cleanup b = b
