-- Delete and Stat: the other commands that have a name (sections 14 and 15).
use Rattle.std.specs.Prelude.{List, ℕ}
use Rattle.laws.specs.Ranges.{part}
use Rattle.protocol.specs.Numbers.{not_found, busy, not_supported, state_committed}
use Rattle.protocol.specs.Names.{flash_number}
use Rattle.protocol.specs.Frame.{Reply, refused, done, reply, stat_fields}
use Rattle.protocol.specs.declared.FlashKind.{FlashKind}
use Rattle.protocol.specs.declared.Blob.{Blob}
use Rattle.protocol.specs.declared.Blob.TheVariants.{Store, Flash, Base, Unknown}
use Rattle.state.specs.declared.row.Wanted.TheVariants.{OnBlob}
use Rattle.state.specs.State.{State, in_body}
use Rattle.state.specs.Words.{free_slot}
use Rattle.state.specs.Soundness.{slot_at}
use Rattle.state.specs.declared.row.Place.TheVariants.{AtSlot}
use Rattle.rules.specs.Flash.{flash_length}
use Rattle.rules.specs.Session.{stat_row, row_found}
use Rattle.rules.specs.Checks.{holds_or, none_or, some_or, whether}
use Rattle.rules.specs.Lookup.{slot_named}
use Rattle.rules.specs.Opening.{flash_listed}

-- ---- Delete
-- a store name n: it must be held (CB) and have no session (C0); a name that is not held has none, so the order of the two does not show (rule 14.1). All of the slot goes (rule 14.2)
unfoldable pub delete_store : List ℕ → State → Reply × State
delete_store n s =
    some_or (slot_named n s) (refused not_found, s) (λ (k : ℕ).
    none_or (row_found (OnBlob k) s) (refused busy, s)
    (done, (in_body (AtSlot k)).put free_slot s))

-- DELETE by what the name names: a flash name or the base (D5), unknown (CB) (rule 14.1)
unfoldable pub delete_blob : Blob → List ℕ → State → Reply × State
delete_blob (Store at len) m s = delete_store (part at len m) s
delete_blob (Flash k) m s = (refused not_supported, s)
delete_blob Base m s = (refused not_supported, s)
delete_blob Unknown m s = (refused not_found, s)

-- ---- Stat
-- a store name n: it must be held (CB) (rule 15.1); with a session what SessionStat says (rule 15.6), without one committed, with that length (rule 15.7)
unfoldable pub stat_name : List ℕ → State → Reply
stat_name n s =
    some_or (slot_named n s) (refused not_found) (λ (k : ℕ).
    whether (row_found (OnBlob k) s) (λ (r : ℕ). reply (stat_row r s)) (reply (stat_fields state_committed (slot_at k s).committed_len)))

-- a flash name: it must be listed (CB) (rule 15.1); without a session it has no state bits (rule 15.8)
unfoldable pub stat_kind : FlashKind → State → Reply
stat_kind k s =
    holds_or (flash_listed k s.flash_group.phase) (refused not_found)
    (whether (row_found (OnBlob (flash_number k)) s) (λ (r : ℕ). reply (stat_row r s)) (reply (stat_fields 0 (flash_length k s.flash_group))))

-- STAT by what the name names: the base has zeros (rule 15.9), unknown (CB) (rule 15.1)
unfoldable pub stat_blob : Blob → List ℕ → State → Reply
stat_blob (Store at len) m s = stat_name (part at len m) s
stat_blob (Flash k) m s = stat_kind k s
stat_blob Base m s = reply (stat_fields 0 0)
stat_blob Unknown m s = refused not_found
