-- What each command does on a store session: on its row r and its slot b, at the clock t.
use Rattle.std.specs.Prelude.{Bool, true, false, cond, List, [], ◌∷◌, ℕ, ◌-◌, min, eqb, length, replicate}
use Rattle.laws.specs.Ranges.{part}
use Rattle.protocol.specs.Numbers.{slot_size, read_most, invalid, not_supported}
use Rattle.protocol.specs.Frame.{done, reply, stat_fields}
use Rattle.state.specs.State.{Row, Slot}
use Rattle.state.specs.Words.{word_of, writes, stamped, with_clean, free_row, free_slot}
use Rattle.rules.specs.Command.{Command, read, write, commit, stat, close, write_meta, end_job, Out, refuse, placed, bytes_after, length_after, commit_fits, state_bits}

-- ---- Read
-- what a session sees: one that writes the staged region and length, another the committed ones (rule 10.2)
abbrev pub seen_bytes : (writing : Bool) → Slot → List ℕ
seen_bytes writing b = cond writing b.staged_bytes b.committed_bytes

abbrev pub seen_length : (writing : Bool) → Slot → ℕ
seen_length writing b = cond writing b.staged_len b.committed_len

-- how many bytes are sent; from the end on none (rule 10.3)
abbrev pub read_count : (requested offset len : ℕ) → ℕ
read_count requested offset len = min requested (min read_most (len - offset))

-- the bytes sent, and the stamp raised (rule 10.4); also where there are none, it is a success with fields (rule 1.7)
unfoldable pub read_store : (writing : Bool) (t offset n : ℕ) → Row → Slot → Out Slot
read_store writing t offset n r b = (reply (part offset (read_count n offset (seen_length writing b)) (seen_bytes writing b)), (stamped t r, b))

-- ---- Write
-- the slot with other staged bytes and length
abbrev pub with_staged : List ℕ → (len : ℕ) → Slot → Slot
with_staged l n b = record { name = b.name; committed_bytes = b.committed_bytes; staged_bytes = l; held = b.held; mark = b.mark; committed_len = b.committed_len; staged_len = n }

-- the bytes stored: no bytes keep clean, one or more clear it (rule 11.5)
unfoldable pub stored : (t offset : ℕ) → List ℕ → Row → Slot → Out Slot
stored t offset [] r b = (done, (stamped t r, b))
stored t offset (w ∷ ws) r b =
    (done, (stamped t (with_clean 0 r), with_staged (bytes_after offset (w ∷ ws) b.staged_bytes) (length_after offset (w ∷ ws) b.staged_len) b))

-- only a session that writes may (D5), into its staged region (rules 11.1 and 11.2)
unfoldable pub write_store : (writing : Bool) (t offset : ℕ) → List ℕ → Row → Slot → Out Slot
write_store true t offset ws r b = placed slot_size b.staged_len offset (length ws) r b (stored t offset ws r b)
write_store false t offset ws r b = refuse not_supported r b

-- ---- Commit
-- staged region and length are committed too, and the slot is marked (rule 12.3)
abbrev pub committed_slot : Slot → Slot
committed_slot b = record { name = b.name; committed_bytes = b.staged_bytes; staged_bytes = b.staged_bytes; held = b.held; mark = 1; committed_len = b.staged_len; staged_len = b.staged_len }

-- only a session that writes may (D5); it is clean then (rule 12.3)
unfoldable pub commit_writing : (writing : Bool) (t : ℕ) → Row → Slot → Out Slot
commit_writing true t r b = (done, (stamped t (with_clean 1 r), committed_slot b))
commit_writing false t r b = refuse not_supported r b

-- the length byte comes first (CC) (rule 12.1)
unfoldable pub commit_store : (fits : Bool) (t : ℕ) → Row → Slot → Out Slot
commit_store true t r b = commit_writing (writes r) t r b
commit_store false t r b = refuse invalid r b

-- ---- Close
-- the slot that was written: nothing staged (rule 13.4), and all of it free if it was never committed (rule 13.5)
unfoldable pub closed_writing : (committed : Bool) → Slot → Slot
closed_writing true b = with_staged (replicate slot_size 0) 0 b
closed_writing false b = free_slot

-- a read-only session leaves its slot as it is (rule 13.3)
unfoldable pub closed_slot : (writing : Bool) → Slot → Slot
closed_slot true b = closed_writing (eqb b.mark 1) b
closed_slot false b = b

-- ---- SessionStat: the size is the length that the session sees (rule 15.5)
abbrev pub stat_store : Row → Slot → List ℕ
stat_store r b = stat_fields (state_bits (word_of r)) (seen_length (writes r) b)

-- ---- EACH COMMAND on a store session; WriteMeta is not supported (rule 16.1), and no job ends here
unfoldable pub on_store : (t : ℕ) → Command → Row → Slot → Out Slot
on_store t (read offset n) r b = read_store (writes r) t offset n r b
on_store t (write offset ws) r b = write_store (writes r) t offset ws r b
on_store t (commit len rest) r b = commit_store (commit_fits len rest) t r b
on_store t stat r b = (reply (stat_store r b), (stamped t r, b))
on_store t close r b = (done, (free_row, closed_slot (writes r) b))
on_store t write_meta r b = refuse not_supported r b
on_store t (end_job good) r b = refuse not_supported r b
