-- Which code a command on a session gets, in words of the state.
use Rattle.std.proofs.Math.Path.{◌≡◌}
use Rattle.std.specs.Prelude.{Bool, ◌&&◌, ◌||◌, ℕ, ◌+◌, eqb, leb, ltb, drop}
use Rattle.std.proofs.Math.Bool.{cond}
use mathlib.Core.List.{List}
use Rattle.std.proofs.Math.ListN.{length}
use Rattle.protocol.specs.Numbers.{success, invalid, out_of_range, too_long, busy, not_supported}
use Rattle.protocol.specs.Numbers.{slot_count, slot_size, image_size, hash_size, image_blob, hash_blob, running}
use Rattle.protocol.specs.Decode.{decoded}
use Rattle.protocol.specs.declared.Request.TheVariants.{Read, Write, Commit, Close, SessionStat, WriteMeta}
use Rattle.state.specs.State.{State, in_row}
use Rattle.state.specs.Words.{status_of, writes, ident, blob}
use Rattle.state.specs.Soundness.{slot_at}
use Rattle.rules.specs.Respond.{respond}

-- ---- the table
-- the session of row i is on a slot; it is on image or hash
abbrev pub on_slot : ℕ → State → Bool
on_slot i s = ltb (blob i s) slot_count

abbrev pub on_upload : ℕ → State → Bool
on_upload i s = eqb (blob i s) image_blob || eqb (blob i s) hash_blob

-- n bytes at an offset into a region: past its length, past its capacity (rule 11.1)
abbrev pub place_code : (capacity len offset n : ℕ) → ℕ
place_code capacity len offset n = cond (leb offset len) (cond (leb (offset + n) capacity) success too_long) out_of_range

-- Write: a store session that writes, the image, the hash, each with its region; the others do not take it (rules 11.1 and 11.2)
abbrev pub write_code : (i offset n : ℕ) → State → ℕ
write_code i offset n s =
    cond (on_slot i s) (cond (writes ((in_row i).get s)) (place_code slot_size (slot_at (blob i s) s).staged_len offset n) not_supported)
    (cond (eqb (blob i s) image_blob) (place_code image_size s.flash_group.image_len offset n)
    (cond (eqb (blob i s) hash_blob) (place_code hash_size s.flash_group.hash_len offset n) not_supported))

-- Commit: a length byte of 0 and nothing behind it; a store session that writes, verify, update or cleanup (rule 12.1)
abbrev pub commit_code : (i len rest : ℕ) → State → ℕ
commit_code i len rest s =
    cond (eqb len 0 && eqb rest 0) (cond (on_slot i s) (cond (writes ((in_row i).get s)) success not_supported) (cond (on_upload i s) not_supported success)) invalid

-- by what is asked of the session of row i (rules 10.1, 11.1, 12.1, 13.1, 15.2 and 16.1)
pub record SessionCodes (t i : ℕ) (m : List ℕ) (s : State) : Type 0 where
  pub of-read : (offset n : ℕ) → decoded m ≡ Read (ident i s) offset n → (respond t m s).code ≡ cond (on_slot i s) success not_supported
  pub of-write : (offset start : ℕ) → decoded m ≡ Write (ident i s) offset start → (respond t m s).code ≡ write_code i offset (length (drop start m)) s
  pub of-commit : (len rest : ℕ) → decoded m ≡ Commit (ident i s) len rest → (respond t m s).code ≡ commit_code i len rest s
  pub of-close : decoded m ≡ Close (ident i s) → (respond t m s).code ≡ cond (eqb (status_of ((in_row i).get s)) running) busy success
  pub of-session-stat : decoded m ≡ SessionStat (ident i s) → (respond t m s).code ≡ success
  pub of-write-meta : decoded m ≡ WriteMeta (ident i s) → (respond t m s).code ≡ not_supported
