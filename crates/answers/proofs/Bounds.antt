-- How many bytes a Write carries and a Read is answered with. Assumes nothing.
use Rattle.std.specs.Prelude.{◌≡◌, refl, Bool, true, false, cond, ◌&&◌, List, ℕ, suc, ◌+◌, ◌≤◌, min, leb, length, drop}
use Rattle.std.proofs.Common.{sym, ap, subst, arith, leb-true, length-take, length-drop, length-append}
use Rattle.std.proofs.Math.Option.{Option, none, some}
use Rattle.laws.specs.All.{and-true}
use Rattle.laws.specs.Bytes.{little, bytes_of}
use Rattle.crc.specs.Crc.{crc}
use Rattle.protocol.specs.Numbers.{header_size, crc_size, message_size, read_most, read_command, open_command, delete_command, stat_command, write_command, write_meta_command, wrong_length}
use Rattle.protocol.specs.Decode.{decoded, asked, number_of, subcommand, fields_at, refused_with}
use Rattle.protocol.specs.Cases.{Each, each-command, named-case, decoded-case}
use Rattle.protocol.specs.Frame.{Reply, refused, done, reply, framed}
use Rattle.protocol.specs.declared.Blob.{Blob}
use Rattle.protocol.specs.declared.Request.{Request}
use Rattle.protocol.specs.declared.Request.TheVariants.{Count, Enumerate, Open, Read, Write, Commit, Close, Delete, Stat, SessionStat, WriteMeta, Refused}
use Rattle.state.specs.declared.row.Place.{Place}
use Rattle.state.specs.declared.row.Place.TheVariants.{AtSlot, AtFlash}
use Rattle.state.specs.declared.row.Wanted.TheVariants.{Id}
use Rattle.state.specs.State.{State, Row, Body, place_of, in_row, in_body}
use Rattle.state.specs.Words.{blob}
use Rattle.state.specs.Soundness.{is_sound}
use Rattle.rules.specs.Command.{read}
use Rattle.rules.specs.Store.{read_store, on_store}
use Rattle.rules.specs.Flash.{on_flash}
use Rattle.rules.specs.Session.{on_part, on_found, on_session, row_found}
use Rattle.rules.specs.Respond.{Effect, effect_of, unsound, answered, respond}
use Rattle.rules.proofs.Messages.{write_most}
use Rattle.guarantees.proofs.Fits.{bytes-long}
use Rattle.answers.specs.Bounds.{Few}

-- ---- Write
-- a message that asks something is no longer than a message may be
message-short : (m : List ℕ) → number_of (decoded m) ≤ write_meta_command → length m ≤ message_size
unfolding decoded
message-short m = go (leb header_size (length m) && leb (length m) message_size) refl _
  where
    go : (y : Bool) → leb header_size (length m) && leb (length m) message_size ≡ y → (q : Request) → number_of (cond y q (refused_with wrong_length)) ≤ write_meta_command → length m ≤ message_size
    go true e q h = leb-true (length m) message_size (and-true (leb header_size (length m)) (leb (length m) message_size) e).1
    go false e q h = absurd (omega arith)

-- a Write's bytes, in a message that is not too long
abbrev Carries : List ℕ → Request → Type 0
Carries m Count = Unit {0}
Carries m (Enumerate index) = Unit {0}
Carries m (Open flags b) = Unit {0}
Carries m (Read session offset n) = Unit {0}
Carries m (Write session offset start) = length m ≤ message_size → length (drop start m) ≤ write_most
Carries m (Commit session len rest) = Unit {0}
Carries m (Close session) = Unit {0}
Carries m (Delete b) = Unit {0}
Carries m (Stat b) = Unit {0}
Carries m (SessionStat session) = Unit {0}
Carries m (WriteMeta session) = Unit {0}
Carries m (Refused code) = Unit {0}

asked-carries : (m : List ℕ) → Each (λ (sub : ℕ). Carries m (asked sub m)) (suc write_meta_command)
unfolding asked
asked-carries m = (((((((((((tt, tt), tt), opens), tt), writes), tt), tt), deletes), stats), tt), tt)
  where
    opens : Carries m (asked open_command m)
    opens = named-case (Carries m) (fields_at + 2) m (λ (b : Blob). Open (little 2 fields_at m) b) tt (λ _. tt)

    writes : length m ≤ message_size → length (drop (fields_at + 6) m) ≤ write_most
    writes h = rw length-drop (omega arith)

    deletes : Carries m (asked delete_command m)
    deletes = named-case (Carries m) fields_at m (λ (b : Blob). Delete b) tt (λ _. tt)

    stats : Carries m (asked stat_command m)
    stats = named-case (Carries m) fields_at m (λ (b : Blob). Stat b) tt (λ _. tt)

-- A WRITE CARRIES AT MOST 52 BYTES, accepted or not (rule 3.2)
pub write-carries : (m : List ℕ) (session offset start : ℕ) → decoded m ≡ Write session offset start → length (drop start m) ≤ write_most
write-carries m session offset start e =
    subst (Carries m) e
    (decoded-case (Carries m) m tt tt tt (λ _ (c : subcommand m ≤ write_meta_command) _. each-command (λ (sub : ℕ). Carries m (asked sub m)) (subcommand m) (asked-carries m) c))
    (message-short m (let z : number_of (decoded m) ≡ write_command = ap number_of e in omega arith))

part-few : (p : Place) (t offset n : ℕ) (r : Row) (b : Body p) → Few n (on_part p t (read offset n) r b).0
unfolding on_store on_flash read_store
part-few (AtSlot k) t offset n r b = rw length-take (omega arith)
part-few AtFlash t offset n r b = tt

session-few : (session t offset n : ℕ) (s : State) → Few n (on_session (Id session) t (read offset n) s).0
unfolding on_session
session-few session t offset n s = go (row_found (Id session) s)
  where
    go : (o : Option ℕ) → Few n (on_found o (Id session) t (read offset n) s).0
    go none = tt
    go (some r) = part-few (place_of (blob r s)) t offset n ((in_row r).get s) ((in_body (place_of (blob r s))).get s)

frame-few : (n : ℕ) (x : Reply) → Few n x → length (framed read_command x).1 ≤ fields_at + min n read_most
unfolding framed
frame-few n (refused c) h = omega arith
frame-few n done h = omega arith
frame-few n (reply f) h = rw (length-append (bytes_of crc_size (crc f)) f, bytes-long) (omega arith)

-- A READ IS ANSWERED WITH AT MOST 58 BYTES BEHIND HEADER AND CRC, AND NO MORE THAN IT ASKED FOR, whatever the state (rules 3.2 and 10.3)
pub read-answers : (t : ℕ) (m : List ℕ) (s : State) (session offset count : ℕ) → decoded m ≡ Read session offset count → length (respond t m s).response ≤ fields_at + min count read_most
unfolding respond answered
read-answers t m s session offset count e = go (is_sound s)
  where
    full : Request → Effect
    full q = effect_of (framed (number_of q) (answered q t m s).0) (answered q t m s).1

    go : (y : Bool) → length (cond y (full (decoded m)) (unsound s)).response ≤ fields_at + min count read_most
    go true = subst (λ (q : Request). length (full q).response ≤ fields_at + min count read_most) (sym e) (frame-few count (on_session (Id session) t
        (read offset count) s).0 (session-few session t offset count s))
    go false = omega arith
