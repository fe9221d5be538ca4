-- Two messages of one session, one after the other, on bytes: a Read shows what the Write before it stored, and a session that answered SessionStat closes. Assumes nothing.
use Rattle.std.specs.Prelude.{◌≡◌, refl, ◌≢◌, Bool, true, List, [], ◌∷◌, ℕ, ◌+◌, ◌≤◌, ◌<◌, max, length, get_or}
use Rattle.std.proofs.Common.{sym, ◌∙◌, ap, subst, arith, ne_eqb, get_or-set_other}
use Rattle.protocol.proofs.Sizes.{slot-size}
use Rattle.protocol.specs.Numbers.{success, write_command, read_command, close_command, session_stat_command, slot_count, slot_size, sixteen_bits, running}
use Rattle.protocol.specs.Names.{kind_of}
use Rattle.protocol.specs.Decode.{decoded, number_of, fields_at}
use Rattle.protocol.specs.Frame.{Reply, done, reply, framed}
use Rattle.protocol.specs.declared.Request.{Request}
use Rattle.protocol.specs.declared.Request.TheVariants.{Read, Write, Close, SessionStat}
use Rattle.state.specs.declared.row.Place.{Place}
use Rattle.state.specs.declared.row.Place.TheVariants.{AtSlot, AtFlash}
use Rattle.state.specs.State.{State, Row, Slot, Body, place_of, in_row, in_body, cell}
use Rattle.state.specs.Parts.{FitsSlot, FitsRow, row-view-fits, body-view-fits}
use Rattle.state.proofs.Parts.{cell-get-put}
use Rattle.state.specs.Words.{id_of, blob_of, status_of, ident, blob, Live, stamped, stamp_of, status_in}
use Rattle.state.specs.Soundness.{slot_at, is_sound}
use Rattle.state.specs.Facts.{Session, Sound}
use Rattle.state.specs.Agree.{sound-of-test, test-of-sound, place-slot}
use Rattle.rules.specs.Store.{stored, on_store, seen_length}
use Rattle.rules.specs.Command.{Command, read, write, stat, close, Out}
use Rattle.rules.specs.Flash.{close_flash, on_flash}
use Rattle.state.specs.declared.row.Wanted.TheVariants.{Id}
use Rattle.rules.specs.Session.{on_part, on_place, on_row, on_session}
use Rattle.rules.specs.Respond.{Effect, effect_of, answered, respond}
use Rattle.rules.proofs.Laws.{respond-is}
use Rattle.rules.proofs.Effects.{write-accepted}
use Rattle.rules.specs.Searches.{session-row}
use Rattle.rules.proofs.Change.{Proper, row_new}
use Rattle.rules.proofs.Messages.{sent, ask_read, ask_write, ask_close, ask_session_stat, thirty_two_bits, write_most, read-decoded, write-decoded, close-decoded, stat-decoded}
use Rattle.rules.proofs.Examples.{Writes}
use Rattle.rules.proofs.Excluded.{read-after-write}
use Rattle.guarantees.proofs.Merging.{proper, proper-row, on-row-sound}

-- a message that asks the session of row i for the command c
pub asked_of : (t i : ℕ) (m : List ℕ) (q : Request) (c : Command) (s : State) → Sound s → Live i s → decoded m ≡ q → answered q t m s ≡ on_session (Id (ident i s)) t c s
    → respond t m s ≡ effect_of (framed (number_of q) (on_row i t c s).0) (on_row i t c s).1
asked_of t i m q c s g l d e =
    respond-is t m s (test-of-sound s g) ∙ ap (λ (x : Request). effect_of (framed (number_of x) (answered x t m s).0) (answered x t m s).1) d
    ∙ ap (λ (x : Reply × State). effect_of (framed (number_of q) x.0) x.1) (e ∙ session-row t i c s g l)

-- an identifier has two bytes
id-small : (p : Place) (r : Row) (b : Body p) → Session p r b → id_of r < sixteen_bits
id-small (AtSlot k) r b ses = ses.id-small
id-small AtFlash r b ses = ses.id-small

pub live-id : (i : ℕ) (s : State) → Sound s → Live i s → ident i s < sixteen_bits
live-id i s g l = id-small (place_of (blob i s)) ((in_row i).get s) ((in_body (place_of (blob i s))).get s) (g.session i l)

-- ---- Write, then Read
write-asked : (t i offset : ℕ) (ws : List ℕ) (s : State) → Sound s → Live i s → offset < thirty_two_bits → length ws ≤ write_most
    → respond t (ask_write (ident i s) offset ws) s ≡ effect_of (framed write_command (on_row i t (write offset ws) s).0) (on_row i t (write offset ws) s).1
unfolding answered
write-asked t i offset ws s g l ho hw =
    let d = write-decoded (ident i s) offset ws (live-id i s g l) ho hw in
    asked_of t i (ask_write (ident i s) offset ws) (Write (ident i s) offset (fields_at + 6)) (write offset ws) s g l d.0 (ap (λ (x : List ℕ). on_session (Id (ident i s)) t (write offset x) s) d.1)

read_asked : (t i offset n : ℕ) (s : State) → Sound s → Live i s → offset < thirty_two_bits → n < thirty_two_bits
    → respond t (ask_read (ident i s) offset n) s ≡ effect_of (framed read_command (on_row i t (read offset n) s).0) (on_row i t (read offset n) s).1
unfolding answered
read_asked t i offset n s g l ho hn = asked_of t i (ask_read (ident i s) offset n) (Read (ident i s) offset n) (read offset n) s g l (read-decoded (ident i s) offset n (live-id i s g l) ho hn) refl

-- the session goes on after a Write
stored_on : (ws : List ℕ) (t offset : ℕ) (r : Row) (b : Slot) → ((stored t offset ws r b).0 ≡ done) × ((stored t offset ws r b).1.0.used ≡ r.used)
unfolding stored
stored_on [] t offset r b = (refl, refl)
stored_on (w ∷ ws) t offset r b = (refl, refl)

-- what a Write and a Read of the same bytes are answered
pub record ReadBack (t u i offset : ℕ) (ws : List ℕ) (s : State) : Type 0 where
  pub write-code : (respond t (ask_write (ident i s) offset ws) s).code ≡ success
  pub read-code : (respond u (ask_read (ident i s) offset (length ws)) (respond t (ask_write (ident i s) offset ws) s).state).code ≡ success
  pub read-response : (respond u (ask_read (ident i s) offset (length ws)) (respond t (ask_write (ident i s) offset ws) s).state).response ≡ sent read_command ws

pub done-code : (sub : ℕ) (x : Reply) → x ≡ done → (framed sub x).0 ≡ success
unfolding framed
done-code sub x e = ap (λ (y : Reply). (framed sub y).0) e

pub reply-frame : (sub : ℕ) (x : Reply) (f : List ℕ) → x ≡ reply f → ((framed sub x).0 ≡ success) × ((framed sub x).1 ≡ sent sub f)
unfolding framed
reply-frame sub x f e = (ap (λ (y : Reply). (framed sub y).0) e, ap (λ (y : Reply). (framed sub y).1) e)

module _ (n t u i offset : ℕ) (ws : List ℕ) (s : State) (h : Writes n i s) (at : offset ≤ n) (fits : offset + length ws ≤ slot_size) (few : length ws ≤ write_most) where
  abbrev r : Row
  r = (in_row i).get s

  abbrev b : Slot
  b = slot_at (blob i s) s

  -- what the Write leaves of row and slot, and the state after it
  abbrev out : Out Slot
  out = on_store t (write offset ws) r b

  abbrev s' : State
  s' = (on_place (AtSlot (blob i s)) i t (write offset ws) s).1

  g : Sound s
  g = sound-of-test s h.session.is-sound

  l : Live i s
  l = h.session.is_live

  on-slot : place_of (blob i s) ≡ AtSlot (blob i s)
  on-slot = place-slot (blob i s) h.session.blob_in_store

  row_fits : FitsRow r
  row_fits = row-view-fits i s l.0 g.shape

  body-fits : (blob i s < slot_count) × FitsSlot b
  body-fits = body-view-fits (AtSlot (blob i s)) s h.session.blob_in_store g.shape

  taken : out ≡ stored t offset ws r b
  taken = write-accepted t offset ws r b h.writing (let e : seen_length true b ≡ n = sym (ap (λ (y : Bool). seen_length y b) h.writing) ∙ h.session.sees in omega arith) fits

  taken-done : out.0 ≡ done
  taken-done = ap (λ (o : Out Slot). o.0) taken ∙ (stored_on ws t offset r b).0

  goes_on : out.1.0.used ≡ 1
  goes_on = ap (λ (o : Out Slot). o.1.0.used) taken ∙ (stored_on ws t offset r b).1 ∙ l.1

  fine : Proper (AtSlot (blob i s)) r out.1.0 b out.1.1
  fine = proper (AtSlot (blob i s)) t (write offset ws) r b row_fits body-fits l.1 (subst (λ (p : Place). Session p ((in_row i).get s) ((in_body p).get s)) on-slot (g.session i l))

  part-now : (cell i (AtSlot (blob i s))).get s' ≡ out.1
  part-now = cell-get-put i (AtSlot (blob i s)) out.1 s l.0 g.shape fine.row_fits fine.body-fits

  row_now : (in_row i).get s' ≡ out.1.0
  row_now = ap (λ (c : Row × Slot). c.0) part-now

  id-now : ident i s' ≡ ident i s
  id-now = ap id_of row_now ∙ (fine.kept goes_on).0

  blob-now : blob i s' ≡ blob i s
  blob-now = ap blob_of row_now ∙ (fine.kept goes_on).1

  live_now : Live i s'
  live_now = (l.0, ap (λ (x : Row). x.used) row_now ∙ goes_on)

  place_is : on_row i t (write offset ws) s ≡ on_place (AtSlot (blob i s)) i t (write offset ws) s
  place_is = ap (λ (p : Place). on_place p i t (write offset ws) s) on-slot

  good-now : Sound s'
  good-now = subst (λ (o : Reply × State). Sound o.1) place_is (on-row-sound s g i l t (write offset ws))

  written : respond t (ask_write (ident i s) offset ws) s ≡ effect_of (framed write_command out.0) s'
  written = write-asked t i offset ws s g l small few ∙ ap (λ (x : Reply × State). effect_of (framed write_command x.0) x.1) place_is
    where
      small : offset < thirty_two_bits
      small = let z = slot-size in omega arith

  shown : (on_row i u (read offset (length ws)) s').0 ≡ reply ws
  shown =
      ap (λ (k : ℕ). (on_place (place_of k) i u (read offset (length ws)) s').0) blob-now ∙ ap (λ (p : Place). (on_place p i u (read offset (length ws)) s').0) on-slot
      ∙ ap (λ (c : Row × Slot). (on_store u (read offset (length ws)) c.0 c.1).0) part-now
      ∙ read-after-write t u offset r b row_fits.four body-fits.1.staged-long h.writing ws (omega arith) taken-done

  then-read : respond u (ask_read (ident i s) offset (length ws)) s' ≡ effect_of (framed read_command (on_row i u (read offset (length ws)) s').0) (on_row i u (read offset (length ws)) s').1
  then-read = subst (λ (id : ℕ). respond u (ask_read id offset (length ws)) s' ≡ effect_of (framed read_command (on_row i u (read offset (length ws))
      s').0) (on_row i u (read offset (length ws)) s').1) id-now
      (read_asked u i offset (length ws) s' good-now live_now (let z = slot-size in omega arith) (omega arith))

  -- A WRITE THAT FITS IS ACCEPTED, AND A READ OF THE SAME BYTES AFTER IT SHOWS THEM, on whole messages
  pub write-then-read : ReadBack t u i offset ws s
  write-then-read =
      let f = reply-frame read_command (on_row i u (read offset (length ws)) s').0 ws shown in
      let m = ask_read (ident i s) offset (length ws) in record {
        write-code = ap (λ (o : Effect). o.code) written ∙ done-code write_command out.0 taken-done;
        read-code = ap (λ (o : Effect). (respond u m o.state).code) written ∙ ap (λ (o : Effect). o.code) then-read ∙ f.0;
        read-response = ap (λ (o : Effect). (respond u m o.state).response) written ∙ ap (λ (o : Effect). o.response) then-read ∙ f.1;
      }

-- ---- SessionStat, then Close
stat-on : (p : Place) (t : ℕ) (r : Row) (b : Body p) → ((framed session_stat_command (on_part p t stat r b).0).0 ≡ success) × ((on_part p t stat r b).1.0 ≡ stamped t r)
unfolding on_store on_flash framed
stat-on (AtSlot k) t r b = (refl, refl)
stat-on AtFlash t r b = (refl, refl)

close-on : (p : Place) (t : ℕ) (r : Row) (b : Body p) → status_of r ≢ running → (framed close_command (on_part p t close r b).0).0 ≡ success
unfolding on_store on_flash close_flash framed
close-on (AtSlot k) t r b n = refl
close-on AtFlash t r b n = ap (λ (y : Bool). (framed close_command (close_flash y (kind_of (blob_of r)) r b).0).0) (ne_eqb (status_of r) running n)

stat-asked : (t i : ℕ) (s : State) → Sound s → Live i s → respond t (ask_session_stat (ident i s)) s ≡ effect_of (framed session_stat_command (on_row i t stat s).0) (on_row i t stat s).1
unfolding answered
stat-asked t i s g l = asked_of t i (ask_session_stat (ident i s)) (SessionStat (ident i s)) stat s g l (stat-decoded (ident i s) (live-id i s g l)) refl

close-asked : (t i : ℕ) (s : State) → Sound s → Live i s → respond t (ask_close (ident i s)) s ≡ effect_of (framed close_command (on_row i t close s).0) (on_row i t close s).1
unfolding answered
close-asked t i s g l = asked_of t i (ask_close (ident i s)) (Close (ident i s)) close s g l (close-decoded (ident i s) (live-id i s g l)) refl

-- A SESSION WITHOUT A RUNNING JOB ANSWERS SESSIONSTAT, AND CLOSE AFTER IT
pub stat-then-close : (t u i : ℕ) (s : State) → is_sound s ≡ true → Live i s → status_of ((in_row i).get s) ≢ running
    → ((respond t (ask_session_stat (ident i s)) s).code ≡ success) × ((respond u (ask_close (ident i s)) (respond t (ask_session_stat (ident i s)) s).state).code ≡ success)
stat-then-close t u i s h l n = (
  ap (λ (o : Effect). o.code) first-is ∙ (stat-on p t r ((in_body p).get s)).0,
  ap (λ (o : Effect). (respond u (ask_close (ident i s)) o.state).code) first-is
      ∙ subst (λ (id : ℕ). (respond u (ask_close id) s₁).code ≡ success) id-now
      (ap (λ (o : Effect). o.code) (close-asked u i s₁ (on-row-sound s g i l t stat) live_now) ∙ close-on (place_of (blob i s₁)) u ((in_row i).get s₁) ((in_body (place_of (blob i s₁))).get s₁) still),
)
  where
    g : Sound s
    g = sound-of-test s h

    r : Row
    r = (in_row i).get s

    p : Place
    p = place_of (blob i s)

    s₁ : State
    s₁ = (on_row i t stat s).1

    first-is : respond t (ask_session_stat (ident i s)) s ≡ effect_of (framed session_stat_command (on_row i t stat s).0) (on_row i t stat s).1
    first-is = stat-asked t i s g l

    fine : Proper (place_of (blob i s)) ((in_row i).get s) (on_part (place_of (blob i s)) t stat ((in_row i).get s) ((in_body (place_of (blob i s))).get s)).1.0 ((in_body (place_of (blob i s))).get s)
        (on_part (place_of (blob i s)) t stat ((in_row i).get s) ((in_body (place_of (blob i s))).get s)).1.1
    fine = proper-row s g i l t stat

    row_now : (in_row i).get s₁ ≡ stamped t ((in_row i).get s)
    row_now =
        row_new s g i l (on_part (place_of (blob i s)) t stat ((in_row i).get s) ((in_body (place_of (blob i s))).get s)).1.0
        (on_part (place_of (blob i s)) t stat ((in_row i).get s) ((in_body (place_of (blob i s))).get s)).1.1 fine ∙ (stat-on (place_of (blob i s)) t
        ((in_row i).get s) ((in_body (place_of (blob i s))).get s)).1

    live_now : Live i s₁
    live_now = (l.0, ap (λ (x : Row). x.used) row_now ∙ l.1)

    word : (j : ℕ) → j ≢ 3 → get_or (stamped t ((in_row i).get s)).words j 0 ≡ get_or ((in_row i).get s).words j 0
    word j m = get_or-set_other ((in_row i).get s).words 3 j (max (stamp_of ((in_row i).get s)) t) 0 m

    id-now : ident i s₁ ≡ ident i s
    id-now = ap id_of row_now ∙ word 0 (omega arith)

    still : status_of ((in_row i).get s₁) ≢ running
    still e = n (sym (ap status_of row_now ∙ ap status_in (word 2 (omega arith))) ∙ e)
