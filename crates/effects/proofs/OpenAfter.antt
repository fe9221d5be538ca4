-- What an accepted Open gives and leaves: the identifier, the next one, and of a held name that is opened for writing the staged bytes and the clean mark. Assumes nothing.
use Rattle.std.specs.Prelude.{◌≡◌, refl, ◌≢◌, true, List, ℕ, ◌<◌}
use Rattle.std.proofs.Common.{sym, ◌∙◌, ap, subst, arith}
use Rattle.std.proofs.Math.Option.{some}
use Rattle.laws.specs.Bytes.{bytes_of}
use Rattle.laws.specs.Ranges.{part}
use Rattle.protocol.specs.Numbers.{row_count, slot_count, not_found, read_write, success, open_command}
use Rattle.protocol.specs.Decode.{decoded}
use Rattle.protocol.specs.Frame.{Reply, refused, framed}
use Rattle.protocol.specs.declared.Blob.{Blob}
use Rattle.protocol.specs.declared.Blob.TheVariants.{Store, Flash, Base, Unknown}
use Rattle.protocol.specs.declared.Request.TheVariants.{Open}
use Rattle.state.specs.declared.row.Place.{Place}
use Rattle.state.specs.declared.row.Place.TheVariants.{AtSlot, AtFlash}
use Rattle.state.specs.State.{State, Row, Slot, Body, in_row, cell}
use Rattle.state.specs.Parts.{FitsSlot, body-view-fits}
use Rattle.state.proofs.Parts.{cell-get-put}
use Rattle.state.specs.Words.{clean_of, blob_of}
use Rattle.state.specs.Soundness.{slot_at, is_sound}
use Rattle.state.specs.Facts.{Sound}
use Rattle.state.specs.Agree.{sound-of-test}
use Rattle.rules.specs.Lookup.{slot_named, after, fresh_from, fresh_id}
use Rattle.rules.specs.Searches.{free-row, named-slot}
use Rattle.rules.specs.Sweep.{swept}
use Rattle.rules.specs.Open.{open_blob}
use Rattle.rules.specs.Opening.{opened, new_row, held_slot, new_slot, opened_flash}
use Rattle.rules.proofs.OpenLaws.{open-store-has, open-flash-has}
use Rattle.rules.proofs.Messages.{sent}
use Rattle.rules.specs.Respond.{Effect, effect_of, respond}
use Rattle.guarantees.proofs.Keep.{swept-sound}
use Rattle.guarantees.proofs.After.{open_is}
use Rattle.effects.specs.OpenAfter.{Staged}
use Rattle.effects.proofs.SweepNext.{sweep-next}

-- ---- the identifier
-- the first unused one from "next" on, among the sessions that the sweep left (rule 9.8)
abbrev pub given : (t : ℕ) → State → ℕ
given t s = fresh_from row_count s.next (swept t s)

-- what an accepted Open gives, of the state x
abbrev Gives : State → Reply × State → Type 0
Gives x o = (framed open_command o.0).0 ≡ success → ((framed open_command o.0).1 ≡ sent open_command (bytes_of 2 (fresh_id x))) × (o.1.next ≡ after (fresh_id x))

refused-gives : (x : State) (code : ℕ) → code ≢ success → Gives x (refused code, x)
unfolding framed
refused-gives x code n e = absurd (n e)

opened-gives : (p : Place) (r b flags clean t : ℕ) (body : Body p) (x : State) → Gives x (opened p r b flags clean t body x)
unfolding opened framed
opened-gives p r b flags clean t body x e = (refl, refl)

blob-gives : (b : Blob) (flags t : ℕ) (m : List ℕ) (x : State) → Gives x (open_blob b flags t m x)
unfolding open_blob
blob-gives (Store at len) flags t m x =
    open-store-has (Gives x) x (refused-gives x) (part at len m) flags t (λ (r k : ℕ) _ _ _ _. opened-gives (AtSlot k) r k flags 1 t (held_slot flags (slot_at k x)) x)
    (λ (r k : ℕ) _ _ _ _ _. opened-gives (AtSlot k) r k flags 0 t (new_slot (part at len m)) x)
blob-gives (Flash k) flags t m x = open-flash-has (Gives x) x (refused-gives x) k flags t (λ (r : ℕ) _ _ _ _. opened-gives AtFlash r _ _ 0 t (opened_flash k x.flash_group) x)
blob-gives Base flags t m x = refused-gives x not_found (λ (e : not_found ≡ success). omega arith)
blob-gives Unknown flags t m x = refused-gives x not_found (λ (e : not_found ≡ success). omega arith)

module _ (t flags : ℕ) (b : Blob) (m : List ℕ) (s : State) (h : is_sound s ≡ true) (d : decoded m ≡ Open flags b) (ok : (respond t m s).code ≡ success) where
  is_open : respond t m s ≡ effect_of (framed open_command (open_blob b flags t m (swept t s)).0) (open_blob b flags t m (swept t s)).1
  is_open = open_is t flags b m s h d

  accepted : (framed open_command (open_blob b flags t m (swept t s)).0).0 ≡ success
  accepted = sym (ap (λ (o : Effect). o.code) is_open) ∙ ok

  given_is : fresh_id (swept t s) ≡ given t s
  given_is = ap (λ (n : ℕ). fresh_from row_count n (swept t s)) (sweep-next t s)

  -- AN ACCEPTED OPEN GIVES THE FIRST UNUSED IDENTIFIER FROM "NEXT" ON, AND "NEXT" BECOMES ITS SUCCESSOR, whatever its sweep closed (rule 9.8)
  pub open_gives : ((respond t m s).response ≡ sent open_command (bytes_of 2 (given t s))) × ((respond t m s).state.next ≡ after (given t s))
  open_gives = let g = blob-gives b flags t m (swept t s) accepted in (
    ap (λ (o : Effect). o.response) is_open ∙ g.0 ∙ ap (λ (n : ℕ). sent open_command (bytes_of 2 n)) given_is,
    ap (λ (o : Effect). o.state.next) is_open ∙ g.1 ∙ ap after given_is,
  )

opened-stages : (r k t : ℕ) (x : State) → Sound x → (r < row_count) × (((in_row r).get x).used ≡ 0) → k < slot_count → Staged k x
    (opened (AtSlot k) r k read_write 1 t (held_slot read_write (slot_at k x)) x).1
unfolding opened
opened-stages r k t x g fr low = record {
  bytes = ap (λ (c : Row × Slot). c.1.staged_bytes) both-are;
  as_long = ap (λ (c : Row × Slot). c.1.staged_len) both-are;
  row = r;
  is_live = (fr.0, ap (λ (c : Row × Slot). c.0.used) both-are);
  on-it = ap (λ (c : Row × Slot). blob_of c.0) both-are;
  is-clean = ap (λ (c : Row × Slot). clean_of c.0) both-are;
}
  where
    fit : FitsSlot (slot_at k x)
    fit = (body-view-fits (AtSlot k) x low g.shape).1

    body : Slot
    body = held_slot read_write (slot_at k x)

    both-are : (cell r (AtSlot k)).get ((cell r (AtSlot k)).put (new_row (fresh_id x) k read_write 1 t, body) x) ≡ (new_row (fresh_id x) k read_write 1 t, body)
    both-are = cell-get-put r (AtSlot k) (new_row (fresh_id x) k read_write 1 t, body) x fr.0 g.shape (record { four = refl; flag = omega arith })
        (low, record { name-long = fit.name-long; committed-long = fit.committed-long; staged-long = fit.committed-long; held-flag = fit.held-flag; mark-flag = fit.mark-flag })

-- AN ACCEPTED OPEN FOR WRITING OF A HELD NAME STAGES WHAT IS COMMITTED, and the session is clean (rule 9.11)
pub open-stages : (t at len k : ℕ) (m : List ℕ) (s : State) → is_sound s ≡ true → decoded m ≡ Open read_write (Store at len) → (respond t m s).code ≡ success
    → slot_named (part at len m) (swept t s) ≡ some k → Staged k (swept t s) (respond t m s).state
unfolding open_blob framed
open-stages t at len k m s h d ok e =
    subst (Staged k (swept t s)) (sym (ap (λ (o : Effect). o.state) (open_is t read_write (Store at len) m s h d)))
    (open-store-has Holds x refuses (part at len m) read_write t
    (λ (r j : ℕ) _ q _ f a. let z : j ≡ k = cc in subst (λ (y : ℕ). Staged y x (opened (AtSlot j) r j read_write 1 t (held_slot read_write (slot_at j x)) x).1) z
    (opened-stages r j t x g (free-row x r f) (named-slot (part at len m) x j q).0))
    (λ (r j : ℕ) _ q _ _ _ a. absurd (let z : ◌≡◌ {A = ℕ} 0 1 = cc in omega arith))
    (accepted t read_write (Store at len) m s h d ok))
  where
    x : State
    x = swept t s

    g : Sound x
    g = swept-sound t s (sound-of-test s h)

    Holds : Reply × State → Type 0
    Holds o = (framed open_command o.0).0 ≡ success → Staged k x o.1

    refuses : (code : ℕ) → code ≢ success → Holds (refused code, x)
    refuses code n a = absurd (n a)
