-- THE FLASH PROMISE, over histories: image or hash and verify are never open together, and an update job starts only if the image
-- was verified since it was last opened. Assumes nothing.
use Rattle.std.proofs.Math.Path.{◌≡◌, refl, sym, ap}
use Rattle.std.proofs.Common.{◌∙◌, subst, true≢false}
use Rattle.std.specs.Prelude.{◌≢◌, Bool, not, cond, ◌&&◌, ◌||◌, List, [], ◌∷◌, ℕ, zero, suc, ◌+◌, ◌≤◌, ◌<◌, drop}
use Rattle.std.proofs.Math.Logic.{Ne-symm}
use Rattle.std.proofs.Math.Bool.{true, false}
use Rattle.std.proofs.Math.Option.{Option, none, some}
use native.Mathlib.Omega.{arith}
use Rattle.std.proofs.Math.Decide.{ℕ_discrete}
use Rattle.std.proofs.Math.Dec.{eqb}
use borrow.Author.Tests.{eqb-true, eq-eqb, ne_eqb}
use Rattle.std.proofs.Math.ListN.{length}
use Rattle.laws.specs.All.{and-true, Or, this, that}
use Rattle.laws.specs.Find.{is_some}
use Rattle.laws.specs.Bits.{bit, bit-zero}
use Rattle.laws.specs.Ranges.{part}
use Rattle.protocol.specs.Numbers.{row_words, untried, open_command, row_count, slot_count, success, status_unit, not_found, busy}
use Rattle.protocol.specs.Numbers.{running, succeeded, image_size, hash_size, image_blob, hash_blob, verify_blob, update_blob, read_only, cleanup_blob}
use Rattle.protocol.specs.Numbers.{read_write, write_only, failed}
use Rattle.protocol.specs.Names.{kind_of, flash_number, no_kind}
use Rattle.protocol.specs.Decode.{decoded, number_of}
use Rattle.protocol.specs.Frame.{Reply, refused, done, reply, framed}
use Rattle.protocol.specs.declared.FlashKind.{FlashKind}
use Rattle.protocol.specs.declared.FlashKind.TheVariants.{Image, Hash, Verify, Update, Cleanup}
use Rattle.protocol.specs.declared.Blob.{Blob}
use Rattle.protocol.specs.declared.Blob.TheVariants.{Store, Flash, Base, Unknown}
use Rattle.protocol.specs.declared.Request.{Request}
use Rattle.protocol.specs.declared.Request.TheVariants.{Count, Enumerate, Open, Read, Write, Commit, Close, Delete, Stat, SessionStat, WriteMeta, Refused}
use Rattle.state.specs.declared.Phase.TheVariants.{Uploading, Verified}
use Rattle.state.specs.declared.row.Place.{Place}
use Rattle.state.specs.declared.row.Place.TheVariants.{AtSlot, AtFlash}
use Rattle.state.specs.State.{State, Row, Slot, FlashBody, Body, place_of, in_row, in_body, cell}
use Rattle.state.specs.Parts.{row-view-fits}
use Rattle.state.proofs.Parts.{cell-row-other, row_put}
use Rattle.state.specs.Words.{blob_of, status_of, stamped, with_status, empty_flash, blob, in_use, Live, fresh, status-with, free_slot, store_flags, flash_flags, store-flags}
use Rattle.state.specs.Soundness.{is_sound, slot_at}
use Rattle.state.specs.Facts.{FlashSession, PhaseOk, Session, Sound}
use Rattle.state.proofs.Fresh.{fresh-sound}
use Rattle.state.specs.Agree.{sound-of-test, apart-blobs, place-flash}
use Rattle.rules.specs.Command.{Command, read, write, commit, stat, close, write_meta, end_job, Out, commit_fits}
use Rattle.rules.specs.Flash.{with_phase, write_flash, startable, verify_job, update_job, commit_kind, commit_flash, closed_flash, close_flash, job_ends, on_flash}
use Rattle.state.specs.declared.row.Wanted.{Wanted}
use Rattle.state.specs.declared.row.Wanted.TheVariants.{Id, OnBlob, OnFlash}
use Rattle.rules.specs.Session.{on_part, on_place, on_row, on_found, on_session, row_found}
use Rattle.rules.specs.Sweep.{stale, sweep_row, sweep_rows, noted, due, swept}
use Rattle.rules.specs.Open.{open_store, open_flash, open_blob}
use Rattle.rules.specs.Respond.{Effect, answered}
use Rattle.rules.proofs.Laws.{respond-is, job_is, cond_has, placed-has, some-has, none_has, stamped-status, status-set}
use Rattle.rules.proofs.Change.{Proper, row_new, row_old, Was, was}
use Rattle.guarantees.proofs.Merging.{proper-row}
use Rattle.guarantees.specs.Merging.{Event, message, job_ended}
use Rattle.guarantees.proofs.Keep.{swept-sound, sweep-rows-sound, respond-sound, job-sound}
use Rattle.rules.specs.Searches.{free-row, no-flash-row, found-live, on_row_lem, row_on}
use Rattle.rules.specs.Lookup.{slot_named, free_row_in, fresh_id}
use Rattle.rules.specs.Opening.{new_row, opened, new_slot, held_slot, flash_listed, opened_flash}
use Rattle.rules.specs.Named.{delete_blob, delete_store}
use Rattle.rules.proofs.OpenLaws.{open-store-has, open-flash-has}
use Rattle.guarantees.specs.FlashPromise.{next, run, status_at, is_open, job_state, asks_image, opens_image, verifies_image, starts_update, watch, verified_since, NeverOpens, VerifiedIn}

-- ---- kinds
kind-if : (a b c d f : Bool) → cond a Image (cond b Hash (cond c Verify (cond d Update (cond f Cleanup no_kind)))) ≡ Verify → c ≡ true
kind-if true b c d f e = absurd (let z : ◌≡◌ {A = ℕ} 0 1 = cc in omega arith)
kind-if false true c d f e = absurd (let z : ◌≡◌ {A = ℕ} 0 1 = cc in omega arith)
kind-if false false true d f e = refl
kind-if false false false true f e = absurd (let z : ◌≡◌ {A = ℕ} 0 1 = cc in omega arith)
kind-if false false false false true e = absurd (let z : ◌≡◌ {A = ℕ} 0 1 = cc in omega arith)
kind-if false false false false false e = absurd (let z : ◌≡◌ {A = ℕ} 0 1 = cc in omega arith)

kind-verify : (b : ℕ) → kind_of b ≡ Verify → b ≡ verify_blob
unfolding kind_of
kind-verify b e = eqb-true b verify_blob (kind-if (eqb b image_blob) (eqb b hash_blob) (eqb b verify_blob) (eqb b update_blob) (eqb b cleanup_blob) e)

verify-kind : kind_of verify_blob ≡ Verify
unfolding kind_of
verify-kind = refl

update-kind : kind_of update_blob ≡ Update
unfolding kind_of
update-kind = refl

-- ---- what a command does to the flash session's status and to the phase
abbrev Good : Command → Type 0
Good (read i n) = ⊥
Good (write i ws) = ⊥
Good (commit n l) = ⊥
Good stat = ⊥
Good close = ⊥
Good write_meta = ⊥
Good (end_job true) = Unit {0}
Good (end_job false) = ⊥

module _ (t : ℕ) (r : Row) (b : FlashBody) (four : length r.words ≡ row_words) where
  -- status 2 on verify: it was so, or the job runs and this is its good outcome
  abbrev Two : Command → Row → Type 0
  Two c q = status_of q ≡ succeeded → Or (status_of r ≡ succeeded) (Good c × (status_of r ≡ running))

  two-same : (c : Command) → Two c r
  two-same c h = this h

  two-later : (c : Command) → Two c (stamped t r)
  two-later c h = this (sym (stamped-status t r) ∙ h)

  two-not : (c : Command) (v : ℕ) → v < 4 → v ≢ succeeded → Two c (stamped t (with_status v r))
  two-not c v l n h = absurd (n (sym (status-set v r four l) ∙ sym (stamped-status t (with_status v r)) ∙ h))

  two-write : (c : Command) (k : FlashKind) (ws : List ℕ) (i : ℕ) → Two c (write_flash k t i ws r b).1.0
  unfolding write_flash
  two-write c Image ws i =
      placed-has image_size b.image_len i (length ws) r b _ (λ (o : Out FlashBody). Two c o.1.0) (λ (h : i ≤ b.image_len) (l : i + length ws ≤ image_size). two-later c) (λ (code : ℕ). two-same c)
  two-write c Hash ws i =
      placed-has hash_size b.hash_len i (length ws) r b _ (λ (o : Out FlashBody). Two c o.1.0) (λ (h : i ≤ b.hash_len) (l : i + length ws ≤ hash_size). two-later c) (λ (code : ℕ). two-same c)
  two-write c Verify ws i = two-same c
  two-write c Update ws i = two-same c
  two-write c Cleanup ws i = two-same c

  two-verify : (c : Command) (y : Bool) → Two c (verify_job y t r b).1.0
  unfolding verify_job
  two-verify c true = two-not c 1 (omega arith) (omega arith)
  two-verify c false = two-later c

  two-kind : (c : Command) (k : FlashKind) → k ≡ Verify → Two c (commit_kind k t r b).1.0
  unfolding commit_kind
  two-kind c Image e = absurd (let z : ◌≡◌ {A = ℕ} 0 1 = cc in omega arith)
  two-kind c Hash e = absurd (let z : ◌≡◌ {A = ℕ} 0 1 = cc in omega arith)
  two-kind c Verify e = two-verify c (startable r)
  two-kind c Update e = absurd (let z : ◌≡◌ {A = ℕ} 0 1 = cc in omega arith)
  two-kind c Cleanup e = absurd (let z : ◌≡◌ {A = ℕ} 0 1 = cc in omega arith)

  two-commit : (c : Command) (y : Bool) (k : FlashKind) → k ≡ Verify → Two c (commit_flash y k t r b).1.0
  unfolding commit_flash
  two-commit c true k e = two-kind c k e
  two-commit c false k e = two-same c

  two-close : (c : Command) (y : Bool) (k : FlashKind) → Two c (close_flash y k r b).1.0
  unfolding close_flash
  two-close c true k = two-same c
  two-close c false k = λ (h : ◌≡◌ {A = ℕ} 0 2). absurd (omega arith)

  two-job : (y g : Bool) → eqb (status_of r) running ≡ y → Two (end_job g) (job_ends y g r b).1.0
  unfolding job_ends
  two-job true true e = λ (h : status_of (with_status succeeded r) ≡ succeeded). that (tt, eqb-true (status_of r) 1 e)
  two-job true false e = λ (h : status_of (with_status failed r) ≡ succeeded). absurd (let z = status-set 3 r four (omega arith) in omega arith)
  two-job false g e = two-same (end_job g)

  two-flash : (k : FlashKind) (c : Command) → k ≡ Verify → Two c (on_flash k t c r b).1.0
  unfolding on_flash
  two-flash k (read i n) e = two-same (read i n)
  two-flash k (write i ws) e = two-write (write i ws) k ws i
  two-flash k (commit n l) e = two-commit (commit n l) (commit_fits n l) k e
  two-flash k stat e = two-later stat
  two-flash k close e = two-close close (eqb (status_of r) running) k
  two-flash k write_meta e = two-same write_meta
  two-flash k (end_job g) e = two-job (eqb (status_of r) running) g refl

  -- phase Verified: it was so, or a verify session with status 2 closes
  abbrev Ver : FlashKind → FlashBody → Type 0
  Ver k d = d.phase ≡ Verified → Or (b.phase ≡ Verified) ((k ≡ Verify) × (status_of r ≡ succeeded))

  ver-same : (k : FlashKind) → Ver k b
  ver-same k h = this h

  ver-up : (k : FlashKind) (d : FlashBody) → d.phase ≡ Uploading → Ver k d
  ver-up k d e h = absurd (let z : ◌≡◌ {A = ℕ} 0 1 = cc in omega arith)

  ver-idle : (k : FlashKind) → Ver k empty_flash
  ver-idle k h = absurd (let z : ◌≡◌ {A = ℕ} 0 1 = cc in omega arith)

  ver-write : (k j : FlashKind) (ws : List ℕ) (i : ℕ) → Ver k (write_flash j t i ws r b).1.1
  unfolding write_flash
  ver-write k Image ws i =
      placed-has image_size b.image_len i (length ws) r b _ (λ (o : Out FlashBody). Ver k o.1.1) (λ (h : i ≤ b.image_len) (l : i + length ws ≤ image_size). ver-same k) (λ (code : ℕ). ver-same k)
  ver-write k Hash ws i =
      placed-has hash_size b.hash_len i (length ws) r b _ (λ (o : Out FlashBody). Ver k o.1.1) (λ (h : i ≤ b.hash_len) (l : i + length ws ≤ hash_size). ver-same k) (λ (code : ℕ). ver-same k)
  ver-write k Verify ws i = ver-same k
  ver-write k Update ws i = ver-same k
  ver-write k Cleanup ws i = ver-same k

  ver-verify : (k : FlashKind) (y : Bool) → Ver k (verify_job y t r b).1.1
  unfolding verify_job
  ver-verify k true = ver-up k (with_phase Uploading b) refl
  ver-verify k false = ver-same k

  ver-update : (k : FlashKind) (y : Bool) → Ver k (update_job y t r b).1.1
  unfolding update_job
  ver-update k true = ver-same k
  ver-update k false = ver-same k

  ver-kind : (k j : FlashKind) → Ver k (commit_kind j t r b).1.1
  unfolding commit_kind
  ver-kind k Image = ver-same k
  ver-kind k Hash = ver-same k
  ver-kind k Verify = ver-verify k (startable r)
  ver-kind k Update = ver-update k (startable r)
  ver-kind k Cleanup = ver-idle k

  ver-commit : (k : FlashKind) (y : Bool) → Ver k (commit_flash y k t r b).1.1
  unfolding commit_flash
  ver-commit k true = ver-kind k k
  ver-commit k false = ver-same k

  ver-closed : (k : FlashKind) → Ver k (closed_flash k (status_of r) b)
  unfolding closed_flash
  ver-closed Image = ver-same Image
  ver-closed Hash = ver-same Hash
  ver-closed Verify = go (eqb (status_of r) succeeded) refl
    where
      go : (y : Bool) → eqb (status_of r) succeeded ≡ y → Ver Verify (cond y (with_phase Verified b) (cond (eqb (status_of r) failed) (with_phase Uploading b) b))
      go true e = λ (h : Verified ≡ Verified). that (refl, eqb-true (status_of r) 2 e)
      go false e = cond_has (Ver Verify) (eqb (status_of r) failed) (with_phase Uploading b) b (ver-up Verify (with_phase Uploading b) refl) (ver-same Verify)
  ver-closed Update = cond_has (Ver Update) (eqb (status_of r) succeeded) empty_flash (cond (eqb (status_of r) failed) (with_phase Uploading b) b) (ver-idle Update)
      (cond_has (Ver Update) (eqb (status_of r) failed) (with_phase Uploading b) b (ver-up Update (with_phase Uploading b) refl) (ver-same Update))
  ver-closed Cleanup = ver-same Cleanup

  ver-close : (k : FlashKind) (y : Bool) → Ver k (close_flash y k r b).1.1
  unfolding close_flash
  ver-close k true = ver-same k
  ver-close k false = ver-closed k

  ver-job : (k : FlashKind) (y g : Bool) → Ver k (job_ends y g r b).1.1
  unfolding job_ends
  ver-job k true g = ver-same k
  ver-job k false g = ver-same k

  ver-flash : (k : FlashKind) (c : Command) → Ver k (on_flash k t c r b).1.1
  unfolding on_flash
  ver-flash k (read i n) = ver-same k
  ver-flash k (write i ws) = ver-write k k ws i
  ver-flash k (commit n l) = ver-commit k (commit_fits n l)
  ver-flash k stat = ver-same k
  ver-flash k close = ver-close k (eqb (status_of r) running)
  ver-flash k write_meta = ver-same k
  ver-flash k (end_job g) = ver-job k (eqb (status_of r) running) g

-- ---- the image stands verified: phase Verified, or a verify session whose job succeeded
pub record VerifyRow (s : State) (st : ℕ) : Type 0 where
  pub row : ℕ
  pub live : Live row s
  pub on-verify : blob row s ≡ verify_blob
  pub status-is : status_of ((in_row row).get s) ≡ st

abbrev Stands : State → Type 0
Stands s = Or (s.flash_group.phase ≡ Verified) (VerifyRow s succeeded)

-- from s to s' no row is new, and the image stands verified in s' only if it did in s, or a good outcome G came to a running verify job
record Flow (G : Type 0) (s s' : State) : Type 0 where
  row_from : (x : ℕ) → Live x s' → (Live x s) × (blob x s' ≡ blob x s)
  stands_from : Stands s' → Or (Stands s) (G × VerifyRow s running)

flow-same : (G : Type 0) (s : State) → Flow G s s
flow-same G s = record { row_from = λ (x : ℕ) (l : Live x s). (l, refl); stands_from = λ (h : Stands s). this h }

part-two : (p : Place) (t : ℕ) (c : Command) (r : Row) (b : Body p) → p ≡ AtFlash → length r.words ≡ row_words → kind_of (blob_of r) ≡ Verify
    → status_of (on_part p t c r b).1.0 ≡ succeeded → Or (status_of r ≡ succeeded) (Good c × (status_of r ≡ running))
part-two (AtSlot k) t c r b e four kd h = absurd (let z : ◌≡◌ {A = ℕ} 0 1 = cc in omega arith)
part-two AtFlash t c r b e four kd h = two-flash t r b four (kind_of (blob_of r)) c kd h

part-ver : (p : Place) (t i : ℕ) (c : Command) (s : State) → length ((in_row i).get s).words ≡ row_words → (on_place p i t c s).1.flash_group.phase ≡ Verified
    → Or (s.flash_group.phase ≡ Verified) ((kind_of (blob i s) ≡ Verify) × (status_of ((in_row i).get s) ≡ succeeded))
part-ver (AtSlot k) t i c s four h = this h
part-ver AtFlash t i c s four h = ver-flash t ((in_row i).get s) s.flash_group four (kind_of (blob i s)) c h

module _ (s : State) (g : Sound s) (i : ℕ) (l : Live i s) (t : ℕ) (c : Command) where
  abbrev own : Place
  own = place_of (blob i s)

  abbrev out : Row × Body own
  out = (on_part own t c ((in_row i).get s) ((in_body own).get s)).1

  abbrev s' : State
  s' = (on_row i t c s).1

  four : length ((in_row i).get s).words ≡ row_words
  four = (row-view-fits i s l.0 g.shape).four

  pr : Proper own ((in_row i).get s) out.0 ((in_body own).get s) out.1
  pr = proper-row s g i l t c

  new : (in_row i).get s' ≡ out.0
  new = row_new s g i l out.0 out.1 pr

  row-stands : (x : ℕ) → Live x s' → blob x s' ≡ verify_blob → status_of ((in_row x).get s') ≡ succeeded → Dec (x ≡ i) → Or (Stands s) (Good c × VerifyRow s running)
  row-stands x v b st (no n) =
      let w = was s g i l out.0 out.1 pr x v in
      this (that (record { row = x; live = w.was-live; on-verify = sym w.same-blob ∙ b; status-is = sym (ap status_of (row_old s g i l out.0 out.1 pr x n)) ∙ st }))
  row-stands x v b st (yes e) = go (part-two own t c ((in_row i).get s) ((in_body own).get s) (place-flash (blob i s) (omega (arith, at))) four (ap kind_of at ∙ verify-kind) two)
    where
      w : Was s g i l out.0 out.1 pr x
      w = was s g i l out.0 out.1 pr x v

      at : blob i s ≡ verify_blob
      at = sym (ap (λ (y : ℕ). blob y s) e) ∙ sym w.same-blob ∙ b

      two : status_of out.0 ≡ succeeded
      two = sym (ap status_of new) ∙ sym (ap (λ (y : ℕ). status_of ((in_row y).get s')) e) ∙ st

      go : Or (status_of ((in_row i).get s) ≡ succeeded) (Good c × (status_of ((in_row i).get s) ≡ running)) → Or (Stands s) (Good c × VerifyRow s running)
      go (this h) = this (that (record { row = i; live = l; on-verify = at; status-is = h }))
      go (that h) = that (h.0, record { row = i; live = l; on-verify = at; status-is = h.1 })

  stands-row : Stands s' → Or (Stands s) (Good c × VerifyRow s running)
  stands-row (this h) = go (part-ver own t i c s four h)
    where
      go : Or (s.flash_group.phase ≡ Verified) ((kind_of (blob i s) ≡ Verify) × (status_of ((in_row i).get s) ≡ succeeded)) → Or (Stands s) (Good c × VerifyRow s running)
      go (this e) = this (this e)
      go (that e) = this (that (record { row = i; live = l; on-verify = kind-verify (blob i s) e.0; status-is = e.1 }))
  stands-row (that h) = row-stands h.row h.live h.on-verify h.status-is (ℕ_discrete h.row i)

  flow-row : Flow (Good c) s s'
  flow-row = record {
    row_from = λ (x : ℕ) (v : Live x s'). let w = was s g i l out.0 out.1 pr x v in (w.was-live, w.same-blob);
    stands_from = stands-row;
  }

flow-session : (a : Wanted) (t : ℕ) (c : Command) (s : State) → Sound s → Flow (Good c) s (on_session a t c s).1
unfolding on_session
flow-session a t c s g = go (row_found a s) refl
  where
    go : (o : Option ℕ) → row_found a s ≡ o → Flow (Good c) s (on_found o a t c s).1
    go none e = flow-same (Good c) s
    go (some r) e = flow-row s g r (found-live a s r e) t c

flow-trans : (s x y : State) → Flow ⊥ s x → Flow ⊥ x y → Flow ⊥ s y
flow-trans s x y f h = record {
  row_from = λ (r : ℕ) (l : Live r y). let b = h.row_from r l in let a = f.row_from r b.0 in (a.0, b.1 ∙ a.1);
  stands_from = λ (v : Stands y). go (h.stands_from v);
}
  where
    go : Or (Stands x) (⊥ × VerifyRow x running) → Or (Stands s) (⊥ × VerifyRow s running)
    go (this v) = f.stands_from v
    go (that v) = absurd v.0

flow-sweep-row : (t r : ℕ) (s : State) → r < row_count → Sound s → Flow ⊥ s (sweep_row t r s)
unfolding sweep_row
flow-sweep-row t r s l g = go (in_use r s && stale t ((in_row r).get s)) refl
  where
    go : (y : Bool) → in_use r s && stale t ((in_row r).get s) ≡ y → Flow ⊥ s (cond y (on_row r t close s).1 s)
    go true e = flow-row s g r (l, eqb-true ((in_row r).get s).used 1 (and-true (in_use r s) (stale t ((in_row r).get s)) e).0) t close
    go false e = flow-same ⊥ s

flow-sweep-rows : (t n : ℕ) (s : State) → n ≤ row_count → Sound s → Flow ⊥ s (sweep_rows t n s)
unfolding sweep_rows
flow-sweep-rows t zero s l g = flow-same ⊥ s
flow-sweep-rows t (suc n) s l g =
    flow-trans s (sweep_rows t n s) (sweep_row t n (sweep_rows t n s)) (flow-sweep-rows t n s (omega arith) g) (flow-sweep-row t n (sweep_rows t n s) l (sweep-rows-sound t n s (omega arith) g))

flow-noted : (t : ℕ) (s x : State) → Flow ⊥ s x → Flow ⊥ s (noted t x)
flow-noted t s x f = record { row_from = f.row_from; stands_from = λ (v : Stands (noted t x)). f.stands_from (go v) }
  where
    go : Stands (noted t x) → Stands x
    go (this e) = this e
    go (that e) = that (record { row = e.row; live = e.live; on-verify = e.on-verify; status-is = e.status-is })

flow-swept : (t : ℕ) (s : State) → Sound s → Flow ⊥ s (swept t s)
unfolding swept
flow-swept t s g = go (due t s)
  where
    go : (y : Bool) → Flow ⊥ s (cond y (noted t (sweep_rows t row_count s)) s)
    go true = flow-noted t s (sweep_rows t row_count s) (flow-sweep-rows t row_count s (omega arith) g)
    go false = flow-same ⊥ s

-- ---- Open, after the sweep
-- from x to y a row is new with no job, or was there as it is; the image stands verified in y only if it did in x
record Opening (x y : State) : Type 0 where
  row-either : (q : ℕ) → Live q y → Or ((Live q x) × ((in_row q).get y ≡ (in_row q).get x)) (status_of ((in_row q).get y) ≡ untried)
  phase-either : y.flash_group.phase ≡ Verified → x.flash_group.phase ≡ Verified

opening-same : (x : State) → Opening x x
opening-same x = record { row-either = λ (q : ℕ) (l : Live q x). this (l, refl); phase-either = λ (h : x.flash_group.phase ≡ Verified). h }

opening-stands : (x y : State) → Opening x y → Stands y → Stands x
opening-stands x y o (this h) = this (o.phase-either h)
opening-stands x y o (that h) = go (o.row-either h.row h.live)
  where
    go : Or ((Live h.row x) × ((in_row h.row).get y ≡ (in_row h.row).get x)) (status_of ((in_row h.row).get y) ≡ untried) → Stands x
    go (this e) = that (record { row = h.row; live = e.0; on-verify = sym (ap blob_of e.1) ∙ h.on-verify; status-is = sym (ap status_of e.1) ∙ h.status-is })
    go (that e) = absurd (let z = h.status-is in omega arith)

new-status : (id b flags clean t : ℕ) → flags < status_unit → clean < 2 → status_of (new_row id b flags clean t) ≡ untried
new-status id b flags clean t hf hc = status-with flags 0 clean hf (omega arith) hc

module _ (x : State) (g : Sound x) (r : ℕ) (fr : (r < row_count) × (((in_row r).get x).used ≡ 0)) (b flags clean t : ℕ) (hf : flags < status_unit) (hc : clean < 2) where
  new-row-either : (p : Place) (body : Body p) (q : ℕ) → Dec (q ≡ r) → Live q (opened p r b flags clean t body x).1
      → Or ((Live q x) × ((in_row q).get (opened p r b flags clean t body x).1 ≡ (in_row q).get x)) (status_of ((in_row q).get (opened p r b flags clean t body x).1) ≡ untried)
  unfolding opened
  new-row-either p body q (yes e) l =
      that (ap (λ (z : ℕ). status_of ((in_row z).get ((cell r p).put (new_row (fresh_id x) b flags clean t, body) x))) e
      ∙ ap status_of (row_put r p (new_row (fresh_id x) b flags clean t, body) x fr.0 g.shape.table-size (record { four = refl; flag = omega arith })) ∙ new-status (fresh_id x) b flags clean t hf hc)
  new-row-either p body q (no n) l =
      let e = cell-row-other r q p (new_row (fresh_id x) b flags clean t, body) x (Ne-symm n) in
      this ((l.0, sym (ap (λ (z : Row). z.used) e) ∙ l.1), e)

  opening-slot : (k : ℕ) (body : Slot) → Opening x (opened (AtSlot k) r b flags clean t body x).1
  unfolding opened
  opening-slot k body = record { row-either = λ (q : ℕ) (l : Live q (opened (AtSlot k) r b flags clean t body x).1). new-row-either (AtSlot k) body q (ℕ_discrete q r) l; phase-either = λ h. h }

  opening-flash : (body : FlashBody) → (body.phase ≡ Verified → x.flash_group.phase ≡ Verified) → Opening x (opened AtFlash r b flags clean t body x).1
  unfolding opened
  opening-flash body f = record { row-either = λ (q : ℕ) (l : Live q (opened AtFlash r b flags clean t body x).1). new-row-either AtFlash body q (ℕ_discrete q r) l; phase-either = f }

  -- where no flash session was, none with a job is there now; and Uploading is not Verified
  image-stands : (body : FlashBody) → body.phase ≡ Uploading → row_found OnFlash x ≡ none → Stands (opened AtFlash r b flags clean t body x).1 → ⊥
  unfolding opened
  image-stands body e quiet (this h) = let z : ◌≡◌ {A = ℕ} 0 1 = cc in omega arith
  image-stands body e quiet (that h) = go (new-row-either AtFlash body h.row (ℕ_discrete h.row r) h.live)
    where
      go : Or ((Live h.row x) × ((in_row h.row).get (opened AtFlash r b flags clean t body x).1 ≡ (in_row h.row).get x))
          (status_of ((in_row h.row).get (opened AtFlash r b flags clean t body x).1) ≡ untried) → ⊥
      go (this f) = no-flash-row x quiet h.row f.0 (let z : blob h.row x ≡ verify_blob = sym (ap blob_of f.1) ∙ h.on-verify in omega arith)
      go (that f) = let z = h.status-is in omega arith

opened-phase : (k : FlashKind) (b : FlashBody) → (opened_flash k b).phase ≡ Verified → b.phase ≡ Verified
unfolding opened_flash
opened-phase Image b h = absurd (let z : ◌≡◌ {A = ℕ} 0 1 = cc in omega arith)
opened-phase Hash b h = absurd (let z : ◌≡◌ {A = ℕ} 0 1 = cc in omega arith)
opened-phase Verify b h = h
opened-phase Update b h = h
opened-phase Cleanup b h = h

image-phase : (b : FlashBody) → (opened_flash Image b).phase ≡ Uploading
unfolding opened_flash
image-phase b = refl

opening-store : (n : List ℕ) (flags t : ℕ) (x : State) → Sound x → Opening x (open_store n flags t x).1
opening-store n flags t x g =
    open-store-has (λ (y : Reply × State). Opening x y.1) x (λ _ _. opening-same x) n flags t
    (λ (r k : ℕ) f _ _ i. opening-slot x g r (free-row x r i) k flags 1 t (low f) (omega arith) k (held_slot flags (slot_at k x)))
    (λ (r k : ℕ) f _ _ i _. opening-slot x g r (free-row x r i) k flags 0 t (low f) (omega arith) k (new_slot n))
  where
    low : store_flags flags ≡ true → flags < status_unit
    low h = at (store-flags flags h)
      where
        at : Or (flags ≡ read_only) (flags ≡ read_write) → flags < status_unit
        at (this e) = omega arith
        at (that e) = omega arith

-- a refusal with a code other than 00
abbrev Fails : Reply → Type 0
Fails (refused c) = c ≢ success
Fails done = ⊥
Fails (reply f) = ⊥

fails-code : (sub : ℕ) (r : Reply) → Fails r → eqb (framed sub r).0 success ≡ false
unfolding framed
fails-code sub (refused c) h = ne_eqb c 0 h
fails-code sub done h = absurd h
fails-code sub (reply f) h = absurd h

-- of Open of a flash name: what it does, and that the image's opening leaves no verified image
record Flashed (k : FlashKind) (x : State) (o : Reply × State) : Type 0 where
  opening : Opening x o.1
  image-fails : k ≡ Image → Stands o.1 → Fails o.0

flashed-refused : (k : FlashKind) (x : State) (c : ℕ) → c ≢ success → Flashed k x (refused c, x)
flashed-refused k x c n = record { opening = opening-same x; image-fails = λ (e : k ≡ Image) (h : Stands x). n }

flashed : (k : FlashKind) (flags t : ℕ) (x : State) → Sound x → Flashed k x (open_flash k flags t x)
flashed k flags t x g = open-flash-has (Flashed k x) x (flashed-refused k x) k flags t free
  where
    free : (r : ℕ) → flash_flags flags ≡ true → flash_listed k x.flash_group.phase ≡ true → row_found OnFlash x ≡ none → free_row_in x ≡ some r
        → Flashed k x (opened AtFlash r (flash_number k) write_only 0 t (opened_flash k x.flash_group) x)
    free r f l q e = record {
      opening = opening-flash x g r (free-row x r e) (flash_number k) write_only 0 t (omega arith) (omega arith) (opened_flash k x.flash_group) (opened-phase k x.flash_group);
      image-fails = λ (i : k ≡ Image) (h : Stands (opened AtFlash r (flash_number k) write_only 0 t (opened_flash k x.flash_group) x).1).
          absurd (image-stands x g r (free-row x r e) (flash_number k) write_only 0 t (omega arith) (omega arith) (opened_flash k x.flash_group)
          (ap (λ (j : FlashKind). (opened_flash j x.flash_group).phase) i ∙ image-phase x.flash_group) q h);
    }

-- ---- every message
record Moves (image : Bool) (s y : State) : Type 0 where
  rows-from : (x : ℕ) → Live x y → status_of ((in_row x).get y) ≢ untried → (Live x s) × (blob x y ≡ blob x s)
  stands-kept : Stands y → (image ≡ false) × Stands s

moves-flow : (s y : State) → Flow ⊥ s y → Moves false s y
moves-flow s y f = record { rows-from = λ (x : ℕ) (l : Live x y) (n : status_of ((in_row x).get y) ≢ untried). f.row_from x l; stands-kept = λ (h : Stands y). (refl, go (f.stands_from h)) }
  where
    go : Or (Stands s) (⊥ × VerifyRow s running) → Stands s
    go (this v) = v
    go (that v) = absurd v.0

moves-same : (s : State) → Moves false s s
moves-same s = moves-flow s s (flow-same ⊥ s)

moves-open : (image : Bool) (s x y : State) → Flow ⊥ s x → Opening x y → (Stands y → image ≡ false) → Moves image s y
moves-open image s x y f o i = record {
  rows-from = λ (q : ℕ) (l : Live q y) (n : status_of ((in_row q).get y) ≢ untried). go n (o.row-either q l);
  stands-kept = λ (h : Stands y). (i h, at (f.stands_from (opening-stands x y o h)));
}
  where
    go : {q : ℕ} → status_of ((in_row q).get y) ≢ untried → Or ((Live q x) × ((in_row q).get y ≡ (in_row q).get x)) (status_of ((in_row q).get y) ≡ untried) → (Live q s) × (blob q y ≡ blob q s)
    go {q} n (this e) = let b = f.row_from q e.0 in (b.0, ap blob_of e.1 ∙ b.1)
    go n (that e) = absurd (n e)

    at : Or (Stands s) (⊥ × VerifyRow s running) → Stands s
    at (this v) = v
    at (that v) = absurd v.0

abbrev code_of : Request → ℕ → List ℕ → State → ℕ
code_of q t m s = (framed (number_of q) (answered q t m s).0).0

deleted-moves : (b : Blob) (m : List ℕ) (s : State) → Moves false s (delete_blob b m s).1
unfolding delete_blob delete_store
deleted-moves (Store at len) m s =
    some-has (λ (x : Reply × State). Moves false s x.1) (slot_named (part at len m) s) (refused not_found, s) _ (moves-same s)
    (λ (k : ℕ) _. none_has (λ (x : Reply × State). Moves false s x.1) (row_found (OnBlob k) s) (refused busy, s) (done, (in_body (AtSlot k)).put free_slot s) (moves-same s) (λ _. put k))
  where
    put : (k : ℕ) → Moves false s ((in_body (AtSlot k)).put free_slot s)
    put k = record { rows-from = λ x l n. (l, refl); stands-kept = λ h. (refl, go h) }
      where
        go : Stands ((in_body (AtSlot k)).put free_slot s) → Stands s
        go (this e) = this e
        go (that e) = that (record { row = e.row; live = e.live; on-verify = e.on-verify; status-is = e.status-is })
deleted-moves (Flash k) m s = moves-same s
deleted-moves Base m s = moves-same s
deleted-moves Unknown m s = moves-same s

flash-moves : (k : FlashKind) (flags t : ℕ) (m : List ℕ) (s : State) → Sound s → k ≢ Image → Moves false s (open_flash k flags t (swept t s)).1
flash-moves k flags t m s g n =
    moves-open false s (swept t s) (open_flash k flags t (swept t s)).1 (flow-swept t s g) (flashed k flags t (swept t s) (swept-sound t s g)).opening (λ h. refl)

image-moves : (flags t sub : ℕ) (s : State) → Sound s → Moves (true && eqb (framed sub (open_flash Image flags t (swept t s)).0).0 success) s (open_flash Image flags t (swept t s)).1
image-moves flags t sub s g =
    let f = flashed Image flags t (swept t s) (swept-sound t s g) in
    moves-open (eqb (framed sub (open_flash Image flags t (swept t s)).0).0 success) s (swept t s) (open_flash Image flags t (swept t s)).1 (flow-swept t s g) f.opening
    (λ (h : Stands (open_flash Image flags t (swept t s)).1). fails-code sub (open_flash Image flags t (swept t s)).0 (f.image-fails refl h))

open-moves : (b : Blob) (flags t : ℕ) (m : List ℕ) (s : State) → Sound s
    → Moves (asks_image (Open flags b) && eqb (framed open_command (open_blob b flags t m (swept t s)).0).0 success) s (open_blob b flags t m (swept t s)).1
unfolding open_blob
open-moves (Store at len) flags t m s g =
    moves-open false s (swept t s) (open_store (part at len m) flags t (swept t s)).1 (flow-swept t s g) (opening-store (part at len m) flags t (swept t s) (swept-sound t s g)) (λ h. refl)
open-moves (Flash Image) flags t m s g = image-moves flags t open_command s g
open-moves (Flash Hash) flags t m s g = flash-moves Hash flags t m s g (λ e. let z : ◌≡◌ {A = ℕ} 0 1 = cc in omega arith)
open-moves (Flash Verify) flags t m s g = flash-moves Verify flags t m s g (λ e. let z : ◌≡◌ {A = ℕ} 0 1 = cc in omega arith)
open-moves (Flash Update) flags t m s g = flash-moves Update flags t m s g (λ e. let z : ◌≡◌ {A = ℕ} 0 1 = cc in omega arith)
open-moves (Flash Cleanup) flags t m s g = flash-moves Cleanup flags t m s g (λ e. let z : ◌≡◌ {A = ℕ} 0 1 = cc in omega arith)
open-moves Base flags t m s g = moves-flow s (swept t s) (flow-swept t s g)
open-moves Unknown flags t m s g = moves-flow s (swept t s) (flow-swept t s g)

message-moves : (q : Request) (t : ℕ) (m : List ℕ) (s : State) → Sound s → Moves (asks_image q && eqb (code_of q t m s) success) s (answered q t m s).1
unfolding answered
message-moves Count t m s g = moves-same s
message-moves (Enumerate index) t m s g = moves-same s
message-moves (Open flags b) t m s g = open-moves b flags t m s g
message-moves (Read session offset n) t m s g = moves-flow s _ (flow-session (Id session) t (read offset n) s g)
message-moves (Write session offset start) t m s g = moves-flow s _ (flow-session (Id session) t (write offset (drop start m)) s g)
message-moves (Commit session len rest) t m s g = moves-flow s _ (flow-session (Id session) t (commit len rest) s g)
message-moves (Close session) t m s g = moves-flow s _ (flow-session (Id session) t close s g)
message-moves (Delete b) t m s g = deleted-moves b m s
message-moves (Stat b) t m s g = moves-same s
message-moves (SessionStat session) t m s g = moves-flow s _ (flow-session (Id session) t stat s g)
message-moves (WriteMeta session) t m s g = moves-flow s _ (flow-session (Id session) t write_meta s g)
message-moves (Refused code) t m s g = moves-same s

-- ---- every event
verify-runs : (s : State) → Sound s → VerifyRow s running → eqb (job_state Verify s) running ≡ true
unfolding job_state
verify-runs s g r = eq-eqb _ 1 (ap (λ (o : Option ℕ). status_at o s) (row_on s g r.row verify_blob r.live r.on-verify) ∙ r.status-is)

-- after an event the image stands verified only if the watch says so
stands-watch : (v : Bool) (s : State) (e : Event) → is_sound s ≡ true → (Stands s → v ≡ true) → Stands (next s e) → watch v s e ≡ true
stands-watch v s (message t m) h f st =
    let g = sound-of-test s h in
    let e = respond-is t m s h in
    let k = (message-moves (decoded m) t m s g).stands-kept (subst (λ (o : Effect). Stands o.state) e st) in
    let o : opens_image s (message t m) ≡ false = ap (λ (x : Effect). asks_image (decoded m) && eqb x.code success) e ∙ k.0 in
    ap (λ (y : Bool). cond y false (cond false true v)) o ∙ f k.1
stands-watch v s (job_ended true) h f st = go ((flow-session OnFlash 0 (end_job true) s (sound-of-test s h)).stands_from (subst (λ (o : Effect). Stands o.state) (job_is true s h) st))
  where
    or-so : (y : Bool) → v ≡ true → cond y true v ≡ true
    or-so true e = refl
    or-so false e = e

    go : Or (Stands s) (Unit {0} × VerifyRow s running) → cond (eqb (job_state Verify s) running) true v ≡ true
    go (this x) = or-so (eqb (job_state Verify s) running) (f x)
    go (that x) = ap (λ (y : Bool). cond y true v) (verify-runs s (sound-of-test s h) x.1)
stands-watch v s (job_ended false) h f st = go ((flow-session OnFlash 0 (end_job false) s (sound-of-test s h)).stands_from (subst (λ (o : Effect). Stands o.state) (job_is false s h) st))
  where
    go : Or (Stands s) (⊥ × VerifyRow s running) → v ≡ true
    go (this x) = f x
    go (that x) = absurd x.0

-- a row with a job was there before the event, on the same blob
row-was : (s : State) (e : Event) → is_sound s ≡ true → (x : ℕ) → Live x (next s e) → status_of ((in_row x).get (next s e)) ≢ untried → (Live x s) × (blob x (next s e) ≡ blob x s)
row-was s (message t m) h x l n =
    let e = respond-is t m s h in
    let k = (message-moves (decoded m) t m s (sound-of-test s h)).rows-from x (subst (λ (o : Effect). Live x o.state) e l) (subst (λ (o : Effect). status_of ((in_row x).get o.state) ≢ untried) e n) in
    (k.0, ap (λ (o : Effect). blob x o.state) e ∙ k.1)
row-was s (job_ended good) h x l n =
    let e = job_is good s h in
    let k = (flow-session OnFlash 0 (end_job good) s (sound-of-test s h)).row_from x (subst (λ (o : Effect). Live x o.state) e l) in
    (k.0, ap (λ (o : Effect). blob x o.state) e ∙ k.1)

-- an update session is open only in phase Verified
update-phase : (s : State) → Sound s → (x : ℕ) → Live x s → blob x s ≡ update_blob → s.flash_group.phase ≡ Verified
update-phase s g x l e =
    let f : FlashSession ((in_row x).get s) s.flash_group = subst (λ (p : Place). Session p ((in_row x).get s) ((in_body p).get s)) (place-flash (blob x s) (omega (arith, e))) (g.session x l) in
    subst (λ (k : FlashKind). PhaseOk k (status_of ((in_row x).get s)) s.flash_group.phase) (ap kind_of e ∙ update-kind) f.phased

update-stands : (s : State) (e : Event) → is_sound s ≡ true → starts_update s e ≡ true → Stands s
unfolding job_state
update-stands s e h st =
    go (row_found (OnBlob update_blob) (next s e)) refl
    (eqb-true (status_at (row_found (OnBlob update_blob) (next s e)) (next s e)) 1 (and-true (not (eqb (job_state Update s) running)) (eqb (job_state Update (next s e)) running) st).1)
  where
    go : (o : Option ℕ) → row_found (OnBlob update_blob) (next s e) ≡ o → status_at o (next s e) ≡ running → Stands s
    go none q z = absurd (omega arith)
    go (some x) q z =
        let a = on_row_lem (next s e) update_blob x q in
        let b = row-was s e h x a.0 (omega arith) in
        this (update-phase s (sound-of-test s h) x b.0 (sym b.1 ∙ a.1))

-- every event keeps a sound state sound
pub next-sound : (s : State) (e : Event) → is_sound s ≡ true → is_sound (next s e) ≡ true
next-sound s (message t m) h = respond-sound t m s h
next-sound s (job_ended good) h = job-sound good s h

-- EVERY HISTORY KEEPS A SOUND STATE SOUND
pub run_sound : (es : List Event) (s : State) → is_sound s ≡ true → is_sound (run s es) ≡ true
run_sound [] s h = h
run_sound (e ∷ es) s h = run_sound es (next s e) (next-sound s e h)

promise : (es : List Event) (v : Bool) (s : State) → is_sound s ≡ true → (Stands s → v ≡ true) → (e : Event) → starts_update (run s es) e ≡ true → verified_since v s es ≡ true
promise [] v s h f e st = f (update-stands s e h st)
promise (d ∷ es) v s h f e st = promise es (watch v s d) (next s d) (next-sound s d h) (λ (x : Stands (next s d)). stands-watch v s d h f x) e st

fresh-not : Stands fresh → ⊥
unfolding fresh
fresh-not (this h) = let z : ◌≡◌ {A = ℕ} 0 1 = cc in omega arith
fresh-not (that h) = let z = bit-zero h.row in let u : bit h.row 0 ≡ 1 = h.live.1 in omega arith

-- AN UPDATE JOB STARTS ONLY IF THE IMAGE WAS VERIFIED SINCE IT WAS LAST OPENED, OR, IF NEVER OPENED, VERIFIED AT ALL (rule 21.6)
pub update-verified : (es : List Event) (e : Event) → starts_update (run fresh es) e ≡ true → verified_since false fresh es ≡ true
update-verified es e st = promise es false fresh fresh-sound (λ (x : Stands fresh). absurd (fresh-not x)) e st

-- two flash names are not open together
open_row : (k : FlashKind) (s : State) → is_open k s ≡ true → (x : ℕ) × (Live x s) × (blob x s ≡ flash_number k)
unfolding is_open
open_row k s h = go (row_found (OnBlob (flash_number k)) s) refl h
  where
    go : (o : Option ℕ) → row_found (OnBlob (flash_number k)) s ≡ o → is_some o ≡ true → (x : ℕ) × (Live x s) × (blob x s ≡ flash_number k)
    go none e q = absurd (true≢false (sym q))
    go (some x) e q = let a = on_row_lem s (flash_number k) x e in (x, a.0, a.1)

not-together : (j k : FlashKind) (s : State) → is_sound s ≡ true → flash_number j ≢ flash_number k → slot_count ≤ flash_number j → slot_count ≤
    flash_number k → is_open j s ≡ true → is_open k s ≡ true → ⊥
not-together j k s h n hj hk a b =
    let x = open_row j s a in
    let y = open_row k s b in
    let d : x.0 ≢ y.0 = λ (e : x.0 ≡ y.0). n (sym x.2 ∙ ap (λ (z : ℕ). blob z s) e ∙ y.2) in
    (apart-blobs (blob x.0 s) (blob y.0 s) ((sound-of-test s h).spots x.0 y.0 x.1 y.1 d)).1 (subst (λ (z : ℕ). slot_count ≤ z) (sym x.2) hj) (subst (λ (z : ℕ). slot_count ≤ z) (sym y.2) hk)

both-not : (a b c : Bool) → (a ≡ true → c ≡ true → ⊥) → (b ≡ true → c ≡ true → ⊥) → (a || b) && c ≡ false
both-not true b true f g = absurd (f refl refl)
both-not true b false f g = refl
both-not false true true f g = absurd (g refl refl)
both-not false true false f g = refl
both-not false false c f g = refl

-- IMAGE OR HASH AND VERIFY ARE NEVER OPEN TOGETHER (rule 21.5)
pub never-together : (es : List Event) → (is_open Image (run fresh es) || is_open Hash (run fresh es)) && is_open Verify (run fresh es) ≡ false
never-together es =
    let s = run fresh es in
    let h : is_sound s ≡ true = run_sound es fresh fresh-sound in
    both-not (is_open Image s) (is_open Hash s) (is_open Verify s) (not-together Image Verify s h (omega arith) (omega arith) (omega arith))
    (not-together Hash Verify s h (omega arith) (omega arith) (omega arith))

watched : (es : List Event) (v : Bool) (s : State) → verified_since v s es ≡ true → Or ((v ≡ true) × NeverOpens s es) (VerifiedIn s es)
watched [] v s h = this (h, tt)
watched (e ∷ es) v s h = go (watched es (watch v s e) (next s e) h)
  where
    here : (o y : Bool) → opens_image s e ≡ o → verifies_image s e ≡ y → cond o false (cond y true v) ≡ true → NeverOpens (next s e) es → Or
        ((v ≡ true) × NeverOpens s (e ∷ es)) (VerifiedIn s (e ∷ es))
    here true y p q w n = absurd (true≢false (sym w))
    here false true p q w n = that (record { earlier = []; event = e; later = es; is-history = refl; verifies = q; not_opened = n })
    here false false p q w n = this (w, (p, n))

    go : Or ((watch v s e ≡ true) × NeverOpens (next s e) es) (VerifiedIn (next s e) es) → Or ((v ≡ true) × NeverOpens s (e ∷ es)) (VerifiedIn s (e ∷ es))
    go (this x) = here (opens_image s e) (verifies_image s e) refl refl x.0 x.1
    go (that x) = that (record {
      earlier = e ∷ x.earlier;
      event = x.event;
      later = x.later;
      is-history = ap (λ (l : List Event). e ∷ l) x.is-history;
      verifies = x.verifies;
      not_opened = x.not_opened;
    })

-- AN UPDATE JOB STARTS ONLY IF THE HISTORY HAS A VERIFICATION AFTER WHICH THE IMAGE WAS NOT OPENED (rule 21.6)
pub update-after-verify : (es : List Event) (e : Event) → starts_update (run fresh es) e ≡ true → VerifiedIn fresh es
update-after-verify es e st = go (watched es false fresh (update-verified es e st))
  where
    go : Or ((false ≡ true) × NeverOpens fresh es) (VerifiedIn fresh es) → VerifiedIn fresh es
    go (this x) = absurd (true≢false (sym x.0))
    go (that x) = x
