-- A job starts by a Commit of its own session and by nothing else: no other message, no sweep. Assumes nothing.
use Rattle.std.proofs.Math.Path.{◌≡◌, refl, sym}
use Rattle.std.proofs.Common.{◌∙◌, ap, subst, arith}
use Rattle.std.specs.Prelude.{◌≢◌, Bool, cond, ◌&&◌, List, [], ◌∷◌, ℕ, zero, suc, ◌≤◌, ◌<◌, eqb, length, get_or, drop}
use Rattle.std.proofs.Math.Logic.{Ne-symm}
use Rattle.std.proofs.Math.Bool.{true, false}
use Rattle.std.proofs.Math.Option.{Option, none, some}
use Rattle.std.proofs.Math.Decide.{ℕ_discrete}
use borrow.Author.Tests.{eqb-true}
use Rattle.laws.specs.All.{Or, this, that, and-true}
use Rattle.laws.specs.Ranges.{part}
use Rattle.protocol.specs.Numbers.{row_count, row_words, status_unit, write_only, running, succeeded, failed, image_size, hash_size, image_blob, hash_blob, verify_blob, update_blob, cleanup_blob, not_found, busy}
use Rattle.protocol.specs.Names.{kind_of, flash_number, no_kind}
use Rattle.protocol.specs.Decode.{decoded}
use Rattle.protocol.specs.Frame.{Reply, refused, done}
use Rattle.protocol.specs.declared.FlashKind.{FlashKind}
use Rattle.protocol.specs.declared.FlashKind.TheVariants.{Image, Hash, Verify, Update, Cleanup}
use Rattle.protocol.specs.declared.Blob.{Blob}
use Rattle.protocol.specs.declared.Blob.TheVariants.{Store, Flash, Base, Unknown}
use Rattle.protocol.specs.declared.Request.{Request}
use Rattle.protocol.specs.declared.Request.TheVariants.{Count, Enumerate, Open, Read, Write, Commit, Close, Delete, Stat, SessionStat, WriteMeta, Refused}
use Rattle.state.specs.declared.row.Place.{Place}
use Rattle.state.specs.declared.row.Place.TheVariants.{AtSlot, AtFlash}
use Rattle.state.specs.declared.row.Wanted.TheVariants.{Id, OnBlob}
use Rattle.state.specs.State.{State, Row, FlashBody, Body, place_of, in_row, in_body, cell}
use Rattle.state.specs.Parts.{row-view-fits}
use Rattle.state.proofs.Parts.{cell-row-other, row_put}
use Rattle.state.specs.Words.{blob_of, status_in, status_of, ident, blob, in_use, Live, stamped, with_status, free_slot, status-with, store_flags, store-flags}
use Rattle.state.specs.Soundness.{slot_at, is_sound}
use Rattle.state.specs.Facts.{Sound}
use Rattle.state.specs.Agree.{sound-of-test}
use Rattle.rules.specs.Command.{Command, read, write, commit, stat, close, write_meta, end_job, Out, commit_fits}
use Rattle.rules.specs.Flash.{write_flash, commit_kind, commit_flash, close_flash, job_ends, on_flash}
use Rattle.rules.specs.Session.{on_part, on_row, on_found, on_session, row_found}
use Rattle.rules.specs.Sweep.{stale, sweep_row, sweep_rows, noted, due, swept}
use Rattle.rules.specs.Lookup.{slot_named, free_row_in, fresh_id}
use Rattle.rules.specs.Opening.{new_row, opened, new_slot, held_slot, opened_flash}
use Rattle.rules.specs.Open.{open_store, open_flash, open_blob}
use Rattle.rules.specs.Named.{delete_store, delete_blob}
use Rattle.rules.specs.Respond.{Effect, answered, respond}
use Rattle.rules.proofs.Laws.{respond-is, other-rows, placed-has, some-has, none_has, stamped-status, status-set}
use Rattle.rules.proofs.OpenLaws.{open-store-has, open-flash-has}
use Rattle.rules.specs.Searches.{found-row, free-row}
use Rattle.rules.proofs.Change.{Proper, row_new}
use Rattle.rules.proofs.Excluded.{HasJob}
use Rattle.guarantees.proofs.Merging.{proper-row}
use Rattle.guarantees.proofs.Keep.{sweep-rows-sound, swept-sound}
use Rattle.answers.specs.OnlyCommit.{Own}

-- ---- a session's command
-- the command starts the job of a session on this flash name: a Commit, its length byte right, of verify or update
abbrev Starts : FlashKind → Command → Type 0
Starts k (read offset n) = ⊥
Starts k (write offset ws) = ⊥
Starts k (commit len rest) = (len ≡ 0) × (rest ≡ 0) × HasJob k
Starts k stat = ⊥
Starts k close = ⊥
Starts k write_meta = ⊥
Starts k (end_job good) = ⊥

module _ (t : ℕ) (r : Row) (b : FlashBody) (four : length r.words ≡ row_words) where
  -- of the row q after it: a job that runs did so before, or S
  abbrev Runs : Type 0 → Row → Type 0
  Runs S q = status_of q ≡ running → Or (status_of r ≡ running) S

  same_runs : (S : Type 0) → Runs S r
  same_runs S h = this h

  later-runs : (S : Type 0) → Runs S (stamped t r)
  later-runs S h = this (sym (stamped-status t r) ∙ h)

  other-status : (S : Type 0) (v : ℕ) → v < 4 → v ≢ running → Runs S (with_status v r)
  other-status S v l n h = absurd (n (sym (status-set v r four l) ∙ h))

  write-runs : (k : FlashKind) (ws : List ℕ) (offset : ℕ) → Runs ⊥ (write_flash k t offset ws r b).1.0
  unfolding write_flash
  write-runs Image ws offset = placed-has image_size b.image_len offset (length ws) r b _ (λ (o : Out FlashBody). Runs ⊥ o.1.0) (λ _ _. later-runs ⊥) (λ (code : ℕ). same_runs ⊥)
  write-runs Hash ws offset = placed-has hash_size b.hash_len offset (length ws) r b _ (λ (o : Out FlashBody). Runs ⊥ o.1.0) (λ _ _. later-runs ⊥) (λ (code : ℕ). same_runs ⊥)
  write-runs Verify ws offset = same_runs ⊥
  write-runs Update ws offset = same_runs ⊥
  write-runs Cleanup ws offset = same_runs ⊥

  kind-runs : (S : Type 0) (k : FlashKind) → (HasJob k → S) → Runs S (commit_kind k t r b).1.0
  unfolding commit_kind
  kind-runs S Image f = same_runs S
  kind-runs S Hash f = same_runs S
  kind-runs S Verify f = λ _. that (f tt)
  kind-runs S Update f = λ _. that (f tt)
  kind-runs S Cleanup f = λ h. absurd (let z = status-set succeeded r four (omega arith) in let y = stamped-status t (with_status succeeded r) in omega arith)

  commit-runs : (k : FlashKind) (len rest : ℕ) (y : Bool) → commit_fits len rest ≡ y → Runs (Starts k (commit len rest)) (commit_flash y k t r b).1.0
  unfolding commit_flash
  commit-runs k len rest true e =
      let a = and-true (eqb len rest) (eqb len 0) e in
      let x = eqb-true len rest a.0 in
      let y = eqb-true len 0 a.1 in
      kind-runs (Starts k (commit len rest)) k (λ (h : HasJob k). (y, sym x ∙ y, h))
  commit-runs k len rest false e = same_runs (Starts k (commit len rest))

  close-runs : (y : Bool) (k : FlashKind) → Runs ⊥ (close_flash y k r b).1.0
  unfolding close_flash
  close-runs true k = same_runs ⊥
  close-runs false k = λ (h : ◌≡◌ {A = ℕ} 0 1). absurd (omega arith)

  job-runs : (y good : Bool) → Runs ⊥ (job_ends y good r b).1.0
  unfolding job_ends
  job-runs true true = other-status ⊥ succeeded (omega arith) (omega arith)
  job-runs true false = other-status ⊥ failed (omega arith) (omega arith)
  job-runs false good = same_runs ⊥

  flash-runs : (k : FlashKind) (c : Command) → Runs (Starts k c) (on_flash k t c r b).1.0
  unfolding on_flash
  flash-runs k (read offset n) = same_runs ⊥
  flash-runs k (write offset ws) = write-runs k ws offset
  flash-runs k (commit len rest) = commit-runs k len rest (commit_fits len rest) refl
  flash-runs k stat = later-runs ⊥
  flash-runs k close = close-runs (eqb (status_of r) running) k
  flash-runs k write_meta = same_runs ⊥
  flash-runs k (end_job good) = job-runs (eqb (status_of r) running) good

-- a store session has no job, before and after
part-runs : (p : Place) (t : ℕ) (c : Command) (r : Row) (b : Body p) → length r.words ≡ row_words → Proper p r (on_part p t c r b).1.0 b
    (on_part p t c r b).1.1 → status_of (on_part p t c r b).1.0 ≡ running
    → Or (status_of r ≡ running) (Starts (kind_of (blob_of r)) c)
part-runs (AtSlot k) t c r b four pr h = absurd (go (ℕ_discrete (on_part (AtSlot k) t c r b).1.0.used 1))
  where
    q : Row
    q = (on_part (AtSlot k) t c r b).1.0

    go : Dec (q.used ≡ 1) → ⊥
    go (yes u) = let z = (pr.kept u).2.no-status in omega arith
    go (no n) =
        let f = pr.row_fits.flag in
        let w : q.words ≡ 0 ∷ 0 ∷ 0 ∷ 0 ∷ [] = (pr.freed (omega arith)).0 in
        let z : status_of q ≡ 0 = ap (λ (x : List ℕ). status_in (get_or x 2 0)) w in omega arith
part-runs AtFlash t c r b four pr h = flash-runs t r b four (kind_of (blob_of r)) c h

-- in the state: of row i after a command on the session of row r
row-runs : (s : State) → Sound s → (r : ℕ) → Live r s → (t : ℕ) (c : Command) (i : ℕ) → status_of ((in_row i).get (on_row r t c s).1) ≡ running
    → Or (status_of ((in_row i).get s) ≡ running) ((i ≡ r) × Starts (kind_of (blob r s)) c)
row-runs s g r l t c i h = go (ℕ_discrete i r)
  where
    p : Place
    p = place_of (blob r s)

    out : Row × Body (place_of (blob r s))
    out = (on_part (place_of (blob r s)) t c ((in_row r).get s) ((in_body (place_of (blob r s))).get s)).1

    here : i ≡ r → Or (status_of ((in_row r).get s) ≡ running) (Starts (kind_of (blob r s)) c) → Or (status_of ((in_row i).get s) ≡ running) ((i ≡ r) × Starts (kind_of (blob r s)) c)
    here e (this x) = this (ap (λ (y : ℕ). status_of ((in_row y).get s)) e ∙ x)
    here e (that x) = that (e, x)

    go : Dec (i ≡ r) → Or (status_of ((in_row i).get s) ≡ running) ((i ≡ r) × Starts (kind_of (blob r s)) c)
    go (yes e) =
        here e (part-runs (place_of (blob r s)) t c ((in_row r).get s) ((in_body (place_of (blob r s))).get s) (row-view-fits r s l.0 g.shape).four (proper-row s g r l t c)
        (sym (ap status_of (row_new s g r l out.0 out.1 (proper-row s g r l t c))) ∙ sym (ap (λ (y : ℕ). status_of ((in_row y).get (on_row r t c s).1)) e) ∙ h))
    go (no n) = this (sym (ap status_of (other-rows r i t c s (Ne-symm n))) ∙ h)

-- ---- the sweep and Open
-- from s to y no job of row i starts
abbrev Quiet : ℕ → State → State → Type 0
Quiet i s y = status_of ((in_row i).get y) ≡ running → status_of ((in_row i).get s) ≡ running

sweep-quiet : (t r i : ℕ) (s : State) → Sound s → r < row_count → Quiet i s (sweep_row t r s)
unfolding sweep_row
sweep-quiet t r i s g low = go (in_use r s && stale t ((in_row r).get s)) refl
  where
    ran : Or (status_of ((in_row i).get s) ≡ running) ((i ≡ r) × ⊥) → status_of ((in_row i).get s) ≡ running
    ran (this x) = x
    ran (that x) = absurd x.1

    go : (y : Bool) → in_use r s && stale t ((in_row r).get s) ≡ y → Quiet i s (cond y (on_row r t close s).1 s)
    go true e h = ran (row-runs s g r (low, eqb-true ((in_row r).get s).used 1 (and-true (in_use r s) (stale t ((in_row r).get s)) e).0) t close i h)
    go false e h = h

sweeps-quiet : (t n i : ℕ) (s : State) → Sound s → n ≤ row_count → Quiet i s (sweep_rows t n s)
unfolding sweep_rows
sweeps-quiet t zero i s g l h = h
sweeps-quiet t (suc n) i s g l h = sweeps-quiet t n i s g (omega arith) (sweep-quiet t n i (sweep_rows t n s) (sweep-rows-sound t n s (omega arith) g) l h)

swept-quiet : (t i : ℕ) (s : State) → Sound s → Quiet i s (swept t s)
unfolding swept
swept-quiet t i s g = go (due t s)
  where
    go : (y : Bool) → Quiet i s (cond y (noted t (sweep_rows t row_count s)) s)
    go true = sweeps-quiet t row_count i s g (omega arith)
    go false = λ h. h

module _ (t i : ℕ) (s : State) (g : Sound s) where
  abbrev After : Reply × State → Type 0
  After o = Quiet i s o.1

  -- a session that was just opened has tried no job
  opened-quiet : (p : Place) (r b flags clean : ℕ) (body : Body p) → flags < status_unit → clean < 2 → free_row_in s ≡ some r → After (opened p r b flags clean t body s)
  unfolding opened
  opened-quiet p r b flags clean body hf hc e h = go (ℕ_discrete i r)
    where
      row : Row
      row = new_row (fresh_id s) b flags clean t

      new : (in_row r).get ((cell r p).put (row, body) s) ≡ row
      new = row_put r p (row, body) s (free-row s r e).0 g.shape.table-size (record { four = refl; flag = omega arith })

      go : Dec (i ≡ r) → status_of ((in_row i).get s) ≡ running
      go (yes q) = absurd (
          let z = status-with flags 0 clean hf (omega arith) hc in
          let y : status_of row ≡ running = sym (ap status_of new) ∙ sym (ap (λ (x : ℕ). status_of ((in_row x).get ((cell r p).put (row, body) s))) q) ∙ h in omega arith)
      go (no n) = sym (ap status_of (cell-row-other r i p (row, body) s (Ne-symm n))) ∙ h

  flags-small : (flags : ℕ) → store_flags flags ≡ true → flags < status_unit
  flags-small flags f = go (store-flags flags f)
    where
      go : Or (flags ≡ 1) (flags ≡ 3) → flags < status_unit
      go (this e) = omega arith
      go (that e) = omega arith

  store-quiet : (n : List ℕ) (flags : ℕ) → After (open_store n flags t s)
  store-quiet n flags =
      open-store-has After s (λ _ _ h. h) n flags t (λ (r k : ℕ) f _ _ e. opened-quiet (AtSlot k) r k flags 1 (held_slot flags (slot_at k s)) (flags-small flags f) (omega arith) e)
      (λ (r k : ℕ) f _ _ e _. opened-quiet (AtSlot k) r k flags 0 (new_slot n) (flags-small flags f) (omega arith) e)

  flash-quiet : (k : FlashKind) (flags : ℕ) → After (open_flash k flags t s)
  flash-quiet k flags = open-flash-has After s (λ _ _ h. h) k flags t (λ (r : ℕ) _ _ _ e. opened-quiet AtFlash r (flash_number k) write_only 0
      (opened_flash k s.flash_group) (omega arith) (omega arith) e)

  open-quiet : (m : List ℕ) (b : Blob) (flags : ℕ) → After (open_blob b flags t m s)
  unfolding open_blob
  open-quiet m (Store at len) flags = store-quiet (part at len m) flags
  open-quiet m (Flash k) flags = flash-quiet k flags
  open-quiet m Base flags = λ h. h
  open-quiet m Unknown flags = λ h. h

  delete-quiet : (m : List ℕ) (b : Blob) → After (delete_blob b m s)
  unfolding delete_blob delete_store
  delete-quiet m (Store at len) =
      some-has After (slot_named (part at len m) s) (refused not_found, s) _ (λ h. h)
      (λ (k : ℕ) _. none_has After (row_found (OnBlob k) s) (refused busy, s) (done, (in_body (AtSlot k)).put free_slot s) (λ h. h) (λ _ h. h))
  delete-quiet m (Flash k) = λ h. h
  delete-quiet m Base = λ h. h
  delete-quiet m Unknown = λ h. h

-- ---- every message
-- the name of a job
job-if : (a b c d e : Bool) → HasJob (cond a Image (cond b Hash (cond c Verify (cond d Update (cond e Cleanup no_kind))))) → Or (c ≡ true) (d ≡ true)
job-if true b c d e h = absurd h
job-if false true c d e h = absurd h
job-if false false true d e h = this refl
job-if false false false true e h = that refl
job-if false false false false true h = absurd h
job-if false false false false false h = absurd h

job-blob : (b : ℕ) → HasJob (kind_of b) → Or (b ≡ verify_blob) (b ≡ update_blob)
unfolding kind_of
job-blob b h = go (job-if (eqb b image_blob) (eqb b hash_blob) (eqb b verify_blob) (eqb b update_blob) (eqb b cleanup_blob) h)
  where
    go : Or (eqb b verify_blob ≡ true) (eqb b update_blob ≡ true) → Or (b ≡ verify_blob) (b ≡ update_blob)
    go (this e) = this (eqb-true b verify_blob e)
    go (that e) = that (eqb-true b update_blob e)

module _ (t i : ℕ) (m : List ℕ) (s : State) (g : Sound s) where
  -- a job of row i that runs did so before, or q started it
  abbrev Begins : Request → Type 0
  Begins q = Or (status_of ((in_row i).get s) ≡ running) (Own i s q)

  session-begins : (q : Request) (id : ℕ) (c : Command) → ((r : ℕ) → Live r s → ident r s ≡ id → i ≡ r → Starts (kind_of (blob r s)) c → Own i s q)
      → status_of ((in_row i).get (on_session (Id id) t c s).1) ≡ running → Begins q
  unfolding on_session
  session-begins q id c f = go (row_found (Id id) s) refl
    where
      at : (r : ℕ) → Live r s → ident r s ≡ id → Or (status_of ((in_row i).get s) ≡ running) ((i ≡ r) × Starts (kind_of (blob r s)) c) → Begins q
      at r l e (this x) = this x
      at r l e (that x) = that (f r l e x.0 x.1)

      go : (o : Option ℕ) → row_found (Id id) s ≡ o → status_of ((in_row i).get (on_found o (Id id) t c s).1) ≡ running → Begins q
      go none e h = this h
      go (some r) e h = let w = found-row (Id id) s r e in at r w.0 (eqb-true (ident r s) id w.1) (row-runs s g r w.0 t c i h)

  own-commit : (id len rest r : ℕ) → Live r s → ident r s ≡ id → i ≡ r → Starts (kind_of (blob r s)) (commit len rest) → Own i s (Commit id len rest)
  own-commit id len rest r l e q h =
      subst (λ (x : ℕ). Own x s (Commit id len rest)) (sym q) (record { is_live = l; on-job = job-blob (blob r s) h.2; commits = λ j. Commit (sym e j) (h.0 j) (h.1 j) })

  begins : (q : Request) → status_of ((in_row i).get (answered q t m s).1) ≡ running → Begins q
  unfolding answered
  begins Count h = this h
  begins (Enumerate index) h = this h
  begins (Open flags b) h = this (swept-quiet t i s g (open-quiet t i (swept t s) (swept-sound t s g) m b flags h))
  begins (Read session offset n) h = session-begins (Read session offset n) session (read offset n) (λ r l e q x. absurd x) h
  begins (Write session offset start) h = session-begins (Write session offset start) session (write offset (drop start m)) (λ r l e q x. absurd x) h
  begins (Commit session len rest) h = session-begins (Commit session len rest) session (commit len rest) (own-commit session len rest) h
  begins (Close session) h = session-begins (Close session) session close (λ r l e q x. absurd x) h
  begins (Delete b) h = this (delete-quiet t i s g m b h)
  begins (Stat b) h = this h
  begins (SessionStat session) h = session-begins (SessionStat session) session stat (λ r l e q x. absurd x) h
  begins (WriteMeta session) h = session-begins (WriteMeta session) session write_meta (λ r l e q x. absurd x) h
  begins (Refused code) h = this h

-- A JOB THAT RUNS AFTER A MESSAGE AND DID NOT BEFORE WAS STARTED BY THAT MESSAGE, A COMMIT OF ITS OWN SESSION ON VERIFY OR UPDATE (rules 12.4 and 12.5)
pub only-commit-starts : (t i : ℕ) (m : List ℕ) (s : State) → is_sound s ≡ true → status_of ((in_row i).get s) ≢ running → status_of
    ((in_row i).get (respond t m s).state) ≡ running → Own i s (decoded m)
only-commit-starts t i m s h n r = go (begins t i m s (sound-of-test s h) (decoded m) (sym (ap (λ (o : Effect). status_of ((in_row i).get o.state)) (respond-is t m s h)) ∙ r))
  where
    go : Or (status_of ((in_row i).get s) ≡ running) (Own i s (decoded m)) → Own i s (decoded m)
    go (this e) = absurd (n e)
    go (that x) = x
