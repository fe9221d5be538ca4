-- A COMMITTED SCAN IS SAFE: over every history it stays what it is until a Commit of a session on its very name, or a Delete of it, is accepted. Assumes nothing.
use Rattle.std.specs.Prelude.{◌≡◌, Bool, not, cond, ◌&&◌, List, [], ◌∷◌, eqb}
use Rattle.std.proofs.Math.Path.{refl}
use Rattle.std.proofs.Common.{sym, ◌∙◌, ap, subst}
use Rattle.std.proofs.Math.Logic.{Ne-symm}
use Rattle.std.proofs.Math.Bool.{true, false}
use Rattle.std.proofs.Math.Option.{Option, none, some}
use Prim.Native.Nat.{ℕ, zero, suc, ◌≤◌, ◌<◌}
use native.Mathlib.Omega.{arith}
use Rattle.std.proofs.Math.Decide.{ℕ_discrete}
use borrow.Author.Tests.{eqb-true, eqb-false, lt-ltb, not-true}
use Rattle.std.proofs.lemmas.List.{length-replicate}
use Rattle.laws.specs.All.{and-true}
use Rattle.laws.specs.Bytes.{same, padded, padded-length}
use Rattle.laws.specs.Find.{first, found, first-ext}
use Rattle.laws.specs.Ranges.{part}
use Rattle.protocol.specs.Numbers.{row_count, slot_count, slot_size, name_size, success, not_found, busy}
use Rattle.protocol.specs.Decode.{decoded}
use Rattle.protocol.specs.Frame.{Reply, refused, done}
use Rattle.protocol.specs.declared.Blob.{Blob}
use Rattle.protocol.specs.declared.Blob.TheVariants.{Store, Flash, Base, Unknown}
use Rattle.protocol.specs.declared.Request.{Request}
use Rattle.protocol.specs.declared.Request.TheVariants.{Count, Enumerate, Open, Read, Write, Commit, Close, Delete, Stat, SessionStat, WriteMeta, Refused}
use Rattle.state.specs.declared.row.Place.TheVariants.{AtSlot}
use Rattle.state.specs.State.{State, Row, Slot, in_row, in_body, cell}
use Rattle.state.specs.Parts.{FitsSlot, body-view-fits}
use Rattle.state.proofs.Parts.{cell-body-other, row-body, body-indep, body-get-put}
use Rattle.state.specs.Words.{writes_with, free_slot, in_use, blob, Live}
use Rattle.state.specs.Soundness.{slot_at, is_sound}
use Rattle.state.specs.Facts.{Sound}
use Rattle.state.specs.Agree.{sound-of-test, test-of-sound, free-of-test}
use Rattle.rules.specs.Store.{with_staged}
use Rattle.rules.specs.Command.{Command, read, commit, stat, close, write_meta, end_job}
use Rattle.state.specs.declared.row.Wanted.{Wanted}
use Rattle.state.specs.declared.row.Wanted.TheVariants.{Id, OnBlob, OnFlash}
use Rattle.rules.specs.Checks.{whether}
use Rattle.rules.specs.Session.{on_row, on_found, on_session, row_found}
use Rattle.rules.specs.Sweep.{stale, sweep_row, sweep_rows, noted, due, swept}
use Rattle.rules.specs.Lookup.{slot_named, free_slot_in, fresh_id}
use Rattle.rules.specs.Opening.{new_row, opened, new_slot, held_slot}
use Rattle.rules.specs.Open.{open_blob}
use Rattle.rules.specs.Named.{delete_blob, delete_store}
use Rattle.rules.specs.Respond.{Effect, answered, respond, job_outcome}
use Rattle.rules.proofs.Laws.{respond-is, job_is, cond_has, some-has, none_has}
use Rattle.rules.proofs.OpenLaws.{open-store-has, open-flash-has}
use Rattle.rules.specs.Searches.{found-live, free-slot, named-slot}
use Rattle.guarantees.specs.Merging.{Event, message, job_ended}
use Rattle.guarantees.proofs.StorePart.{freed-fits}
use Rattle.guarantees.proofs.Keep.{sweep-rows-sound, swept-sound}
use Rattle.guarantees.proofs.Refusals.{refused-message}
use Rattle.guarantees.specs.Refusals.{left_by, left_in}
use Rattle.guarantees.proofs.FlashPromise.{next-sound}
use Rattle.guarantees.specs.FlashPromise.{next, run}
use Rattle.rules.proofs.Committed.{Scan, scan_in, same_name, has_name, committed_as, Alike, alike-eq, alike_then, alike-off, off-name, off-mark, Spares, staged-anew, leaves-store}
use Rattle.scans.proofs.Scan.{scan_of, on_name, deletes, asks_to_replace, replaces, left_alone}
use Rattle.guarantees.proofs.After.{own-part, other-slot}

-- where every slot has the same committed under a name, so has the state
scan-same : (n : List ℕ) (s s' : State) → ((k : ℕ) → k < slot_count → Alike n (slot_at k s) (slot_at k s')) → scan_of n s' ≡ scan_of n s
unfolding scan_of
scan-same n s s' h =
    ap (λ (o : Option ℕ). whether o (λ (k : ℕ). some (scan_in (slot_at k s'))) none) (first-ext (test s') (test s) slot_count (λ (k : ℕ) (l : k < slot_count). (h k l).same_test))
    ∙ go (first (test s) slot_count) refl
  where
    test : State → ℕ → Bool
    test x k = committed_as n (slot_at k x)

    go : (o : Option ℕ) → first (test s) slot_count ≡ o
        → ◌≡◌ {A = Option Scan} (whether o (λ (k : ℕ). some (scan_in (slot_at k s'))) none) (whether o (λ (k : ℕ). some (scan_in (slot_at k s))) none)
    go none e = refl
    go (some k) e = let f = found (test s) slot_count k e in ap some ((h k f.low).same-scan f.passes)

-- ---- in the state
-- every slot has the same committed under n
abbrev All : List ℕ → State → State → Type 0
All n s s' = (k : ℕ) → k < slot_count → Alike n (slot_at k s) (slot_at k s')

all_same : (n : List ℕ) (s : State) → All n s s
all_same n s k h = alike-eq n (slot_at k s) (slot_at k s) refl

all_then : (n : List ℕ) (s x y : State) → All n s x → All n x y → All n s y
all_then n s x y f g k h = alike_then n (slot_at k s) (slot_at k x) (slot_at k y) (f k h) (g k h)

module _ (n : List ℕ) where
  row-leaves : (s : State) → Sound s → (r : ℕ) → Live r s → (t : ℕ) (c : Command) → (blob r s < slot_count → Spares n (slot_at (blob r s) s) c) → All n s (on_row r t c s).1
  row-leaves s g r l t c f k h = go (ℕ_discrete k (blob r s))
    where
      own : blob r s < slot_count → Alike n (slot_at (blob r s) s) (slot_at (blob r s) (on_row r t c s).1)
      own low = subst (Alike n (slot_at (blob r s) s)) (sym (ap (λ (x : Row × Slot). x.1) (own-part s g r l t c low))) (leaves-store n t ((in_row r).get s) (slot_at (blob r s) s) c (f low))

      go : Dec (k ≡ blob r s) → Alike n (slot_at k s) (slot_at k (on_row r t c s).1)
      go (yes e) = subst (λ (x : ℕ). Alike n (slot_at x s) (slot_at x (on_row r t c s).1)) (sym e) (own (omega arith))
      go (no m) = alike-eq n (slot_at k s) (slot_at k (on_row r t c s).1) (other-slot s g r l t c k h m)

  session-leaves : (a : Wanted) (t : ℕ) (c : Command) (s : State) → Sound s → ((r : ℕ) → row_found a s ≡ some r → blob r s < slot_count → Spares n
      (slot_at (blob r s) s) c) → All n s (on_session a t c s).1
  unfolding on_session
  session-leaves a t c s g f = go (row_found a s) refl
    where
      go : (o : Option ℕ) → row_found a s ≡ o → All n s (on_found o a t c s).1
      go none e = all_same n s
      go (some r) e = row-leaves s g r (found-live a s r e) t c (f r e)

  -- ---- the sweep
  sweep-leaves : (t r : ℕ) (s : State) → r < row_count → Sound s → All n s (sweep_row t r s)
  unfolding sweep_row
  sweep-leaves t r s low g = go (in_use r s && stale t ((in_row r).get s)) refl
    where
      go : (y : Bool) → in_use r s && stale t ((in_row r).get s) ≡ y → All n s (cond y (on_row r t close s).1 s)
      go true e = row-leaves s g r (low, eqb-true ((in_row r).get s).used 1 (and-true (in_use r s) (stale t ((in_row r).get s)) e).0) t close (λ _. tt)
      go false e = all_same n s

  sweeps-leave : (t i : ℕ) (s : State) → i ≤ row_count → Sound s → All n s (sweep_rows t i s)
  unfolding sweep_rows
  sweeps-leave t zero s h g = all_same n s
  sweeps-leave t (suc i) s h g =
      let low : i ≤ row_count = omega arith in
      all_then n s (sweep_rows t i s) (sweep_row t i (sweep_rows t i s)) (sweeps-leave t i s low g) (sweep-leaves t i (sweep_rows t i s) h (sweep-rows-sound t i s low g))

  swept-leaves : (t : ℕ) (s : State) → Sound s → All n s (swept t s)
  unfolding swept
  swept-leaves t s g = cond_has (All n s) (due t s) (noted t (sweep_rows t row_count s)) s (sweeps-leave t row_count s (omega arith) g) (all_same n s)

  -- ---- Open
  opened-leaves : (j r flags clean t : ℕ) (body : Slot) (s : State) → Sound s → j < slot_count → FitsSlot body → Alike n (slot_at j s) body → All n s (opened (AtSlot j) r j flags clean t body s).1
  unfolding opened
  opened-leaves j r flags clean t body s g low fits a k h = go (ℕ_discrete k j)
    where
      row : Row
      row = new_row (fresh_id s) j flags clean t

      now : slot_at j ((cell r (AtSlot j)).put (row, body) s) ≡ body
      now = (row-body r (AtSlot j)).sees row ((in_body (AtSlot j)).put body s) ∙ body-get-put (AtSlot j) body s g.shape (low, fits)

      go : Dec (k ≡ j) → Alike n (slot_at k s) (slot_at k ((cell r (AtSlot j)).put (row, body) s))
      go (yes e) = subst (λ (x : ℕ). Alike n (slot_at x s) (slot_at x ((cell r (AtSlot j)).put (row, body) s))) (sym e) (subst (Alike n (slot_at j s)) (sym now) a)
      go (no m) = alike-eq n (slot_at k s) _ (cell-body-other r (AtSlot j) (AtSlot k) (row, body) s (Ne-symm m))

  -- a reply and a state in which every slot has the same committed
  abbrev Left : State → Reply × State → Type 0
  Left s o = All n s o.1

  held-leaves : (j r flags t : ℕ) (s : State) → Sound s → j < slot_count → Left s (opened (AtSlot j) r j flags 1 t (held_slot flags (slot_at j s)) s)
  held-leaves j r flags t s g low = go (writes_with flags)
    where
      fit : FitsSlot (slot_at j s)
      fit = (body-view-fits (AtSlot j) s low g.shape).1

      copy : Slot
      copy = with_staged (slot_at j s).committed_bytes (slot_at j s).committed_len (slot_at j s)

      go : (y : Bool) → Left s (opened (AtSlot j) r j flags 1 t (cond y copy (slot_at j s)) s)
      go true = opened-leaves j r flags 1 t copy s g low
          (record { name-long = fit.name-long; committed-long = fit.committed-long; staged-long = fit.committed-long; held-flag = fit.held-flag; mark-flag = fit.mark-flag })
          (staged-anew n t ((in_row r).get s) (slot_at j s) _ _)
      go false = opened-leaves j r flags 1 t (slot_at j s) s g low fit (alike-eq n (slot_at j s) (slot_at j s) refl)

  new-leaves : (name : List ℕ) (j r flags t : ℕ) (s : State) → Sound s → free_slot_in s ≡ some j → Left s (opened (AtSlot j) r j flags 0 t (new_slot name) s)
  new-leaves name j r flags t s g e =
      let f = free-slot s j e in
      let z : slot_at j s ≡ free_slot = free-of-test s (test-of-sound s g) j f.0 f.1 in
      opened-leaves j r flags 0 t (new_slot name) s g f.0
      (record { name-long = padded-length name_size name; committed-long = length-replicate slot_size 0; staged-long = length-replicate slot_size 0; held-flag = omega arith; mark-flag = omega arith })
      (alike-off n (slot_at j s) (new_slot name) (off-mark n (slot_at j s) (ap (λ (b : Slot). eqb b.mark 1) z)) (off-mark n (new_slot name) refl))

  open-leaves : (b : Blob) (flags t : ℕ) (m : List ℕ) (s : State) → Sound s → Left s (open_blob b flags t m s)
  unfolding open_blob opened
  open-leaves (Store at len) flags t m s g =
      open-store-has (Left s) s (λ _ _. all_same n s) (part at len m) flags t
      (λ (r k : ℕ) _ (e : slot_named (part at len m) s ≡ some k) _ _. held-leaves k r flags t s g (named-slot (part at len m) s k e).0)
      (λ (r k : ℕ) _ _ _ _ (j : free_slot_in s ≡ some k). new-leaves (part at len m) k r flags t s g j)
  open-leaves (Flash k) flags t m s g = open-flash-has (Left s) s (λ _ _. all_same n s) k flags t (λ (r : ℕ) _ _ _ _. all_same n s)
  open-leaves Base flags t m s g = all_same n s
  open-leaves Unknown flags t m s g = all_same n s

  -- ---- Delete
  freed-leaves : (name : List ℕ) (j : ℕ) (s : State) → Sound s → slot_named name s ≡ some j → same_name name n ≡ false → All n s ((in_body (AtSlot j)).put free_slot s)
  freed-leaves name j s g e other k h = go (ℕ_discrete k j)
    where
      at : (j < slot_count) × ((slot_at j s).held ≡ 1) × ((slot_at j s).name ≡ padded name_size name)
      at = named-slot name s j e

      gone : slot_at j ((in_body (AtSlot j)).put free_slot s) ≡ free_slot
      gone = body-get-put (AtSlot j) free_slot s g.shape (at.0, freed-fits)

      off : committed_as n (slot_at j s) ≡ false
      off = off-name n (slot_at j s) (ap (λ (x : List ℕ). same x (padded name_size n)) at.2 ∙ other)

      go : Dec (k ≡ j) → Alike n (slot_at k s) (slot_at k ((in_body (AtSlot j)).put free_slot s))
      go (yes q) = subst (λ (x : ℕ). Alike n (slot_at x s) (slot_at x ((in_body (AtSlot j)).put free_slot s))) (sym q)
          (alike-off n (slot_at j s) _ off (ap (committed_as n) gone ∙ off-mark n free_slot refl))
      go (no m) = alike-eq n (slot_at k s) _ ((body-indep (AtSlot j) (AtSlot k) (Ne-symm m)).sees free_slot s)

  delete-leaves : (b : Blob) (m : List ℕ) (s : State) → Sound s → deletes n b m ≡ false → Left s (delete_blob b m s)
  unfolding delete_blob delete_store
  delete-leaves (Store at len) m s g other =
      some-has (Left s) (slot_named (part at len m) s) (refused not_found, s) _ (all_same n s)
      (λ (k : ℕ) (e : slot_named (part at len m) s ≡ some k).
      none_has (Left s) (row_found (OnBlob k) s) (refused busy, s) (done, (in_body (AtSlot k)).put free_slot s) (all_same n s) (λ _. freed-leaves (part at len m) k s g e other))
  delete-leaves (Flash k) m s g other = all_same n s
  delete-leaves Base m s g other = all_same n s
  delete-leaves Unknown m s g other = all_same n s

  -- ---- every command that does not ask to replace the scan
  spared : (r : ℕ) (s : State) → on_name n s r ≡ false → blob r s < slot_count → has_name n (slot_at (blob r s) s) ≡ false
  spared r s h low = sym (ap (λ (y : Bool). y && has_name n (slot_at (blob r s) s)) (lt-ltb (blob r s) slot_count low)) ∙ h

  answered-leaves : (q : Request) (t : ℕ) (m : List ℕ) (s : State) → Sound s → asks_to_replace n q m s ≡ false → Left s (answered q t m s)
  unfolding answered
  answered-leaves Count t m s g h = all_same n s
  answered-leaves (Enumerate index) t m s g h = all_same n s
  answered-leaves (Open flags b) t m s g h = all_then n s (swept t s) (open_blob b flags t m (swept t s)).1 (swept-leaves t s g) (open-leaves b flags t m (swept t s) (swept-sound t s g))
  answered-leaves (Read session offset count) t m s g h = session-leaves (Id session) t (read offset count) s g (λ _ _ _. tt)
  answered-leaves (Write session offset start) t m s g h = session-leaves (Id session) t _ s g (λ _ _ _. tt)
  answered-leaves (Commit session len rest) t m s g h = session-leaves (Id session) t (commit len rest) s g
      (λ (r : ℕ) (e : row_found (Id session) s ≡ some r). spared r s (sym (ap (λ (o : Option ℕ). whether o (on_name n s) false) e) ∙ h))
  answered-leaves (Close session) t m s g h = session-leaves (Id session) t close s g (λ _ _ _. tt)
  answered-leaves (Delete b) t m s g h = delete-leaves b m s g h
  answered-leaves (Stat b) t m s g h = all_same n s
  answered-leaves (SessionStat session) t m s g h = session-leaves (Id session) t stat s g (λ _ _ _. tt)
  answered-leaves (WriteMeta session) t m s g h = session-leaves (Id session) t write_meta s g (λ _ _ _. tt)
  answered-leaves (Refused code) t m s g h = all_same n s

  -- ---- what a refusal leaves
  refusal-leaves : (q : Request) (t : ℕ) (s : State) → Sound s → All n s (left_by q t s)
  refusal-leaves Count t s g = all_same n s
  refusal-leaves (Enumerate index) t s g = all_same n s
  refusal-leaves (Open flags b) t s g = swept-leaves t s g
  refusal-leaves (Read session offset count) t s g = all_same n s
  refusal-leaves (Write session offset start) t s g = all_same n s
  refusal-leaves (Commit session len rest) t s g = all_same n s
  refusal-leaves (Close session) t s g = all_same n s
  refusal-leaves (Delete b) t s g = all_same n s
  refusal-leaves (Stat b) t s g = all_same n s
  refusal-leaves (SessionStat session) t s g = all_same n s
  refusal-leaves (WriteMeta session) t s g = all_same n s
  refusal-leaves (Refused code) t s g = all_same n s

  -- ---- every event that does not replace it
  message-leaves : (t : ℕ) (m : List ℕ) (s : State) → is_sound s ≡ true → replaces n s (message t m) ≡ false → All n s (respond t m s).state
  message-leaves t m s h = go (asks_to_replace n (decoded m) m s) refl
    where
      g : Sound s
      g = sound-of-test s h

      go : (y : Bool) → asks_to_replace n (decoded m) m s ≡ y → y && eqb (respond t m s).code success ≡ false → All n s (respond t m s).state
      go true e f = subst (All n s) (sym ((refused-message t m s (eqb-false (respond t m s).code success f)).as-found ∙ ap (λ (y : Bool). left_in y
          (decoded m) t s) h)) (refusal-leaves (decoded m) t s g)
      go false e f = subst (All n s) (sym (ap (λ (o : Effect). o.state) (respond-is t m s h))) (answered-leaves (decoded m) t m s g e)

  outcome-leaves : (good : Bool) (s : State) → is_sound s ≡ true → All n s (job_outcome good s).state
  outcome-leaves good s h =
      subst (All n s) (sym (ap (λ (o : Effect). o.state) (job_is good s h))) (session-leaves OnFlash 0 (end_job good) s (sound-of-test s h) (λ _ _ _. tt))

-- a sweep leaves it too
pub sweep-same : (n : List ℕ) (t : ℕ) (s : State) → Sound s → scan_of n (swept t s) ≡ scan_of n s
sweep-same n t s g = scan-same n s (swept t s) (swept-leaves n t s g)

-- AN EVENT THAT DOES NOT REPLACE IT LEAVES THE SCAN COMMITTED UNDER A NAME: its length and every byte; and where there is none, there is none afterwards
pub event-leaves : (n : List ℕ) (s : State) (e : Event) → is_sound s ≡ true → replaces n s e ≡ false → scan_of n (next s e) ≡ scan_of n s
event-leaves n s (message t m) h f = scan-same n s (respond t m s).state (message-leaves n t m s h f)
event-leaves n s (job_ended good) h f = scan-same n s (job_outcome good s).state (outcome-leaves n good s h)

-- A COMMITTED SCAN IS SAFE, over any history of messages and outcomes, Opens and sweeps included, until an event replaces it (rule 21.10)
pub committed-safe : (n : List ℕ) (s : State) (es : List Event) → is_sound s ≡ true → left_alone n s es ≡ true → scan_of n (run s es) ≡ scan_of n s
committed-safe n s [] h f = refl
committed-safe n s (e ∷ es) h f =
    let a = and-true (not (replaces n s e)) (left_alone n (next s e) es) f in
    committed-safe n (next s e) es (next-sound s e h) a.1 ∙ event-leaves n s e h (not-true (replaces n s e) a.0)
