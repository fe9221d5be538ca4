-- What a Close, an Open and a Delete leave of the scans, on whole messages. Assumes nothing.
use Rattle.std.specs.Prelude.{◌≡◌, ◌≢◌, Bool, cond, ◌&&◌, List, eqb}
use Rattle.std.proofs.Math.Path.{refl, ap}
use Rattle.std.proofs.Common.{sym, ◌∙◌, subst}
use Rattle.std.proofs.Math.Logic.{Ne-symm}
use Rattle.std.proofs.Math.Bool.{true, false}
use Rattle.std.proofs.Math.Option.{none, some}
use Prim.Native.Nat.{ℕ, zero, suc, ◌≤◌, ◌<◌}
use native.Mathlib.Omega.{arith}
use Rattle.std.proofs.Math.Decide.{ℕ_discrete}
use borrow.Author.Tests.{eqb-true}
use Rattle.laws.specs.All.{and-true}
use Rattle.laws.specs.Bytes.{same, same_true, ne_same, padded}
use Rattle.laws.specs.Find.{first-none, and-false}
use Rattle.laws.specs.Ranges.{part}
use Rattle.protocol.specs.Numbers.{row_count, slot_count, name_size, success, not_found, busy, read_only, open_command, delete_command}
use Rattle.protocol.specs.Decode.{decoded, number_of}
use Rattle.protocol.specs.Frame.{Reply, refused, done, framed}
use Rattle.protocol.specs.declared.Blob.{Blob}
use Rattle.protocol.specs.declared.Blob.TheVariants.{Store}
use Rattle.protocol.specs.declared.Request.{Request}
use Rattle.protocol.specs.declared.Request.TheVariants.{Open, Close, Delete}
use Rattle.state.specs.declared.row.Place.TheVariants.{AtSlot}
use Rattle.state.specs.State.{State, Row, Slot, in_row, in_body}
use Rattle.state.proofs.Parts.{body-get-put, body-indep}
use Rattle.state.specs.Words.{blob, in_use, Live, writes, store-reads, free_slot}
use Rattle.state.specs.Soundness.{slot_at, is_sound}
use Rattle.state.specs.Facts.{Sound}
use Rattle.state.specs.Agree.{sound-of-test}
use Rattle.rules.specs.Store.{closed_writing, closed_slot, on_store}
use Rattle.rules.specs.Command.{close}
use Rattle.state.specs.declared.row.Wanted.TheVariants.{OnBlob}
use Rattle.rules.specs.Session.{on_row, row_found}
use Rattle.rules.specs.Sweep.{stale, sweep_row, sweep_rows, noted, due, swept}
use Rattle.rules.specs.Lookup.{holds, slot_named}
use Rattle.rules.specs.Open.{open_store, open_blob}
use Rattle.rules.specs.Named.{delete_store, delete_blob}
use Rattle.rules.specs.Respond.{Effect, effect_of, answered, respond}
use Rattle.rules.proofs.Laws.{respond-is, cond_has, some-has, none_has}
use Rattle.rules.specs.Searches.{named-slot}
use Rattle.guarantees.specs.Merging.{message}
use Rattle.guarantees.proofs.StorePart.{freed-fits}
use Rattle.guarantees.proofs.Keep.{sweep-rows-sound, respond-sound}
use Rattle.rules.proofs.Committed.{same_name}
use Rattle.scans.proofs.Scan.{scan_of, asks_to_replace}
use Rattle.guarantees.proofs.After.{own-part, other-slot, open_is}
use Rattle.scans.proofs.Safe.{event-leaves}
use Rattle.scans.specs.Left.{Gone}

-- ---- Close and Open
-- a message that does not ask to replace it leaves the scan, whatever it is answered
unasked : (n : List ℕ) (t : ℕ) (m : List ℕ) (q : Request) (s : State) → is_sound s ≡ true → decoded m ≡ q → asks_to_replace n q m s ≡ false → scan_of n (respond t m s).state ≡ scan_of n s
unasked n t m q s h d f = event-leaves n s (message t m) h (ap (λ (y : Bool). y && eqb (respond t m s).code success) (ap (λ (x : Request). asks_to_replace n x m s) d ∙ f))

-- A CLOSE LEAVES EVERY COMMITTED SCAN AS IT WAS, that of its own name too: what was not committed is dropped (rule 21.12)
pub close-leaves : (n : List ℕ) (t session : ℕ) (m : List ℕ) (s : State) → is_sound s ≡ true → decoded m ≡ Close session → scan_of n (respond t m s).state ≡ scan_of n s
close-leaves n t session m s h d = unasked n t m (Close session) s h d refl

-- AN OPEN LEAVES EVERY COMMITTED SCAN AS IT WAS, for writing too, and its sweep with it (rule 21.12)
pub open-leaves : (n : List ℕ) (t flags : ℕ) (b : Blob) (m : List ℕ) (s : State) → is_sound s ≡ true → decoded m ≡ Open flags b → scan_of n (respond t m s).state ≡ scan_of n s
open-leaves n t flags b m s h d = unasked n t m (Open flags b) s h d refl

-- ---- a name that no slot in use has
abbrev pub Absent : List ℕ → State → Type 0
Absent n s = (k : ℕ) → k < slot_count → (slot_at k s).held ≡ 1 → (slot_at k s).name ≢ padded name_size n

pub absent_none : (n : List ℕ) (s : State) → Absent n s → slot_named n s ≡ none
unfolding slot_named
absent_none n s f = first-none (holds n s) slot_count (λ (k : ℕ) (l : k < slot_count).
    and-false (eqb (slot_at k s).held 1) (same (slot_at k s).name (padded name_size n)) (λ (u : eqb (slot_at k s).held 1 ≡ true). ne_same _ _ (f k l (eqb-true _ _ u))))

-- a slot that is in use after a Close was so before, under its name
closed-writing : (y : Bool) (b : Slot) → (closed_writing y b).held ≡ 1 → (b.held ≡ 1) × ((closed_writing y b).name ≡ b.name)
unfolding closed_writing
closed-writing true b h = (h, refl)
closed-writing false b h = absurd (omega arith)

closed-named : (y : Bool) (b : Slot) → (closed_slot y b).held ≡ 1 → (b.held ≡ 1) × ((closed_slot y b).name ≡ b.name)
unfolding closed_slot
closed-named true b h = closed-writing (eqb b.mark 1) b h
closed-named false b h = (h, refl)

module _ (n : List ℕ) where
  close-absent : (s : State) → Sound s → (r : ℕ) → Live r s → (t : ℕ) → Absent n s → Absent n (on_row r t close s).1
  unfolding on_store
  close-absent s g r l t f k h u = go (ℕ_discrete k (blob r s))
    where
      own : blob r s < slot_count → slot_at (blob r s) (on_row r t close s).1 ≡ closed_slot (writes ((in_row r).get s)) (slot_at (blob r s) s)
      own low = ap (λ (x : Row × Slot). x.1) (own-part s g r l t close low)

      go : Dec (k ≡ blob r s) → (slot_at k (on_row r t close s).1).name ≢ padded name_size n
      go (yes e) =
          let low : blob r s < slot_count = omega arith in
          let q : slot_at k (on_row r t close s).1 ≡ closed_slot (writes ((in_row r).get s)) (slot_at (blob r s) s) = ap (λ (x : ℕ). slot_at x (on_row r t close s).1) e ∙ own low in
          let c = closed-named (writes ((in_row r).get s)) (slot_at (blob r s) s) (sym (ap (λ (b : Slot). b.held) q) ∙ u) in
          λ (z : (slot_at k (on_row r t close s).1).name ≡ padded name_size n). f (blob r s) low c.0 (sym c.1 ∙ sym (ap (λ (b : Slot). b.name) q) ∙ z)
      go (no m) =
          let q : slot_at k (on_row r t close s).1 ≡ slot_at k s = other-slot s g r l t close k h m in
          λ (z : (slot_at k (on_row r t close s).1).name ≡ padded name_size n). f k h (sym (ap (λ (b : Slot). b.held) q) ∙ u) (sym (ap (λ (b : Slot). b.name) q) ∙ z)

  sweep-absent : (t r : ℕ) (s : State) → r < row_count → Sound s → Absent n s → Absent n (sweep_row t r s)
  unfolding sweep_row
  sweep-absent t r s low g f = go (in_use r s && stale t ((in_row r).get s)) refl
    where
      go : (y : Bool) → in_use r s && stale t ((in_row r).get s) ≡ y → Absent n (cond y (on_row r t close s).1 s)
      go true e = close-absent s g r (low, eqb-true ((in_row r).get s).used 1 (and-true (in_use r s) (stale t ((in_row r).get s)) e).0) t f
      go false e = f

  sweeps-absent : (t i : ℕ) (s : State) → i ≤ row_count → Sound s → Absent n s → Absent n (sweep_rows t i s)
  unfolding sweep_rows
  sweeps-absent t zero s h g f = f
  sweeps-absent t (suc i) s h g f = let low : i ≤ row_count = omega arith in sweep-absent t i (sweep_rows t i s) h (sweep-rows-sound t i s low g) (sweeps-absent t i s low g f)

  -- a sweep makes no name
  swept-absent : (t : ℕ) (s : State) → Sound s → Absent n s → Absent n (swept t s)
  unfolding swept
  swept-absent t s g f = cond_has (Absent n) (due t s) (noted t (sweep_rows t row_count s)) s (sweeps-absent t row_count s (omega arith) g f) f

-- a name that is absent is not opened for reading
reads_none : (n : List ℕ) (t : ℕ) (s : State) → slot_named n s ≡ none → open_store n read_only t s ≡ (refused not_found, s)
unfolding open_store
reads_none n t s e = rw (store-reads, e)

module _ (n : List ℕ) (s : State) (g : Sound s) (k : ℕ) (e : slot_named n s ≡ some k) where
  abbrev freed : State
  freed = (in_body (AtSlot k)).put free_slot s

  at : (k < slot_count) × ((slot_at k s).held ≡ 1) × ((slot_at k s).name ≡ padded name_size n)
  at = named-slot n s k e

  emptied : slot_at k freed ≡ free_slot
  emptied = body-get-put (AtSlot k) free_slot s g.shape (at.0, freed-fits)

  as_before : (j : ℕ) → j ≢ k → slot_at j freed ≡ slot_at j s
  as_before j m = (body-indep (AtSlot k) (AtSlot j) (Ne-symm m)).sees free_slot s

  pub gone-absent : Absent n freed
  gone-absent j h u = go (ℕ_discrete j k)
    where
      go : Dec (j ≡ k) → (slot_at j freed).name ≢ padded name_size n
      go (yes q) = absurd (let z : (slot_at j freed).held ≡ 0 = ap (λ (x : ℕ). (slot_at x freed).held) q ∙ ap (λ (b : Slot). b.held) emptied in omega arith)
      go (no m) = λ (z : (slot_at j freed).name ≡ padded name_size n).
          let q = as_before j m in
          g.names-differ j k h at.0 m (sym (ap (λ (b : Slot). b.held) q) ∙ u) at.1 (sym (ap (λ (b : Slot). b.name) q) ∙ z ∙ sym at.2)

  refuses : is_sound freed ≡ true → (t at' len : ℕ) (m : List ℕ) → decoded m ≡ Open read_only (Store at' len) → same_name (part at' len m) n ≡ true → (respond t m freed).code ≡ not_found
  unfolding open_blob framed
  refuses h t at' len m d asked =
      let absent = swept-absent n t freed (sound-of-test freed h) gone-absent in
      let name : padded name_size (part at' len m) ≡ padded name_size n = same_true _ _ asked in
      let none-there : slot_named (part at' len m) (swept t freed) ≡ none
      = absent_none (part at' len m) (swept t freed) (λ (j : ℕ) (l : j < slot_count) (u : (slot_at j (swept t freed)).held ≡ 1)
      (z : (slot_at j (swept t freed)).name ≡ padded name_size (part at' len m)). absent j l u (z ∙ name)) in
      ap (λ (o : Effect). o.code) (open_is t read_only (Store at' len) m freed h d)
      ∙ ap (λ (o : Reply × State). (framed open_command o.0).0) (reads_none (part at' len m) t (swept t freed) none-there)

  pub gone : is_sound freed ≡ true → Gone n s freed
  gone h = record { slot = k; had = e; zero = emptied; others = as_before; sessions-kept = refl; flash-kept = refl; next-kept = refl; sweep-kept = refl; is_not_found = refuses h }

-- an accepted Delete, which leaves a sound state
abbrev Deletes : List ℕ → State → Reply × State → Type 0
Deletes n s o = is_sound o.1 ≡ true → (framed delete_command o.0).0 ≡ success → Gone n s o.1

delete-gone : (n : List ℕ) (s : State) → Sound s → Deletes n s (delete_store n s)
unfolding delete_store framed
delete-gone n s g =
    some-has (Deletes n s) (slot_named n s) (refused not_found, s) _ (λ _ (e : not_found ≡ success). absurd (omega arith))
    (λ (k : ℕ) (e : slot_named n s ≡ some k). none_has (Deletes n s) (row_found (OnBlob k) s) (refused busy, s) (done, (in_body (AtSlot k)).put free_slot s)
    (λ _ (f : busy ≡ success). absurd (omega arith)) (λ _ (h : is_sound ((in_body (AtSlot k)).put free_slot s) ≡ true) _. gone n s g k e h))

-- A DELETED NAME IS GONE: its slot is zero, no other slot changed, and an Open for reading of it is answered CB (rule 21.13)
pub deleted-gone : (t at len : ℕ) (m : List ℕ) (s : State) → is_sound s ≡ true → decoded m ≡ Delete (Store at len) → (respond t m s).code ≡ success → Gone (part at len m) s (respond t m s).state
unfolding answered delete_blob
deleted-gone t at len m s h d ok =
    let e : respond t m s ≡ effect_of (framed delete_command (delete_store (part at len m) s).0) (delete_store (part at len m) s).1
    = respond-is t m s h ∙ ap (λ (q : Request). effect_of (framed (number_of q) (answered q t m s).0) (answered q t m s).1) d in
    subst (λ (o : Effect). Gone (part at len m) s o.state) (sym e)
    (delete-gone (part at len m) s (sound-of-test s h) (ap (λ (o : Effect). is_sound o.state) (sym e) ∙ respond-sound t m s h) (sym (ap (λ (o : Effect). o.code) e) ∙ ok))
