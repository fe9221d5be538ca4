-- What a sweep, and the Open after it, leave of a row and of the last sweep. Assumes nothing.
use Rattle.std.specs.Prelude.{◌≡◌, refl, ◌≢◌, Bool, true, false, cond, ◌&&◌, List, ℕ, zero, suc, ◌+◌, ◌≤◌, ◌<◌, ◌*◌, leb, length}
use Rattle.std.proofs.Common.{sym, ◌∙◌, ap, ap₂, subst, arith, eq-eqb, ne_eqb}
use Rattle.std.proofs.Math.Logic.{Ne-symm}
use Rattle.std.proofs.Math.Decide.{ℕ_discrete}
use Rattle.laws.specs.All.{Or, this, that}
use Rattle.laws.specs.Ranges.{part}
use Rattle.protocol.specs.Numbers.{row_count, running, row_words, write_only, sweep_every}
use Rattle.protocol.specs.Frame.{Reply}
use Rattle.protocol.specs.Names.{kind_of, flash_number}
use Rattle.protocol.specs.declared.Blob.{Blob}
use Rattle.state.specs.declared.row.Place.{Place}
use Rattle.state.specs.declared.row.Place.TheVariants.{AtSlot, AtFlash}
use Rattle.state.specs.State.{State, Row, Body, place_of, in_row, in_body, cell}
use Rattle.state.specs.Parts.{FitsRow}
use Rattle.state.proofs.Parts.{cell-row-other, row_put}
use Rattle.state.specs.Words.{blob_of, stamp_of, status_of, blob, in_use, free_row}
use Rattle.state.specs.Soundness.{slot_at}
use Rattle.rules.specs.Store.{on_store}
use Rattle.rules.specs.Command.{close}
use Rattle.rules.specs.Flash.{close_flash, on_flash}
use Rattle.rules.specs.Session.{on_part, on_row}
use Rattle.rules.specs.Sweep.{stale, sweep_row, sweep_rows, noted, due, swept}
use Rattle.rules.specs.Open.{open_blob, open_store, open_flash}
use Rattle.rules.proofs.Laws.{cond_has, other-rows, by-own-part, table-after}
use Rattle.rules.specs.Searches.{free-row}
use Rattle.protocol.specs.declared.FlashKind.{FlashKind}
use Rattle.protocol.specs.declared.Blob.TheVariants.{Store, Flash as BlobFlash, Base, Unknown}
use Rattle.rules.specs.Lookup.{fresh_id, free_row_in}
use Rattle.rules.specs.Opening.{new_row, opened, new_slot, held_slot, opened_flash}
use Rattle.rules.proofs.OpenLaws.{open-store-has, open-flash-has}
use Rattle.std.proofs.Math.Option.{some}

-- ---- Close, of a session without a running job, frees its row
pub close-frees : (p : Place) (t : ℕ) (r : Row) (b : Body p) → status_of r ≢ running → (on_part p t close r b).1.0 ≡ free_row
unfolding on_store on_flash close_flash
close-frees (AtSlot k) t r b n = refl
close-frees AtFlash t r b n = ap (λ (y : Bool). (close_flash y (kind_of (blob_of r)) r b).1.0) (ne_eqb (status_of r) running n)

-- another row's sweep leaves row i
pub sweep-other : (t r i : ℕ) (s : State) → r ≢ i → (in_row i).get (sweep_row t r s) ≡ (in_row i).get s
unfolding sweep_row
sweep-other t r i s n = cond_has (λ (y : State). (in_row i).get y ≡ (in_row i).get s) (in_use r s && stale t ((in_row r).get s)) (on_row r t close s).1 s (other-rows r i t close s n) refl

sweep-table : (t r : ℕ) (s : State) → length s.sessions.table ≡ row_count * row_words → length (sweep_row t r s).sessions.table ≡ row_count * row_words
unfolding sweep_row
sweep-table t r s h =
    cond_has (λ (y : State). length y.sessions.table ≡ row_count * row_words) (in_use r s && stale t ((in_row r).get s)) (on_row r t close s).1 s (table-after r t close s ∙ h) h

-- a sweep keeps the length of the table
pub sweeps-table : (t n : ℕ) (s : State) → length s.sessions.table ≡ row_count * row_words → length (sweep_rows t n s).sessions.table ≡ row_count * row_words
unfolding sweep_rows
sweeps-table t zero s h = h
sweeps-table t (suc n) s h = sweep-table t n (sweep_rows t n s) (sweeps-table t n s h)

-- row i before its turn
pub sweeps-below : (t n i : ℕ) (s : State) → n ≤ i → (in_row i).get (sweep_rows t n s) ≡ (in_row i).get s
unfolding sweep_rows
sweeps-below t zero i s h = refl
sweeps-below t (suc n) i s h = sweep-other t n i (sweep_rows t n s) (omega arith) ∙ sweeps-below t n i s (omega arith)

-- row i, once row i itself was reached
pub sweeps-past : (t n i : ℕ) (s : State) (q : Row) → (in_row i).get (sweep_row t i (sweep_rows t i s)) ≡ q → i < n → (in_row i).get (sweep_rows t n s) ≡ q
unfolding sweep_rows
sweeps-past t zero i s q e h = absurd (omega arith)
sweeps-past t (suc n) i s q e h = go (ℕ_discrete n i) (λ (m : n ≢ i). sweeps-past t n i s q e (omega arith))
  where
    go : Dec (n ≡ i) → (n ≢ i → (in_row i).get (sweep_rows t n s) ≡ q) → (in_row i).get (sweep_row t n (sweep_rows t n s)) ≡ q
    go (yes f) ih = subst (λ (x : ℕ). (in_row i).get (sweep_row t x (sweep_rows t x s)) ≡ q) (sym f) e
    go (no m) ih = sweep-other t n i (sweep_rows t n s) m ∙ ih m

-- row i when it is its turn: kept if it is not stale, else freed
pub turn-keeps : (t i : ℕ) (s : State) → stale t ((in_row i).get s) ≡ false → (in_row i).get (sweep_row t i s) ≡ (in_row i).get s
unfolding sweep_row
turn-keeps t i s h = go (in_use i s) h
  where
    go : (y : Bool) → stale t ((in_row i).get s) ≡ false → (in_row i).get (cond (y && stale t ((in_row i).get s)) (on_row i t close s).1 s) ≡ (in_row i).get s
    go true e = ap (λ (z : Bool). (in_row i).get (cond z (on_row i t close s).1 s)) e
    go false e = refl

-- a session over its time, without a running job, is freed
pub turn-frees : (t i : ℕ) (s : State) → i < row_count → length s.sessions.table ≡ row_count * row_words → ((in_row i).get s).used ≡ 1 → stale t ((in_row i).get s) ≡ true → status_of
    ((in_row i).get s) ≢ running → (in_row i).get (sweep_row t i s) ≡ free_row
unfolding sweep_row
turn-frees t i s low len u h n =
    ap (λ (z : Bool). (in_row i).get (cond z (on_row i t close s).1 s)) (ap₂ (λ (a b : Bool). a && b) (eq-eqb ((in_row i).get s).used 1 u) h)
    ∙ ap (λ (y : State). (in_row i).get y) (by-own-part i t close s)
    ∙ row_put i p (on_part p t close ((in_row i).get s) ((in_body p).get s)).1 s low len (subst FitsRow (sym fr) (record { four = refl; flag = omega arith }))
    ∙ fr
  where
    p : Place
    p = place_of (blob i s)

    fr : (on_part p t close ((in_row i).get s) ((in_body p).get s)).1.0 ≡ free_row
    fr = close-frees p t ((in_row i).get s) ((in_body p).get s) n

-- a sweep that is due
pub swept-due : (t : ℕ) (s : State) → due t s ≡ true → swept t s ≡ noted t (sweep_rows t row_count s)
unfolding swept
swept-due t s h = ap (λ (y : Bool). cond y (noted t (sweep_rows t row_count s)) s) h

-- a sweep that is not due
pub swept-not : (t : ℕ) (s : State) → due t s ≡ false → swept t s ≡ s
unfolding swept
swept-not t s h = ap (λ (y : Bool). cond y (noted t (sweep_rows t row_count s)) s) h

-- after a last sweep at 0
pub due-at : (t : ℕ) (s : State) → s.last_sweep ≡ 0 → due t s ≡ leb sweep_every t
due-at t s e = ap (λ (x : ℕ). leb (x + sweep_every) t) e

-- the length of the table after a sweep
pub table-swept : (t : ℕ) (s : State) → length s.sessions.table ≡ row_count * row_words → length (swept t s).sessions.table ≡ row_count * row_words
unfolding swept
table-swept t s h = cond_has (λ (y : State). length y.sessions.table ≡ row_count * row_words) (due t s) (noted t (sweep_rows t row_count s)) s (sweeps-table t row_count s h) h

-- ---- Open, after the sweep: it leaves row i as it was, or takes it where it was free; the last sweep stays
pub record AfterOpen (t i : ℕ) (s y : State) : Type 0 where
  pub row-then : Or ((in_row i).get y ≡ (in_row i).get s) ((((in_row i).get s).used ≡ 0) × (stamp_of ((in_row i).get y) ≡ t))
  pub sweep-kept : y.last_sweep ≡ s.last_sweep

module _ (t i : ℕ) (m : List ℕ) (s : State) (size : length s.sessions.table ≡ row_count * row_words) where
  abbrev Fine : Reply × State → Type 0
  Fine o = AfterOpen t i s o.1

  as-found : AfterOpen t i s s
  as-found = record { row-then = this refl; sweep-kept = refl }

  sweep-same : (p : Place) (r : ℕ) (c : Row × Body p) → ((cell r p).put c s).last_sweep ≡ s.last_sweep
  sweep-same (AtSlot k) r c = refl
  sweep-same AtFlash r c = refl

  opened-fine : (p : Place) (r b flags clean : ℕ) (body : Body p) → free_row_in s ≡ some r → Fine (opened p r b flags clean t body s)
  unfolding opened
  opened-fine p r b flags clean body e = record { row-then = go (ℕ_discrete i r); sweep-kept = sweep-same p r (row, body) }
    where
      row : Row
      row = new_row (fresh_id s) b flags clean t

      go : Dec (i ≡ r) → Or ((in_row i).get ((cell r p).put (row, body) s) ≡ (in_row i).get s) ((((in_row i).get s).used ≡ 0) × (stamp_of ((in_row i).get ((cell r p).put (row, body) s)) ≡ t))
      go (yes q) = that (
        ap (λ (x : ℕ). ((in_row x).get s).used) q ∙ (free-row s r e).1,
        ap (λ (x : ℕ). stamp_of ((in_row x).get ((cell r p).put (row, body) s))) q ∙ ap stamp_of (row_put r p (row, body) s (free-row s r e).0 size (record { four = refl; flag = omega arith })),
      )
      go (no n) = this (cell-row-other r i p (row, body) s (Ne-symm n))

  store-fine : (n : List ℕ) (flags : ℕ) → Fine (open_store n flags t s)
  store-fine n flags =
      open-store-has Fine s (λ _ _. as-found) n flags t (λ (r k : ℕ) _ _ _ e. opened-fine (AtSlot k) r k flags 1 (held_slot flags (slot_at k s)) e)
      (λ (r k : ℕ) _ _ _ e _. opened-fine (AtSlot k) r k flags 0 (new_slot n) e)

  flash-fine : (k : FlashKind) (flags : ℕ) → Fine (open_flash k flags t s)
  flash-fine k flags = open-flash-has Fine s (λ _ _. as-found) k flags t (λ (r : ℕ) _ _ _ e. opened-fine AtFlash r (flash_number k) write_only 0 (opened_flash k s.flash_group) e)

  -- every Open
  pub open-fine : (b : Blob) (flags : ℕ) → Fine (open_blob b flags t m s)
  unfolding open_blob
  open-fine (Store at len) flags = store-fine (part at len m) flags
  open-fine (BlobFlash k) flags = flash-fine k flags
  open-fine Base flags = as-found
  open-fine Unknown flags = as-found
