-- What a slot has committed under a name, and what each command of its session leaves of that. Assumes nothing.
use Rattle.std.specs.Prelude.{◌≡◌, Bool, ◌&&◌, ℕ, ◌+◌, ◌≤◌, eqb}
use Rattle.std.proofs.Math.Path.{refl}
use Rattle.std.proofs.Common.{sym, ◌∙◌, ap, true≢false}
use Rattle.std.proofs.Math.Bool.{true, false}
use mathlib.Core.List.{List, [], ◌∷◌}
use Rattle.std.proofs.Math.ListN.{length}
use Rattle.laws.specs.Bytes.{same, padded}
use Rattle.protocol.specs.Numbers.{name_size, slot_size}
use Rattle.protocol.specs.Frame.{done}
use Rattle.state.specs.State.{Row, Slot}
use Rattle.state.specs.Words.{writes, stamped, with_clean, free_slot}
use Rattle.rules.specs.Command.{Command, read, write, commit, stat, close, write_meta, end_job, Out, commit_fits}
use Rattle.rules.specs.Store.{with_staged, read_store, stored, write_store, committed_slot, commit_writing, commit_store, closed_writing, closed_slot, on_store}
use Rattle.rules.proofs.Laws.{placed-has}

-- a scan: its length, and the whole region that it stands at the front of
pub record Scan : Type 0 where
  pub len : ℕ
  pub bytes : List ℕ

-- what a slot has committed
abbrev pub scan_in : Slot → Scan
scan_in b = record { len = b.committed_len; bytes = b.committed_bytes }

-- two names are one to a slot: filled up with zeros they are the same (rule 4.7)
abbrev pub same_name : List ℕ → List ℕ → Bool
same_name a b = same (padded name_size a) (padded name_size b)

-- the slot has the name n
abbrev pub has_name : List ℕ → Slot → Bool
has_name n b = same b.name (padded name_size n)

-- the slot is committed, under the name n
unfoldable pub committed_as : List ℕ → Slot → Bool
committed_as n b = eqb b.mark 1 && has_name n b

-- ---- two slots, before and after, that have the same committed under the name n
pub record Alike (n : List ℕ) (b d : Slot) : Type 0 where
  pub same_test : committed_as n d ≡ committed_as n b
  pub same-scan : committed_as n b ≡ true → scan_in d ≡ scan_in b

pub alike-eq : (n : List ℕ) (b d : Slot) → d ≡ b → Alike n b d
alike-eq n b d e = record { same_test = ap (committed_as n) e; same-scan = λ _. ap scan_in e }

pub alike_then : (n : List ℕ) (b d f : Slot) → Alike n b d → Alike n d f → Alike n b f
alike_then n b d f x y = record { same_test = y.same_test ∙ x.same_test; same-scan = λ (h : committed_as n b ≡ true). y.same-scan (x.same_test ∙ h) ∙ x.same-scan h }

-- neither has anything committed under it
pub alike-off : (n : List ℕ) (b d : Slot) → committed_as n b ≡ false → committed_as n d ≡ false → Alike n b d
alike-off n b d p q = record { same_test = q ∙ sym p; same-scan = λ (h : committed_as n b ≡ true). absurd (true≢false (sym h ∙ p)) }

-- another name
pub off-name : (n : List ℕ) (b : Slot) → has_name n b ≡ false → committed_as n b ≡ false
unfolding committed_as
off-name n b h = go (eqb b.mark 1)
  where
    go : (y : Bool) → y && has_name n b ≡ false
    go true = h
    go false = refl

-- not committed
pub off-mark : (n : List ℕ) (b : Slot) → eqb b.mark 1 ≡ false → committed_as n b ≡ false
unfolding committed_as
off-mark n b h = ap (λ (y : Bool). y && has_name n b) h

-- ---- a command on a store session
-- it does not commit to a slot of that name
abbrev pub Spares : List ℕ → Slot → Command → Type 0
Spares n b (read offset count) = Unit {0}
Spares n b (write offset ws) = Unit {0}
Spares n b (commit len rest) = has_name n b ≡ false
Spares n b stat = Unit {0}
Spares n b close = Unit {0}
Spares n b write_meta = Unit {0}
Spares n b (end_job good) = Unit {0}

module _ (n : List ℕ) (t : ℕ) (r : Row) (b : Slot) where
  -- what the command leaves
  abbrev Leaves : Out Slot → Type 0
  Leaves o = Alike n b o.1.1

  as_it_was : Alike n b b
  as_it_was = alike-eq n b b refl

  -- other staged bytes and length
  pub staged-anew : (l : List ℕ) (len : ℕ) → Alike n b (with_staged l len b)
  unfolding committed_as
  staged-anew l len = record { same_test = refl; same-scan = λ _. refl }

  leaves-stored : (ws : List ℕ) (offset : ℕ) → Leaves (stored t offset ws r b)
  unfolding stored
  leaves-stored [] offset = as_it_was
  leaves-stored (w ∷ ws) offset = staged-anew _ _

  leaves-write : (y : Bool) (ws : List ℕ) (offset : ℕ) → Leaves (write_store y t offset ws r b)
  unfolding write_store
  leaves-write true ws offset =
      placed-has slot_size b.staged_len offset (length ws) r b (stored t offset ws r b) Leaves (λ (h : offset ≤ b.staged_len) (l : offset + length ws
      ≤ slot_size). leaves-stored ws offset) (λ (code : ℕ). as_it_was)
  leaves-write false ws offset = as_it_was

  leaves-writing : (y : Bool) → has_name n b ≡ false → Leaves (commit_writing y t r b)
  unfolding commit_writing
  leaves-writing true h = alike-off n b _ (off-name n b h) (off-name n _ h)
  leaves-writing false h = as_it_was

  leaves-commit : (y : Bool) → has_name n b ≡ false → Leaves (commit_store y t r b)
  unfolding commit_store
  leaves-commit true h = leaves-writing (writes r) h
  leaves-commit false h = as_it_was

  leaves-closed : (y : Bool) → eqb b.mark 1 ≡ y → Alike n b (closed_writing y b)
  unfolding closed_writing
  leaves-closed true e = staged-anew _ _
  leaves-closed false e = alike-off n b free_slot (off-mark n b e) (off-mark n free_slot refl)

  leaves-close : (y : Bool) → Alike n b (closed_slot y b)
  unfolding closed_slot
  leaves-close true = leaves-closed (eqb b.mark 1) refl
  leaves-close false = as_it_was

  -- EVERY COMMAND THAT SPARES IT LEAVES WHAT A SLOT HAS COMMITTED UNDER A NAME (rule 21.10)
  pub leaves-store : (c : Command) → Spares n b c → Leaves (on_store t c r b)
  unfolding on_store read_store
  leaves-store (read offset count) h = as_it_was
  leaves-store (write offset ws) h = leaves-write (writes r) ws offset
  leaves-store (commit len rest) h = leaves-commit (commit_fits len rest) h
  leaves-store stat h = as_it_was
  leaves-store close h = leaves-close (writes r)
  leaves-store write_meta h = as_it_was
  leaves-store (end_job good) h = as_it_was

-- ---- Commit
pub commits : (t : ℕ) (r : Row) (b : Slot) → writes r ≡ true → on_store t (commit 0 0) r b ≡ (done, (stamped t (with_clean 1 r), committed_slot b))
unfolding on_store commit_store commit_writing
commits t r b w = ap (λ (y : Bool). commit_writing y t r b) w

-- A COMMIT OF A SESSION THAT WRITES COMMITS WHAT IS STAGED, length and every byte, under the slot's name (rule 21.11)
pub commit-stores : (t : ℕ) (r : Row) (b : Slot) → writes r ≡ true → scan_in (on_store t (commit 0 0) r b).1.1 ≡ record { len = b.staged_len; bytes = b.staged_bytes }
commit-stores t r b w = ap (λ (o : Out Slot). scan_in o.1.1) (commits t r b w)

pub commit-marks : (t : ℕ) (r : Row) (b : Slot) → writes r ≡ true → ((on_store t (commit 0 0) r b).1.1.mark ≡ 1) × ((on_store t (commit 0 0) r b).1.1.name ≡ b.name)
commit-marks t r b w = (ap (λ (o : Out Slot). o.1.1.mark) (commits t r b w), ap (λ (o : Out Slot). o.1.1.name) (commits t r b w))
