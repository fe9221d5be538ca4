-- A session opens by steps: first its slot or the flash, then its row. Assumes nothing.
use Rattle.std.specs.Prelude.{◌≡◌, Bool, true, false, cond, List, ℕ, set}
use Rattle.std.proofs.Common.{sym, ◌∙◌, ap}
use Rattle.laws.specs.Ranges.{block, block-steady, element-steady}
use Rattle.laws.specs.Bits.{put-bit, put_bit}
use Rattle.laws.specs.Bytes.{bytes_of, padded}
use Rattle.protocol.specs.Numbers.{row_count, name_size, slot_size}
use Rattle.protocol.specs.Frame.{reply}
use Rattle.state.specs.declared.row.Place.{Place}
use Rattle.state.specs.declared.row.Place.TheVariants.{AtSlot, AtFlash}
use Rattle.state.specs.State.{State, Body, Slots, in_row, in_body, in_store, slot_of}
use Rattle.state.proofs.Parts.{slot_of-steady}
use Rattle.state.specs.Soundness.{slot_at}
use Rattle.rules.specs.Store.{with_staged}
use Rattle.memory_slots.specs.Slots.{staged_as, staged-put}
use Rattle.lookup.specs.Laws.{fresh-same}
use Rattle.open_steps.specs.Steps.{named, row_opened}
use Rattle.state.specs.Words.{writes_with}
use Rattle.rules.specs.Lookup.{fresh_id, after}
use Rattle.rules.specs.Opening.{with_next, new_row, opened, held_slot}

-- the identifier hangs on no slot, and not on the flash
fresh-put : (p : Place) (b : Body p) (s : State) → fresh_id ((in_body p).put b s) ≡ fresh_id s
fresh-put (AtSlot k) b s = fresh-same row_count s.next s.sessions ((in_body (AtSlot k)).put b s) s
fresh-put AtFlash b s = fresh-same row_count s.next s.sessions ((in_body AtFlash).put b s) s

pub opened-is : (p : Place) (r b flags clean t : ℕ) (v : Body p) (s : State) → row_opened r b flags clean t ((in_body p).put v s) ≡ opened p r b flags clean t v s
unfolding row_opened opened
opened-is p r b flags clean t v s =
    ap (λ (id : ℕ). (reply (bytes_of 2 id), with_next (after id) ((in_row r).put (new_row id b flags clean t) ((in_body p).put v s)))) (fresh-put p v s)

-- ---- a new name's slot
pub named_put : (k : ℕ) (n : List ℕ) (x : Slots) (names : List ℕ) (slots : ℕ) → names ≡ (block name_size k).put (padded name_size n) x.names → slots ≡ put_bit k 1 x.slots
    → record { names = names; committed = x.committed; staged = x.staged; slots = slots; marks = x.marks; committed_lens = x.committed_lens; staged_lens = x.staged_lens } ≡ (slot_of k).put (named n ((slot_of k).get x)) x
named_put k n x names slots p q = λ i. record {
  names = p i;
  committed = sym (block-steady 0 slot_size k x.committed) i;
  staged = sym (block-steady 0 slot_size k x.staged) i;
  slots = q i;
  marks = sym (put-bit k x.marks) i;
  committed_lens = sym (element-steady 0 k x.committed_lens) i;
  staged_lens = sym (element-steady 0 k x.staged_lens) i;
}

-- ---- a held name's slot
module _ (k flags : ℕ) (s : State) where
  held : (y : Bool) → writes_with flags ≡ y
      → (in_body (AtSlot k)).put (cond y (with_staged (slot_at k s).committed_bytes (slot_at k s).committed_len (slot_at k s)) (slot_at k s)) s ≡ (in_body (AtSlot k)).put (held_slot flags (slot_at k s)) s
  held y e = ap (λ (z : Bool). (in_body (AtSlot k)).put (cond z (with_staged (slot_at k s).committed_bytes (slot_at k s).committed_len (slot_at k s)) (slot_at k s)) s) (sym e)

  pub held-read : writes_with flags ≡ false → s ≡ (in_body (AtSlot k)).put (held_slot flags (slot_at k s)) s
  held-read e = sym (ap (λ (x : Slots). in_store.put x s) (slot_of-steady k s.store)) ∙ held false e

  pub held-written : writes_with flags ≡ true → (g : List ℕ) → g ≡ (block slot_size k).put (slot_at k s).committed_bytes s.store.staged
      → in_store.put (staged_as g (set s.store.staged_lens k (slot_at k s).committed_len) s.store) s ≡ (in_body (AtSlot k)).put (held_slot flags (slot_at k s)) s
  held-written h g e = ap (λ (x : Slots). in_store.put x s) (sym (staged-put k s.store g (slot_at k s).committed_bytes (slot_at k s).committed_len e)) ∙ held true h
