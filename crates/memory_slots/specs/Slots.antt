-- The store with one slot's staged region and length changed. Assumes nothing.
use Rattle.std.specs.Prelude.{◌≡◌, List, ℕ, set}
use Rattle.std.proofs.Common.{sym}
use Rattle.laws.specs.Ranges.{block, block-steady, element-steady}
use Rattle.laws.specs.Bits.{put-bit}
use Rattle.protocol.specs.Numbers.{name_size, slot_size}
use Rattle.state.specs.State.{Slots, slot_of}
use Rattle.rules.specs.Store.{with_staged}

-- the store with other staged bytes and lengths
abbrev pub staged_as : (staged lens : List ℕ) → Slots → Slots
staged_as g l x = record { names = x.names; committed = x.committed; staged = g; slots = x.slots; marks = x.marks; committed_lens = x.committed_lens; staged_lens = l }

pub staged-put : (k : ℕ) (x : Slots) (g l : List ℕ) (n : ℕ) → g ≡ (block slot_size k).put l x.staged → (slot_of k).put (with_staged l n ((slot_of k).get x)) x ≡ staged_as g (set x.staged_lens k n) x
staged-put k x g l n p = λ i. record {
  names = block-steady 0 name_size k x.names i;
  committed = block-steady 0 slot_size k x.committed i;
  staged = sym p i;
  slots = put-bit k x.slots i;
  marks = put-bit k x.marks i;
  committed_lens = element-steady 0 k x.committed_lens i;
  staged_lens = set x.staged_lens k n;
}
