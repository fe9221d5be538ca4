-- A fresh state is sound. Assumes nothing.
use Rattle.std.specs.Prelude.{◌≡◌, refl, ◌≢◌, true, ℕ, ◌*◌, ◌<◌}
use Rattle.std.proofs.Common.{sym, subst, arith}
use Rattle.std.proofs.lemmas.List.{length-replicate, get_or-replicate}
use Rattle.laws.specs.Ranges.{part-replicate, block-fits}
use Rattle.laws.specs.Bits.{bit, bit-zero}
use Rattle.protocol.specs.Numbers.{row_count, slot_count, row_words, name_size, slot_size, image_size, hash_size}
use Rattle.state.specs.declared.Phase.TheVariants.{Idle}
use Rattle.state.specs.declared.row.Place.{Place}
use Rattle.state.specs.declared.row.Place.TheVariants.{AtSlot, AtFlash}
use Rattle.state.specs.State.{place_of, in_body}
use Rattle.state.specs.Parts.{Separate, InRange}
use Rattle.state.specs.Words.{free_slot, blob, Live, fresh}
use Rattle.state.specs.Soundness.{slot_at, is_sound}
use Rattle.state.specs.Facts.{StoreIdle, Unheld, Sound}
use Rattle.state.specs.Agree.{test-of-sound}

no_row : (r : ℕ) → bit r 0 ≡ 1 → ⊥
no_row r h = let z = bit-zero r in omega arith

free-slot : (k : ℕ) → k < slot_count → slot_at k fresh ≡ free_slot
unfolding fresh
free-slot k h = λ i. record {
  name = part-replicate (k * name_size) name_size (slot_count * name_size) 0 (block-fits name_size k 16 h) i;
  committed_bytes = part-replicate (k * slot_size) slot_size (slot_count * slot_size) 0 (block-fits slot_size k 16 h) i;
  staged_bytes = part-replicate (k * slot_size) slot_size (slot_count * slot_size) 0 (block-fits slot_size k 16 h) i;
  held = bit-zero k i;
  mark = bit-zero k i;
  committed_len = get_or-replicate slot_count k 0 0 h i;
  staged_len = get_or-replicate slot_count k 0 0 h i;
}

pub free-idle : StoreIdle free_slot
free-idle = record {
  held-marked = refl;
  idle-committed = omega arith;
  idle-staged = refl;
  held-name = λ (h : ◌≡◌ {A = ℕ} 0 1). absurd (omega arith);
  free-zero = λ (h : ◌≡◌ {A = ℕ} 0 0). refl;
}

idle-fresh : (p : Place) → InRange p → Unheld p ((in_body p).get fresh)
unfolding fresh
idle-fresh (AtSlot k) h = subst StoreIdle (sym (free-slot k h)) free-idle
idle-fresh AtFlash h = record { image-fits = omega arith; hash-fits = omega arith; idle-image = λ (e : Idle ≡ Idle). refl; idle-hash = λ (e : Idle ≡ Idle). refl }

pub fresh-good : Sound fresh
unfolding fresh
fresh-good = record {
  shape = record {
    table-size = length-replicate {A = ℕ} (row_count * row_words) 0;
    names-size = length-replicate {A = ℕ} (slot_count * name_size) 0;
    committed-size = length-replicate {A = ℕ} (slot_count * slot_size) 0;
    staged-size = length-replicate {A = ℕ} (slot_count * slot_size) 0;
    committed_lens-size = length-replicate {A = ℕ} slot_count 0;
    staged_lens-size = length-replicate {A = ℕ} slot_count 0;
    image-size = length-replicate {A = ℕ} image_size 0;
    hash-size = length-replicate {A = ℕ} hash_size 0;
    rows-small = omega arith;
    slots_small = omega arith;
    marks-small = omega arith;
    next_small = omega arith;
  };
  session = λ (r : ℕ) (l : Live r fresh). absurd (no_row r l.1);
  unused = λ (r : ℕ) (h : r < row_count) (u : bit r 0 ≡ 0). part-replicate (r * 4) 4 64 0 (block-fits 4 r 16 h);
  ids = λ (r q : ℕ) (l : Live r fresh) (m : Live q fresh) (n : r ≢ q). absurd (no_row r l.1);
  spots = λ (r q : ℕ) (l : Live r fresh) (m : Live q fresh) (n : r ≢ q). absurd (no_row r l.1);
  loose = λ (p : Place) (h : InRange p) (f : (r : ℕ) → Live r fresh → Separate (place_of (blob r fresh)) p). idle-fresh p h;
  names-differ = λ (k l : ℕ) (hk : k < slot_count) (hl : l < slot_count) (n : k ≢ l) (a : bit k 0 ≡ 1) (b : bit l 0 ≡ 1). absurd (no_row k a);
}

-- A FRESH STATE IS SOUND (rule 21.3)
pub fresh-sound : is_sound fresh ≡ true
fresh-sound = test-of-sound fresh fresh-good
