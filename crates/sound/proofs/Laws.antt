-- Laws of the whole test. Assumes nothing.
use mathlib.Core.Path.{◌≡◌}
use mathlib.Core.Bool.{Bool, true, false, not, ◌&&◌}
use Prim.Native.Nat.{◌*◌}
use lib.Dec.{eqb}
use lib.ListN.{length}
use borrow.Author.Tests.{eq-eqb, eqb-true}
use Rattle.laws.specs.All.{all, pairs, and-true, flag_true, flag-false}
use Rattle.protocol.specs.Numbers.{row_count, row_words, slot_count, name_size, slot_size, image_size, hash_size}
use Rattle.state.specs.State.{State}
use Rattle.state.specs.Soundness.{lent_right, values_fit, flash_fits, row_ok, rows_apart, slot_ok, names_apart, is_sound}

-- the lengths of the two arrays, which the code need not test
pub lent_is : (s : State) → length s.store.committed_lens ≡ 16 → length s.store.staged_lens ≡ 16
    → ((eqb (length s.sessions.table) 64 && eqb (length s.store.names) 512) && (eqb (length s.store.committed) 65536 && eqb (length s.store.staged) 65536))
    && (eqb (length s.flash_group.image) 16384 && eqb (length s.flash_group.hash) 64) ≡ lent_right s
unfolding lent_right name_size slot_size image_size hash_size
lent_is s p q = rw (eq-eqb _ _ p, eq-eqb _ _ q)

-- what the clauses on rows and slots lean on
pub record Lent (s : State) : Type 0 where
  pub table-size : length s.sessions.table ≡ row_count * row_words
  pub names-size : length s.store.names ≡ slot_count * name_size
  pub committed-size : length s.store.committed ≡ slot_count * slot_size
  pub staged-size : length s.store.staged ≡ slot_count * slot_size

pub lent : (s : State) (y : Bool) → y ≡ lent_right s → not y ≡ false → Lent s
unfolding lent_right
lent s y e h =
    let a = and-true _ _ (flag_true e h) in
    let b = and-true _ _ a.0 in
    let c = and-true _ _ b.0 in
    let d = and-true _ _ b.1 in
    record { table-size = eqb-true _ _ c.0; names-size = eqb-true _ _ c.1; committed-size = eqb-true _ _ d.0; staged-size = eqb-true _ _ d.1 }

-- another length: not sound
pub sound-not : (s : State) (y : Bool) → y ≡ lent_right s → not y ≡ true → false ≡ is_sound s
unfolding is_sound
sound-not s y e h = rw (flag-false e h)

-- else the clauses decide
pub sound-is : (s : State) (y v f r a k n : Bool) → y ≡ lent_right s → not y ≡ false → v ≡ values_fit s → f ≡ flash_fits s.flash_group
    → r ≡ all (row_ok s) 16 → a ≡ pairs (rows_apart s) 16 → k ≡ all (slot_ok s) 16 → n ≡ pairs (names_apart s) 16
    → (v && f) && ((r && a) && (k && n)) ≡ is_sound s
unfolding is_sound
sound-is s y v f r a k n e h p q u w m o = rw (flag_true e h, p, q, u, w, m, o)
