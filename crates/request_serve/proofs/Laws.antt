-- What soundness and decoding give to the commands' code. Assumes nothing.
use mathlib.Core.Path.{◌≡◌, sym, ap, ◌∙◌, subst}
use mathlib.Core.Bool.{Bool, true, false, cond, ◌&&◌, ◌||◌}
use mathlib.Core.List.{List}
use Prim.Native.Nat.{ℕ, ◌-◌, ◌≤◌, ◌<◌}
use native.Mathlib.Omega.{arith}
use borrow.Author.Tests.{eqb-true, leb-true}
use lib.Dec.{eqb, leb}
use lib.ListN.{length, take, drop, length-drop}
use lib.Seq.{take_all}
use Rattle.laws.specs.All.{all, pairs, all-at, and-true}
use Rattle.laws.specs.Bytes.{zeros}
use Rattle.protocol.specs.Names.{store_field}
use Rattle.protocol.specs.Numbers.{row_count, slot_count, slot_size}
use Rattle.protocol.specs.Decode.{decoded}
use Rattle.protocol.specs.Inside.{Inside}
use Rattle.protocol.proofs.Inside.{decoded-inside}
use Rattle.protocol.specs.declared.Request.{Request}
use Rattle.protocol.specs.Frame.{Reply}
use Rattle.state.specs.State.{State, Slot}
use Rattle.state.specs.Parts.{Shape}
use Rattle.state.specs.Soundness.{slot_at, lent_right, values_fit, flash_fits, row_ok, rows_apart, has_writer, used_slot, unused_slot, slot_ok, names_apart, is_sound}
use Rattle.state.specs.Agree.{sound-of-test}
use Rattle.rules.specs.Command.{write}
use Rattle.state.specs.declared.row.Wanted.TheVariants.{Id}
use Rattle.rules.specs.Session.{on_session}

-- ---- the lengths of slot k fit
-- the tests of a length, out of a used slot's and out of an unused slot's
both_of : (a x y b : Bool) → (a && (x && y)) && b ≡ true → (x ≡ true) × (y ≡ true)
both_of a x y b h = and-true x y (and-true a (x && y) (and-true (a && (x && y)) b h).0).1

used-fits : (b : Slot) (w : Bool) → used_slot b w ≡ true → (b.committed_len ≤ slot_size) × (b.staged_len ≤ slot_size)
unfolding used_slot
used-fits b w h =
    let q = both_of (store_field b.name) (leb b.committed_len slot_size) (leb b.staged_len slot_size) ((eqb b.mark 1 || (eqb b.committed_len 0 && w)) && (eqb b.staged_len 0 || w)) h in
    (leb-true b.committed_len slot_size q.0, leb-true b.staged_len slot_size q.1)

unused-fits : (b : Slot) → unused_slot b ≡ true → (b.committed_len ≤ slot_size) × (b.staged_len ≤ slot_size)
unfolding unused_slot
unused-fits b h =
    let q = both_of (eqb b.mark 0) (eqb b.committed_len 0) (eqb b.staged_len 0) (zeros b.name && (zeros b.committed_bytes && zeros b.staged_bytes)) h in
    let c : b.committed_len ≡ 0 = eqb-true b.committed_len 0 q.0 in
    let g : b.staged_len ≡ 0 = eqb-true b.staged_len 0 q.1 in
    (omega arith, omega arith)

pub lengths-fit : (s : State) → is_sound s ≡ true → (k : ℕ) → k < slot_count → ((slot_at k s).committed_len ≤ slot_size) × ((slot_at k s).staged_len ≤ slot_size)
unfolding is_sound slot_ok
lengths-fit s h k l = go (eqb (slot_at k s).held 1) here
  where
    here : cond (eqb (slot_at k s).held 1) (used_slot (slot_at k s) (has_writer s k)) (unused_slot (slot_at k s)) ≡ true
    here =
        let rows : Bool = all (row_ok s) row_count && pairs (rows_apart s) row_count in
        let slots : Bool = all (slot_ok s) slot_count && pairs (names_apart s) slot_count in
        let p = (and-true (lent_right s && (values_fit s && flash_fits s.flash_group)) (rows && slots) h).1 in
        all-at (slot_ok s) slot_count (and-true (all (slot_ok s) slot_count) (pairs (names_apart s) slot_count) (and-true rows slots p).1).0 k l

    go : (y : Bool) → cond y (used_slot (slot_at k s) (has_writer s k)) (unused_slot (slot_at k s)) ≡ true → ((slot_at k s).committed_len ≤ slot_size) × ((slot_at k s).staged_len ≤ slot_size)
    go true e = used-fits (slot_at k s) (has_writer s k) e
    go false e = unused-fits (slot_at k s) e

-- what is lent has the right lengths
pub shape_of : (s : State) → is_sound s ≡ true → Shape s
shape_of s h = (sound-of-test s h).shape

-- ---- what a request points to stands in the message
pub inside_of : (m : List ℕ) (p q : Request) → p ≡ decoded m → p ≡ q → Inside m q
inside_of m p q d e = subst (Inside m) (sym d ∙ e) (decoded-inside m)

-- a Write's bytes, as `&message[start..]`
pub write-rest : (id t offset start : ℕ) (m : List ℕ) (s : State) (x : Reply × State) → x ≡ on_session (Id id) t (write offset (take (length m - start) (drop start m))) s
    → x ≡ on_session (Id id) t (write offset (drop start m)) s
write-rest id t offset start m s x h =
    h ∙ ap (λ (w : List ℕ). on_session (Id id) t (write offset w) s) (take_all (length m - start) (drop start m) (omega (arith, length-drop start m)))
