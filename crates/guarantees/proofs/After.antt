-- What a command on an open session leaves of its row, its slot or the flash, and of each other slot; and what an Open is. Assumes nothing.
use Rattle.std.specs.Prelude.{◌≡◌, true, List, ◌≢◌, ℕ, ◌≤◌, ◌<◌}
use Rattle.std.proofs.Common.{◌∙◌, ap, subst, arith}
use Rattle.std.proofs.Math.Logic.{Ne-symm}
use Rattle.protocol.specs.Numbers.{slot_count, open_command}
use Rattle.protocol.specs.Names.{kind_of}
use Rattle.protocol.specs.Decode.{decoded, number_of}
use Rattle.protocol.specs.Frame.{Reply, framed}
use Rattle.protocol.specs.declared.Blob.{Blob}
use Rattle.protocol.specs.declared.Request.{Request}
use Rattle.protocol.specs.declared.Request.TheVariants.{Open}
use Rattle.state.specs.declared.row.Place.{Place}
use Rattle.state.specs.declared.row.Place.TheVariants.{AtSlot}
use Rattle.state.specs.State.{State, Slot, place_of, in_row, in_body, cell}
use Rattle.state.specs.Parts.{Separate, row-view-fits, body-view-fits}
use Rattle.state.proofs.Parts.{cell-get-put, cell-body-other}
use Rattle.state.specs.Words.{blob, Live}
use Rattle.state.specs.Soundness.{slot_at, is_sound}
use Rattle.state.specs.Facts.{Session, Sound}
use Rattle.state.specs.Agree.{place-slot, place-flash, blobs-apart}
use Rattle.rules.specs.Store.{on_store}
use Rattle.rules.specs.Flash.{on_flash}
use Rattle.rules.specs.Command.{Command, Out}
use Rattle.rules.specs.Session.{on_part, on_place, on_row}
use Rattle.rules.specs.Sweep.{swept}
use Rattle.rules.specs.Open.{open_blob}
use Rattle.rules.specs.Respond.{effect_of, answered, respond}
use Rattle.rules.proofs.Laws.{respond-is}
use Rattle.rules.proofs.Change.{Proper}
use Rattle.guarantees.proofs.Merging.{proper}

-- ---- a command of the session that row r has
module _ (s : State) (g : Sound s) (r : ℕ) (l : Live r s) (t : ℕ) (c : Command) where
  -- of a store session: its row and its slot are what the command makes of the two
  pub own-part : blob r s < slot_count
      → (cell r (AtSlot (blob r s))).get (on_row r t c s).1 ≡ (on_store t c ((in_row r).get s) (slot_at (blob r s) s)).1
  own-part h =
      ap (λ (o : Reply × State). (cell r here).get o.1) (ap (λ (p : Place). on_place p r t c s) on-slot)
      ∙ cell-get-put r here out.1 s l.0 g.shape fine.row_fits fine.body-fits
    where
      here : Place
      here = AtSlot (blob r s)

      on-slot : place_of (blob r s) ≡ AtSlot (blob r s)
      on-slot = place-slot (blob r s) h

      out : Out Slot
      out = on_store t c ((in_row r).get s) (slot_at (blob r s) s)

      fine : Proper (AtSlot (blob r s)) ((in_row r).get s) (on_store t c ((in_row r).get s) (slot_at (blob r s) s)).1.0 (slot_at (blob r s) s)
          (on_store t c ((in_row r).get s) (slot_at (blob r s) s)).1.1
      fine = proper (AtSlot (blob r s)) t c ((in_row r).get s) (slot_at (blob r s) s) (row-view-fits r s l.0 g.shape) (body-view-fits (AtSlot (blob r s)) s h g.shape) l.1
          (subst (λ (p : Place). Session p ((in_row r).get s) ((in_body p).get s)) on-slot (g.session r l))

  -- and it is answered as the two say
  pub own-reply : blob r s < slot_count → (on_row r t c s).0 ≡ (on_store t c ((in_row r).get s) (slot_at (blob r s) s)).0
  own-reply h = ap (λ (p : Place). (on_place p r t c s).0) (place-slot (blob r s) h)

  -- of the flash session: the flash is what the command makes of it
  pub own-flash : slot_count ≤ blob r s → (on_row r t c s).1.flash_group ≡ (on_flash (kind_of (blob r s)) t c ((in_row r).get s) s.flash_group).1.1
  own-flash h = ap (λ (p : Place). (on_place p r t c s).1.flash_group) (place-flash (blob r s) h)

  -- every other slot is as it was
  pub other-slot : (k : ℕ) → k < slot_count → k ≢ blob r s → slot_at k (on_row r t c s).1 ≡ slot_at k s
  other-slot k h n = cell-body-other r (place_of (blob r s)) (AtSlot k) (on_part (place_of (blob r s)) t c ((in_row r).get s) ((in_body (place_of (blob r s))).get s)).1 s
      (subst (λ (w : Place). Separate (place_of (blob r s)) w) (place-slot k h) (blobs-apart (blob r s) k (Ne-symm n) (λ (x : slot_count ≤ blob r s) (y : slot_count ≤ k). omega arith)))

-- ---- an Open
-- a message that asks for one, in a sound state
pub open_is : (t flags : ℕ) (b : Blob) (m : List ℕ) (s : State) → is_sound s ≡ true → decoded m ≡ Open flags b
    → respond t m s ≡ effect_of (framed open_command (open_blob b flags t m (swept t s)).0) (open_blob b flags t m (swept t s)).1
unfolding answered
open_is t flags b m s h d = respond-is t m s h ∙ ap (λ (q : Request). effect_of (framed (number_of q) (answered q t m s).0) (answered q t m s).1) d
