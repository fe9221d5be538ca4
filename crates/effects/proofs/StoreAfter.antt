-- What a Write, a Commit and a Close of a writing store session leave of its slot, and of its clean mark, on every message. Assumes nothing.
use Rattle.std.specs.Prelude.{◌≡◌, Bool, ℕ, ◌+◌, ◌≤◌, ◌<◌, eqb, length, drop}
use Rattle.std.proofs.Math.Path.{refl, ap, subst}
use Rattle.std.proofs.Common.{sym, ◌∙◌, arith}
use Rattle.std.proofs.Math.Bool.{true, false}
use mathlib.Core.List.{List, [], ◌∷◌}
use Rattle.std.proofs.Math.ListN.{replicate}
use Rattle.std.proofs.Math.Seq.{sets-eq}
use Rattle.protocol.specs.Numbers.{slot_count, slot_size, row_words}
use Rattle.protocol.specs.Decode.{decoded}
use Rattle.protocol.specs.Frame.{Reply}
use Rattle.protocol.specs.declared.Request.{Request}
use Rattle.protocol.specs.declared.Request.TheVariants.{Write, Commit, Close}
use Rattle.state.specs.declared.row.Place.TheVariants.{AtSlot}
use Rattle.state.specs.declared.row.Wanted.TheVariants.{Id}
use Rattle.state.specs.State.{State, Row, Slot, in_row, cell}
use Rattle.state.specs.Parts.{row-view-fits, body-view-fits}
use Rattle.state.specs.Words.{clean_of, writes, ident, blob, Live}
use Rattle.state.specs.Soundness.{slot_at, is_sound}
use Rattle.state.specs.Facts.{Sound}
use Rattle.state.specs.Agree.{sound-of-test}
use Rattle.rules.specs.Command.{Command, Out, write, commit, close}
use Rattle.rules.specs.Store.{on_store, stored, closed_slot, closed_writing}
use Rattle.rules.specs.Session.{on_session}
use Rattle.rules.specs.Searches.{session-row}
use Rattle.rules.specs.Respond.{Effect, answered, respond}
use Rattle.rules.proofs.Effects.{write-accepted, commit-cleans as committed-clean}
use Rattle.rules.proofs.Laws.{respond-is}
use Rattle.guarantees.proofs.After.{own-part}
use Rattle.effects.specs.StoreAfter.{Written}

module _ (t i : ℕ) (m : List ℕ) (s : State) (h : is_sound s ≡ true) (l : Live i s) (low : blob i s < slot_count) where
  abbrev row : Row
  row = (in_row i).get s

  abbrev slot : Slot
  slot = slot_at (blob i s) s

  -- row and slot after it
  abbrev then-row : Row
  then-row = (in_row i).get (respond t m s).state

  abbrev then-slot : Slot
  then-slot = slot_at (blob i s) (respond t m s).state

  good : Sound s
  good = sound-of-test s h

  four : length row.words ≡ row_words
  four = (row-view-fits i s l.0 good.shape).four

  long : length slot.staged_bytes ≡ slot_size
  long = (body-view-fits (AtSlot (blob i s)) s low good.shape).1.staged-long

  module _ (c : Command) (asks : answered (decoded m) t m s ≡ on_session (Id (ident i s)) t c s) where
    part-is : (cell i (AtSlot (blob i s))).get (respond t m s).state ≡ (on_store t c row slot).1
    part-is =
        ap (λ (o : Effect). (cell i (AtSlot (blob i s))).get o.state) (respond-is t m s h)
        ∙ ap (λ (o : Reply × State). (cell i (AtSlot (blob i s))).get o.1) (asks ∙ session-row t i c s good l)
        ∙ own-part s good i l t c low

    row_is : then-row ≡ (on_store t c row slot).1.0
    row_is = ap (λ (x : Row × Slot). x.0) part-is

    slot_is : then-slot ≡ (on_store t c row slot).1.1
    slot_is = ap (λ (x : Row × Slot). x.1) part-is

  -- ---- Write
  stored-leaves : (ws : List ℕ) (offset : ℕ) → offset ≤ slot.staged_len → offset + length ws ≤ slot_size → Written offset ws slot (stored t offset ws row slot).1.1
  unfolding stored
  stored-leaves [] offset fits end = record {
    region = sets-eq [] slot.staged_bytes offset (let z = long in omega arith);
    as_long = omega arith;
    committed-kept = (refl, refl, refl);
    name-kept = (refl, refl);
  }
  stored-leaves (w ∷ ws) offset fits end = record {
    region = sets-eq (w ∷ ws) slot.staged_bytes offset (let z = long in omega arith);
    as_long = refl;
    committed-kept = (refl, refl, refl);
    name-kept = (refl, refl);
  }

  -- A WRITE THAT FITS LEAVES THE SLOT AS `Written` SAYS (rules 11.3 and 11.4)
  pub write-leaves : (offset start : ℕ) → decoded m ≡ Write (ident i s) offset start → writes row ≡ true → offset ≤ slot.staged_len → offset + length (drop start m) ≤ slot_size
      → Written offset (drop start m) slot then-slot
  unfolding answered
  write-leaves offset start d wr fits end =
      subst (Written offset (drop start m) slot)
      (sym (slot_is (write offset (drop start m)) (ap (λ (q : Request). answered q t m s) d) ∙ ap (λ (o : Out Slot). o.1.1) (write-accepted t offset (drop start m) row slot wr fits end)))
      (stored-leaves (drop start m) offset fits end)

  -- ---- Commit
  -- AFTER A COMMIT OF A WRITING SESSION ITS ROW IS CLEAN (rule 12.3)
  pub commit-cleans : decoded m ≡ Commit (ident i s) 0 0 → writes row ≡ true → clean_of then-row ≡ 1
  unfolding answered
  commit-cleans d wr = ap clean_of (row_is (commit 0 0) (ap (λ (q : Request). answered q t m s) d)) ∙ committed-clean t row slot wr four

  -- ---- Close
  -- AFTER A CLOSE OF A WRITING SESSION NOTHING IS STAGED IN ITS SLOT (rules 13.4 and 13.5)
  pub close-unstages : decoded m ≡ Close (ident i s) → writes row ≡ true → (then-slot.staged_bytes ≡ replicate slot_size 0) × (then-slot.staged_len ≡ 0)
  unfolding answered on_store closed_slot closed_writing
  close-unstages d wr =
      subst (λ (b : Slot). (b.staged_bytes ≡ replicate slot_size 0) × (b.staged_len ≡ 0))
      (sym (slot_is close (ap (λ (q : Request). answered q t m s) d) ∙ ap (λ (y : Bool). closed_slot y slot) wr)) (closed (eqb slot.mark 1))
    where
      closed : (y : Bool) → ((closed_writing y slot).staged_bytes ≡ replicate slot_size 0) × ((closed_writing y slot).staged_len ≡ 0)
      closed true = (refl, refl)
      closed false = (refl, refl)
