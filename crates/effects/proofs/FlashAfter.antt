-- What a Close, a Commit of cleanup and an Open leave of the flash: tables of their own, which the rules meet on every message. Assumes nothing.
use Rattle.std.specs.Prelude.{◌≡◌, refl, ◌≢◌, Bool, true, List, ℕ, ◌+◌, ◌-◌, ◌≤◌}
use Rattle.std.proofs.Common.{sym, ◌∙◌, subst, arith, ne_eqb}
use Rattle.std.proofs.Math.Path.{ap}
use Rattle.protocol.specs.Numbers.{slot_count, cleanup_blob, running, success, open_command}
use Rattle.protocol.specs.Names.{kind_of}
use Rattle.protocol.specs.Cases.{each_at}
use Rattle.protocol.specs.Decode.{decoded}
use Rattle.protocol.specs.Frame.{Reply, framed}
use Rattle.protocol.specs.declared.FlashKind.{FlashKind}
use Rattle.protocol.specs.declared.FlashKind.TheVariants.{Image, Hash, Verify, Update, Cleanup}
use Rattle.protocol.specs.declared.Blob.TheVariants.{Flash}
use Rattle.protocol.specs.declared.Request.{Request}
use Rattle.protocol.specs.declared.Request.TheVariants.{Open, Commit, Close}
use Rattle.state.specs.declared.row.Place.{Place}
use Rattle.state.specs.State.{State, FlashBody, in_row, in_body}
use Rattle.state.specs.Words.{status_of, ident, blob, Live}
use Rattle.state.specs.Soundness.{is_sound}
use Rattle.state.specs.Facts.{Session}
use Rattle.state.specs.Agree.{sound-of-test, place-flash}
use Rattle.rules.specs.Command.{commit, close}
use Rattle.rules.specs.Flash.{closed_flash, close_flash, on_flash, commit_flash, commit_kind}
use Rattle.rules.specs.Searches.{session-row}
use Rattle.rules.specs.Respond.{Effect, answered, respond}
use Rattle.rules.proofs.Laws.{respond-is}
use Rattle.rules.specs.Sweep.{swept}
use Rattle.rules.specs.Open.{open_blob, open_flash}
use Rattle.rules.specs.Opening.{opened, opened_flash}
use Rattle.rules.proofs.OpenLaws.{open-flash-has}
use Rattle.guarantees.proofs.After.{own-flash, open_is}
use Rattle.effects.specs.FlashAfter.{nothing_uploaded, left_by_close, left_by_open}

-- ---- Close and Commit
closed_is : (st b : ℕ) (f : FlashBody) → slot_count ≤ b → b ≤ cleanup_blob → closed_flash (kind_of b) st f ≡ left_by_close b st f
unfolding closed_flash kind_of
closed_is st b f low high =
    let e : b - 16 + 16 ≡ b = omega arith in
    subst (λ (x : ℕ). closed_flash (kind_of x) st f ≡ left_by_close x st f) e
    (each_at (λ (x : ℕ). closed_flash (kind_of (x + 16)) st f ≡ left_by_close (x + 16) st f) 5 (b - 16) (((((tt, refl), refl), refl), refl), refl) (omega arith))

module _ (t i : ℕ) (m : List ℕ) (s : State) (h : is_sound s ≡ true) (l : Live i s) (high : slot_count ≤ blob i s) where
  a-kind : blob i s ≤ cleanup_blob
  a-kind = (subst (λ (p : Place). Session p ((in_row i).get s) ((in_body p).get s)) (place-flash (blob i s) high) ((sound-of-test s h).session i l)).a-kind

  -- AN ACCEPTED CLOSE LEAVES THE FLASH AS THE TABLE SAYS (rules 13.6 to 13.8)
  pub close-leaves : decoded m ≡ Close (ident i s) → status_of ((in_row i).get s) ≢ running → (respond t m s).state.flash_group ≡ left_by_close (blob i s) (status_of ((in_row i).get s)) s.flash_group
  unfolding answered on_flash close_flash
  close-leaves d n =
      ap (λ (o : Effect). o.state.flash_group) (respond-is t m s h)
      ∙ ap (λ (q : Request). (answered q t m s).1.flash_group) d
      ∙ ap (λ (o : Reply × State). o.1.flash_group) (session-row t i close s (sound-of-test s h) l)
      ∙ own-flash s (sound-of-test s h) i l t close high
      ∙ ap (λ (y : Bool). (close_flash y (kind_of (blob i s)) ((in_row i).get s) s.flash_group).1.1) (ne_eqb (status_of ((in_row i).get s)) running n)
      ∙ closed_is (status_of ((in_row i).get s)) (blob i s) s.flash_group high a-kind

  -- A COMMIT OF CLEANUP LEAVES NOTHING UPLOADED (rule 12.6)
  pub cleanup-empties : decoded m ≡ Commit (ident i s) 0 0 → blob i s ≡ cleanup_blob → (respond t m s).state.flash_group ≡ nothing_uploaded
  unfolding answered on_flash commit_flash commit_kind kind_of
  cleanup-empties d e =
      ap (λ (o : Effect). o.state.flash_group) (respond-is t m s h)
      ∙ ap (λ (q : Request). (answered q t m s).1.flash_group) d
      ∙ ap (λ (o : Reply × State). o.1.flash_group) (session-row t i (commit 0 0) s (sound-of-test s h) l)
      ∙ own-flash s (sound-of-test s h) i l t (commit 0 0) high
      ∙ ap (λ (b : ℕ). (on_flash (kind_of b) t (commit 0 0) ((in_row i).get s) s.flash_group).1.1) e

-- ---- Open
-- what an accepted Open of k leaves of the flash of s
abbrev Emptied : FlashKind → State → Reply × State → Type 0
Emptied k s o = (framed open_command o.0).0 ≡ success → o.1.flash_group ≡ left_by_open k s.flash_group

opened-is : (k : FlashKind) (f : FlashBody) → opened_flash k f ≡ left_by_open k f
unfolding opened_flash
opened-is Image f = refl
opened-is Hash f = refl
opened-is Verify f = refl
opened-is Update f = refl
opened-is Cleanup f = refl

open-emptied : (k : FlashKind) (flags t : ℕ) (s : State) → Emptied k s (open_flash k flags t s)
unfolding opened framed
open-emptied k flags t s = open-flash-has (Emptied k s) s (λ (code : ℕ) n e. absurd (n e)) k flags t (λ (r : ℕ) _ _ _ _ _. opened-is k s.flash_group)

-- AN ACCEPTED OPEN OF A FLASH NAME LEAVES THE FLASH AS THE TABLE SAYS, after its sweep (rule 9.13)
pub open-leaves : (t flags : ℕ) (k : FlashKind) (m : List ℕ) (s : State) → is_sound s ≡ true → decoded m ≡ Open flags (Flash k) → (respond t m s).code ≡ success
    → (respond t m s).state.flash_group ≡ left_by_open k (swept t s).flash_group
unfolding open_blob
open-leaves t flags k m s h d a =
    let e = open_is t flags (Flash k) m s h d in
    ap (λ (o : Effect). o.state.flash_group) e ∙ open-emptied k flags t (swept t s) (sym (ap (λ (o : Effect). o.code) e) ∙ a)
