-- What the cabinet does in a sound state, and the ways through Write's checks. Assumes nothing.
use Rattle.std.specs.Prelude.{◌≡◌, Bool, List, ℕ, ◌+◌, ◌≤◌, ◌<◌, max, ◌≢◌, length}
use Rattle.std.proofs.Math.Path.{refl, ap}
use Rattle.std.proofs.Common.{◌∙◌, arith, eq-eqb, leb-true, le-leb, get_or-set_other, get_or-set_same}
use Rattle.std.proofs.Math.Bool.{true, false, cond}
use Rattle.std.proofs.Math.Option.{Option, none, some}
use Rattle.std.proofs.Math.Dec.{leb}
use Rattle.std.proofs.lemmas.Bool.{lt-leb}
use Rattle.protocol.specs.Numbers.{row_words, too_long, out_of_range, answer_size}
use Rattle.protocol.specs.Decode.{decoded, number_of}
use Rattle.protocol.specs.Frame.{framed}
use Rattle.state.specs.State.{State, Row, in_row, place_of, in_body, cell}
use Rattle.state.proofs.Parts.{cell-row-other, table_kept}
use Rattle.state.specs.Soundness.{is_sound}
use Rattle.rules.specs.Command.{end_job, Out, refuse, placed, Command}
use Rattle.state.specs.declared.row.Wanted.TheVariants.{OnFlash}
use Rattle.rules.specs.Session.{on_session, on_row, on_part}
use Rattle.rules.specs.Respond.{effect_of, unsound, answered, respond, silent, job_outcome, served_with, served}
use Rattle.state.specs.Words.{blob, word_of, stamp_of, flags_in, status_in, status_of, clean_of, word_with, stamped, with_status, status-with}
use Rattle.rules.specs.Checks.{some_or, none_or, whether}

-- a message in a sound state
pub respond-is : (t : ℕ) (m : List ℕ) (s : State) → is_sound s ≡ true → respond t m s ≡ effect_of (framed (number_of (decoded m)) (answered (decoded m) t m s).0) (answered (decoded m) t m s).1
unfolding respond
respond-is t m s h =
    ap (λ (y : Bool). cond y (effect_of (framed (number_of (decoded m)) (answered (decoded m) t m s).0) (answered (decoded m) t m s).1) (unsound s)) h

-- the library's function, with an answer buffer of its size
pub served-is : (t : ℕ) (m : List ℕ) (s : State) (a : List ℕ) → length a ≡ answer_size → served t m s a ≡ served_with (respond t m s) a
unfolding served
served-is t m s a h = ap (λ (y : Bool). served_with (cond y (respond t m s) (unsound s)) a) (eq-eqb (length a) answer_size h)

-- a job outcome in a sound state
pub job_is : (good : Bool) (s : State) → is_sound s ≡ true → job_outcome good s ≡ effect_of (silent (on_session OnFlash 0 (end_job good) s).0) (on_session OnFlash 0 (end_job good) s).1
unfolding job_outcome
job_is good s h = ap (λ (y : Bool). cond y (effect_of (silent (on_session OnFlash 0 (end_job good) s).0) (on_session OnFlash 0 (end_job good) s).1) (unsound s)) h

-- what holds of both ways holds of a choice
pub cond_has : {A : Type 0} (P : A → Type 0) (y : Bool) (a b : A) → P a → P b → P (cond y a b)
cond_has P true a b x z = x
cond_has P false a b x z = z

-- the same of the checks that look something up; what was found is known where it goes on
pub some-has : {A : Type 0} (P : A → Type 0) (o : Option ℕ) (refusal : A) (next : ℕ → A) → P refusal → ((k : ℕ) → o ≡ some k → P (next k)) → P (some_or o refusal next)
some-has P none refusal next x f = x
some-has P (some k) refusal next x f = f k refl

pub none_has : {A : Type 0} (P : A → Type 0) (o : Option ℕ) (refusal next : A) → P refusal → (o ≡ none → P next) → P (none_or o refusal next)
none_has P none refusal next x f = f refl
none_has P (some q) refusal next x f = x

pub whether-has : {A : Type 0} (P : A → Type 0) (o : Option ℕ) (one : ℕ → A) (other : A) → ((k : ℕ) → o ≡ some k → P (one k)) → (o ≡ none → P other) → P (whether o one other)
whether-has P none one other f g = g refl
whether-has P (some k) one other f g = f k refl

-- ---- Write's checks, for a store slot, the image and the hash alike
module _ {B : Type 0} (capacity len offset n : ℕ) (r : Row) (b : B) (accepted : Out B) where
  -- what holds of the accepted write and of every refusal holds of a Write
  pub placed-has : (P : Out B → Type 0) → (offset ≤ len → offset + n ≤ capacity → P accepted) → ((code : ℕ) → P (refuse code r b)) → P (placed capacity len offset n r b accepted)
  unfolding placed
  placed-has P ok bad = go (leb offset len) refl (leb (offset + n) capacity) refl
    where
      go : (x : Bool) → leb offset len ≡ x → (y : Bool) → leb (offset + n) capacity ≡ y → P (cond x (cond y accepted (refuse too_long r b)) (refuse out_of_range r b))
      go true p true q = ok (leb-true offset len p) (leb-true (offset + n) capacity q)
      go true p false q = bad too_long
      go false p y q = bad out_of_range

  -- an offset past the length
  pub placed-beyond : len < offset → placed capacity len offset n r b accepted ≡ refuse out_of_range r b
  unfolding placed
  placed-beyond h = ap (λ (x : Bool). cond x (cond (leb (offset + n) capacity) accepted (refuse too_long r b)) (refuse out_of_range r b)) (lt-leb offset len h)

  inside : (y : Bool) → offset ≤ len → leb (offset + n) capacity ≡ y → placed capacity len offset n r b accepted ≡ cond y accepted (refuse too_long r b)
  unfolding placed
  inside y h q =
      ap (λ (x : Bool). cond x (cond (leb (offset + n) capacity) accepted (refuse too_long r b)) (refuse out_of_range r b)) (le-leb offset len h)
      ∙ ap (λ (x : Bool). cond x accepted (refuse too_long r b)) q

  -- an end past the capacity
  pub placed-over : offset ≤ len → capacity < offset + n → placed capacity len offset n r b accepted ≡ refuse too_long r b
  placed-over h l = inside false h (lt-leb (offset + n) capacity l)

  -- else it is accepted
  pub placed-fits : offset ≤ len → offset + n ≤ capacity → placed capacity len offset n r b accepted ≡ accepted
  placed-fits h l = inside true h (le-leb (offset + n) capacity l)

-- ---- a command on an open session
-- A COMMAND IS DECIDED BY ITS CLOCK AND ITS OWN ROW AND BODY, AND CHANGES THEM ONLY
pub by-own-part : (i t : ℕ) (c : Command) (s : State)
    → (on_row i t c s).1 ≡ (cell i (place_of (blob i s))).put (on_part (place_of (blob i s)) t c ((in_row i).get s) ((in_body (place_of (blob i s))).get s)).1 s
by-own-part i t c s = refl

-- so it leaves every other row
pub other-rows : (i q t : ℕ) (c : Command) (s : State) → i ≢ q → (in_row q).get (on_row i t c s).1 ≡ (in_row q).get s
other-rows i q t c s n =
    ap (λ (y : State). (in_row q).get y) (by-own-part i t c s) ∙ cell-row-other i q (place_of (blob i s)) (on_part (place_of (blob i s)) t c
    ((in_row i).get s) ((in_body (place_of (blob i s))).get s)).1 s n

-- and the length of the table
pub table-after : (i t : ℕ) (c : Command) (s : State) → length (on_row i t c s).1.sessions.table ≡ length s.sessions.table
table-after i t c s =
    ap (λ (y : State). length y.sessions.table) (by-own-part i t c s) ∙ table_kept i (place_of (blob i s)) (on_part (place_of (blob i s)) t c
    ((in_row i).get s) ((in_body (place_of (blob i s))).get s)).1 s

-- ---- a row's job status
-- the stamp is not part of it
pub stamped-status : (t : ℕ) (r : Row) → status_of (stamped t r) ≡ status_of r
stamped-status t r = ap status_in (get_or-set_other r.words 3 2 (max (stamp_of r) t) 0 (omega arith))

-- the status that was set
pub status-set : (v : ℕ) (r : Row) → length r.words ≡ row_words → v < 4 → status_of (with_status v r) ≡ v
status-set v r four h =
    ap status_in (get_or-set_same r.words 2 (word_with (flags_in (word_of r)) v (clean_of r)) 0 (omega arith))
    ∙ status-with (flags_in (word_of r)) v (clean_of r) (omega arith) h (omega arith)
