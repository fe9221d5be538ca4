-- What a call leaves as found, and the way from the library's contract to the C function's. Assumes nothing.
use Rattle.std.specs.Prelude.{◌≡◌, Bool, List, [], ℕ, ◌/◌, ◌%◌, ◌≤◌, eqb, length}
use Rattle.std.proofs.Math.Path.{refl, sym, ap}
use Rattle.std.proofs.Common.{◌∙◌, subst, arith}
use Rattle.std.proofs.Math.Bool.{true, false, cond}
use Rattle.protocol.specs.Numbers.{invalid, not_sound, answer_size}
use Rattle.state.specs.State.{State, state_of}
use Rattle.state.specs.Soundness.{is_sound}
use Rattle.state.specs.declared.Control.{Control}
use Rattle.rules.specs.Respond.{Effect, unsound, respond, job_outcome, Served, served_with, served}
use Rattle.guarantees.proofs.Fits.{response-fits}
use Rattle.store_file.specs.Saved.{saved_into}
use Rattle.store_file.specs.Loaded.{loaded}
use Rattle.capi_control.specs.Words.{control_fits, control_of, words_of}
use Rattle.capi_control.proofs.Laws.{words-control}
use Rattle.tray.specs.Tray.{code_unit}
use Rattle.capi_calls.specs.Call.{Memory, state_in, memory_of, Responded, responded_with, responded, result_of, reported_with, kept_with, job_good, is_verdict, reported, part_of, saved_call, loaded_with, loaded_call}

-- the memory l with other control words
abbrev with_control : Memory → List ℕ → Memory
with_control l w = record { control = w; table = l.table; names = l.names; committed = l.committed; staged = l.staged; image = l.image; hash = l.hash }

-- the memory of the state in a memory is that memory
pub memory-state : (l : Memory) → control_fits l.control ≡ true → memory_of (state_in l) ≡ l
memory-state l f = ap (with_control l) (words-control l.control f)

-- ---- a request
-- FF, and all is as it was
abbrev pub refused_kept : Memory → List ℕ → Responded
refused_kept l a = record { code = not_sound; len = 0; memory = l; answer = a }

module _ (t : ℕ) (m : List ℕ) (l : Memory) (a : List ℕ) where
  pub respond-not : control_fits l.control ≡ false → responded t m l a ≡ refused_kept l a
  unfolding responded
  respond-not f = rw f

  -- the library's answer is the C function's: r is the result, b the control block before it, v after it
  pub respond-fits : (r code len : ℕ) (b v : Control) (w tb n c g i h z : List ℕ) → control_fits l.control ≡ true
      → r % code_unit ≡ code → r / code_unit ≡ len → b ≡ control_of l.control → w ≡ words_of v
      → record { code = code; len = len; state = state_of v tb n c g i h; answer = z } ≡ served t m (state_of b l.table l.names l.committed l.staged l.image l.hash) a
      → result_of r (record { control = w; table = tb; names = n; committed = c; staged = g; image = i; hash = h }) z ≡ responded t m l a
  unfolding responded
  respond-fits r code len b v w tb n c g i h z f e₁ e₂ e₃ e₄ e =
      (λ j. record { code = e₁ j; len = e₂ j; memory = record { control = e₄ j; table = tb; names = n; committed = c; staged = g; image = i; hash = h }; answer = z })
      ∙ ap responded_with e
      ∙ ap (λ (x : Control). responded_with (served t m (state_of x l.table l.names l.committed l.staged l.image l.hash) a)) e₃
      ∙ sym (rw f)

  refused-unsound : is_sound (state_in l) ≡ false → respond t m (state_in l) ≡ unsound (state_in l)
  unfolding respond
  refused-unsound h = rw h

  -- THEOREM: a state that is not sound is refused as a control block that is none is, and all is as found
  pub unsound-kept : is_sound (state_in l) ≡ false → responded t m l a ≡ refused_kept l a
  unfolding responded served
  unsound-kept h = go (control_fits l.control) refl
    where
      either : (y : Bool) → served_with (cond y (respond t m (state_in l)) (unsound (state_in l))) a ≡ served_with (unsound (state_in l)) a
      either true = ap (λ (o : Effect). served_with o a) (refused-unsound h)
      either false = refl

      go : (y : Bool) → control_fits l.control ≡ y → responded t m l a ≡ refused_kept l a
      go false f = rw f
      go true f = rw f (ap responded_with (either (eqb (length a) answer_size)) ∙ ap (λ (k : Memory). refused_kept k a) (memory-state l f))

-- a response is at most as long as the answer buffer
pub served-fits : (t : ℕ) (m : List ℕ) (s : State) (a : List ℕ) (v : Served) → v ≡ served t m s a → v.len ≤ answer_size
unfolding served
served-fits t m s a v e = subst (λ (x : Served). x.len ≤ answer_size) (sym e) (go (eqb (length a) answer_size))
  where
    go : (y : Bool) → (served_with (cond y (respond t m s) (unsound s)) a).len ≤ answer_size
    go true = response-fits t m s
    go false = omega arith

-- ---- a job outcome
module _ (v : ℕ) (l : Memory) where
  pub report-not : control_fits l.control ≡ false → reported v l ≡ kept_with not_sound l
  unfolding reported
  report-not f = rw f

  -- THEOREM: a state that is not sound is refused, whatever the verdict, and all is as found
  pub report-unsound : is_sound (state_in l) ≡ false → reported v l ≡ kept_with not_sound l
  unfolding reported
  report-unsound h = go (control_fits l.control) refl
    where
      go : (y : Bool) → control_fits l.control ≡ y → reported v l ≡ kept_with not_sound l
      go false f = rw f
      go true f = rw (f, h)

  module _ (f : control_fits l.control ≡ true) where
    -- a verdict that is none: c is its code, b the control block
    pub report-none : (c : ℕ) (b : Control) → is_verdict v ≡ false → b ≡ control_of l.control
        → c ≡ cond (is_sound (state_of b l.table l.names l.committed l.staged l.image l.hash)) invalid not_sound → kept_with c l ≡ reported v l
    unfolding reported
    report-none c b n e₁ e = ap (λ (x : ℕ). kept_with x l) (e ∙ ap (λ (x : Control). cond (is_sound (state_of x l.table l.names l.committed l.staged l.image l.hash)) invalid not_sound) e₁)
        ∙ go (is_sound (state_in l)) refl
      where
        go : (y : Bool) → is_sound (state_in l) ≡ y → kept_with (cond (is_sound (state_in l)) invalid not_sound) l ≡ reported v l
        go true h = rw (f, h, n)
        go false h = rw (f, h)

    -- THEOREM: on a sound state it is refused with CC, and all is as found
    pub verdict-none : is_sound (state_in l) ≡ true → is_verdict v ≡ false → reported v l ≡ kept_with invalid l
    verdict-none h n = sym (report-none invalid (control_of l.control) n refl (rw h))

    -- a verdict: what the library answers, also where the state is not sound
    report-is : is_verdict v ≡ true → reported v l ≡ reported_with (job_outcome (eqb v job_good) (state_in l))
    unfolding reported job_outcome
    report-is n = go (is_sound (state_in l)) refl
      where
        go : (y : Bool) → is_sound (state_in l) ≡ y → reported v l ≡ reported_with (job_outcome (eqb v job_good) (state_in l))
        go true h = rw (f, h, n)
        go false h = rw (f, h) (ap (kept_with not_sound) (sym (memory-state l f)))

    -- the library's answer is the C function's: the control block b stays
    pub report-fits : (code : ℕ) (b : Control) (tb : List ℕ) → is_verdict v ≡ true → b ≡ control_of l.control
        → record { code = code; response = []; state = state_of b tb l.names l.committed l.staged l.image l.hash }
        ≡ job_outcome (eqb v job_good) (state_of b l.table l.names l.committed l.staged l.image l.hash)
        → record { code = code; memory = record { control = l.control; table = tb; names = l.names; committed = l.committed; staged = l.staged; image = l.image; hash = l.hash } } ≡ reported v l
    report-fits code b tb n e₁ e =
        (λ j. record {
          code = code;
          memory = record
              { control = (sym (words-control l.control f) ∙ ap words_of (sym e₁)) j; table = tb; names = l.names; committed = l.committed; staged = l.staged; image = l.image; hash = l.hash };
        })
        ∙ ap reported_with e
        ∙ ap (λ (x : Control). reported_with (job_outcome (eqb v job_good) (state_of x l.table l.names l.committed l.staged l.image l.hash))) e₁
        ∙ sym (report-is n)

-- ---- a store file
module _ (p : ℕ) (l : Memory) (b : List ℕ) where
  pub save-not : control_fits l.control ≡ false → saved_call p l b ≡ record { code = not_sound; len = 0; buffer = b }
  unfolding saved_call
  save-not f = rw f

  -- the library's part is the C function's: r is the result, v the control block
  pub save-fits : (r code len : ℕ) (v : Control) (z : List ℕ) → control_fits l.control ≡ true → r % code_unit ≡ code → r / code_unit ≡ len → v ≡ control_of l.control
      → record { code = code; len = len; buffer = z } ≡ saved_into p (state_of v l.table l.names l.committed l.staged l.image l.hash) b
      → part_of r z ≡ saved_call p l b
  unfolding saved_call
  save-fits r code len v z f e₁ e₂ e₃ e =
      (λ j. record { code = e₁ j; len = e₂ j; buffer = z })
      ∙ e
      ∙ ap (λ (x : Control). saved_into p (state_of x l.table l.names l.committed l.staged l.image l.hash) b) e₃
      ∙ sym (rw f)

module _ (x : List ℕ) (l : Memory) where
  pub load-not : control_fits l.control ≡ false → loaded_call x l ≡ kept_with not_sound l
  unfolding loaded_call
  load-not f = rw f

  -- what the library leaves is what the C function leaves: b is the control block before, v after
  pub load_fits : (code : ℕ) (b v : Control) (w n c g : List ℕ) → control_fits l.control ≡ true → b ≡ control_of l.control → w ≡ words_of v
      → record { code = code; state = state_of v l.table n c g l.image l.hash } ≡ loaded x (state_of b l.table l.names l.committed l.staged l.image l.hash)
      → record { code = code; memory = record { control = w; table = l.table; names = n; committed = c; staged = g; image = l.image; hash = l.hash } } ≡ loaded_call x l
  unfolding loaded_call
  load_fits code b v w n c g f e₁ e₂ e =
      (λ j. record { code = code; memory = record { control = e₂ j; table = l.table; names = n; committed = c; staged = g; image = l.image; hash = l.hash } })
      ∙ ap loaded_with e
      ∙ ap (λ (y : Control). loaded_with (loaded x (state_of y l.table l.names l.committed l.staged l.image l.hash))) e₁
      ∙ sym (rw f)
