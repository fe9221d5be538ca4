-- What `lowest_free(mask).ok_or(code)?` comes to: the lowest free place, or the refusal where none is free. Assumes nothing.
use Rattle.std.specs.Prelude.{◌≡◌, ℕ, ◌<◌, Option as Answer, Some, None, Err}
use Rattle.std.specs.Option.{ok_or, is_some}
use Rattle.std.specs.Result.{IsErrAnd}
use Rattle.std.proofs.Common.{refl, sym, ◌∙◌, ap, true, false, arith}
use mathlib.Core.Bool.{true≢false}
use Rattle.std.proofs.Math.Option.{none, some}
use Rattle.std.proofs.lemmas.Result.{err_from_is_err_and}
use Rattle.laws.specs.Find.{first, found}
use Rattle.laws.specs.Masks.{clear}
use Rattle.protocol.specs.Numbers.{slot_count}
use Rattle.protocol.specs.declared.Code.{Code}
use Rattle.response_types.specs.After.{Outcome}
use Rattle.state.specs.Answers.{option_of}

module _ (mask : ℕ) {o : Answer ℕ} (searched : option_of o ≡ first (clear mask) slot_count) where
  pub lowest-is : {k : ℕ} → o ≡ Some k → first (clear mask) slot_count ≡ some k
  lowest-is p = sym searched ∙ ap option_of p

  pub lowest-low : {k : ℕ} → o ≡ Some k → k < slot_count
  lowest-low {k = k} p = (found (clear mask) slot_count k (lowest-is p)).low

  pub none-free : o ≡ None → first (clear mask) slot_count ≡ none
  none-free p = sym searched ∙ ap option_of p

module _ {o : Answer ℕ} where
  same-code : {code e : Code} → Err e ≡ ok_or o code → o ≡ None → e ≡ code
  same-code v p = grind arith

  -- what is answered where none is free: r, the exit of the `?` at the refusal e
  pub full : {r : Outcome} {code e : Code} → IsErrAnd r (λ (y : Code). y ≡ e) → Err e ≡ ok_or o code → o ≡ None → r ≡ Err code
  full {r = r} passed v p = let exit = err_from_is_err_and r passed in exit.1 ∙ ap Err (exit.2 ∙ same-code v p)

-- `is_some`
pub has-some : (o : Answer ℕ) → is_some o ≡ true → (k : ℕ) × (o ≡ Some k)
has-some (Some k) p = (k, refl)
has-some None p = absurd (true≢false (sym p))

pub has-none : (o : Answer ℕ) → is_some o ≡ false → o ≡ None
has-none (Some k) p = absurd (true≢false p)
has-none None p = refl
