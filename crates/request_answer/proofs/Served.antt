-- Each way through `answer`, as the rules have it. Assumes nothing.
use mathlib.Core.Path.{◌≡◌, refl, sym, ap, ap₂, ◌∙◌}
use mathlib.Core.Bool.{Bool, true, false, cond, ◌&&◌}
use mathlib.Core.List.{List}
use Prim.Native.Nat.{ℕ}
use native.Mathlib.Omega.{arith}
use lib.Dec.{eqb}
use borrow.Author.Tests.{eqb-true}
use lib.ListN.{length}
use Rattle.laws.specs.All.{and-true}
use Rattle.protocol.specs.Numbers.{not_sound, answer_size}
use Rattle.protocol.specs.Decode.{decoded, number_of}
use Rattle.protocol.specs.Frame.{Reply, Answer, framed, laid, answer_after}
use Rattle.protocol.specs.declared.Request.{Request}
use Rattle.state.specs.State.{State}
use Rattle.state.specs.Soundness.{is_sound}
use Rattle.rules.specs.Respond.{Effect, effect_of, unsound, answered, respond, Served, served_with, served}
use Rattle.rules.proofs.Laws.{respond-is, served-is}
use Rattle.request_serve.specs.Serves.{readied, ready-over}
use Rattle.request_answer.specs.Call.{answerable}

-- ---- a test that failed
-- the state is not sound, or the answer buffer has another size
pub not-able : (t : ℕ) (m : List ℕ) (s : State) (a : List ℕ) → answerable s a ≡ false → record { code = not_sound; len = 0; state = s; answer = a } ≡ served t m s a
unfolding served respond
not-able t m s a h = go (is_sound s) (eqb (length a) answer_size) h
  where
    full : Effect
    full = effect_of (framed (number_of (decoded m)) (answered (decoded m) t m s).0) (answered (decoded m) t m s).1

    go : (x y : Bool) → x && y ≡ false → ◌≡◌ {A = Served} (record { code = not_sound; len = 0; state = s; answer = a }) (served_with (cond y (cond x full (unsound s)) (unsound s)) a)
    go false true e = refl
    go false false e = refl
    go true false e = refl
    go true true e = absurd (let z : ◌≡◌ {A = ℕ} 0 1 = cc in omega arith)

-- both held
pub is-sound : (s : State) (a : List ℕ) → answerable s a ≡ true → is_sound s ≡ true
is-sound s a h = (and-true (is_sound s) (eqb (length a) answer_size) h).0

pub has-size : (s : State) (a : List ℕ) → answerable s a ≡ true → length a ≡ answer_size
has-size s a h = eqb-true (length a) answer_size (and-true (is_sound s) (eqb (length a) answer_size) h).1

-- ---- an answer
module _ (t : ℕ) (m : List ℕ) (s : State) (a : List ℕ) (h : length a ≡ answer_size) where
  -- what the command answered and left, b being the answer buffer after it, is written into the answer buffer
  module _ (g : is_sound s ≡ true) (q : Request) (e : q ≡ decoded m) (r : Reply) (s' : State) (b : List ℕ) (ready : ((r, s'), b) ≡ readied q t m s a)
      (number : ℕ) (named : number ≡ number_of q) where
    did : (r, s') ≡ answered q t m s
    did = ap (λ (x : (Reply × State) × List ℕ). x.0) ready

    over : (sub : ℕ) → answer_after sub (answered q t m s).0 b ≡ answer_after sub (answered q t m s).0 a
    over = ready-over q t m s a b (ap (λ (x : (Reply × State) × List ℕ). x.1) ready)

    said : framed number r ≡ framed (number_of (decoded m)) (answered (decoded m) t m s).0
    said = ap₂ framed (named ∙ ap number_of e) (ap (λ (x : Reply × State). x.0) did ∙ ap (λ (x : Request). (answered x t m s).0) e)

    pub answers : (code len : ℕ) (z : List ℕ) → code ≡ (framed number r).0 → len ≡ length (framed number r).1 → z ≡ answer_after number r b
        → record { code = code; len = len; state = s'; answer = z } ≡ served t m s a
    answers code len z ec el ez = whole ∙ sym (served-is t m s a h ∙ ap (λ (o : Effect). served_with o a) (respond-is t m s g))
      where
        answer-is : z ≡ laid (framed (number_of (decoded m)) (answered (decoded m) t m s).0).1 a
        answer-is =
            ez ∙ ap (λ (x : Reply × State). answer_after number x.0 b) did ∙ over number
            ∙ ap (λ (x : Answer). laid x.1 a) (ap (λ (x : Reply × State). framed number x.0) (sym did) ∙ said)

        state-is : s' ≡ (answered (decoded m) t m s).1
        state-is = ap (λ (x : Reply × State). x.1) did ∙ ap (λ (x : Request). (answered x t m s).1) e

        code_is : code ≡ (framed (number_of (decoded m)) (answered (decoded m) t m s).0).0
        code_is = ec ∙ ap (λ (x : Answer). x.0) said

        len_is : len ≡ length (framed (number_of (decoded m)) (answered (decoded m) t m s).0).1
        len_is = el ∙ ap (λ (x : Answer). length x.1) said

        whole : ◌≡◌ {A = Served} (record { code = code; len = len; state = s'; answer = z })
            (served_with (effect_of (framed (number_of (decoded m)) (answered (decoded m) t m s).0) (answered (decoded m) t m s).1) a)
        whole = λ i. record { code = code_is i; len = len_is i; state = state-is i; answer = answer-is i }
