-- One message: its response in the part of the buffer that is lent for it, and in the whole buffer. Assumes nothing.
use mathlib.Core.Path.{◌≡◌, sym, ◌∙◌, ap}
use mathlib.Core.Bool.{Bool, true, ◌&&◌}
use mathlib.Core.List.{List, ◌++◌, append_assoc}
use Prim.Native.Nat.{ℕ, ◌+◌, ◌-◌, ◌≤◌}
use native.Mathlib.Omega.{arith}
use lib.Dec.{eqb}
use borrow.Author.Tests.{eq-eqb}
use lib.ListN.{length, take, drop, length-drop, take-append-drop}
use lib.Seq.{sets, sets-eq, drop-drop, drop-append-le, length-take-le}
use borrow.Rule.Slice.PartMut.{put_mid}
use Rattle.protocol.specs.Numbers.{answer_size}
use Rattle.protocol.specs.Frame.{laid}
use Rattle.state.specs.State.{State}
use Rattle.state.specs.Soundness.{is_sound}
use Rattle.rules.specs.Respond.{respond, Served, served}
use Rattle.rules.proofs.Laws.{served-is}
use Rattle.guarantees.proofs.Fits.{response-fits}
use Rattle.request_answer.specs.Call.{answerable}
use Rattle.tray_messages.specs.Call.{served_at}

-- the free bytes from `at` on that are lent for one response
abbrev pub lent : (a : List ℕ) (at : ℕ) → List ℕ
lent a at = take (at + answer_size - at) (drop at a)

module _ (a : List ℕ) (at : ℕ) (room : at + answer_size ≤ length a) where
  lent-size : length (lent a at) ≡ answer_size
  lent-size =
      let n : at + answer_size - at ≡ answer_size = omega arith in
      length-take-le (at + answer_size - at) (drop at a) (rw (length-drop at a) (omega arith)) ∙ n

  -- they are an answer buffer for a sound state
  pub can-answer : (s : State) → is_sound s ≡ true → true ≡ answerable s (lent a at)
  can-answer s h = sym (ap (λ (y : Bool). y && eqb (length (lent a at)) answer_size) h ∙ eq-eqb (length (lent a at)) answer_size lent-size)

  -- a response at their front stands in the whole buffer at `at`
  placed : (r : List ℕ) → length r ≤ answer_size → put_mid at (at + answer_size - at) a (laid r (lent a at)) ≡ sets a at r
  placed r fits =
      let n : ℕ = at + answer_size - at in
      let l : List ℕ = drop at a in
      let e : drop (length r) (take n l) ++ drop n l ≡ drop (at + length r) a =
      sym (drop-append-le (length r) (take n l) (drop n l) (rw lent-size fits)) ∙ ap (drop (length r)) (take-append-drop n l) ∙ drop-drop (length r) at a in
      ap (λ (x : List ℕ). take at a ++ x) (append_assoc r (drop (length r) (take n l)) (drop n l) ∙ ap (λ (x : List ℕ). r ++ x) e)
      ∙ sym (append_assoc (take at a) r (drop (at + length r) a))
      ∙ sym (sets-eq r a at (omega arith))

  -- what the code has once the message is answered
  pub answered-at : (t : ℕ) (m : List ℕ) (s : State) {u : Served} → u ≡ served t m s (lent a at)
      → record { code = u.code; len = u.len; state = u.state; answer = put_mid at (at + answer_size - at) a u.answer } ≡ served_at (respond t m s) a at
  answered-at t m s e =
      ap (λ (v : Served). record { code = v.code; len = v.len; state = v.state; answer = put_mid at (at + answer_size - at) a v.answer }) (e ∙ served-is t m s (lent a at) lent-size)
      ∙ (λ i. record {
        code = (respond t m s).code;
        len = length (respond t m s).response;
        state = (respond t m s).state;
        answer = placed (respond t m s).response (response-fits t m s) i;
      })
