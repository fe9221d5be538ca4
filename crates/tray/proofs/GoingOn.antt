-- Calls that go on where the one before stopped: with the records that it left, on its state, and with buffers of any lengths. All together they do what single calls do. Assumes nothing.
use Rattle.std.specs.Prelude.{◌≡◌, refl, true, ℕ, suc, ◌+◌, ◌-◌, ◌≤◌, ◌<◌, length, take, drop}
use Rattle.std.proofs.Common.{sym, ◌∙◌, ap, subst, arith, length-append, length-drop, take-add, length-take-le}
use mathlib.Core.List.{List, [], ◌∷◌, ◌++◌, map, flat_map, append_assoc, map-append}
use Rattle.std.proofs.Math.Decide.{dec_lt}
use Rattle.std.proofs.Math.Seq.{take-length}
use Rattle.laws.specs.Merge.{All}
use Rattle.protocol.specs.Numbers.{success, answer_size}
use Rattle.protocol.specs.Frame.{Answer}
use Rattle.state.specs.State.{State}
use Rattle.state.specs.Soundness.{is_sound}
use Rattle.rules.specs.Respond.{respond}
use Rattle.records.specs.Records.{Timed}
use Rattle.tray.specs.Tray.{tray_most, messages_in, tray_form, Done, Tray, tray}
use Rattle.tray.proofs.Form.{Between, between-records}
use Rattle.tray.proofs.Singly.{answers_to, state_after, packed, end_to_end, Beginning, none-begun}
use Rattle.tray.proofs.Call.{accepted-is, code_is, DoneSingly, done-singly, tray-sound, results-long, tray-most, one-done}
use Rattle.tray.proofs.CutInTwo.{done_then}
use Rattle.tray.proofs.GoingOnIs.{Lent, left_by, going_on, front_of, together, Room}

-- ---- single calls, behind others
answers-behind : (xs ys : List Timed) (s : State) → answers_to (xs ++ ys) s ≡ answers_to xs s ++ answers_to ys (state_after xs s)
answers-behind [] ys s = refl
answers-behind (q ∷ xs) ys s =
    let o = respond q.0 q.1 s in
    ap (λ (l : List Answer). (o.code, o.response) ∷ l) (answers-behind xs ys o.state)

state-behind : (xs ys : List Timed) (s : State) → state_after (xs ++ ys) s ≡ state_after ys (state_after xs s)
state-behind [] ys s = refl
state-behind (q ∷ xs) ys s = state-behind xs ys (respond q.0 q.1 s).state

end-to-end-append : (x y : List Answer) → end_to_end (x ++ y) ≡ end_to_end x ++ end_to_end y
unfolding flat_map
end-to-end-append [] y = refl
end-to-end-append (a ∷ x) y = ap (λ (l : List ℕ). a.1 ++ l) (end-to-end-append x y) ∙ sym (append_assoc a.1 (end_to_end x) (end_to_end y))

-- ---- a beginning, and a beginning of the rest behind it
beginning-on : (qs : List Timed) (s : State) (d e : Done) → Beginning qs s d → Beginning (drop (length d.results) qs) d.state e → Beginning qs s (done_then d e)
beginning-on qs s d e x y =
    let n = length d.results in
    let m = length e.results in
    let first = take n qs in
    let rest = take m (drop n qs) in
    let k : length (d.results ++ e.results) ≡ n + m = length-append d.results e.results in
    let both : take (length (d.results ++ e.results)) qs ≡ first ++ rest = ap (λ (j : ℕ). take j qs) k ∙ take-add n m qs in
    let from : d.state ≡ state_after first s = x.state-is in
    let answers : answers_to (take (length (d.results ++ e.results)) qs) s ≡ answers_to first s ++ answers_to rest d.state = ap (λ (l : List Timed). answers_to l s) both
    ∙ answers-behind first rest s
    ∙ ap (λ (z : State). answers_to first s ++ answers_to rest z) (sym from) in record {
      within = omega (arith, x.within, y.within, length-drop n qs);
      results-are = (λ i. x.results-are i ++ y.results-are i) ∙ sym (map-append packed (answers_to first s) (answers_to rest d.state)) ∙ ap (map packed) (sym answers);
      responses-are = (λ i. x.responses-are i ++ y.responses-are i) ∙ sym (end-to-end-append (answers_to first s) (answers_to rest d.state)) ∙ ap end_to_end (sym answers);
      state-is = y.state-is ∙ ap (state_after rest) from ∙ sym (state-behind first rest s) ∙ ap (λ (l : List Timed). state_after l s) (sym both);
    }

-- ---- a call that is not refused
module _ (b : List ℕ) (s : State) (a w : List ℕ) (sound : is_sound s ≡ true) (whole : tray_form b ≡ success) (words : length w ≡ tray_most) where
  accepted : (tray b s a w).code ≡ success
  accepted = code_is b s a w ∙ (accepted-is b s w).1 ((sound, words), whole)

  did : DoneSingly b s a w (tray b s a w)
  did = done-singly b s a w accepted

  front_long : length (take (tray b s a w).done (tray b s a w).results) ≡ (tray b s a w).done
  front_long = length-take-le (tray b s a w).done (tray b s a w).results (omega (arith, (tray-most b s a w).0, results-long b s a w))

  -- what it did is a beginning of its messages
  front-begins : Beginning (messages_in b) s (front_of (tray b s a w))
  front-begins =
      let r = tray b s a w in
      let n = front_long in record {
        within = omega (arith, did.within);
        results-are = did.results-are ∙ ap (λ (k : ℕ). map packed (answers_to (take k (messages_in b)) s)) (sym n);
        responses-are = did.responses-are ∙ ap (λ (k : ℕ). end_to_end (answers_to (take k (messages_in b)) s)) (sym n);
        state-is = did.state-is ∙ ap (λ (k : ℕ). state_after (take k (messages_in b)) s) (sym n);
      }

  -- what it left is a tray, with the messages behind these
  left_is : Between (tray b s a w).done b
  left_is = between-records (tray b s a w).done b whole

  left-long : length (messages_in (left_by (tray b s a w) b)) ≡ length (messages_in b) - (tray b s a w).done
  left-long = ap length left_is.behind-messages ∙ length-drop (tray b s a w).done (messages_in b)

  -- with 64 bytes it leaves fewer of them than there were
  fewer-left : (n : ℕ) → answer_size ≤ length a → length (messages_in b) ≤ suc n → length (messages_in (left_by (tray b s a w) b)) ≤ n
  fewer-left n room most = go (dec_lt 0 (length (messages_in b)))
    where
      go : Dec (0 < length (messages_in b)) → length (messages_in (left_by (tray b s a w) b)) ≤ n
      go (yes some) = omega (arith, left-long, one-done b s a w accepted room some)
      go (no none) = omega (arith, left-long)

-- each call is lent 64 words for its results
abbrev pub Words : List Lent → Type 0
Words ls = All (λ (l : Lent). length l.1 ≡ tray_most) ls

-- GOING ON: of a tray that is not refused, none of the calls is, and all together do a beginning of its messages, each as a call for it alone, wherever the buffers stopped them (rule 21.33)
pub goes_on : (ls : List Lent) (b : List ℕ) (s : State) → is_sound s ≡ true → tray_form b ≡ success → Words ls
    → All (λ (r : Tray). r.code ≡ success) (going_on ls b s) × Beginning (messages_in b) s (together (going_on ls b s) s)
goes_on [] b s h f u = (tt, none-begun (messages_in b) s)
goes_on (l ∷ ls) b s h f (u, us) =
    let r = tray b s l.0 l.1 in
    let left = left_is b s l.0 l.1 h f u in
    let rest = goes_on ls (left_by r b) r.state (tray-sound b s l.0 l.1 h) left.behind-form us in
    let behind : messages_in (left_by r b) ≡ drop (length (front_of r).results) (messages_in b) = left.behind-messages ∙ ap (λ (k : ℕ). drop k (messages_in b)) (sym (front_long b s l.0 l.1 h f u)) in
    let d = together (going_on ls (left_by r b) r.state) r.state in (
      (accepted b s l.0 l.1 h f u, rest.0),
      beginning-on (messages_in b) s (front_of r) d (front-begins b s l.0 l.1 h f u) (subst (λ (qs : List Timed). Beginning qs r.state d) behind rest.1),
    )

all-reached : (ls : List Lent) (b : List ℕ) (s : State) → is_sound s ≡ true → tray_form b ≡ success → Words ls → Room ls
    → length (messages_in b) ≤ length ls → length (together (going_on ls b s) s).results ≡ length (messages_in b)
all-reached [] b s h f u v n = omega arith
all-reached (l ∷ ls) b s h f (u, us) (v, vs) n =
    let r = tray b s l.0 l.1 in
    let d = together (going_on ls (left_by r b) r.state) r.state in
    let rest = all-reached ls (left_by r b) r.state (tray-sound b s l.0 l.1 h) (left_is b s l.0 l.1 h f u).behind-form us vs (fewer-left b s l.0 l.1 h f u (length ls) v n) in
    omega (arith, length-append (front_of r).results d.results, front_long b s l.0 l.1 h f u, left-long b s l.0 l.1 h f u, (did b s l.0 l.1 h f u).within)

-- all the messages, sent one by one
abbrev pub sent_singly : List Timed → State → Done
sent_singly qs s = record { results = map packed (answers_to qs s); responses = end_to_end (answers_to qs s); state = state_after qs s }

-- TO THE END: with 64 bytes or more for each call, as many calls as there are messages have done them all, each as a call for it alone (rule 21.33)
pub reaches_end : (ls : List Lent) (b : List ℕ) (s : State) → is_sound s ≡ true → tray_form b ≡ success → Words ls → Room ls
    → length (messages_in b) ≤ length ls → together (going_on ls b s) s ≡ sent_singly (messages_in b) s
reaches_end ls b s h f u v n =
    let x = (goes_on ls b s h f u).1 in
    let e : take (length (together (going_on ls b s) s).results) (messages_in b) ≡ messages_in b = ap (λ (k : ℕ). take k (messages_in b))
    (all-reached ls b s h f u v n) ∙ take-length (messages_in b) in
    let p = x.results-are ∙ ap (λ (qs : List Timed). map packed (answers_to qs s)) e in
    let q = x.responses-are ∙ ap (λ (qs : List Timed). end_to_end (answers_to qs s)) e in
    let r = x.state-is ∙ ap (λ (qs : List Timed). state_after qs s) e in
    λ i. record { results = p i; responses = q i; state = r i }
