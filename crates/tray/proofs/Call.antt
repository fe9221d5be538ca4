-- What a tray's call answers and leaves: which codes, what a refusal keeps, how far it goes, and how much room is enough. Assumes nothing.
use Rattle.std.specs.Prelude.{◌≡◌, refl, ◌≢◌, ◌↔◌, Bool, true, false, ◌&&◌, List, [], ◌∷◌, ◌++◌, map, ℕ, ◌*◌, ◌-◌, ◌≤◌, ◌<◌, eqb, length, take, drop}
use Rattle.std.proofs.Common.{sym, ◌∙◌, subst, true≢false, arith, eqb-true, eq-eqb, ne_eqb, length-take, length-drop, length-take-le}
use Rattle.std.proofs.Math.Path.{ap}
use Rattle.std.proofs.Math.Bool.{cond}
use Rattle.std.proofs.Math.Decide.{ℕ_discrete, dec_lt}
use Rattle.std.proofs.lemmas.Bool.{eqb-false}
use Rattle.std.proofs.Math.ListN.{get_or-append}
use Rattle.std.proofs.Math.Seq.{take-append_seam, drop-append_seam, length_front}
use Rattle.std.proofs.lemmas.List.{take-append-le, drop-append-le}
use Rattle.laws.specs.All.{Or, this, that}
use Rattle.laws.specs.Ranges.{part}
use Rattle.protocol.specs.Numbers.{success, not_sound, wrong_length, too_long, answer_size}
use Rattle.protocol.specs.Frame.{laid}
use Rattle.state.specs.State.{State}
use Rattle.state.specs.Soundness.{is_sound}
use Rattle.guarantees.proofs.FlashPromise.{run_sound}
use Rattle.records.specs.Records.{is_whole, Timed, bytes_in}
use Rattle.tray.specs.Tray.{tray_most, messages_in, bytes_behind, tray_form, tray_code, Done, done_in, Tray, tray_done, tray_refused, tray}
use Rattle.tray.proofs.Whole.{AllWhole, no-requests, no_bytes, requests-most}
use Rattle.tray.proofs.Steps.{done_none}
use Rattle.tray.proofs.Form.{MoreBehind, form}
use Rattle.tray.proofs.Singly.{singly, answers_to, state_after, packed, end_to_end, bytes_before, call_of, AsSingly, as-singly, MessageDone, message-done}

-- ---- the code
-- the state is sound, and there are 64 words for the results
abbrev pub Ready : State → (results : List ℕ) → Type 0
Ready s w = (is_sound s ≡ true) × (length w ≡ tray_most)

-- one of the two is not so
abbrev pub NotReady : State → (results : List ℕ) → Type 0
NotReady s w = Or (is_sound s ≡ false) (length w ≢ tray_most)

-- one or the other, and what the code is then
abbrev CodeSays : List ℕ → State → List ℕ → ℕ → Type 0
CodeSays b s w c = Or (Ready s w × (c ≡ tray_form b)) (NotReady s w × (c ≡ not_sound))

code-says : (b : List ℕ) (s : State) (w : List ℕ) → CodeSays b s w (tray_code b s w)
unfolding tray_code
code-says b s w = go (is_sound s) refl (eqb (length w) tray_most) refl
  where
    go : (x : Bool) → is_sound s ≡ x → (y : Bool) → eqb (length w) tray_most ≡ y → CodeSays b s w (cond (x && y) (tray_form b) not_sound)
    go true p true q = this ((p, eqb-true (length w) tray_most q), refl)
    go true p false q = that (that (eqb-false (length w) tray_most q), refl)
    go false p y q = that (this p, refl)

not-both : {P : Type 0} (s : State) (w : List ℕ) → Ready s w → NotReady s w → P
not-both s w (h, e) (this p) = absurd (let z : true ≡ false = sym h ∙ p in true≢false z)
not-both s w (h, e) (that n) = absurd (n e)

-- when each code is answered
pub record Codes (b : List ℕ) (s : State) (w : List ℕ) (code : ℕ) : Type 0 where
  -- FF exactly where the state is not sound, or the results are not 64 words: whatever the records are
  pub is_not_sound : (code ≡ not_sound) ↔ NotReady s w
  -- C7 exactly where all that is so, and fewer than 64 whole records have bytes behind them
  pub cut : (code ≡ wrong_length) ↔ (Ready s w × ((length (messages_in b) < tray_most) × MoreBehind b))
  -- which begin no whole record: it is cut
  pub cut_record : code ≡ wrong_length → is_whole (bytes_behind b) ≡ false
  -- C8 exactly where 64 whole records have bytes behind them
  pub is_too_long : (code ≡ too_long) ↔ (Ready s w × ((length (messages_in b) ≡ tray_most) × MoreBehind b))
  -- 00 exactly where at most 64 whole records have none
  pub accepted : (code ≡ success) ↔ (Ready s w × AllWhole tray_most b)
  -- and there is no other code
  pub one-of : Or (code ≡ success) (Or (code ≡ not_sound) (Or (code ≡ wrong_length) (code ≡ too_long)))

codes-of : (b : List ℕ) (s : State) (w : List ℕ) (c : ℕ) → CodeSays b s w c → Codes b s w c
codes-of b s w c (that (n, e)) = record {
  is_not_sound = (λ _. n, λ _. e);
  cut = (λ z. absurd (omega arith), λ z. not-both s w z.0 n);
  cut_record = λ z. absurd (omega arith);
  is_too_long = (λ z. absurd (omega arith), λ z. not-both s w z.0 n);
  accepted = (λ z. absurd (omega arith), λ z. not-both s w z.0 n);
  one-of = that (this e);
}
codes-of b s w c (this (r, e)) = record {
  is_not_sound = (λ (z : c ≡ not_sound). absurd (never (form b).one-of (sym e ∙ z)), λ z. not-both s w r z);
  cut = (λ (z : c ≡ wrong_length). (r, (form b).cut.0 (sym e ∙ z)), λ z. e ∙ (form b).cut.1 z.1);
  cut_record = λ (z : c ≡ wrong_length). (form b).cut_record (sym e ∙ z);
  is_too_long = (λ (z : c ≡ too_long). (r, (form b).is_too_long.0 (sym e ∙ z)), λ z. e ∙ (form b).is_too_long.1 z.1);
  accepted = (λ (z : c ≡ success). (r, (form b).accepted.0 (sym e ∙ z)), λ z. e ∙ (form b).accepted.1 z.1);
  one-of = some (form b).one-of;
}
  where
    never : Or (tray_form b ≡ success) (Or (tray_form b ≡ wrong_length) (tray_form b ≡ too_long)) → tray_form b ≡ not_sound → ⊥
    never (this x) z = omega arith
    never (that (this x)) z = omega arith
    never (that (that x)) z = omega arith

    some : Or (tray_form b ≡ success) (Or (tray_form b ≡ wrong_length) (tray_form b ≡ too_long)) → Or (c ≡ success) (Or (c ≡ not_sound) (Or (c ≡ wrong_length) (c ≡ too_long)))
    some (this x) = this (e ∙ x)
    some (that (this x)) = that (that (this (e ∙ x)))
    some (that (that x)) = that (that (that (e ∙ x)))

-- a tray is not refused exactly where state and results are as they should be, and its records too
pub accepted-is : (b : List ℕ) (s : State) (w : List ℕ) → (tray_code b s w ≡ success) ↔ (Ready s w × (tray_form b ≡ success))
accepted-is b s w =
    let c = codes-of b s w (tray_code b s w) (code-says b s w) in
    let f = form b in (λ z. ((c.accepted.0 z).0, f.accepted.1 (c.accepted.0 z).1), λ z. c.accepted.1 (z.0, f.accepted.0 z.1))

-- ---- the call
-- a code alone: nothing is done, and all is as found
abbrev pub as_found : (code : ℕ) → State → (responses results : List ℕ) → Tray
as_found code s a w = record { code = code; done = 0; len = 0; state = s; responses = a; results = w }

module _ (b : List ℕ) (s : State) (a w : List ℕ) where
  -- accepted: what is done stands in the buffers
  pub tray-done : tray_code b s w ≡ success → tray b s a w ≡ tray_done (done_in (length a) (messages_in b) s) a w
  unfolding tray
  tray-done h = ap (λ (y : Bool). cond y (tray_done (done_in (length a) (messages_in b) s) a w) (tray_refused (tray_code b s w) s a w)) (eq-eqb (tray_code b s w) success h)

  tray-not : tray_code b s w ≢ success → tray b s a w ≡ tray_refused (tray_code b s w) s a w
  unfolding tray
  tray-not h = ap (λ (y : Bool). cond y (tray_done (done_in (length a) (messages_in b) s) a w) (tray_refused (tray_code b s w) s a w)) (ne_eqb (tray_code b s w) success h)

  -- a property that both ways have
  tray-has : (P : Tray → Type 0) → (tray_code b s w ≡ success → P (tray_done (done_in (length a) (messages_in b) s) a w)) → (tray_code b s w ≢ success
      → P (tray_refused (tray_code b s w) s a w)) → P (tray b s a w)
  tray-has P f g = go (ℕ_discrete (tray_code b s w) success)
    where
      go : Dec (tray_code b s w ≡ success) → P (tray b s a w)
      go (yes h) = subst P (sym (tray-done h)) (f h)
      go (no h) = subst P (sym (tray-not h)) (g h)

  -- the call's code is the one for records, state and results: what its messages are answered plays no part in it
  pub code_is : (tray b s a w).code ≡ tray_code b s w
  code_is = tray-has (λ (r : Tray). r.code ≡ tray_code b s w) sym (λ _. refl)

  -- THE CODES: each exactly where its rule says, and in this order (rule 21.29)
  pub tray-codes : Codes b s w (tray b s a w).code
  tray-codes = subst (Codes b s w) (sym code_is) (codes-of b s w (tray_code b s w) (code-says b s w))

  -- A REFUSED TRAY DOES NOTHING: state, responses and results are as found, whatever its records are (rule 21.29)
  pub refused-tray : (tray b s a w).code ≢ success → tray b s a w ≡ as_found (tray b s a w).code s a w
  refused-tray h =
      let left : tray b s a w ≡ as_found (tray_code b s w) s a w = tray-not (λ (e : tray_code b s w ≡ success). h (code_is ∙ e)) in
      left ∙ ap (λ (c : ℕ). as_found c s a w) (sym code_is)

  -- so is one on a state that is not sound, with FF (rule 21.29)
  pub unready-tray : NotReady s w → tray b s a w ≡ as_found not_sound s a w
  unready-tray n =
      let e : (tray b s a w).code ≡ not_sound = tray-codes.is_not_sound.1 n in
      refused-tray (omega arith) ∙ ap (λ (c : ℕ). as_found c s a w) e

-- ---- what is done, in the lent buffers
-- of a call that is not refused: so many messages, as single calls, and all behind their results and responses as found
pub record DoneSingly (b : List ℕ) (s : State) (a w : List ℕ) (r : Tray) : Type 0 where
  pub within : r.done ≤ length (messages_in b)
  -- it stops only before a message for which fewer than 64 bytes are free (rule 30.7)
  pub why-stopped : r.done < length (messages_in b) → length a - r.len < answer_size
  -- before each message that it does there are 64 (rule 30.7)
  pub had-room : (k : ℕ) → k < r.done → answer_size ≤ length a - bytes_before k (messages_in b) s
  pub len-fits : r.len ≤ length a
  pub state-is : r.state ≡ state_after (take r.done (messages_in b)) s
  pub results-are : take r.done r.results ≡ map packed (answers_to (take r.done (messages_in b)) s)
  pub results-kept : drop r.done r.results ≡ drop r.done w
  pub responses-are : take r.len r.responses ≡ end_to_end (answers_to (take r.done (messages_in b)) s)
  pub responses-kept : drop r.len r.responses ≡ drop r.len a
  -- each message's own, as by a call for it alone (rules 30.5 and 30.6)
  pub each : (k : ℕ) → k < r.done → MessageDone k (messages_in b) s r.results r.responses

-- a part that is what it is said to be has so many bytes there
part-there : (i : ℕ) (x y z : List ℕ) → part i (length z) x ≡ z → part i (length z) (x ++ y) ≡ z
part-there i x y [] e = refl
part-there i x y (v ∷ z) e =
    let n : ℕ = length (v ∷ z) in
    let l : n ≤ length (drop i x) = omega (arith, ap length e, length-take n (drop i x)) in
    ap (take n) (drop-append-le i x y (omega (arith, length-drop i x))) ∙ take-append-le n (drop i x) y l ∙ e

in-buffers : {k : ℕ} {qs : List Timed} {s : State} {x y : List ℕ} (a w : List ℕ) → k < length x → MessageDone k qs s x y → MessageDone k qs s (laid x w) (laid y a)
in-buffers {k} {qs} {s} {x} {y} a w l m = record {
  result-is = get_or-append x (drop (length x) w) 0 k l ∙ m.result-is;
  response-is = part-there (bytes_before k qs s) y (drop (length y) a) (call_of k qs s).response m.response-is;
}

module _ (b : List ℕ) (s : State) (a w : List ℕ) where
  -- A TRAY THAT IS NOT REFUSED does so many of its messages, in their order, with the results and responses of single calls (rule 21.30)
  pub done-singly : (tray b s a w).code ≡ success → DoneSingly b s a w (tray b s a w)
  done-singly h =
      let qs = messages_in b in
      let d = done_in (length a) qs s in
      let x = as-singly (length a) qs s in
      subst (DoneSingly b s a w) (sym (tray-done b s a w (sym (code_is b s a w) ∙ h))) (record {
        within = x.begins.within;
        why-stopped = x.why-stopped;
        had-room = x.had-room;
        len-fits = x.fits;
        state-is = x.begins.state-is;
        results-are = take-append_seam d.results (drop (length d.results) w) ∙ x.begins.results-are;
        results-kept = drop-append_seam d.results (drop (length d.results) w);
        responses-are = take-append_seam d.responses (drop (length d.responses) a) ∙ x.begins.responses-are;
        responses-kept = drop-append_seam d.responses (drop (length d.responses) a);
        each = λ (k : ℕ) (l : k < length d.results). in-buffers a w l (message-done (length a) qs s k l);
      })

  -- THE STATE STAYS SOUND, whatever is sent (rule 21.30)
  pub tray-sound : is_sound s ≡ true → is_sound (tray b s a w).state ≡ true
  tray-sound h =
      let qs = messages_in b in
      let n = length (done_in (length a) qs s).results in
      tray-has b s a w (λ (r : Tray). is_sound r.state ≡ true)
      (λ _. ap is_sound (as-singly (length a) qs s).begins.state-is ∙ run_sound (singly (take n qs)) s h)
      (λ _. h)

  -- the buffer for the responses stays as long as it is (rule 21.30)
  pub responses-long : length (tray b s a w).responses ≡ length a
  responses-long =
      let d = done_in (length a) (messages_in b) s in
      tray-has b s a w (λ (r : Tray). length r.responses ≡ length a)
      (λ _. length_front a d.responses (length d.responses) (sym (length-take-le (length d.responses) a (as-singly (length a) (messages_in b) s).fits)))
      (λ _. refl)

  -- and so do the results (rule 21.30)
  pub results-long : length (tray b s a w).results ≡ length w
  results-long =
      let d = done_in (length a) (messages_in b) s in
      tray-has b s a w (λ (r : Tray). length r.results ≡ length w)
      (λ (h : tray_code b s w ≡ success).
      let r : Ready s w = ((tray-codes b s a w).accepted.0 (code_is b s a w ∙ h)).0 in
      length_front w d.results (length d.results)
      (sym (length-take-le (length d.results) w (omega (arith, r.1, (as-singly (length a) (messages_in b) s).begins.within, requests-most tray_most b)))))
      (λ _. refl)

  -- no tray does more than 64 messages, nor has more than 4,096 bytes of responses (rule 21.31)
  pub tray-most : ((tray b s a w).done ≤ tray_most) × ((tray b s a w).len ≤ tray_most * answer_size)
  tray-most =
      let qs = messages_in b in
      let x = as-singly (length a) qs s in
      let m = requests-most tray_most b in
      tray-has b s a w (λ (r : Tray). (r.done ≤ tray_most) × (r.len ≤ tray_most * answer_size))
      (λ _. (omega (arith, x.begins.within, m), omega (arith, x.begins.within, x.at_most, m)))
      (λ _. (omega arith, omega arith))

  -- 4,096 FREE BYTES ARE ENOUGH FOR EVERY TRAY: 64 for each of the messages that it may have (rule 21.31)
  pub all_done : (tray b s a w).code ≡ success → tray_most * answer_size ≤ length a → (tray b s a w).done ≡ length (messages_in b)
  all_done h l =
      let d = done_in (length a) (messages_in b) s in
      let x = as-singly (length a) (messages_in b) s in
      ap (λ (r : Tray). r.done) (tray-done b s a w (sym (code_is b s a w) ∙ h)) ∙ go (dec_lt (length d.results) (length (messages_in b))) x
    where
      go : Dec (length (done_in (length a) (messages_in b) s).results < length (messages_in b)) → AsSingly (length a) (messages_in b) s (done_in (length a) (messages_in b) s)
          → length (done_in (length a) (messages_in b) s).results ≡ length (messages_in b)
      go (yes n) x = absurd (omega (arith, x.why-stopped n, x.at_most, requests-most tray_most b))
      go (no n) x = omega (arith, x.begins.within)

  -- WITH 64 FREE BYTES A TRAY GOES ON: it does one of its messages at least (rule 21.31)
  pub one-done : (tray b s a w).code ≡ success → answer_size ≤ length a → 0 < length (messages_in b) → 0 < (tray b s a w).done
  one-done h l m = go (dec_lt 0 (tray b s a w).done)
    where
      go : Dec (0 < (tray b s a w).done) → 0 < (tray b s a w).done
      go (yes n) = n
      go (no n) =
          let e = tray-done b s a w (sym (code_is b s a w) ∙ h) in
          absurd (omega (arith, (done-singly h).why-stopped (omega arith), (as-singly (length a) (messages_in b) s).at_most, ap (λ (r : Tray). r.done) e, ap (λ (r : Tray). r.len) e))

-- AN EMPTY TRAY is answered 00, and does nothing: all is as found (rule 21.30)
pub empty-tray : (s : State) (a w : List ℕ) → Ready s w → tray [] s a w ≡ as_found success s a w
empty-tray s a w r =
    let e : messages_in [] ≡ [] = no-requests tray_most in
    tray-done [] s a w (sym (code_is [] s a w) ∙ (tray-codes [] s a w).accepted.1 (r, ap bytes_in e ∙ no_bytes))
    ∙ ap (λ (d : Done). tray_done d a w) (ap (λ (qs : List Timed). done_in (length a) qs s) e ∙ done_none (length a) s)
