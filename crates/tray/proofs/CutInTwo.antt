-- A tray that is cut in two, between records, and sent as two calls, does what it does whole. Assumes nothing.
use Rattle.std.specs.Prelude.{◌≡◌, refl, Bool, true, false, cond, List, [], ◌∷◌, ◌++◌, ℕ, suc, ◌+◌, ◌-◌, ◌<◌, leb, length, take, drop}
use Rattle.std.proofs.Common.{sym, ◌∙◌, ap, subst, append_assoc, arith, length-append, length-drop, take-append-drop, drop-drop}
use Rattle.std.proofs.Math.Seq.{take-append_seam, drop-append_seam}
use Rattle.protocol.specs.Numbers.{success, answer_size}
use Rattle.protocol.specs.Frame.{laid}
use Rattle.state.specs.State.{State}
use Rattle.state.specs.Soundness.{is_sound}
use Rattle.rules.specs.Respond.{Effect, respond}
use Rattle.records.specs.Records.{Timed}
use Rattle.tray.specs.Tray.{tray_most, messages_in, tray_form, tray_code, Done, nothing_done, done_first, done_in, Tray, tray_done, tray}
use Rattle.tray.proofs.Form.{messages-joined, rest-form, start_of, between-records}
use Rattle.tray.proofs.Call.{accepted-is, tray-done, tray-sound}

-- ---- two lists of messages
-- what was done, and then what was done on the state that it left
abbrev pub done_then : Done → Done → Done
done_then d e = record { results = d.results ++ e.results; responses = d.responses ++ e.responses; state = e.state }

-- the second list, with the bytes and on the state that the first left
abbrev pub done_next : (free : ℕ) → Done → List Timed → Done
done_next free d ys = done_in (free - length d.responses) ys d.state

-- ALL OF THE FIRST LIST IS DONE: then the second follows, on the state and with the free bytes that the first left (rule 21.32)
pub lists-joined : (free : ℕ) (xs ys : List Timed) (s : State) → length (done_in free xs s).results ≡ length xs
    → done_in free (xs ++ ys) s ≡ done_then (done_in free xs s) (done_next free (done_in free xs s) ys)
unfolding done_in
lists-joined free [] ys s = λ h. let e : free ≡ free - 0 = omega arith in ap (λ (f : ℕ). done_in f ys s) e
lists-joined free (q ∷ xs) ys s = go (leb answer_size free) (lists-joined (free - length o.response) xs ys o.state)
  where
    o : Effect
    o = respond q.0 q.1 s

    rest : Done
    rest = done_in (free - length o.response) (xs ++ ys) o.state

    d : Done
    d = done_in (free - length o.response) xs o.state

    go : (y : Bool) → (length d.results ≡ length xs → rest ≡ done_then d (done_next (free - length o.response) d ys)) → length (cond y (done_first o d) (nothing_done s)).results ≡ suc (length xs)
        → cond y (done_first o rest) (nothing_done s) ≡ done_then (cond y (done_first o d) (nothing_done s)) (done_next free (cond y (done_first o d) (nothing_done s)) ys)
    go true f h =
        let l : free - length o.response - length d.responses ≡ free - length (o.response ++ d.responses) = omega (arith, length-append o.response d.responses) in
        let e : Done = done_next free (done_first o d) ys in
        ap (done_first o) (f (omega arith))
        ∙ ap (λ (n : ℕ). done_first o (done_then d (done_in n ys d.state))) l
        ∙ (λ i. record { results = (done_first o (done_then d e)).results; responses = sym (append_assoc o.response d.responses e.responses) i; state = e.state })
    go false f h = absurd (omega arith)

-- NOT ALL OF IT IS DONE: then nothing of the second is (rule 21.32)
pub lists-stopped : (free : ℕ) (xs ys : List Timed) (s : State) → length (done_in free xs s).results < length xs → done_in free (xs ++ ys) s ≡ done_in free xs s
unfolding done_in
lists-stopped free [] ys s = λ h. absurd (omega arith)
lists-stopped free (q ∷ xs) ys s = go (leb answer_size free) (lists-stopped (free - length o.response) xs ys o.state)
  where
    o : Effect
    o = respond q.0 q.1 s

    rest : Done
    rest = done_in (free - length o.response) (xs ++ ys) o.state

    d : Done
    d = done_in (free - length o.response) xs o.state

    go : (y : Bool) → (length d.results < length xs → rest ≡ d) → length (cond y (done_first o d) (nothing_done s)).results < suc (length xs)
        → cond y (done_first o rest) (nothing_done s) ≡ cond y (done_first o d) (nothing_done s)
    go true f h = ap (done_first o) (f (omega arith))
    go false f h = refl

-- ---- two calls
-- the second call: on the state that the first left, with the buffer behind its responses and 64 words of its own
abbrev pub next_tray : Tray → (records results : List ℕ) → Tray
next_tray r c v = tray c r.state (drop r.len r.responses) v

-- what both calls did, and what is left in the buffers w and a that the whole is lent
pub record Both (w : List ℕ) (first second whole : Tray) : Type 0 where
  pub second-accepted : second.code ≡ success
  pub whole-accepted : whole.code ≡ success
  pub done-is : whole.done ≡ first.done + second.done
  pub len_is : whole.len ≡ first.len + second.len
  pub state-is : whole.state ≡ second.state
  pub responses-are : whole.responses ≡ take first.len first.responses ++ second.responses
  pub results-are : whole.results ≡ laid (take first.done first.results ++ take second.done second.results) w

-- what the two lists do, as two calls do it
both-done : (d e : Done) (a w v : List ℕ) (first second whole : Tray) → first ≡ tray_done d a w → second ≡ tray_done e (drop (length d.responses) a) v
    → whole ≡ tray_done (done_then d e) a w → Both w first second whole
both-done d e a w v first second whole p q r = record {
  second-accepted = ap (λ (t : Tray). t.code) q;
  whole-accepted = ap (λ (t : Tray). t.code) r;
  done-is = ap (λ (t : Tray). t.done) r ∙ length-append d.results e.results ∙ sym (λ i. (p i).done + (q i).done);
  len_is = ap (λ (t : Tray). t.len) r ∙ length-append d.responses e.responses ∙ sym (λ i. (p i).len + (q i).len);
  state-is = ap (λ (t : Tray). t.state) r ∙ sym (ap (λ (t : Tray). t.state) q);
  responses-are = ap (λ (t : Tray). t.responses) r
      ∙ append_assoc d.responses e.responses (drop (length (d.responses ++ e.responses)) a)
      ∙ ap (λ (x : List ℕ). d.responses ++ (e.responses ++ x)) (ap (λ (n : ℕ). drop n a) (length-append d.responses e.responses) ∙ sym (drop-drop (length e.responses) (length d.responses) a))
      ∙ ap (λ (x : List ℕ). x ++ laid e.responses (drop (length d.responses) a)) (sym (take-append_seam d.responses (drop (length d.responses) a)))
      ∙ sym (λ i. take (p i).len (p i).responses ++ (q i).responses);
  results-are = ap (λ (t : Tray). t.results) r
      ∙ ap (λ (x : List ℕ). laid (x ++ e.results) w) (sym (take-append_seam d.results (drop (length d.results) w)))
      ∙ ap (λ (x : List ℕ). laid (take (length d.results) (laid d.results w) ++ x) w) (sym (take-append_seam e.results (drop (length e.results) v)))
      ∙ sym (λ i. laid (take (p i).done (p i).results ++ take (q i).done (q i).results) w);
}

module _ (b c : List ℕ) (s : State) (a w : List ℕ) (accepted : tray_code (b ++ c) s w ≡ success) (cut : tray_form b ≡ success) where
  first-is : tray b s a w ≡ tray_done (done_in (length a) (messages_in b) s) a w
  first-is = tray-done b s a w ((accepted-is b s w).1 (((accepted-is (b ++ c) s w).0 accepted).0, cut))

  whole_is : tray (b ++ c) s a w ≡ tray_done (done_in (length a) (messages_in b ++ messages_in c) s) a w
  whole_is = tray-done (b ++ c) s a w accepted ∙ ap (λ (qs : List Timed). tray_done (done_in (length a) qs s) a w) (messages-joined b c ((accepted-is (b ++ c) s w).0 accepted).1 cut)

  -- A TRAY IN TWO CALLS: if the first call does all its messages, the second is not refused, and both together do what one call does with both (rule 21.32)
  pub cut-in-two : (v : List ℕ) → length v ≡ tray_most → (tray b s a w).done ≡ length (messages_in b) → Both w (tray b s a w) (next_tray (tray b s a w) c v) (tray (b ++ c) s a w)
  cut-in-two v words h =
      let d = done_in (length a) (messages_in b) s in
      let x : List ℕ = drop (length d.responses) a in
      let ok = (accepted-is (b ++ c) s w).0 accepted in
      let p = first-is in
      let l : length x ≡ length a - length d.responses = length-drop (length d.responses) a in
      let sound : is_sound d.state ≡ true = ap (λ (t : Tray). is_sound t.state) (sym p) ∙ tray-sound b s a w ok.0.0 in
      let q : next_tray (tray b s a w) c v ≡ tray_done (done_next (length a) d (messages_in c)) x v = (λ i. next_tray (p i) c v)
      ∙ ap (λ (y : List ℕ). tray c d.state y v) (drop-append_seam d.responses x)
      ∙ tray-done c d.state x v ((accepted-is c d.state v).1 ((sound, words), rest-form b c ok.1 cut))
      ∙ ap (λ (n : ℕ). tray_done (done_in n (messages_in c) d.state) x v) l in
      let r = whole_is ∙ ap (λ (z : Done). tray_done z a w) (lists-joined (length a) (messages_in b) (messages_in c) s (sym (ap (λ (t : Tray). t.done) p) ∙ h)) in
      both-done d (done_next (length a) d (messages_in c)) a w v (tray b s a w) (next_tray (tray b s a w) c v) (tray (b ++ c) s a w) p q r

  -- IF IT DOES NOT, one call with both leaves what the first leaves (rule 21.32)
  pub stopped-in-first : (tray b s a w).done < length (messages_in b) → tray (b ++ c) s a w ≡ tray b s a w
  stopped-in-first h =
      let p = first-is in
      let l = ap (λ (t : Tray). t.done) p in
      whole_is ∙ ap (λ (z : Done). tray_done z a w) (lists-stopped (length a) (messages_in b) (messages_in c) s (omega arith)) ∙ sym p

-- EVERY CUT BETWEEN TWO RECORDS IS SUCH A CUT: the tray's first k records in one call, and the rest in the next (rule 21.32)
pub cut-anywhere : (k : ℕ) (b : List ℕ) (s : State) (a w v : List ℕ) → tray_code b s w ≡ success → length v ≡ tray_most
    → (tray (take (start_of k b) b) s a w).done ≡ length (take k (messages_in b))
    → Both w (tray (take (start_of k b) b) s a w) (next_tray (tray (take (start_of k b) b) s a w) (drop (start_of k b) b) v) (tray b s a w)
cut-anywhere k b s a w v accepted words h =
    let x = take (start_of k b) b in
    let y = drop (start_of k b) b in
    let j : x ++ y ≡ b = take-append-drop (start_of k b) b in
    let r = between-records k b ((accepted-is b s w).0 accepted).1 in
    subst (λ (z : List ℕ). Both w (tray x s a w) (next_tray (tray x s a w) y v) (tray z s a w)) j
    (cut-in-two x y s a w (subst (λ (z : List ℕ). tray_code z s w ≡ success) (sym j) accepted) r.before-form v words (h ∙ ap length (sym r.before-messages)))
