-- The run's loop: how far it has come, and each turn of it. Assumes nothing.
use Rattle.std.specs.Prelude.{◌≡◌, refl, Bool, true, false, ◌&&◌, List, [], ◌++◌, ℕ, ◌+◌, ◌-◌, ◌≤◌, ◌<◌, eqb, length, take, drop}
use Rattle.std.proofs.Common.{sym, ◌∙◌, ap, ap₂, subst, append_assoc, append-nil, add-zero, zero-add, add_assoc, arith, leb-true, length-drop, drop-drop, length-take-le}
use Rattle.std.proofs.lemmas.List.Edits.{sets}
use Rattle.std.proofs.Math.Seq.{length-sets}
use Rattle.laws.specs.Ranges.{part}
use Rattle.laws.specs.Written.{front-then, front-more, behind-less}
use Rattle.protocol.specs.Numbers.{answer_size}
use Rattle.protocol.specs.Frame.{laid}
use Rattle.state.specs.State.{State}
use Rattle.state.specs.Soundness.{is_sound}
use Rattle.rules.specs.Respond.{Served, served}
use Rattle.guarantees.proofs.Keep.{respond-sound}
use Rattle.guarantees.proofs.Answer.{leaves}
use Rattle.request_answer.specs.Call.{answerable}
use Rattle.request_answer.proofs.Served.{not-able, is-sound, has-size}
use Rattle.records.specs.Records.{clock_of, message_of, size_of, is_whole, requests}
use Rattle.records.proofs.Found.{Found, found-message}
use Rattle.run_lines.specs.Lines.{line_most}
use Rattle.run_lines.proofs.Laws.{line-fits}
use Rattle.run_output.specs.Run.{Ran, stopped, after, line_after, run_of, written_to, ran}
use Rattle.run_output.proofs.Laws.{run-full, run_none, run-whole, served-fits}
use Rattle.run_buffer.specs.Step.{Stepped, stepped}

-- ---- one request: u is what the library's function left, as the code has it
-- the response fits a line and the answer buffer
pub reply-fits : (t : ℕ) (m : List ℕ) (s : State) (a : List ℕ) {u : Served} → u ≡ served t m s a → (u.len ≤ answer_size) × (u.len ≤ length u.answer)
reply-fits t m s a e = subst (λ (u : Served). (u.len ≤ answer_size) × (u.len ≤ length u.answer)) (sym e) (served-fits t m s a)

-- its line is written
pub step_is : (t : List ℕ) (at : ℕ) {u v : Served} {e : ℕ} {x : List ℕ} → u ≡ v → (e ≡ at + length (line_after u)) × (x ≡ sets t at (line_after u))
    → record { end = e; state = u.state; answer = u.answer; text = x } ≡ stepped v t at
step_is t at {u} p q = (λ i. record { end = q.0 i; state = u.state; answer = u.answer; text = q.1 i }) ∙ ap (λ (y : Served). stepped y t at) p

-- ---- the test that is made once
-- a request leaves a sound state sound, an unsound one as it is, and the answer buffer as long as it was
pub able-kept : (t : ℕ) (m : List ℕ) (s : State) (a : List ℕ) → answerable (served t m s a).state (served t m s a).answer ≡ answerable s a
able-kept t m s a = go (answerable s a) refl
  where
    go : (y : Bool) → answerable s a ≡ y → answerable (served t m s a).state (served t m s a).answer ≡ answerable s a
    go true h =
        ap (λ (n : ℕ). is_sound (served t m s a).state && eqb n answer_size) (leaves t m s a).as_long
        ∙ ap (λ (y : Bool). y && eqb (length a) answer_size) (ap is_sound ((leaves t m s a).state-is (has-size s a h)) ∙ respond-sound t m s (is-sound s a h) ∙ sym (is-sound s a h))
    go false h = ap (λ (v : Served). answerable v.state v.answer) (sym (not-able t m s a h))

-- ---- how far the run has come: of the bytes b, at `at`; of the text t₀, which is t now, at `end`
pub record Progress (b : List ℕ) (s₀ : State) (a₀ t₀ : List ℕ) (at end : ℕ) (s : State) (a t : List ℕ) : Type 0 where
  pub at_in : at ≤ length b
  pub end-in : end ≤ length t₀
  pub as_long : length t ≡ length t₀
  pub behind : drop end t ≡ drop end t₀
  pub so_far : run_of (length t₀) (requests b) s₀ a₀ ≡ after (take end t) at (run_of (length t₀ - end) (requests (drop at b)) s a)

after-after : (x y : List ℕ) (m n : ℕ) (r : Ran) → after x m (after y n r) ≡ after (x ++ y) (m + n) r
after-after x y m n r = λ i. record { text = sym (append_assoc x y r.text) i; used = sym (add_assoc m n r.used) i; state = r.state; answer = r.answer }

pub begins : (b : List ℕ) (s : State) (a t : List ℕ) → Progress b s a t 0 0 s a t
begins b s a t = record {
  at_in = omega arith;
  end-in = omega arith;
  as_long = refl;
  behind = refl;
  so_far =
      let r = run_of (length t) (requests b) s a in
      let e : length t ≡ length t - 0 = omega arith in
      (λ i. record { text = r.text; used = sym (zero-add r.used) i; state = r.state; answer = r.answer })
      ∙ ap (λ (n : ℕ). after [] 0 (run_of n (requests b) s a)) e;
}

module _ (b : List ℕ) (s₀ : State) (a₀ t₀ : List ℕ) (at end : ℕ) (s : State) (a t : List ℕ) (p : Progress b s₀ a₀ t₀ at end s a t) where
  front : length (take end t) ≡ end
  front = length-take-le end t (let q = p.end-in in let k = p.as_long in omega arith)

  -- no room, or no whole record: the run is over
  ends : run_of (length t₀ - end) (requests (drop at b)) s a ≡ stopped s a → record { len = end; used = at; state = s; answer = a; text = t } ≡ ran b s₀ a₀ t₀
  ends h =
      let r : run_of (length t₀) (requests b) s₀ a₀ ≡ record { text = take end t; used = at; state = s; answer = a } =
      p.so_far ∙ ap (after (take end t) at) h ∙ (λ i. record { text = append-nil (take end t) i; used = add-zero at i; state = s; answer = a }) in
      let x : t ≡ laid (take end t) t₀ = front-then t t₀ end p.behind (let q = p.end-in in let k = p.as_long in omega arith) in
      (λ i. record { len = sym front i; used = at; state = s; answer = a; text = x i }) ∙ ap (written_to t₀) (sym r)

  pub ends-full : length t₀ - end < line_most → record { len = end; used = at; state = s; answer = a; text = t } ≡ ran b s₀ a₀ t₀
  ends-full h = ends (run-full (length t₀ - end) s a (requests (drop at b)) h)

  pub ends-none : is_whole (drop at b) ≡ false → record { len = end; used = at; state = s; answer = a; text = t } ≡ ran b s₀ a₀ t₀
  ends-none h = ends (run_none (length t₀ - end) s a (drop at b) h)

  -- a whole record, and room for its line: what its step leaves
  goes_on : is_whole (drop at b) ≡ true → end + line_most ≤ length t₀
      → Progress b s₀ a₀ t₀ (at + size_of (drop at b)) (end + length (line_after (served (clock_of (drop at b)) (message_of (drop at b)) s a)))
      (served (clock_of (drop at b)) (message_of (drop at b)) s a).state (served (clock_of (drop at b)) (message_of (drop at b)) s a).answer
      (sets t end (line_after (served (clock_of (drop at b)) (message_of (drop at b)) s a)))
  goes_on h room =
      let c : List ℕ = drop at b in
      let v : Served = served (clock_of c) (message_of c) s a in
      let l : List ℕ = line_after v in
      let f = served-fits (clock_of c) (message_of c) s a in
      let most : length l ≤ line_most = line-fits v.code (take v.len v.answer) (rw (length-take-le v.len v.answer f.1) f.0) in
      let fits : size_of c ≤ length c = leb-true (size_of c) (length c) h in
      let k : length t ≡ length t₀ = p.as_long in
      let place : end + length l ≤ length t = omega arith in
      let room-left : length t₀ - end - length l ≡ length t₀ - (end + length l) = omega arith in
      record {
        at_in = omega (arith, length-drop at b, p.at_in);
        end-in = omega arith;
        as_long = length-sets t end l ∙ p.as_long;
        behind = behind-less t t₀ end p.behind l place;
        so_far =
            p.so_far
            ∙ ap (after (take end t) at) (run-whole (length t₀ - end) s a c h (omega arith))
            ∙ after-after (take end t) l at (size_of c) (run_of (length t₀ - end - length l) (requests (drop (size_of c) c)) v.state v.answer)
            ∙ ap (λ (n : ℕ). after (take end t ++ l) (at + size_of c) (run_of n (requests (drop (size_of c) c)) v.state v.answer)) room-left
            ∙ ap₂ (λ (x y : List ℕ). after x (at + size_of c) (run_of (length t₀ - (end + length l)) (requests y) v.state v.answer))
            (sym (front-more t t₀ end p.behind l place))
            (drop-drop (size_of c) at b);
      }

  -- the step, as the code has it
  pub goes_to : {clock start len next : ℕ} → Found b at clock start len next → end + line_most ≤ length t₀ → {w : Stepped} → w ≡ stepped (served clock (part start len b) s a) t end
      → Progress b s₀ a₀ t₀ next w.end w.state w.answer w.text
  goes_to {next = next} f room e =
      let c : List ℕ = drop at b in
      let v : Served = served (clock_of c) (message_of c) s a in
      subst (λ (w : Stepped). Progress b s₀ a₀ t₀ next w.end w.state w.answer w.text)
      (sym (e ∙ ap (λ (u : Served). stepped u t end) (ap₂ (λ (x : ℕ) (m : List ℕ). served x m s a) f.clock-is (found-message f))))
      (subst (λ (n : ℕ). Progress b s₀ a₀ t₀ n (end + length (line_after v)) v.state v.answer (sets t end (line_after v))) (sym f.next-is) (goes_on f.whole room))
