-- The loop over a tray's messages: how far it has come, each turn of it, and its ends. Assumes nothing.
use mathlib.Core.Path.{◌≡◌, refl, sym, ◌∙◌, ap, ap₂, subst}
use mathlib.Core.Bool.{Bool, true, false, ◌&&◌}
use mathlib.Core.List.{List, [], ◌∷◌, ◌++◌, append_assoc, append-nil}
use Prim.Native.Nat.{ℕ, ◌+◌, ◌*◌, ◌-◌, ◌≤◌, ◌<◌}
use native.Mathlib.Omega.{arith}
use lib.Dec.{leb, ltb}
use borrow.Author.Tests.{leb-true, leb-false, ltb-false}
use lib.ListN.{length, set, take, drop, length-drop}
use lib.Seq.{sets, length-sets, length-take-le}
use Rattle.laws.specs.Ranges.{part}
use Rattle.laws.specs.Written.{front-then, front-more, behind-less}
use Rattle.protocol.specs.Numbers.{success, answer_size}
use Rattle.state.specs.State.{State}
use Rattle.state.specs.Soundness.{is_sound}
use Rattle.rules.specs.Respond.{Effect, respond, Served}
use Rattle.guarantees.proofs.Keep.{respond-sound}
use Rattle.guarantees.proofs.Fits.{response-fits}
use Rattle.records.specs.Records.{clock_of, message_of, size_of, is_whole, Timed, requests_in}
use Rattle.records.proofs.Requests.{first-none}
use Rattle.records.proofs.Found.{Found, found-message}
use Rattle.tray.specs.Tray.{tray_most, messages_in, code_unit, result_word, Done, nothing_done, done_first, done_in, tray_done}
use Rattle.tray.proofs.Steps.{done_none, done_full, done-one}
use Rattle.tray_messages.specs.Call.{served_at}
use Rattle.tray_form.proofs.Form.{more, all_seen}

-- what one message's response takes
pub reply-short : (t : ℕ) (m : List ℕ) (s : State) (a : List ℕ) (at : ℕ) {u : Served} → u ≡ served_at (respond t m s) a at → u.len ≤ answer_size
reply-short t m s a at e = subst (λ (u : Served). u.len ≤ answer_size) (sym e) (response-fits t m s)

-- ---- how far the loop has come: of the bytes b, at `at`; of the responses a₀, which are a now, at `end`; of the results w₀, which are w now, at `done`
-- results and responses in front of what follows
abbrev done_then : (results responses : List ℕ) → Done → Done
done_then w a d = record { results = w ++ d.results; responses = a ++ d.responses; state = d.state }

pub record Progress (b : List ℕ) (s₀ : State) (a₀ w₀ : List ℕ) (at done end : ℕ) (s : State) (a w : List ℕ) : Type 0 where
  pub at_in : at ≤ length b
  pub done-in : done ≤ tray_most
  pub end-in : end ≤ length a₀
  pub as_long : length a ≡ length a₀
  pub as_many : length w ≡ length w₀
  pub behind : drop end a ≡ drop end a₀
  pub behind-words : drop done w ≡ drop done w₀
  pub still-sound : is_sound s ≡ true
  pub so_far : done_in (length a₀) (messages_in b) s₀ ≡ done_then (take done w) (take end a) (done_in (length a₀ - end) (requests_in (tray_most - done) (drop at b)) s)

pub begins : (b : List ℕ) (s : State) (a w : List ℕ) → is_sound s ≡ true → Progress b s a w 0 0 0 s a w
begins b s a w h = record {
  at_in = omega arith;
  done-in = omega arith;
  end-in = omega arith;
  as_long = refl;
  as_many = refl;
  behind = refl;
  behind-words = refl;
  still-sound = h;
  so_far = let e : length a ≡ length a - 0 = omega arith in ap (λ (n : ℕ). done_in n (messages_in b) s) e;
}

module _ (b : List ℕ) (s₀ : State) (a₀ w₀ : List ℕ) (words : length w₀ ≡ tray_most) (at done end : ℕ) (s : State) (a w : List ℕ) (p : Progress b s₀ a₀ w₀ at done end s a w) where
  -- nothing more is done
  ends : done_in (length a₀ - end) (requests_in (tray_most - done) (drop at b)) s ≡ nothing_done s
      → record { code = success; done = done; len = end; state = s; responses = a; results = w } ≡ tray_done (done_in (length a₀) (messages_in b) s₀) a₀ w₀
  ends h =
      let r : done_in (length a₀) (messages_in b) s₀ ≡ record { results = take done w; responses = take end a; state = s } =
      p.so_far ∙ ap (done_then (take done w) (take end a)) h ∙ (λ i. record { results = append-nil (take done w) i; responses = append-nil (take end a) i; state = s }) in
      let k : done ≤ length w = let q = p.done-in in let z = p.as_many in omega arith in
      let l : end ≤ length a = let q = p.end-in in let z = p.as_long in omega arith in
      (λ i. record {
        code = success;
        done = sym (length-take-le done w k) i;
        len = sym (length-take-le end a l) i;
        state = s;
        responses = front-then a a₀ end p.behind l i;
        results = front-then w w₀ done p.behind-words k i;
      })
      ∙ ap (λ (d : Done). tray_done d a₀ w₀) (sym r)

  ends-full : length a₀ - end < answer_size
      → record { code = success; done = done; len = end; state = s; responses = a; results = w } ≡ tray_done (done_in (length a₀) (messages_in b) s₀) a₀ w₀
  ends-full h = ends (done_full (length a₀ - end) (requests_in (tray_most - done) (drop at b)) s h)

  -- no message is left
  ends-empty : requests_in (tray_most - done) (drop at b) ≡ []
      → record { code = success; done = done; len = end; state = s; responses = a; results = w } ≡ tray_done (done_in (length a₀) (messages_in b) s₀) a₀ w₀
  ends-empty e = ends (ap (λ (qs : List Timed). done_in (length a₀ - end) qs s) e ∙ done_none (length a₀ - end) s)

  ends-all : tray_most ≤ done
      → record { code = success; done = done; len = end; state = s; responses = a; results = w } ≡ tray_done (done_in (length a₀) (messages_in b) s₀) a₀ w₀
  ends-all h = ends-empty (all_seen b at done h)

  -- the loop's test failed
  pub ends-left : ltb done tray_most && leb answer_size (length a - end) ≡ false
      → record { code = success; done = done; len = end; state = s; responses = a; results = w } ≡ tray_done (done_in (length a₀) (messages_in b) s₀) a₀ w₀
  ends-left h = go (ltb done tray_most) refl h
    where
      go : (y : Bool) → ltb done tray_most ≡ y → y && leb answer_size (length a - end) ≡ false
          → record { code = success; done = done; len = end; state = s; responses = a; results = w } ≡ tray_done (done_in (length a₀) (messages_in b) s₀) a₀ w₀
      go true e q = ends-full (let z = p.as_long in omega (arith, leb-false answer_size (length a - end) q))
      go false e q = ends-all (omega (arith, ltb-false done tray_most e))

  -- there is no whole record
  pub ends-none : is_whole (drop at b) ≡ false
      → record { code = success; done = done; len = end; state = s; responses = a; results = w } ≡ tray_done (done_in (length a₀) (messages_in b) s₀) a₀ w₀
  ends-none h = ends-empty (first-none (tray_most - done) (drop at b) h)

  -- a whole record, and room for its response: what its message leaves
  goes_on : is_whole (drop at b) ≡ true → done < tray_most → end + answer_size ≤ length a₀ → (o : Effect) → o ≡ respond (clock_of (drop at b)) (message_of (drop at b)) s
      → Progress b s₀ a₀ w₀ (at + size_of (drop at b)) (done + 1) (end + length o.response) o.state (sets a end o.response) (set w done (result_word o))
  goes_on h few room o e =
      let c : List ℕ = drop at b in
      let r : List ℕ = o.response in
      let v : List ℕ = result_word o ∷ [] in
      let rest : List Timed = requests_in (tray_most - (done + 1)) (drop (at + size_of c) b) in
      let fits : length r ≤ answer_size = subst (λ (z : Effect). length z.response ≤ answer_size) (sym e) (response-fits (clock_of c) (message_of c) s) in
      let size : size_of c ≤ length c = leb-true (size_of c) (length c) h in
      let left : length a₀ - end - length r ≡ length a₀ - (end + length r) = omega arith in
      let place : end + length r ≤ length a = let z = p.as_long in omega arith in
      let word : done + length v ≤ length w = let z = p.as_many in omega arith in
      let step : done_in (length a₀ - end) (requests_in (tray_most - done) c) s ≡ done_first o (done_in (length a₀ - (end + length r)) rest o.state) =
      ap (λ (l : List Timed). done_in (length a₀ - end) l s) (more b at done h few)
      ∙ done-one (length a₀ - end) (clock_of c, message_of c) rest s (omega arith)
      ∙ ap (λ (z : Effect). done_first z (done_in (length a₀ - end - length z.response) rest z.state)) (sym e)
      ∙ ap (λ (n : ℕ). done_first o (done_in n rest o.state)) left in
      let d : Done = done_in (length a₀ - (end + length r)) rest o.state in
      record {
        at_in = omega (arith, length-drop at b, p.at_in);
        done-in = omega arith;
        end-in = omega arith;
        as_long = length-sets a end r ∙ p.as_long;
        as_many = length-sets w done v ∙ p.as_many;
        behind = behind-less a a₀ end p.behind r place;
        behind-words = behind-less w w₀ done p.behind-words v word;
        still-sound = ap (λ (z : Effect). is_sound z.state) e ∙ respond-sound (clock_of c) (message_of c) s p.still-sound;
        so_far =
            p.so_far
            ∙ ap (done_then (take done w) (take end a)) step
            ∙ (λ i. record {
              results = sym (append_assoc (take done w) v d.results) i;
              responses = sym (append_assoc (take end a) r d.responses) i;
              state = d.state;
            })
            ∙ ap₂ (λ (x y : List ℕ). done_then x y d) (sym (front-more w w₀ done p.behind-words v word)) (sym (front-more a a₀ end p.behind r place));
      }

  -- the turn, as the code has it: u is what its message left, x the word that was stored
  pub goes_to : {clock start len next : ℕ} → Found b at clock start len next → done < tray_most → end + answer_size ≤ length a₀
      → {u : Served} → u ≡ served_at (respond clock (part start len b) s) a end → {x : ℕ} → x ≡ u.code + code_unit * u.len
      → Progress b s₀ a₀ w₀ next (done + 1) (end + u.len) u.state u.answer (set w done x)
  goes_to {clock} {start} {len} {next} f few room {u} e {x} k =
      let c : List ℕ = drop at b in
      let o : Effect = respond (clock_of c) (message_of c) s in
      let same : u ≡ served_at o a end = e ∙ ap (λ (z : Effect). served_at z a end) (ap₂ (λ (t : ℕ) (m : List ℕ). respond t m s) f.clock-is (found-message f)) in
      let word : x ≡ result_word o = k ∙ ap (λ (z : Served). z.code + code_unit * z.len) same in
      subst (λ (n : ℕ). Progress b s₀ a₀ w₀ n (done + 1) (end + u.len) u.state u.answer (set w done x)) (sym f.next-is)
      (subst (λ (y : ℕ). Progress b s₀ a₀ w₀ (at + size_of c) (done + 1) (end + u.len) u.state u.answer (set w done y)) (sym word)
      (subst (λ (z : Served). Progress b s₀ a₀ w₀ (at + size_of c) (done + 1) (end + z.len) z.state z.answer (set w done (result_word o))) (sym same)
      (goes_on f.whole few room o refl)))
