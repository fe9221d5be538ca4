-- What a command's code said and left, as the rules have it for its request. Assumes nothing.
use mathlib.Core.Path.{◌≡◌, refl, sym, ◌∙◌, ap, ap₂}
use mathlib.Core.Bool.{Bool, true, false, cond}
use mathlib.Core.List.{List, []}
use Prim.Native.Nat.{ℕ, ◌+◌, ◌≤◌}
use native.Mathlib.Omega.{arith}
use lib.ListN.{length, replicate, length-replicate}
use lib.Seq.{take-nil}
use Rattle.laws.specs.Ranges.{part, length_part}
use Rattle.protocol.specs.Numbers.{read_most}
use Rattle.protocol.specs.Decode.{fields_at}
use Rattle.protocol.specs.Frame.{Reply, refused, done, reply}
use Rattle.protocol.specs.declared.Request.{Request}
use Rattle.state.specs.State.{State}
use Rattle.rules.specs.Respond.{answered}
use Rattle.std.specs.Prelude.{Ok, Err}
use Rattle.response_types.specs.After.{Outcome, reply_of, fields_laid, fields_length}
use Rattle.response_types.specs.declared.Said.TheVariants.{Done, Session, Number, Stat, Fields}
use Rattle.request_serve.specs.Serves.{lays_fields, readied}

-- the code said `said`, with the reply and the state x, and left the answer buffer b, where the request q was to be served
pub record Serves (said : Outcome) (x : Reply × State) (b : List ℕ) (q : Request) (t : ℕ) (m : List ℕ) (s : State) (a : List ℕ) : Type 0 where
  pub did : (x, b) ≡ readied q t m s a
  pub few : fields_length said ≤ read_most

-- ---- a command that is not lent the answer buffer lays no field there
abbrev fields_of : Reply → List ℕ
fields_of (refused code) = []
fields_of done = []
fields_of (reply f) = f

laid_none : (said : Outcome) (r : Reply) → ((a : List ℕ) → reply_of said a ≡ r) → fields_length said ≤ read_most
laid_none (Err code) r h = omega arith
laid_none (Ok Done) r h = omega arith
laid_none (Ok (Session id)) r h = omega arith
laid_none (Ok (Number n)) r h = omega arith
laid_none (Ok (Stat state size)) r h = omega arith
laid_none (Ok (Fields len)) r h =
    let zeros : List ℕ = replicate (fields_at + len) 0 in
    let e : part fields_at len zeros ≡ part fields_at len [] = ap fields_of (h zeros ∙ sym (h [])) in
    let n : length (part fields_at len zeros) ≡ len = length_part fields_at len zeros (rw (length-replicate {A = ℕ} (fields_at + len) 0) (omega arith)) in
    let z : length (part fields_at len zeros) ≡ 0 = ap length e ∙ none len in
    omega arith
  where
    none : (k : ℕ) → length (part {A = ℕ} fields_at k []) ≡ 0
    none k = ap length (take-nil {A = ℕ} k)

module _ (q : Request) (t : ℕ) (m : List ℕ) (s : State) (a : List ℕ) where
  -- the pair that the contract asks for, from its parts
  both : (y : Bool) (x : Reply × State) (b : List ℕ) → lays_fields q ≡ y → x ≡ answered q t m s → b ≡ cond y (fields_laid (answered q t m s).0 a) a → (x, b) ≡ readied q t m s a
  both y x b k h e = ap₂ (λ (v : Reply × State) (w : List ℕ). (v, w)) h (e ∙ sym (ap (λ (z : Bool). cond z (fields_laid (answered q t m s).0 a) a) k))

  pub plain : lays_fields q ≡ false → (said : Outcome) (s' : State) → ((b : List ℕ) → (reply_of said b, s') ≡ answered q t m s) → Serves said (reply_of said a, s') a q t m s a
  plain k said s' h = record {
    did = both false (reply_of said a, s') a k (h a) refl;
    few = laid_none said (answered q t m s).0 (λ (b : List ℕ). ap (λ (x : Reply × State). x.0) (h b));
  }

  -- ---- one that is, and laid its fields
  pub laying : lays_fields q ≡ true → (said : Outcome) (s' : State) (b : List ℕ) → (reply_of said b, s') ≡ answered q t m s → fields_length said ≤ read_most
      → b ≡ fields_laid (answered q t m s).0 a → Serves said (reply_of said b, s') b q t m s a
  laying k said s' b h l e = record { did = both true (reply_of said b, s') b k h e; few = l }

-- the request is the one that was decoded
pub asked_is : (said : Outcome) (x : Reply × State) (a b : List ℕ) (t : ℕ) (m : List ℕ) (s : State) (q p : Request) → p ≡ q → Serves said x b q t m s a
    → ((x, b) ≡ readied p t m s a) × (fields_length said ≤ read_most)
asked_is said x a b t m s q p e h = (h.did ∙ ap (λ (y : Request). readied y t m s a) (sym e), h.few)
