-- A response does not show whether its fields stood in the answer buffer before it was written. Assumes nothing.
use Rattle.std.specs.Prelude.{◌≡◌, refl, List, [], ◌∷◌, ◌++◌, ℕ, suc, ◌+◌, length, drop, set}
use Rattle.std.proofs.Common.{sym, ◌∙◌, ap, arith, drop-set-lt}
use Rattle.std.proofs.lemmas.List.Edits.{sets}
use Rattle.laws.specs.Bytes.{bytes_of}
use Rattle.protocol.specs.Decode.{fields_at}
use Rattle.protocol.specs.Frame.{reply, framed, answer_after}

-- what is stored leaves the bytes behind it
drop-sets : (f l : List ℕ) (i : ℕ) → drop (i + length f) (sets l i f) ≡ drop (i + length f) l
drop-sets [] l i = refl
drop-sets (x ∷ f) l i =
    let e : i + suc (length f) ≡ suc i + length f = omega arith in
    rw e (drop-sets f (set l i x) (suc i) ∙ drop-set-lt (suc i + length f) l i x (omega arith))

-- how long a response with fields is
pub fields-long : (sub : ℕ) (f : List ℕ) → length (framed sub (reply f)).1 ≡ fields_at + length f
unfolding framed bytes_of
fields-long sub f = omega arith

-- fields that are in their place leave what the response would leave anyway
pub fields-over : (sub : ℕ) (f a : List ℕ) → answer_after sub (reply f) (sets a fields_at f) ≡ answer_after sub (reply f) a
fields-over sub f a =
    ap (λ (k : ℕ). (framed sub (reply f)).1 ++ drop k (sets a fields_at f)) (fields-long sub f)
    ∙ ap (λ (x : List ℕ). (framed sub (reply f)).1 ++ x) (drop-sets f a fields_at)
    ∙ ap (λ (k : ℕ). (framed sub (reply f)).1 ++ drop k a) (sym (fields-long sub f))
