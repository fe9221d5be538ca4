-- A response of each kind, from what a command says. Assumes nothing.
use mathlib.Core.Path.{◌≡◌, refl}
use mathlib.Core.List.{List}
use Prim.Native.Nat.{ℕ}
use lib.ListN.{length}
use Rattle.protocol.specs.Numbers.{success}
use Rattle.protocol.specs.Frame.{Reply, done, reply, framed, answer_after}
use Rattle.protocol.specs.declared.Code.{Code}
use Rattle.std.specs.Prelude.{Ok, Err}
use Rattle.response_types.specs.After.{Outcome, reply_of}
use Rattle.response_types.specs.declared.Said.TheVariants.{Done}

-- what is sent for a reply: code, length, answer buffer
abbrev pub Right : ℕ → Reply → List ℕ → ℕ → ℕ → List ℕ → Type 0
Right sub r a code len z = ((code ≡ (framed sub r).0) × (len ≡ length (framed sub r).1)) × (z ≡ answer_after sub r a)

pub refused-right : (sub : ℕ) (said : Outcome) (code : Code) (a : List ℕ) → said ≡ Err code → Right sub (reply_of said a) a code.0 0 a
unfolding framed
refused-right sub said code a e = rw e ((refl, refl), refl)

-- a success whose response the framing wrote
pub done-right : (sub : ℕ) (said : Outcome) (a z : List ℕ) (n : ℕ) → said ≡ Ok Done → n ≡ length (framed sub done).1 → z ≡ answer_after sub done a
    → Right sub (reply_of said a) a success n z
unfolding framed
done-right sub said a z n e p q = rw e ((refl, p), q)

pub fields-right : (sub : ℕ) (said : Outcome) (f a z : List ℕ) (n : ℕ) → reply_of said a ≡ reply f → n ≡ length (framed sub (reply f)).1 → z ≡ answer_after sub (reply f) a
    → Right sub (reply_of said a) a success n z
unfolding framed
fields-right sub said f a z n e p q = rw e ((refl, p), q)
