-- A request that is sent again, whatever it was: by its cases. Assumes nothing.
use Rattle.std.specs.Prelude.{◌≡◌, ◌≢◌, List, ℕ}
use Rattle.std.proofs.Math.Path.{refl, sym, ap}
use Rattle.std.proofs.Common.{◌∙◌}
use native.Mathlib.Omega.{arith}
use Rattle.std.proofs.Math.Decide.{ℕ_discrete}
use Rattle.protocol.specs.Numbers.{success, open_command, close_command, delete_command}
use Rattle.protocol.specs.Decode.{decoded, number_of}
use Rattle.protocol.specs.declared.Request.{Request}
use Rattle.protocol.specs.declared.Request.TheVariants.{Count, Enumerate, Open, Read, Write, Commit, Close, Delete, Stat, SessionStat, WriteMeta, Refused}
use Rattle.state.specs.State.{State}
use Rattle.rules.specs.Respond.{Effect, answered, respond}
use Rattle.retries.proofs.Retry.{again, first-is, retry-same, refused-again, open-again, close-again, delete-again}

-- ---- all messages
-- the request that was made decides
retry-by : (q : Request) (t : ℕ) (m : List ℕ) (s : State) → decoded m ≡ q → (respond t m s).code ≡ success → (again t m s).state ≡ (respond t m s).state
unfolding answered
retry-by q t m s d ok = go q d
  where
    state-of : {o p : Effect} → o ≡ p → o.state ≡ p.state
    state-of e = ap (λ (x : Effect). x.state) e

    -- a number that is none of the three
    alike : (x : Request) → decoded m ≡ x → number_of x ≢ open_command → number_of x ≢ close_command → number_of x ≢ delete_command → (again t m s).state ≡ (respond t m s).state
    alike x e a b c = state-of (retry-same t m s (λ z. a (sym (ap number_of e) ∙ z)) (λ z. b (sym (ap number_of e) ∙ z)) (λ z. c (sym (ap number_of e) ∙ z)))

    go : (x : Request) → decoded m ≡ x → (again t m s).state ≡ (respond t m s).state
    go Count e = alike Count e (λ z. omega arith) (λ z. omega arith) (λ z. omega arith)
    go (Enumerate index) e = alike (Enumerate index) e (λ z. omega arith) (λ z. omega arith) (λ z. omega arith)
    go (Open flags b) e = state-of (open-again t m s flags b e ok)
    go (Read session offset n) e = alike (Read session offset n) e (λ z. omega arith) (λ z. omega arith) (λ z. omega arith)
    go (Write session offset start) e = alike (Write session offset start) e (λ z. omega arith) (λ z. omega arith) (λ z. omega arith)
    go (Commit session len rest) e = alike (Commit session len rest) e (λ z. omega arith) (λ z. omega arith) (λ z. omega arith)
    go (Close session) e = state-of (close-again t m s session e ok)
    go (Delete b) e = state-of (delete-again t m s b e ok)
    go (Stat b) e = alike (Stat b) e (λ z. omega arith) (λ z. omega arith) (λ z. omega arith)
    go (SessionStat session) e = alike (SessionStat session) e (λ z. omega arith) (λ z. omega arith) (λ z. omega arith)
    go (WriteMeta session) e = alike (WriteMeta session) e (λ z. omega arith) (λ z. omega arith) (λ z. omega arith)
    go (Refused code) e = ap (λ (x : State). (respond t m x).state) (state-of (first-is t m s (Refused code) e ok))

-- A RETRY CHANGES NOTHING: whatever the message, the clock and the state, and whatever the first was answered (rule 21.14)
pub retry-keeps : (t : ℕ) (m : List ℕ) (s : State) → (again t m s).state ≡ (respond t m s).state
retry-keeps t m s = go (ℕ_discrete (respond t m s).code success)
  where
    go : Dec ((respond t m s).code ≡ success) → (again t m s).state ≡ (respond t m s).state
    go (yes ok) = retry-by (decoded m) t m s refl ok
    go (no n) = ap (λ (o : Effect). o.state) (refused-again t m s n)
