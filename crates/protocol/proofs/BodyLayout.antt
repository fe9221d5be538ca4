-- What a decoded request says is what stands in the message: its subcommand, its numbers, read front to back by that subcommand's layout, and the name or the bytes behind them. Assumes nothing.
use Rattle.std.specs.Prelude.{◌≡◌, refl, Bool, true, false, cond, ◌||◌, List, [], ◌∷◌, ℕ, suc, ◌+◌, ◌*◌, ◌≤◌, eqb, length, get_or, drop}
use Rattle.std.proofs.Common.{sym, ◌∙◌, ap, true≢false, arith, length-drop}
use Rattle.laws.specs.Bytes.{little, text}
use Rattle.protocol.specs.Numbers.{count_command, enumerate_command, open_command, read_command, write_command, commit_command, delete_command, stat_command, write_meta_command, close_command, session_stat_command}
use Rattle.protocol.specs.Names.{name_form, blob_named}
use Rattle.protocol.specs.Decode.{number_of, values_of, subcommand, fields_at, session_in, with_name, asked, decoded}
use Rattle.protocol.specs.Cases.{Each, each-command, named-case, decoded-case}
use Rattle.protocol.specs.declared.Blob.{Blob}
use Rattle.protocol.specs.declared.Request.{Request}
use Rattle.protocol.specs.declared.Request.TheVariants.{Count, Enumerate, Open, Read, Write, Commit, Close, Delete, Stat, SessionStat, WriteMeta, Refused}

-- how many bytes each number among a subcommand's fields has; names and data are no numbers (rule 3.3)
unfoldable pub layout : ℕ → List ℕ
layout sub =
    cond (eqb sub count_command) []
    (cond (eqb sub enumerate_command) (4 ∷ [])
    (cond (eqb sub open_command) (2 ∷ [])
    (cond (eqb sub read_command) (2 ∷ 4 ∷ 4 ∷ [])
    (cond (eqb sub write_command) (2 ∷ 4 ∷ [])
    (cond (eqb sub commit_command) (2 ∷ 1 ∷ [])
    (cond (eqb sub close_command) (2 ∷ [])
    (cond (eqb sub delete_command) []
    (cond (eqb sub stat_command) []
    (cond (eqb sub session_stat_command) (2 ∷ [])
    (cond (eqb sub write_meta_command) (2 ∷ []) []))))))))))

-- numbers of these widths, one behind the other, from the place at on
unfoldable pub numbers_at : List ℕ → ℕ → List ℕ → List ℕ
numbers_at [] at m = []
numbers_at (w ∷ ws) at m = little w at m ∷ numbers_at ws (at + w) m

-- the place behind them
unfoldable pub behind : List ℕ → ℕ → ℕ
behind [] at = at
behind (w ∷ ws) at = behind ws (at + w)

-- where a subcommand's tail starts: right behind its numbers (rule 3.3)
abbrev pub tail_at : ℕ → ℕ
tail_at sub = behind (layout sub) fields_at

-- all that stands there
abbrev pub tail_in : ℕ → List ℕ → List ℕ
tail_in sub m = drop (tail_at sub) m

-- ---- what is read of a tail
-- the blob that a name names, the place where a Write's bytes start, how many bytes a Commit has behind its length byte; or nothing is
pub data Tail : Type 0 where
  named : Blob → Tail
  bytes_from : ℕ → Tail
  bytes_left : ℕ → Tail
  unread : Tail

-- of each case of a request (rule 3.3)
abbrev pub tail_of : Request → Tail
tail_of Count = unread
tail_of (Enumerate index) = unread
tail_of (Open flags blob) = named blob
tail_of (Read session offset count) = unread
tail_of (Write session offset start) = bytes_from start
tail_of (Commit session len rest) = bytes_left rest
tail_of (Close session) = unread
tail_of (Delete blob) = named blob
tail_of (Stat blob) = named blob
tail_of (SessionStat session) = unread
tail_of (WriteMeta session) = unread
tail_of (Refused code) = unread

-- the subcommands whose tail is a name (rule 4.1)
abbrev pub has_name : ℕ → Bool
has_name sub = eqb sub open_command || (eqb sub delete_command || eqb sub stat_command)

-- of the message's bytes, by its subcommand (rules 3.3 and 4.6)
unfoldable pub tail_read : ℕ → List ℕ → Tail
tail_read sub m =
    cond (has_name sub) (named (blob_named (tail_at sub) (text (tail_in sub m))))
    (cond (eqb sub write_command) (bytes_from (tail_at sub))
    (cond (eqb sub commit_command) (bytes_left (length (tail_in sub m))) unread))

-- a request says what the message has; a name among it has the right form
pub record Says (sub : ℕ) (m : List ℕ) (r : Request) : Type 0 where
  pub command : number_of r ≡ sub
  pub numbers : values_of r ≡ numbers_at (layout sub) fields_at m
  pub tail : tail_of r ≡ tail_read sub m
  pub form : has_name sub ≡ true → name_form (tail_in sub m) ≡ true

-- a refusal has a completion code for its number, and no subcommand is that high
abbrev Accepted : Request → Type 0
Accepted r = number_of r ≤ write_meta_command

abbrev Right : List ℕ → ℕ → Type 0
Right m sub = Accepted (asked sub m) → Says sub m (asked sub m)

with-name : (sub at : ℕ) (m : List ℕ) (f : Blob → Request) → (name_form (drop at m) ≡ true → Says sub m (f (blob_named at (text (drop at m))))) →
    Accepted (with_name at m f) → Says sub m (with_name at m f)
with-name sub at m f h = named-case (λ (r : Request). Accepted r → Says sub m r) at m f (λ a. absurd (omega arith)) (λ (n : name_form (drop at m) ≡ true) _. h n)

asked-says : (m : List ℕ) → Each (Right m) (suc write_meta_command)
unfolding asked layout numbers_at behind tail_read little
asked-says m = (((((to-commit, plain refl refl refl refl), deletes), stats), plain refl refl refl refl), plain refl refl refl refl)
  where
    -- a subcommand without a name
    no_name : (sub : ℕ) → has_name sub ≡ false → has_name sub ≡ true → name_form (tail_in sub m) ≡ true
    no_name sub e h = absurd (true≢false (sym h ∙ e))

    plain : {k : ℕ} {r : Request} → number_of r ≡ k → values_of r ≡ numbers_at (layout k) fields_at m → tail_of r ≡ tail_read k m → has_name k ≡ false → Accepted r → Says k m r
    plain {k = k} p q u e a = record { command = p; numbers = q; tail = u; form = no_name k e }

    opens : Right m open_command
    opens = with-name open_command _ m _
        (λ n. record { command = refl; numbers = refl; tail = refl; form = λ _. n })

    one_byte : (x : ℕ) → x ≡ x + 256 * 0
    one_byte x = omega arith

    commits : Right m commit_command
    commits = plain refl (ap (λ (x : ℕ). session_in m ∷ x ∷ []) (one_byte (get_or m (fields_at + 2) 0))) (ap bytes_left (sym (length-drop (fields_at + 3) m))) refl

    -- the first six
    to-commit : Each (Right m) (suc commit_command)
    to-commit = ((((((tt, plain refl refl refl refl), plain refl refl refl refl), opens), plain refl refl refl refl), plain refl refl refl refl), commits)

    deletes : Right m delete_command
    deletes = with-name delete_command _ m _ (λ n. record { command = refl; numbers = refl; tail = refl; form = λ _. n })

    stats : Right m stat_command
    stats = with-name stat_command _ m _ (λ n. record { command = refl; numbers = refl; tail = refl; form = λ _. n })

-- A MESSAGE THAT IS NOT REFUSED ASKS WHAT STANDS IN IT
pub accepted-says : (m : List ℕ) → number_of (decoded m) ≤ write_meta_command → Says (subcommand m) m (decoded m)
accepted-says m =
    decoded-case (λ (r : Request). Accepted r → Says (subcommand m) m r) m (λ a. absurd (omega arith)) (λ a. absurd (omega arith)) (λ a. absurd (omega arith))
    (λ _ (c : subcommand m ≤ write_meta_command) _. each-command (Right m) (subcommand m) (asked-says m) c)
