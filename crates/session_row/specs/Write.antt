-- What a Write comes to, for a store slot, the image and the hash alike.
use Rattle.std.specs.Prelude.{◌≡◌, Result, Ok, Err, Bool, cond, List, ℕ, ◌+◌, ◌≤◌, max}
use Rattle.std.proofs.Math.Path.{refl}
use Rattle.std.proofs.Math.Bool.{true, false}
use Rattle.std.proofs.Math.Dec.{leb}
use Rattle.std.proofs.lemmas.List.Edits.{sets}
use Rattle.std.proofs.Common.{leb-true}
use Rattle.laws.specs.Ranges.{block}
use Rattle.protocol.specs.Numbers.{row_words, out_of_range, too_long}
use Rattle.state.specs.State.{Row}
use Rattle.protocol.specs.declared.Code.{Code}
use Rattle.response_types.specs.declared.Said.TheVariants.{Done}
use Rattle.response_types.specs.After.{Outcome}
use Rattle.rules.specs.Command.{Out, refuse, placed}

-- what a Write comes to: the length after it, or the code of a refusal
abbrev pub Written : Type 0
Written = Result ℕ Code

-- of n bytes: C9, C8, or the length after it (rules 11.1 and 11.4)
abbrev pub written : (capacity len offset n : ℕ) → Written
written capacity len offset n =
    cond (leb offset len) (cond (leb (offset + n) capacity) (Ok (max len (offset + n))) (Err (record { 0 = too_long }))) (Err (record { 0 = out_of_range }))

-- what is said of it
abbrev pub said_by : Written → Outcome
said_by (Err code) = Err code
said_by (Ok n) = Ok Done

-- the length of what had len bytes
abbrev pub length_by : Written → ℕ → ℕ
length_by (Err code) len = len
length_by (Ok n) len = n

-- the bytes l, with ws stored from `at` on
abbrev pub region_by : Written → ℕ → List ℕ → List ℕ → List ℕ
region_by (Err code) at ws l = l
region_by (Ok n) at ws l = sets l at ws

-- the table, with other words in row r
abbrev pub table_by : Written → ℕ → List ℕ → List ℕ → List ℕ
table_by (Err code) r words table = table
table_by (Ok n) r words table = (block row_words r).put words table

-- what holds of an accepted Write and of every refusal holds of what a Write comes to, beside what the rules say
module _ {B : Type 0} (capacity len offset n : ℕ) (r : Row) (b : B) (accepted : Out B) where
  pub written_has : (P : Written → Out B → Type 0) → (offset ≤ len → offset + n ≤ capacity → P (Ok (max len (offset + n))) accepted)
      → ((code : ℕ) → P (Err (record { 0 = code })) (refuse code r b)) → P (written capacity len offset n) (placed capacity len offset n r b accepted)
  unfolding placed
  written_has P ok bad = go (leb offset len) refl (leb (offset + n) capacity) refl
    where
      go : (x : Bool) → leb offset len ≡ x → (y : Bool) → leb (offset + n) capacity ≡ y
          → P (cond x (cond y (Ok (max len (offset + n))) (Err (record { 0 = too_long }))) (Err (record { 0 = out_of_range }))) (cond x (cond y accepted (refuse too_long r b)) (refuse out_of_range r b))
      go true p true q = ok (leb-true offset len p) (leb-true (offset + n) capacity q)
      go true p false q = bad too_long
      go false p y q = bad out_of_range
