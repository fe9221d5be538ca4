-- How a fact is shown of every decoded message: of a refusal, and of what each subcommand asks. Assumes nothing.
use Rattle.std.specs.Prelude.{◌≡◌, refl, Bool, true, false, cond, ◌&&◌, List, ℕ, zero, suc, ◌≤◌, ◌<◌, length, take, drop}
use Rattle.std.proofs.Common.{sym, subst, arith, leb-true}
use Rattle.std.proofs.Math.Decide.{ℕ_discrete}
use Rattle.std.proofs.Math.Dec.{leb}
use Rattle.laws.specs.All.{and-true}
use Rattle.laws.specs.Bytes.{same, text}
use Rattle.protocol.specs.Numbers.{oem, header_size, message_size, invalid, wrong_length, unknown_command, write_meta_command}
use Rattle.protocol.specs.Names.{name_form, blob_named}
use Rattle.protocol.specs.Decode.{refused_with, subcommand, body_length, body_fits, crc_fits, with_name, asked, decoded}
use Rattle.protocol.specs.declared.Blob.{Blob}
use Rattle.protocol.specs.declared.Request.{Request}

-- ---- each number below n
abbrev pub Each : (ℕ → Type 0) → ℕ → Type 0
Each P zero = Unit {0}
Each P (suc n) = Each P n × P n

pub each_at : (P : ℕ → Type 0) (n k : ℕ) → Each P n → k < n → P k
each_at P zero k e l = absurd (omega arith)
each_at P (suc n) k e l = go (ℕ_discrete k n) (each_at P n k e.0)
  where
    go : Dec (k ≡ n) → (k < n → P k) → P k
    go (yes q) ih = subst P (sym q) e.1
    go (no q) ih = ih (omega arith)

-- what holds of each subcommand holds of all
pub each-command : (P : ℕ → Type 0) (sub : ℕ) → Each P (suc write_meta_command) → sub ≤ write_meta_command → P sub
each-command P sub e l = each_at P (suc write_meta_command) sub e (omega arith)

module _ (P : Request → Type 0) where
  -- one check
  checked : (y : Bool) (r : Request) (code : ℕ) → P (refused_with code) → (y ≡ true → P r) → P (cond y r (refused_with code))
  checked true r code n f = f refl
  checked false r code n f = n

  -- a request with a name is refused, or its name has the right form
  pub named-case : (at : ℕ) (m : List ℕ) (f : Blob → Request) → P (refused_with invalid) → (name_form (drop at m) ≡ true → P (f (blob_named at (text (drop at m))))) → P (with_name at m f)
  unfolding with_name
  named-case at m f n g = checked (name_form (drop at m)) (f (blob_named at (text (drop at m)))) invalid n g

  -- a message is refused, or it is what its subcommand asks, and its length is right
  pub decoded-case : (m : List ℕ) → P (refused_with wrong_length) → P (refused_with invalid) → P (refused_with unknown_command)
      → (header_size ≤ length m → subcommand m ≤ write_meta_command → body_fits (subcommand m) (body_length m) ≡ true → P (asked (subcommand m) m)) → P (decoded m)
  unfolding decoded
  decoded-case m short bad unknown f =
      checked (leb header_size (length m) && leb (length m) message_size) _ wrong_length short
      (λ (l : leb header_size (length m) && leb (length m) message_size ≡ true). checked (same (take (length oem) m) oem) _ invalid bad
      (λ _. checked (leb (subcommand m) write_meta_command) _ unknown_command unknown
      (λ (c : leb (subcommand m) write_meta_command ≡ true). checked (body_fits (subcommand m) (body_length m)) _ wrong_length short
      (λ (b : body_fits (subcommand m) (body_length m) ≡ true). checked (crc_fits m) (asked (subcommand m) m) invalid bad
      (λ _. f (leb-true header_size (length m) (and-true (leb header_size (length m)) (leb (length m) message_size) l).0) (leb-true (subcommand m) write_meta_command c) b)))))
