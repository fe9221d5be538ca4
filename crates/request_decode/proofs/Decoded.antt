-- The order of the checks: what a message is where each of them fails, and where none does. Assumes nothing.
use mathlib.Core.Path.{◌≡◌, refl, sym, ap, ◌∙◌}
use mathlib.Core.Bool.{Bool, true, false, not, cond}
use mathlib.Core.List.{List}
use Prim.Native.Nat.{ℕ, ◌-◌, ◌≤◌, ◌<◌}
use native.Mathlib.Omega.{arith}
use borrow.Author.Tests.{le-leb, lt-leb}
use lib.Dec.{eqb}
use lib.ListN.{length, get_or, take, drop}
use Rattle.laws.specs.All.{flag_true, flag-false}
use Rattle.laws.specs.Bytes.{same}
use Rattle.crc.specs.Crc.{crc}
use Rattle.protocol.specs.declared.Request.{Request}
use Rattle.protocol.specs.declared.Request.TheVariants.{Count}
use Rattle.protocol.specs.declared.Subcommand.{Subcommand}
use Rattle.protocol.specs.declared.Subcommand.TheVariants as subcommand
use Rattle.protocol.specs.Subcommands.{command_number}
use Rattle.protocol.specs.Numbers.{oem, wrong_length, invalid, unknown_command}
use Rattle.protocol.specs.Decode.{refused_with, body_fits, crc_fits, asked, decoded}
use Rattle.request_reader.specs.declared.Fields.{Fields}
use Rattle.request_decode.specs.Widths.{fields_in}
use Rattle.request_decode.proofs.Fits.{crc-found, no-crc, no_body, some-body}

-- no number of a subcommand is above 10, and only Count's is 0
pub last-command : (sub : Subcommand) → command_number sub ≤ 10
last-command subcommand.Count = omega arith
last-command subcommand.Enumerate = omega arith
last-command subcommand.Open = omega arith
last-command subcommand.Read = omega arith
last-command subcommand.Write = omega arith
last-command subcommand.Commit = omega arith
last-command subcommand.Close = omega arith
last-command subcommand.Delete = omega arith
last-command subcommand.Stat = omega arith
last-command subcommand.SessionStat = omega arith
last-command subcommand.WriteMeta = omega arith

count-command : (sub : Subcommand) → command_number sub ≡ 0 → sub ≡ subcommand.Count
count-command subcommand.Count e = refl
count-command subcommand.Enumerate e = absurd (omega arith)
count-command subcommand.Open e = absurd (omega arith)
count-command subcommand.Read e = absurd (omega arith)
count-command subcommand.Write e = absurd (omega arith)
count-command subcommand.Commit e = absurd (omega arith)
count-command subcommand.Close e = absurd (omega arith)
count-command subcommand.Delete e = absurd (omega arith)
count-command subcommand.Stat e = absurd (omega arith)
count-command subcommand.SessionStat e = absurd (omega arith)
count-command subcommand.WriteMeta e = absurd (omega arith)

pub too_few : (m : List ℕ) → length m < 4 → refused_with wrong_length ≡ decoded m
unfolding decoded
too_few m h = rw (lt-leb 4 (length m) h)

pub too_many : (m : List ℕ) → 4 ≤ length m → 64 < length m → refused_with wrong_length ≡ decoded m
unfolding decoded
too_many m l h = rw (le-leb 4 (length m) l, lt-leb (length m) 64 h)

-- what the tests passed so far say
pub record Passed (m : List ℕ) : Type 0 where
  pub least : 4 ≤ length m
  pub most : length m ≤ 64
  pub ours : same (take 3 m) oem ≡ true

module _ (m : List ℕ) (l : 4 ≤ length m) (h : length m ≤ 64) where
  pub not_ours : (r : Bool) → r ≡ same (take 3 m) oem → not r ≡ true → refused_with invalid ≡ decoded m
  unfolding decoded
  not_ours r e n = rw (le-leb 4 (length m) l, le-leb (length m) 64 h, flag-false e n)

pub passes : (m : List ℕ) → 4 ≤ length m → length m ≤ 64 → (r : Bool) → r ≡ same (take 3 m) oem → not r ≡ false → Passed m
passes m l h r e n = record { least = l; most = h; ours = flag_true e n }

module _ (m : List ℕ) (p : Passed m) where
  pub no-command : 10 < get_or m 3 0 → refused_with unknown_command ≡ decoded m
  unfolding decoded
  no-command h = rw (le-leb 4 (length m) p.least, le-leb (length m) 64 p.most, p.ours, lt-leb (get_or m 3 0) 10 h)

  module _ (sub : Subcommand) (named : command_number sub ≡ get_or m 3 0) where
    pub wrong-body : (r : Bool) → r ≡ body_fits (command_number sub) (length m - 4) → not r ≡ true → refused_with wrong_length ≡ decoded m
    unfolding decoded
    wrong-body r e n = rw (le-leb 4 (length m) p.least, le-leb (length m) 64 p.most, p.ours, ← named, le-leb (command_number sub) 10 (last-command sub), flag-false e n)

    module _ (b : body_fits (command_number sub) (length m - 4) ≡ true) where
      after : decoded m ≡ cond (crc_fits m) (asked (command_number sub) m) (refused_with invalid)
      unfolding decoded
      after = rw (le-leb 4 (length m) p.least, le-leb (length m) 64 p.most, p.ours, ← named, le-leb (command_number sub) 10 (last-command sub), b)

      pub count-is : sub ≡ subcommand.Count → Count ≡ decoded m
      unfolding asked
      count-is z = sym (after ∙ rw (no-crc m (no_body (command_number sub) (length m - 4) (ap command_number z) b), z))

      -- what has a CRC is not Count
      pub has-crc : (sub ≡ subcommand.Count → ⊥) → 6 ≤ length m
      has-crc z =
          let s : 3 ≤ length m - 4 = some-body (command_number sub) (length m - 4) (λ e. z (count-command sub e)) b in
          omega arith

      module _ (f : Fields) (e : f ≡ fields_in (command_number sub) m) (r : Bool) (q : r ≡ eqb f.crc (crc (drop 6 m))) (z : sub ≡ subcommand.Count → ⊥) where
        crc-is : r ≡ crc_fits m
        crc-is = let l = has-crc z in q ∙ crc-found (command_number sub) m f e (omega arith)

        pub wrong-crc : not r ≡ true → refused_with invalid ≡ decoded m
        wrong-crc n = sym (after ∙ rw (flag-false crc-is n))

        pub request-is : (a : Request) → not r ≡ false → a ≡ asked (command_number sub) m → a ≡ decoded m
        request-is a n s = s ∙ sym (after ∙ rw (flag_true crc-is n))
