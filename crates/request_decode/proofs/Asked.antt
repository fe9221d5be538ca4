-- What each subcommand asks, from what the reader found in the body, one law for each way. Assumes nothing.
use mathlib.Core.Path.{◌≡◌, ap, ◌∙◌}
use mathlib.Core.Bool.{Bool, true, false, cond}
use mathlib.Core.List.{List}
use Prim.Native.Nat.{ℕ, ◌+◌, ◌-◌, ◌≤◌, ◌<◌, ◌^◌}
use native.Mathlib.Omega.{arith}
use lib.Dec.{eqb}
use lib.ListN.{length, get_or, take, drop}
use lib.Seq.{get_or-drop}
use Rattle.laws.specs.Bytes.{little}
use Rattle.request_reader.proofs.Little.{in_rest, one, narrow}
use Rattle.request_reader.specs.Wire.{fields_of}
use Rattle.request_reader.specs.declared.Fields.{Fields}
use Rattle.protocol.specs.declared.Blob.{Blob}
use Rattle.protocol.specs.declared.Request.TheVariants.{Enumerate, Open, Read, Write, Commit, Close, Delete, Stat, SessionStat, WriteMeta}
use Rattle.protocol.specs.declared.Subcommand.{Subcommand}
use Rattle.protocol.specs.Subcommands.{command_number}
use Rattle.protocol.specs.Decode.{asked, with_name}
use Rattle.request_names.proofs.Names.{tail-part}
use Rattle.request_decode.specs.declared.Widths.{Widths}
use Rattle.request_decode.specs.Widths.{widths, widths_of, fields_in}

-- ---- widths
unfoldable pub Few : Widths → Type 0
Few w = (w.first ≤ 4) × ((w.second ≤ 4) × (w.third ≤ 4))

few-either : (b : Bool) (v w : Widths) → Few v → Few w → Few (cond b v w)
few-either true v w p q = p
few-either false v w p q = q

small : (a b c : ℕ) → a ≤ 4 → b ≤ 4 → c ≤ 4 → Few (widths a b c)
unfolding Few
small a b c p q r = (p, (q, r))

-- no number has more than four bytes
pub few : (sub : ℕ) → Few (widths_of sub)
unfolding widths_of
few sub =
    few-either (eqb sub 1) _ _ (small 4 0 0 (omega arith) (omega arith) (omega arith))
    (few-either (eqb sub 3) _ _ (small 2 4 4 (omega arith) (omega arith) (omega arith))
    (few-either (eqb sub 4) _ _ (small 2 4 0 (omega arith) (omega arith) (omega arith))
    (few-either (eqb sub 5) _ _ (small 2 1 0 (omega arith) (omega arith) (omega arith))
    (few-either (eqb sub 7) _ _ (small 0 0 0 (omega arith) (omega arith) (omega arith))
    (few-either (eqb sub 8) _ _ (small 0 0 0 (omega arith) (omega arith) (omega arith)) (small 2 0 0 (omega arith) (omega arith) (omega arith)))))))

-- what the reader finds with the widths of a subcommand, by the message
pub fields-found : (sub : ℕ) (m : List ℕ) (w : Widths) (f : Fields) → w ≡ widths_of sub → f ≡ fields_of (take (length m - 4) (drop 4 m)) w.first w.second w.third → f ≡ fields_in sub m
fields-found sub m w f p e = e ∙ ap (λ (l : List ℕ). fields_of l w.first w.second w.third) (tail-part 4 m) ∙ ap (λ (v : Widths). fields_of (drop 4 m) v.first v.second v.third) p

-- so the place behind them is near the front
pub near : (sub : ℕ) (m : List ℕ) (f : Fields) → f ≡ fields_in sub m → f.rest ≤ 14
unfolding Few
near sub m f e = let w = few sub in omega (arith, ap (λ (g : Fields). g.rest) e, w.0, w.1.0, w.1.1)

-- a number of n bytes in the body fits n bytes
pub fits : (m : List ℕ) → ((i : ℕ) → get_or m i 0 < 256) → (n at v : ℕ) → v ≡ little n at (drop 4 m) → v < 256 ^ n
fits m bytes n at v e = narrow (drop 4 m) (λ (i : ℕ). rw (get_or-drop 4 m i 0) (bytes (4 + i))) n at v e

-- ---- numbers
module _ (m : List ℕ) (f : Fields) where
  pub enumerate-is : f ≡ fields_in 1 m → Enumerate f.first ≡ asked 1 m
  unfolding asked widths_of
  enumerate-is e = ap (λ (g : Fields). Enumerate g.first) e ∙ simp in_rest

  pub read_is : f ≡ fields_in 3 m → Read f.first f.second f.third ≡ asked 3 m
  unfolding asked widths_of
  read_is e = ap (λ (g : Fields). Read g.first g.second g.third) e ∙ simp in_rest

  pub write-is : f ≡ fields_in 4 m → Write f.first f.second (4 + f.rest) ≡ asked 4 m
  unfolding asked widths_of
  write-is e = ap (λ (g : Fields). Write g.first g.second (4 + g.rest)) e ∙ simp in_rest

  pub commit-is : f ≡ fields_in 5 m → Commit f.first f.second (length m - (4 + f.rest)) ≡ asked 5 m
  unfolding asked widths_of
  commit-is e = ap (λ (g : Fields). Commit g.first g.second (length m - (4 + g.rest))) e ∙ simp (in_rest, one)

  pub close-is : f ≡ fields_in 6 m → Close f.first ≡ asked 6 m
  unfolding asked widths_of
  close-is e = ap (λ (g : Fields). Close g.first) e ∙ simp in_rest

  pub session-stat-is : f ≡ fields_in 9 m → SessionStat f.first ≡ asked 9 m
  unfolding asked widths_of
  session-stat-is e = ap (λ (g : Fields). SessionStat g.first) e ∙ simp in_rest

  pub write-meta-is : f ≡ fields_in 10 m → WriteMeta f.first ≡ asked 10 m
  unfolding asked widths_of
  write-meta-is e = ap (λ (g : Fields). WriteMeta g.first) e ∙ simp in_rest

module _ (m : List ℕ) (f : Fields) where
  pub open_is : f ≡ fields_in 2 m → with_name (4 + f.rest) m (λ (b : Blob). Open f.first b) ≡ asked 2 m
  unfolding asked widths_of
  open_is e = ap (λ (g : Fields). with_name (4 + g.rest) m (λ (b : Blob). Open g.first b)) e ∙ simp in_rest

  -- Delete and Stat have no number: the name follows the CRC
  pub delete-is : f ≡ fields_in 7 m → with_name (4 + f.rest) m (λ (b : Blob). Delete b) ≡ asked 7 m
  unfolding asked widths_of
  delete-is e = ap (λ (g : Fields). with_name (4 + g.rest) m (λ (b : Blob). Delete b)) e

  pub stat-is : f ≡ fields_in 8 m → with_name (4 + f.rest) m (λ (b : Blob). Stat b) ≡ asked 8 m
  unfolding asked widths_of
  stat-is e = ap (λ (g : Fields). with_name (4 + g.rest) m (λ (b : Blob). Stat b)) e

-- ---- what is found in an arm, where the subcommand is known
module _ (sub : Subcommand) (m : List ℕ) (f : Fields) (found : f ≡ fields_in (command_number sub) m) where
  pub found-at : (k : Subcommand) → sub ≡ k → f ≡ fields_in (command_number k) m
  found-at k e = found ∙ ap (λ (s : Subcommand). fields_in (command_number s) m) e

  -- a number of two bytes, first of the fields
  pub first-fits : ((i : ℕ) → get_or m i 0 < 256) → (widths_of (command_number sub)).first ≡ 2 → f.first < 65536
  first-fits bytes w =
      let e : f.first ≡ little 2 2 (drop 4 m) = ap (λ (g : Fields). g.first) found ∙ ap (λ (n : ℕ). little n 2 (drop 4 m)) w in
      fits m bytes 2 2 f.first e
