-- Each way through a record's tests. Assumes nothing.
use mathlib.Core.Path.{◌≡◌, sym, ◌∙◌, ap}
use mathlib.Core.List.{List}
use Prim.Native.Nat.{ℕ, ◌+◌, ◌-◌, ◌≤◌, ◌<◌}
use native.Mathlib.Nat.{add-zero}
use native.Mathlib.Omega.{arith}
use borrow.Author.Tests.{le-leb, lt-leb}
use lib.ListN.{length, get_or, drop, length-drop}
use lib.Seq.{get_or-drop}
use Rattle.laws.specs.Bytes.{little}
use Rattle.request_reader.proofs.Little.{in_rest}
use Rattle.records.specs.declared.Record.TheVariants.{Whole, Cut, End}
use Rattle.records.specs.Records.{prefix_size, clock_size, length_of, record_at}

module _ (s : List ℕ) (at : ℕ) where
  pub record-none : length s ≤ at → End ≡ record_at s at
  unfolding record_at
  record-none h = simp (le-leb (length s) at h)

  module _ (h : at < length s) where
    pub record-cut : length s - at < prefix_size + get_or s (at + clock_size) 0 → Cut ≡ record_at s at
    unfolding record_at
    record-cut q = simp (lt-leb (length s) at h, get_or-drop, length-drop, lt-leb (prefix_size + get_or s (at + clock_size) 0) (length s - at) q)

    pub record-whole : (clock n : ℕ) → clock ≡ little clock_size at s → n ≡ get_or s (at + clock_size) 0 → prefix_size + n ≤ length s - at
        → Whole clock (at + prefix_size) n (at + prefix_size + n) ≡ record_at s at
    unfolding record_at
    record-whole clock n e f q =
        let g : length_of (drop at s) ≡ n = get_or-drop at s clock_size 0 ∙ sym f in
        let k : little clock_size 0 (drop at s) ≡ clock = in_rest clock_size at s 0 ∙ ap (λ (i : ℕ). little clock_size i s) (add-zero at) ∙ sym e in
        let m : at + (prefix_size + n) ≡ at + prefix_size + n = omega arith in
        simp (lt-leb (length s) at h, g, length-drop, le-leb (prefix_size + n) (length s - at) q, k, m)
