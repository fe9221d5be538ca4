-- What a command does on a store session's part is proper. Assumes nothing.
use Rattle.std.proofs.Math.Path.{◌≡◌, refl}
use Rattle.std.proofs.Common.{sym, ◌∙◌, ap, length-set, get_or-set_other, get_or-set_same}
use Rattle.std.specs.Prelude.{◌≢◌, Bool, ℕ, ◌+◌, ◌/◌, ◌%◌, ◌≤◌, ◌<◌, max, get_or, set, replicate, eqb}
use Rattle.std.proofs.Math.Bool.{true, false}
use mathlib.Core.List.{List, [], ◌∷◌}
use native.Mathlib.Omega.{arith}
use Rattle.std.proofs.Math.ListN.{length, length-replicate}
use Rattle.std.proofs.lemmas.List.Edits.{sets}
use Rattle.std.proofs.Math.Seq.{length-sets}
use borrow.Author.Tests.{eqb-true, eqb-false}
use Rattle.protocol.specs.Numbers.{row_words, status_unit, slot_count, name_size, slot_size}
use Rattle.state.specs.declared.row.Place.TheVariants.{AtSlot}
use Rattle.state.specs.State.{Row, Slot}
use Rattle.state.specs.Parts.{FitsRow, FitsSlot}
use Rattle.state.specs.Words.{id_of, blob_of, word_of, stamp_of, flags_in, status_in, clean_in, writing_in, word_with, writes, stamped, with_clean, free_row, free_slot, flags-with, status-with, clean-with, word-with}
use Rattle.state.specs.Facts.{StoreFacts, StoreSession, StoreIdle}
use Rattle.state.proofs.Fresh.{free-idle}
use Rattle.rules.specs.Store.{with_staged, read_store, stored, write_store, committed_slot, commit_writing, commit_store, closed_writing, closed_slot, on_store}
use Rattle.rules.specs.Command.{Command, read, write, commit, stat, close, write_meta, end_job, Out, commit_fits}
use Rattle.rules.proofs.Laws.{placed-has}
use Rattle.rules.proofs.Change.{Proper}

-- a freed slot has the lengths of a slot
pub freed-fits : FitsSlot free_slot
freed-fits = record
    { name-long = length-replicate name_size 0; committed-long = length-replicate slot_size 0; staged-long = length-replicate slot_size 0; held-flag = omega arith; mark-flag = omega arith }

module _ (k : ℕ) (low : k < slot_count) (r : Row) (b : Slot) (fr : FitsRow r) (fb : FitsSlot b) (on : r.used ≡ 1) (ses : StoreSession k r b) where
  abbrev Fine : Row × Slot → Type 0
  Fine c = Proper (AtSlot k) r c.0 b c.1

  -- the session goes on
  going : (q : Row) (d : Slot) → length q.words ≡ row_words → q.used ≡ 1 → FitsSlot d → id_of q ≡ id_of r → blob_of q ≡ blob_of r → d.name ≡ b.name → StoreSession k q d → Fine (q, d)
  going q d four u fd e0 e1 nm sq = record {
    row_fits = record { four = four; flag = omega arith };
    body-fits = (low, fd);
    kept = λ (h : q.used ≡ 1). (e0, e1, sq);
    freed = λ (h : q.used ≡ 0). absurd (omega arith);
    named = λ (h : d.held ≡ 1). (ses.is_held, nm);
  }

  -- nothing changes
  pub same : Fine (r, b)
  same = going r b fr.four on fb refl refl refl ses

  -- a later stamp
  later : (t : ℕ) (q : Row) (d : Slot) → length q.words ≡ row_words → q.used ≡ 1 → FitsSlot d
      → id_of q ≡ id_of r → blob_of q ≡ blob_of r → d.name ≡ b.name → StoreSession k q d → Fine (stamped t q, d)
  later t q d four u fd e0 e1 nm sq =
      going (stamped t q) d (length-set q.words 3 v ∙ four) u fd (at 0 (omega arith) ∙ e0) (at 1 (omega arith) ∙ e1) nm
      (rw (at 0 (omega arith), at 1 (omega arith), at 2 (omega arith)) sq)
    where
      v : ℕ
      v = max (stamp_of q) t

      at : (j : ℕ) → j ≢ 3 → get_or (set q.words 3 v) j 0 ≡ get_or q.words j 0
      at j n = get_or-set_other q.words 3 j v 0 n

  touched : (t : ℕ) → Fine (stamped t r, b)
  touched t = later t r b fr.four on fb refl refl refl ses

  -- a later stamp, and clean set to v
  cleaned : (t v : ℕ) (d : Slot) → FitsSlot d → d.name ≡ b.name
      → StoreFacts k (id_of r) (blob_of r) (word_with (flags_in (word_of r)) (status_in (word_of r)) v) d → Fine (stamped t (with_clean v r), d)
  cleaned t v d fd nm sq = later t (with_clean v r) d (length-set r.words 2 x ∙ fr.four) on fd (at 0 (omega arith)) (at 1 (omega arith)) nm
      (rw (at 0 (omega arith), at 1 (omega arith), get_or-set_same r.words 2 x 0 (let f = fr.four in omega arith)) sq)
    where
      x : ℕ
      x = word_with (flags_in (word_of r)) (status_in (word_of r)) v

      at : (j : ℕ) → j ≢ 2 → get_or (set r.words 2 x) j 0 ≡ get_or r.words j 0
      at j n = get_or-set_other r.words 2 j x 0 n

  -- the facts of a writing session whose clean is set to v, of the slot d
  facts : (v : ℕ) (d : Slot) → v < 2 → writing_in (word_of r) ≡ 1 → d.held ≡ 1 → d.mark < 2 → d.committed_len ≤ slot_size → d.staged_len ≤ slot_size → v ≤ d.mark
      → (d.mark ≡ 0 → d.committed_len ≡ 0) → d.name ≡ b.name → StoreFacts k (id_of r) (blob_of r) (word_with (flags_in (word_of r)) (status_in (word_of r)) v) d
  facts v d hv wr hd mk cf sf vm um nm = record {
    id-small = ses.id-small;
    on-slot = ses.on-slot;
    flags = rw fl ses.flags;
    no-status = status-with (flags_in (word_of r)) (status_in (word_of r)) v hf hs hv ∙ ses.no-status;
    rest-zero = word-with (flags_in (word_of r)) (status_in (word_of r)) v hf hs hv;
    is_held = hd;
    mark-bit = mk;
    committed-fits = cf;
    staged-fits = sf;
    clean-marked = rw cl vm;
    reader-clean = rw (cl, wn) (omega arith);
    unmarked = um;
    unstaged = λ (z : writing_in (word_with (flags_in (word_of r)) (status_in (word_of r)) v) ≡ 0). absurd (no (sym wn ∙ z));
    name-good = rw nm ses.name-good;
  }
    where
      hf : flags_in (word_of r) < status_unit
      hf = omega arith

      hs : status_in (word_of r) < 4
      hs = omega arith

      fl : flags_in (word_with (flags_in (word_of r)) (status_in (word_of r)) v) ≡ flags_in (word_of r)
      fl = flags-with (flags_in (word_of r)) (status_in (word_of r)) v hf hs hv

      cl : clean_in (word_with (flags_in (word_of r)) (status_in (word_of r)) v) ≡ v
      cl = clean-with (flags_in (word_of r)) (status_in (word_of r)) v hf hs hv

      wn : writing_in (word_with (flags_in (word_of r)) (status_in (word_of r)) v) ≡ 1
      wn = ap (λ (x : ℕ). x / 2 % 2) fl ∙ wr

      no : ◌≡◌ {A = ℕ} 1 0 → ⊥
      no h = omega arith

  -- the session ends
  ended : (d : Slot) → FitsSlot d → (d.held ≡ 1 → d.name ≡ b.name) → StoreIdle d → Fine (free_row, d)
  ended d fd nm idle = record {
    row_fits = record { four = refl; flag = omega arith };
    body-fits = (low, fd);
    kept = λ (h : ◌≡◌ {A = ℕ} 0 1). absurd (omega arith);
    freed = λ (h : ◌≡◌ {A = ℕ} 0 0). (refl, idle);
    named = λ (h : d.held ≡ 1). (ses.is_held, nm h);
  }

  on_read : (y : Bool) (t i n : ℕ) → Fine (read_store y t i n r b).1
  unfolding read_store
  on_read y t i n = touched t

  on_store_lem : (ws : List ℕ) (t i : ℕ) → writing_in (word_of r) ≡ 1 → i + length ws ≤ slot_size → Fine (stored t i ws r b).1
  unfolding stored
  on_store_lem [] t i wr h = touched t
  on_store_lem (x ∷ ws) t i wr h = cleaned t 0 d
      (record {
        name-long = fb.name-long;
        committed-long = fb.committed-long;
        staged-long = length-sets b.staged_bytes i (x ∷ ws) ∙ fb.staged-long;
        held-flag = fb.held-flag;
        mark-flag = fb.mark-flag;
      })
      refl
      (facts 0 d (omega arith) wr ses.is_held ses.mark-bit ses.committed-fits (let g = ses.staged-fits in omega arith) (omega arith) ses.unmarked refl)
    where
      d : Slot
      d = with_staged (sets b.staged_bytes i (x ∷ ws)) (max b.staged_len (i + length (x ∷ ws))) b

  on-write : (y : Bool) (ws : List ℕ) (t i : ℕ) → writes r ≡ y → Fine (write_store y t i ws r b).1
  unfolding write_store
  on-write true ws t i q =
      placed-has slot_size b.staged_len i (length ws) r b (stored t i ws r b) (λ (o : Out Slot). Fine o.1)
      (λ (h : i ≤ b.staged_len) (l : i + length ws ≤ slot_size). on_store_lem ws t i (eqb-true (writing_in (word_of r)) 1 q) l) (λ (code : ℕ). same)
  on-write false ws t i q = same

  on-commit-writing : (y : Bool) (t : ℕ) → writes r ≡ y → Fine (commit_writing y t r b).1
  unfolding commit_writing
  on-commit-writing true t q =
      cleaned t 1 (committed_slot b)
      (record { name-long = fb.name-long; committed-long = fb.staged-long; staged-long = fb.staged-long; held-flag = fb.held-flag; mark-flag = omega arith })
      refl
      (facts 1 (committed_slot b) (omega arith) (eqb-true (writing_in (word_of r)) 1 q) ses.is_held (omega arith) ses.staged-fits ses.staged-fits (omega arith)
      (λ (z : ◌≡◌ {A = ℕ} 1 0). absurd (omega arith)) refl)
  on-commit-writing false t q = same

  on-commit : (y : Bool) (t : ℕ) → Fine (commit_store y t r b).1
  unfolding commit_store
  on-commit true t = on-commit-writing (writes r) t refl
  on-commit false t = same

  on-close-writing : (y : Bool) → eqb b.mark 1 ≡ y → Fine (free_row, closed_writing y b)
  unfolding closed_writing
  on-close-writing true q =
      let mk : b.mark ≡ 1 = eqb-true b.mark 1 q in
      let hd : b.held ≡ 1 = ses.is_held in
      ended (with_staged (replicate slot_size 0) 0 b)
      (record { name-long = fb.name-long; committed-long = fb.committed-long; staged-long = length-replicate slot_size 0; held-flag = fb.held-flag; mark-flag = fb.mark-flag })
      (λ (h : b.held ≡ 1). refl)
      (record {
        held-marked = omega arith;
        idle-committed = ses.committed-fits;
        idle-staged = refl;
        held-name = λ (h : b.held ≡ 1). ses.name-good;
        free-zero = λ (h : b.held ≡ 0). absurd (omega arith);
      })
  on-close-writing false q = ended free_slot freed-fits (λ (h : ◌≡◌ {A = ℕ} 0 1). absurd (omega arith)) free-idle

  on-close : (y : Bool) → writes r ≡ y → Fine (free_row, closed_slot y b)
  unfolding closed_slot
  on-close true q = on-close-writing (eqb b.mark 1) refl
  on-close false q =
      let nw : writing_in (word_of r) ≡ 0 = let n = eqb-false (writing_in (word_of r)) 1 q in omega arith in
      let c = ses.clean-marked in let d = ses.reader-clean in let m = ses.mark-bit in let h = ses.is_held in
      ended b fb (λ (h : b.held ≡ 1). refl)
      (record {
        held-marked = omega arith;
        idle-committed = ses.committed-fits;
        idle-staged = ses.unstaged nw;
        held-name = λ (h : b.held ≡ 1).
            ses.name-good;
        free-zero = λ (h : b.held ≡ 0). absurd (omega arith);
      })

  -- every command
  pub proper-store : (t : ℕ) (c : Command) → Fine (on_store t c r b).1
  unfolding on_store
  proper-store t (read i n) = on_read (writes r) t i n
  proper-store t (write i ws) = on-write (writes r) ws t i refl
  proper-store t (commit n l) = on-commit (commit_fits n l) t
  proper-store t stat = touched t
  proper-store t close = on-close (writes r) refl
  proper-store t write_meta = same
  proper-store t (end_job g) = same
