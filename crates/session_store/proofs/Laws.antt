-- One law for each way through a store command: what the code leaves is what the rules say. Assumes nothing.
use mathlib.Core.Path.{◌≡◌, refl, sym, ◌∙◌, ap}
use mathlib.Core.Bool.{Bool, true, false, cond}
use mathlib.Core.List.{List, [], ◌∷◌}
use Prim.Native.Nat.{ℕ, ◌+◌, ◌*◌, ◌≤◌, ◌<◌, max}
use native.Mathlib.Omega.{arith}
use lib.Dec.{eqb}
use borrow.Author.Tests.{ne_eqb}
use lib.ListN.{get_or, set, length, replicate}
use lib.Seq.{sets, set-get_or}
use Rattle.laws.specs.Ranges.{part, block, block-fits, range-write, part-sets, block-steady}
use Rattle.laws.specs.Bits.{bit, put_bit, put-bit}
use Rattle.protocol.specs.Numbers.{slot_count, row_words, name_size, slot_size, not_supported, invalid}
use Rattle.protocol.specs.Decode.{fields_at}
use Rattle.protocol.specs.Frame.{Reply, refused, done, reply, stat_fields}
use Rattle.state.specs.declared.row.Entry.{Entry}
use Rattle.state.specs.Entry.{words_of, lifted, clean_set}
use Rattle.state.specs.declared.row.Place.TheVariants.{AtSlot}
use Rattle.state.specs.State.{State, Slots, Row, Slot, slot_of}
use Rattle.state.proofs.Parts.{slot_of-steady}
use Rattle.state.specs.Words.{writes, writing_in, stamped, with_clean, free_row, free_slot}
use Rattle.state.specs.Soundness.{slot_at}
use Rattle.rules.specs.Store.{on_store, read_store, read_count, seen_length, seen_bytes, write_store, stored, with_staged, commit_store, commit_writing, committed_slot, closed_slot, closed_writing, stat_store}
use Rattle.rules.specs.Command.{Command, read, write, commit, stat, close, Out, refuse, placed, bytes_after, length_after, commit_fits, state_bits}
use Rattle.rules.specs.Session.{on_row}
use Rattle.protocol.proofs.Sizes.{slot-size}
use Rattle.protocol.specs.declared.Code.{Code}
use Rattle.std.specs.Prelude.{Ok, Err}
use Rattle.response_types.specs.After.{reply_of, fields_laid}
use Rattle.session_row.specs.Write.{Written, written, written_has, said_by, length_by, region_by, table_by}
use Rattle.memory_slots.specs.Slots.{staged_as, staged-put}
use Rattle.session_row.specs.Lent.{OnSlot}
use Rattle.session_row.specs.OnRow.{row_read, does, refuses, with, put-slot, row_kept, row-freed, slot-put}

-- the row after an accepted Write of ws
abbrev pub written_row : List ℕ → Entry → Entry
written_row ws e = cond (eqb (length ws) 0) e (clean_set e 0)

-- ---- on the part
-- an accepted Write, empty or not
stored_is : (ws : List ℕ) (t offset : ℕ) (e : Entry) (used : ℕ) (b : Slot) → offset ≤ b.staged_len
    → stored t offset ws (record { words = words_of e; used = used }) b
    ≡ (done, (record { words = words_of (lifted (written_row ws e) t); used = used }, with_staged (bytes_after offset ws b.staged_bytes) (length_after offset ws b.staged_len) b))
unfolding stored
stored_is [] t offset e used b h =
    let q : b.staged_len ≡ max b.staged_len (offset + 0) = omega arith in
    ap (λ (n : ℕ). (done, (record { words = words_of (lifted e t); used = used }, with_staged b.staged_bytes n b))) q
stored_is (x ∷ ws) t offset e used b h =
    let n : eqb (length (x ∷ ws)) 0 ≡ false = ne_eqb (length (x ∷ ws)) 0 (λ (z : length (x ∷ ws) ≡ 0). omega arith) in
    ap (λ (y : Bool). (
      done,
      (
        record { words = words_of (lifted (cond y e (clean_set e 0)) t); used = used },
        with_staged (sets b.staged_bytes offset
            (x ∷ ws)) (max b.staged_len (offset + length (x ∷ ws))) b,
      ),
    )) (sym n)

module _ (t : ℕ) (x : Row) (b : Slot) where
  write-reader : (offset : ℕ) (ws : List ℕ) → writes x ≡ false → on_store t (write offset ws) x b ≡ refuse not_supported x b
  unfolding on_store write_store
  write-reader offset ws p = rw p

  write-writer : (offset : ℕ) (ws : List ℕ) → writes x ≡ true → on_store t (write offset ws) x b ≡ placed slot_size b.staged_len offset (length ws) x b (stored t offset ws x b)
  unfolding on_store write_store
  write-writer offset ws p = rw p

  commit-wrong : (len rest : ℕ) → commit_fits len rest ≡ false → on_store t (commit len rest) x b ≡ refuse invalid x b
  unfolding on_store commit_store
  commit-wrong len rest p = rw p

  commit-reader : (len rest : ℕ) → commit_fits len rest ≡ true → writes x ≡ false → on_store t (commit len rest) x b ≡ refuse not_supported x b
  unfolding on_store commit_store commit_writing
  commit-reader len rest p q = rw (p, q)

  commit-writer : (len rest : ℕ) → commit_fits len rest ≡ true → writes x ≡ true → on_store t (commit len rest) x b ≡ (done, (stamped t (with_clean 1 x), committed_slot b))
  unfolding on_store commit_store commit_writing
  commit-writer len rest p q = rw (p, q)

  close-reader : writes x ≡ false → on_store t close x b ≡ (done, (free_row, b))
  unfolding on_store closed_slot
  close-reader p = rw p

  close-writer : writes x ≡ true → eqb b.mark 1 ≡ true → on_store t close x b ≡ (done, (free_row, with_staged (replicate slot_size 0) 0 b))
  unfolding on_store closed_slot closed_writing
  close-writer p q = rw (p, q)

  close-new : writes x ≡ true → eqb b.mark 1 ≡ false → on_store t close x b ≡ (done, (free_row, free_slot))
  unfolding on_store closed_slot closed_writing
  close-new p q = rw (p, q)

-- ---- on the store
-- bytes stored into region k, as the code counts them
region-written : (k offset : ℕ) (ws l : List ℕ) → k < slot_count → length l ≡ slot_count * slot_size → offset + length ws ≤ slot_size
    → sets l (k * 4096 + offset) ws ≡ (block slot_size k).put (sets ((block slot_size k).get l) offset ws) l
region-written k offset ws l h e q =
    ap (λ (m : ℕ). sets l (k * m + offset) ws) (sym slot-size) ∙ sym (range-write 0 (k * slot_size) slot_size offset ws l q (rw e (block-fits slot_size k slot_count h)))

-- ---- in the state
module _ (s : State) (r : ℕ) (e : Entry) (words : (block row_words r).get s.sessions.table ≡ words_of e) {k : ℕ} (on : OnSlot e k) (t : ℕ) where
  -- what the rules give, for a store session, and a row that stays used
  part-does : (cmd : Command) (q : Reply) (f : Entry) (b : Slot) (table : List ℕ) (slots : Slots)
      → on_store t cmd (row_read r e s) (slot_at k s) ≡ (q, (row_read r f s, b)) → table ≡ (block row_words r).put (words_of f) s.sessions.table → (slot_of k).put b s.store ≡ slots
      → (q, with s (record { table = table; rows = s.sessions.rows }) slots s.flash_group) ≡ on_row r t cmd s
  part-does cmd q f b table slots h p u =
      does s r e words (AtSlot k) on.slot-place t cmd q (row_read r f s) b _ h (put-slot s r (row_read r f s) _ (row_kept r s.sessions (words_of f) table p) k b slots u)

  part-refuses : (cmd : Command) (code : ℕ) → on_store t cmd (row_read r e s) (slot_at k s) ≡ refuse code (row_read r e s) (slot_at k s) → (refused code, s) ≡ on_row r t cmd s
  part-refuses cmd code h = refuses s r e words (AtSlot k) on.slot-place t cmd code h

  -- Write
  pub write-d5 : (offset : ℕ) (ws : List ℕ) → eqb (writing_in e.word) 1 ≡ false → (refused not_supported, s) ≡ on_row r t (write offset ws) s
  write-d5 offset ws p = part-refuses (write offset ws) not_supported (write-reader t (row_read r e s) (slot_at k s) offset ws p)

  module _ (offset : ℕ) (ws answer : List ℕ) where
    -- what the code leaves, where the Write comes to w
    abbrev Left : Written → Reply × State
    Left w = (
      reply_of (said_by w) answer,
      with s (record { table = table_by w r (words_of (lifted (written_row ws e) t)) s.sessions.table; rows = s.sessions.rows })
          (staged_as (region_by w (k * 4096 + offset) ws s.store.staged) (set s.store.staged_lens k (length_by w (get_or s.store.staged_lens k 0))) s.store) s.flash_group,
    )

    left_is : length s.store.staged ≡ slot_count * slot_size → eqb (writing_in e.word) 1 ≡ true → Left (written slot_size (get_or s.store.staged_lens
        k 0) offset (length ws)) ≡ on_row r t (write offset ws) s
    left_is size p =
        let x : Row = row_read r e s in
        let b : Slot = slot_at k s in
        written_has slot_size b.staged_len offset (length ws) x b (stored t offset ws x b) (λ (y : Written) (o : Out Slot). on_store t
        (write offset ws) x b ≡ o → Left y ≡ on_row r t (write offset ws) s)
        (λ (h : offset ≤ b.staged_len) (l : offset + length ws ≤ slot_size) (u : on_store t (write offset ws) x b ≡ stored t offset ws x b).
        part-does (write offset ws) done (lifted (written_row ws e) t) _ _ _ (u ∙ stored_is ws t offset e (bit r s.sessions.rows) b h) refl
        (staged-put k s.store (sets s.store.staged (k * 4096 + offset) ws) _ _ (region-written k offset ws s.store.staged on.slot-low size l)))
        (λ (code : ℕ) (u : on_store t (write offset ws) x b ≡ refuse code x b).
        ap (λ (l : List ℕ). (refused code, with s s.sessions (staged_as s.store.staged l s.store) s.flash_group)) (set-get_or s.store.staged_lens k 0) ∙ part-refuses (write offset ws) code u)
        (write-writer t x b offset ws p)

    -- what the rules give, where the Write comes to w
    gives : (w : Written) → length s.store.staged ≡ slot_count * slot_size → eqb (writing_in e.word) 1 ≡ true
        → w ≡ written 4096 (get_or s.store.staged_lens k 0) offset (length ws) → Left w ≡ on_row r t (write offset ws) s
    gives w size p pw = ap Left (pw ∙ ap (λ (m : ℕ). written m (get_or s.store.staged_lens k 0) offset (length ws)) (sym slot-size)) ∙ left_is size p

    module _ (w : Written) (g : List ℕ) (size : length s.store.staged ≡ slot_count * slot_size) (p : eqb (writing_in e.word) 1 ≡ true)
        (pw : w ≡ written 4096 (get_or s.store.staged_lens k 0) offset (length ws)) (pg : g ≡ region_by w (k * 4096 + offset) ws s.store.staged) where
      pub write-refused : (code : Code) → w ≡ Err code → (refused code.0, with s s.sessions (staged_as g s.store.staged_lens s.store) s.flash_group) ≡ on_row r t (write offset ws) s
      write-refused code q =
          let bytes : g ≡ s.store.staged = pg ∙ ap (λ (y : Written). region_by y (k * 4096 + offset) ws s.store.staged) q in
          (λ i. (refused code.0, with s s.sessions (staged_as (bytes i) (sym (set-get_or s.store.staged_lens k 0) i) s.store) s.flash_group)) ∙ ap Left (sym q) ∙ gives w size p pw

      pub write-accepted : (n : ℕ) (f : Entry) (table : List ℕ) → w ≡ Ok n → f ≡ lifted (written_row ws e) t → table ≡ (block row_words r).put (words_of f) s.sessions.table
          → (done, with s (record { table = table; rows = s.sessions.rows }) (staged_as g (set s.store.staged_lens k n) s.store) s.flash_group) ≡ on_row r t (write offset ws) s
      write-accepted n f table q pf pt =
          let bytes : g ≡ sets s.store.staged (k * 4096 + offset) ws = pg ∙ ap (λ (y : Written). region_by y (k * 4096 + offset) ws s.store.staged) q in
          let rows : table ≡ (block row_words r).put (words_of (lifted (written_row ws e) t)) s.sessions.table = pt ∙ ap (λ (y : Entry). (block row_words r).put (words_of y) s.sessions.table) pf in
          (λ i. (done, with s (record { table = rows i; rows = s.sessions.rows }) (staged_as (bytes i) (set s.store.staged_lens k n) s.store) s.flash_group)) ∙ ap Left (sym q) ∙ gives w size p pw

  -- Commit
  module _ (len rest : ℕ) where
    pub commit-cc : commit_fits len rest ≡ false → (refused invalid, s) ≡ on_row r t (commit len rest) s
    commit-cc p = part-refuses (commit len rest) invalid (commit-wrong t (row_read r e s) (slot_at k s) len rest p)

    pub commit-d5 : commit_fits len rest ≡ true → eqb (writing_in e.word) 1 ≡ false → (refused not_supported, s) ≡ on_row r t (commit len rest) s
    commit-d5 p q = part-refuses (commit len rest) not_supported (commit-reader t (row_read r e s) (slot_at k s) len rest p q)

    pub commit-is : (table c : List ℕ) (marks : ℕ) → commit_fits len rest ≡ true → eqb (writing_in e.word) 1 ≡ true
        → table ≡ (block row_words r).put (words_of (lifted (clean_set e 1) t)) s.sessions.table
        → c ≡ (block slot_size k).put ((block slot_size k).get s.store.staged) s.store.committed → marks ≡ put_bit k 1 s.store.marks
        → (
          done,
          with s (record { table = table; rows = s.sessions.rows })
              (record {
                names = s.store.names;
                committed = c;
                staged = s.store.staged;
                slots = s.store.slots;
                marks = marks;
                committed_lens = set s.store.committed_lens k (get_or s.store.staged_lens k 0);
                staged_lens = s.store.staged_lens;
              })
              s.flash_group,
        )
        ≡ on_row r t (commit len rest) s
    commit-is table c marks p q u1 u2 u3 =
        part-does (commit len rest) done (lifted (clean_set e 1) t) (committed_slot (slot_at k s)) table _ (commit-writer t (row_read r e s) (slot_at k s) len rest p q) u1
        (slot-put k (committed_slot (slot_at k s)) s.store _ (block-steady 0 name_size k s.store.names) (sym u2) (block-steady 0 slot_size k s.store.staged) (put-bit k s.store.slots)
        (sym u3) refl (set-get_or s.store.staged_lens k 0))

  -- Close
  module _ (table : List ℕ) (rows : ℕ) (u1 : table ≡ (block row_words r).put free_row.words s.sessions.table) (u2 : rows ≡ put_bit r 0 s.sessions.rows) where
    closes : (b : Slot) (slots : Slots) → on_store t close (row_read r e s) (slot_at k s) ≡ (done, (free_row, b)) → (slot_of k).put b s.store ≡ slots
        → (done, with s (record { table = table; rows = rows }) slots s.flash_group) ≡ on_row r t close s
    closes b slots h u =
        does s r e words (AtSlot k) on.slot-place t close done free_row b _ h (put-slot s r free_row _ (row-freed r s.sessions table rows u1 u2) k b slots u)

    pub close-read : eqb (writing_in e.word) 1 ≡ false → (done, with s (record { table = table; rows = rows }) s.store s.flash_group) ≡ on_row r t close s
    close-read p = closes (slot_at k s) s.store (close-reader t (row_read r e s) (slot_at k s) p) (slot_of-steady k s.store)

    pub close-kept : (g : List ℕ) → eqb (writing_in e.word) 1 ≡ true → eqb (bit k s.store.marks) 1 ≡ true → g ≡ (block slot_size k).put (replicate slot_size 0) s.store.staged
        → (done, with s (record { table = table; rows = rows }) (staged_as g (set s.store.staged_lens k 0) s.store) s.flash_group) ≡ on_row r t close s
    close-kept g p q u = closes _ _ (close-writer t (row_read r e s) (slot_at k s) p q) (staged-put k s.store g (replicate slot_size 0) 0 u)

    pub close-fresh : eqb (writing_in e.word) 1 ≡ true → eqb (bit k s.store.marks) 1 ≡ false
        → (done, with s (record { table = table; rows = rows }) ((slot_of k).put free_slot s.store) s.flash_group) ≡ on_row r t close s
    close-fresh p q = closes free_slot _ (close-new t (row_read r e s) (slot_at k s) p q) refl

  -- Read
  read-does : (offset count : ℕ) (table : List ℕ) → table ≡ (block row_words r).put (words_of (lifted e t)) s.sessions.table
      → (
        reply (part offset (read_count count offset (seen_length (writes (row_read r e s)) (slot_at k s))) (seen_bytes (writes (row_read r e s)) (slot_at k s))),
        with s (record { table = table; rows = s.sessions.rows }) s.store s.flash_group,
      )
      ≡ on_row r t (read offset count) s
  unfolding on_store read_store
  read-does offset count table p = part-does (read offset count) _ (lifted e t) (slot_at k s) table s.store refl p (slot_of-steady k s.store)

  pub read_is : (offset count n : ℕ) (writing : Bool) (table answer after shown : List ℕ) → writing ≡ eqb (writing_in e.word) 1
      → shown ≡ part offset (read_count count offset (seen_length writing (slot_at k s))) (seen_bytes writing (slot_at k s)) → length shown ≡ n → fields_at + n ≤ length answer
      → after ≡ sets answer fields_at shown → table ≡ (block row_words r).put (words_of (lifted e t)) s.sessions.table
      → ((reply (part fields_at n after), with s (record { table = table; rows = s.sessions.rows }) s.store s.flash_group) ≡ on_row r t
      (read offset count) s) × (after ≡ fields_laid (on_row r t (read offset count) s).0 answer)
  read_is offset count n writing table answer after shown pw ps pl room pa pt =
      let f : shown ≡ part offset (read_count count offset (seen_length (writes (row_read r e s)) (slot_at k s))) (seen_bytes (writes (row_read r e s)) (slot_at k s))
      = ps ∙ ap (λ (y : Bool). part offset (read_count count offset (seen_length y (slot_at k s))) (seen_bytes y (slot_at k s))) pw in
      let l : part fields_at n after ≡ shown = ap (part fields_at n) pa ∙ ap (λ (m : ℕ). part fields_at m (sets answer fields_at shown)) (sym pl) ∙ part-sets shown answer fields_at (rw pl room) in
      let o : (reply shown, with s (record { table = table; rows = s.sessions.rows }) s.store s.flash_group) ≡ on_row r t (read offset count) s
      = ap (λ (y : List ℕ). (reply y, with s (record { table = table; rows = s.sessions.rows }) s.store s.flash_group)) f ∙ read-does offset count table pt in (
        ap (λ (y : List ℕ). (reply y, with s (record { table = table; rows = s.sessions.rows }) s.store s.flash_group)) l ∙ o,
        pa ∙ ap (λ (y : Reply × State). fields_laid y.0 answer) o,
      )

  -- SessionStat
  stat-does : (table : List ℕ) → table ≡ (block row_words r).put (words_of (lifted e t)) s.sessions.table
      → (reply (stat_store (row_read r e s) (slot_at k s)), with s (record { table = table; rows = s.sessions.rows }) s.store s.flash_group) ≡ on_row r t stat s
  unfolding on_store
  stat-does table p = part-does stat _ (lifted e t) (slot_at k s) table s.store refl p (slot_of-steady k s.store)

  pub stat-is : (state size : ℕ) (writing : Bool) (table : List ℕ) → writing ≡ eqb (writing_in e.word) 1 → state ≡ state_bits e.word → size ≡ seen_length writing (slot_at k s)
      → table ≡ (block row_words r).put (words_of (lifted e t)) s.sessions.table
      → (reply (stat_fields state size), with s (record { table = table; rows = s.sessions.rows }) s.store s.flash_group) ≡ on_row r t stat s
  stat-is state size writing table pw ps pn pt =
      (λ i. (
        reply (stat_fields (ps i) ((pn ∙ ap (λ (y : Bool). seen_length y (slot_at k s)) pw) i)),
        with s (record {
          table = table;
          rows =
              s.sessions.rows;
        }) s.store s.flash_group,
      )) ∙ stat-does table pt
