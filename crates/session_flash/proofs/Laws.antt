-- One law for each way through a command on the flash session: what the code leaves is what the rules say. Assumes nothing.
use mathlib.Core.Path.{◌≡◌, refl, sym, ◌∙◌, ap}
use mathlib.Core.Bool.{Bool, true, false, cond, true≢false}
use mathlib.Core.List.{List}
use Prim.Native.Nat.{ℕ, ◌+◌, ◌≤◌, max}
use mathlib.Core.Logic.{◌⊎◌, inl, inr}
use lib.Dec.{eqb}
use borrow.Author.Tests.{eq-eqb, ne_eqb}
use lib.ListN.{length}
use lib.Seq.{sets}
use Rattle.laws.specs.Ranges.{block}
use Rattle.laws.specs.Bits.{bit, put_bit}
use Rattle.protocol.specs.Numbers.{row_words, image_size, hash_size, running, succeeded, failed, not_supported, invalid, busy}
use Rattle.protocol.specs.Names.{kind_of}
use Rattle.protocol.specs.Frame.{Reply, refused, done, reply, stat_fields}
use Rattle.protocol.specs.declared.FlashKind.{FlashKind}
use Rattle.protocol.specs.declared.FlashKind.TheVariants.{Image, Hash, Verify, Update, Cleanup}
use Rattle.state.specs.declared.Phase.TheVariants.{Uploading, Verified}
use Rattle.state.specs.declared.row.Entry.{Entry}
use Rattle.state.specs.Entry.{words_of, lifted, status_set}
use Rattle.state.specs.declared.row.Place.TheVariants.{AtFlash}
use Rattle.state.specs.State.{place_of, State, Row, FlashBody}
use Rattle.state.specs.Words.{status_in, status_of, stamped, with_status, free_row, empty_flash}
use Rattle.rules.specs.Command.{Command, write, commit, stat, close, end_job, Out, refuse, placed, commit_fits, state_bits}
use Rattle.rules.specs.Flash.{on_flash, write_flash, with_image, with_hash, with_phase, verify_job, update_job, commit_kind, commit_flash, closed_flash, close_flash, flash_length, stat_flash, verdict, job_ends}
use Rattle.rules.specs.Session.{on_row}
use Rattle.protocol.specs.declared.Code.{Code}
use Rattle.std.specs.Prelude.{Ok, Err}
use Rattle.response_types.specs.After.{reply_of}
use Rattle.session_row.specs.Write.{Written, written, written_has, said_by, length_by, region_by, table_by}
use Rattle.session_row.specs.OnRow.{row_read, does, refuses, with, put-flash, row_kept, row-freed}
use Rattle.session_flash.specs.Jobs.{startable_in, started, updated_by, closed_phase}

-- the names that hold bytes: Write is for them, Commit is not
abbrev pub holds_bytes : FlashKind → Bool
holds_bytes Image = true
holds_bytes Hash = true
holds_bytes Verify = false
holds_bytes Update = false
holds_bytes Cleanup = false

pub bytes-held : {k : FlashKind} → (k ≡ Image) ⊎ (k ≡ Hash) → holds_bytes k ≡ true
bytes-held (inl p) = ap holds_bytes p
bytes-held (inr p) = ap holds_bytes p

pub no-bytes-held : {k : FlashKind} → (k ≡ Verify) ⊎ ((k ≡ Update) ⊎ (k ≡ Cleanup)) → holds_bytes k ≡ false
no-bytes-held (inl p) = ap holds_bytes p
no-bytes-held (inr (inl p)) = ap holds_bytes p
no-bytes-held (inr (inr p)) = ap holds_bytes p

-- ---- on the part
module _ (t offset : ℕ) (ws : List ℕ) (x : Row) (b : FlashBody) where
  write-none : (k : FlashKind) → holds_bytes k ≡ false → on_flash k t (write offset ws) x b ≡ refuse not_supported x b
  unfolding on_flash write_flash
  write-none Image p = absurd (true≢false p)
  write-none Hash p = absurd (true≢false p)
  write-none Verify p = refl
  write-none Update p = refl
  write-none Cleanup p = refl

  pub write-image : (k : FlashKind) → k ≡ Image → on_flash k t (write offset ws) x b ≡ placed image_size b.image_len offset (length ws) x b
      (done, (stamped t x, with_image (sets b.image offset ws) (max b.image_len (offset + length ws)) b))
  unfolding on_flash write_flash
  write-image k p = rw p

  pub write-hash : (k : FlashKind) → k ≡ Hash → on_flash k t (write offset ws) x b
      ≡ placed hash_size b.hash_len offset (length ws) x b (done, (stamped t x, with_hash (sets b.hash offset ws) (max b.hash_len (offset + length ws)) b))
  unfolding on_flash write_flash
  write-hash k p = rw p

module _ (t len rest : ℕ) (e : Entry) (used : ℕ) (b : FlashBody) where
  -- the row as the code has read it
  abbrev x : Row
  x = record { words = words_of e; used = used }

  commit-wrong : (k : FlashKind) → commit_fits len rest ≡ false → on_flash k t (commit len rest) x b ≡ refuse invalid x b
  unfolding on_flash commit_flash
  commit-wrong k p = rw p

  commit-none : (k : FlashKind) → commit_fits len rest ≡ true → holds_bytes k ≡ true → on_flash k t (commit len rest) x b ≡ refuse not_supported x b
  unfolding on_flash commit_flash commit_kind
  commit-none Image p q = rw p
  commit-none Hash p q = rw p
  commit-none Verify p q = absurd (true≢false (sym q))
  commit-none Update p q = absurd (true≢false (sym q))
  commit-none Cleanup p q = absurd (true≢false (sym q))

  verify-starts : (y : Bool) → verify_job y t x b ≡ (done, (record { words = words_of (lifted (cond y (status_set e running) e) t); used = used }, with_phase (cond y Uploading b.phase) b))
  unfolding verify_job
  verify-starts true = refl
  verify-starts false = refl

  update-starts : (y : Bool) → update_job y t x b ≡ (done, (record { words = words_of (lifted (cond y (status_set e running) e) t); used = used }, b))
  unfolding update_job
  update-starts true = refl
  update-starts false = refl

  commit-verify : (k : FlashKind) → commit_fits len rest ≡ true → k ≡ Verify → on_flash k t (commit len rest) x b
      ≡ (done, (record { words = words_of (lifted (started e) t); used = used }, with_phase (cond (startable_in e.word) Uploading b.phase) b))
  unfolding on_flash commit_flash commit_kind
  commit-verify k p q = rw (p, q) (verify-starts (startable_in e.word))

  commit-update : (k : FlashKind) → commit_fits len rest ≡ true → k ≡ Update → on_flash k t (commit len rest) x b ≡ (done, (record { words = words_of (lifted (started e) t); used = used }, b))
  unfolding on_flash commit_flash commit_kind
  commit-update k p q = rw (p, q) (update-starts (startable_in e.word))

  commit-cleanup : (k : FlashKind) → commit_fits len rest ≡ true → k ≡ Cleanup → on_flash k t (commit len rest) x b ≡
      (done, (record { words = words_of (lifted (status_set e succeeded) t); used = used }, empty_flash))
  unfolding on_flash commit_flash commit_kind
  commit-cleanup k p q = rw (p, q)

-- what a Close leaves of the flash
closed_is : (k : FlashKind) (status : ℕ) (b : FlashBody) → closed_flash k status b ≡ cond (updated_by k status) empty_flash (with_phase (closed_phase k status b.phase) b)
unfolding closed_flash
closed_is Image status b = refl
closed_is Hash status b = refl
closed_is Verify status b = go (eqb status succeeded) (eqb status failed)
  where
    go : (y z : Bool) → cond y (with_phase Verified b) (cond z (with_phase Uploading b) b) ≡ with_phase (cond y Verified (cond z Uploading b.phase)) b
    go true z = refl
    go false true = refl
    go false false = refl
closed_is Update status b = go (eqb status succeeded) (eqb status failed)
  where
    go : (y z : Bool) → cond y empty_flash (cond z (with_phase Uploading b) b) ≡ cond y empty_flash (with_phase (cond z Uploading b.phase) b)
    go true z = refl
    go false true = refl
    go false false = refl
closed_is Cleanup status b = refl

module _ (k : FlashKind) (t : ℕ) (x : Row) (b : FlashBody) where
  close-busy : status_of x ≡ running → on_flash k t close x b ≡ refuse busy x b
  unfolding on_flash close_flash
  close-busy p = rw (eq-eqb (status_of x) running p)

  close-free : (y : Bool) → (status_of x ≡ running → ⊥) → updated_by k (status_of x) ≡ y → on_flash k t close x b ≡ (
    done,
    (
      free_row,
      cond y
          empty_flash (with_phase (closed_phase k (status_of x) b.phase) b),
    ),
  )
  unfolding on_flash close_flash
  close-free y p q =
      rw (ne_eqb (status_of x) running p)
      (ap (λ (z : FlashBody). (done, (free_row, z))) (closed_is k (status_of x) b ∙ ap (λ (z : Bool). cond z empty_flash (with_phase (closed_phase k (status_of x) b.phase) b)) q))

  outcome-running : (good : Bool) → status_of x ≡ running → on_flash k t (end_job good) x b ≡ (done, (with_status (verdict good) x, b))
  unfolding on_flash job_ends
  outcome-running good p = rw (eq-eqb (status_of x) running p)

  outcome-none : (good : Bool) → (status_of x ≡ running → ⊥) → on_flash k t (end_job good) x b ≡ refuse not_supported x b
  unfolding on_flash job_ends
  outcome-none good p = rw (ne_eqb (status_of x) running p)

-- ---- in the state
module _ (s : State) (r : ℕ) (e : Entry) (words : (block row_words r).get s.sessions.table ≡ words_of e) (place : place_of e.blob ≡ AtFlash) (t : ℕ) where
  -- the state with another table and flash
  abbrev pub after : List ℕ → FlashBody → State
  after table b = with s (record { table = table; rows = s.sessions.rows }) s.store b

  part-does : (cmd : Command) (q : Reply) (f : Entry) (b b' : FlashBody) (table : List ℕ)
      → on_flash (kind_of e.blob) t cmd (row_read r e s) s.flash_group ≡ (q, (row_read r f s, b)) → table ≡ (block row_words r).put (words_of f)
      s.sessions.table → b ≡ b' → (q, after table b') ≡ on_row r t cmd s
  part-does cmd q f b b' table h p u =
      does s r e words AtFlash place t cmd q (row_read r f s) b _ h (put-flash s r (row_read r f s) _ (row_kept r s.sessions (words_of f) table p) b b' u)

  part-refuses : (cmd : Command) (code : ℕ) → on_flash (kind_of e.blob) t cmd (row_read r e s) s.flash_group ≡ refuse code (row_read r e s) s.flash_group → (refused code, s) ≡ on_row r t cmd s
  part-refuses cmd code h = refuses s r e words AtFlash place t cmd code h

  -- Write
  module _ (offset : ℕ) (ws answer : List ℕ) where
    pub write-d5 : holds_bytes (kind_of e.blob) ≡ false → (refused not_supported, s) ≡ on_row r t (write offset ws) s
    write-d5 p = part-refuses (write offset ws) not_supported (write-none t offset ws (row_read r e s) s.flash_group (kind_of e.blob) p)

    -- into a region l of the flash that has `len` bytes; `put` puts another region and length in their place
    module _ (capacity : ℕ) (l : List ℕ) (len : ℕ) (put : List ℕ → ℕ → FlashBody) (same : put l len ≡ s.flash_group)
        (h : on_flash (kind_of e.blob) t (write offset ws) (row_read r e s) s.flash_group ≡ placed capacity len offset (length ws) (row_read r e s) s.flash_group
        (done, (stamped t (row_read r e s), put (sets l offset ws) (max len (offset + length ws)))))
        (size : length l ≡ capacity) where
      accepted : Out FlashBody
      accepted = (done, (stamped t (row_read r e s), put (sets l offset ws) (max len (offset + length ws))))

      -- what the code leaves, where the Write comes to y
      abbrev Left : Written → Reply × State
      Left y = (reply_of (said_by y) answer, after (table_by y r (words_of (lifted e t)) s.sessions.table) (put (region_by y offset ws l) (length_by y len)))

      gives : (w : Written) → w ≡ written (length l) len offset (length ws) → Left w ≡ on_row r t (write offset ws) s
      unfolding accepted
      gives w pw =
          ap Left (pw ∙ ap (λ (m : ℕ). written m len offset (length ws)) size)
          ∙ written_has capacity len offset (length ws) (row_read r e s) s.flash_group accepted (λ (y : Written) (o : Out FlashBody). on_flash (kind_of e.blob) t (write offset ws)
          (row_read r e s) s.flash_group ≡ o → Left y ≡ on_row r t (write offset ws) s)
          (λ (p : offset ≤ len) (q : offset + length ws ≤ capacity) (u : on_flash (kind_of e.blob) t (write offset ws) (row_read r e s) s.flash_group ≡
          accepted). part-does (write offset ws) done (lifted e t) _ _ _ u refl refl)
          (λ (code : ℕ) (u : on_flash (kind_of e.blob) t (write offset ws) (row_read r e s) s.flash_group ≡ refuse code (row_read r e s) s.flash_group).
          ap (λ (y : FlashBody). (refused code, after s.sessions.table y)) same ∙ part-refuses (write offset ws) code u)
          h

      module _ (w : Written) (table l' : List ℕ) (pw : w ≡ written (length l) len offset (length ws)) (pl : l' ≡ region_by w offset ws l)
          (pt : table ≡ table_by w r (words_of (lifted e t)) s.sessions.table) where
        pub write-refused : (code : Code) → w ≡ Err code → (refused code.0, after table (put l' len)) ≡ on_row r t (write offset ws) s
        write-refused code q =
            let bytes : l' ≡ l = pl ∙ ap (λ (y : Written). region_by y offset ws l) q in
            let rows : table ≡ s.sessions.table = pt ∙ ap (λ (y : Written). table_by y r (words_of (lifted e t)) s.sessions.table) q in
            (λ i. (refused code.0, after (rows i) (put (bytes i) len))) ∙ ap Left (sym q) ∙ gives w pw

        pub write-accepted : (n : ℕ) → w ≡ Ok n → (done, after table (put l' n)) ≡ on_row r t (write offset ws) s
        write-accepted n q =
            let bytes : l' ≡ sets l offset ws = pl ∙ ap (λ (y : Written). region_by y offset ws l) q in
            let rows : table ≡ (block row_words r).put (words_of (lifted e t)) s.sessions.table = pt ∙ ap (λ (y : Written). table_by y r (words_of (lifted e t)) s.sessions.table) q in
            (λ i. (done, after (rows i) (put (bytes i) n))) ∙ ap Left (sym q) ∙ gives w pw

  -- Commit
  module _ (len rest : ℕ) where
    pub commit-cc : commit_fits len rest ≡ false → (refused invalid, s) ≡ on_row r t (commit len rest) s
    commit-cc p = part-refuses (commit len rest) invalid (commit-wrong t len rest e (bit r s.sessions.rows) s.flash_group (kind_of e.blob) p)

    pub commit-d5 : commit_fits len rest ≡ true → holds_bytes (kind_of e.blob) ≡ true → (refused not_supported, s) ≡ on_row r t (commit len rest) s
    commit-d5 p q = part-refuses (commit len rest) not_supported (commit-none t len rest e (bit r s.sessions.rows) s.flash_group (kind_of e.blob) p q)

    pub verify-is : (table : List ℕ) (b : FlashBody) → commit_fits len rest ≡ true → kind_of e.blob ≡ Verify → table ≡ (block row_words r).put (words_of (lifted (started e) t)) s.sessions.table
        → b ≡ with_phase (cond (startable_in e.word) Uploading s.flash_group.phase) s.flash_group → (done, after table b) ≡ on_row r t (commit len rest) s
    verify-is table b p q u1 u2 = part-does (commit len rest) done (lifted (started e) t) _ b table (commit-verify t len rest e (bit r s.sessions.rows) s.flash_group (kind_of e.blob) p q) u1 (sym u2)

    pub update-is : (table : List ℕ) → commit_fits len rest ≡ true → kind_of e.blob ≡ Update → table ≡ (block row_words r).put (words_of (lifted (started e) t)) s.sessions.table
        → (done, after table s.flash_group) ≡ on_row r t (commit len rest) s
    update-is table p q u = part-does (commit len rest) done (lifted (started e) t) _ s.flash_group table (commit-update t len rest e (bit r s.sessions.rows) s.flash_group (kind_of e.blob) p q) u refl

    pub cleanup-is : (table : List ℕ) (b : FlashBody) → commit_fits len rest ≡ true → kind_of e.blob ≡ Cleanup
        → table ≡ (block row_words r).put (words_of (lifted (status_set e succeeded) t)) s.sessions.table → b ≡ empty_flash
        → (done, after table b) ≡ on_row r t (commit len rest) s
    cleanup-is table b p q u1 u2 = part-does (commit len rest) done (lifted (status_set e succeeded) t) _ b table (commit-cleanup t len rest e
        (bit r s.sessions.rows) s.flash_group (kind_of e.blob) p q) u1 (sym u2)

  -- Close
  pub close-c0 : status_in e.word ≡ running → (refused busy, s) ≡ on_row r t close s
  close-c0 p = part-refuses close busy (close-busy (kind_of e.blob) t (row_read r e s) s.flash_group p)

  pub close-is : (table : List ℕ) (rows : ℕ) (y : Bool) (b : FlashBody) → (status_in e.word ≡ running → ⊥) → updated_by (kind_of e.blob) (status_in e.word) ≡ y
      → table ≡ (block row_words r).put free_row.words s.sessions.table → rows ≡ put_bit r 0 s.sessions.rows
      → b ≡ cond y empty_flash (with_phase (closed_phase (kind_of e.blob) (status_in e.word) s.flash_group.phase) s.flash_group)
      → (done, with s (record { table = table; rows = rows }) s.store b) ≡ on_row r t close s
  close-is table rows y b p q u1 u2 u3 =
      does s r e words AtFlash place t close done free_row _ _ (close-free (kind_of e.blob) t (row_read r e s) s.flash_group y p q)
      (put-flash s r free_row _ (row-freed r s.sessions table rows u1 u2) _ b (sym u3))

  -- SessionStat
  stat-does : (table : List ℕ) → table ≡ (block row_words r).put (words_of (lifted e t)) s.sessions.table → (
    reply (stat_flash (kind_of e.blob)
        (row_read r e s) s.flash_group),
    after table s.flash_group,
  ) ≡ on_row r t stat s
  unfolding on_flash
  stat-does table p = part-does stat _ (lifted e t) s.flash_group s.flash_group table refl p refl

  pub stat-is : (state size : ℕ) (table : List ℕ) → state ≡ state_bits e.word → size ≡ flash_length (kind_of e.blob) s.flash_group → table ≡
      (block row_words r).put (words_of (lifted e t)) s.sessions.table
      → (reply (stat_fields state size), after table s.flash_group) ≡ on_row r t stat s
  stat-is state size table p q u = (λ i. (reply (stat_fields (p i) (q i)), after table s.flash_group)) ∙ stat-does table u

  -- the job's outcome
  module _ (good : Bool) where
    pub outcome-d5 : (status_in e.word ≡ running → ⊥) → (refused not_supported, s) ≡ on_row r t (end_job good) s
    outcome-d5 p = part-refuses (end_job good) not_supported (outcome-none (kind_of e.blob) t (row_read r e s) s.flash_group good p)

    pub outcome-is : (table : List ℕ) → status_in e.word ≡ running → table ≡ (block row_words r).put (words_of (status_set e (verdict good)))
        s.sessions.table → (done, after table s.flash_group) ≡ on_row r t (end_job good) s
    outcome-is table p u = part-does (end_job good) done (status_set e (verdict good)) _ s.flash_group table (outcome-running (kind_of e.blob) t (row_read r e s) s.flash_group good p) u refl
