-- What a command does on the flash session's part is proper. Assumes nothing.
use Rattle.std.proofs.Math.Path.{◌≡◌, refl}
use Rattle.std.proofs.Common.{sym, ◌∙◌, subst, arith, length-set, get_or-set_other, get_or-set_same, eqb-true}
use Rattle.std.proofs.Math.Logic.{◌≢◌}
use Rattle.std.specs.Prelude.{Bool, cond, List, ℕ, ◌+◌, ◌≤◌, ◌<◌, max, get_or, set, eqb}
use Rattle.std.proofs.Math.Bool.{true, false}
use Rattle.std.proofs.Math.ListN.{length}
use Rattle.std.proofs.lemmas.List.{length-replicate}
use Rattle.std.proofs.Math.Seq.{length-sets}
use Rattle.protocol.specs.Numbers.{row_words, image_size, hash_size, clean_unit, running}
use Rattle.protocol.specs.Names.{kind_of}
use Rattle.protocol.specs.declared.FlashKind.{FlashKind}
use Rattle.protocol.specs.declared.FlashKind.TheVariants.{Image, Hash, Verify, Update, Cleanup}
use Rattle.state.specs.declared.Phase.{Phase}
use Rattle.state.specs.declared.Phase.TheVariants.{Idle, Uploading, Verified}
use Rattle.state.specs.declared.row.Place.TheVariants.{AtFlash}
use Rattle.state.specs.State.{Row, FlashBody}
use Rattle.state.specs.Parts.{FitsRow}
use Rattle.state.specs.Words.{id_of, blob_of, word_of, stamp_of, flags_in, status_in, clean_in, status_of, clean_of, word_with, stamped, with_status, free_row, empty_flash}
use Rattle.state.specs.Facts.{PhaseOk, FlashIdle, FlashSession}
use Rattle.rules.specs.Command.{Command, read, write, commit, stat, close, write_meta, end_job, Out, bytes_after, length_after, commit_fits}
use Rattle.rules.specs.Flash.{with_phase, with_image, with_hash, write_flash, startable, verify_job, update_job, commit_kind, commit_flash, closed_flash, close_flash, verdict, job_ends, on_flash}
use Rattle.rules.proofs.Laws.{cond_has, placed-has}
use Rattle.rules.proofs.Change.{Proper}
use Rattle.guarantees.proofs.AfterJob.{after-job}

-- the phases differ
pub uploading-not-idle : Uploading ≢ Idle
uploading-not-idle e = let z : ◌≡◌ {A = ℕ} 0 1 = cc in omega arith

-- the phases differ
pub verified-not-idle : Verified ≢ Idle
verified-not-idle e = let z : ◌≡◌ {A = ℕ} 0 1 = cc in omega arith

-- the third word of a flash row with another status
module _ (w v : ℕ) (h : w < clean_unit) (hv : v < 4) where
  status-flags : flags_in (word_with (flags_in w) v (clean_in w)) ≡ flags_in w
  status-flags = omega arith

  status-now : status_in (word_with (flags_in w) v (clean_in w)) ≡ v
  status-now = omega arith

  status-small : word_with (flags_in w) v (clean_in w) < clean_unit
  status-small = omega arith

-- an emptied flash is right without a session
pub empty-idle : FlashIdle empty_flash
empty-idle = record { image-fits = omega arith; hash-fits = omega arith; idle-image = λ (h : Idle ≡ Idle). refl; idle-hash = λ (h : Idle ≡ Idle). refl }

module _ (r : Row) (b : FlashBody) (fr : FitsRow r) (fi : length b.image ≡ image_size) (fh : length b.hash ≡ hash_size) (on : r.used ≡ 1) (ses : FlashSession r b) where
  abbrev Fine : Row × FlashBody → Type 0
  Fine c = Proper AtFlash r c.0 b c.1

  abbrev kind : FlashKind
  kind = kind_of (blob_of r)

  abbrev Sized : FlashBody → Type 0
  Sized d = (length d.image ≡ image_size) × (length d.hash ≡ hash_size)

  going : (q : Row) (d : FlashBody) → length q.words ≡ row_words → q.used ≡ 1 → Sized d → id_of q ≡ id_of r → blob_of q ≡ blob_of r → FlashSession q d → Fine (q, d)
  going q d four u fd e0 e1 sq = record {
    row_fits = record { four = four; flag = omega arith };
    body-fits = fd;
    kept = λ (h : q.used ≡ 1). (e0, e1, sq);
    freed = λ (h : q.used ≡ 0). absurd (omega arith);
    named = tt;
  }

  same : Fine (r, b)
  same = going r b fr.four on (fi, fh) refl refl ses

  later : (t : ℕ) (q : Row) (d : FlashBody) → length q.words ≡ row_words → q.used ≡ 1 → Sized d → id_of q ≡ id_of r → blob_of q ≡ blob_of r → FlashSession q d → Fine (stamped t q, d)
  later t q d four u fd e0 e1 sq =
      going (stamped t q) d (length-set q.words 3 v ∙ four) u fd (at 0 (omega arith) ∙ e0) (at 1 (omega arith) ∙ e1)
      (rw (at 0 (omega arith), at 1 (omega arith), at 2 (omega arith)) sq)
    where
      v : ℕ
      v = max (stamp_of q) t

      at : (j : ℕ) → j ≢ 3 → get_or (set q.words 3 v) j 0 ≡ get_or q.words j 0
      at j n = get_or-set_other q.words 3 j v 0 n

  -- the same row with another body
  rebodied : (t : ℕ) (d : FlashBody) → Sized d → PhaseOk kind (status_of r) d.phase → FlashIdle d → Fine (stamped t r, d)
  rebodied t d fd ph fl = later t r d fr.four on fd refl refl
      (record { id-small = ses.id-small; is-flash = ses.is-flash; a-kind = ses.a-kind; flags = ses.flags; rest-zero = ses.rest-zero; phased = ph; lengths = fl })

  touched : (t : ℕ) → Fine (stamped t r, b)
  touched t = rebodied t b (fi, fh) ses.phased ses.lengths

  -- another status
  abbrev word : ℕ → ℕ
  word v = word_with (flags_in (word_of r)) v (clean_of r)

  at_set : (v j : ℕ) → j ≢ 2 → get_or (with_status v r).words j 0 ≡ get_or r.words j 0
  at_set v j n = get_or-set_other r.words 2 j (word v) 0 n

  set-facts : (v : ℕ) (d : FlashBody) → v < 4 → PhaseOk kind v d.phase → FlashIdle d → FlashSession (with_status v r) d
  set-facts v d h ph fl =
      rw (at_set v 0 (omega arith), at_set v 1 (omega arith), get_or-set_same r.words 2 (word v) 0 (let f = fr.four in omega arith))
      (record {
        id-small = ses.id-small;
        is-flash = ses.is-flash;
        a-kind = ses.a-kind;
        flags = status-flags (word_of r) v ses.rest-zero h ∙ ses.flags;
        rest-zero = status-small (word_of r) v ses.rest-zero h;
        phased = rw (status-now (word_of r) v ses.rest-zero h) ph;
        lengths = fl;
      })

  set-four : (v : ℕ) → length (with_status v r).words ≡ row_words
  set-four v = length-set r.words 2 (word v) ∙ fr.four

  restated : (t v : ℕ) (d : FlashBody) → v < 4 → Sized d → PhaseOk kind v d.phase → FlashIdle d → Fine (stamped t (with_status v r), d)
  restated t v d h fd ph fl = later t (with_status v r) d (set-four v) on fd (at_set v 0 (omega arith)) (at_set v 1 (omega arith)) (set-facts v d h ph fl)

  ended : (d : FlashBody) → Sized d → FlashIdle d → Fine (free_row, d)
  ended d fd fl = record {
    row_fits = record { four = refl; flag = omega arith };
    body-fits = fd;
    kept = λ (h : ◌≡◌ {A = ℕ} 0 1). absurd (omega arith);
    freed = λ (h : ◌≡◌ {A = ℕ} 0 0). (refl, fl);
    named = tt;
  }

  empty-sized : Sized empty_flash
  empty-sized = (length-replicate {A = ℕ} image_size 0, length-replicate {A = ℕ} hash_size 0)

  moved : (p : Phase) → p ≢ Idle → FlashIdle (with_phase p b)
  moved p n = record { image-fits = ses.lengths.image-fits; hash-fits = ses.lengths.hash-fits; idle-image = λ (h : p ≡ Idle). absurd (n h); idle-hash = λ (h : p ≡ Idle). absurd (n h) }

  on-image : (ws : List ℕ) (t i : ℕ) → b.phase ≡ Uploading → i + length ws ≤ image_size → Fine (stamped t r, with_image (bytes_after i ws b.image) (length_after i ws b.image_len) b)
  on-image ws t i up h =
      let g : b.image_len ≤ image_size = ses.lengths.image-fits in
      rebodied t (with_image (bytes_after i ws b.image) (length_after i ws b.image_len) b) (length-sets b.image i ws ∙ fi, fh) ses.phased
      (record {
        image-fits = omega arith;
        hash-fits = ses.lengths.hash-fits;
        idle-image = λ (e : b.phase ≡ Idle). absurd (uploading-not-idle (sym up ∙ e));
        idle-hash = ses.lengths.idle-hash;
      })

  on-hash : (ws : List ℕ) (t i : ℕ) → b.phase ≡ Uploading → i + length ws ≤ hash_size → Fine (stamped t r, with_hash (bytes_after i ws b.hash) (length_after i ws b.hash_len) b)
  on-hash ws t i up h =
      let g : b.hash_len ≤ hash_size = ses.lengths.hash-fits in
      rebodied t (with_hash (bytes_after i ws b.hash) (length_after i ws b.hash_len) b) (fi, length-sets b.hash i ws ∙ fh) ses.phased
      (record {
        image-fits = ses.lengths.image-fits;
        hash-fits = omega arith;
        idle-image = ses.lengths.idle-image;
        idle-hash = λ (e : b.phase ≡ Idle). absurd (uploading-not-idle (sym up ∙ e));
      })

  on-write : (k : FlashKind) (ws : List ℕ) (t i : ℕ) → PhaseOk k (status_of r) b.phase → Fine (write_flash k t i ws r b).1
  unfolding write_flash
  on-write Image ws t i ph =
      placed-has image_size b.image_len i (length ws) r b _ (λ (o : Out FlashBody). Fine o.1) (λ (h : i ≤ b.image_len) (l : i + length ws ≤ image_size). on-image ws t i ph.1 l) (λ (code : ℕ). same)
  on-write Hash ws t i ph =
      placed-has hash_size b.hash_len i (length ws) r b _ (λ (o : Out FlashBody). Fine o.1) (λ (h : i ≤ b.hash_len) (l : i + length ws ≤ hash_size). on-hash ws t i ph.1 l) (λ (code : ℕ). same)
  on-write Verify ws t i ph = same
  on-write Update ws t i ph = same
  on-write Cleanup ws t i ph = same

  on-verify : (y : Bool) (t : ℕ) → kind ≡ Verify → Fine (verify_job y t r b).1
  unfolding verify_job
  on-verify false t k = touched t
  on-verify true t k = restated t 1 (with_phase Uploading b) (omega arith) (fi, fh)
      (subst (λ (x : FlashKind). PhaseOk x 1 Uploading) (sym k) (uploading-not-idle, λ (h : ◌≢◌ {A = ℕ} 1 0). refl)) (moved Uploading uploading-not-idle)

  on-update : (y : Bool) (t : ℕ) → kind ≡ Update → b.phase ≡ Verified → Fine (update_job y t r b).1
  unfolding update_job
  on-update false t k v = touched t
  on-update true t k v = restated t 1 b (omega arith) (fi, fh) (subst (λ (x : FlashKind). PhaseOk x 1 b.phase) (sym k) v) ses.lengths

  on-commit-kind : (k : FlashKind) (t : ℕ) → kind ≡ k → PhaseOk k (status_of r) b.phase → Fine (commit_kind k t r b).1
  unfolding commit_kind
  on-commit-kind Image t e ph = same
  on-commit-kind Hash t e ph = same
  on-commit-kind Verify t e ph = on-verify (startable r) t e
  on-commit-kind Update t e ph = on-update (startable r) t e ph
  on-commit-kind Cleanup t e ph = restated t 2 empty_flash (omega arith) empty-sized
      (subst (λ (x : FlashKind). PhaseOk x 2 Idle) (sym e) (refl, λ (h : ◌≡◌ {A = ℕ} 2 2). refl)) empty-idle

  on-commit : (y : Bool) (t : ℕ) → Fine (commit_flash y kind t r b).1
  unfolding commit_flash
  on-commit true t = on-commit-kind kind t refl ses.phased
  on-commit false t = same

  abbrev Ends : FlashBody → Type 0
  Ends d = Sized d × FlashIdle d

  ends-kind : (k : FlashKind) (st : ℕ) → Ends (closed_flash k st b)
  unfolding closed_flash
  ends-kind Image st = ((fi, fh), ses.lengths)
  ends-kind Hash st = ((fi, fh), ses.lengths)
  ends-kind Verify st = cond_has Ends (eqb st 2) (with_phase Verified b) (cond (eqb st 3) (with_phase Uploading b) b) ((fi, fh), moved Verified verified-not-idle)
      (cond_has Ends (eqb st 3) (with_phase Uploading b) b ((fi, fh), moved Uploading uploading-not-idle) ((fi, fh), ses.lengths))
  ends-kind Update st = cond_has Ends (eqb st 2) empty_flash (cond (eqb st 3) (with_phase Uploading b) b) (empty-sized, empty-idle)
      (cond_has Ends (eqb st 3) (with_phase Uploading b) b ((fi, fh), moved Uploading uploading-not-idle) ((fi, fh), ses.lengths))
  ends-kind Cleanup st = ((fi, fh), ses.lengths)

  on-close : (y : Bool) → Fine (close_flash y kind r b).1
  unfolding close_flash
  on-close true = same
  on-close false = let e = ends-kind kind (status_of r) in ended (closed_flash kind (status_of r) b) e.0 e.1

  verdict-small : (g : Bool) → verdict g < 4
  verdict-small true = omega arith
  verdict-small false = omega arith

  on-job : (y g : Bool) → eqb (status_of r) 1 ≡ y → Fine (job_ends y g r b).1
  unfolding job_ends
  on-job true g q =
      going (with_status (verdict g) r) b (set-four (verdict g)) on (fi, fh) (at_set (verdict g) 0 (omega arith)) (at_set (verdict g) 1 (omega arith))
      (set-facts (verdict g) b (verdict-small g) (after-job r b kind g (eqb-true (status_of r) 1 q) ses.phased) ses.lengths)
  on-job false g q = same

  -- every command
  pub proper-flash : (t : ℕ) (c : Command) → Fine (on_flash kind t c r b).1
  unfolding on_flash
  proper-flash t (read i n) = same
  proper-flash t (write i ws) = on-write kind ws t i ses.phased
  proper-flash t (commit n l) = on-commit (commit_fits n l) t
  proper-flash t stat = touched t
  proper-flash t close = on-close (eqb (status_of r) running)
  proper-flash t write_meta = same
  proper-flash t (end_job g) = on-job (eqb (status_of r) running) g refl
