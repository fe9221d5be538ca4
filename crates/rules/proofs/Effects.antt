-- What each command leaves, spelled out part by part: what a rule says of a command is stated here without the definition that carries the rule, so that a slip in one of the two is refused. Assumes nothing.
use Rattle.std.specs.Prelude.{◌≡◌, Bool, true, ℕ, ◌+◌, ◌≤◌, ◌<◌, max, length, get_or, replicate, ◌≢◌}
use Rattle.std.proofs.Math.Path.{refl, ap}
use Rattle.std.proofs.Common.{sym, ◌∙◌, subst, arith, get_or-set_same, get_or-set_other, eq-eqb, ne_eqb}
use mathlib.Core.List.{List, [], ◌∷◌}
use Rattle.laws.specs.Bytes.{padded}
use Rattle.laws.specs.Ranges.{part, part-sets, part-sets-below, part-sets-above, get_d_part}
use Rattle.protocol.specs.Numbers.{row_words, name_size, slot_size, image_size, hash_size, read_only, read_write, succeeded, failed}
use Rattle.protocol.specs.Frame.{done}
use Rattle.protocol.specs.declared.FlashKind.TheVariants.{Image, Hash, Verify, Update, Cleanup}
use Rattle.state.specs.declared.Phase.TheVariants.{Idle, Uploading, Verified}
use Rattle.state.specs.State.{Row, Slot, FlashBody}
use Rattle.state.specs.Words.{word_of, stamp_of, flags_in, status_of, clean_in, clean_of, word_with, writes, stamped, with_clean, with_status, free_row, clean-with}
use Rattle.rules.specs.Command.{write, commit, close, bytes_after, length_after, Out}
use Rattle.rules.specs.Store.{stored, write_store, closed_writing, closed_slot, on_store}
use Rattle.rules.specs.Flash.{write_flash, commit_kind, commit_flash, closed_flash, on_flash}
use Rattle.rules.specs.Opening.{new_slot, held_slot, opened_flash}
use Rattle.rules.proofs.Laws.{placed-fits}
use Rattle.rules.proofs.Committed.{commits}

-- ---- Write
-- a region and a length, before and after a Write of ws at an offset: the addressed bytes are the message's, all others stay (rule 11.3); the length grows to the end, and never shrinks (rule 11.4)
pub record Wrote (offset : ℕ) (ws before after : List ℕ) (len len' : ℕ) : Type 0 where
  pub inside : (j : ℕ) → j < length ws → get_or after (offset + j) 0 ≡ get_or ws j 0
  pub below : (i : ℕ) → i < offset → get_or after i 0 ≡ get_or before i 0
  pub above : (i : ℕ) → offset + length ws ≤ i → get_or after i 0 ≡ get_or before i 0
  pub grows : len ≤ offset + length ws → len' ≡ offset + length ws
  pub stays : offset + length ws ≤ len → len' ≡ len

one_byte : (l : List ℕ) (i : ℕ) → get_or (part i 1 l) 0 0 ≡ get_or l i 0
one_byte l i = get_d_part i 1 0 l 0 (omega arith) ∙ ap (λ (k : ℕ). get_or l k 0) (omega arith)

wrote : (offset : ℕ) (ws region : List ℕ) (len : ℕ) → offset + length ws ≤ length region → Wrote offset ws region (bytes_after offset ws region) len (length_after offset ws len)
wrote offset ws region len fits = record {
  inside = λ (j : ℕ) (h : j < length ws). sym (get_d_part offset (length ws) j (bytes_after offset ws region) 0 h) ∙ ap (λ (l : List ℕ). get_or l j 0) (part-sets ws region offset fits);
  below = λ (i : ℕ) (h : i < offset). sym (one_byte (bytes_after offset ws region) i) ∙ ap (λ (l : List ℕ). get_or l 0 0) (part-sets-above ws region i 1 offset (omega arith)) ∙ one_byte region i;
  above = λ (i : ℕ) (h : offset + length ws ≤ i). sym (one_byte (bytes_after offset ws region) i) ∙ ap (λ (l : List ℕ). get_or l 0 0) (part-sets-below ws region i 1 offset h) ∙ one_byte region i;
  grows = λ (h : len ≤ offset + length ws). omega arith;
  stays = λ (h : offset + length ws ≤ len). omega arith;
}

-- clean as it was set, whatever the stamp
clean_after : (t v : ℕ) (r : Row) → length r.words ≡ row_words → v < 2 → clean_of (stamped t (with_clean v r)) ≡ v
clean_after t v r four small =
    ap clean_in
    (get_or-set_other (with_clean v r).words 3 2 (max (stamp_of (with_clean v r)) t) 0 (omega arith) ∙ get_or-set_same r.words 2 (word_with (flags_in (word_of r)) (status_of r) v) 0 (omega arith))
    ∙ clean-with (flags_in (word_of r)) (status_of r) v (omega arith) (omega arith) small

-- a Write that fits is stored, of a store session that writes
pub write-accepted : (t offset : ℕ) (ws : List ℕ) (r : Row) (b : Slot) → writes r ≡ true → offset ≤ b.staged_len → offset + length ws ≤ slot_size
    → on_store t (write offset ws) r b ≡ stored t offset ws r b
unfolding on_store write_store
write-accepted t offset ws r b w at fits =
    ap (λ (y : Bool). write_store y t offset ws r b) w ∙ placed-fits slot_size b.staged_len offset (length ws) r b (stored t offset ws r b) at fits

-- of such a session, where offset and end fit
module _ (t offset : ℕ) (r : Row) (b : Slot) (w : writes r ≡ true) (at : offset ≤ b.staged_len) (long : length b.staged_bytes ≡ slot_size) where
  accepted : (ws : List ℕ) → offset + length ws ≤ slot_size → on_store t (write offset ws) r b ≡ stored t offset ws r b
  accepted ws fits = write-accepted t offset ws r b w at fits

  stored-wrote : (ws : List ℕ) → offset + length ws ≤ slot_size → Wrote offset ws b.staged_bytes (stored t offset ws r b).1.1.staged_bytes b.staged_len (stored t offset ws r b).1.1.staged_len
  unfolding stored
  stored-wrote [] fits = record {
    inside = λ (j : ℕ) (h : j < 0). absurd (omega arith);
    below = λ _ _. refl;
    above = λ _ _. refl;
    grows =
        λ (h : b.staged_len ≤ offset + 0). omega arith;
    stays = λ _. refl;
  }
  stored-wrote (x ∷ ws) fits = wrote offset (x ∷ ws) b.staged_bytes b.staged_len (omega arith)

  stored-done : (ws : List ℕ) → (stored t offset ws r b).0 ≡ done
  unfolding stored
  stored-done [] = refl
  stored-done (x ∷ ws) = refl

  -- A WRITE STORES ITS BYTES AND NOTHING ELSE (rules 11.3 and 11.4)
  pub write-stores : (ws : List ℕ) → offset + length ws ≤ slot_size
      → ((on_store t (write offset ws) r b).0 ≡ done) × Wrote offset ws b.staged_bytes (on_store t (write offset ws) r b).1.1.staged_bytes
      b.staged_len (on_store t (write offset ws) r b).1.1.staged_len
  write-stores ws fits = (
    ap (λ (o : Out Slot). o.0) (accepted ws fits) ∙ stored-done ws,
    subst (λ (o : Out Slot). Wrote offset ws b.staged_bytes o.1.1.staged_bytes b.staged_len o.1.1.staged_len) (sym (accepted ws fits)) (stored-wrote ws fits),
  )

  -- one byte or more clears clean (rule 11.5)
  pub write-unclean : (x : ℕ) (ws : List ℕ) → offset + length (x ∷ ws) ≤ slot_size → length r.words ≡ row_words → clean_of (on_store t (write offset (x ∷ ws)) r b).1.0 ≡ 0
  unfolding stored
  write-unclean x ws fits four = ap (λ (o : Out Slot). clean_of o.1.0) (accepted (x ∷ ws) fits) ∙ clean_after t 0 r four (omega arith)

-- of the image and of the hash
module _ (t offset : ℕ) (ws : List ℕ) (r : Row) (b : FlashBody) where
  pub image-stores : offset ≤ b.image_len → offset + length ws ≤ image_size → length b.image ≡ image_size
      → ((on_flash Image t (write offset ws) r b).0 ≡ done) × Wrote offset ws b.image (on_flash Image t (write offset ws) r b).1.1.image b.image_len
      (on_flash Image t (write offset ws) r b).1.1.image_len
  unfolding on_flash write_flash
  image-stores at fits long = rw (placed-fits image_size b.image_len offset (length ws) r b _ at fits) (refl, wrote offset ws b.image b.image_len (omega arith))

  pub hash-stores : offset ≤ b.hash_len → offset + length ws ≤ hash_size → length b.hash ≡ hash_size
      → ((on_flash Hash t (write offset ws) r b).0 ≡ done) × Wrote offset ws b.hash (on_flash Hash t (write offset ws) r b).1.1.hash b.hash_len (on_flash Hash t (write offset ws) r b).1.1.hash_len
  unfolding on_flash write_flash
  hash-stores at fits long = rw (placed-fits hash_size b.hash_len offset (length ws) r b _ at fits) (refl, wrote offset ws b.hash b.hash_len (omega arith))

-- ---- Commit of a store session: it is clean then (rule 12.3)
pub commit-cleans : (t : ℕ) (r : Row) (b : Slot) → writes r ≡ true → length r.words ≡ row_words → clean_of (on_store t (commit 0 0) r b).1.0 ≡ 1
commit-cleans t r b w four = ap (λ (o : Out Slot). clean_of o.1.0) (commits t r b w) ∙ clean_after t 1 r four (omega arith)

-- of cleanup: image and hash, bytes and lengths, are zero, the phase is Idle, and it has succeeded (rule 12.6)
pub cleanup-empties : (t : ℕ) (r : Row) (b : FlashBody) → on_flash Cleanup t (commit 0 0) r b
    ≡ (done, (stamped t (with_status succeeded r), record { phase = Idle; image = replicate image_size 0; hash = replicate hash_size 0; image_len = 0; hash_len = 0 }))
unfolding on_flash commit_flash commit_kind
cleanup-empties t r b = refl

-- ---- Close of a store session that writes
-- nothing is staged any more (rule 13.4)
pub close-unstages : (t : ℕ) (r : Row) (b : Slot) → writes r ≡ true → b.mark ≡ 1 → on_store t close r b
    ≡ (
      done,
      (
        free_row,
        record {
          name = b.name;
          committed_bytes = b.committed_bytes;
          staged_bytes = replicate slot_size 0;
          held = b.held;
          mark =
              b.mark;
          committed_len = b.committed_len;
          staged_len = 0;
        },
      ),
    )
unfolding on_store closed_slot closed_writing
close-unstages t r b w m = ap (λ (y : Bool). (done, (free_row, closed_slot y b))) w ∙ ap (λ (y : Bool). (done, (free_row, closed_writing y b))) (eq-eqb b.mark 1 m)

-- and a slot that was never committed is free, zero in all its parts (rule 13.5)
pub close-forgets : (t : ℕ) (r : Row) (b : Slot) → writes r ≡ true → b.mark ≢ 1 → on_store t close r b
    ≡ (done, (free_row, record { name = replicate name_size 0; committed_bytes = replicate slot_size 0; staged_bytes = replicate slot_size 0; held = 0; mark = 0; committed_len = 0; staged_len = 0 }))
unfolding on_store closed_slot closed_writing
close-forgets t r b w m = ap (λ (y : Bool). (done, (free_row, closed_slot y b))) w ∙ ap (λ (y : Bool). (done, (free_row, closed_writing y b))) (ne_eqb b.mark 1 m)

-- ---- Close of the flash session
-- what is left of the flash b where the job of a session on this name has this status: verify (rule 13.6), update (rule 13.7), the others (rule 13.8)
pub record Closes (b : FlashBody) : Type 0 where
  pub verified : closed_flash Verify succeeded b ≡ record { phase = Verified; image = b.image; hash = b.hash; image_len = b.image_len; hash_len = b.hash_len }
  pub verify-failed : closed_flash Verify failed b ≡ record { phase = Uploading; image = b.image; hash = b.hash; image_len = b.image_len; hash_len = b.hash_len }
  pub verify-left : (status : ℕ) → status ≢ succeeded → status ≢ failed → closed_flash Verify status b ≡ b
  pub updated : closed_flash Update succeeded b ≡ record { phase = Idle; image = replicate image_size 0; hash = replicate hash_size 0; image_len = 0; hash_len = 0 }
  pub update-failed : closed_flash Update failed b ≡ record { phase = Uploading; image = b.image; hash = b.hash; image_len = b.image_len; hash_len = b.hash_len }
  pub update-left : (status : ℕ) → status ≢ succeeded → status ≢ failed → closed_flash Update status b ≡ b
  pub image-left : (status : ℕ) → closed_flash Image status b ≡ b
  pub hash-left : (status : ℕ) → closed_flash Hash status b ≡ b
  pub cleanup-left : (status : ℕ) → closed_flash Cleanup status b ≡ b

pub flash-closes : (b : FlashBody) → Closes b
unfolding closed_flash
flash-closes b = record {
  verified = refl;
  verify-failed = refl;
  verify-left = λ (status : ℕ) (m : status ≢ succeeded) (n : status ≢ failed). rw (ne_eqb status succeeded m, ne_eqb status failed n);
  updated = refl;
  update-failed = refl;
  update-left = λ (status : ℕ) (m : status ≢ succeeded) (n : status ≢ failed). rw (ne_eqb status succeeded m, ne_eqb status failed n);
  image-left = λ _. refl;
  hash-left = λ _. refl;
  cleanup-left = λ _. refl;
}

-- ---- Open
-- what it leaves of the flash b (rule 9.13), and of a slot (rules 9.10 to 9.12)
pub record Begins (b : FlashBody) (d : Slot) (n : List ℕ) : Type 0 where
  pub image : opened_flash Image b ≡ record { phase = Uploading; image = replicate image_size 0; hash = b.hash; image_len = 0; hash_len = b.hash_len }
  pub hash : opened_flash Hash b ≡ record { phase = Uploading; image = b.image; hash = replicate hash_size 0; image_len = b.image_len; hash_len = 0 }
  pub verify : opened_flash Verify b ≡ b
  pub update : opened_flash Update b ≡ b
  pub cleanup : opened_flash Cleanup b ≡ b
  pub reader : held_slot read_only d ≡ d
  pub writer : held_slot read_write d
      ≡ record { name = d.name; committed_bytes = d.committed_bytes; staged_bytes = d.committed_bytes; held = d.held; mark = d.mark; committed_len = d.committed_len; staged_len = d.committed_len }
  pub new : new_slot n
      ≡ record { name = padded name_size n; committed_bytes = replicate slot_size 0; staged_bytes = replicate slot_size 0; held = 1; mark = 0; committed_len = 0; staged_len = 0 }

pub open-begins : (b : FlashBody) (d : Slot) (n : List ℕ) → Begins b d n
unfolding opened_flash
open-begins b d n = record { image = refl; hash = refl; verify = refl; update = refl; cleanup = refl; reader = refl; writer = refl; new = refl }
