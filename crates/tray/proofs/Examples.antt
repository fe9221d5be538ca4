-- Trays that are opened and closed in one call, with room for both, for one and for none; one with a refused message; and trays that are refused. Assumes nothing.
use Rattle.std.specs.Prelude.{◌≡◌, refl, true, ℕ, zero, suc, ◌-◌, ◌≤◌, ◌<◌, length, take, drop, replicate}
use Rattle.std.proofs.Common.{sym, ◌∙◌, ap, arith}
use mathlib.Core.List.{List, [], ◌∷◌, ◌++◌, flat_map}
use Rattle.laws.specs.All.{all}
use Rattle.laws.specs.Bytes.{little, bytes_of, same, first_zero}
use Rattle.crc.specs.Crc.{shift, shifts, byte_step, crc_from}
use Rattle.protocol.specs.Numbers.{success, wrong_length, too_long, write_only, answer_size}
use Rattle.protocol.specs.Names.{base, flash_folder, flash_word, name_form, blob_named, store_name}
use Rattle.protocol.specs.Decode.{decoded, asked, body_fits, crc_fits, with_name, number_of, refused_with}
use Rattle.protocol.specs.Frame.{Reply, refused, done, reply, framed}
use Rattle.protocol.specs.declared.FlashKind.TheVariants.{Image}
use Rattle.protocol.specs.declared.Blob.TheVariants.{Flash}
use Rattle.protocol.specs.declared.Request.{Request}
use Rattle.protocol.specs.declared.Request.TheVariants.{Open, Close}
use Rattle.state.specs.State.{State}
use Rattle.state.specs.Words.{fresh}
use Rattle.state.specs.Soundness.{is_sound}
use Rattle.state.proofs.Fresh.{fresh-sound}
use Rattle.rules.specs.Respond.{Effect, effect_of, answered, respond}
use Rattle.rules.proofs.Laws.{respond-is}
use Rattle.guarantees.proofs.Keep.{respond-sound}
use Rattle.guarantees.proofs.FlashHistory.{image_open, image_closed, opens-image, closes-image}
use Rattle.records.specs.Records.{Timed, requests_in, bytes_in}
use Rattle.records.proofs.Samples.{empty_record, open_message, open_record, close_message, close_record}
use Rattle.tray.specs.Tray.{tray_most, messages_in, tray_form, Done, done_first, done_in, tray_done, tray}
use Rattle.tray.proofs.Steps.{done_none, done_full, done-one}
use Rattle.tray.proofs.Call.{as_found, accepted-is, tray-done, tray-codes, refused-tray}
use Rattle.tray.proofs.GoingOn.{sent_singly, reaches_end}
use Rattle.tray.proofs.GoingOnIs.{going_on, together}

-- ---- the messages
-- an Open and the Close of its session, in one tray
abbrev pub open_and_close : List ℕ
open_and_close = open_record ++ close_record

-- ---- their answers
abbrev pub open_response : List ℕ
open_response = 0xCF ∷ 0xC2 ∷ 0x00 ∷ 0x02 ∷ 0xC0 ∷ 0x84 ∷ 0x00 ∷ 0x00 ∷ []

abbrev pub close_response : List ℕ
close_response = 0xCF ∷ 0xC2 ∷ 0x00 ∷ 0x06 ∷ []

-- what the Open does on the fresh state, and the Close behind it
abbrev open_effect : Effect
open_effect = record { code = success; response = open_response; state = image_open }

abbrev close_effect : Effect
close_effect = record { code = success; response = close_response; state = image_closed }

-- what a message of no bytes does
abbrev no_effect : State → Effect
no_effect s = record { code = wrong_length; response = []; state = s }

-- a message that asks q, on a sound state
responds : (t : ℕ) (m : List ℕ) (s : State) (q : Request) (x : Reply) (y : State) → is_sound s ≡ true → decoded m ≡ q → answered q t m s ≡ (x, y) → respond t m s ≡ effect_of (framed (number_of q) x) y
responds t m s q x y h d e =
    respond-is t m s h
    ∙ ap (λ (r : Request). effect_of (framed (number_of r) (answered r t m s).0) (answered r t m s).1) d
    ∙ ap (λ (z : Reply × State). effect_of (framed (number_of q) z.0) z.1) e

opens : decoded open_message ≡ Open write_only (Flash Image)
unfolding decoded same all body_fits crc_fits asked with_name name_form first_zero blob_named store_name base flash_folder flash_word little crc_from byte_step shifts shift
opens = refl

closes : decoded close_message ≡ Close 0
unfolding decoded same all body_fits crc_fits asked little crc_from byte_step shifts shift
closes = refl

opened : respond 1 open_message fresh ≡ open_effect
unfolding framed bytes_of crc_from byte_step shifts shift
opened = responds 1 open_message fresh (Open write_only (Flash Image)) (reply (bytes_of 2 0)) image_open fresh-sound opens (opens-image open_message)

open-sound : is_sound image_open ≡ true
open-sound = ap (λ (o : Effect). is_sound o.state) (sym opened) ∙ respond-sound 1 open_message fresh fresh-sound

closed : respond 2 close_message image_open ≡ close_effect
unfolding framed
closed = responds 2 close_message image_open (Close 0) done image_closed open-sound closes (closes-image close_message)

-- a message of no bytes is C7, on every sound state
empty-refused : (t : ℕ) (s : State) → is_sound s ≡ true → respond t [] s ≡ no_effect s
unfolding decoded same all answered framed
empty-refused t s h = responds t [] s (refused_with wrong_length) (refused wrong_length) s h refl refl

-- ---- one message more
more : (free t : ℕ) (m : List ℕ) (qs : List Timed) (s : State) (o : Effect) → respond t m s ≡ o → answer_size ≤ free
    → done_in free ((t, m) ∷ qs) s ≡ done_first o (done_in (free - length o.response) qs o.state)
more free t m qs s o e h = done-one free (t, m) qs s h ∙ ap (λ (x : Effect). done_first x (done_in (free - length x.response) qs x.state)) e

-- ---- the trays
-- a tray with the messages qs, on the fresh state
ran : (b a w : List ℕ) (qs : List Timed) (d : Done) → tray_form b ≡ success → messages_in b ≡ qs → length w ≡ tray_most → done_in (length a) qs fresh ≡ d → tray b fresh a w ≡ tray_done d a w
ran b a w qs d f e l h =
    tray-done b fresh a w ((accepted-is b fresh w).1 ((fresh-sound, l), f))
    ∙ ap (λ (x : List Timed). tray_done (done_in (length a) x fresh) a w) e
    ∙ ap (λ (x : Done). tray_done x a w) h

both-form : tray_form open_and_close ≡ success
unfolding tray_form requests_in bytes_in
both-form = refl

both-messages : messages_in open_and_close ≡ (1, open_message) ∷ (2, close_message) ∷ []
unfolding requests_in little
both-messages = refl

-- what both do, with room for both
both-done : (free : ℕ) → 72 ≤ free
    → done_in free ((1, open_message) ∷ (2, close_message) ∷ []) fresh ≡ record { results = 2048 ∷ 1024 ∷ []; responses = open_response ++ close_response; state = image_closed }
both-done free h =
    more free 1 open_message ((2, close_message) ∷ []) fresh open_effect opened (omega arith)
    ∙ ap (done_first open_effect)
    (more (free - 8) 2 close_message [] image_open close_effect closed (omega arith)
    ∙ ap (done_first close_effect) (done_none (free - 8 - 4) image_closed))

-- 72 FREE BYTES: both are done, with the results 00 and 8 bytes, 00 and 4 bytes; the responses `CF C2 00 02 C0 84 00 00` and `CF C2 00 06` stand end to end (rules 30.5 and 30.6)
pub room-for-both : (a w : List ℕ) → 72 ≤ length a → length w ≡ tray_most → tray open_and_close fresh a w ≡ record {
  code = success;
  done = 2;
  len = 12;
  state = image_closed;
  responses = 0xCF ∷ 0xC2 ∷ 0x00 ∷ 0x02 ∷ 0xC0 ∷ 0x84 ∷ 0x00 ∷ 0x00 ∷ 0xCF ∷ 0xC2 ∷ 0x00 ∷ 0x06 ∷ drop 12 a;
  results = 2048 ∷ 1024 ∷ drop 2 w;
}
room-for-both a w h l = ran open_and_close a w _ _ both-form both-messages l (both-done (length a) h)

-- 64 TO 71: the Open leaves fewer than 64, and the call stops there (rule 30.7)
pub room-for-one : (a w : List ℕ) → 64 ≤ length a → length a < 72 → length w ≡ tray_most → tray open_and_close fresh a w ≡ record {
  code = success;
  done = 1;
  len = 8;
  state = image_open;
  responses = 0xCF ∷ 0xC2 ∷ 0x00 ∷ 0x02 ∷ 0xC0 ∷ 0x84 ∷ 0x00 ∷ 0x00 ∷ drop 8 a;
  results = 2048 ∷ drop 1 w;
}
room-for-one a w h g l =
    ran open_and_close a w _ _ both-form both-messages l
    (more (length a) 1 open_message ((2, close_message) ∷ []) fresh open_effect opened h
    ∙ ap (done_first open_effect) (done_full (length a - 8) ((2, close_message) ∷ []) image_open (omega arith)))

-- FEWER THAN 64: nothing is done, and the code is 00 (rule 30.7)
pub room-for-none : (a w : List ℕ) → length a < 64 → length w ≡ tray_most → tray open_and_close fresh a w ≡ as_found success fresh a w
room-for-none a w h l = ran open_and_close a w _ _ both-form both-messages l (done_full (length a) ((1, open_message) ∷ (2, close_message) ∷ []) fresh h)

-- one message, and single calls behind it
sent-first : (t : ℕ) (m : List ℕ) (qs : List Timed) (s : State) (o : Effect) → respond t m s ≡ o → sent_singly ((t, m) ∷ qs) s ≡ done_first o (sent_singly qs o.state)
unfolding flat_map
sent-first t m qs s o e = ap (λ (x : Effect). done_first x (sent_singly qs x.state)) e

-- IN TWO CALLS, with 64 bytes each: the first does the Open and stops, or both; together they do both (rule 21.33)
pub in-two-calls : (a w c v : List ℕ) → 64 ≤ length a → 64 ≤ length c → length w ≡ tray_most → length v ≡ tray_most
    → together (going_on ((a, w) ∷ (c, v) ∷ []) open_and_close fresh) fresh ≡ record { results = 2048 ∷ 1024 ∷ []; responses = open_response ++ close_response; state = image_closed }
unfolding flat_map
in-two-calls a w c v ha hc hw hv =
    reaches_end ((a, w) ∷ (c, v) ∷ []) open_and_close fresh fresh-sound both-form (hw, (hv, tt)) (ha, (hc, tt)) (omega (arith, ap length both-messages))
    ∙ ap (λ (qs : List Timed). sent_singly qs fresh) both-messages
    ∙ sent-first 1 open_message ((2, close_message) ∷ []) fresh open_effect opened
    ∙ ap (done_first open_effect) (sent-first 2 close_message [] image_open close_effect closed)

three-form : tray_form (empty_record ++ open_and_close) ≡ success
unfolding tray_form requests_in bytes_in
three-form = refl

three-messages : messages_in (empty_record ++ open_and_close) ≡ (0, []) ∷ (1, open_message) ∷ (2, close_message) ∷ []
unfolding requests_in little
three-messages = refl

-- A REFUSED MESSAGE IN FRONT, of no bytes, is C7 without response, and those behind it are done (rule 30.4)
pub refused-in-front : (a w : List ℕ) → 72 ≤ length a → length w ≡ tray_most → tray (empty_record ++ open_and_close) fresh a w ≡ record {
  code = success;
  done = 3;
  len = 12;
  state = image_closed;
  responses = 0xCF ∷ 0xC2 ∷ 0x00 ∷ 0x02 ∷ 0xC0 ∷ 0x84 ∷ 0x00 ∷ 0x00 ∷ 0xCF ∷ 0xC2 ∷ 0x00 ∷ 0x06 ∷ drop 12 a;
  results = 0xC7 ∷ 2048 ∷ 1024 ∷ drop 3 w;
}
refused-in-front a w h l =
    ran (empty_record ++ open_and_close) a w _ _ three-form three-messages l
    (more (length a) 0 [] ((1, open_message) ∷ (2, close_message) ∷ []) fresh (no_effect fresh) (empty-refused 0 fresh fresh-sound) (omega arith)
    ∙ ap (done_first (no_effect fresh)) (both-done (length a - 0) (omega arith)))

-- so many messages of no bytes
none_done : (n free : ℕ) (s : State) → is_sound s ≡ true → answer_size ≤ free → done_in free (replicate n (0, [])) s ≡ record { results = replicate n 0xC7; responses = []; state = s }
none_done zero free s h l = done_none free s
none_done (suc n) free s h l = more free 0 [] (replicate n (0, [])) s (no_effect s) (empty-refused 0 s h) l ∙ ap (done_first (no_effect s)) (none_done n (free - 0) s h (omega arith))

full-form : tray_form (replicate 320 0) ≡ success
unfolding tray_form requests_in bytes_in
full-form = refl

full-messages : messages_in (replicate 320 0) ≡ replicate 64 (0, [])
unfolding requests_in little
full-messages = refl

-- 64 RECORDS ARE A TRAY: all of them messages of no bytes, and each is answered C7 (rule 30.1)
pub sixty-four : (a w : List ℕ) → 64 ≤ length a → length w ≡ tray_most
    → tray (replicate 320 0) fresh a w ≡ record { code = success; done = 64; len = 0; state = fresh; responses = a; results = replicate 64 0xC7 ++ drop 64 w }
sixty-four a w h l = ran (replicate 320 0) a w _ _ full-form full-messages l (none_done 64 (length a) fresh fresh-sound h)

-- ---- refused trays
refused-with : (b a w : List ℕ) (s : State) (c : ℕ) → (tray b s a w).code ≡ c → 0 < c → tray b s a w ≡ as_found c s a w
refused-with b a w s c e n = refused-tray b s a w (omega arith) ∙ ap (λ (x : ℕ). as_found x s a w) e

cut-messages : messages_in (take 38 open_and_close) ≡ (1, open_message) ∷ []
unfolding requests_in little
cut-messages = refl

-- THE CLOSE WITHOUT ITS LAST BYTE is a cut record: C7, and the Open before it is not done either (rules 30.2 and 30.3)
pub cut-close : (s : State) (a w : List ℕ) → is_sound s ≡ true → length w ≡ tray_most → tray (take 38 open_and_close) s a w ≡ as_found wrong_length s a w
unfolding bytes_in
cut-close s a w h l =
    let b = take 38 open_and_close in
    refused-with b a w s wrong_length
    ((tray-codes b s a w).cut.1 ((h, l), (omega (arith, ap length cut-messages), omega (arith, ap bytes_in cut-messages)))) (omega arith)

long-messages : (messages_in (replicate 325 0) ≡ replicate 64 (0, [])) × (bytes_in (replicate 64 (0, [])) ≡ 320)
unfolding requests_in little bytes_in
long-messages = (refl, refl)

-- A 65TH RECORD, all of them messages of no bytes, is C8 (rule 30.3)
pub sixty-five : (s : State) (a w : List ℕ) → is_sound s ≡ true → length w ≡ tray_most → tray (replicate 325 0) s a w ≡ as_found too_long s a w
sixty-five s a w h l =
    refused-with (replicate 325 0) a w s too_long
    ((tray-codes (replicate 325 0) s a w).is_too_long.1 ((h, l), (ap length long-messages.0, omega (arith, ap bytes_in long-messages.0, long-messages.1)))) (omega arith)
