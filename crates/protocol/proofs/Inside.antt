-- What a decoded request points to stands in the message: a store name with its bytes, and a Write's bytes. Whoever takes a part of the message needs no other fact. Assumes nothing.
use Rattle.std.specs.Prelude.{◌≡◌, refl, Bool, true, false, cond, ◌&&◌, List, [], ◌∷◌, ℕ, zero, suc, ◌+◌, ◌≤◌, leb, length, get_or, take, drop}
use Rattle.std.proofs.Common.{ap, ◌∙◌, arith, leb-true, length-take, length-drop}
use Rattle.laws.specs.All.{all, and-true}
use Rattle.laws.specs.Bytes.{little, same, text, first_zero}
use Rattle.protocol.specs.Numbers.{header_size, store_name_most, name_most, open_command, write_command, delete_command, stat_command, write_meta_command}
use Rattle.protocol.specs.Names.{base, alnum, store_name, flash_name, blob_named}
use Rattle.protocol.specs.Decode.{subcommand, body_length, fields_at, body_fits, with_name, asked, decoded}
use Rattle.protocol.specs.Cases.{Each, each-command, named-case, decoded-case}
use Rattle.protocol.specs.declared.FlashKind.TheVariants.{Image, Hash, Verify, Update, Cleanup}
use Rattle.protocol.specs.declared.Blob.{Blob}
use Rattle.protocol.specs.declared.Blob.TheVariants.{Store, Flash, Base, Unknown}
use Rattle.protocol.specs.declared.Request.{Request}
use Rattle.protocol.specs.declared.Request.TheVariants.{Open, Delete, Stat}
use Rattle.protocol.specs.Inside.{StoreInside, BlobInside, Inside}

-- ---- names
-- a store name is at most as long as a name may be
pub store-short : (n : List ℕ) → store_name n ≡ true → length n ≤ name_most
unfolding store_name base
store-short n h =
    let p = and-true (same (take (length base) n) base) _ h in
    let q = and-true (leb (length base + 1) (length n) && leb (length n) (length base + store_name_most)) (all (λ (i : ℕ). alnum (get_or (drop (length base) n) i 0)) _) p.1 in
    leb-true (length n) (length base + store_name_most) (and-true (leb (length base + 1) (length n)) _ q.0).1

take_again : (k : ℕ) (l : List ℕ) → take (length (take k l)) l ≡ take k l
take_again zero l = refl
take_again (suc k) [] = refl
take_again (suc k) (x ∷ l) = ap (λ (r : List ℕ). x ∷ r) (take_again k l)

-- one test of a name
tested : (m : List ℕ) (y : Bool) (b c : Blob) → (y ≡ true → BlobInside m b) → BlobInside m c → BlobInside m (cond y b c)
tested m true b c f g = f refl
tested m false b c f g = g

blob-inside : (at : ℕ) (m : List ℕ) → at ≤ length m → BlobInside m (blob_named at (text (drop at m)))
unfolding blob_named
blob-inside at m l =
    tested m (store_name n) (Store at (length n)) _ stored
    (tested m (same n (flash_name Image)) (Flash Image) _ (λ _. tt)
    (tested m (same n (flash_name Hash)) (Flash Hash) _ (λ _. tt)
    (tested m (same n (flash_name Verify)) (Flash Verify) _ (λ _. tt)
    (tested m (same n (flash_name Update)) (Flash Update) _ (λ _. tt)
    (tested m (same n (flash_name Cleanup)) (Flash Cleanup) _ (λ _. tt)
    (tested m (same n base) Base Unknown (λ _. tt) tt))))))
  where
    n : List ℕ
    n = text (drop at m)

    stored : store_name n ≡ true → StoreInside m at (length n)
    stored h = record {
      ends = rw (length-take, length-drop) (omega arith);
      short = store-short n h;
      is_name = ap store_name (take_again (first_zero (drop at m)) (drop at m)) ∙ h;
    }

-- ---- requests
abbrev Fits : List ℕ → ℕ → Type 0
Fits m sub = header_size ≤ length m → body_fits sub (body_length m) ≡ true → Inside m (asked sub m)

named : (at : ℕ) (m : List ℕ) (f : Blob → Request) → ((b : Blob) → BlobInside m b → Inside m (f b)) → at ≤ length m → Inside m (with_name at m f)
named at m f g l = named-case (Inside m) at m f tt (λ _. g (blob_named at (text (drop at m))) (blob-inside at m l))

asked-inside : (m : List ℕ) → Each (Fits m) (suc write_meta_command)
unfolding asked body_fits
asked-inside m = (((((((((((tt, plain), plain), opens), plain), writes), plain), plain), deletes), stats), plain), plain)
  where
    plain : {y : Bool} → header_size ≤ length m → y ≡ true → Unit {0}
    plain l h = tt

    least : (n : ℕ) → header_size ≤ length m → leb n (body_length m) ≡ true → header_size + n ≤ length m
    least n l h = let q = leb-true n (body_length m) h in omega arith

    opens : Fits m open_command
    opens l h = let q = least 5 l h in named (fields_at + 2) m (λ (b : Blob). Open (little 2 fields_at m) b) (λ (b : Blob) (i : BlobInside m b). i) (omega arith)

    writes : Fits m write_command
    writes l h = least 8 l h

    deletes : Fits m delete_command
    deletes l h = let q = least 3 l h in named fields_at m (λ (b : Blob). Delete b) (λ (b : Blob) (i : BlobInside m b). i) (omega arith)

    stats : Fits m stat_command
    stats l h = let q = least 3 l h in named fields_at m (λ (b : Blob). Stat b) (λ (b : Blob) (i : BlobInside m b). i) (omega arith)

-- WHAT A DECODED MESSAGE POINTS TO STANDS IN IT
pub decoded-inside : (m : List ℕ) → Inside m (decoded m)
decoded-inside m =
    decoded-case (Inside m) m tt tt tt
    (λ (l : header_size ≤ length m) (c : subcommand m ≤ write_meta_command) (b : body_fits (subcommand m) (body_length m) ≡ true). each-command (Fits m) (subcommand m) (asked-inside m) c l b)
