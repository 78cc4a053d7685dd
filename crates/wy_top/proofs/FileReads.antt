-- What a read of the shelf gives of a file that the words name.
use Rattle.std.proofs.Common.{◌≡◌, ◌∙◌, sym, ap, refl, ℕ, ◌+◌, ◌<◌, List, length, take, Option, Some, None, Ok, Err, Vec, Global, arith, vec_len, min, Bor}
use Rattle.std.specs.Prelude.{option_map}
use Rattle.std.proofs.lemmas.List.{length-take}
use Rattle.wy_outside.specs.Shelf.{Files, ReadsFile}
use Rattle.wy_outside.specs.declared.shelf.ShelfError.TheVariants.{Absent as Missing}
use Rattle.wy_top.specs.declared.files.FileError.TheVariants as error
use Rattle.wy_top.specs.Held.{Holds, Lacks, absent, too_long}
use Rattle.wy_top.specs.Reads.{GivesFile}

-- the file that a read of at most so many bytes found
found_at : (max : ℕ) (bytes : List ℕ) (file : Option (List ℕ)) → option_map (take max) file ≡ Some bytes →
    (text : List ℕ) × (file ≡ Some text) × (take max text ≡ bytes)
found_at max bytes None h = absurd (cc)
found_at max bytes (Some text) h = (text, refl, cc)

pub long_file : (held : Option Files) (name : Bor (List ℕ)) (limit : ℕ) (bytes : Vec ℕ Global) →
    ReadsFile held name.now (limit + 1) (Ok bytes) → limit < vec_len bytes → GivesFile held name.now limit (Err (error.TooLong name))
long_file None name limit bytes reads more = tt
long_file (Some files) name limit bytes reads more =
    let e : (text : List ℕ) × (files name.now ≡ Some text) × (take (limit + 1) text ≡ bytes.items) = found_at (limit + 1) bytes.items (files name.now) reads in
    let size : min (limit + 1) (length e.0) ≡ length bytes.items = sym (length-take (limit + 1) e.0) ∙ ap length e.2 in
    too_long e.0 e.1 (omega arith)

pub absent_file : (held : Option Files) (name : Bor (List ℕ)) (limit : ℕ) → ReadsFile held name.now (limit + 1) (Err Missing) → GivesFile held name.now limit (Err (error.Absent name))
absent_file None name limit reads = tt
absent_file (Some files) name limit reads = absent reads

-- ---- what a shelf holds under one name

pub one_file : (f : Files) (name : List ℕ) (t u : List ℕ) → f name ≡ Some t → f name ≡ Some u → u ≡ t
one_file f name t u x y = let e : Some u ≡ Some t = sym y ∙ x in cc

-- a file that is held within the limit is not lacking
pub not_lacking : (f : Files) (name : List ℕ) (limit : ℕ) (t : List ℕ) (s : ℕ) (x : List ℕ) → Holds f name limit t → Lacks f name limit s x → ⊥
not_lacking f name limit t _ _ h (absent none) = let e : Some t ≡ None = sym h.found ∙ none in cc
not_lacking f name limit t _ _ h (too_long u found more) =
    let e : length u ≡ length t = ap length (one_file f name t u h.found found) in
    let within = h.within in
    omega arith
