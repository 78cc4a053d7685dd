-- Under what each method is listed, while an index is made.
use Rattle.std.proofs.Common.{◌≡◌, ℕ, ◌<◌, Bool, true, List, Option, Some, None, map, option_map, slice_get, get_or, length, nat_eq, string_bytes, refl, sym, ap, subst, ◌∙◌, IsTrue, rules}
use Rattle.std.specs.Str.{bytes_eq}
use Rattle.std.proofs.lemmas.Option.{get_or_from_slice_get, slice_get-map}
use Rattle.std.proofs.lemmas.Slice.Eq.{bytes_eq-Decides}
use Rattle.wy_kernel.specs.declared.types.Method as memory
use Rattle.wy_kernel.specs.Program.{Method}
use Rattle.wy_kernel.specs.View.{method_of}
use Rattle.wy_kernel.proofs.Indexed.{mapped}
use Rattle.wy_table.specs.Methods.{IsByName, IsNamed}

abbrev pub IsKeyOf : List (Option ℕ) → ℕ → ℕ → Type 0
IsKeyOf keys k key = slice_get keys k ≡ Some (Some key)

abbrev pub IsNameOf : List Method → ℕ → List ℕ → Type 0
IsNameOf methods k name = (m : Method) × (slice_get methods k ≡ Some m) × IsNamed name m

pub same_key : (keys : List (Option ℕ)) (k key q : ℕ) → get_or keys k None ≡ Some key → IsKeyOf keys k q → nat_eq key q ≡ true
same_key keys k key q e is =
    let there : get_or keys k None ≡ Some q = get_or_from_slice_get keys k (Some q) None is in
    let same : key ≡ q = cc in search rules

pub no_key : (keys : List (Option ℕ)) (k q : ℕ) → get_or keys k None ≡ None → IsKeyOf keys k q → ⊥
no_key keys k q e is =
    let there : get_or keys k None ≡ Some q = get_or_from_slice_get keys k (Some q) None is in absurd (cc)

-- the method that a look at place k finds is the one there
pub found_there : (methods : List memory.Method) (k : ℕ) (x : memory.Method) (m : Method) → k < length methods → x ≡ get_or methods k x → slice_get (map method_of methods) k ≡ Some m → method_of x ≡ m
found_there methods k x m lt e is = let there = mapped method_of methods k x lt e in cc

pub same_name : (methods : List memory.Method) (k : ℕ) (x : memory.Method) (name q : List ℕ) → k < length methods → x ≡ get_or methods k x → name ≡ string_bytes x.name → IsNameOf (map method_of methods) k q → bytes_eq q name ≡ true
same_name methods k x name q lt e n (m, is, (by_name, named)) =
    let there : method_of x ≡ m = found_there methods k x m lt e is in
    let same : string_bytes x.name ≡ m.name = ap (λ (y : Method). y.name) there in
    (bytes_eq-Decides q name).1 (sym (n ∙ same ∙ named))

pub called_there : (methods : List memory.Method) (k : ℕ) (x : memory.Method) (m : Method) → k < length methods → x ≡ get_or methods k x → slice_get (map method_of methods) k ≡ Some m → IsByName m.form → IsByName x.form
called_there methods k x m lt e is by_name =
    let P : Method → Type 0 = λ y. IsByName y.form in subst P (sym (found_there methods k x m lt e is)) by_name
