-- The first main of a text is the first that is written as one.
use Rattle.std.proofs.Common.{◌≡◌, ℕ, ◌+◌, ◌*◌, ◌^◌, ◌<◌, ◌≤◌, Bool, true, false, cond, List, [], ◌∷◌, ◌++◌, length, map, drop, refl, sym, ap, ◌∙◌, arith, inl, inr}
use Rattle.std.specs.Prelude.{◌&&◌, ◌==◌, flat_map, filter_map, Option, Some, None, option_to_list, unwrap_or, IfSome, codes, if◌then◌else◌}
use Rattle.std.specs.Option.{option_or}
use Rattle.std.specs.Str.{bytes_eq}
use Rattle.std.specs.List.{position, position_from, position_or_len, cons_option}
use Rattle.std.proofs.lemmas.Bool.Decides.{nat_tests}
use Rattle.std.proofs.lemmas.Iterator.Adapters.{position_from-zero}
use Rattle.std.proofs.lemmas.Slice.Eq.{bytes_eq-Decides}
use Rattle.std.proofs.lemmas.List.{length-map, length-append}
use Rattle.wy_kernel.specs.declared.operator.Primitive.{Primitive}
use Rattle.wy_kernel.specs.declared.operator.Primitive.TheVariants as prim
use Rattle.wy_kernel.specs.declared.types.Base.TheVariants.{Primitive as Basic, Class as Named}
use Rattle.wy_kernel.specs.declared.types.Ty.TheVariants.{Of}
use Rattle.wy_kernel.specs.Builtin as builtin
use Rattle.wy_kernel.specs.Program.{same_types, type_code, base_code, primitive_code, string_class}
use Rattle.wy_syntax.specs.declared.declaration.Modifier.TheVariants as modifier
use Rattle.wy_syntax.specs.Syntax.{Parameter, Header, Member, ClassSyntax, Declaration}
use Rattle.wy_syntax.specs.Syntax as source
use Rattle.wy_members.specs.Declarations.{CompilationUnit, classes_of, class_in, class_names, class_or_object, denoted, name_of, base_type, type_with, types_of, table, written_names, has}
use Rattle.wy_members.proofs.InRange.{many_classes}
use Rattle.wy_members.proofs.Library.{how_many}
use Rattle.wy_members.proofs.Numbering.{position_below}
use Rattle.wy_elab_stmt.specs.Program.{takes_texts, is_main, main_in, first_of, main_token}
use Rattle.wy_elab_stmt.specs.MainMethod.{is_string, is_text_array, is_one_text_array, is_written_main, main_at, main_among, main_declared, written_main_token}

-- ---- a class has number 1 exactly where it is named String

abbrev behind_two : List (List ℕ) → List (List ℕ)
behind_two names = codes "Object" ∷ codes "String" ∷ names

two_or_more : (n : ℕ) → 2 ≤ n → (n == 1) ≡ false
two_or_more n h = grind (arith, nat_tests)

either_not_one : (b : Bool) (i : ℕ) (o : Option ℕ) → 2 ≤ i → (unwrap_or o 0 == 1) ≡ false → (unwrap_or (cond b (Some i) o) 0 == 1) ≡ false
either_not_one true i o le h = two_or_more i le
either_not_one false i o le h = h

not_one : (p : List ℕ → Bool) (i : ℕ) (xs : List (List ℕ)) → 2 ≤ i → (unwrap_or (position_from p i xs) 0 == 1) ≡ false
not_one p i [] le = refl
not_one p i (x ∷ xs) le = either_not_one (p x) i (position_from p (i + 1) xs) le (not_one p (i + 1) xs (omega arith))

second_first : (p : List ℕ → Bool) (rest : List (List ℕ)) (b c : Bool) → p (codes "Object") ≡ b → p (codes "String") ≡ c → (b ≡ true → c ≡ false) →
    (unwrap_or (position_from p 0 (behind_two rest)) 0 == 1) ≡ c
second_first p rest true c object string apart =
    ap (λ (v : Bool). unwrap_or (cond v (Some 0) (position_from p 1 (codes "String" ∷ rest))) 0 == 1) object ∙ sym (apart refl)
second_first p rest false true object string apart =
    ap (λ (v : Bool). unwrap_or (cond v (Some 0) (position_from p 1 (codes "String" ∷ rest))) 0 == 1) object
    ∙ ap (λ (v : Bool). unwrap_or (cond v (Some 1) (position_from p 2 rest)) 0 == 1) string
second_first p rest false false object string apart =
    ap (λ (v : Bool). unwrap_or (cond v (Some 0) (position_from p 1 (codes "String" ∷ rest))) 0 == 1) object
    ∙ ap (λ (v : Bool). unwrap_or (cond v (Some 1) (position_from p 2 rest)) 0 == 1) string
    ∙ not_one p 2 rest (omega arith)

names_begin : (unit : CompilationUnit) → class_names unit ≡ behind_two (drop 2 (class_names unit))
unfolding builtin.classes
names_begin unit = refl

other_name : (name : List ℕ) → bytes_eq name (codes "Object") ≡ true → bytes_eq name (codes "String") ≡ false
other_name name e = ap (λ (n : List ℕ). bytes_eq n (codes "String")) ((bytes_eq-Decides name (codes "Object")).0 e)

is_class_one : (unit : CompilationUnit) (name : List ℕ) → (class_or_object unit name == 1) ≡ bytes_eq name (codes "String")
unfolding denoted
is_class_one unit name =
    ap (λ (o : Option ℕ). unwrap_or o 0 == 1) (position_from-zero (bytes_eq name) (class_names unit))
    ∙ ap (λ (names : List (List ℕ)). unwrap_or (position_from (bytes_eq name) 0 names) 0 == 1) (names_begin unit)
    ∙ second_first (bytes_eq name) (drop 2 (class_names unit)) (bytes_eq name (codes "Object")) (bytes_eq name (codes "String")) refl refl (other_name name)

few_classes : (ds : List Declaration) → length (classes_of ds) ≤ length ds
few_classes [] = omega arith
few_classes (source.Declaration.Nothing ∷ ds) = omega (arith, few_classes ds)
few_classes (source.Declared k ∷ ds) = omega (arith, few_classes ds)
few_classes (source.Declaration.Unknown ∷ ds) = omega (arith, few_classes ds)

few_names : (unit : CompilationUnit) → length unit ≤ 1048576 → length (class_names unit) ≤ 1048594
few_names unit few =
    let whole = length-append (map name_of builtin.classes) (written_names unit) in
    let library = length-map builtin.classes name_of ∙ how_many.0 in
    let written = length-map (classes_of unit) (λ (k : ClassSyntax). k.name.name) in
    let classes = few_classes unit in
    omega arith

class_few : (unit : CompilationUnit) → length unit ≤ 1048576 → (name : List ℕ) → class_or_object unit name ≤ 1048594
unfolding denoted
class_few unit few name = by (denoted unit name) (position_below (bytes_eq name) (class_names unit) 1048594 (denoted unit name) (few_names unit few) refl)
  where
    by : (o : Option ℕ) → IfSome o (λ k. k < 1048594) → unwrap_or o 0 ≤ 1048594
    by None h = omega arith
    by (Some k) h = omega (arith, h)

-- ---- types

code_is : (n c : ℕ) → c ≤ 1048594 → (16777216 * n + (16 + c) == 16777233) ≡ ((c == 1) && (n == 1))
code_is n c few = grind (arith, nat_tests)

no_code : (n k : ℕ) → k ≤ 5 → (16777216 * n + k == 16777233) ≡ false
no_code n k few = grind (arith, nat_tests)

same_base : (unit : CompilationUnit) → length unit ≤ 1048576 → (b : source.Base) (n : ℕ) → (type_code (Of (base_type unit b) n) == type_code (Of (Named string_class) 1)) ≡ (is_string b && n == 1)
unfolding type_code base_code primitive_code
same_base unit few (source.Basic prim.Bool) n = no_code n 0 (omega arith)
same_base unit few (source.Basic prim.Byte) n = no_code n 1 (omega arith)
same_base unit few (source.Basic prim.Short) n = no_code n 2 (omega arith)
same_base unit few (source.Basic prim.Char) n = no_code n 3 (omega arith)
same_base unit few (source.Basic prim.Int) n = no_code n 4 (omega arith)
same_base unit few (source.Basic prim.Long) n = no_code n 5 (omega arith)
same_base unit few (source.Class name) n = code_is n (class_or_object unit name) (class_few unit few name) ∙ ap (λ (v : Bool). v && n == 1) (is_class_one unit name)

and_true : (b : Bool) → (b && true) ≡ b
and_true true = refl
and_true false = refl

and_false : (b : Bool) → (b && false) ≡ false
and_false true = refl
and_false false = refl

takes : (unit : CompilationUnit) → length unit ≤ 1048576 → (params : List Parameter) → same_types (types_of unit params) (Of (Named string_class) 1 ∷ []) ≡ is_one_text_array params
unfolding same_types
takes unit few [] = refl
takes unit few (p ∷ []) =
    and_true (type_code (type_with unit p.ty p.brackets) == type_code (Of (Named string_class) 1)) ∙ same_base unit few p.ty.base (p.ty.brackets + p.brackets)
takes unit few (p ∷ q ∷ rest) = and_false (type_code (type_with unit p.ty p.brackets) == type_code (Of (Named string_class) 1))

-- ---- members and classes

first_append : (xs ys : List ℕ) → first_of (xs ++ ys) ≡ option_or (first_of xs) (first_of ys)
first_append [] ys = refl
first_append (x ∷ xs) ys = refl

one : (b : Bool) (token : ℕ) → first_of (if b then token ∷ [] else []) ≡ (if b then Some token else None)
one true token = refl
one false token = refl

at_member : (unit : CompilationUnit) → length unit ≤ 1048576 → (m : Member) → first_of (main_in unit m) ≡ main_at m
at_member unit few (source.Method h None (Some b)) =
    ap (λ (v : Bool). first_of (if v then h.name.token ∷ [] else [])) (ap (λ (v : Bool). bytes_eq h.name.name (codes "main") && has modifier.Public h.modifiers && has modifier.Static h.modifiers && v) (takes unit few h.params))
    ∙ one (is_written_main h) h.name.token
at_member unit few (source.Method h None None) = refl
at_member unit few (source.Method h (Some ty) (Some b)) = refl
at_member unit few (source.Method h (Some ty) None) = refl
at_member unit few source.Member.Nothing = refl
at_member unit few (source.Initializer is_static block) = refl
at_member unit few (source.Fields ms ty all) = refl
at_member unit few (source.Constructor h own_call brace parts end) = refl
at_member unit few source.Member.Unknown = refl

among : (unit : CompilationUnit) → length unit ≤ 1048576 → (ms : List Member) → first_of (flat_map (main_in unit) ms) ≡ main_among ms
among unit few [] = refl
among unit few (m ∷ ms) = first_append (main_in unit m) (flat_map (main_in unit) ms) ∙ ap (λ o. option_or o (first_of (flat_map (main_in unit) ms))) (at_member unit few m) ∙ ap (option_or (main_at m)) (among unit few ms)

abbrev mains_of : CompilationUnit → ClassSyntax → List ℕ
mains_of unit k = flat_map (main_in unit) k.members

over : (unit : CompilationUnit) → length unit ≤ 1048576 → (ds : List Declaration) → first_of (flat_map (mains_of unit) (classes_of ds)) ≡ written_main_token ds
over unit few [] = refl
over unit few (source.Declaration.Nothing ∷ ds) = over unit few ds
over unit few (source.Declared k ∷ ds) = first_append (mains_of unit k) (flat_map (mains_of unit) (classes_of ds)) ∙ ap (λ o. option_or o (first_of (flat_map (mains_of unit) (classes_of ds)))) (among unit few k.members) ∙ ap (option_or (main_among k.members)) (over unit few ds)
over unit few (source.Declaration.Unknown ∷ ds) = over unit few ds

pub main_by_words : (unit : CompilationUnit) → length unit ≤ 1048576 → main_token unit ≡ written_main_token unit
main_by_words unit few = over unit few unit
