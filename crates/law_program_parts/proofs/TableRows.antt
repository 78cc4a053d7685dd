-- A text has no more classes, methods and fields than its declarations take tokens.
use Rattle.std.proofs.Common.{arith, ℕ, ◌+◌, ◌≤◌, Bool, true, false, ◌||◌, if◌then◌else◌, List, [], ◌∷◌, ◌++◌, length, length-append}
use Rattle.std.specs.Prelude.{Option, Some, None, flat_map, codes}
use Rattle.std.specs.List.{list_any, enumerate_from, cons_option}
use Rattle.std.proofs.lemmas.List.{length-map}
use Rattle.wy_kernel.specs.declared.types.MethodForm.TheVariants as kind
use Rattle.wy_kernel.specs.Program.{first_source_class}
use Rattle.wy_kernel.specs.Builtin as builtin
use Rattle.wy_syntax.specs.Syntax.{Member, ClassSyntax}
use Rattle.wy_syntax.specs.Syntax as syntax
use Rattle.wy_members.specs.Declarations.{CompilationUnit, classes_of, method_in, methods_in, methods_of, implied, fields_unit, implied_constructor, initializes_objects, is_constructor, field_row, fields_in, fields_among, fields_of, class_by_class, table}
use Rattle.wy_members.proofs.InRange.{many_classes}
use Rattle.wy_members.proofs.Library.{how_many}
use Rattle.law_program_parts.proofs.Weights.{member_weight, members_weight, class_weight, classes_weight}

-- ---- in a class

-- each member takes a token
member_some : (m : Member) → 1 ≤ member_weight m
member_some (syntax.Fields ms ty all) = omega arith
member_some syntax.Member.Nothing = omega arith
member_some (syntax.Initializer is_static block) = omega arith
member_some (syntax.Method h result body) = omega arith
member_some (syntax.Constructor h own_call brace parts end) = omega arith
member_some syntax.Member.Unknown = omega arith

with_one : {X : Type 0} (o : Option X) (xs : List X) → length (cons_option o xs) ≤ 1 + length xs
with_one None xs = omega arith
with_one (Some x) xs = omega arith

members_few : (text : CompilationUnit) (c : ℕ) (k : ClassSyntax) (ms : List Member) → length (methods_in text c k ms) ≤ members_weight ms
members_few text c k [] = omega arith
members_few text c k (m ∷ ms) =
    let one = with_one (method_in text c k m) (methods_in text c k ms) in
    let some = member_some m in
    let more = members_few text c k ms in omega (arith, one, some, more)

if_one : {X : Type 0} (b : Bool) (x : X) → length (if b then x ∷ [] else []) ≤ 1
if_one true x = omega arith
if_one false x = omega arith

unless_one : {X : Type 0} (b : Bool) (x : X) → length (if b then [] else x ∷ []) ≤ 1
unless_one true x = omega arith
unless_one false x = omega arith

methods_few : (text : CompilationUnit) (c : ℕ) (k : ClassSyntax) → length (methods_of text c k) ≤ class_weight k
methods_few text c k =
    let one : length (fields_unit c k) ≤ 1 = if_one (list_any initializes_objects k.members) (implied c k (codes "<fields>") kind.Fields) in
    let other : length (implied_constructor c k) ≤ 1 = unless_one (k.is_interface || list_any is_constructor k.members) (implied c k (codes "new") kind.Constructor) in
    let more = members_few text c k k.members in
    omega (arith, more, length-append (fields_unit c k ++ implied_constructor c k) (methods_in text c k k.members), length-append (fields_unit c k) (implied_constructor c k))

fields_few_in : (text : CompilationUnit) (c : ℕ) (m : Member) → length (fields_in text c m) ≤ member_weight m
fields_few_in text c (syntax.Fields ms ty all) = omega (arith, length-map all (field_row text c ms ty))
fields_few_in text c syntax.Member.Nothing = omega arith
fields_few_in text c (syntax.Initializer is_static block) = omega arith
fields_few_in text c (syntax.Method h result body) = omega arith
fields_few_in text c (syntax.Constructor h own_call brace parts end) = omega arith
fields_few_in text c syntax.Member.Unknown = omega arith

fields_few_among : (text : CompilationUnit) (c : ℕ) (ms : List Member) → length (fields_among text c ms) ≤ members_weight ms
fields_few_among text c [] = omega arith
fields_few_among text c (m ∷ ms) =
    let one = fields_few_in text c m in
    let more = fields_few_among text c ms in omega (arith, one, more, length-append (fields_in text c m) (fields_among text c ms))

fields_few : (text : CompilationUnit) (c : ℕ) (k : ClassSyntax) → length (fields_of text c k) ≤ class_weight k
fields_few text c k = let few = fields_few_among text c k.members in omega (arith, few)

-- ---- in a text

classes_few : (ks : List ClassSyntax) → length ks ≤ classes_weight ks
classes_few [] = omega arith
classes_few (k ∷ ks) = let more = classes_few ks in omega (arith, more)

class_by_class_few : {X : Type 0} (f : ℕ → ClassSyntax → List X) → ((c : ℕ) (k : ClassSyntax) → length (f c k) ≤ class_weight k) → (c : ℕ) (ks : List ClassSyntax) → length (flat_map (λ p. f p.0 p.1) (enumerate_from c ks)) ≤ classes_weight ks
class_by_class_few f few c [] = omega arith
class_by_class_few f few c (k ∷ ks) =
    let one = few c k in
    let more = class_by_class_few f few (c + 1) ks in omega (arith, one, more, length-append (f c k) (flat_map (λ p. f p.0 p.1) (enumerate_from (c + 1) ks)))

-- with those of the library
pub many_classes_at_most : (text : CompilationUnit) → length (table text).classes ≤ 18 + classes_weight (classes_of text)
many_classes_at_most text = omega (arith, many_classes text, classes_few (classes_of text))

pub many_methods_at_most : (text : CompilationUnit) → length (table text).methods ≤ 36 + classes_weight (classes_of text)
unfolding table
many_methods_at_most text =
    let few : length (class_by_class (methods_of text) text) ≤ classes_weight (classes_of text) = class_by_class_few (methods_of text) (methods_few text) first_source_class (classes_of text) in
    omega (arith, length-append builtin.methods (class_by_class (methods_of text) text), how_many.1)

pub many_fields_at_most : (text : CompilationUnit) → length (table text).fields ≤ 1 + classes_weight (classes_of text)
unfolding table
many_fields_at_most text =
    let few : length (class_by_class (fields_of text) text) ≤ classes_weight (classes_of text) = class_by_class_few (fields_of text) (fields_few text) first_source_class (classes_of text) in
    omega (arith, length-append builtin.fields (class_by_class (fields_of text) text), how_many.2)
