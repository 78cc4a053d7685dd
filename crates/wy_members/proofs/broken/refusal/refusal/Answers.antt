use Rattle.std.proofs.Common.{◌≡◌, List, Bor, length, ap, sym, subst, ◌∙◌, arith, not}
use Rattle.std.specs.Prelude.{map, filter}
use Rattle.std.proofs.lemmas.List.{length-map}
use Rattle.wy_kernel.specs.declared.types.Class as memory
use Rattle.wy_kernel.specs.Program.{Class, Method}
use Rattle.wy_kernel.specs.Table.{Table, NamesAmong}
use Rattle.wy_kernel.specs.View.{class_of, method_of}
use Rattle.wy_syntax.specs.declared.declaration.ClassSyntax as memory_syntax
use Rattle.wy_syntax.specs.Syntax.{ClassSyntax}
use Rattle.wy_syntax.specs.View.{class_of as class_syntax}
use Rattle.wy_members.specs.Broken.{with_fitting_supertypes, known_part}
use Rattle.wy_members.specs.Declarations.{CompilationUnit, classes_of, table}
use Rattle.wy_overloads.specs.Lineage.{HasTop}
use Rattle.wy_members.specs.Names.{unit_of}
use Rattle.wy_members.proofs.InRange.{names_among}
use Rattle.wy_members.proofs.Judgeable.{fitting, has_top, fitting_has_top, fitting_among, compared_is, few_texts}
use Rattle.wy_members.proofs.broken.refusal.refusal.Goals as goal

-- rows that were read again are the same
again : {X Y : Type 0} (f : X → Y) {a b : List X} {ys : List Y} → a ≡ b → map f b ≡ ys → map f a ≡ ys
again f e g = ap (map f) e ∙ g

fits : (unit : CompilationUnit) (rows fitted : List memory.Class) → map class_of fitted ≡ map (with_fitting_supertypes (map class_of rows)) (map class_of rows) → map class_of rows ≡ (table unit).classes → map class_of fitted ≡ fitting unit
fits unit rows fitted e g = e ∙ ap (λ (cs : List Class). map (with_fitting_supertypes cs) cs) g

pub hierarchy_of-requires-clause-among : goal.hierarchy_of-requires-clause-among
hierarchy_of-requires-clause-among c =
    let unit = unit_of c.args.names.now in
    let P : List Class → Type 0 = λ cs. NamesAmong cs in
    subst P (sym (again class_of c.as_slice-3.ensures.value c.requires.classes)) (names_among unit)

pub hierarchy_of-requires-2-clause-among : goal.hierarchy_of-requires-2-clause-among
hierarchy_of-requires-2-clause-among c =
    let unit = unit_of c.args.names.now in
    let P : List Class → Type 0 = λ cs. NamesAmong cs in
    let fit = fits unit _ _ c.in_ok-fitting.ensures (again class_of c.as_slice-2.ensures.value c.requires.classes) in
    subst P (sym (again class_of c.as_slice-4.ensures.value fit)) (fitting_among unit)

pub of_rows-lineage-requires-clause-has_top : goal.of_rows-lineage-requires-clause-has_top
of_rows-lineage-requires-clause-has_top c =
    let P : List Class → Type 0 = λ cs. HasTop cs in
    subst P (sym (again class_of c.as_slice-7.ensures.value c.requires.classes)) (has_top (unit_of c.args.names.now))

pub of_rows-inherited-requires-clause-has_top : goal.of_rows-inherited-requires-clause-has_top
of_rows-inherited-requires-clause-has_top c =
    let unit = unit_of c.args.names.now in
    let P : List Class → Type 0 = λ cs. HasTop cs in
    let fit = fits unit _ _ c.in_ok-fitting.ensures (again class_of c.as_slice-2.ensures.value c.requires.classes) in
    subst P (sym (again class_of c.as_slice-9.ensures.value fit)) (fitting_has_top unit)

pub refusal_by-requires-clause-judged : goal.refusal_by-requires-clause-judged
refusal_by-requires-clause-judged c =
    let unit = unit_of c.args.names.now in
    let fit = fits unit _ _ c.in_ok-fitting.ensures (again class_of c.as_slice-2.ensures.value c.requires.classes) in
    let keep : List Method → List Method = λ ms. filter (λ (m : Method). not m.is_private) ms in
    let kept : map method_of c.in_ok-inheriting.inheriting.items ≡ keep (table (known_part unit)).methods = c.in_ok-inheriting.ensures.value ∙ ap keep (again method_of c.as_slice.ensures.value c.in_ok-known.ensures.value) in
    record {
      rows = c.requires;
      known = again method_of c.as_slice-11.ensures.value c.in_ok-known.ensures.value;
      written = again (λ (k : Bor memory_syntax.ClassSyntax). class_syntax k.now) c.as_slice-12.ensures.value c.in_ok-texts.ensures;
      classes = ap (λ (t : Table). t.classes) c.of_rows-lineage.ensures ∙ again class_of c.as_slice-7.ensures.value c.requires.classes;
      methods = ap (λ (t : Table). t.methods) c.of_rows-lineage.ensures ∙ again method_of c.as_slice-8.ensures.value c.requires.methods;
      below = compared_is unit _ _ _ c.of_rows-inherited.ensures (again class_of c.as_slice-9.ensures.value fit) (again method_of c.as_slice-10.ensures.value kept);
    }

pub refusal_by-requires-clause-few : goal.refusal_by-requires-clause-few
refusal_by-requires-clause-few c =
    let unit = unit_of c.args.names.now in
    let read : Bor memory_syntax.ClassSyntax → ClassSyntax = λ k. class_syntax k.now in
    let few = few_texts unit _ c.requires.classes c.requires.few_classes in
    let many = length-map c.as_slice-12.result.now read in
    let same : length (map read c.as_slice-12.result.now) ≡ length (classes_of unit) = ap length (again read c.as_slice-12.ensures.value c.in_ok-texts.ensures) in
    omega arith
