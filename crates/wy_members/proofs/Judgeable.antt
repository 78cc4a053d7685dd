-- The classes of a program's table, and those in which methods are compared, name classes among them, and Object has nothing above.
use Rattle.std.proofs.Common.{◌≡◌, ℕ, ◌+◌, ◌<◌, ◌^◌, Bool, true, false, List, [], ◌++◌, length, Option, Some, refl, sym, ◌∙◌, ap, subst, arith, map}
use Rattle.std.specs.Prelude.{None as Absent}
use Rattle.std.specs.Prelude.{filter, option_map, option_to_list, if◌then◌else◌, not}
use Rattle.std.specs.List.{All}
use Rattle.std.proofs.lemmas.List.{length-map}
use Rattle.std.proofs.lemmas.List.Elements.{All-nil, All-append, All-cons, All-head, All-tail, All-map, All-weaker, All-filter}
use Rattle.wy_kernel.specs.declared.types.Class as memory
use Rattle.wy_kernel.specs.Program.{Class, Method, object_class}
use Rattle.wy_kernel.specs.Builtin as builtin
use Rattle.wy_kernel.specs.View.{class_of}
use Rattle.wy_kernel.specs.Subtyping.{direct_supertypes}
use Rattle.wy_kernel.specs.Table.{Table, NamesAmong}
use Rattle.wy_overloads.specs.Lineage.{HasTop}
use Rattle.wy_members.specs.Declarations.{CompilationUnit, class_rows, classes_of, table}
use Rattle.wy_members.specs.Broken.{with_fitting_supertypes, is_interface_in, inheriting, known_part, compared}
use Rattle.wy_members.proofs.InRange.{NamesBelow, all_names, among_all, many_classes}
use Rattle.wy_members.proofs.KnownParts.{known_classes}
use Rattle.wy_overloads.proofs.Related.{object_alone}

-- ---- Object

pub has_top : (unit : CompilationUnit) → HasTop (table unit).classes
unfolding table
has_top unit = object_alone (class_rows unit unit)

fitting_alone : (all rest : List Class) → direct_supertypes (map (with_fitting_supertypes all) (builtin.classes ++ rest)) 0 ≡ []
unfolding direct_supertypes builtin.classes
fitting_alone all rest = refl

-- what is compared, of the classes of the table
abbrev pub fitting : CompilationUnit → List Class
fitting unit = map (with_fitting_supertypes (table unit).classes) (table unit).classes

pub fitting_has_top : (unit : CompilationUnit) → HasTop (fitting unit)
unfolding table
fitting_has_top unit = fitting_alone (builtin.classes ++ class_rows unit unit) (class_rows unit unit)

-- ---- names

module _ (classes : List Class) (many : ℕ) (some : 0 < many) where
  fits : Class → Class
  fits k = with_fitting_supertypes classes k

  above_below : (o : Option ℕ) → ((d : ℕ) → o ≡ Some d → d < many) → All (λ d. d < many) (option_to_list (option_map (λ d. if is_interface_in classes d then object_class else d) o))
  above_below Absent h = All-nil (λ d. d < many)
  above_below (Some d) h = All-cons (λ x. x < many) _ [] (by (is_interface_in classes d) (h d refl)) (All-nil (λ x. x < many))
    where
      by : (b : Bool) → d < many → (if b then object_class else d) < many
      by true lt = some
      by false lt = lt

  first_below : (o : Option ℕ) (rest : List ℕ) → All (λ d. d < many) (option_to_list o ++ rest) → (d : ℕ) → o ≡ Some d → d < many
  first_below Absent rest h d e = absurd (cc)
  first_below (Some x) rest h d e = let at : x < many = All-head (λ y. y < many) x rest h in let is : x ≡ d = cc in subst (λ y. y < many) is at

  rest_below : (o : Option ℕ) (rest : List ℕ) → All (λ d. d < many) (option_to_list o ++ rest) → All (λ d. d < many) rest
  rest_below Absent rest h = h
  rest_below (Some x) rest h = All-tail (λ y. y < many) x rest h

  fits_below : (k : Class) → NamesBelow many k → NamesBelow many (with_fitting_supertypes classes k)
  unfolding NamesBelow
  fits_below k h =
      All-append (λ d. d < many) _ _ (above_below k.above (first_below k.above k.interfaces h))
      (All-filter (is_interface_in classes) (λ d. d < many) k.interfaces (rest_below k.above k.interfaces h))

pub fitting_among : (unit : CompilationUnit) → NamesAmong (fitting unit)
fitting_among unit =
    let many = length-map (table unit).classes (with_fitting_supertypes (table unit).classes) in
    let all = many_classes unit in
    let some : 0 < length (fitting unit) = omega arith in
    among_all (fitting unit)
    (All-map (NamesBelow (length (fitting unit))) (with_fitting_supertypes (table unit).classes) (table unit).classes
    (All-weaker (NamesBelow (length (fitting unit))) (λ k. NamesBelow (length (fitting unit)) (with_fitting_supertypes (table unit).classes k)) (fits_below (table unit).classes (length (fitting unit)) some) (table unit).classes (all_names unit (length (fitting unit)) many)))

-- ---- what is compared

pub compared_is : (unit : CompilationUnit) (lower : Table) (classes : List Class) (methods : List Method) → lower ≡ record { classes = classes; methods = methods; fields = []; constants = [] } → classes ≡ fitting unit →
    methods ≡ filter (λ (m : Method). not m.is_private) (table (known_part unit)).methods → lower ≡ compared unit
unfolding compared
compared_is unit lower classes methods e f g =
    let h : classes ≡ (inheriting (table (known_part unit))).classes = f ∙ ap (λ (cs : List Class). map (with_fitting_supertypes cs) cs) (sym (known_classes unit)) in
    e ∙ (λ i. record { classes = h i; methods = g i; fields = []; constants = [] })

pub few_texts : (unit : CompilationUnit) (classes : List memory.Class) → map class_of classes ≡ (table unit).classes → length classes < builtin.no_site → length (classes_of unit) + 18 < 2 ^ 32
few_texts unit classes e few =
    let a = length-map classes class_of in
    let b : length (map class_of classes) ≡ length (table unit).classes = ap length e in
    let d = many_classes unit in
    omega arith
