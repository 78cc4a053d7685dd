-- What the choice of a method asks for is decided, where subtyping is.
use Rattle.std.proofs.Common.{◌≡◌, ℕ, zero, suc, false, List, Option, Some, ◌⊎◌, inl, inr}
use Rattle.std.specs.Prelude.{slice_get, MatchOption}
use Rattle.std.specs.Prelude.{None as Absent}
use Rattle.wy_kernel.specs.declared.types.Base.TheVariants.{Primitive as Basic, Class as Named}
use Rattle.wy_kernel.specs.declared.types.Ty.{Ty}
use Rattle.wy_kernel.specs.declared.types.Ty.TheVariants.{Void, Null, Of}
use Rattle.wy_kernel.specs.declared.types.MethodForm.{MethodForm}
use Rattle.wy_kernel.specs.declared.types.MethodForm.TheVariants as kind
use Rattle.wy_kernel.specs.Program.{Class, Method, first_source_class}
use Rattle.wy_kernel.specs.Subtyping.{class_type}
use Rattle.wy_kernel.specs.Table.{Table}
use Rattle.wy_overloads.specs.Choice.{DeclaredFor, IsMember, Applies, IsEquivalent, Equivalent, IsClass, IsFurther, IsNearest, HasHigherResult, HasLowestResult, NearestHasBody, Counts, nearest, lowest, IsMostSpecific, Chosen, IsOfLibrary, HasSome, SomeApplies, IsNotOffered, EachBelow}
use Rattle.law_judgement.proofs.Decided.{Decided, like, both, either, denied, implied, same_number, same_name, is_false, each, some}
use Rattle.law_judgement.proofs.Types.{DecidesBelow, same_type, same_types, reference, each_below, substitutable, less, at_most}

declared_for : (classes : List Class) → DecidesBelow classes → (type : Ty) (class : ℕ) (form : MethodForm) → Decided (DeclaredFor classes type class form)
declared_for classes d type class kind.Static = both (reference type) (d type (class_type class))
declared_for classes d type class kind.Instance = both (reference type) (d type (class_type class))
declared_for classes d type class kind.Constructor = same_type type (class_type class)
declared_for classes d type class kind.Fields = inr (λ h. h)

member : (classes : List Class) → DecidesBelow classes → (type : Ty) (name : List ℕ) (m : Method) → Decided (IsMember classes type name m)
member classes d type name m =
    like (λ h. record { named = h.0; declared = h.1 }) (λ h. (h.named, h.declared)) (both (same_name m.name name) (declared_for classes d type m.class m.form))

applies : (classes : List Class) → DecidesBelow classes → (type : Ty) (name : List ℕ) (arguments : List Ty) (m : Method) → Decided (Applies classes type name arguments m)
applies classes d type name arguments m =
    like (λ h. record { member = h.0; takes = h.1 }) (λ h. (h.member, h.takes)) (both (member classes d type name m) (each_below classes d arguments m.params))

equivalent : (classes : List Class) → DecidesBelow classes → (type : Ty) (m other : Method) → Decided (IsEquivalent classes type m other)
equivalent classes d type m other =
    like (λ h. record { member = h.0; same = h.1 }) (λ h. (h.member, h.same)) (both (member classes d type m.name other) (same_types other.params m.params))

class_in : (o : Option Class) → Decided (MatchOption o ⊥ (λ declaration. declaration.is_interface ≡ false))
class_in Absent = inr (λ h. h)
class_in (Some declaration) = is_false declaration.is_interface

by_class : (classes : List Class) (c : ℕ) → Decided (IsClass classes c)
by_class classes c = class_in (slice_get classes c)

further : (classes : List Class) → DecidesBelow classes → (k : ℕ) (m : Method) (j : ℕ) (other : Method) → Decided (IsFurther classes k m j other)
further classes d k m j other =
    like (λ h. record { above = h.0; behind = h.1 }) (λ h. (h.above, h.behind))
    (both (implied (by_class classes other.class) (d (class_type m.class) (class_type other.class))) (implied (same_number other.class m.class) (at_most k j)))

higher_result : (classes : List Class) → DecidesBelow classes → (k : ℕ) (m : Method) (j : ℕ) (other : Method) → Decided (HasHigherResult classes k m j other)
higher_result classes d k m j other =
    like (λ h. record { higher = h.0; behind = h.1 }) (λ h. (h.higher, h.behind)) (both (substitutable classes d m.result other.result) (implied (same_type other.result m.result) (at_most k j)))

-- of each method that is equivalent to m
each_equivalent : (t : Table) → DecidesBelow t.classes → (type : Ty) (m : Method) (P : ℕ → Method → Type 0) → ((j : ℕ) (other : Method) → Decided (P j other)) →
    Decided ((j : ℕ) (other : Method) → Equivalent t type m j other → P j other)
each_equivalent t d type m P dp =
    like (λ f j other e. f j other e.0 e.1) (λ f j other is e. f j other (is, e))
    (each (λ j other. IsEquivalent t.classes type m other → P j other) t.methods (λ j other. implied (equivalent t.classes d type m other) (dp j other)))

is_nearest : (t : Table) → DecidesBelow t.classes → (type : Ty) (k : ℕ) (m : Method) → Decided (IsNearest t type k m)
is_nearest t d type k m =
    like (λ h. record { by_class = h.0; nearest = h.1 }) (λ h. (h.by_class, h.nearest))
    (both (by_class t.classes m.class) (each_equivalent t d type m (λ j other. IsFurther t.classes k m j other) (λ j other. further t.classes d k m j other)))

lowest_result : (t : Table) → DecidesBelow t.classes → (type : Ty) (k : ℕ) (m : Method) → Decided (HasLowestResult t type k m)
lowest_result t d type k m = each_equivalent t d type m (λ j other. HasHigherResult t.classes k m j other) (λ j other. higher_result t.classes d k m j other)

body_is_nearest : (t : Table) → DecidesBelow t.classes → (type : Ty) (m : Method) → Decided (NearestHasBody t type m)
body_is_nearest t d type m =
    like (λ h. (h.0, h.1, (h.2, h.3.0), h.3.1, h.3.2)) (λ h. (h.0, h.1, h.2.0, (h.2.1, h.3, h.4)))
    (some (λ j other. IsEquivalent t.classes type m other × IsNearest t type j other × (other.is_abstract ≡ false)) t.methods
    (λ j other. like (λ h. (h.0, h.1.0, h.1.1)) (λ h. (h.0, (h.1, h.2))) (both (equivalent t.classes d type m other) (both (is_nearest t d type j other) (is_false other.is_abstract)))))

abbrev Ways : Table → Ty → ℕ → Method → Type 0
Ways t type k m = (IsNearest t type k m × (m.is_abstract ≡ false)) ⊎ ((NearestHasBody t type m → ⊥) × HasLowestResult t type k m)

counts_by : (t : Table) (type : Ty) (k : ℕ) (m : Method) → Ways t type k m → Counts t type k m
counts_by t type k m (inl h) = nearest h.0 h.1
counts_by t type k m (inr h) = lowest h.0 h.1

way_of : (t : Table) (type : Ty) (k : ℕ) (m : Method) → Counts t type k m → Ways t type k m
way_of t type k m (nearest near concrete) = inl (near, concrete)
way_of t type k m (lowest empty low) = inr (empty, low)

counts : (t : Table) → DecidesBelow t.classes → (type : Ty) (k : ℕ) (m : Method) → Decided (Counts t type k m)
counts t d type k m =
    like (counts_by t type k m) (way_of t type k m) (either (both (is_nearest t d type k m) (is_false m.is_abstract)) (both (denied (body_is_nearest t d type m)) (lowest_result t d type k m)))

most_specific : (t : Table) → DecidesBelow t.classes → (type : Ty) (name : List ℕ) (arguments : List Ty) (m : Method) → Decided (IsMostSpecific t type name arguments m)
most_specific t d type name arguments m =
    like (λ f j other a. f j other a.0 a.1) (λ f j other is a. f j other (is, a))
    (each (λ j other. Applies t.classes type name arguments other → EachBelow t.classes m.params other.params) t.methods
    (λ j other. implied (applies t.classes d type name arguments other) (each_below t.classes d m.params other.params)))

-- what is left to ask of method k, where it is m
record Meant (t : Table) (type : Ty) (name : List ℕ) (arguments : List Ty) (k : ℕ) (m : Method) : Type 0 where
  applies : Applies t.classes type name arguments m
  most_specific : IsMostSpecific t type name arguments m
  counts : Counts t type k m

meant : (t : Table) → DecidesBelow t.classes → (type : Ty) (name : List ℕ) (arguments : List Ty) (k : ℕ) (m : Method) → Decided (Meant t type name arguments k m)
meant t d type name arguments k m =
    like (λ h. record { applies = h.0; most_specific = h.1.0; counts = h.1.1 }) (λ h. (h.applies, (h.most_specific, h.counts)))
    (both (applies t.classes d type name arguments m) (both (most_specific t d type name arguments m) (counts t d type k m)))

pub some_chosen : (t : Table) → DecidesBelow t.classes → (type : Ty) (name : List ℕ) (arguments : List Ty) → Decided ((k : ℕ) × Chosen t type name arguments k)
some_chosen t d type name arguments =
    like (λ h. (h.0, record { method = h.1; applicable = (h.2, h.3.applies); most_specific = h.3.most_specific; counts = h.3.counts }))
    (λ h. (h.0, h.1.method, h.1.applicable.0, record { applies = h.1.applicable.1; most_specific = h.1.most_specific; counts = h.1.counts }))
    (some (λ k m. Meant t type name arguments k m) t.methods (λ k m. meant t d type name arguments k m))

pub some_applies : (t : Table) → DecidesBelow t.classes → (type : Ty) (name : List ℕ) (arguments : List Ty) → Decided (SomeApplies t type name arguments)
some_applies t d type name arguments =
    like (λ h. (h.0, h.1, (h.2, h.3))) (λ h. (h.0, h.1, h.2.0, h.2.1))
    (some (λ k m. Applies t.classes type name arguments m) t.methods (λ k m. applies t.classes d type name arguments m))

has_some : (t : Table) → DecidesBelow t.classes → (type : Ty) (name : List ℕ) → Decided (HasSome t type name)
has_some t d type name =
    like (λ h. (h.0, h.1, (h.2, h.3))) (λ h. (h.0, h.1, h.2.0, h.2.1)) (some (λ k m. IsMember t.classes type name m) t.methods (λ k m. member t.classes d type name m))

of_library : (type : Ty) → Decided (IsOfLibrary type)
of_library (Of base (suc n)) = inl tt
of_library (Of (Named c) zero) = less c first_source_class
of_library (Of (Basic p) zero) = inr (λ h. h)
of_library Void = inr (λ h. h)
of_library Null = inr (λ h. h)

pub not_offered : (t : Table) → DecidesBelow t.classes → (type : Ty) (name : List ℕ) → Decided (IsNotOffered t type name)
not_offered t d type name = both (of_library type) (denied (has_some t d type name))
