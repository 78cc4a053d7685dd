-- Methods with one name and the same parameter types: which of them a class has, and that a rule may begin at any of them.
use Rattle.std.proofs.Common.{◌≡◌, ℕ, ◌+◌, ◌≤◌, ◌<◌, arith, below_more, Bool, true, false, List, [], ◌∷◌, ◌++◌, length, Some, refl, sym, ◌∙◌, subst, ◌⊎◌, inl, inr, IsTrue, ◌↔◌}
use Rattle.std.specs.List.{Contains}
use Rattle.std.proofs.lemmas.Bool.{cases_eq}
use Rattle.std.proofs.lemmas.List.Elements.{Contains-append_left, Contains-push, Contains-push_cases}
use Rattle.std.proofs.lemmas.Option.{slice_get_within}
use Rattle.std.proofs.Math.Logic.{∥∥₁_elim}
use Rattle.std.proofs.Props.{props}
use Rattle.wy_kernel.specs.declared.types.MethodForm.{MethodForm}
use Rattle.wy_kernel.specs.declared.types.MethodForm.TheVariants as kind
use Rattle.wy_kernel.specs.declared.types.Ty.{Ty}
use Rattle.wy_kernel.specs.Program.{Class, Method}
use Rattle.wy_kernel.specs.Subtyping.{Below, Supertype, further, class_type, direct_supertypes}
use Rattle.wy_kernel.specs.Subtyping.{itself as at_itself}
use Rattle.wy_kernel.specs.Table.{Table}
use Rattle.wy_table.specs.Methods.{IsByName, IsAlike, Lists}
use Rattle.wy_overloads.specs.Choice.{DeclaredFor, IsMethod, IsEquivalent, Equivalent}
use Rattle.wy_overloads.specs.Lineage.{HasTop}
use Rattle.wy_overloads.proofs.Straight.{straight}
use Rattle.wy_overloads.proofs.Related.{class_below_class}
use Rattle.wy_members.specs.Broken.{Inherits}
use Rattle.wy_members.specs.Within.{StandsWrongly, InheritsWrongly, LeavesAbstract}
use Rattle.wy_members.specs.Alike.{AreByName, AreMethods, HasAlike, HasEarlier, IsExtended, IsFound, IsSought, ListsFound, SomeListed, InheritsAlike, InheritsAlikeWrongly, LeavesAlikeAbstract}
use Rattle.wy_members.proofs.Alone.{never_wrong_alone}
use Rattle.wy_members.proofs.Listed.{EachBefore, each_listed}
use Rattle.wy_overloads.proofs.Members.{same_method as one_method}
use Rattle.wy_overloads.proofs.Listed.{declared_so as name_or_constructor}

-- ---- alike methods

pub turned : (m n : Method) → IsAlike m n → IsAlike n m
turned m n a = (sym a.0, sym a.1)

pub through : (m n o : Method) → IsAlike m n → IsAlike n o → IsAlike m o
through m n o a b = (b.0 ∙ a.0, b.1 ∙ a.1)

equal_along : (classes : List Class) (type : Ty) (m n other : Method) → IsAlike m n → IsEquivalent classes type n other → IsEquivalent classes type m other
equal_along classes type m n other a e = record { member = record { named = e.member.named ∙ a.0; declared = e.member.declared }; same = e.same ∙ a.1 }

-- ---- a method that a type has is called by its name, or is a constructor of the class that the type is

same_class : (c d : ℕ) → class_type c ≡ class_type d → d ≡ c
same_class c d e = cc

pub elsewhere_by_name : (classes : List Class) (c : ℕ) (m other : Method) → IsEquivalent classes (class_type c) m other → (other.class ≡ c → ⊥) → IsByName other.form
elsewhere_by_name classes c m other e elsewhere =
    elim (name_or_constructor classes (class_type c) other.class other.form e.member.declared) [
      | inl by_name ↦ by_name
      | inr (form, type) ↦ absurd (elsewhere (same_class c other.class type))
    ]

pub listed : (t : Table) (type : Ty) (m : Method) (numbers : List ℕ) → Lists t.methods (λ j other. IsByName other.form × IsAlike m other) numbers → AreByName t type m → (j : ℕ) (other : Method) → Equivalent t type m j other → Contains numbers j
listed t type m numbers l by_name j other e = l.each j other e.0 (by_name j other e, (e.1.member.named, e.1.same))

-- ---- inherited methods

pub inherits_by_name : (t : Table) (c k : ℕ) (m : Method) → Inherits t c k m → AreByName t (class_type c) m
inherits_by_name t c k m inherits j other e = elsewhere_by_name t.classes c m other e.1 (inherits.undeclared j other e)

itself : (t : Table) (c k : ℕ) (m : Method) → Inherits t c k m → Equivalent t (class_type c) m k m
itself t c k m inherits = (inherits.has.0, record { member = inherits.has.1; same = refl })

by_its_name : (t : Table) (c k : ℕ) (m : Method) → Inherits t c k m → IsByName m.form
by_its_name t c k m inherits = inherits_by_name t c k m inherits k m (itself t c k m inherits)

-- the class declares none of the methods that are listed, neither by a name nor as constructors
pub inherits_found : (t : Table) (c j : ℕ) (m n : Method) (names constructors : List ℕ) → Lists t.methods (λ i x. IsByName x.form × IsAlike m x) names →
    Lists t.methods (λ i x. (x.form ≡ kind.Constructor) × (class_type c ≡ class_type x.class)) constructors →
    (SomeListed t names (λ i x. IsEquivalent t.classes (class_type c) m x × (x.class ≡ c)) → ⊥) →
    (SomeListed t constructors (λ i x. IsEquivalent t.classes (class_type c) m x × (x.class ≡ c)) → ⊥) →
    IsMethod t j n → IsEquivalent t.classes (class_type c) m n → Inherits t c j n
inherits_found t c j m n names constructors a b none no_constructor is e = record {
  has = (is, record { named = refl; declared = e.member.declared });
  undeclared = λ i x (there, f) own. (let g = equal_along t.classes (class_type c) m n x (e.member.named, e.same) f in
      elim (name_or_constructor t.classes (class_type c) x.class x.form f.member.declared) [
        | inl by_name ↦ none (i, x, there, (a.each i x there (by_name, (g.member.named, g.same)), (g, own)))
        | inr constructor ↦ no_constructor (i, x, there, (b.each i x there constructor, (g, own)))
      ]);
}

-- ---- a rule may begin at any of the methods alike

same_form : (a b : MethodForm) → (a ≡ b) ⊎ (a ≡ b → ⊥)
same_form kind.Static kind.Static = inl refl
same_form kind.Instance kind.Instance = inl refl
same_form kind.Constructor kind.Constructor = inl refl
same_form kind.Fields kind.Fields = inl refl
same_form kind.Static _ = inr (λ e. absurd (cc))
same_form kind.Instance _ = inr (λ e. absurd (cc))
same_form kind.Constructor _ = inr (λ e. absurd (cc))
same_form kind.Fields _ = inr (λ e. absurd (cc))

pub wrongly_alike : (t : Table) (c k : ℕ) (m n : Method) → Inherits t c k m → IsAlike m n → StandsWrongly t (class_type c) m → StandsWrongly t (class_type c) n
wrongly_alike t c k m n inherits a (inl none) = inl (λ j other e. none j other (e.0, equal_along t.classes (class_type c) m n other a e.1))
wrongly_alike t c k m n inherits a (inr (j, other, is, (e, differs))) =
    elim (same_form n.form other.form) [
      | inl same ↦ inr (k, m, inherits.has.0, (equal_along t.classes (class_type c) n m m (turned m n a) (itself t c k m inherits).1, λ f. differs (sym f ∙ same)))
      | inr other_form ↦ inr (j, other, is, (equal_along t.classes (class_type c) n m other (turned m n a) e, other_form))
    ]

pub wrongly_by_one : (t : Table) (c : ℕ) (m : Method) (j : ℕ) (n : Method) (r : Bool) → IsMethod t j n → (other : Method) × IsMethod t j other × InheritsAlike t c false m j other →
    IsTrue r ↔ StandsWrongly t (class_type c) n → IsTrue r ↔ InheritsAlikeWrongly t c m
wrongly_by_one t c m j n r there (other, is, found) exact =
    let P : Method → Type 0 = λ x. InheritsAlike t c false m j x in
    let here : InheritsAlike t c false m j n = subst P (one_method t j other n is there) found in (
      λ h. (j, n, there, (here.1, here.2, exact.0 h)),
      λ (i, x, at, (a, inherits, wrong)). exact.1 (wrongly_alike t c i x n inherits (through x m n (turned m x a) here.1) wrong),
    )

-- ---- a class inherits methods of classes alone that are extended

above_or_itself : (classes : List Class) {c d : ℕ} → Supertype classes c d → (c ≡ d) ⊎ IsExtended classes d
above_or_itself classes at_itself = inl refl
above_or_itself classes (further {c} {d} {e} h s) =
    elim (above_or_itself classes s) [
      | inl same ↦ (let P : ℕ → Type 0 = λ x. Contains (direct_supertypes classes c) x in inr (inr (c, subst P same h)))
      | inr extended ↦ inr extended
    ]

extended_or_itself : (classes : List Class) (c d : ℕ) → HasTop classes → Below classes (class_type c) (class_type d) → (c ≡ d) ⊎ IsExtended classes d
extended_or_itself classes c d top below =
    elim (class_below_class classes c d 0 (straight classes top below)) [
      | inl object ↦ inr (inl object)
      | inr above ↦ above_or_itself classes above
    ]

declared_below : (classes : List Class) (type : Ty) (class : ℕ) (form : MethodForm) → IsByName form → DeclaredFor classes type class form → Below classes type (class_type class)
declared_below classes type class kind.Static b d = d.1
declared_below classes type class kind.Instance b d = d.1
declared_below classes type class kind.Constructor b d = absurd b
declared_below classes type class kind.Fields b d = absurd b

equal_extended : (t : Table) (c k : ℕ) (m : Method) → HasTop t.classes → Inherits t c k m → (j : ℕ) (other : Method) → Equivalent t (class_type c) m j other → IsExtended t.classes other.class
equal_extended t c k m top inherits j other e =
    elim (extended_or_itself t.classes c other.class top (declared_below t.classes (class_type c) other.class other.form (inherits_by_name t c k m inherits j other e) e.1.member.declared)) [
      | inl own ↦ absurd (inherits.undeclared j other e (sym own))
      | inr extended ↦ extended
    ]

-- ---- what a list of such methods leaves out

alone_or_alike : (t : Table) (c k : ℕ) (m : Method) → HasTop t.classes → Inherits t c k m → (HasAlike t (IsExtended t.classes) k m → ⊥) → (j : ℕ) (other : Method) → Equivalent t (class_type c) m j other → (k ≡ j) × (m ≡ other)
alone_or_alike t c k m top inherits none j other e =
    elim (cases_eq j k) [
      | inl same ↦ (let P : ℕ → Type 0 = λ i. IsMethod t i other in (sym same, one_method t k m other inherits.has.0 (subst P same e.0)))
      | inr another ↦ absurd (none (j, other, e.0, (another, inherits_by_name t c k m inherits j other e, equal_extended t c k m top inherits j other e, (e.1.member.named, e.1.same))))
    ]

-- of the methods in the list none stands wrongly with those alike, so none of all does
pub none_wrong : (t : Table) (c : ℕ) (numbers : List ℕ) (n : ℕ) → HasTop t.classes → ∥ ListsFound t false numbers ∥₁ → length numbers ≤ n → EachBefore t numbers n (λ k m. InheritsAlikeWrongly t c m → ⊥) → InheritsWrongly t c → ⊥
none_wrong t c numbers n top lists all right (k, m, is, (inherits, wrong)) =
    ∥∥₁_elim lists (hlevel props)
    (λ l. never_wrong_alone t (class_type c) k m (itself t c k m inherits)
    (alone_or_alike t c k m top inherits
    (λ alike. (let (j, other, there, (contains, a)) = l.each k m is ((by_its_name t c k m inherits, λ e. absurd (cc)), equal_extended t c k m top inherits k m (itself t c k m inherits), λ e. alike) in
    each_listed t numbers n (λ i x. InheritsAlikeWrongly t c x → ⊥) all right j other contains there (k, m, is, (a, inherits, wrong))))) wrong)

pub none_left : (t : Table) (c : ℕ) (numbers : List ℕ) (n : ℕ) → HasTop t.classes → ∥ ListsFound t true numbers ∥₁ → length numbers ≤ n → EachBefore t numbers n (λ k m. LeavesAlikeAbstract t c m → ⊥) → LeavesAbstract t c → ⊥
none_left t c numbers n top lists all right (k, m, is, (inherits, none, abstract)) =
    ∥∥₁_elim lists (hlevel props)
    (λ l. (let (j, other, there, (contains, a)) = l.each k m is ((by_its_name t c k m inherits, λ e. abstract), equal_extended t c k m top inherits k m (itself t c k m inherits), λ e. absurd (cc)) in
    each_listed t numbers n (λ i x. LeavesAlikeAbstract t c x → ⊥) all right j other contains there (k, m, is, (a, (inherits, none, abstract)))))

-- ---- the list of the first of them

module _ (t : Table) (Open : ℕ → Type 0) (only_abstract : Bool) where
  -- each method before a place that is found has one alike to it in the list
  abbrev pub FoundBefore : ℕ → List ℕ → Type 0
  FoundBefore n numbers = (k : ℕ) → k < n → (m : Method) → IsMethod t k m → IsFound t Open only_abstract k m → SomeListed t numbers (λ j other. IsAlike other m)

  -- what holds before a place and at it holds up to it
  up_to : (n : ℕ) (numbers : List ℕ) (m : Method) → IsMethod t n m → FoundBefore n numbers → (IsFound t Open only_abstract n m → SomeListed t numbers (λ j other. IsAlike other m)) → FoundBefore (n + 1) numbers
  up_to n numbers m is before here =
      below_more (λ k. (x : Method) → IsMethod t k x → IsFound t Open only_abstract k x → SomeListed t numbers (λ j other. IsAlike other x)) n before
      (λ x there. (let P : Method → Type 0 = λ y. IsFound t Open only_abstract n y → SomeListed t numbers (λ j other. IsAlike other y) in subst P (one_method t n m x is there) here))

  pub found_added : (n : ℕ) (numbers : List ℕ) (m : Method) → IsMethod t n m → FoundBefore n numbers → FoundBefore (n + 1) (numbers ++ n ∷ [])
  found_added n numbers m is before =
      up_to n (numbers ++ n ∷ []) m is
      (λ k less x there found. (let (j, other, at, (contains, a)) = before k less x there found in (j, other, at, (Contains-append_left numbers (n ∷ []) j contains, a))))
      (λ found. (n, m, is, (Contains-push numbers n, (refl, refl))))

  less_is_other : (j k : ℕ) → j < k → k ≡ j → ⊥
  less_is_other j k less e = omega arith

  -- what is alike to a method that is found is found too
  found_with : (k : ℕ) (m : Method) (j : ℕ) (other : Method) → IsMethod t k m → IsFound t Open only_abstract k m → j < k → IsSought only_abstract other → Open other.class → IsAlike m other → IsFound t Open only_abstract j other
  found_with k m j other is found less sought allowed a = (sought, allowed, λ any. (k, m, is, (less_is_other j k less, found.0.0, found.1, turned m other a)))

  pub found_kept : (n : ℕ) (numbers : List ℕ) (m : Method) → IsMethod t n m → FoundBefore n numbers → (IsFound t Open only_abstract n m → HasEarlier t Open only_abstract n m) → FoundBefore (n + 1) numbers
  found_kept n numbers m is before earlier =
      up_to n numbers m is before
      (λ found. (let (j, other, there, (less, sought, allowed, a)) = earlier found in
      let (i, x, at, (contains, b)) = before j less other there (found_with n m j other is found less sought allowed a) in
      (i, x, at, (contains, through x other m b (turned m other a)))))

  pub all_found : (n : ℕ) (numbers : List ℕ) → ((d : ℕ) → IsExtended t.classes d → Open d) → length t.methods ≤ n → FoundBefore n numbers → AreMethods t numbers → ListsFound t only_abstract numbers
  all_found n numbers allowed all found range = record {
    each = λ k m is (sought, extended, alike). found k (let less : k < length t.methods = slice_get_within t.methods k m is in omega arith) m is
        (sought, allowed m.class extended, λ any. (let (j, other, there, (another, by_name, e, a)) = alike any in (j, other, there, (another, by_name, allowed other.class e, a))));
    in_range = range;
  }

pub range_added : (t : Table) (numbers : List ℕ) (n : ℕ) → AreMethods t numbers → n < length t.methods → AreMethods t (numbers ++ n ∷ [])
range_added t numbers n range less k contains =
    elim (Contains-push_cases numbers n k contains) [
      | inl before ↦ range k before
      | inr same ↦ (let e : n ≡ k = same in omega arith)
    ]
