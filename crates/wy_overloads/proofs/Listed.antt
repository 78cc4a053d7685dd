-- A search through candidates sees each of the methods that it looks for.
use Rattle.std.proofs.Common.{◌≡◌, ℕ, ◌<◌, ◌≤◌, ◌+◌, List, [], ◌++◌, length, Some, slice_get, refl, sym, ap, subst, ◌∙◌, arith, below_more, ◌⊎◌, inl, inr, get_or}
use Rattle.std.specs.List.{Contains}
use Rattle.std.specs.Cmp.{nat_eq_equiv}
use Rattle.std.proofs.Math.Logic.{∥∥₁_elim}
use Rattle.std.proofs.Props.{props}
use Rattle.std.proofs.lemmas.List.Elements.{Contains-append_left, Contains-append_right, Contains-append_cases}
use Rattle.std.proofs.lemmas.Map.Views.{list_any-from_Contains}
use Rattle.std.proofs.lemmas.Option.{slice_get-get_or, slice_get_within}
use Rattle.wy_kernel.specs.declared.types.MethodForm.{MethodForm}
use Rattle.wy_kernel.specs.declared.types.MethodForm.TheVariants as kind
use Rattle.wy_kernel.specs.declared.types.Ty.{Ty}
use Rattle.wy_kernel.specs.Program.{Class, Method}
use Rattle.wy_kernel.specs.Subtyping.{class_type}
use Rattle.wy_kernel.specs.Table.{Table}
use Rattle.wy_kernel.proofs.Supertypes.{contained}
use Rattle.wy_table.specs.declared.methods.MethodIndex.{MethodIndex}
use Rattle.wy_table.specs.MethodIndex.{IsIndexOf, named_in, constructors_in, alike_in}
use Rattle.wy_table.specs.Methods.{Lists, IsAlike, IsByName, IsConstructorOf, IsNamed}
use Rattle.wy_overloads.specs.Choice.{DeclaredFor, IsEquivalent, IsMember, IsMethod}

-- ---- what a list has

pub untruncated : (methods : List Method) (P : ℕ → Method → Type 0) (numbers : List ℕ) → ∥ Lists methods P numbers ∥₁ → Lists methods P numbers
untruncated methods P numbers g = record {
  each = λ k m is p. contained k numbers (∥∥₁_elim g (hlevel props) (λ g'. list_any-from_Contains nat_eq_equiv k numbers (g'.each k m is p)));
  in_range = λ k has. ∥∥₁_elim g (hlevel props) (λ g'. g'.in_range k has);
}

pub lists_fewer : (methods : List Method) (P Q : ℕ → Method → Type 0) (numbers : List ℕ) → ((k : ℕ) (m : Method) → Q k m → P k m) → Lists methods P numbers → Lists methods Q numbers
lists_fewer methods P Q numbers narrower lists = record {
  each = λ k m is q. lists.each k m is (narrower k m q);
  in_range = lists.in_range;
}

-- two lists together have what either is to have
pub lists_both : (methods : List Method) (P Q R : ℕ → Method → Type 0) (first second : List ℕ) → ((k : ℕ) (m : Method) → R k m → P k m ⊎ Q k m) → Lists methods P first → Lists methods Q second → Lists methods R (first ++ second)
lists_both methods P Q R first second cases a b = record {
  each = λ k m is r. elim (cases k m r) [
    | inl p ↦ Contains-append_left first second k (a.each k m is p)
    | inr q ↦ Contains-append_right first second k (b.each k m is q)
  ];
  in_range = λ k has. elim (Contains-append_cases first second k has) [
    | inl h ↦ a.in_range k h
    | inr h ↦ b.in_range k h
  ];
}

pub lists_none : (methods : List Method) (P : ℕ → Method → Type 0) → ((k : ℕ) (m : Method) → P k m → ⊥) → Lists methods P []
lists_none methods P none = record {
  each = λ k m is p. absurd (none k m p);
  in_range = λ k has. absurd (nothing k has);
}
  where
    nothing : (k : ℕ) → Contains [] k → ⊥
    nothing k (i, lt, is) = omega arith

module _ (index : MethodIndex) (methods : List Method) (g : ∥ IsIndexOf index methods ∥₁) where
  pub named_listed : (name : List ℕ) → Lists methods (λ k m. IsNamed name m) (named_in index name)
  named_listed name = untruncated methods _ _ (∥∥₁_elim g (hlevel props) (λ g'. ∣ g'.named name ∣₁))

  pub constructors_listed : (class : ℕ) → Lists methods (λ k m. IsConstructorOf class m) (constructors_in index class)
  constructors_listed class = untruncated methods _ _ (∥∥₁_elim g (hlevel props) (λ g'. ∣ g'.constructors class ∣₁))

  pub alike_listed : (k : ℕ) (m : Method) → slice_get methods k ≡ Some m → Lists methods (λ j other. IsByName other.form × IsAlike m other) (alike_in index k)
  alike_listed k m is = untruncated methods _ _ (∥∥₁_elim g (hlevel props) (λ g'. ∣ g'.alike k m is ∣₁))

-- ---- which methods a type has

pub declared_so : (classes : List Class) (type : Ty) (class : ℕ) (form : MethodForm) → DeclaredFor classes type class form → IsByName form ⊎ ((form ≡ kind.Constructor) × (type ≡ class_type class))
declared_so classes type class kind.Static d = inl tt
declared_so classes type class kind.Instance d = inl tt
declared_so classes type class kind.Constructor d = inr (refl, d)
declared_so classes type class kind.Fields d = absurd d

pub member_so : (classes : List Class) (type : Ty) (name : List ℕ) (m : Method) → IsMember classes type name m → IsNamed name m ⊎ ((m.form ≡ kind.Constructor) × (type ≡ class_type m.class))
member_so classes type name m h =
    elim (declared_so classes type m.class m.form h.declared) [
      | inl by_name ↦ inl (by_name, h.named)
      | inr constructor ↦ inr constructor
    ]

pub equivalent_so : (classes : List Class) (type : Ty) (m other : Method) → IsEquivalent classes type m other → (IsByName other.form × IsAlike m other) ⊎ ((other.form ≡ kind.Constructor) × (type ≡ class_type other.class))
equivalent_so classes type m other h =
    elim (declared_so classes type other.class other.form h.member.declared) [
      | inl by_name ↦ inl (by_name, (h.member.named, h.same))
      | inr constructor ↦ inr constructor
    ]

-- ---- the search

same_number : (numbers : List ℕ) (i j k : ℕ) → slice_get numbers i ≡ Some j → slice_get numbers i ≡ Some k → j ≡ k
same_number numbers i j k e f = let g : Some j ≡ Some k = sym e ∙ f in cc

-- the number of a method stands below the number of methods
pub in_range_at : (methods : List Method) (P : ℕ → Method → Type 0) (numbers : List ℕ) (i j : ℕ) → Lists methods P numbers → slice_get numbers i ≡ Some j → j < length methods
in_range_at methods P numbers i j lists at =
    let lt = slice_get_within numbers i j at in
    let there : Some (get_or numbers i j) ≡ Some j = sym (slice_get-get_or numbers i j lt) ∙ at in
    lists.in_range j (i, lt, (let e : get_or numbers i j ≡ j = cc in e))

-- what holds of the methods at the places before n
abbrev pub SoFar : Table → List ℕ → ℕ → (ℕ → Method → Type 0) → Type 0
SoFar t numbers n P = (i k : ℕ) (m : Method) → i < n → slice_get numbers i ≡ Some k → IsMethod t k m → P k m

pub one_more : (t : Table) (numbers : List ℕ) (n j : ℕ) (P : ℕ → Method → Type 0) (m : Method) → SoFar t numbers n P → slice_get numbers n ≡ Some j → IsMethod t j m → P j m → SoFar t numbers (n + 1) P
one_more t numbers n j P m before at is here i k x lt =
    below_more (λ i'. (k' : ℕ) (y : Method) → slice_get numbers i' ≡ Some k' → IsMethod t k' y → P k' y) n
    (λ i' less k' y. before i' k' y less)
    (λ k' y at' is'. (
    let same : j ≡ k' = same_number numbers n j k' at at' in
    let there : IsMethod t j y = subst (λ a. IsMethod t a y) (sym same) is' in
    let one : m ≡ y = (let f : Some m ≡ Some y = sym is ∙ there in cc) in
    subst (λ a. P a y) same (subst (λ z. P j z) one here)))
    i lt k x

-- where each of the candidates was looked at, what holds of them holds of each that they list
pub of_all : (t : Table) (Q P : ℕ → Method → Type 0) (numbers : List ℕ) (n : ℕ) → Lists t.methods Q numbers → length numbers ≤ n → SoFar t numbers n P → (k : ℕ) (m : Method) → IsMethod t k m → Q k m → P k m
of_all t Q P numbers n lists all so_far k m is q =
    let c = lists.each k m is q in
    so_far c.0 k m (let lt : c.0 < length numbers = c.1 in omega arith) (slice_get-get_or numbers c.0 k c.1 ∙ ap (λ x. Some x) c.2) is
