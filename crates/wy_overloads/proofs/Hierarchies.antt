-- What is chosen and refused in a table is so by its classes and methods alone.
use Rattle.std.proofs.Common.{◌≡◌, ℕ, List, ◌↔◌, sym, subst}
use Rattle.wy_kernel.specs.declared.types.Ty.{Ty}
use Rattle.wy_kernel.specs.Program.{Method}
use Rattle.wy_kernel.specs.Subtyping.{Below}
use Rattle.wy_kernel.specs.Table.{Table}
use Rattle.wy_constant.specs.declared.rule.Rule.{Rule}
use Rattle.wy_constant.specs.declared.rule.Rule.TheVariants as rule
use Rattle.wy_overloads.specs.Choice.{IsNearest, Counts, nearest, lowest, Chosen, Refused}
use Rattle.wy_overloads.specs.Lineage.{classes_and_methods}

nearest_of : (t : Table) (type : Ty) (k : ℕ) (m : Method) → IsNearest (classes_and_methods t) type k m → IsNearest t type k m
nearest_of t type k m n = record { by_class = n.by_class; nearest = n.nearest }

nearest_in : (t : Table) (type : Ty) (k : ℕ) (m : Method) → IsNearest t type k m → IsNearest (classes_and_methods t) type k m
nearest_in t type k m n = record { by_class = n.by_class; nearest = n.nearest }

pub counts_of : (t : Table) (type : Ty) (k : ℕ) (m : Method) → Counts (classes_and_methods t) type k m → Counts t type k m
counts_of t type k m (nearest n e) = nearest (nearest_of t type k m n) e
counts_of t type k m (lowest none low) = lowest (λ (j, other, same, near, body). none (j, other, same, nearest_in t type j other near, body)) low

pub counts_in : (t : Table) (type : Ty) (k : ℕ) (m : Method) → Counts t type k m → Counts (classes_and_methods t) type k m
counts_in t type k m (nearest n e) = nearest (nearest_in t type k m n) e
counts_in t type k m (lowest none low) = lowest (λ (j, other, same, near, body). none (j, other, same, nearest_of t type j other near, body)) low

chosen_of : (t : Table) (type : Ty) (name : List ℕ) (arguments : List Ty) (k : ℕ) → Chosen (classes_and_methods t) type name arguments k → Chosen t type name arguments k
chosen_of t type name arguments k c = record { method = c.method; applicable = c.applicable; most_specific = c.most_specific; counts = counts_of t type k c.method c.counts }

chosen_in : (t : Table) (type : Ty) (name : List ℕ) (arguments : List Ty) (k : ℕ) → Chosen t type name arguments k → Chosen (classes_and_methods t) type name arguments k
chosen_in t type name arguments k c = record { method = c.method; applicable = c.applicable; most_specific = c.most_specific; counts = counts_in t type k c.method c.counts }

refused_of : (t : Table) (type : Ty) (name : List ℕ) (arguments : List Ty) (r : Rule) → Refused (classes_and_methods t) type name arguments r → Refused t type name arguments r
refused_of t type name arguments rule.NoMethod f = f
refused_of t type name arguments rule.Ambiguous f = (f.0, λ k c. f.1 k (chosen_in t type name arguments k c))
refused_of t type name arguments rule.NotOffered f = f
refused_of t type name arguments _ f = absurd f

refused_in : (t : Table) (type : Ty) (name : List ℕ) (arguments : List Ty) (r : Rule) → Refused t type name arguments r → Refused (classes_and_methods t) type name arguments r
refused_in t type name arguments rule.NoMethod f = f
refused_in t type name arguments rule.Ambiguous f = (f.0, λ k c. f.1 k (chosen_of t type name arguments k c))
refused_in t type name arguments rule.NotOffered f = f
refused_in t type name arguments _ f = absurd f

-- ---- of a table that has the classes and methods of another, and nothing else

pub below_along : (t l : Table) (a b : Ty) → l ≡ classes_and_methods t → Below l.classes a b ↔ Below t.classes a b
below_along t l a b e = let P : Table → Type 0 = λ x. Below x.classes a b in (λ h. subst P e h, λ h. subst P (sym e) h)

pub chosen_along : (t l : Table) (type : Ty) (name : List ℕ) (arguments : List Ty) (k : ℕ) → l ≡ classes_and_methods t → Chosen l type name arguments k ↔ Chosen t type name arguments k
chosen_along t l type name arguments k e =
    let P : Table → Type 0 = λ x. Chosen x type name arguments k in
    (λ c. chosen_of t type name arguments k (subst P e c), λ c. subst P (sym e) (chosen_in t type name arguments k c))

pub refused_along : (t l : Table) (type : Ty) (name : List ℕ) (arguments : List Ty) (r : Rule) → l ≡ classes_and_methods t → Refused l type name arguments r ↔ Refused t type name arguments r
refused_along t l type name arguments r e =
    let P : Table → Type 0 = λ x. Refused x type name arguments r in
    (λ c. refused_of t type name arguments r (subst P e c), λ c. subst P (sym e) (refused_in t type name arguments r c))
