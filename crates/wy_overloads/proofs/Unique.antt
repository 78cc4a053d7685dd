-- At most one method is chosen: subtyping is antisymmetric, and of equivalent methods one counts.
use Rattle.std.proofs.Common.{◌≡◌, ℕ, ◌<◌, ◌≤◌, List, refl, sym, ◌∙◌, ap, subst, arith, inl, inr}
use Rattle.std.proofs.Math.Logic.{∥∥₁_elim}
use Rattle.std.proofs.Props.{props}
use Rattle.wy_kernel.specs.declared.operator.Primitive.{Primitive}
use Rattle.wy_kernel.specs.declared.types.Base.TheVariants.{Primitive as Basic, Class as Named}
use Rattle.wy_kernel.specs.declared.types.Ty.{Ty}
use Rattle.wy_kernel.specs.declared.types.Ty.TheVariants.{Of}
use Rattle.wy_kernel.specs.Program.{Class, Method}
use Rattle.wy_kernel.specs.Subtyping.{Supertype, itself, further, IsAcyclic, Substitutable, class_type}
use Rattle.wy_kernel.specs.Table.{Table, IsTable}
use Rattle.wy_constant.specs.declared.rule.Rule.TheVariants as rule
use Rattle.wy_overloads.specs.Choice.{EachBelow, none, more, Equivalent, IsNearest, HasLowestResult, Counts, nearest, lowest, Chosen}
use Rattle.wy_overloads.specs.Laws.{BelowIsAntisymmetric, OneIsChosen, OneRuleRefuses, NoneIsChosenAndRefused}
use Rattle.wy_overloads.proofs.Straight.{Straight, equal, upward, widening, null, object, array, straight, Widens, byte_to_short, byte_to_int, byte_to_long, short_to_int, short_to_long, char_to_int, char_to_long, int_to_long, further_up, above_object}
use Rattle.wy_overloads.specs.Lineage.{HasTop}
use Rattle.wy_overloads.proofs.Related.{top_of, deeper, class_below_class, primitive_below_primitive, below_null}

one_class : (classes : List Class) {c d : ℕ} → IsAcyclic classes → Supertype classes c d → Supertype classes d c → c ≡ d
one_class classes acyclic itself t = refl
one_class classes acyclic (further {c} {d} {e} h s) t = absurd (acyclic c d h (further_up classes s t))

narrower : {p q : Primitive} → Widens p q → Widens q p → ⊥
narrower byte_to_short w = elim w [ ]
narrower byte_to_int w = elim w [ ]
narrower byte_to_long w = elim w [ ]
narrower short_to_int w = elim w [ ]
narrower short_to_long w = elim w [ ]
narrower char_to_int w = elim w [ ]
narrower char_to_long w = elim w [ ]
narrower int_to_long w = elim w [ ]

above_object_alone : (classes : List Class) (c n : ℕ) → HasTop classes → Straight classes (Of (Named 0) n) (Of (Named c) n) → c ≡ 0
above_object_alone classes c n top s = elim (class_below_class classes 0 c n s) [ inl e ↦ e | inr t ↦ above_object classes top t refl ]

both_ways : (classes : List Class) {a b : Ty} → IsAcyclic classes → HasTop classes → Straight classes a b → Straight classes b a → a ≡ b
both_ways classes acyclic top equal t = refl
both_ways classes acyclic top (upward {c} {d} {n} s) t =
    elim (class_below_class classes d c n t) [
      | inl e ↦ (let P : ℕ → Type 0 = λ x. Supertype classes x d in let f : d ≡ 0 = above_object_alone classes d n top (upward (subst P e s)) in ap (λ x. Of (Named x) n) (e ∙ sym f))
      | inr u ↦ ap (λ x. Of (Named x) n) (one_class classes acyclic s u)
    ]
both_ways classes acyclic top (widening {p} {q} w) t =
    elim (primitive_below_primitive classes q p 0 t) [ inl e ↦ ap (λ x. Of (Basic x) 0) (sym e) | inr v ↦ absurd (narrower w v.1) ]
both_ways classes acyclic top (null r) t = sym (below_null classes t)
both_ways classes acyclic top (object {c} {n}) t = ap (λ x. Of (Named x) n) (above_object_alone classes c n top t)
both_ways classes acyclic top (array {a} {m} {n} lt) t =
    elim (deeper classes t) [ inl e ↦ absurd (omega arith) | inr d ↦ absurd (let less : m < n = d.0 in omega arith) ]

pub antisymmetric : BelowIsAntisymmetric
antisymmetric t a b g h k =
    let top = top_of t ∣ g ∣₁ in both_ways t.classes g.acyclic top (straight t.classes top h) (straight t.classes top k)

each_both_ways : (t : Table) {a b : List Ty} → IsTable t → EachBelow t.classes a b → EachBelow t.classes b a → a ≡ b
each_both_ways t g none s = refl
each_both_ways t g (more {a} {b} {rest} {others} h s) (more k u) =
    let e : a ≡ b = antisymmetric t a b g h k in let f : rest ≡ others = each_both_ways t g s u in cc

-- ---- of equivalent methods one counts

-- two methods of a type, each equivalent to the other
record Pair (t : Table) (type : Ty) (j k : ℕ) (m n : Method) : Type 0 where
  pub table : IsTable t
  pub one : Equivalent t type m k n
  pub other : Equivalent t type n j m

turned : (t : Table) (type : Ty) (j k : ℕ) (m n : Method) → Pair t type j k m n → Pair t type k j n m
turned t type j k m n p = record { table = p.table; one = p.other; other = p.one }

same_number : (j k : ℕ) → j ≤ k → k ≤ j → j ≡ k
same_number j k a b = omega arith

named_class : (c d : ℕ) → class_type c ≡ class_type d → c ≡ d
named_class c d e = cc

one_nearest : (t : Table) (type : Ty) (j k : ℕ) (m n : Method) → Pair t type j k m n → IsNearest t type j m → IsNearest t type k n → j ≡ k
one_nearest t type j k m n p a b =
    let there = a.nearest k n p.one in
    let back = b.nearest j m p.other in
    let same : m.class ≡ n.class = named_class m.class n.class (antisymmetric t (class_type m.class) (class_type n.class) p.table (there.above b.by_class) (back.above a.by_class)) in
    same_number j k (there.behind (sym same)) (back.behind same)

substituted : (t : Table) (a b : Ty) → IsTable t → Substitutable t.classes a b → Substitutable t.classes b a → a ≡ b
substituted t a b g h k =
    elim h [ inl e ↦ e | inr x ↦ elim k [ inl f ↦ sym f | inr y ↦ antisymmetric t a b g x.1 y.1 ] ]

one_lowest : (t : Table) (type : Ty) (j k : ℕ) (m n : Method) → Pair t type j k m n → HasLowestResult t type j m → HasLowestResult t type k n → j ≡ k
one_lowest t type j k m n p a b =
    let there = a k n p.one in
    let back = b j m p.other in
    let same : m.result ≡ n.result = substituted t m.result n.result p.table there.higher back.higher in
    same_number j k (there.behind (sym same)) (back.behind same)

one_counts : (t : Table) (type : Ty) (j k : ℕ) (m n : Method) → Pair t type j k m n → Counts t type j m → Counts t type k n → j ≡ k
one_counts t type j k m n p (nearest a concrete) (nearest b other) = one_nearest t type j k m n p a b
one_counts t type j k m n p (nearest a concrete) (lowest empty b) = absurd (empty (j, m, p.other, a, concrete))
one_counts t type j k m n p (lowest empty a) (nearest b concrete) = absurd (empty (k, n, p.one, b, concrete))
one_counts t type j k m n p (lowest empty a) (lowest vacant b) = one_lowest t type j k m n p a b

pub one_chosen : OneIsChosen
one_chosen t type name arguments j k g a b =
    let m = a.method in
    let n = b.method in
    let of_m = a.applicable.1.member in
    let of_n = b.applicable.1.member in
    let names : n.name ≡ m.name = of_n.named ∙ sym of_m.named in
    let params : m.params ≡ n.params = each_both_ways t g (a.most_specific k n b.applicable) (b.most_specific j m a.applicable) in
    one_counts t type j k m n
    (record {
      table = g;
      one = (b.applicable.0, record { member = record { named = names; declared = of_n.declared }; same = sym params });
      other = (a.applicable.0, record { member = record { named = sym names; declared = of_m.declared }; same = params });
    }) a.counts b.counts

pub one_chosen_in : (t : Table) (type : Ty) (name : List ℕ) (arguments : List Ty) (j k : ℕ) → ∥ IsTable t ∥₁ → Chosen t type name arguments j → Chosen t type name arguments k → j ≡ k
one_chosen_in t type name arguments j k g a b = ∥∥₁_elim g (hlevel props) (λ g'. one_chosen t type name arguments j k g' a b)

-- ---- one rule refuses, and only where none is chosen

pub none_chosen_and_refused : NoneIsChosenAndRefused
none_chosen_and_refused t type name arguments k rule.NoMethod c r = r.0 (k, c.method, c.applicable)
none_chosen_and_refused t type name arguments k rule.Ambiguous c r = r.1 k c
none_chosen_and_refused t type name arguments k rule.NotOffered c r = r.1 (k, c.method, (c.applicable.0, c.applicable.1.member))
none_chosen_and_refused t type name arguments k _ c r = absurd r

pub one_rule : OneRuleRefuses
one_rule t type name arguments rule.NoMethod rule.NoMethod r s = refl
one_rule t type name arguments rule.NoMethod rule.Ambiguous r s = absurd (r.0 s.0)
one_rule t type name arguments rule.NoMethod rule.NotOffered r s = absurd (r.1 s)
one_rule t type name arguments rule.Ambiguous rule.NoMethod r s = absurd (s.0 r.0)
one_rule t type name arguments rule.Ambiguous rule.Ambiguous r s = refl
one_rule t type name arguments rule.Ambiguous rule.NotOffered r s = let (k, m, a) = r.0 in absurd (s.1 (k, m, (a.0, a.1.member)))
one_rule t type name arguments rule.NotOffered rule.NoMethod r s = absurd (s.1 r)
one_rule t type name arguments rule.NotOffered rule.Ambiguous r s = let (k, m, a) = s.0 in absurd (r.1 (k, m, (a.0, a.1.member)))
one_rule t type name arguments rule.NotOffered rule.NotOffered r s = refl
one_rule t type name arguments rule.NoMethod _ r s = absurd s
one_rule t type name arguments rule.Ambiguous _ r s = absurd s
one_rule t type name arguments rule.NotOffered _ r s = absurd s
one_rule t type name arguments _ b r s = absurd r
