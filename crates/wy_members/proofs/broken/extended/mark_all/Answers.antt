use Rattle.std.proofs.Common.{◌≡◌, ◌⊎◌, ℕ, ◌<◌, ◌≤◌, ◌+◌, length, arith, below_more, inl, inr, List, Option, Some, subst, sym}
use Rattle.std.specs.List.{Contains}
use Rattle.std.proofs.lemmas.Bool.{cases_lt}
use Rattle.wy_kernel.specs.Program.{Class}
use Rattle.wy_kernel.specs.Subtyping.{direct_supertypes, named_above}
use Rattle.wy_kernel.specs.View.{class_of}
use Rattle.wy_overloads.specs.LineageView.{lineage_of}
use Rattle.wy_members.specs.Alike.{IsMarked}
use Rattle.wy_overloads.proofs.Related.{none_above}
use Rattle.wy_members.proofs.broken.extended.mark_all.Goals as goal

named_within : (classes : List Class) (e d n : ℕ) → length classes ≤ n → Contains (direct_supertypes classes e) d → e < n
named_within classes e d n all contains = by_order (cases_lt e n)
  where
    by_order : (e < n) ⊎ (n ≤ e) → e < n
    by_order (inl less) = less
    by_order (inr past) = none_above classes e d (let k : length classes ≤ e = omega arith in k) contains

pub loop-c-preserved : goal.loop-c-preserved
unfolding direct_supertypes
loop-c-preserved c =
    let classes = (lineage_of c.args.lineage.now).classes in
    let marks = c.mark_above.new.marks in
    let Above : Option Class → Type 0 = λ o. (d : ℕ) → Contains (named_above o) d → IsMarked marks d in
    record {
      object = c.mark_above.ensures.kept 0 c.loop-c.invariant.object;
      each = λ e d less contains. below_more (λ i. (x : ℕ) → Contains (direct_supertypes classes i) x → IsMarked marks x) c.loop-c.c
          (λ i before x h. c.mark_above.ensures.kept x (c.loop-c.invariant.each i x before h))
          (subst Above (sym c.class.ensures) c.mark_above.ensures.above) e less d contains;
    }

pub returns : goal.returns
returns c d extended =
    let classes = (lineage_of c.args.lineage.now).classes in
    let marks = c.loop-c.marks in
    let all : length classes ≤ c.loop-c.c = omega (arith, c.loop-c-test.false, c.classes-c-end.ensures) in
    elim extended [
      | inl object ↦ subst (λ (x : ℕ). IsMarked marks x) (sym object) c.loop-c.invariant.object
      | inr named ↦ c.loop-c.invariant.each named.0 d (named_within classes named.0 d c.loop-c.c all named.1) named.1
    ]
