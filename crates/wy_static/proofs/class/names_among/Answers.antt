use Rattle.std.proofs.Common.{List, All, length, take_all, subst}
use Rattle.std.proofs.lemmas.List.Elements.{All-more}
use Rattle.wy_kernel.specs.View.{class_of}
use Rattle.wy_kernel.specs.declared.types.Class.{Class}
use Rattle.wy_static.proofs.Naming.{NamesBelow, all_among}
use Rattle.wy_static.proofs.class.names_among.Goals as goal

pub loop-class-preserved : goal.loop-class-preserved
loop-class-preserved c =
    let classes = c.args.classes.now in
    let names : Class → Type 0 = λ k. NamesBelow (length classes) (class_of k) in
    let item = c.class-item.result in
    All-more names classes c.loop-class.class-index item c.loop-class-test.true c.loop-class.invariant (subst names c.class-item.is (c.is_among.ensures c.if-not-is_among.false))

pub returns : goal.returns
returns c = λ yes.
    let classes = c.args.classes.now in
    let names : Class → Type 0 = λ k. NamesBelow (length classes) (class_of k) in
    all_among class_of classes (subst (λ (xs : List Class). All names xs) (take_all c.loop-class.class-index classes c.loop-class-test.false) c.loop-class.invariant)
