use Rattle.std.proofs.Common.{◌-◌, ap, sym, ◌∙◌, length, take, arith}
use Rattle.wy_declaration.specs.Parts.{parts_of}
use Rattle.wy_declaration.proofs.Split.{count_of}
use Rattle.wy_declaration.proofs.Classes.{seen_begin, seen_go, seen_method, seen_alone, seen_end}
use Rattle.wy_declaration.proofs.class.front_method.Goals as goal

pub loop-part-init : goal.loop-part-init
loop-part-init c = seen_begin _ _ (sym (count_of c.args.parts))

pub front-requires : goal.front-requires
front-requires c = omega (arith, count_of c.args.parts, c.loop-part.invariant.within)

pub returns-in_default-split : goal.returns-in_default-split
returns-in_default-split c = seen_alone _ _ _ _ _ c.loop-part.invariant c.in-Some.ensures.parts c.in_default-split.ensures.parts

pub returns-then-is_leaf : goal.returns-then-is_leaf
returns-then-is_leaf c =
    let front = c.front.ensures ∙ ap (λ n. take (n - length c.loop-part.left.trees.now) (parts_of c.args.parts)) (sym (count_of c.args.parts)) in
    record {
      methods = seen_method _ _ _ _ _ _ _ _ c.loop-part.invariant c.in-Some.ensures.parts c.in-Some-split.ensures.parts (cc) front;
      fewer = omega (arith, count_of c.args.parts, c.in-Some.ensures.count, c.loop-part.invariant.within);
    }

pub loop-part-preserved : goal.loop-part-preserved
loop-part-preserved c = seen_go _ _ _ _ _ _ _ _ c.loop-part.invariant c.in-Some.ensures.parts c.in-Some-split.ensures.parts c.in-Some.ensures.count (cc)

pub returns : goal.returns
returns c = seen_end _ _ _ c.loop-part.invariant c.in_default.ensures.parts
