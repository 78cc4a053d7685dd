use Rattle.std.proofs.Common.{map}
use Rattle.wy_syntax.specs.View.{named_of}
use Rattle.wy_declaration.proofs.Rows.{nothing, carried}
use Rattle.wy_declaration.proofs.Classes.{implemented_brace, implemented_here, implemented_on, implemented_end}
use Rattle.wy_declaration.proofs.class.implemented.Goals as goal

pub returns-then-is_leaf : goal.returns-then-is_leaf
returns-then-is_leaf c = nothing named_of _ _ c.new.ensures.items (implemented_brace _ _ _ _ c.in-Some.ensures.parts (cc) c.loop-part.invariant)

pub returns-then-is_leaf-2 : goal.returns-then-is_leaf-2
returns-then-is_leaf-2 c =
    carried _ (λ found. map named_of found.items) _ _ (implemented_here _ _ _ _ c.in-Some.ensures.parts (cc) (cc) c.loop-part.invariant) c.names_behind.ensures

pub loop-part-preserved : goal.loop-part-preserved
loop-part-preserved c = implemented_on _ _ _ _ c.in-Some.ensures.parts (cc) (cc) c.loop-part.invariant

pub returns : goal.returns
returns c = nothing named_of _ _ c.new-2.ensures.items (implemented_end _ _ c.in_default.ensures.parts c.loop-part.invariant)
