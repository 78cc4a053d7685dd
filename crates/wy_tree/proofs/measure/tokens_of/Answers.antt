use Rattle.std.proofs.Common.{ap, ◌∙◌, reverse}
use Rattle.wy_tree.specs.Ast.{views, views_of, joined}
use Rattle.wy_tree.proofs.Pending.{leaf_smaller, leaf_kept, node_smaller, node_kept}
use Rattle.wy_tree.proofs.measure.tokens_of.Goals as goal

pub loop-next-smaller-in_ok-push-in-Leaf : goal.loop-next-smaller-in_ok-push-in-Leaf
loop-next-smaller-in_ok-push-in-Leaf c = leaf_smaller _ _ c.in-Some.next _ c.in-Some.ensures.items c.in-Leaf.is

pub loop-next-preserved-in_ok-push-in-Leaf : goal.loop-next-preserved-in_ok-push-in-Leaf
loop-next-preserved-in_ok-push-in-Leaf c = leaf_kept _ _ c.in-Some.next _ _ _ _ _ c.in-Some.ensures.items c.in-Leaf.is c.in_ok-push-in-Leaf.ensures.items c.in_ok-copied-in-Leaf.ensures c.loop-next.invariant

pub loop-next-smaller : goal.loop-next-smaller
loop-next-smaller c = node_smaller _ _ c.put_parts.new.pending.items c.in-Some.next _ _ c.in-Some.ensures.items c.in-Node.is (c.in_ok-put_parts-in-Node.ensures ∙ ap (λ z. joined (views z) (views_of (reverse c.pop.new.self.items))) c.deref.ensures.value)

pub loop-next-preserved : goal.loop-next-preserved
loop-next-preserved c = node_kept _ _ c.put_parts.new.pending.items c.in-Some.next _ _ _ _ c.in-Some.ensures.items c.in-Node.is (c.in_ok-put_parts-in-Node.ensures ∙ ap (λ z. joined (views z) (views_of (reverse c.pop.new.self.items))) c.deref.ensures.value) c.loop-next.invariant
