use Rattle.wy_tree.specs.Ast.{view}
use Rattle.wy_tree.specs.Tokens.{token_limit}
use Rattle.wy_watch.proofs.Texts.{declares, no_tree, only_those, tree_fits}
use Rattle.wy_watch.proofs.text.declared.Goals as goal

pub returns-in_default : goal.returns-in_default
returns-in_default c = λ all d. (rw c.in_default.is at c.in_ok-tokens.ensures.tokens) d.spans d.read

pub returns-in_default-2 : goal.returns-in_default-2
returns-in_default-2 c =
    let found = rw c.in-Some.is at c.in_ok-tokens.ensures.tokens in
    let lacks = rw (c.in_default-2.is, c.deref.ensures.value) at c.in_ok-tree.ensures in
    no_tree c.args.source.now c.in-Some.tokens.items found.1 lacks

pub unit-requires : goal.unit-requires
unit-requires c =
    let few = rw c.in-Some.is at c.in_ok-tokens.ensures.few in
    let tree = rw (c.in-Some-2.is, c.deref.ensures.value) at c.in_ok-tree.ensures in
    tree_fits c.in-Some.tokens.items (view c.in-Some-2.tree) token_limit few tree.0

pub returns : goal.returns
returns c =
    let found = rw c.in-Some.is at c.in_ok-tokens.ensures.tokens in
    let tree = rw (c.in-Some-2.is, c.deref.ensures.value) at c.in_ok-tree.ensures in
    let source = c.args.source.now in
    let ts = c.in-Some.tokens.items in
    let t = view c.in-Some-2.tree in
    rw c.in_ok-unit.ensures (declares source ts found.1 t found.0 tree.0 tree.1, only_those source ts found.1 t found.0 tree.0 tree.1)
