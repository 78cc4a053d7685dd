-- What a statement in memory says, at each of its forms.
use Rattle.std.proofs.Common.{◌≡◌, ap, sym, ◌∙◌, map, ℕ, Bool, Option, Some, option_map}
use Rattle.std.specs.Prelude.{None}
use Rattle.std.specs.declared.alloc.Global.{Global}
use Rattle.std.specs.declared.boxed.Box.{Box}
use Rattle.std.specs.declared.vec.Vec.{Vec}
use Rattle.wy_syntax.specs.declared.name.Named.{Named}
use Rattle.wy_syntax.specs.declared.name.WrittenType.{WrittenType}
use Rattle.wy_syntax.specs.declared.expression.Expression.{Expression}
use Rattle.wy_syntax.specs.declared.statement.Declarator.{Declarator}
use Rattle.wy_syntax.specs.declared.statement.Effect.{Effect}
use Rattle.wy_syntax.specs.declared.statement.ForInit.{ForInit}
use Rattle.wy_syntax.specs.declared.statement.Statement.{Statement}
use Rattle.wy_syntax.specs.declared.statement.Catch.{Catch}
use Rattle.wy_syntax.specs.declared.statement.Block.{Block}
use Rattle.wy_syntax.specs.declared.statement.Statement.TheOpen as layer
use Rattle.wy_syntax.specs.declared.statement.Statement.TheVariants as acts
use Rattle.wy_syntax.specs.declared.statement.Statement.TheFolds.{fold-roll-Statement, fold_out-Catch, fold_out-Block}
use Rattle.wy_syntax.specs.Syntax as plain
use Rattle.wy_syntax.specs.View.{Clause, statement_step, block_step, catch_step, statement_of, clause_of, block_of, body_of, other_body_of, statements_of, clauses_of, last_of, named_of, type_seen, declarators_of, effect_of, for_init_of, expression_of}

pub view_block : (block : Block) → statement_of (acts.Block block) ≡ plain.Statement.Block (block_of block)
unfolding statement_of clause_of block_of
view_block block = ap statement_of (sym (acts.rolls-Block block)) ∙ fold-roll-Statement plain.Statement plain.Braced Clause statement_step block_step catch_step (layer.Block block)

pub view_empty : (token : ℕ) → statement_of (acts.Empty token) ≡ plain.Empty token
unfolding statement_of clause_of block_of
view_empty token = ap statement_of (sym (acts.rolls-Empty token)) ∙ fold-roll-Statement plain.Statement plain.Braced Clause statement_step block_step catch_step (layer.Empty token)

pub view_declare : (is_final : Bool) (ty : WrittenType) (all : Vec Declarator Global) → statement_of (acts.Declare is_final ty all) ≡ plain.Declare is_final (type_seen ty) (declarators_of all)
unfolding statement_of clause_of block_of
view_declare is_final ty all = ap statement_of (sym (acts.rolls-Declare is_final ty all)) ∙ fold-roll-Statement plain.Statement plain.Braced Clause statement_step block_step catch_step (layer.Declare is_final ty all)

pub view_effect : (effect : Effect) → statement_of (acts.Effect effect) ≡ plain.Perform (effect_of effect)
unfolding statement_of clause_of block_of
view_effect effect = ap statement_of (sym (acts.rolls-Effect effect)) ∙ fold-roll-Statement plain.Statement plain.Braced Clause statement_step block_step catch_step (layer.Effect effect)

pub view_while : (test : Expression) (body : Box Statement Global) (token : ℕ) → statement_of (acts.While test body token) ≡ plain.While (expression_of test) (statement_of body.value) token
unfolding statement_of clause_of block_of
view_while test body token = ap statement_of (sym (acts.rolls-While test body token)) ∙ fold-roll-Statement plain.Statement plain.Braced Clause statement_step block_step catch_step (layer.While test body token)

pub view_do : (body : Box Statement Global) (test : Expression) (token : ℕ) → statement_of (acts.Do body test token) ≡ plain.Do (statement_of body.value) (expression_of test) token
unfolding statement_of clause_of block_of
view_do body test token = ap statement_of (sym (acts.rolls-Do body test token)) ∙ fold-roll-Statement plain.Statement plain.Braced Clause statement_step block_step catch_step (layer.Do body test token)

pub view_for : (init : ForInit) (test : Option Expression) (updates : Vec Effect Global) (body : Box Statement Global) (token : ℕ) → statement_of (acts.For init test updates body token) ≡ plain.For (for_init_of init) (option_map expression_of test) (map effect_of updates.items) (statement_of body.value) token
unfolding statement_of clause_of block_of
view_for init test updates body token = ap statement_of (sym (acts.rolls-For init test updates body token)) ∙ fold-roll-Statement plain.Statement plain.Braced Clause statement_step block_step catch_step (layer.For init test updates body token)

pub view_labelled : (name : Named) (body : Box Statement Global) → statement_of (acts.Labelled name body) ≡ plain.Labelled (named_of name) (statement_of body.value)
unfolding statement_of clause_of block_of
view_labelled name body = ap statement_of (sym (acts.rolls-Labelled name body)) ∙ fold-roll-Statement plain.Statement plain.Braced Clause statement_step block_step catch_step (layer.Labelled name body)

pub view_break : (label : Option Named) (token : ℕ) → statement_of (acts.Break label token) ≡ plain.Break (option_map named_of label) token
unfolding statement_of clause_of block_of
view_break label token = ap statement_of (sym (acts.rolls-Break label token)) ∙ fold-roll-Statement plain.Statement plain.Braced Clause statement_step block_step catch_step (layer.Break label token)

pub view_continue : (label : Option Named) (token : ℕ) → statement_of (acts.Continue label token) ≡ plain.Continue (option_map named_of label) token
unfolding statement_of clause_of block_of
view_continue label token = ap statement_of (sym (acts.rolls-Continue label token)) ∙ fold-roll-Statement plain.Statement plain.Braced Clause statement_step block_step catch_step (layer.Continue label token)

pub view_return : (value : Option Expression) (token : ℕ) → statement_of (acts.Return value token) ≡ plain.Return (option_map expression_of value) token
unfolding statement_of clause_of block_of
view_return value token = ap statement_of (sym (acts.rolls-Return value token)) ∙ fold-roll-Statement plain.Statement plain.Braced Clause statement_step block_step catch_step (layer.Return value token)

pub view_throw : (value : Expression) (token : ℕ) → statement_of (acts.Throw value token) ≡ plain.Throw (expression_of value) token
unfolding statement_of clause_of block_of
view_throw value token = ap statement_of (sym (acts.rolls-Throw value token)) ∙ fold-roll-Statement plain.Statement plain.Braced Clause statement_step block_step catch_step (layer.Throw value token)

pub view_if : (test : Expression) (main : Box Statement Global) (other : Option (Box Statement Global)) (token : ℕ) → statement_of (acts.If test main other token) ≡ plain.If (expression_of test) (body_of main) (other_body_of other) token
unfolding statement_of clause_of block_of
view_if test main None token = ap statement_of (sym (acts.rolls-If test main None token)) ∙ fold-roll-Statement plain.Statement plain.Braced Clause statement_step block_step catch_step (layer.If test main None token)
view_if test main (Some other) token = ap statement_of (sym (acts.rolls-If test main (Some other) token)) ∙ fold-roll-Statement plain.Statement plain.Braced Clause statement_step block_step catch_step (layer.If test main (Some other) token)

pub view_try : (main : Block) (catches : Vec Catch Global) (last : Option Block) (token : ℕ) → statement_of (acts.Try main catches last token) ≡ plain.Try (block_of main) (clauses_of (map clause_of catches.items)) (last_of (option_map block_of last)) token
unfolding statement_of clause_of block_of
view_try main catches None token = ap statement_of (sym (acts.rolls-Try main catches None token)) ∙ fold-roll-Statement plain.Statement plain.Braced Clause statement_step block_step catch_step (layer.Try main catches None token)
view_try main catches (Some last) token = ap statement_of (sym (acts.rolls-Try main catches (Some last) token)) ∙ fold-roll-Statement plain.Statement plain.Braced Clause statement_step block_step catch_step (layer.Try main catches (Some last) token)

pub view_wrong : statement_of acts.Wrong ≡ plain.Statement.Unknown
unfolding statement_of clause_of block_of
view_wrong = ap statement_of (sym acts.rolls-Wrong) ∙ fold-roll-Statement plain.Statement plain.Braced Clause statement_step block_step catch_step layer.Wrong

pub view_clause : (c : Catch) (rest : plain.Catches) → clause_of c rest ≡ plain.catch c.is_final (named_of c.class) (named_of c.name) (block_of c.block) rest
unfolding statement_of clause_of block_of
view_clause c rest = ap (λ f. f rest) (fold_out-Catch plain.Statement plain.Braced Clause statement_step block_step catch_step c)

pub view_braced : (b : Block) → block_of b ≡ plain.braced b.brace (statements_of (map statement_of b.parts.items)) b.end
unfolding statement_of clause_of block_of
view_braced b = fold_out-Block plain.Statement plain.Braced Clause statement_step block_step catch_step b
