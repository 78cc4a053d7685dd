-- A text has at most one value: it has one list of tokens, which have one tree, which declares one expression.
use Rattle.std.proofs.Common.{◌≡◌, ◌∙◌, ℕ, List, Option, Some, map, sym, ap}
use Rattle.std.specs.Prelude.{unwrap_or}
use Rattle.wy_tree.specs.Tokens.{SpannedToken}
use Rattle.wy_tree.specs.TokenLaws.{OneTokenList}
use Rattle.wy_tree.specs.Trees.{OneTree}
use Rattle.wy_syntax.specs.Syntax.{Declaration, Expression}
use Rattle.wy_syntax.specs.Declarations.{unit}
use Rattle.wy_watch.specs.Sight.{sight_at}
use Rattle.wy_watch.specs.Value.{value}
use Rattle.wy_watch.specs.Watch.{OneValue}
use Rattle.wy_watch.specs.Watched.{Declares, IsWatched, of_class, wrapped}

some_once : {X : Type 0} (o : Option X) (x y : X) → o ≡ Some x → o ≡ Some y → x ≡ y
some_once o x y a b = ap (λ p. unwrap_or p x) (sym a ∙ b)

module _ (one_list : OneTokenList) (one_tree : OneTree) where
  declared_once : (source : List ℕ) (all others : List Declaration) → Declares source all → Declares source others → all ≡ others
  declared_once source all others a b =
      let same : a.spans ≡ b.spans = one_list source a.spans b.spans a.read b.read in
      let leaves = a.reads.1 ∙ ap (map (λ (t : SpannedToken). t.token)) same ∙ sym b.reads.1 in
      sym a.declared ∙ ap (unit 0) (one_tree a.tree b.tree a.reads.0 b.reads.0 leaves) ∙ b.declared

  watched_once : (text : List ℕ) (e f : Expression) → IsWatched text e → IsWatched text f → e ≡ f
  watched_once text e f a b =
      some_once (of_class b.all) e f (ap of_class (sym (declared_once (wrapped text) a.all b.all a.declares b.declares)) ∙ a.is) b.is

  pub one_value : OneValue
  one_value p rs m text v w a b =
      let same = watched_once text a.expression b.expression a.watched b.watched in
      some_once (value (sight_at p rs m) b.expression) v w (ap (value (sight_at p rs m)) (sym same) ∙ a.is) b.is
