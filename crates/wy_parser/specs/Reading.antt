-- Reading trees off the front of a list of tokens: the rules of the grammar, with the way that is taken at each choice.
use Rattle.std.specs.Prelude.{ℕ, zero, suc, ◌+◌, ◌*◌, Bool, true, false, List, [], ◌∷◌, ◌++◌, length, Option, Some, None, nat_le}
use Rattle.wy_tree.specs.Seen.{Tok}
use Rattle.wy_tree.specs.Kinds.{kind_of}
use Rattle.wy_tree.specs.Ast.{Ast, Asts, Leaf, Node, none, more, deepest}
use Rattle.wy_tree.specs.Conditions.{fine, joins}
use Rattle.wy_tree.specs.Grammar.{allows, form_of, rule}
use Rattle.wy_tree.specs.declared.grammar.Class.{Class}
use Rattle.wy_tree.specs.declared.grammar.Sort.{Sort}
use Rattle.wy_tree.specs.declared.grammar.Item.{Item}
use Rattle.wy_tree.specs.declared.grammar.Item.TheVariants.{One, Part, Parts}
use Rattle.wy_parser.specs.Prediction.{predict, continued}

-- a tree, or several, and the tokens after them
abbrev pub Read : Type 0
Read = Option (Ast × List Tok)

abbrev pub ReadAll : Type 0
ReadAll = Option (Asts × List Tok)

abbrev pub Reader : Type 0
Reader = Sort → List Tok → Read

abbrev pub read_then : {A B : Type 0} → Option (A × List Tok) → (A → List Tok → Option B) → Option B
read_then None go = None
read_then (Some x) go = go x.0 x.1

abbrev pub guard : {A : Type 0} → Bool → Option A → Option A
guard true r = r
guard false r = None

-- a token of a class at the front, and those after it
unfoldable pub taken : Class → List Tok → Option (Tok × List Tok)
taken c [] = None
taken c (o ∷ s) = guard (allows c (kind_of o)) (Some (o, s))

-- this tree before those that are read
abbrev pub before : Ast → ReadAll → ReadAll
before t r = read_then r (λ ts s. Some (more t ts, s))

-- Parts for items, in at most k - 1 steps. The first tree is read by `first`, the others by `next`.
unfoldable pub parts : Reader → Reader → ℕ → List Item → List Tok → ReadAll
parts first next zero items s = None
parts first next (suc k) [] s = Some (none, s)
parts first next (suc k) (One c ∷ items) s = read_then (taken c s) (λ o r. before (Leaf o) (parts next next k items r))
parts first next (suc k) (Part x ∷ items) s = read_then (first x s) (λ t r. before t (parts next next k items r))
parts first next (suc k) (Parts row ∷ items) s = parts first next k (predict row s ++ items) s

-- steps that suffice
abbrev pub steps : List Tok → ℕ
steps s = 4 * length s + 8

-- the tree that a production makes of parts, of depth at most d + 1
abbrev pub closed_by : ℕ → Sort → Asts → List Tok → Read
closed_by d x (more t none) s = Some (t, s)
closed_by d x ts s = guard (nat_le (deepest ts) d) (Some (Node (form_of x) ts, s))

unfoldable pub closed : ℕ → Sort → Asts → List Tok → Read
closed d x ts s = guard (fine x ts) (closed_by d x ts s)

-- What may be put around a tree and what follows it: nothing, or this tree and what follows then, or what stands there is wrong.
pub data Grown : Type 0 where
  Stay : Grown
  Wrong : Grown
  Onto : Ast → List Tok → Grown

abbrev pub onto : Read → Grown
onto None = Wrong
onto (Some x) = Onto x.0 x.1

abbrev pub grown_by : Grown → (Ast → List Tok → Read) → Read → Read
grown_by Stay go stay = stay
grown_by Wrong go stay = None
grown_by (Onto t s) go stay = go t s

-- grows as long as it can, at most k - 1 times
unfoldable pub growing : (Ast → List Tok → Grown) → ℕ → Ast → List Tok → Read
growing grow zero l s = None
growing grow (suc k) l s = grown_by (grow l s) (growing grow k) (Some (l, s))

-- a tree with what follows it
unfoldable pub around : ℕ → Sort → Ast → Asts → List Tok → Read
around d x l ts s = guard (joins l ts) (guard (nat_le (deepest (more l ts)) d) (Some (Node (form_of x) (more l ts), s)))

abbrev pub grow_by : Reader → ℕ → Sort → Ast → Option (List Item) → List Tok → Grown
grow_by next d x l None s = Stay
grow_by next d x l (Some items) s = onto (read_then (parts next next (steps s) items s) (around d x l))

unfoldable pub grow : Reader → ℕ → Sort → Ast → List Tok → Grown
grow next d x l s = grow_by next d x l (continued x s) s

unfoldable pub base : Reader → Reader → ℕ → Sort → List Tok → Read
base first next d x s = read_then (parts first next (steps s) (rule x) s) (closed d x)

-- A tree of depth at most d + 1. Its first part is read by `first`, the others by `next`, to a depth of d.
abbrev pub step : Reader → Reader → ℕ → Sort → List Tok → Read
step first next d x s = read_then (base first next d x s) (growing (grow next d x) (suc (suc d)))

-- at most `rank` sorts begin with one another
unfoldable pub ranked : Reader → ℕ → ℕ → Reader
ranked next d zero x s = None
ranked next d (suc rank) x s = step (ranked next d rank) next d x s

-- a tree of depth at most d, where at most `rank` sorts begin with one another
unfoldable pub reader : ℕ → ℕ → Reader
reader zero rank x s = None
reader (suc d) rank x s = ranked (reader d 24) d rank x s

-- a tree of depth at most d
abbrev pub run : ℕ → Reader
run d = reader d 24
