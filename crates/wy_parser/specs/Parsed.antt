-- What the code returns, as a reading.
use Rattle.std.specs.Prelude.{◌≡◌, ◌≤◌, ◌<◌, ◌+◌, ℕ, List, [], ◌∷◌, length, Option, Some, None, Result, Ok, Err}
use Rattle.wy_tree.specs.Seen.{Tok}
use Rattle.wy_tree.specs.Ast.{Ast, Asts, view, views}
use Rattle.wy_tree.specs.declared.grammar.Sort.TheVariants as sorts
use Rattle.wy_parser.specs.Symbols.{symbols_seen}
use Rattle.wy_parser.specs.Reading.{Read, Grown, Stay, Wrong, Onto, run}
use Rattle.wy_tree.specs.declared.tree.Tree.{Tree}
use Rattle.wy_parser.specs.declared.parse.ParseError.{ParseError}
use Rattle.wy_parser.specs.declared.parse.ParseError.TheVariants as errors
use Rattle.wy_parser.specs.declared.symbol.Symbol.{Symbol}
use Rattle.wy_parser.specs.declared.part.Sub.{Sub}
use Rattle.wy_parser.specs.declared.part.PartList.{PartList}
use Rattle.wy_parser.specs.declared.stop.Stop.{Stop}
use Rattle.wy_parser.specs.declared.stop.Stop.TheVariants as stops
use Rattle.wy_parser.specs.declared.stop.Growth.{Growth}
use Rattle.wy_parser.specs.declared.stop.Growth.TheVariants as growths

abbrev pub Fails : {A : Type 0} → Stop → Option A → Type 0
Fails stops.NoTree read = read ≡ None
Fails stops.Memory read = Unit {0}

-- What a function returned, seen by a view, is what reading gives, unless memory ran out.
abbrev pub Gives : {X A : Type 0} → (X → A) → Result X Stop → Option A → Type 0
Gives see (Ok x) read = read ≡ Some (see x)
Gives see (Err e) read = Fails e read

abbrev pub LooksAt : Stop → ℕ → ℕ → Type 0
LooksAt stops.NoTree seen n = seen ≡ n
LooksAt stops.Memory seen n = Unit {0}

-- What a function looked at, of which it tells the last, unless memory ran out.
abbrev pub Looks : {X : Type 0} → Result X Stop → ℕ → ℕ → Type 0
Looks (Ok x) seen n = seen ≡ n
Looks (Err e) seen n = LooksAt e seen n

abbrev pub read_of : Sub → List Symbol → Ast × List Tok
read_of t rest = (view t.tree, symbols_seen rest)

abbrev pub parts_of : PartList → List Symbol → Asts × List Tok
parts_of ts rest = (views ts.items.items, symbols_seen rest)

abbrev pub Grown_as : Growth → Ast → Grown → Type 0
Grown_as (growths.Stayed t) l g = (g ≡ Stay) × (view t.tree ≡ l)
Grown_as (growths.Grew t rest) l g = g ≡ Onto (view t.tree) (symbols_seen rest.now)

abbrev pub FailsGrown : Stop → Grown → Type 0
FailsGrown stops.NoTree g = g ≡ Wrong
FailsGrown stops.Memory g = Unit {0}

-- What a function returned is how the tree grows, unless memory ran out.
abbrev pub GivesGrown : Result Growth Stop → Ast → Grown → Type 0
GivesGrown (Ok x) l g = Grown_as x l g
GivesGrown (Err e) l g = FailsGrown e g

-- it is deeper than it was, and no deeper than it may be
abbrev pub Deepens : Growth → ℕ → ℕ → Type 0
Deepens (growths.Stayed t) depth d = t.depth ≡ depth
Deepens (growths.Grew t rest) depth d = (depth < t.depth) × (t.depth ≤ d + 1)

-- no token was added
abbrev pub Shortens : Growth → ℕ → Type 0
Shortens (growths.Stayed t) n = Unit {0}
Shortens (growths.Grew t rest) n = length rest.now ≤ n

-- the tree that all the tokens are
abbrev pub without_rest : Read → Option Ast
without_rest None = None
without_rest (Some (t, [])) = Some t
without_rest (Some (t, o ∷ s)) = None

unfoldable pub whole : List Tok → Option Ast
whole s = without_rest (run 300 sorts.Unit s)

-- What parsing returned is this tree or none, unless memory ran out.
abbrev pub Refuses : ParseError → Option Ast → Type 0
Refuses (errors.Syntax at) tree = tree ≡ None
Refuses errors.NoMemory tree = Unit {0}

abbrev pub Tells : Result Tree ParseError → Option Ast → Type 0
Tells (Ok t) tree = tree ≡ Some (view t)
Tells (Err e) tree = Refuses e tree

-- What is named is the last token that was looked at, of so many.
abbrev pub NamesLast : ParseError → ℕ → ℕ → Type 0
NamesLast (errors.Syntax at) total n = at + n ≡ total
NamesLast errors.NoMemory total n = Unit {0}

abbrev pub IsSyntax : ParseError → Type 0
IsSyntax (errors.Syntax at) = Unit {0}
IsSyntax errors.NoMemory = ⊥
