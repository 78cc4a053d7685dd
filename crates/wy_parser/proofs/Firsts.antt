-- How trees and rows of the grammar begin.
use Rattle.std.proofs.Common.{ℕ, zero, suc, Bool, true, false, ◌||◌, ◌&&◌, ◌≡◌, ◌<◌, List, [], ◌∷◌, ◌++◌, length, get_or, refl, sym, ◌∙◌, ap, subst, append_assoc, append-nil, arith}
use Rattle.wy_tree.specs.Seen.{Tok}
use Rattle.wy_tree.specs.Kinds.{same}
use Rattle.wy_tree.specs.Ast.{Ast, Asts, none, more, node, tokens, tokens_all}
use Rattle.wy_tree.specs.Grammar as grammar
use Rattle.wy_tree.specs.Grammar.{a, name, allows, form_of, rule, Alternative, Is, made, grown, Match, done, token, part, chosen}
use Rattle.wy_tree.specs.declared.tree.Form.{Form}
use Rattle.wy_tree.specs.declared.kind.Kind.{Kind}
use Rattle.wy_tree.specs.declared.kind.Kind.TheVariants as kinds
use Rattle.wy_tree.specs.declared.grammar.Class.TheVariants.{Element, Modifying, Own, Prefixing, Setting}
use Rattle.wy_tree.specs.declared.grammar.Sort.{Sort}
use Rattle.wy_tree.specs.declared.grammar.Sort.TheVariants as sorts
use Rattle.wy_tree.specs.declared.grammar.Row.{Row}
use Rattle.wy_tree.specs.declared.grammar.Row.TheVariants as rows
use Rattle.wy_tree.specs.declared.grammar.Item.{Item}
use Rattle.wy_tree.specs.declared.grammar.Item.TheVariants.{One, Part, Parts}
use Rattle.wy_parser.specs.Prediction.{first_kind}
use Rattle.wy_parser.proofs.Truth.{and_left, and_right, or_left, or_right}

-- one of these kinds
abbrev pub within : List Kind → Kind → Bool
within [] k = false
within (j ∷ js) k = same k j || within js k

abbrev operand : List Kind
operand = kinds.Word ∷ kinds.Override ∷ kinds.Literal ∷ kinds.This ∷ kinds.Super ∷ kinds.New ∷ kinds.OpenParen ∷ kinds.Plus ∷ kinds.Minus ∷ kinds.Flip ∷ kinds.Step ∷ []

abbrev pub begins : Sort → Kind → Bool
begins sorts.Unit k = true
begins sorts.Declaration k = within (kinds.Modifier ∷ kinds.Static ∷ kinds.Final ∷ kinds.At ∷ kinds.Class ∷ kinds.Interface ∷ kinds.Semicolon ∷ []) k
begins sorts.Class k = within (kinds.Modifier ∷ kinds.Static ∷ kinds.Final ∷ kinds.At ∷ kinds.Class ∷ []) k
begins sorts.Interface k = within (kinds.Modifier ∷ kinds.Static ∷ kinds.Final ∷ kinds.At ∷ kinds.Interface ∷ []) k
begins sorts.Mod k = within (kinds.Modifier ∷ kinds.Static ∷ kinds.Final ∷ kinds.At ∷ []) k
begins sorts.Member k = within (kinds.Word ∷ kinds.Override ∷ kinds.Prim ∷ kinds.Modifier ∷ kinds.Static ∷ kinds.Final ∷ kinds.At ∷ kinds.Void ∷ kinds.OpenBrace ∷ kinds.Semicolon ∷ []) k
begins sorts.Params k = within (kinds.OpenParen ∷ []) k
begins sorts.Param k = within (kinds.Word ∷ kinds.Override ∷ kinds.Prim ∷ kinds.Final ∷ []) k
begins sorts.Throws k = within (kinds.Throws ∷ []) k
begins sorts.Result k = within (kinds.Word ∷ kinds.Override ∷ kinds.Prim ∷ kinds.Void ∷ []) k
begins sorts.Type k = within (kinds.Word ∷ kinds.Override ∷ kinds.Prim ∷ []) k
begins sorts.RefType k = within (kinds.Word ∷ kinds.Override ∷ kinds.Prim ∷ []) k
begins sorts.Decls k = within (kinds.Word ∷ kinds.Override ∷ []) k
begins sorts.Decl k = within (kinds.Word ∷ kinds.Override ∷ []) k
begins sorts.Init k = within (kinds.Word ∷ kinds.Override ∷ kinds.Literal ∷ kinds.This ∷ kinds.Super ∷ kinds.New ∷ kinds.OpenParen ∷ kinds.OpenBrace ∷ kinds.Plus ∷ kinds.Minus ∷ kinds.Flip ∷ kinds.Step ∷ []) k
begins sorts.Block k = within (kinds.OpenBrace ∷ []) k
begins sorts.Local k = within (kinds.Word ∷ kinds.Override ∷ kinds.Literal ∷ kinds.Prim ∷ kinds.Final ∷ kinds.This ∷ kinds.Super ∷ kinds.New ∷ kinds.If ∷ kinds.While ∷ kinds.Do ∷ kinds.For ∷ kinds.Break ∷ kinds.Continue ∷ kinds.Return ∷ kinds.Throw ∷ kinds.Try ∷ kinds.OpenParen ∷ kinds.OpenBrace ∷ kinds.Semicolon ∷ kinds.Plus ∷ kinds.Minus ∷ kinds.Flip ∷ kinds.Step ∷ []) k
begins sorts.Stmt k = within (kinds.Word ∷ kinds.Override ∷ kinds.Literal ∷ kinds.This ∷ kinds.Super ∷ kinds.New ∷ kinds.If ∷ kinds.While ∷ kinds.Do ∷ kinds.For ∷ kinds.Break ∷ kinds.Continue ∷ kinds.Return ∷ kinds.Throw ∷ kinds.Try ∷ kinds.OpenParen ∷ kinds.OpenBrace ∷ kinds.Semicolon ∷ kinds.Plus ∷ kinds.Minus ∷ kinds.Flip ∷ kinds.Step ∷ []) k
begins sorts.ForInit k = within (kinds.Word ∷ kinds.Override ∷ kinds.Literal ∷ kinds.Prim ∷ kinds.Final ∷ kinds.This ∷ kinds.Super ∷ kinds.New ∷ kinds.OpenParen ∷ kinds.Plus ∷ kinds.Minus ∷ kinds.Flip ∷ kinds.Step ∷ []) k
begins sorts.Catch k = within (kinds.Catch ∷ []) k
begins sorts.Expr k = within operand k
begins sorts.Effect k = within operand k
begins sorts.Cond k = within operand k
begins sorts.OrElse k = within operand k
begins sorts.AndAlso k = within operand k
begins sorts.Or k = within operand k
begins sorts.Xor k = within operand k
begins sorts.And k = within operand k
begins sorts.Equality k = within operand k
begins sorts.Relation k = within operand k
begins sorts.Shift k = within operand k
begins sorts.Sum k = within operand k
begins sorts.Product k = within operand k
begins sorts.Unary k = within operand k
begins sorts.Cast k = within (kinds.OpenParen ∷ []) k
begins sorts.Operand k = within operand k
begins sorts.Postfix k = within (kinds.Word ∷ kinds.Override ∷ kinds.Literal ∷ kinds.This ∷ kinds.Super ∷ kinds.New ∷ kinds.OpenParen ∷ []) k
begins sorts.Primary k = within (kinds.Word ∷ kinds.Override ∷ kinds.Literal ∷ kinds.This ∷ kinds.Super ∷ kinds.New ∷ kinds.OpenParen ∷ []) k
begins sorts.New k = within (kinds.New ∷ []) k
begins sorts.Args k = within (kinds.OpenParen ∷ []) k

abbrev pub row_begins : Row → Kind → Bool
row_begins (rows.Any x) k = begins x k
row_begins (rows.Maybe x) k = begins x k
row_begins (rows.Series x) k = begins x k
row_begins (rows.Further x) k = same k kinds.Comma
row_begins rows.Names k = within (kinds.Comma ∷ []) k
row_begins rows.Brackets k = within (kinds.OpenBracket ∷ []) k
row_begins rows.MaybeFinal k = within (kinds.Final ∷ []) k
row_begins rows.Declared k = within (kinds.Modifier ∷ kinds.Static ∷ kinds.Final ∷ kinds.At ∷ kinds.Class ∷ kinds.Interface ∷ kinds.Semicolon ∷ []) k
row_begins rows.Superclass k = within (kinds.Extends ∷ []) k
row_begins rows.Interfaces k = within (kinds.Implements ∷ []) k
row_begins rows.Supers k = within (kinds.Extends ∷ []) k
row_begins rows.Methods k = within (kinds.Word ∷ kinds.Override ∷ kinds.Prim ∷ kinds.Modifier ∷ kinds.Static ∷ kinds.Final ∷ kinds.At ∷ kinds.Void ∷ kinds.Semicolon ∷ []) k
row_begins rows.ModForm k = within (kinds.Modifier ∷ kinds.Static ∷ kinds.Final ∷ kinds.At ∷ []) k
row_begins rows.MemberForm k = within (kinds.Word ∷ kinds.Override ∷ kinds.Prim ∷ kinds.Modifier ∷ kinds.Static ∷ kinds.Final ∷ kinds.At ∷ kinds.Void ∷ kinds.OpenBrace ∷ kinds.Semicolon ∷ []) k
row_begins rows.MemberTail k = within (kinds.Word ∷ kinds.Override ∷ kinds.Prim ∷ kinds.Void ∷ []) k
row_begins rows.MethodBody k = within (kinds.OpenBrace ∷ kinds.Semicolon ∷ []) k
row_begins rows.OwnCall k = within (kinds.This ∷ kinds.Super ∷ []) k
row_begins rows.ResultForm k = within (kinds.Word ∷ kinds.Override ∷ kinds.Prim ∷ kinds.Void ∷ []) k
row_begins rows.Initial k = within (kinds.Assign ∷ []) k
row_begins rows.InitForm k = within (kinds.Word ∷ kinds.Override ∷ kinds.Literal ∷ kinds.This ∷ kinds.Super ∷ kinds.New ∷ kinds.OpenParen ∷ kinds.OpenBrace ∷ kinds.Plus ∷ kinds.Minus ∷ kinds.Flip ∷ kinds.Step ∷ []) k
row_begins rows.Elements k = within (kinds.Word ∷ kinds.Override ∷ kinds.Literal ∷ kinds.This ∷ kinds.Super ∷ kinds.New ∷ kinds.OpenParen ∷ kinds.OpenBrace ∷ kinds.Comma ∷ kinds.Plus ∷ kinds.Minus ∷ kinds.Flip ∷ kinds.Step ∷ []) k
row_begins rows.MoreElements k = within (kinds.Comma ∷ []) k
row_begins rows.AfterComma k = within (kinds.Word ∷ kinds.Override ∷ kinds.Literal ∷ kinds.This ∷ kinds.Super ∷ kinds.New ∷ kinds.OpenParen ∷ kinds.OpenBrace ∷ kinds.Plus ∷ kinds.Minus ∷ kinds.Flip ∷ kinds.Step ∷ []) k
row_begins rows.LocalForm k = within (kinds.Word ∷ kinds.Override ∷ kinds.Literal ∷ kinds.Prim ∷ kinds.Final ∷ kinds.This ∷ kinds.Super ∷ kinds.New ∷ kinds.If ∷ kinds.While ∷ kinds.Do ∷ kinds.For ∷ kinds.Break ∷ kinds.Continue ∷ kinds.Return ∷ kinds.Throw ∷ kinds.Try ∷ kinds.OpenParen ∷ kinds.OpenBrace ∷ kinds.Semicolon ∷ kinds.Plus ∷ kinds.Minus ∷ kinds.Flip ∷ kinds.Step ∷ []) k
row_begins rows.StmtForm k = within (kinds.Word ∷ kinds.Override ∷ kinds.Literal ∷ kinds.This ∷ kinds.Super ∷ kinds.New ∷ kinds.If ∷ kinds.While ∷ kinds.Do ∷ kinds.For ∷ kinds.Break ∷ kinds.Continue ∷ kinds.Return ∷ kinds.Throw ∷ kinds.Try ∷ kinds.OpenParen ∷ kinds.OpenBrace ∷ kinds.Semicolon ∷ kinds.Plus ∷ kinds.Minus ∷ kinds.Flip ∷ kinds.Step ∷ []) k
row_begins rows.Otherwise k = within (kinds.Else ∷ []) k
row_begins rows.Label k = within (kinds.Word ∷ kinds.Override ∷ []) k
row_begins rows.Handlers k = within (kinds.Catch ∷ kinds.Finally ∷ []) k
row_begins rows.Finally k = within (kinds.Finally ∷ []) k
row_begins rows.ForInitForm k = within (kinds.Word ∷ kinds.Override ∷ kinds.Literal ∷ kinds.Prim ∷ kinds.Final ∷ kinds.This ∷ kinds.Super ∷ kinds.New ∷ kinds.OpenParen ∷ kinds.Plus ∷ kinds.Minus ∷ kinds.Flip ∷ kinds.Step ∷ []) k
row_begins rows.Assigned k = within (kinds.Assign ∷ kinds.OpAssign ∷ []) k
row_begins rows.Choice k = within (kinds.Question ∷ []) k
row_begins rows.UnaryForm k = within operand k
row_begins rows.Negated k = within (kinds.Word ∷ kinds.Override ∷ kinds.Literal ∷ kinds.Big ∷ kinds.This ∷ kinds.Super ∷ kinds.New ∷ kinds.OpenParen ∷ kinds.Plus ∷ kinds.Minus ∷ kinds.Flip ∷ kinds.Step ∷ []) k
row_begins rows.CastForm k = within (kinds.Word ∷ kinds.Override ∷ kinds.Prim ∷ []) k
row_begins rows.Steps k = within (kinds.Step ∷ []) k
row_begins rows.PrimaryForm k = within (kinds.Word ∷ kinds.Override ∷ kinds.Literal ∷ kinds.This ∷ kinds.Super ∷ kinds.New ∷ kinds.OpenParen ∷ []) k
row_begins rows.NewForm k = within (kinds.Word ∷ kinds.Override ∷ kinds.Prim ∷ []) k
row_begins rows.Dimensions k = within (kinds.OpenBracket ∷ []) k

-- rows that may have no parts
abbrev pub row_empty : Row → Bool
row_empty (rows.Any x) = true
row_empty (rows.Maybe x) = true
row_empty (rows.Series x) = true
row_empty (rows.Further x) = true
row_empty rows.Names = true
row_empty rows.Brackets = true
row_empty rows.MaybeFinal = true
row_empty rows.Superclass = true
row_empty rows.Interfaces = true
row_empty rows.Supers = true
row_empty rows.Methods = true
row_empty rows.OwnCall = true
row_empty rows.Initial = true
row_empty rows.Elements = true
row_empty rows.MoreElements = true
row_empty rows.AfterComma = true
row_empty rows.Otherwise = true
row_empty rows.Label = true
row_empty rows.Finally = true
row_empty rows.Assigned = true
row_empty rows.Choice = true
row_empty rows.Steps = true
row_empty rows.Dimensions = true
row_empty _ = false

-- what items begin with, where what follows them begins so
abbrev pub first_in : List Item → (Kind → Bool) → Kind → Bool
first_in [] F k = F k
first_in (One c ∷ items) F k = allows c k
first_in (Part x ∷ items) F k = begins x k
first_in (Parts row ∷ items) F k = row_begins row k || (row_empty row && first_in items F k)

all_kinds : List Kind
all_kinds = kinds.Word ∷ kinds.Override ∷ kinds.Literal ∷ kinds.Big ∷ kinds.Prim ∷ kinds.Modifier ∷ kinds.Static ∷ kinds.Final ∷ kinds.At ∷ kinds.Class ∷ kinds.Interface ∷ kinds.Extends ∷ kinds.Implements ∷ kinds.Throws ∷ kinds.Void ∷ kinds.This ∷ kinds.Super ∷ kinds.New ∷ kinds.If ∷ kinds.Else ∷ kinds.While ∷ kinds.Do ∷ kinds.For ∷ kinds.Break ∷ kinds.Continue ∷ kinds.Return ∷ kinds.Throw ∷ kinds.Try ∷ kinds.Catch ∷ kinds.Finally ∷ kinds.Instanceof ∷ kinds.OpenParen ∷ kinds.CloseParen ∷ kinds.OpenBrace ∷ kinds.CloseBrace ∷ kinds.OpenBracket ∷ kinds.CloseBracket ∷ kinds.Semicolon ∷ kinds.Comma ∷ kinds.Dot ∷ kinds.Assign ∷ kinds.OpAssign ∷ kinds.Question ∷ kinds.Colon ∷ kinds.OrElse ∷ kinds.AndAlso ∷ kinds.Or ∷ kinds.Xor ∷ kinds.And ∷ kinds.Equality ∷ kinds.Relation ∷ kinds.Shift ∷ kinds.Plus ∷ kinds.Minus ∷ kinds.Times ∷ kinds.Flip ∷ kinds.Step ∷ kinds.Other ∷ kinds.Nothing ∷ []

index : Kind → ℕ
index kinds.Word = 0
index kinds.Override = 1
index kinds.Literal = 2
index kinds.Big = 3
index kinds.Prim = 4
index kinds.Modifier = 5
index kinds.Static = 6
index kinds.Final = 7
index kinds.At = 8
index kinds.Class = 9
index kinds.Interface = 10
index kinds.Extends = 11
index kinds.Implements = 12
index kinds.Throws = 13
index kinds.Void = 14
index kinds.This = 15
index kinds.Super = 16
index kinds.New = 17
index kinds.If = 18
index kinds.Else = 19
index kinds.While = 20
index kinds.Do = 21
index kinds.For = 22
index kinds.Break = 23
index kinds.Continue = 24
index kinds.Return = 25
index kinds.Throw = 26
index kinds.Try = 27
index kinds.Catch = 28
index kinds.Finally = 29
index kinds.Instanceof = 30
index kinds.OpenParen = 31
index kinds.CloseParen = 32
index kinds.OpenBrace = 33
index kinds.CloseBrace = 34
index kinds.OpenBracket = 35
index kinds.CloseBracket = 36
index kinds.Semicolon = 37
index kinds.Comma = 38
index kinds.Dot = 39
index kinds.Assign = 40
index kinds.OpAssign = 41
index kinds.Question = 42
index kinds.Colon = 43
index kinds.OrElse = 44
index kinds.AndAlso = 45
index kinds.Or = 46
index kinds.Xor = 47
index kinds.And = 48
index kinds.Equality = 49
index kinds.Relation = 50
index kinds.Shift = 51
index kinds.Plus = 52
index kinds.Minus = 53
index kinds.Times = 54
index kinds.Flip = 55
index kinds.Step = 56
index kinds.Other = 57
index kinds.Nothing = 58

index_small : (k : Kind) → index k < 59
unfolding index
index_small kinds.Word = omega arith
index_small kinds.Override = omega arith
index_small kinds.Literal = omega arith
index_small kinds.Big = omega arith
index_small kinds.Prim = omega arith
index_small kinds.Modifier = omega arith
index_small kinds.Static = omega arith
index_small kinds.Final = omega arith
index_small kinds.At = omega arith
index_small kinds.Class = omega arith
index_small kinds.Interface = omega arith
index_small kinds.Extends = omega arith
index_small kinds.Implements = omega arith
index_small kinds.Throws = omega arith
index_small kinds.Void = omega arith
index_small kinds.This = omega arith
index_small kinds.Super = omega arith
index_small kinds.New = omega arith
index_small kinds.If = omega arith
index_small kinds.Else = omega arith
index_small kinds.While = omega arith
index_small kinds.Do = omega arith
index_small kinds.For = omega arith
index_small kinds.Break = omega arith
index_small kinds.Continue = omega arith
index_small kinds.Return = omega arith
index_small kinds.Throw = omega arith
index_small kinds.Try = omega arith
index_small kinds.Catch = omega arith
index_small kinds.Finally = omega arith
index_small kinds.Instanceof = omega arith
index_small kinds.OpenParen = omega arith
index_small kinds.CloseParen = omega arith
index_small kinds.OpenBrace = omega arith
index_small kinds.CloseBrace = omega arith
index_small kinds.OpenBracket = omega arith
index_small kinds.CloseBracket = omega arith
index_small kinds.Semicolon = omega arith
index_small kinds.Comma = omega arith
index_small kinds.Dot = omega arith
index_small kinds.Assign = omega arith
index_small kinds.OpAssign = omega arith
index_small kinds.Question = omega arith
index_small kinds.Colon = omega arith
index_small kinds.OrElse = omega arith
index_small kinds.AndAlso = omega arith
index_small kinds.Or = omega arith
index_small kinds.Xor = omega arith
index_small kinds.And = omega arith
index_small kinds.Equality = omega arith
index_small kinds.Relation = omega arith
index_small kinds.Shift = omega arith
index_small kinds.Plus = omega arith
index_small kinds.Minus = omega arith
index_small kinds.Times = omega arith
index_small kinds.Flip = omega arith
index_small kinds.Step = omega arith
index_small kinds.Other = omega arith
index_small kinds.Nothing = omega arith

indexed : (k : Kind) → get_or all_kinds (index k) kinds.Other ≡ k
unfolding index all_kinds
indexed kinds.Word = refl
indexed kinds.Override = refl
indexed kinds.Literal = refl
indexed kinds.Big = refl
indexed kinds.Prim = refl
indexed kinds.Modifier = refl
indexed kinds.Static = refl
indexed kinds.Final = refl
indexed kinds.At = refl
indexed kinds.Class = refl
indexed kinds.Interface = refl
indexed kinds.Extends = refl
indexed kinds.Implements = refl
indexed kinds.Throws = refl
indexed kinds.Void = refl
indexed kinds.This = refl
indexed kinds.Super = refl
indexed kinds.New = refl
indexed kinds.If = refl
indexed kinds.Else = refl
indexed kinds.While = refl
indexed kinds.Do = refl
indexed kinds.For = refl
indexed kinds.Break = refl
indexed kinds.Continue = refl
indexed kinds.Return = refl
indexed kinds.Throw = refl
indexed kinds.Try = refl
indexed kinds.Catch = refl
indexed kinds.Finally = refl
indexed kinds.Instanceof = refl
indexed kinds.OpenParen = refl
indexed kinds.CloseParen = refl
indexed kinds.OpenBrace = refl
indexed kinds.CloseBrace = refl
indexed kinds.OpenBracket = refl
indexed kinds.CloseBracket = refl
indexed kinds.Semicolon = refl
indexed kinds.Comma = refl
indexed kinds.Dot = refl
indexed kinds.Assign = refl
indexed kinds.OpAssign = refl
indexed kinds.Question = refl
indexed kinds.Colon = refl
indexed kinds.OrElse = refl
indexed kinds.AndAlso = refl
indexed kinds.Or = refl
indexed kinds.Xor = refl
indexed kinds.And = refl
indexed kinds.Equality = refl
indexed kinds.Relation = refl
indexed kinds.Shift = refl
indexed kinds.Plus = refl
indexed kinds.Minus = refl
indexed kinds.Times = refl
indexed kinds.Flip = refl
indexed kinds.Step = refl
indexed kinds.Other = refl
indexed kinds.Nothing = refl

abbrev pub holds : (Kind → Bool) → List Kind → Bool
holds p [] = true
holds p (k ∷ ks) = p k && holds p ks

-- of every kind
unfoldable pub every : (Kind → Bool) → Bool
every p = holds p (kinds.Word ∷ kinds.Override ∷ kinds.Literal ∷ kinds.Big ∷ kinds.Prim ∷ kinds.Modifier ∷ kinds.Static ∷ kinds.Final ∷ kinds.At ∷ kinds.Class ∷ kinds.Interface ∷ kinds.Extends ∷ kinds.Implements ∷ kinds.Throws ∷ kinds.Void ∷ kinds.This ∷ kinds.Super ∷ kinds.New ∷ kinds.If ∷ kinds.Else ∷ kinds.While ∷ kinds.Do ∷ kinds.For ∷ kinds.Break ∷ kinds.Continue ∷ kinds.Return ∷ kinds.Throw ∷ kinds.Try ∷ kinds.Catch ∷ kinds.Finally ∷ kinds.Instanceof ∷ kinds.OpenParen ∷ kinds.CloseParen ∷ kinds.OpenBrace ∷ kinds.CloseBrace ∷ kinds.OpenBracket ∷ kinds.CloseBracket ∷ kinds.Semicolon ∷ kinds.Comma ∷ kinds.Dot ∷ kinds.Assign ∷ kinds.OpAssign ∷ kinds.Question ∷ kinds.Colon ∷ kinds.OrElse ∷ kinds.AndAlso ∷ kinds.Or ∷ kinds.Xor ∷ kinds.And ∷ kinds.Equality ∷ kinds.Relation ∷ kinds.Shift ∷ kinds.Plus ∷ kinds.Minus ∷ kinds.Times ∷ kinds.Flip ∷ kinds.Step ∷ kinds.Other ∷ kinds.Nothing ∷ [])

holds_at : (p : Kind → Bool) (ks : List Kind) (n : ℕ) → holds p ks ≡ true → n < length ks → p (get_or ks n kinds.Other) ≡ true
holds_at p [] n e lt = absurd (omega (arith, lt))
holds_at p (k ∷ ks) zero e lt = and_left (p k) (holds p ks) e
holds_at p (k ∷ ks) (suc n) e lt = holds_at p ks n (and_right (p k) (holds p ks) e) (omega (arith, lt))

pub every_ok : (p : Kind → Bool) → every p ≡ true → (k : Kind) → p k ≡ true
unfolding every all_kinds
every_ok p e k = subst (λ z. p z ≡ true) (indexed k) (holds_at p all_kinds (index k) e (index_small k))

abbrev pub implies : Bool → Bool → Bool
implies true c = c
implies false c = true

implies_ok : (b c : Bool) → implies b c ≡ true → b ≡ true → c ≡ true
implies_ok true c e f = e
implies_ok false c e f = absurd (cc)

pub implied : (p q : Kind → Bool) → every (λ k. implies (p k) (q k)) ≡ true → (k : Kind) → p k ≡ true → q k ≡ true
implied p q e k f = implies_ok (p k) (q k) (every_ok (λ k. implies (p k) (q k)) e k) f

first_const : (items : List Item) (F : Kind → Bool) (k : Kind) (b : Bool) → F k ≡ b → first_in items F k ≡ first_in items (λ _. b) k
first_const [] F k b e = e
first_const (One c ∷ items) F k b e = refl
first_const (Part x ∷ items) F k b e = refl
first_const (Parts row ∷ items) F k b e = ap (λ z. row_begins row k || (row_empty row && z)) (first_const items F k b e)

pub first_append : (way items : List Item) (F : Kind → Bool) (k : Kind) → first_in (way ++ items) F k ≡ first_in way (first_in items F) k
first_append [] items F k = refl
first_append (One c ∷ way) items F k = refl
first_append (Part x ∷ way) items F k = refl
first_append (Parts row ∷ way) items F k = ap (λ z. row_begins row k || (row_empty row && z)) (first_append way items F k)

by_table : (way : List Item) (p : Kind → Bool) (e : Bool) → every (λ k. implies (first_in way (λ _. false) k) (p k || (e && false))) ≡ true → every (λ k. implies (first_in way (λ _. true) k) (p k || (e && true))) ≡ true
    → (F : Kind → Bool) (k : Kind) → first_in way F k ≡ true → (p k || (e && F k)) ≡ true
by_table way p e t0 t1 F k f =
    let by : (b : Bool) → F k ≡ b → (p k || (e && F k)) ≡ true =
    elim [
      | true ↦ λ q. ap (λ z. p k || (e && z)) q ∙ implied (first_in way (λ _. true)) (λ k. p k || (e && true)) t1 k (sym (first_const way F k true q) ∙ f)
      | false ↦ λ q. ap (λ z. p k || (e && z)) q ∙ implied (first_in way (λ _. false)) (λ k. p k || (e && false)) t0 k (sym (first_const way F k false q) ∙ f)
    ] in
    by (F k) refl

pub way_first : {row : Row} {way : List Item} → Alternative row way → (F : Kind → Bool) (k : Kind) → first_in way F k ≡ true → (row_begins row k || (row_empty row && F k)) ≡ true
unfolding every
way_first (grammar.none_of {x}) F k f = or_right (row_begins (rows.Any x) k) (F k) f
way_first (grammar.some_of {x}) F k f = or_left (row_begins (rows.Any x) k) (F k) f
way_first (grammar.absent {x}) F k f = or_right (row_begins (rows.Maybe x) k) (F k) f
way_first (grammar.present {x}) F k f = or_left (row_begins (rows.Maybe x) k) (F k) f
way_first (grammar.no_series {x}) F k f = or_right (row_begins (rows.Series x) k) (F k) f
way_first (grammar.series {x}) F k f = or_left (row_begins (rows.Series x) k) (F k) f
way_first (grammar.no_further {x}) F k f = or_right (row_begins (rows.Further x) k) (F k) f
way_first (grammar.further {x}) F k f = or_left (row_begins (rows.Further x) k) (F k) f
way_first grammar.no_names F k f = by_table [] (row_begins rows.Names) true refl refl F k f
way_first grammar.names F k f = by_table (a kinds.Comma ∷ name ∷ Parts rows.Names ∷ []) (row_begins rows.Names) true refl refl F k f
way_first grammar.no_brackets F k f = by_table [] (row_begins rows.Brackets) true refl refl F k f
way_first grammar.brackets F k f = by_table (a kinds.OpenBracket ∷ a kinds.CloseBracket ∷ Parts rows.Brackets ∷ []) (row_begins rows.Brackets) true refl refl F k f
way_first grammar.not_final F k f = by_table [] (row_begins rows.MaybeFinal) true refl refl F k f
way_first grammar.is_final F k f = by_table (a kinds.Final ∷ []) (row_begins rows.MaybeFinal) true refl refl F k f
way_first grammar.a_class F k f = by_table (Part sorts.Class ∷ []) (row_begins rows.Declared) false refl refl F k f
way_first grammar.an_interface F k f = by_table (Part sorts.Interface ∷ []) (row_begins rows.Declared) false refl refl F k f
way_first grammar.nothing F k f = by_table (a kinds.Semicolon ∷ []) (row_begins rows.Declared) false refl refl F k f
way_first grammar.no_superclass F k f = by_table [] (row_begins rows.Superclass) true refl refl F k f
way_first grammar.superclass F k f = by_table (a kinds.Extends ∷ name ∷ []) (row_begins rows.Superclass) true refl refl F k f
way_first grammar.no_interfaces F k f = by_table [] (row_begins rows.Interfaces) true refl refl F k f
way_first grammar.interfaces F k f = by_table (a kinds.Implements ∷ name ∷ Parts rows.Names ∷ []) (row_begins rows.Interfaces) true refl refl F k f
way_first grammar.no_supers F k f = by_table [] (row_begins rows.Supers) true refl refl F k f
way_first grammar.supers F k f = by_table (a kinds.Extends ∷ name ∷ Parts rows.Names ∷ []) (row_begins rows.Supers) true refl refl F k f
way_first grammar.no_methods F k f = by_table [] (row_begins rows.Methods) true refl refl F k f
way_first grammar.no_method F k f = by_table (a kinds.Semicolon ∷ Parts rows.Methods ∷ []) (row_begins rows.Methods) true refl refl F k f
way_first grammar.method F k f = by_table (Parts (rows.Any sorts.Mod) ∷ Part sorts.Result ∷ name ∷ Part sorts.Params ∷ Parts (rows.Maybe sorts.Throws) ∷ a kinds.Semicolon ∷ Parts rows.Methods ∷ []) (row_begins rows.Methods) true refl refl F k f
way_first grammar.modifier F k f = by_table (One Modifying ∷ []) (row_begins rows.ModForm) false refl refl F k f
way_first grammar.annotation F k f = by_table (a kinds.At ∷ a kinds.Override ∷ []) (row_begins rows.ModForm) false refl refl F k f
way_first grammar.no_member F k f = by_table (a kinds.Semicolon ∷ []) (row_begins rows.MemberForm) false refl refl F k f
way_first grammar.initializer F k f = by_table (Part sorts.Block ∷ []) (row_begins rows.MemberForm) false refl refl F k f
way_first grammar.static_initializer F k f = by_table (a kinds.Static ∷ Part sorts.Block ∷ []) (row_begins rows.MemberForm) false refl refl F k f
way_first grammar.a_member F k f = by_table (Parts (rows.Any sorts.Mod) ∷ Parts rows.MemberTail ∷ []) (row_begins rows.MemberForm) false refl refl F k f
way_first grammar.fields F k f = by_table (Part sorts.Type ∷ Part sorts.Decls ∷ a kinds.Semicolon ∷ []) (row_begins rows.MemberTail) false refl refl F k f
way_first grammar.a_method F k f = by_table (Part sorts.Result ∷ name ∷ Part sorts.Params ∷ Parts (rows.Maybe sorts.Throws) ∷ Parts rows.MethodBody ∷ []) (row_begins rows.MemberTail) false refl refl F k f
way_first grammar.a_constructor F k f = by_table (name ∷ Part sorts.Params ∷ Parts (rows.Maybe sorts.Throws) ∷ a kinds.OpenBrace ∷ Parts rows.OwnCall ∷ Parts (rows.Any sorts.Local) ∷ a kinds.CloseBrace ∷ []) (row_begins rows.MemberTail) false refl refl F k f
way_first grammar.with_body F k f = by_table (Part sorts.Block ∷ []) (row_begins rows.MethodBody) false refl refl F k f
way_first grammar.without_body F k f = by_table (a kinds.Semicolon ∷ []) (row_begins rows.MethodBody) false refl refl F k f
way_first grammar.no_own_call F k f = by_table [] (row_begins rows.OwnCall) true refl refl F k f
way_first grammar.own_call F k f = by_table (One Own ∷ Part sorts.Args ∷ a kinds.Semicolon ∷ []) (row_begins rows.OwnCall) true refl refl F k f
way_first grammar.no_result F k f = by_table (a kinds.Void ∷ []) (row_begins rows.ResultForm) false refl refl F k f
way_first grammar.a_result F k f = by_table (Part sorts.Type ∷ []) (row_begins rows.ResultForm) false refl refl F k f
way_first grammar.no_initial F k f = by_table [] (row_begins rows.Initial) true refl refl F k f
way_first grammar.initial F k f = by_table (a kinds.Assign ∷ Part sorts.Init ∷ []) (row_begins rows.Initial) true refl refl F k f
way_first grammar.a_value F k f = by_table (Part sorts.Expr ∷ []) (row_begins rows.InitForm) false refl refl F k f
way_first grammar.an_array F k f = by_table (a kinds.OpenBrace ∷ Parts rows.Elements ∷ a kinds.CloseBrace ∷ []) (row_begins rows.InitForm) false refl refl F k f
way_first grammar.no_elements F k f = by_table [] (row_begins rows.Elements) true refl refl F k f
way_first grammar.comma_alone F k f = by_table (a kinds.Comma ∷ []) (row_begins rows.Elements) true refl refl F k f
way_first grammar.elements F k f = by_table (Part sorts.Init ∷ Parts rows.MoreElements ∷ []) (row_begins rows.Elements) true refl refl F k f
way_first grammar.no_more_elements F k f = by_table [] (row_begins rows.MoreElements) true refl refl F k f
way_first grammar.more_elements F k f = by_table (a kinds.Comma ∷ Parts rows.AfterComma ∷ []) (row_begins rows.MoreElements) true refl refl F k f
way_first grammar.comma_last F k f = by_table [] (row_begins rows.AfterComma) true refl refl F k f
way_first grammar.comma_between F k f = by_table (Part sorts.Init ∷ Parts rows.MoreElements ∷ []) (row_begins rows.AfterComma) true refl refl F k f
way_first grammar.a_declaration F k f = by_table (Parts rows.MaybeFinal ∷ Part sorts.Type ∷ Part sorts.Decls ∷ a kinds.Semicolon ∷ []) (row_begins rows.LocalForm) false refl refl F k f
way_first grammar.a_statement F k f = by_table (Part sorts.Stmt ∷ []) (row_begins rows.LocalForm) false refl refl F k f
way_first grammar.a_block F k f = by_table (Part sorts.Block ∷ []) (row_begins rows.StmtForm) false refl refl F k f
way_first grammar.empty F k f = by_table (a kinds.Semicolon ∷ []) (row_begins rows.StmtForm) false refl refl F k f
way_first grammar.an_effect F k f = by_table (Part sorts.Effect ∷ a kinds.Semicolon ∷ []) (row_begins rows.StmtForm) false refl refl F k f
way_first grammar.an_if F k f = by_table (a kinds.If ∷ a kinds.OpenParen ∷ Part sorts.Expr ∷ a kinds.CloseParen ∷ Part sorts.Stmt ∷ Parts rows.Otherwise ∷ []) (row_begins rows.StmtForm) false refl refl F k f
way_first grammar.a_while F k f = by_table (a kinds.While ∷ a kinds.OpenParen ∷ Part sorts.Expr ∷ a kinds.CloseParen ∷ Part sorts.Stmt ∷ []) (row_begins rows.StmtForm) false refl refl F k f
way_first grammar.a_do F k f = by_table (a kinds.Do ∷ Part sorts.Stmt ∷ a kinds.While ∷ a kinds.OpenParen ∷ Part sorts.Expr ∷ a kinds.CloseParen ∷ a kinds.Semicolon ∷ []) (row_begins rows.StmtForm) false refl refl F k f
way_first grammar.a_for F k f = by_table (a kinds.For ∷ a kinds.OpenParen ∷ Parts (rows.Maybe sorts.ForInit) ∷ a kinds.Semicolon ∷ Parts (rows.Maybe sorts.Expr) ∷ a kinds.Semicolon ∷ Parts (rows.Series sorts.Effect) ∷ a kinds.CloseParen ∷ Part sorts.Stmt ∷ []) (row_begins rows.StmtForm) false refl refl F k f
way_first grammar.labelled F k f = by_table (name ∷ a kinds.Colon ∷ Part sorts.Stmt ∷ []) (row_begins rows.StmtForm) false refl refl F k f
way_first grammar.a_break F k f = by_table (a kinds.Break ∷ Parts rows.Label ∷ a kinds.Semicolon ∷ []) (row_begins rows.StmtForm) false refl refl F k f
way_first grammar.a_continue F k f = by_table (a kinds.Continue ∷ Parts rows.Label ∷ a kinds.Semicolon ∷ []) (row_begins rows.StmtForm) false refl refl F k f
way_first grammar.a_return F k f = by_table (a kinds.Return ∷ Parts (rows.Maybe sorts.Expr) ∷ a kinds.Semicolon ∷ []) (row_begins rows.StmtForm) false refl refl F k f
way_first grammar.a_throw F k f = by_table (a kinds.Throw ∷ Part sorts.Expr ∷ a kinds.Semicolon ∷ []) (row_begins rows.StmtForm) false refl refl F k f
way_first grammar.a_try F k f = by_table (a kinds.Try ∷ Part sorts.Block ∷ Parts rows.Handlers ∷ []) (row_begins rows.StmtForm) false refl refl F k f
way_first grammar.no_else F k f = by_table [] (row_begins rows.Otherwise) true refl refl F k f
way_first grammar.an_else F k f = by_table (a kinds.Else ∷ Part sorts.Stmt ∷ []) (row_begins rows.Otherwise) true refl refl F k f
way_first grammar.no_label F k f = by_table [] (row_begins rows.Label) true refl refl F k f
way_first grammar.label F k f = by_table (name ∷ []) (row_begins rows.Label) true refl refl F k f
way_first grammar.catches F k f = by_table (Part sorts.Catch ∷ Parts (rows.Any sorts.Catch) ∷ Parts rows.Finally ∷ []) (row_begins rows.Handlers) false refl refl F k f
way_first grammar.only_finally F k f = by_table (a kinds.Finally ∷ Part sorts.Block ∷ []) (row_begins rows.Handlers) false refl refl F k f
way_first grammar.no_finally F k f = by_table [] (row_begins rows.Finally) true refl refl F k f
way_first grammar.finally F k f = by_table (a kinds.Finally ∷ Part sorts.Block ∷ []) (row_begins rows.Finally) true refl refl F k f
way_first grammar.for_declaration F k f = by_table (Parts rows.MaybeFinal ∷ Part sorts.Type ∷ Part sorts.Decls ∷ []) (row_begins rows.ForInitForm) false refl refl F k f
way_first grammar.for_effects F k f = by_table (Part sorts.Effect ∷ Parts (rows.Further sorts.Effect) ∷ []) (row_begins rows.ForInitForm) false refl refl F k f
way_first grammar.not_assigned F k f = by_table [] (row_begins rows.Assigned) true refl refl F k f
way_first grammar.assigned F k f = by_table (One Setting ∷ Part sorts.Expr ∷ []) (row_begins rows.Assigned) true refl refl F k f
way_first grammar.no_choice F k f = by_table [] (row_begins rows.Choice) true refl refl F k f
way_first grammar.choice F k f = by_table (a kinds.Question ∷ Part sorts.Expr ∷ a kinds.Colon ∷ Part sorts.Cond ∷ []) (row_begins rows.Choice) true refl refl F k f
way_first grammar.negated F k f = by_table (a kinds.Minus ∷ Parts rows.Negated ∷ []) (row_begins rows.UnaryForm) false refl refl F k f
way_first grammar.prefixed F k f = by_table (One Prefixing ∷ Part sorts.Unary ∷ []) (row_begins rows.UnaryForm) false refl refl F k f
way_first grammar.a_cast F k f = by_table (Part sorts.Cast ∷ []) (row_begins rows.UnaryForm) false refl refl F k f
way_first grammar.a_postfix F k f = by_table (Part sorts.Postfix ∷ []) (row_begins rows.UnaryForm) false refl refl F k f
way_first grammar.big F k f = by_table (a kinds.Big ∷ []) (row_begins rows.Negated) false refl refl F k f
way_first grammar.small F k f = by_table (Part sorts.Unary ∷ []) (row_begins rows.Negated) false refl refl F k f
way_first grammar.to_primitive F k f = by_table (a kinds.Prim ∷ a kinds.CloseParen ∷ Part sorts.Unary ∷ []) (row_begins rows.CastForm) false refl refl F k f
way_first grammar.to_reference F k f = by_table (Part sorts.RefType ∷ a kinds.CloseParen ∷ Part sorts.Operand ∷ []) (row_begins rows.CastForm) false refl refl F k f
way_first grammar.no_steps F k f = by_table [] (row_begins rows.Steps) true refl refl F k f
way_first grammar.steps F k f = by_table (a kinds.Step ∷ Parts rows.Steps ∷ []) (row_begins rows.Steps) true refl refl F k f
way_first grammar.literal F k f = by_table (a kinds.Literal ∷ []) (row_begins rows.PrimaryForm) false refl refl F k f
way_first grammar.this F k f = by_table (a kinds.This ∷ []) (row_begins rows.PrimaryForm) false refl refl F k f
way_first grammar.named F k f = by_table (name ∷ Parts (rows.Maybe sorts.Args) ∷ []) (row_begins rows.PrimaryForm) false refl refl F k f
way_first grammar.grouped F k f = by_table (a kinds.OpenParen ∷ Part sorts.Expr ∷ a kinds.CloseParen ∷ []) (row_begins rows.PrimaryForm) false refl refl F k f
way_first grammar.created F k f = by_table (Part sorts.New ∷ []) (row_begins rows.PrimaryForm) false refl refl F k f
way_first grammar.inherited F k f = by_table (a kinds.Super ∷ a kinds.Dot ∷ name ∷ Parts (rows.Maybe sorts.Args) ∷ []) (row_begins rows.PrimaryForm) false refl refl F k f
way_first grammar.an_object F k f = by_table (name ∷ Part sorts.Args ∷ []) (row_begins rows.NewForm) false refl refl F k f
way_first grammar.sized F k f = by_table (One Element ∷ a kinds.OpenBracket ∷ Part sorts.Expr ∷ a kinds.CloseBracket ∷ Parts rows.Dimensions ∷ []) (row_begins rows.NewForm) false refl refl F k f
way_first grammar.listed F k f = by_table (One Element ∷ a kinds.OpenBracket ∷ a kinds.CloseBracket ∷ Parts rows.Brackets ∷ a kinds.OpenBrace ∷ Parts rows.Elements ∷ a kinds.CloseBrace ∷ []) (row_begins rows.NewForm) false refl refl F k f
way_first grammar.no_dimensions F k f = by_table [] (row_begins rows.Dimensions) true refl refl F k f
way_first grammar.dimension F k f = by_table (a kinds.OpenBracket ∷ Part sorts.Expr ∷ a kinds.CloseBracket ∷ Parts rows.Dimensions ∷ []) (row_begins rows.Dimensions) true refl refl F k f
way_first grammar.unsized F k f = by_table (a kinds.OpenBracket ∷ a kinds.CloseBracket ∷ Parts rows.Brackets ∷ []) (row_begins rows.Dimensions) true refl refl F k f

rule_first : (x : Sort) (k : Kind) → first_in (rule x) (λ _. true) k ≡ true → begins x k ≡ true
unfolding every
rule_first sorts.Unit k f = refl
rule_first sorts.Declaration k f = implied (first_in (rule sorts.Declaration) (λ _. true)) (begins sorts.Declaration) refl k f
rule_first sorts.Class k f = implied (first_in (rule sorts.Class) (λ _. true)) (begins sorts.Class) refl k f
rule_first sorts.Interface k f = implied (first_in (rule sorts.Interface) (λ _. true)) (begins sorts.Interface) refl k f
rule_first sorts.Mod k f = implied (first_in (rule sorts.Mod) (λ _. true)) (begins sorts.Mod) refl k f
rule_first sorts.Member k f = implied (first_in (rule sorts.Member) (λ _. true)) (begins sorts.Member) refl k f
rule_first sorts.Params k f = implied (first_in (rule sorts.Params) (λ _. true)) (begins sorts.Params) refl k f
rule_first sorts.Param k f = implied (first_in (rule sorts.Param) (λ _. true)) (begins sorts.Param) refl k f
rule_first sorts.Throws k f = implied (first_in (rule sorts.Throws) (λ _. true)) (begins sorts.Throws) refl k f
rule_first sorts.Result k f = implied (first_in (rule sorts.Result) (λ _. true)) (begins sorts.Result) refl k f
rule_first sorts.Type k f = implied (first_in (rule sorts.Type) (λ _. true)) (begins sorts.Type) refl k f
rule_first sorts.RefType k f = implied (first_in (rule sorts.RefType) (λ _. true)) (begins sorts.RefType) refl k f
rule_first sorts.Decls k f = implied (first_in (rule sorts.Decls) (λ _. true)) (begins sorts.Decls) refl k f
rule_first sorts.Decl k f = implied (first_in (rule sorts.Decl) (λ _. true)) (begins sorts.Decl) refl k f
rule_first sorts.Init k f = implied (first_in (rule sorts.Init) (λ _. true)) (begins sorts.Init) refl k f
rule_first sorts.Block k f = implied (first_in (rule sorts.Block) (λ _. true)) (begins sorts.Block) refl k f
rule_first sorts.Local k f = implied (first_in (rule sorts.Local) (λ _. true)) (begins sorts.Local) refl k f
rule_first sorts.Stmt k f = implied (first_in (rule sorts.Stmt) (λ _. true)) (begins sorts.Stmt) refl k f
rule_first sorts.ForInit k f = implied (first_in (rule sorts.ForInit) (λ _. true)) (begins sorts.ForInit) refl k f
rule_first sorts.Catch k f = implied (first_in (rule sorts.Catch) (λ _. true)) (begins sorts.Catch) refl k f
rule_first sorts.Expr k f = implied (first_in (rule sorts.Expr) (λ _. true)) (begins sorts.Expr) refl k f
rule_first sorts.Effect k f = implied (first_in (rule sorts.Effect) (λ _. true)) (begins sorts.Effect) refl k f
rule_first sorts.Cond k f = implied (first_in (rule sorts.Cond) (λ _. true)) (begins sorts.Cond) refl k f
rule_first sorts.OrElse k f = implied (first_in (rule sorts.OrElse) (λ _. true)) (begins sorts.OrElse) refl k f
rule_first sorts.AndAlso k f = implied (first_in (rule sorts.AndAlso) (λ _. true)) (begins sorts.AndAlso) refl k f
rule_first sorts.Or k f = implied (first_in (rule sorts.Or) (λ _. true)) (begins sorts.Or) refl k f
rule_first sorts.Xor k f = implied (first_in (rule sorts.Xor) (λ _. true)) (begins sorts.Xor) refl k f
rule_first sorts.And k f = implied (first_in (rule sorts.And) (λ _. true)) (begins sorts.And) refl k f
rule_first sorts.Equality k f = implied (first_in (rule sorts.Equality) (λ _. true)) (begins sorts.Equality) refl k f
rule_first sorts.Relation k f = implied (first_in (rule sorts.Relation) (λ _. true)) (begins sorts.Relation) refl k f
rule_first sorts.Shift k f = implied (first_in (rule sorts.Shift) (λ _. true)) (begins sorts.Shift) refl k f
rule_first sorts.Sum k f = implied (first_in (rule sorts.Sum) (λ _. true)) (begins sorts.Sum) refl k f
rule_first sorts.Product k f = implied (first_in (rule sorts.Product) (λ _. true)) (begins sorts.Product) refl k f
rule_first sorts.Unary k f = implied (first_in (rule sorts.Unary) (λ _. true)) (begins sorts.Unary) refl k f
rule_first sorts.Cast k f = implied (first_in (rule sorts.Cast) (λ _. true)) (begins sorts.Cast) refl k f
rule_first sorts.Operand k f = implied (first_in (rule sorts.Operand) (λ _. true)) (begins sorts.Operand) refl k f
rule_first sorts.Postfix k f = implied (first_in (rule sorts.Postfix) (λ _. true)) (begins sorts.Postfix) refl k f
rule_first sorts.Primary k f = implied (first_in (rule sorts.Primary) (λ _. true)) (begins sorts.Primary) refl k f
rule_first sorts.New k f = implied (first_in (rule sorts.New) (λ _. true)) (begins sorts.New) refl k f
rule_first sorts.Args k f = implied (first_in (rule sorts.Args) (λ _. true)) (begins sorts.Args) refl k f

pub node_front : (f : Form) (ts : Asts) (s : List Tok) → tokens (node f ts) ++ s ≡ tokens_all ts ++ s
node_front f none s = refl
node_front f (more t none) s = sym (ap (λ z. z ++ s) (append-nil (tokens t)))
node_front f (more t (more u ts)) s = refl

mutual
  pub starts : (x : Sort) (t : Ast) → Is x t → (s : List Tok) → begins x (first_kind (tokens t ++ s)) ≡ true
  starts x t (made {ts} w e q) s =
      ap (λ z. begins x (first_kind (tokens z ++ s))) q ∙ ap (λ z. begins x (first_kind z)) (node_front (form_of x) ts s)
      ∙ rule_first x (first_kind (tokens_all ts ++ s)) (front_first (rule x) ts w (λ _. true) s refl)
  starts x t (grown {l} {ts} v y w e q) s =
      ap (λ z. begins x (first_kind (tokens z ++ s))) q ∙ ap (λ z. begins x (first_kind z)) (append_assoc (tokens l) (tokens_all ts) s) ∙ starts x l v (tokens_all ts ++ s)

  pub front_first : (items : List Item) (ts : Asts) → Match items ts → (F : Kind → Bool) (s : List Tok) → F (first_kind s) ≡ true → first_in items F (first_kind (tokens_all ts ++ s)) ≡ true
  front_first _ _ done F s f = f
  front_first _ _ (token {c} {o} {items} {ts} e w) F s f = e
  front_first _ _ (part {x} {t} {items} {ts} v w) F s f = ap (λ z. begins x (first_kind z)) (append_assoc (tokens t) (tokens_all ts) s) ∙ starts x t v (tokens_all ts ++ s)
  front_first _ _ (chosen {r} {way} {items} {ts} y w) F s f =
      let k = first_kind (tokens_all ts ++ s) in
      way_first y (first_in items F) k (sym (first_append way items F k) ∙ front_first (way ++ items) ts w F s f)
