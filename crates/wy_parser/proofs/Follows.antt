-- What may follow trees and rows of the grammar.
use Rattle.std.proofs.Common.{Bool, true, false, not, ◌&&◌, ◌||◌, ◌≡◌, List, [], ◌∷◌, ◌++◌, refl, sym, ◌∙◌}
use Rattle.wy_tree.specs.Kinds.{same}
use Rattle.wy_tree.specs.Conditions.{is_name}
use Rattle.wy_tree.specs.declared.kind.Kind.{Kind}
use Rattle.wy_tree.specs.declared.kind.Kind.TheVariants as kinds
use Rattle.wy_tree.specs.declared.grammar.Sort.{Sort}
use Rattle.wy_tree.specs.declared.grammar.Sort.TheVariants as sorts
use Rattle.wy_tree.specs.declared.grammar.Row.{Row}
use Rattle.wy_tree.specs.declared.grammar.Row.TheVariants as rows
use Rattle.wy_tree.specs.declared.grammar.Item.{Item}
use Rattle.wy_tree.specs.declared.grammar.Item.TheVariants.{One, Part, Parts}
use Rattle.wy_parser.specs.Prediction.{comes, is_there}
use Rattle.wy_parser.proofs.Truth.{and_left, and_right, is_false}
use Rattle.wy_parser.proofs.Firsts.{within, begins, row_begins, row_empty, first_in, first_append, every, implies, implied}

-- what may follow expressions, from the loosest level of operators to the tightest
abbrev pub after_expr : List Kind
after_expr = kinds.CloseParen ∷ kinds.CloseBracket ∷ kinds.CloseBrace ∷ kinds.Semicolon ∷ kinds.Comma ∷ kinds.Colon ∷ []

abbrev pub after_cond : List Kind
after_cond = kinds.Assign ∷ kinds.OpAssign ∷ after_expr

abbrev pub after_or_else : List Kind
after_or_else = kinds.Question ∷ after_cond

abbrev pub after_and_also : List Kind
after_and_also = kinds.OrElse ∷ after_or_else

abbrev pub after_or : List Kind
after_or = kinds.AndAlso ∷ after_and_also

abbrev pub after_xor : List Kind
after_xor = kinds.Or ∷ after_or

abbrev pub after_and : List Kind
after_and = kinds.Xor ∷ after_xor

abbrev pub after_equality : List Kind
after_equality = kinds.And ∷ after_and

abbrev pub after_relation : List Kind
after_relation = kinds.Equality ∷ after_equality

abbrev pub after_shift : List Kind
after_shift = kinds.Relation ∷ kinds.Instanceof ∷ after_relation

abbrev pub after_sum : List Kind
after_sum = kinds.Shift ∷ after_shift

abbrev pub after_product : List Kind
after_product = kinds.Plus ∷ kinds.Minus ∷ after_sum

abbrev pub after_unary : List Kind
after_unary = kinds.Times ∷ after_product

abbrev pub after_statement : Kind → Bool
after_statement k = not (within (kinds.Catch ∷ kinds.Finally ∷ []) k)

-- what may follow a whole tree of a sort, but for an else and a bracket: those follow some trees alone
abbrev pub ends : Sort → Kind → Bool
ends sorts.Unit k = false
ends sorts.Declaration k = true
ends sorts.Class k = true
ends sorts.Interface k = true
ends sorts.Mod k = true
ends sorts.Member k = true
ends sorts.Params k = true
ends sorts.Param k = not (same k kinds.OpenBracket)
ends sorts.Throws k = not (same k kinds.Comma)
ends sorts.Result k = not (same k kinds.OpenBracket)
ends sorts.Type k = not (same k kinds.OpenBracket)
ends sorts.RefType k = not (same k kinds.OpenBracket)
ends sorts.Decls k = same k kinds.Semicolon
ends sorts.Decl k = within (kinds.Comma ∷ kinds.Semicolon ∷ []) k
ends sorts.Init k = within (kinds.Comma ∷ kinds.Semicolon ∷ kinds.CloseBrace ∷ []) k
ends sorts.Block k = true
ends sorts.Local k = not (within (kinds.Else ∷ kinds.Catch ∷ kinds.Finally ∷ []) k)
ends sorts.Stmt k = after_statement k
ends sorts.ForInit k = same k kinds.Semicolon
ends sorts.Catch k = true
ends sorts.Expr k = within after_expr k
ends sorts.Effect k = within after_expr k
ends sorts.Cond k = within after_cond k
ends sorts.OrElse k = within after_or_else k
ends sorts.AndAlso k = within after_and_also k
ends sorts.Or k = within after_or k
ends sorts.Xor k = within after_xor k
ends sorts.And k = within after_and k
ends sorts.Equality k = within after_equality k
ends sorts.Relation k = within after_relation k
ends sorts.Shift k = within after_shift k
ends sorts.Sum k = within after_sum k
ends sorts.Product k = within after_product k
ends sorts.Unary k = within after_unary k
ends sorts.Cast k = within after_unary k
ends sorts.Operand k = within after_unary k
ends sorts.Postfix k = within after_unary k
ends sorts.Primary k = within (kinds.Step ∷ after_unary) k
ends sorts.New k = true
ends sorts.Args k = true

-- what may follow a tree of a sort, also one that goes on as a larger tree of the sort
abbrev pub meets : Sort → Kind → Bool
meets sorts.Unit k = same k kinds.Nothing
meets sorts.Primary k = within (kinds.Dot ∷ kinds.OpenBracket ∷ kinds.Step ∷ after_unary) k
meets sorts.OrElse k = within after_and_also k
meets sorts.AndAlso k = within after_or k
meets sorts.Or k = within after_xor k
meets sorts.Xor k = within after_and k
meets sorts.And k = within after_equality k
meets sorts.Equality k = within after_relation k
meets sorts.Relation k = within after_shift k
meets sorts.Shift k = within after_sum k
meets sorts.Sum k = within after_product k
meets sorts.Product k = within after_unary k
meets x k = ends x k

-- what may follow the parts that a row stands for
abbrev pub row_meets : Row → Kind → Bool
row_meets (rows.Any x) k = not (comes x k)
row_meets (rows.Maybe x) k = not (is_there x k) && ends x k
row_meets (rows.Series x) k = same k kinds.CloseParen
row_meets (rows.Further x) k = not (same k kinds.Comma) && ends x k
row_meets rows.Names k = not (same k kinds.Comma)
row_meets rows.Brackets k = not (same k kinds.OpenBracket)
row_meets rows.MaybeFinal k = not (same k kinds.Final)
row_meets rows.Superclass k = not (same k kinds.Extends)
row_meets rows.Interfaces k = not (within (kinds.Implements ∷ kinds.Comma ∷ []) k)
row_meets rows.Supers k = not (within (kinds.Extends ∷ kinds.Comma ∷ []) k)
row_meets rows.Methods k = same k kinds.CloseBrace
row_meets rows.ResultForm k = not (same k kinds.OpenBracket)
row_meets rows.Initial k = within (kinds.Comma ∷ kinds.Semicolon ∷ []) k
row_meets rows.InitForm k = ends sorts.Init k
row_meets rows.Elements k = same k kinds.CloseBrace
row_meets rows.MoreElements k = same k kinds.CloseBrace
row_meets rows.AfterComma k = same k kinds.CloseBrace
row_meets rows.LocalForm k = ends sorts.Local k
row_meets rows.StmtForm k = after_statement k
row_meets rows.Otherwise k = after_statement k
row_meets rows.Label k = not (is_name k)
row_meets rows.Handlers k = after_statement k
row_meets rows.Finally k = after_statement k
row_meets rows.ForInitForm k = same k kinds.Semicolon
row_meets rows.Assigned k = within after_expr k
row_meets rows.Choice k = within after_cond k
row_meets rows.UnaryForm k = within after_unary k
row_meets rows.Negated k = within after_unary k
row_meets rows.CastForm k = within after_unary k
row_meets rows.Steps k = within after_unary k
row_meets rows.PrimaryForm k = meets sorts.Primary k
row_meets rows.NewForm k = not (same k kinds.OpenBracket)
row_meets rows.Dimensions k = not (same k kinds.OpenBracket)
row_meets _ k = true

abbrev pub are_locals : List Item → Bool
are_locals (Parts (rows.Any sorts.Local) ∷ items) = true
are_locals _ = false

-- the rows that the grammar has, before these items
abbrev pub occurs : Row → List Item → Bool
occurs (rows.Any sorts.Declaration) items = true
occurs (rows.Any sorts.Mod) items = true
occurs (rows.Any sorts.Member) items = true
occurs (rows.Any sorts.Local) items = true
occurs (rows.Any sorts.Catch) items = true
occurs (rows.Any x) items = false
occurs (rows.Maybe sorts.Throws) items = true
occurs (rows.Maybe sorts.Args) items = true
occurs (rows.Maybe sorts.ForInit) items = true
occurs (rows.Maybe sorts.Expr) items = true
occurs (rows.Maybe x) items = false
occurs (rows.Series sorts.Param) items = true
occurs (rows.Series sorts.Expr) items = true
occurs (rows.Series sorts.Effect) items = true
occurs (rows.Series x) items = false
occurs (rows.Further sorts.Param) items = true
occurs (rows.Further sorts.Expr) items = true
occurs (rows.Further sorts.Effect) items = true
occurs (rows.Further sorts.Decl) items = true
occurs (rows.Further x) items = false
occurs rows.OwnCall items = are_locals items
occurs row items = true

-- each item may be followed by what comes next, where F is what may follow the last
abbrev pub Lawful : List Item → (Kind → Bool) → Type 0
Lawful [] F = Unit {0}
Lawful (One c ∷ items) F = Lawful items F
Lawful (Part x ∷ items) F = ((k : Kind) → first_in items F k ≡ true → ends x k ≡ true) × (begins x kinds.Nothing ≡ false) × Lawful items F
Lawful (Parts row ∷ items) F = ((k : Kind) → first_in items F k ≡ true → row_meets row k ≡ true) × (occurs row items ≡ true) × Lawful items F

-- the same, to be computed
abbrev pub lawful : List Item → (Kind → Bool) → Bool
lawful [] F = true
lawful (One c ∷ items) F = lawful items F
lawful (Part x ∷ items) F = every (λ k. implies (first_in items F k) (ends x k)) && (not (begins x kinds.Nothing) && lawful items F)
lawful (Parts row ∷ items) F = every (λ k. implies (first_in items F k) (row_meets row k)) && (occurs row items && lawful items F)

pub lawful_ok : (items : List Item) (F : Kind → Bool) → lawful items F ≡ true → Lawful items F
lawful_ok [] F e = tt
lawful_ok (One c ∷ items) F e = lawful_ok items F e
lawful_ok (Part x ∷ items) F e =
    let t = every (λ k. implies (first_in items F k) (ends x k)) in
    let r = and_right t (not (begins x kinds.Nothing) && lawful items F) e in (
      implied (first_in items F) (ends x) (and_left t (not (begins x kinds.Nothing) && lawful items F) e),
      is_false (begins x kinds.Nothing) (and_left (not (begins x kinds.Nothing)) (lawful items F) r),
      lawful_ok items F (and_right (not (begins x kinds.Nothing)) (lawful items F) r),
    )
lawful_ok (Parts row ∷ items) F e =
    let t = every (λ k. implies (first_in items F k) (row_meets row k)) in
    let r = and_right t (occurs row items && lawful items F) e in (
      implied (first_in items F) (row_meets row) (and_left t (occurs row items && lawful items F) e),
      and_left (occurs row items) (lawful items F) r,
      lawful_ok items F (and_right (occurs row items) (lawful items F) r),
    )

pub first_more : (items : List Item) (F G : Kind → Bool) (k : Kind) → (F k ≡ true → G k ≡ true) → first_in items F k ≡ true → first_in items G k ≡ true
first_more [] F G k f e = f e
first_more (One c ∷ items) F G k f e = e
first_more (Part x ∷ items) F G k f e = e
first_more (Parts row ∷ items) F G k f e = either (row_begins row k) (row_empty row) (first_in items F k) (first_in items G k) (first_more items F G k f) e
  where
    either : (b c d d' : Bool) → (d ≡ true → d' ≡ true) → (b || (c && d)) ≡ true → (b || (c && d')) ≡ true
    either true c d d' f e = refl
    either false true d d' f e = f e
    either false false d d' f e = e

locals_longer : (way items : List Item) → are_locals way ≡ true → are_locals (way ++ items) ≡ true
locals_longer (Parts (rows.Any sorts.Local) ∷ way) items e = refl
locals_longer _ items e = absurd (cc)

occurs_longer : (row : Row) (way items : List Item) → occurs row way ≡ true → occurs row (way ++ items) ≡ true
occurs_longer (rows.Any sorts.Declaration) way items e = refl
occurs_longer (rows.Any sorts.Mod) way items e = refl
occurs_longer (rows.Any sorts.Member) way items e = refl
occurs_longer (rows.Any sorts.Local) way items e = refl
occurs_longer (rows.Any sorts.Catch) way items e = refl
occurs_longer (rows.Any x) way items e = e
occurs_longer (rows.Maybe sorts.Throws) way items e = refl
occurs_longer (rows.Maybe sorts.Args) way items e = refl
occurs_longer (rows.Maybe sorts.ForInit) way items e = refl
occurs_longer (rows.Maybe sorts.Expr) way items e = refl
occurs_longer (rows.Maybe x) way items e = e
occurs_longer (rows.Series sorts.Param) way items e = refl
occurs_longer (rows.Series sorts.Expr) way items e = refl
occurs_longer (rows.Series sorts.Effect) way items e = refl
occurs_longer (rows.Series x) way items e = e
occurs_longer (rows.Further sorts.Param) way items e = refl
occurs_longer (rows.Further sorts.Expr) way items e = refl
occurs_longer (rows.Further sorts.Effect) way items e = refl
occurs_longer (rows.Further sorts.Decl) way items e = refl
occurs_longer (rows.Further x) way items e = e
occurs_longer rows.OwnCall way items e = locals_longer way items e
occurs_longer row way items e = refl

-- a way of a row, and the items behind the row
pub lawful_append : (way items : List Item) (F G : Kind → Bool) → ((k : Kind) → first_in items F k ≡ true → G k ≡ true) → Lawful way G → Lawful items F → Lawful (way ++ items) F
lawful_append [] items F G f v w = w
lawful_append (One c ∷ way) items F G f v w = lawful_append way items F G f v w
lawful_append (Part x ∷ way) items F G f v w =
    ((λ k e. v.0 k (first_more way (first_in items F) G k (f k) (sym (first_append way items F k) ∙ e))), v.1, lawful_append way items F G f v.2 w)
lawful_append (Parts row ∷ way) items F G f v w =
    ((λ k e. v.0 k (first_more way (first_in items F) G k (f k) (sym (first_append way items F k) ∙ e))), occurs_longer row way items v.1, lawful_append way items F G f v.2 w)
