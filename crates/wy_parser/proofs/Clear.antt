-- No else stands behind a statement that is open, and no bracket behind an array creation.
use Rattle.std.proofs.Common.{Bool, true, false, not, ◌&&◌, ◌||◌, ◌≡◌, List, [], ◌∷◌, ◌++◌, refl, sym, ◌∙◌, ap, subst, append_assoc}
use Rattle.wy_tree.specs.Seen.{Tok}
use Rattle.wy_tree.specs.Kinds.{kind_of, same}
use Rattle.wy_tree.specs.Conditions.{is_open, ends_open, is_array_creation, lacks_else, fine}
use Rattle.wy_tree.specs.Ast.{Ast, Asts, Leaf, none, more, node, tokens_all}
use Rattle.wy_tree.specs.Grammar as grammar
use Rattle.wy_tree.specs.Grammar.{a, name, form_of, rule, Alternative, Suffix, Match, done, token, part, chosen}
use Rattle.wy_tree.specs.declared.kind.Kind.{Kind}
use Rattle.wy_tree.specs.declared.kind.Kind.TheVariants as kinds
use Rattle.wy_tree.specs.declared.grammar.Sort.{Sort}
use Rattle.wy_tree.specs.declared.grammar.Sort.TheVariants as sorts
use Rattle.wy_tree.specs.declared.grammar.Row.{Row}
use Rattle.wy_tree.specs.declared.grammar.Row.TheVariants as rows
use Rattle.wy_tree.specs.declared.grammar.Item.{Item}
use Rattle.wy_tree.specs.declared.grammar.Item.TheVariants.{One, Part, Parts}
use Rattle.wy_parser.specs.Prediction.{first_kind}
use Rattle.wy_parser.proofs.Truth.{and_left, and_right, both, is_false}
use Rattle.wy_parser.proofs.Firsts.{within, every, implied, front_first}
use Rattle.wy_parser.proofs.Follows.{meets, after_unary}
use Rattle.wy_parser.proofs.Expressions.{fine_condition}
use Rattle.wy_parser.proofs.Decisions.{lets}

-- what does not follow this tree of a sort, though it follows others
abbrev pub barred : Sort → Ast → Kind → Bool
barred sorts.Stmt t k = is_open t && same k kinds.Else
barred sorts.Primary t k = is_array_creation t && same k kinds.OpenBracket
barred sorts.New t k = is_array_creation t && same k kinds.OpenBracket
barred _ t k = false

-- nothing of the kind follows any part
abbrev pub clear : {items : List Item} {ts : Asts} → Match items ts → List Tok → Type 0
clear done s = Unit {0}
clear (token e w) s = clear w s
clear (part {x} {t} {items} {ts} v w) s = (barred x t (first_kind (tokens_all ts ++ s)) ≡ false) × clear w s
clear (chosen {r} {way} {items} {ts} y w) s = (lets y (first_kind (tokens_all ts ++ s)) ≡ true) × clear w s

-- sorts and rows without such trees among their parts
abbrev plain_sort : Sort → Bool
plain_sort sorts.Stmt = false
plain_sort sorts.Primary = false
plain_sort sorts.New = false
plain_sort _ = true

abbrev plain_row : Row → Bool
plain_row (rows.Any x) = plain_sort x
plain_row (rows.Maybe x) = plain_sort x
plain_row (rows.Series x) = plain_sort x
plain_row (rows.Further x) = plain_sort x
plain_row rows.LocalForm = false
plain_row rows.StmtForm = false
plain_row rows.Otherwise = false
plain_row rows.PrimaryForm = false
plain_row _ = true

abbrev plain : List Item → Bool
plain [] = true
plain (One c ∷ items) = plain items
plain (Part x ∷ items) = plain_sort x && plain items
plain (Parts row ∷ items) = plain_row row && plain items

plain_append : (way items : List Item) → plain way ≡ true → plain items ≡ true → plain (way ++ items) ≡ true
plain_append [] items e f = f
plain_append (One c ∷ way) items e f = plain_append way items e f
plain_append (Part x ∷ way) items e f = both (plain_sort x) (plain (way ++ items)) (and_left (plain_sort x) (plain way) e) (plain_append way items (and_right (plain_sort x) (plain way) e) f)
plain_append (Parts row ∷ way) items e f = both (plain_row row) (plain (way ++ items)) (and_left (plain_row row) (plain way) e) (plain_append way items (and_right (plain_row row) (plain way) e) f)

pub barred_plain : (x : Sort) (t : Ast) (k : Kind) → plain_sort x ≡ true → barred x t k ≡ false
barred_plain sorts.Stmt t k e = absurd (cc)
barred_plain sorts.Primary t k e = absurd (cc)
barred_plain sorts.New t k e = absurd (cc)
barred_plain x t k e = refl

lets_plain : {row : Row} {way : List Item} (y : Alternative row way) (k : Kind) → plain_row row ≡ true → lets y k ≡ true
lets_plain grammar.no_else k e = absurd (cc)
lets_plain y k e = refl

one_plain : (b : Bool) → b ≡ true → (b && true) ≡ true
one_plain b e = both b true e refl

plain_way : {row : Row} {way : List Item} → Alternative row way → plain_row row ≡ true → plain way ≡ true
plain_way (grammar.some_of {x}) e = both (plain_sort x) (plain_sort x && true) e (one_plain (plain_sort x) e)
plain_way (grammar.present {x}) e = one_plain (plain_sort x) e
plain_way (grammar.series {x}) e = both (plain_sort x) (plain_sort x && true) e (one_plain (plain_sort x) e)
plain_way (grammar.further {x}) e = both (plain_sort x) (plain_sort x && true) e (one_plain (plain_sort x) e)
plain_way grammar.a_statement e = absurd (cc)
plain_way grammar.an_if e = absurd (cc)
plain_way grammar.a_while e = absurd (cc)
plain_way grammar.a_do e = absurd (cc)
plain_way grammar.a_for e = absurd (cc)
plain_way grammar.labelled e = absurd (cc)
plain_way grammar.an_else e = absurd (cc)
plain_way grammar.created e = absurd (cc)
plain_way y e = refl

pub clear_plain : (items : List Item) (ts : Asts) (w : Match items ts) → plain items ≡ true → (s : List Tok) → clear w s
clear_plain _ _ done e s = tt
clear_plain _ _ (token {items} {ts} f w) e s = clear_plain items ts w e s
clear_plain _ _ (part {x} {t} {items} {ts} v w) e s = (barred_plain x t (first_kind (tokens_all ts ++ s)) (and_left (plain_sort x) (plain items) e), clear_plain items ts w (and_right (plain_sort x) (plain items) e) s)
clear_plain _ _ (chosen {r} {way} {items} {ts} y w) e s =
    let f = and_left (plain_row r) (plain items) e in
    (lets_plain y (first_kind (tokens_all ts ++ s)) f, clear_plain (way ++ items) ts w (plain_append way items (plain_way y f) (and_right (plain_row r) (plain items) e)) s)

-- no else follows, or the last part is not open
abbrev closes : Asts → List Tok → Type 0
closes ts s = (ends_open ts && same (first_kind s) kinds.Else) ≡ false

closes_later : (t : Ast) (ts : Asts) (s : List Tok) → closes (more t ts) s → closes ts s
closes_later t none s e = refl
closes_later t (more u ts) s e = e

last_part : (x : Sort) (t : Ast) (all : List Item) (ts : Asts) (w : Match all ts) → x ≡ sorts.Stmt → all ≡ [] → (s : List Tok) → closes (more t ts) s → (barred x t (first_kind (tokens_all ts ++ s)) ≡ false) × clear w s
last_part x t _ _ done q r s c = (ap (λ z. barred z t (first_kind s)) q ∙ c, tt)
last_part x t _ _ (token e w) q r s c = absurd (cc)
last_part x t _ _ (part v w) q r s c = absurd (cc)
last_part x t _ _ (chosen y w) q r s c = absurd (cc)

-- parts of which a statement is the last
clear_last : (items : List Item) (all : List Item) (ts : Asts) (w : Match all ts) → all ≡ items ++ (Part sorts.Stmt ∷ []) → plain items ≡ true → (s : List Tok) → closes ts s → clear w s
clear_last [] _ _ done q e s c = absurd (cc)
clear_last (item ∷ items) _ _ done q e s c = absurd (cc)
clear_last [] _ _ (token f w) q e s c = absurd (cc)
clear_last (One d ∷ items) _ _ (token {o} {items = all} {ts} f w) q e s c = clear_last items all ts w (let h : all ≡ items ++ (Part sorts.Stmt ∷ []) = cc in h) e s (closes_later (Leaf o) ts s c)
clear_last (Part x ∷ items) _ _ (token f w) q e s c = absurd (cc)
clear_last (Parts row ∷ items) _ _ (token f w) q e s c = absurd (cc)
clear_last [] _ _ (part {x} {t} {items = all} {ts} v w) q e s c = last_part x t all ts w (let h : x ≡ sorts.Stmt = cc in h) (let h : all ≡ [] = cc in h) s c
clear_last (One d ∷ items) _ _ (part v w) q e s c = absurd (cc)
clear_last (Part y ∷ items) _ _ (part {x} {t} {items = all} {ts} v w) q e s c =
    let h : y ≡ x = cc in (
      barred_plain x t (first_kind (tokens_all ts ++ s)) (subst (λ z. plain_sort z ≡ true) h (and_left (plain_sort y) (plain items) e)),
      clear_last items all ts w (let h : all ≡ items ++ (Part sorts.Stmt ∷ []) = cc in h) (and_right (plain_sort y) (plain items) e) s (closes_later t ts s c),
    )
clear_last (Parts row ∷ items) _ _ (part v w) q e s c = absurd (cc)
clear_last [] _ _ (chosen y w) q e s c = absurd (cc)
clear_last (One d ∷ items) _ _ (chosen y w) q e s c = absurd (cc)
clear_last (Part x ∷ items) _ _ (chosen y w) q e s c = absurd (cc)
clear_last (Parts row ∷ items) _ _ (chosen {r} {way} {items = all} {ts} y w) q e s c =
    let h : row ≡ r = cc in
    let g : all ≡ items ++ (Part sorts.Stmt ∷ []) = cc in
    let f = subst (λ z. plain_row z ≡ true) h (and_left (plain_row row) (plain items) e) in (
      lets_plain y (first_kind (tokens_all ts ++ s)) f,
      clear_last (way ++ items) (way ++ all) ts w (ap (λ z. way ++ z) g ∙ sym (append_assoc way items (Part sorts.Stmt ∷ []))) (plain_append way items (plain_way y f) (and_right (plain_row row) (plain items) e)) s c,
    )

local_without_else : (k : Kind) → meets sorts.Local k ≡ true → not (same k kinds.Else) ≡ true
unfolding every
local_without_else k e = implied (meets sorts.Local) (λ k. not (same k kinds.Else)) refl k e

while_is_no_else : (k : Kind) → same k kinds.While ≡ true → not (same k kinds.Else) ≡ true
unfolding every
while_is_no_else k e = implied (λ k. same k kinds.While) (λ k. not (same k kinds.Else)) refl k e

behind_primary : (k : Kind) → ((same k kinds.Step || false) || (true && within after_unary k)) ≡ true → not (same k kinds.OpenBracket) ≡ true
unfolding every
behind_primary k e = implied (λ k. (same k kinds.Step || false) || (true && within after_unary k)) (λ k. not (same k kinds.OpenBracket)) refl k e

no_bar : (b c : Bool) → c ≡ false → (b && c) ≡ false
no_bar true c e = e
no_bar false c e = refl

no_bar_left : (b c : Bool) → b ≡ false → (b && c) ≡ false
no_bar_left true c e = absurd (cc)
no_bar_left false c e = refl

bar_right : (l b c : Bool) → ((l || b) && c) ≡ false → (b && c) ≡ false
bar_right true b false e = no_bar b false refl
bar_right true b true e = absurd (cc)
bar_right false b c e = e

clear_local : (ts : Asts) (w : Match (rule sorts.Local) ts) (s : List Tok) → meets sorts.Local (first_kind s) ≡ true → clear w s
clear_local ts (chosen grammar.a_declaration w) s m = (refl, clear_plain _ ts w refl s)
clear_local _ (chosen grammar.a_statement (part {t} v done)) s m = (refl, (no_bar (is_open t) (same (first_kind s) kinds.Else) (is_false (same (first_kind s) kinds.Else) (local_without_else (first_kind s) m)), tt))

clear_postfix : (ts : Asts) (w : Match (rule sorts.Postfix) ts) (s : List Tok) → meets sorts.Postfix (first_kind s) ≡ true → clear w s
clear_postfix _ (part {t} {ts} v w) s m =
    let k = first_kind (tokens_all ts ++ s) in
    (no_bar (is_array_creation t) (same k kinds.OpenBracket) (is_false (same k kinds.OpenBracket) (behind_primary k (front_first (Parts rows.Steps ∷ []) ts w (within after_unary) s m))), clear_plain _ ts w refl s)

clear_primary : (ts : Asts) (w : Match (rule sorts.Primary) ts) (s : List Tok) → barred sorts.Primary (node (form_of sorts.Primary) ts) (first_kind s) ≡ false → clear w s
clear_primary _ (chosen grammar.created (part v done)) s b = (refl, (b, tt))
clear_primary ts (chosen grammar.literal w) s b = (refl, clear_plain _ ts w refl s)
clear_primary ts (chosen grammar.this w) s b = (refl, clear_plain _ ts w refl s)
clear_primary ts (chosen grammar.named w) s b = (refl, clear_plain _ ts w refl s)
clear_primary ts (chosen grammar.grouped w) s b = (refl, clear_plain _ ts w refl s)
clear_primary ts (chosen grammar.inherited w) s b = (refl, clear_plain _ ts w refl s)

-- without an else an if is open
if_open : (b c : Bool) (d : Bool) → b ≡ true → (((b && true) || c) && d) ≡ false → d ≡ false
if_open true c d e f = f
if_open false c d e f = absurd (cc)

-- the statement before an else is not open
else_closes : (b c : Bool) → b ≡ true → ((b && false) || not (b && c)) ≡ true → c ≡ false
else_closes true true e f = absurd (cc)
else_closes true false e f = refl
else_closes false c e f = absurd (cc)

-- if the node closes, its last part does
closed_last : (ts : Asts) (s : List Tok) → barred sorts.Stmt (node (form_of sorts.Stmt) ts) (first_kind s) ≡ false → closes ts s
closed_last none s b = refl
closed_last (more t none) s b = b
closed_last (more t (more u ts)) s b = bar_right (lacks_else (more t (more u ts))) (ends_open (more t (more u ts))) (same (first_kind s) kinds.Else) b

clear_statement : (ts : Asts) (w : Match (rule sorts.Stmt) ts) (s : List Tok) → fine sorts.Stmt ts ≡ true → barred sorts.Stmt (node (form_of sorts.Stmt) ts) (first_kind s) ≡ false → clear w s
clear_statement _ (chosen grammar.an_if (token {o} e (token e' (part v (token e'' (part {t} v' (chosen grammar.no_else done))))))) s f b =
    let d : same (first_kind s) kinds.Else ≡ false = if_open (same (kind_of o) kinds.If) (is_open t) (same (first_kind s) kinds.Else) e b in
    (refl, (refl, (no_bar (is_open t) (same (first_kind s) kinds.Else) d, (ap not d, tt))))
clear_statement _ (chosen grammar.an_if (token {o} e (token {o = p} e' (part {t = c} v (token {o = p'} e'' (part {t} v' (chosen grammar.an_else (token {o = o'} e4 (part {t = t'} v'' done))))))))) s f b =
    let g = fine_condition sorts.Stmt (more (Leaf o) (more (Leaf p) (more c (more (Leaf p') (more t (more (Leaf o') (more t' none))))))) f in
    (refl, (refl, (no_bar_left (is_open t) (same (kind_of o') kinds.Else) (else_closes (same (kind_of o) kinds.If) (is_open t) e g), (refl, (bar_right (same (kind_of o) kinds.If && false) (is_open t') (same (first_kind s) kinds.Else) b, tt)))))
clear_statement ts (chosen grammar.a_while w) s f b = (refl, clear_last (a kinds.While ∷ a kinds.OpenParen ∷ Part sorts.Expr ∷ a kinds.CloseParen ∷ []) _ ts w refl refl s (closed_last ts s b))
clear_statement ts (chosen grammar.a_for w) s f b = (refl, clear_last (a kinds.For ∷ a kinds.OpenParen ∷ Parts (rows.Maybe sorts.ForInit) ∷ a kinds.Semicolon ∷ Parts (rows.Maybe sorts.Expr) ∷ a kinds.Semicolon ∷ Parts (rows.Series sorts.Effect) ∷ a kinds.CloseParen ∷ []) _ ts w refl refl s (closed_last ts s b))
clear_statement ts (chosen grammar.labelled w) s f b = (refl, clear_last (name ∷ a kinds.Colon ∷ []) _ ts w refl refl s (closed_last ts s b))
clear_statement _ (chosen grammar.a_do (token e (part {t} v (token {o} {ts} e' w)))) s f b =
    (refl, (no_bar (is_open t) (same (kind_of o) kinds.Else) (is_false (same (kind_of o) kinds.Else) (while_is_no_else (kind_of o) e')), clear_plain _ ts w refl s))
clear_statement ts (chosen grammar.a_block w) s f b = (refl, clear_plain _ ts w refl s)
clear_statement ts (chosen grammar.empty w) s f b = (refl, clear_plain _ ts w refl s)
clear_statement ts (chosen grammar.an_effect w) s f b = (refl, clear_plain _ ts w refl s)
clear_statement ts (chosen grammar.a_break w) s f b = (refl, clear_plain _ ts w refl s)
clear_statement ts (chosen grammar.a_continue w) s f b = (refl, clear_plain _ ts w refl s)
clear_statement ts (chosen grammar.a_return w) s f b = (refl, clear_plain _ ts w refl s)
clear_statement ts (chosen grammar.a_throw w) s f b = (refl, clear_plain _ ts w refl s)
clear_statement ts (chosen grammar.a_try w) s f b = (refl, clear_plain _ ts w refl s)

-- the parts of a tree
pub clear_rule : (x : Sort) (ts : Asts) (w : Match (rule x) ts) (s : List Tok) → meets x (first_kind s) ≡ true → fine x ts ≡ true → barred x (node (form_of x) ts) (first_kind s) ≡ false → clear w s
clear_rule sorts.Local ts w s m f b = clear_local ts w s m
clear_rule sorts.Stmt ts w s m f b = clear_statement ts w s f b
clear_rule sorts.Postfix ts w s m f b = clear_postfix ts w s m
clear_rule sorts.Primary ts w s m f b = clear_primary ts w s b
clear_rule x ts w s m f b = clear_plain (rule x) ts w refl s

pub clear_suffix : (x : Sort) (items : List Item) → Suffix x items → (ts : Asts) (w : Match items ts) (s : List Tok) → clear w s
clear_suffix _ _ (grammar.operator {x = sorts.OrElse} f) ts w s = clear_plain _ ts w refl s
clear_suffix _ _ (grammar.operator {x = sorts.AndAlso} f) ts w s = clear_plain _ ts w refl s
clear_suffix _ _ (grammar.operator {x = sorts.Or} f) ts w s = clear_plain _ ts w refl s
clear_suffix _ _ (grammar.operator {x = sorts.Xor} f) ts w s = clear_plain _ ts w refl s
clear_suffix _ _ (grammar.operator {x = sorts.And} f) ts w s = clear_plain _ ts w refl s
clear_suffix _ _ (grammar.operator {x = sorts.Equality} f) ts w s = clear_plain _ ts w refl s
clear_suffix _ _ (grammar.operator {x = sorts.Relation} f) ts w s = clear_plain _ ts w refl s
clear_suffix _ _ (grammar.operator {x = sorts.Shift} f) ts w s = clear_plain _ ts w refl s
clear_suffix _ _ (grammar.operator {x = sorts.Sum} f) ts w s = clear_plain _ ts w refl s
clear_suffix _ _ (grammar.operator {x = sorts.Product} f) ts w s = clear_plain _ ts w refl s
clear_suffix _ _ (grammar.operator {x} f) ts w s = absurd (cc)
clear_suffix _ _ grammar.instance_of ts w s = clear_plain _ ts w refl s
clear_suffix _ _ grammar.member ts w s = clear_plain _ ts w refl s
clear_suffix _ _ grammar.element ts w s = clear_plain _ ts w refl s
