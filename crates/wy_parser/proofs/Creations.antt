-- An array creation ends in a token or in brackets, not in arguments.
use Rattle.std.proofs.Common.{Bool, true, false, not, ◌&&◌, ◌≡◌, List, [], ◌∷◌, ◌++◌, refl, sym, ◌∙◌, ap, append_assoc}
use Rattle.wy_tree.specs.Seen.{Tok}
use Rattle.wy_tree.specs.Kinds.{same}
use Rattle.wy_tree.specs.Ast.{Ast, Asts, Leaf, more, node}
use Rattle.wy_tree.specs.Conditions.{ends_in_args}
use Rattle.wy_tree.specs.Grammar as grammar
use Rattle.wy_tree.specs.Grammar.{a, form_of, Match, done, token, part, chosen}
use Rattle.wy_tree.specs.declared.kind.Kind.{Kind}
use Rattle.wy_tree.specs.declared.kind.Kind.TheVariants as kinds
use Rattle.wy_tree.specs.declared.grammar.Class.{Class}
use Rattle.wy_tree.specs.declared.grammar.Class.TheVariants.{Exactly, Element}
use Rattle.wy_tree.specs.declared.grammar.Sort.TheVariants as sorts
use Rattle.wy_tree.specs.declared.grammar.Row.TheVariants as rows
use Rattle.wy_tree.specs.declared.grammar.Item.{Item}
use Rattle.wy_tree.specs.declared.grammar.Item.TheVariants.{One, Part, Parts}
use Rattle.wy_parser.proofs.Clear.{barred}

no_arguments : (all : List Item) (ts : Asts) → Match all ts → all ≡ [] → (o : Tok) → ends_in_args (more (Leaf o) ts) ≡ false
no_arguments _ _ done q o = refl
no_arguments _ _ (token e w) q o = absurd (cc)
no_arguments _ _ (part v w) q o = absurd (cc)
no_arguments _ _ (chosen y w) q o = absurd (cc)

ends_in_token : (items all : List Item) (ts : Asts) → Match all ts → (c : Class) → all ≡ items ++ (One c ∷ []) → (l : Ast) → ends_in_args (more l ts) ≡ false
ends_in_token [] _ _ done c q l = absurd (cc)
ends_in_token (item ∷ items) _ _ done c q l = absurd (cc)
ends_in_token [] _ _ (token {o} {items = all} {ts} e w) c q l = no_arguments all ts w (let h : all ≡ [] = cc in h) o
ends_in_token (item ∷ items) _ _ (token {o} {items = all} {ts} e w) c q l = ends_in_token items all ts w c (let h : all ≡ items ++ (One c ∷ []) = cc in h) (Leaf o)
ends_in_token [] _ _ (part v w) c q l = absurd (cc)
ends_in_token (item ∷ items) _ _ (part {t} {items = all} {ts} v w) c q l = ends_in_token items all ts w c (let h : all ≡ items ++ (One c ∷ []) = cc in h) t
ends_in_token [] _ _ (chosen y w) c q l = absurd (cc)
ends_in_token (item ∷ items) _ _ (chosen {way} {items = all} {ts} y w) c q l =
    let h : all ≡ items ++ (One c ∷ []) = cc in
    ends_in_token (way ++ items) (way ++ all) ts w c (ap (λ z. way ++ z) h ∙ sym (append_assoc way items (One c ∷ []))) l

ends_in_brackets : (ts : Asts) → Match (Parts rows.Brackets ∷ []) ts → (o : Tok) → ends_in_args (more (Leaf o) ts) ≡ false
ends_in_brackets _ (chosen grammar.no_brackets done) o = refl
ends_in_brackets _ (chosen grammar.brackets (token e (token {o = o'} {ts} f w))) o = ends_in_brackets ts w o'

ends_in_dimensions : (ts : Asts) → Match (Parts rows.Dimensions ∷ []) ts → (o : Tok) → ends_in_args (more (Leaf o) ts) ≡ false
ends_in_dimensions _ (chosen grammar.no_dimensions done) o = refl
ends_in_dimensions _ (chosen grammar.dimension (token e (part v (token {o = o'} {ts} f w)))) o = ends_in_dimensions ts w o'
ends_in_dimensions _ (chosen grammar.unsized (token e (token {o = o'} {ts} f w))) o = ends_in_brackets ts w o'

-- the parts behind `new` with sizes, and with elements
abbrev pub sized : List Item
sized = One Element ∷ a kinds.OpenBracket ∷ Part sorts.Expr ∷ a kinds.CloseBracket ∷ Parts rows.Dimensions ∷ []

abbrev pub listed : List Item
listed = One Element ∷ a kinds.OpenBracket ∷ a kinds.CloseBracket ∷ Parts rows.Brackets ∷ a kinds.OpenBrace ∷ Parts rows.Elements ∷ a kinds.CloseBrace ∷ []

-- behind an array creation no bracket may follow, as the condition on its tree says
no_bracket : (b c : Bool) → b ≡ false → (not b && c) ≡ false → not c ≡ true
no_bracket false true e f = absurd (cc)
no_bracket false false e f = refl
no_bracket true c e f = absurd (cc)

pub sized_bars : (ts : Asts) → Match sized ts → (o : Tok) (k : Kind) → barred sorts.New (node (form_of sorts.New) (more (Leaf o) ts)) k ≡ false → not (same k kinds.OpenBracket) ≡ true
sized_bars _ (token {o} e (token {o = o'} e' (part {t} v (token {o = o''} {ts} e'' w)))) p k b = no_bracket (ends_in_args (more (Leaf o'') ts)) (same k kinds.OpenBracket) (ends_in_dimensions ts w o'') b

pub listed_bars : (ts : Asts) → Match listed ts → (o : Tok) (k : Kind) → barred sorts.New (node (form_of sorts.New) (more (Leaf o) ts)) k ≡ false → not (same k kinds.OpenBracket) ≡ true
listed_bars _ (token {o} {ts} e w) p k b =
    no_bracket (ends_in_args (more (Leaf o) ts)) (same k kinds.OpenBracket)
    (ends_in_token (a kinds.OpenBracket ∷ a kinds.CloseBracket ∷ Parts rows.Brackets ∷ a kinds.OpenBrace ∷ Parts rows.Elements ∷ []) _ ts w (Exactly kinds.CloseBrace) refl (Leaf o)) b
