-- The declarators and effects that a well-formed tree is have nothing missing.
use Rattle.std.proofs.Common.{◌≡◌, refl, sym, subst, ℕ, ◌+◌, Bool, true, false, if◌then◌else◌, List, [], ◌∷◌}
use Rattle.std.specs.Prelude.{Option, Some}
use Rattle.wy_tree.specs.Seen.{Tok}
use Rattle.wy_tree.specs.Kinds.{kind_of, same}
use Rattle.wy_tree.specs.Ast.{Ast, Asts, Leaf, Node, node}
use Rattle.wy_tree.specs.Ast as tree
use Rattle.wy_tree.specs.Conditions.{is_name}
use Rattle.wy_tree.specs.Grammar.{Is, Match}
use Rattle.wy_tree.specs.Grammar as grammar
use Rattle.wy_tree.specs.declared.kind.Kind.{Kind}
use Rattle.wy_tree.specs.declared.kind.Kind.TheVariants as kinds
use Rattle.wy_tree.specs.declared.tree.Form.TheVariants as form
use Rattle.wy_tree.specs.declared.grammar.Sort.TheVariants as sorts
use Rattle.wy_tree.specs.declared.grammar.Row.TheVariants as rows
use Rattle.wy_tree.specs.declared.grammar.Item.TheVariants.{Parts}
use Rattle.wy_syntax.specs.Syntax.{Initial, Effect, ForInit, Declared, Effects}
use Rattle.wy_syntax.specs.Names.{width, is_leaf, written}
use Rattle.wy_syntax.specs.Expressions.{expression, initial}
use Rattle.wy_syntax.specs.Statements.{initial_in, declarator, declarator_list, declarators, effects_behind, effects, for_init}
use Rattle.wy_syntax.specs.Declarations.{is_params}
use Rattle.law_well_formed.proofs.Whole.{Names, WholeOption, WholeDeclarators, WholeEffects, WholeInit}
use Rattle.law_well_formed.proofs.Leaves.{Worded, AllWorded, parts_worded, alone, plain_leaf}
use Rattle.law_well_formed.proofs.Expressions.{Told, told, initial_told}

-- ---- one of two

first_option : (P : Names) (b : Bool) (x y : Option Initial) → b ≡ true → WholeOption P x → WholeOption P (if b then x else y)
first_option P true x y e h = h
first_option P false x y e h = absurd cc

second_option : (P : Names) (b : Bool) (x y : Option Initial) → b ≡ false → WholeOption P y → WholeOption P (if b then x else y)
second_option P true x y e h = absurd cc
second_option P false x y e h = h

pub first_effects : (P : Names) (b : Bool) (x y : List Effect) → b ≡ true → WholeEffects P x → WholeEffects P (if b then x else y)
first_effects P true x y e h = h
first_effects P false x y e h = absurd cc

pub second_effects : (P : Names) (b : Bool) (x y : List Effect) → b ≡ false → WholeEffects P y → WholeEffects P (if b then x else y)
second_effects P true x y e h = absurd cc
second_effects P false x y e h = h

first_init : (P : Names) (b : Bool) (x y : ForInit) → b ≡ true → WholeInit P x → WholeInit P (if b then x else y)
first_init P true x y e h = h
first_init P false x y e h = absurd cc

second_init : (P : Names) (b : Bool) (x y : ForInit) → b ≡ false → WholeInit P y → WholeInit P (if b then x else y)
second_init P true x y e h = absurd cc
second_init P false x y e h = h

-- ---- declarators

-- one, alone or among others
abbrev OneTold : Names → Ast → Type 0
OneTold P t = (n : ℕ) → WholeOption P (declarator n t).initial

abbrev pub DeclaratorsTold : Names → Ast → Type 0
DeclaratorsTold P t = ((n : ℕ) → WholeDeclarators P (declarators n t)) × (is_leaf kinds.Colon t ≡ false) × (is_params t ≡ false)

past_bracket : (P : Names) (o : Tok) (ts : Asts) (n : ℕ) → same (kind_of o) kinds.Assign ≡ false → WholeOption P (initial_in (n + 1) ts) → WholeOption P (initial_in n (tree.more (Leaf o) ts))
unfolding initial_in
past_bracket P o tree.none n e h = tt
past_bracket P o (tree.more v behind) n e h = second_option P (same (kind_of o) kinds.Assign) (Some (initial (n + 1) v)) _ e h

behind_name : (P : Names) (ts : Asts) → Match (Parts rows.Brackets ∷ Parts rows.Initial ∷ []) ts → AllWorded P ts → (n : ℕ) → WholeOption P (initial_in n ts)
unfolding initial_in
behind_name P ts (grammar.chosen grammar.no_brackets (grammar.chosen grammar.no_initial grammar.done)) h n = tt
behind_name P ts (grammar.chosen grammar.no_brackets (grammar.chosen grammar.initial (grammar.token {o} m (grammar.part {t} v grammar.done)))) h n =
    first_option P (same (kind_of o) kinds.Assign) (Some (initial (n + 1) t)) _ m ((initial_told P t v h.1.0).1 (n + 1))
behind_name P ts (grammar.chosen grammar.brackets (grammar.token {o} m (grammar.token {o = p} {ts = rest} k w))) h n =
    past_bracket P o (tree.more (Leaf p) rest) n (alone (kind_of o) kinds.OpenBracket kinds.Assign m refl)
    (past_bracket P p rest (n + 1) (alone (kind_of p) kinds.CloseBracket kinds.Assign k refl) (behind_name P rest w h.1.1 (n + 1 + 1)))

name_colon : (k : Kind) → is_name k ≡ true → same k kinds.Colon ≡ false
name_colon kinds.Word e = refl
name_colon kinds.Override e = refl
name_colon _ e = absurd cc

one_node : (P : Names) (o : Tok) (ts : Asts) → is_name (kind_of o) ≡ true → ((n : ℕ) → WholeOption P (initial_in n ts)) → OneTold P (node form.Decl (tree.more (Leaf o) ts)) × DeclaratorsTold P (node form.Decl (tree.more (Leaf o) ts))
unfolding declarator declarators
one_node P o tree.none m h = (λ n. tt, (λ n. (tt, tt), name_colon (kind_of o) m, refl))
one_node P o (tree.more t rest) m h = (λ n. h (n + 1), (λ n. (h (n + 1), tt), refl, refl))

one_told : (P : Names) (t : Ast) → Is sorts.Decl t → Worded P t → OneTold P t × DeclaratorsTold P t
one_told P t (grammar.made {ts} (grammar.token {o} {ts = rest} m w) e q) h =
    let g = parts_worded P form.Decl ts (subst (Worded P) q h) in
    let Q : Ast → Type 0 = λ u. OneTold P u × DeclaratorsTold P u in
    subst Q (sym q) (one_node P o rest m (behind_name P rest w g.1))
one_told P t (grammar.grown v (grammar.operator e) w j q) h = absurd cc

-- from one on
list_told : (P : Names) (t : Ast) (ts : Asts) → Match (Parts (rows.Further sorts.Decl) ∷ []) ts → OneTold P t → AllWorded P ts → (n : ℕ) → WholeDeclarators P (declarator_list n (tree.more t ts))
unfolding declarator_list
list_told P t ts (grammar.chosen grammar.no_further grammar.done) g h n = (g n, tt)
list_told P t ts (grammar.chosen grammar.further (grammar.token m (grammar.part {t = u} {ts = rest} v w))) g h n = (g n, list_told P u rest w (one_told P u v h.1.0).0 h.1.1 (n + width t + 1))

pub declarators_told : (P : Names) (t : Ast) → Is sorts.Decls t → Worded P t → DeclaratorsTold P t
unfolding declarators declarator_list
declarators_told P t (grammar.made {ts} (grammar.part {t = d} v (grammar.chosen grammar.no_further grammar.done)) e q) h =
    subst (DeclaratorsTold P) (sym q) (one_told P d v (subst (Worded P) q h)).1
declarators_told P t (grammar.made {ts} (grammar.part {t = d} v (grammar.chosen grammar.further (grammar.token m (grammar.part {t = u} {ts = rest} x w)))) e q) h =
    let g = parts_worded P form.Decls ts (subst (Worded P) q h) in
    subst (DeclaratorsTold P) (sym q) (λ n. ((one_told P d v g.0).0 n, list_told P u rest w (one_told P u x g.1.1.0).0 g.1.1.1 (n + width d + 1)), refl, refl)
declarators_told P t (grammar.grown v (grammar.operator e) w j q) h = absurd cc

-- ---- the head of a `for`

abbrev pub InitTold : Names → Ast → Type 0
InitTold P t = (is_leaf kinds.Semicolon t ≡ false) × ((n : ℕ) → WholeInit P (for_init n t))

effects_told : (P : Names) (ts : Asts) → Match (Parts (rows.Further sorts.Effect) ∷ []) ts → AllWorded P ts → (n : ℕ) → WholeEffects P (effects_behind n ts)
unfolding effects_behind
effects_told P ts (grammar.chosen grammar.no_further grammar.done) h n = tt
effects_told P ts (grammar.chosen grammar.further (grammar.token {o} m (grammar.part {t} {ts = rest} v w))) h n =
    first_effects P (same (kind_of o) kinds.Comma) (record { value = expression (n + 1) t; token = n + 1 } ∷ effects_behind (n + 1 + width t) rest) _ m
    ((told P sorts.Effect t refl v h.1.0).1 (n + 1), effects_told P rest w h.1.1 (n + 1 + width t))

lone_init : (P : Names) (t : Ast) → Told P t → InitTold P t
lone_init P (Leaf o) h = (plain_leaf kinds.Semicolon refl (Leaf o) h.0, λ n. (h.1 n, tt))
lone_init P (Node form.ForInit parts) h = absurd cc
lone_init P (Node _ parts) h = (refl, λ n. (h.1 n, tt))

pub init_told : (P : Names) (t : Ast) → Is sorts.ForInit t → Worded P t → InitTold P t
unfolding effects effects_behind
init_told P t (grammar.made {ts} (grammar.chosen grammar.for_declaration (grammar.chosen grammar.not_final (grammar.part {t = ty} v (grammar.part {t = all} u grammar.done)))) e q) h =
    let g = parts_worded P form.ForInit ts (subst (Worded P) q h) in
    subst (InitTold P) (sym q) (refl, λ n. (declarators_told P all u g.1.0).0 (n + width ty))
init_told P t (grammar.made {ts} (grammar.chosen grammar.for_declaration (grammar.chosen grammar.is_final (grammar.token {o} m (grammar.part {t = ty} v (grammar.part {t = all} u grammar.done))))) e q) h =
    let g = parts_worded P form.ForInit ts (subst (Worded P) q h) in
    subst (InitTold P) (sym q) (refl, λ n. first_init P (same (kind_of o) kinds.Final) (Declared true (written (n + 1) ty) (declarators (n + 1 + width ty) all)) _ m ((declarators_told P all u g.1.1.0).0 (n + 1 + width ty)))
init_told P t (grammar.made {ts} (grammar.chosen grammar.for_effects (grammar.part {t = d} v (grammar.chosen grammar.no_further grammar.done))) e q) h =
    subst (InitTold P) (sym q) (lone_init P d (told P sorts.Effect d refl v (subst (Worded P) q h)))
init_told P t (grammar.made {ts} (grammar.chosen grammar.for_effects (grammar.part {t = d} v (grammar.chosen grammar.further (grammar.token {o} m (grammar.part {t = u} {ts = rest} x w))))) e q) h =
    let g = parts_worded P form.ForInit ts (subst (Worded P) q h) in
    let one = told P sorts.Effect d refl v g.0 in
    let two = told P sorts.Effect u refl x g.1.1.0 in
    subst (InitTold P) (sym q) (
      refl,
      λ n. second_init P (is_leaf kinds.Final d) _ (Effects (effects n (tree.more d (tree.more (Leaf o) (tree.more u rest))))) (plain_leaf kinds.Final refl d one.0)
          (second_effects P (is_leaf kinds.CloseParen d) [] _ (plain_leaf kinds.CloseParen refl d one.0) (
            one.1 n,
            first_effects P (same (kind_of o) kinds.Comma) (record { value = expression (n + width d + 1) u; token = n + width d + 1 } ∷ effects_behind (n + width d + 1 + width u) rest) _ m
                (two.1 (n + width d + 1), effects_told P rest w g.1.1.1 (n + width d + 1 + width u)),
          )),
    )
init_told P t (grammar.grown v (grammar.operator e) w j q) h = absurd cc
