-- Modifiers, types, parameters and names as the parts of a declaration, and how a reader passes them.
use Rattle.std.proofs.Common.{◌≡◌, refl, sym, ap, subst, ℕ, ◌+◌, true, false, if◌then◌else◌, List, ◌∷◌}
use Rattle.wy_tree.specs.Seen.{Tok}
use Rattle.wy_tree.specs.Kinds.{kind_of, same}
use Rattle.wy_tree.specs.Ast.{Ast, Asts, Leaf, Node, none, more, node}
use Rattle.wy_tree.specs.Conditions.{is_name}
use Rattle.wy_tree.specs.Grammar.{is_modifying, allows, Is, Match}
use Rattle.wy_tree.specs.Grammar as grammar
use Rattle.wy_tree.specs.declared.kind.Kind.{Kind}
use Rattle.wy_tree.specs.declared.kind.Kind.TheVariants as kinds
use Rattle.wy_tree.specs.declared.tree.Form.TheVariants as form
use Rattle.wy_tree.specs.declared.grammar.Class.TheVariants as classes
use Rattle.wy_tree.specs.declared.grammar.Sort.TheVariants as sorts
use Rattle.wy_tree.specs.declared.grammar.Row.TheVariants as rows
use Rattle.wy_tree.specs.declared.grammar.Item.{Item}
use Rattle.wy_tree.specs.declared.grammar.Item.TheVariants.{One, Parts}
use Rattle.wy_tree.proofs.Tags.{same_is}
use Rattle.wy_syntax.specs.Names.{width, is_leaf}
use Rattle.wy_syntax.specs.Declarations as written
use Rattle.wy_syntax.specs.Declarations.{placed, is_modifier, behind_modifiers, is_params, is_arguments, is_throws, behind_throws, behind_brace}
use Rattle.law_well_formed.proofs.Leaves.{alone}

pub along : (P : Ast → Type 0) (t u : Ast) → t ≡ u → P u → P t
along P t u e h = subst P (sym e) h

-- ---- tokens

pub name_alone : (k : Kind) → is_name k ≡ true → (same k kinds.Semicolon ≡ false) × (same k kinds.OpenBrace ≡ false) × (is_modifying k ≡ false)
name_alone kinds.Word e = (refl, refl, refl)
name_alone kinds.Override e = (refl, refl, refl)
name_alone _ e = absurd cc

modifier_alone : (k : Kind) → is_modifying k ≡ true → same k kinds.Semicolon ≡ false
modifier_alone kinds.Modifier e = refl
modifier_alone kinds.Static e = refl
modifier_alone kinds.Final e = refl
modifier_alone _ e = absurd cc

pub no_modifier : (k j : Kind) → same k j ≡ true → is_modifying j ≡ false → is_modifying k ≡ false
no_modifier k j e other = let Q : Kind → Type 0 = λ x. is_modifying x ≡ false in subst Q (sym (same_is k j e)) other

element_alone : (k : Kind) → allows classes.Element k ≡ true → (same k kinds.Semicolon ≡ false) × (is_modifying k ≡ false)
element_alone kinds.Word e = (refl, refl)
element_alone kinds.Override e = (refl, refl)
element_alone kinds.Prim e = (refl, refl)
element_alone _ e = absurd cc

-- ---- parts

abbrev pub IsNoEnd : Ast → Type 0
IsNoEnd t = is_leaf kinds.Semicolon t ≡ false

-- neither a semicolon nor a modifier
abbrev pub IsPlain : Ast → Type 0
IsPlain t = IsNoEnd t × (is_modifier t ≡ false)

pub mod_plain : (t : Ast) → Is sorts.Mod t → IsNoEnd t × (is_modifier t ≡ true)
mod_plain t (grammar.made {ts} (grammar.chosen grammar.modifier (grammar.token {o} m grammar.done)) e q) =
    along (λ u. IsNoEnd u × (is_modifier u ≡ true)) t (Leaf o) q (modifier_alone (kind_of o) m, m)
mod_plain t (grammar.made {ts} (grammar.chosen grammar.annotation (grammar.token {o} m (grammar.token {o = p} n grammar.done))) e q) =
    along (λ u. IsNoEnd u × (is_modifier u ≡ true)) t (Node form.Mod (more (Leaf o) (more (Leaf p) none))) q (refl, refl)
mod_plain t (grammar.grown v (grammar.operator e) w j q) = absurd cc

type_node : (o : Tok) (ts : Asts) → allows classes.Element (kind_of o) ≡ true → IsPlain (node form.TypeNode (more (Leaf o) ts))
type_node o none m = element_alone (kind_of o) m
type_node o (more t rest) m = (refl, refl)

pub type_plain : (t : Ast) → Is sorts.Type t → IsPlain t
type_plain t (grammar.made (grammar.token {o} {ts} m w) e q) = along IsPlain t (node form.TypeNode (more (Leaf o) ts)) q (type_node o ts m)
type_plain t (grammar.grown v (grammar.operator e) w j q) = absurd cc

pub result_plain : (t : Ast) → Is sorts.Result t → IsPlain t
result_plain t (grammar.made (grammar.chosen grammar.no_result (grammar.token {o} m grammar.done)) e q) =
    along IsPlain t (Leaf o) q (alone (kind_of o) kinds.Void kinds.Semicolon m refl, no_modifier (kind_of o) kinds.Void m refl)
result_plain t (grammar.made (grammar.chosen grammar.a_result (grammar.part {t = u} v grammar.done)) e q) = along IsPlain t u q (type_plain u v)
result_plain t (grammar.grown v (grammar.operator e) w j q) = absurd cc

pub params_are : (t : Ast) → Is sorts.Params t → (is_params t ≡ true) × IsNoEnd t
params_are t (grammar.made (grammar.token m (grammar.chosen grammar.no_series (grammar.token k grammar.done))) e q) = along (λ u. (is_params u ≡ true) × IsNoEnd u) t _ q (refl, refl)
params_are t (grammar.made (grammar.token m (grammar.chosen grammar.series (grammar.part v w))) e q) = along (λ u. (is_params u ≡ true) × IsNoEnd u) t _ q (refl, refl)
params_are t (grammar.grown v (grammar.operator e) w j q) = absurd cc

pub arguments_are : (t : Ast) → Is sorts.Args t → is_arguments t ≡ true
arguments_are t (grammar.made (grammar.token m (grammar.chosen grammar.no_series (grammar.token k grammar.done))) e q) = along (λ u. is_arguments u ≡ true) t _ q refl
arguments_are t (grammar.made (grammar.token m (grammar.chosen grammar.series (grammar.part v w))) e q) = along (λ u. is_arguments u ≡ true) t _ q refl
arguments_are t (grammar.grown v (grammar.operator e) w j q) = absurd cc

pub throws_node : (t : Ast) → Is sorts.Throws t → (ts : Asts) × (t ≡ Node form.Throws ts)
throws_node t (grammar.made (grammar.token m (grammar.token k w)) e q) = (_, q)
throws_node t (grammar.grown v (grammar.operator e) w j q) = absurd cc

-- ---- what a reader passes

abbrev pub part_at : ℕ → Ast → written.Part
part_at n t = record { at = n; entity = t }

pub past_modifier : (Q : written.Parts → Type 0) (n : ℕ) (t : Ast) (ts : Asts) → is_modifier t ≡ true → Q (behind_modifiers (placed (n + width t) ts)) → Q (behind_modifiers (placed n (more t ts)))
unfolding placed behind_modifiers
past_modifier Q n t ts e h = subst Q (sym (ap (λ b. if b then behind_modifiers (placed (n + width t) ts) else part_at n t ∷ placed (n + width t) ts) e)) h

pub no_more_modifiers : (Q : written.Parts → Type 0) (n : ℕ) (t : Ast) (ts : Asts) → is_modifier t ≡ false → Q (placed n (more t ts)) → Q (behind_modifiers (placed n (more t ts)))
unfolding placed behind_modifiers
no_more_modifiers Q n t ts e h = subst Q (sym (ap (λ b. if b then behind_modifiers (placed (n + width t) ts) else part_at n t ∷ placed (n + width t) ts) e)) h

pub past_throws : (Q : written.Parts → Type 0) (n : ℕ) (t : Ast) (ts : Asts) → Is sorts.Throws t → Q (placed (n + width t) ts) → Q (behind_throws (placed n (more t ts)))
unfolding placed
past_throws Q n t ts v h = let node = throws_node t v in subst (λ u. Q (placed (n + width u) ts) → Q (behind_throws (placed n (more u ts)))) (sym node.1) (λ g. g) h

pub no_throws : (Q : written.Parts → Type 0) (n : ℕ) (t : Ast) (ts : Asts) → is_throws t ≡ false → Q (placed n (more t ts)) → Q (behind_throws (placed n (more t ts)))
unfolding placed
no_throws Q n t ts e h = subst Q (sym (ap (λ b. if b then placed (n + width t) ts else part_at n t ∷ placed (n + width t) ts) e)) h

-- ---- names in front of a brace

abbrev Past : (written.Parts → Type 0) → Asts → Type 0
Past Q ts = (n : ℕ) → Q (behind_brace (placed n ts))

at_brace : (Q : written.Parts → Type 0) (n : ℕ) (o : Tok) (ts : Asts) → same (kind_of o) kinds.OpenBrace ≡ true → Q (placed (n + 1) ts) → Q (behind_brace (placed n (more (Leaf o) ts)))
unfolding placed behind_brace
at_brace Q n o ts e h = subst Q (sym (ap (λ b. if b then placed (n + 1) ts else behind_brace (placed (n + 1) ts)) e)) h

before_brace : (Q : written.Parts → Type 0) (n : ℕ) (o : Tok) (ts : Asts) → same (kind_of o) kinds.OpenBrace ≡ false → Q (behind_brace (placed (n + 1) ts)) → Q (behind_brace (placed n (more (Leaf o) ts)))
unfolding placed behind_brace
before_brace Q n o ts e h = subst Q (sym (ap (λ b. if b then placed (n + 1) ts else behind_brace (placed (n + 1) ts)) e)) h

-- what holds of the parts behind the brace
abbrev pub Behind : (written.Parts → Type 0) → (Asts → Type 0) → List Item → Type 0
Behind Q W items = (ts : Asts) → Match items ts → W ts → (n : ℕ) → Q (placed n ts)

-- what holds of all parts holds of those behind a leaf
abbrev pub Falls : (Asts → Type 0) → Type 0
Falls W = (t : Ast) (ts : Asts) → W (more t ts) → W ts

pub past_names : (Q : written.Parts → Type 0) (W : Asts → Type 0) (items : List Item) → Falls W → Behind Q W items → (ts : Asts) → Match (Parts rows.Names ∷ One (classes.Exactly kinds.OpenBrace) ∷ items) ts → W ts → Past Q ts
past_names Q W items f g ts (grammar.chosen grammar.no_names (grammar.token {o} {ts = rest} m w)) h = λ n. at_brace Q n o rest m (g rest w (f (Leaf o) rest h) (n + 1))
past_names Q W items f g ts (grammar.chosen grammar.names (grammar.token {o} m (grammar.token {o = p} {ts = rest} e w))) h =
    λ n. before_brace Q n o (more (Leaf p) rest) (alone (kind_of o) kinds.Comma kinds.OpenBrace m refl)
    (before_brace Q (n + 1) p rest (name_alone (kind_of p) e).1 (past_names Q W items f g rest w (f (Leaf p) rest (f (Leaf o) (more (Leaf p) rest) h)) (n + 1 + 1)))

-- a word, a name and others
pub past_word : (Q : written.Parts → Type 0) (W : Asts → Type 0) (items : List Item) → Falls W → Behind Q W items → (o p : Tok) (ts : Asts) → same (kind_of o) kinds.OpenBrace ≡ false → is_name (kind_of p) ≡ true → Past Q ts → Past Q (more (Leaf o) (more (Leaf p) ts))
past_word Q W items f g o p ts e m h = λ n. before_brace Q n o (more (Leaf p) ts) e (before_brace Q (n + 1) p ts (name_alone (kind_of p) m).1 (h (n + 1 + 1)))

pub past_supers : (Q : written.Parts → Type 0) (W : Asts → Type 0) (items : List Item) → Falls W → Behind Q W items → (ts : Asts) → Match (Parts rows.Supers ∷ One (classes.Exactly kinds.OpenBrace) ∷ items) ts → W ts → Past Q ts
past_supers Q W items f g ts (grammar.chosen grammar.no_supers (grammar.token {o} {ts = rest} m w)) h = λ n. at_brace Q n o rest m (g rest w (f (Leaf o) rest h) (n + 1))
past_supers Q W items f g ts (grammar.chosen grammar.supers (grammar.token {o} m (grammar.token {o = p} {ts = rest} e w))) h =
    past_word Q W items f g o p rest (alone (kind_of o) kinds.Extends kinds.OpenBrace m refl) e (past_names Q W items f g rest w (f (Leaf p) rest (f (Leaf o) (more (Leaf p) rest) h)))

past_interfaces : (Q : written.Parts → Type 0) (W : Asts → Type 0) (items : List Item) → Falls W → Behind Q W items → (ts : Asts) → Match (Parts rows.Interfaces ∷ One (classes.Exactly kinds.OpenBrace) ∷ items) ts → W ts → Past Q ts
past_interfaces Q W items f g ts (grammar.chosen grammar.no_interfaces (grammar.token {o} {ts = rest} m w)) h = λ n. at_brace Q n o rest m (g rest w (f (Leaf o) rest h) (n + 1))
past_interfaces Q W items f g ts (grammar.chosen grammar.interfaces (grammar.token {o} m (grammar.token {o = p} {ts = rest} e w))) h =
    past_word Q W items f g o p rest (alone (kind_of o) kinds.Implements kinds.OpenBrace m refl) e (past_names Q W items f g rest w (f (Leaf p) rest (f (Leaf o) (more (Leaf p) rest) h)))

pub past_superclass : (Q : written.Parts → Type 0) (W : Asts → Type 0) (items : List Item) → Falls W → Behind Q W items → (ts : Asts) → Match (Parts rows.Superclass ∷ Parts rows.Interfaces ∷ One (classes.Exactly kinds.OpenBrace) ∷ items) ts → W ts → Past Q ts
past_superclass Q W items f g ts (grammar.chosen grammar.no_superclass w) h = past_interfaces Q W items f g ts w h
past_superclass Q W items f g ts (grammar.chosen grammar.superclass (grammar.token {o} m (grammar.token {o = p} {ts = rest} e w))) h =
    past_word Q W items f g o p rest (alone (kind_of o) kinds.Extends kinds.OpenBrace m refl) e (past_interfaces Q W items f g rest w (f (Leaf p) rest (f (Leaf o) (more (Leaf p) rest) h)))
