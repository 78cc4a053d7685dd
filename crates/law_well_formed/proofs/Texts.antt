-- What holds of each class and each interface of a well-formed tree, by their productions; so nothing is missing in them.
use Rattle.std.proofs.Common.{◌≡◌, ◌∙◌, refl, subst, ℕ, ◌+◌, Bool, true, false, if◌then◌else◌, List, [], ◌∷◌}
use Rattle.std.specs.Prelude.{filter_map}
use Rattle.std.specs.List.{AllByRecursion}
use Rattle.wy_tree.specs.Seen.{Tok}
use Rattle.wy_tree.specs.Kinds.{kind_of}
use Rattle.wy_tree.specs.Ast.{Ast, Asts, Leaf, Node, none, more, node}
use Rattle.wy_tree.specs.Grammar.{rule, Is, Match, WellFormed}
use Rattle.wy_tree.specs.Grammar as grammar
use Rattle.wy_tree.specs.declared.kind.Kind.TheVariants as kinds
use Rattle.wy_tree.specs.declared.tree.Form.TheVariants as form
use Rattle.wy_tree.specs.declared.grammar.Sort.TheVariants as sorts
use Rattle.wy_syntax.specs.Syntax.{Placed, Member, ClassSyntax, Declaration}
use Rattle.wy_syntax.specs.Syntax as syntax
use Rattle.wy_syntax.specs.Names.{width, is_leaf}
use Rattle.wy_syntax.specs.Declarations as written
use Rattle.wy_syntax.specs.Declarations.{placed, modifiers_of, behind_modifiers, methods_in, members_in, behind_brace, class_behind, interface_behind, declaration, declarations, unit}
use Rattle.wy_members.specs.Declarations.{class_in, classes_of}
use Rattle.law_well_formed.proofs.Whole.{Names, WholeMember, WholeMembers, WholeClasses}
use Rattle.law_well_formed.proofs.Leaves.{Worded, AllWorded, parts_worded}
use Rattle.law_well_formed.proofs.Marks.{along, mod_plain, no_modifier, past_modifier, no_more_modifiers, past_superclass, past_supers}
use Rattle.law_well_formed.proofs.Members.{to_end, members_told}
use Rattle.law_well_formed.proofs.Interfaces.{OfHeaders, to_close, of_methods}

-- ---- classes

-- behind the word and the name
abbrev ClassTold : Names → written.Parts → Type 0
ClassTold P (word ∷ x ∷ rest) = WholeMembers P (members_in (behind_brace rest))
ClassTold P _ = Unit {0}

class_told : (P : Names) (ts : Asts) → Match (rule sorts.Class) ts → AllWorded P ts → (n : ℕ) → ClassTold P (behind_modifiers (placed n ts))
unfolding placed
class_told P ts (grammar.chosen grammar.some_of (grammar.part {t} {ts = rest} v w)) h n = past_modifier (ClassTold P) n t rest (mod_plain t v).1 (class_told P rest w h.1 (n + width t))
class_told P ts (grammar.chosen grammar.none_of (grammar.token {o} m (grammar.token {o = p} {ts = rest} e w))) h n =
    no_more_modifiers (ClassTold P) n (Leaf o) (more (Leaf p) rest) (no_modifier (kind_of o) kinds.Class m refl)
    (past_superclass (λ ps. WholeMembers P (members_in ps)) (AllWorded P) to_end (λ t us g. g.1) (λ us x g k. members_told P us x g k) rest w h.1.1 (n + 1 + 1))

abbrev pub InterfaceTold : (Member → Type 0) → written.Parts → Type 0
InterfaceTold Q (word ∷ x ∷ rest) = AllByRecursion Q (methods_in [] (behind_brace rest))
InterfaceTold Q _ = Unit {0}

pub interface_told : (Q : Member → Type 0) → OfHeaders Q → (ts : Asts) → Match (rule sorts.Interface) ts → (n : ℕ) → InterfaceTold Q (behind_modifiers (placed n ts))
unfolding placed
interface_told Q f ts (grammar.chosen grammar.some_of (grammar.part {t} {ts = rest} v w)) n = past_modifier (InterfaceTold Q) n t rest (mod_plain t v).1 (interface_told Q f rest w (n + width t))
interface_told Q f ts (grammar.chosen grammar.none_of (grammar.token {o} m (grammar.token {o = p} {ts = rest} e w))) n =
    no_more_modifiers (InterfaceTold Q) n (Leaf o) (more (Leaf p) rest) (no_modifier (kind_of o) kinds.Interface m refl)
    (past_supers (λ ps. AllByRecursion Q (methods_in [] ps)) (λ us. Unit {0}) to_close (λ t us g. tt) (λ us x g k. of_methods Q f us x k) rest w tt (n + 1 + 1))

-- ---- declarations

-- what holds of the class or the interface that a declaration is
abbrev pub OfDeclaration : (ClassSyntax → Type 0) → Declaration → Type 0
OfDeclaration Q d = AllByRecursion Q (filter_map class_in (d ∷ []))

-- it holds of each class and each interface by their productions
pub record OfProductions (P : Names) (Q : ClassSyntax → Type 0) : Type 0 where
  pub class : (ts : Asts) → Match (rule sorts.Class) ts → AllWorded P ts → (n : ℕ) → OfDeclaration Q (declaration n (Node form.Class ts))
  pub interface : (ts : Asts) → Match (rule sorts.Interface) ts → (n : ℕ) → OfDeclaration Q (declaration n (Node form.Interface ts))

of_leaf : (Q : ClassSyntax → Type 0) (b : Bool) → OfDeclaration Q (if b then syntax.Declaration.Nothing else syntax.Declaration.Unknown)
of_leaf Q true = tt
of_leaf Q false = tt

long_class : (ts : Asts) → Match (rule sorts.Class) ts → node form.Class ts ≡ Node form.Class ts
long_class ts (grammar.chosen grammar.some_of (grammar.part {t} {ts = none} v (grammar.chosen grammar.some_of w))) = elim w [ ]
long_class ts (grammar.chosen grammar.some_of (grammar.part {t} {ts = none} v (grammar.chosen grammar.none_of w))) = elim w [ ]
long_class ts (grammar.chosen grammar.some_of (grammar.part {t} {ts = more u rest} v w)) = refl
long_class ts (grammar.chosen grammar.none_of (grammar.token m (grammar.token e w))) = refl

long_interface : (ts : Asts) → Match (rule sorts.Interface) ts → node form.Interface ts ≡ Node form.Interface ts
long_interface ts (grammar.chosen grammar.some_of (grammar.part {t} {ts = none} v (grammar.chosen grammar.some_of w))) = elim w [ ]
long_interface ts (grammar.chosen grammar.some_of (grammar.part {t} {ts = none} v (grammar.chosen grammar.none_of w))) = elim w [ ]
long_interface ts (grammar.chosen grammar.some_of (grammar.part {t} {ts = more u rest} v w)) = refl
long_interface ts (grammar.chosen grammar.none_of (grammar.token m (grammar.token e w))) = refl

-- a declaration by what it may be
by_declaration : (P : Names) (Q : Ast → Type 0) → ((ts : Asts) → Match (rule sorts.Class) ts → AllWorded P ts → Q (Node form.Class ts)) → ((ts : Asts) → Match (rule sorts.Interface) ts → Q (Node form.Interface ts)) →
    ((o : Tok) → Q (Leaf o)) → (x : Ast) → Is sorts.Declaration x → Worded P x → Q x
by_declaration P Q f g k x (grammar.made (grammar.chosen grammar.a_class (grammar.part (grammar.made {ts} w d r) grammar.done)) e q) h =
    let same_node = q ∙ r ∙ long_class ts w in along Q x (Node form.Class ts) same_node (f ts w (subst (Worded P) same_node h))
by_declaration P Q f g k x (grammar.made (grammar.chosen grammar.a_class (grammar.part (grammar.grown v (grammar.operator d) w j r) grammar.done)) e q) h = absurd cc
by_declaration P Q f g k x (grammar.made (grammar.chosen grammar.an_interface (grammar.part (grammar.made {ts} w d r) grammar.done)) e q) h =
    along Q x (Node form.Interface ts) (q ∙ r ∙ long_interface ts w) (g ts w)
by_declaration P Q f g k x (grammar.made (grammar.chosen grammar.an_interface (grammar.part (grammar.grown v (grammar.operator d) w j r) grammar.done)) e q) h = absurd cc
by_declaration P Q f g k x (grammar.made (grammar.chosen grammar.nothing (grammar.token {o} m grammar.done)) e q) h = along Q x (Leaf o) q (k o)
by_declaration P Q f g k x (grammar.grown v (grammar.operator e) w j q) h = absurd cc

declared_told : (P : Names) (Q : ClassSyntax → Type 0) → OfProductions P Q → (x : Ast) → Is sorts.Declaration x → Worded P x → (n : ℕ) → OfDeclaration Q (declaration n x)
declared_told P Q f x v h n =
    by_declaration P (λ u. OfDeclaration Q (declaration n u)) (λ ts w g. f.class ts w g n) (λ ts w. f.interface ts w n) (λ o. of_leaf Q (is_leaf kinds.Semicolon (Leaf o))) x v h

-- a text of one declaration
lone_told : (P : Names) (Q : ClassSyntax → Type 0) → OfProductions P Q → (x : Ast) → Is sorts.Declaration x → Worded P x → (n : ℕ) → AllByRecursion Q (classes_of (unit n x))
lone_told P Q f x v h n =
    by_declaration P (λ u. AllByRecursion Q (classes_of (unit n u))) (λ ts w g. f.class ts w g n) (λ ts w. f.interface ts w n) (λ o. of_leaf Q (is_leaf kinds.Semicolon (Leaf o))) x v h

both_told : (Q : ClassSyntax → Type 0) (d : Declaration) (rest : List Declaration) → OfDeclaration Q d → AllByRecursion Q (classes_of rest) → AllByRecursion Q (classes_of (d ∷ rest))
both_told Q (syntax.Declaration.Declared k) rest h i = (h.0, i)
both_told Q syntax.Declaration.Nothing rest h i = i
both_told Q syntax.Declaration.Unknown rest h i = i

declarations_told : (P : Names) (Q : ClassSyntax → Type 0) → OfProductions P Q → (ts : Asts) → Match (rule sorts.Unit) ts → AllWorded P ts → (n : ℕ) → AllByRecursion Q (classes_of (declarations n ts))
unfolding declarations
declarations_told P Q f ts (grammar.chosen grammar.none_of grammar.done) h n = tt
declarations_told P Q f ts (grammar.chosen grammar.some_of (grammar.part {t} {ts = rest} v w)) h n =
    both_told Q (declaration n t) (declarations (n + width t) rest) (declared_told P Q f t v h.0 n) (declarations_told P Q f rest w h.1 (n + width t))

of_parts : (P : Names) (Q : ClassSyntax → Type 0) → OfProductions P Q → (ts : Asts) → Match (rule sorts.Unit) ts → AllWorded P ts → (n : ℕ) → AllByRecursion Q (classes_of (unit n (node form.Unit ts)))
of_parts P Q f none w h n = declarations_told P Q f none w h n
of_parts P Q f (more x none) (grammar.chosen grammar.some_of (grammar.part v w)) h n = lone_told P Q f x v h.0 n
of_parts P Q f (more x none) (grammar.chosen grammar.none_of w) h n = elim w [ ]
of_parts P Q f (more x (more y rest)) w h n = declarations_told P Q f (more x (more y rest)) w h n

-- what holds by the productions holds of each class and each interface of a text
pub of_unit : (P : Names) (Q : ClassSyntax → Type 0) → OfProductions P Q → (t : Ast) → WellFormed t → Worded P t → (n : ℕ) → AllByRecursion Q (classes_of (unit n t))
of_unit P Q f t w h n = by w.0
  where
    by : Is sorts.Unit t → AllByRecursion Q (classes_of (unit n t))
    by (grammar.made {ts} m e q) = along (λ u. AllByRecursion Q (classes_of (unit n u))) t (node form.Unit ts) q (of_parts P Q f ts m (parts_worded P form.Unit ts (subst (Worded P) q h)) n)
    by (grammar.grown v (grammar.operator e) m j q) = absurd cc

-- ---- nothing is missing

abbrev ClassWhole : Names → ClassSyntax → Type 0
ClassWhole P k = WholeMembers P k.members

class_whole : (P : Names) (ms : List Placed) (end : ℕ) (ps : written.Parts) → ClassTold P ps → OfDeclaration (ClassWhole P) (class_behind ms end ps)
class_whole P ms end [] h = tt
class_whole P ms end (x ∷ []) h = tt
class_whole P ms end (word ∷ x ∷ rest) h = (h, tt)

interface_whole : (P : Names) (ms : List Placed) (end : ℕ) (ps : written.Parts) → InterfaceTold (WholeMember P) ps → OfDeclaration (ClassWhole P) (interface_behind ms end ps)
interface_whole P ms end [] h = tt
interface_whole P ms end (x ∷ []) h = tt
interface_whole P ms end (word ∷ x ∷ rest) h = (h, tt)

pub unit_told : (P : Names) (t : Ast) → WellFormed t → Worded P t → (n : ℕ) → WholeClasses P (classes_of (unit n t))
unit_told P =
    of_unit P (ClassWhole P) (record {
      class = λ ts w g n. class_whole P _ _ (behind_modifiers (placed n ts)) (class_told P ts w g n);
      interface = λ ts w n. interface_whole P _ _ (behind_modifiers (placed n ts)) (interface_told (WholeMember P) (record { nothing = tt; header = λ h result. tt }) ts w n);
    })
