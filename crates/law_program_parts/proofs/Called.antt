-- What holds of each name of a tree, and of the empty one, holds of each method's name.
use Rattle.std.proofs.Common.{ℕ, ◌+◌, Bool, true, false, if◌then◌else◌, List, [], ◌∷◌, ◌++◌}
use Rattle.std.specs.List.{AllByRecursion}
use Rattle.wy_tree.specs.Ast.{Ast, Asts, Leaf, Node}
use Rattle.wy_tree.specs.Ast as tree
use Rattle.wy_tree.specs.declared.kind.Kind.TheVariants as kinds
use Rattle.wy_tree.specs.declared.tree.Form.TheVariants as form
use Rattle.wy_syntax.specs.Syntax.{Placed, Header, Member, ClassSyntax, Declaration}
use Rattle.wy_syntax.specs.Syntax as source
use Rattle.wy_syntax.specs.Names.{width, is_leaf, name_of}
use Rattle.wy_syntax.specs.Declarations.{Part, Parts, placed, is_block, is_params, is_modifier, modifiers_of, behind_modifiers, constructor_of, member_behind, member_in, member_seen, members_in, method_in, methods_in, behind_brace, class_behind, interface_behind, declaration, declarations, unit}
use Rattle.wy_members.specs.Declarations.{classes_of}
use Rattle.law_well_formed.proofs.Whole.{Names}
use Rattle.law_well_formed.proofs.Leaves.{Worded, AllWorded}
use Rattle.law_well_formed.proofs.Texts.{OfDeclaration}
use Rattle.law_program_parts.proofs.BodiesLists.{all_joined}

-- the name of a method has the property
abbrev pub Called : Names → Member → Type 0
Called P (source.Method h result body) = P h.name.name
Called P _ = Unit {0}

abbrev pub ClassCalled : Names → ClassSyntax → Type 0
ClassCalled P k = AllByRecursion (Called P) k.members

abbrev PartWorded : Names → Part → Type 0
PartWorded P p = Worded P p.entity

abbrev PartsWorded : Names → Parts → Type 0
PartsWorded P ps = AllByRecursion (PartWorded P) ps

placed_worded : (P : Names) (n : ℕ) (ts : Asts) → AllWorded P ts → PartsWorded P (placed n ts)
unfolding placed
placed_worded P n tree.none h = tt
placed_worded P n (tree.more t rest) h = (h.0, placed_worded P (n + width t) rest h.1)

name_worded : (P : Names) → P [] → (t : Ast) → Worded P t → P (name_of t)
name_worded P e (Leaf o) h = h
name_worded P e (Node f parts) h = e

modifiers_worded : (P : Names) (ps : Parts) → PartsWorded P ps → PartsWorded P (behind_modifiers ps)
unfolding behind_modifiers
modifiers_worded P [] h = tt
modifiers_worded P (p ∷ rest) h = elim (is_modifier p.entity) as (λ b. PartsWorded P (if b then behind_modifiers rest else p ∷ rest)) [ true ↦ modifiers_worded P rest h.1 | false ↦ h ]

brace_worded : (P : Names) (ps : Parts) → PartsWorded P ps → PartsWorded P (behind_brace ps)
unfolding behind_brace
brace_worded P [] h = tt
brace_worded P (p ∷ rest) h = elim (is_leaf kinds.OpenBrace p.entity) as (λ b. PartsWorded P (if b then rest else behind_brace rest)) [ true ↦ h.1 | false ↦ brace_worded P rest h.1 ]

-- ---- members

of_constructor : (P : Names) (h : Header) (ps : Parts) → Called P (constructor_of h ps)
of_constructor P h [] = tt
of_constructor P h (brace ∷ rest) = tt

one_of : (P : Names) (b c : Bool) (x y z : Member) → Called P x → Called P y → Called P z → Called P (if b then x else (if c then y else z))
one_of P true c x y z f g h = f
one_of P false true x y z f g h = g
one_of P false false x y z f g h = h

behind_called : (P : Names) → P [] → (ms : List Placed) (ps : Parts) → PartsWorded P ps → Called P (member_behind ms ps)
behind_called P e ms [] h = tt
behind_called P e ms (x ∷ []) h = tt
behind_called P e ms (x ∷ y ∷ []) h = tt
behind_called P e ms (x ∷ y ∷ z ∷ rest) h = one_of P (is_params y.entity) (is_params z.entity) _ _ _ (of_constructor P _ _) (name_worded P e y.entity h.1.0) tt

in_called : (P : Names) → P [] → (ps : Parts) → PartsWorded P ps → Called P (member_in ps)
in_called P e [] h = behind_called P e (modifiers_of []) (behind_modifiers []) (modifiers_worded P [] h)
in_called P e (x ∷ []) h = behind_called P e (modifiers_of (x ∷ [])) (behind_modifiers (x ∷ [])) (modifiers_worded P (x ∷ []) h)
in_called P e (word ∷ p ∷ []) h = one_of P (is_block p.entity) true _ _ (source.Member.Unknown) tt (behind_called P e (modifiers_of (word ∷ p ∷ [])) (behind_modifiers (word ∷ p ∷ [])) (modifiers_worded P (word ∷ p ∷ []) h)) tt
in_called P e (x ∷ y ∷ z ∷ rest) h = behind_called P e (modifiers_of (x ∷ y ∷ z ∷ rest)) (behind_modifiers (x ∷ y ∷ z ∷ rest)) (modifiers_worded P (x ∷ y ∷ z ∷ rest) h)

seen_called : (P : Names) → P [] → (n : ℕ) (t : Ast) → Worded P t → Called P (member_seen n t)
seen_called P e n (Leaf o) h = one_of P (is_leaf kinds.Semicolon (Leaf o)) true source.Member.Nothing source.Member.Unknown source.Member.Unknown tt tt tt
seen_called P e n (Node form.Block parts) h = tt
seen_called P e n (Node form.Member parts) h = in_called P e (placed n parts) (placed_worded P n parts h)
seen_called P e n (Node _ parts) h = tt

members_called : (P : Names) → P [] → (ps : Parts) → PartsWorded P ps → AllByRecursion (Called P) (members_in ps)
unfolding members_in
members_called P e [] h = tt
members_called P e (p ∷ []) h = tt
members_called P e (p ∷ q ∷ rest) h = (seen_called P e p.at p.entity h.0, members_called P e (q ∷ rest) h.1)

header_called : (P : Names) → P [] → (ps : Parts) → PartsWorded P ps → Called P (method_in ps)
header_called P e [] h = tt
header_called P e (p ∷ rest) h = behind_called P e (modifiers_of (p ∷ rest)) (behind_modifiers (p ∷ rest)) (modifiers_worded P (p ∷ rest) h)

headers_called : (P : Names) → P [] → (before ps : Parts) → PartsWorded P before → PartsWorded P ps → AllByRecursion (Called P) (methods_in before ps)
unfolding methods_in
headers_called P e before [] h i = tt
headers_called P e before (p ∷ []) h i = tt
headers_called P e before (p ∷ q ∷ rest) h i =
    elim (is_leaf kinds.Semicolon p.entity) as (λ b. AllByRecursion (Called P) (if b then method_in before ∷ methods_in [] (q ∷ rest) else methods_in (before ++ p ∷ []) (q ∷ rest))) [
      | true ↦ (header_called P e before h, headers_called P e [] (q ∷ rest) tt i.1)
      | false ↦ headers_called P e (before ++ p ∷ []) (q ∷ rest) (all_joined (PartWorded P) before (p ∷ []) h (i.0, tt)) i.1
    ]

-- ---- classes

class_called : (P : Names) → P [] → (ms : List Placed) (end : ℕ) (ps : Parts) → PartsWorded P ps → OfDeclaration (ClassCalled P) (class_behind ms end ps)
class_called P e ms end [] h = tt
class_called P e ms end (x ∷ []) h = tt
class_called P e ms end (word ∷ x ∷ rest) h = (members_called P e (behind_brace rest) (brace_worded P rest h.1.1), tt)

interface_called : (P : Names) → P [] → (ms : List Placed) (end : ℕ) (ps : Parts) → PartsWorded P ps → OfDeclaration (ClassCalled P) (interface_behind ms end ps)
interface_called P e ms end [] h = tt
interface_called P e ms end (x ∷ []) h = tt
interface_called P e ms end (word ∷ x ∷ rest) h = (headers_called P e [] (behind_brace rest) tt (brace_worded P rest h.1.1), tt)

of_leaf : (P : Names) (b : Bool) → OfDeclaration (ClassCalled P) (if b then source.Declaration.Nothing else source.Declaration.Unknown)
of_leaf P true = tt
of_leaf P false = tt

declaration_called : (P : Names) → P [] → (n : ℕ) (t : Ast) → Worded P t → OfDeclaration (ClassCalled P) (declaration n t)
declaration_called P e n (Leaf o) h = of_leaf P (is_leaf kinds.Semicolon (Leaf o))
declaration_called P e n (Node form.Class parts) h = class_called P e _ _ (behind_modifiers (placed n parts)) (modifiers_worded P (placed n parts) (placed_worded P n parts h))
declaration_called P e n (Node form.Interface parts) h = interface_called P e _ _ (behind_modifiers (placed n parts)) (modifiers_worded P (placed n parts) (placed_worded P n parts h))
declaration_called P e n (Node _ parts) h = tt

both : (Q : ClassSyntax → Type 0) (d : Declaration) (rest : List Declaration) → OfDeclaration Q d → AllByRecursion Q (classes_of rest) → AllByRecursion Q (classes_of (d ∷ rest))
both Q (source.Declaration.Declared k) rest h i = (h.0, i)
both Q source.Declaration.Nothing rest h i = i
both Q source.Declaration.Unknown rest h i = i

declarations_called : (P : Names) → P [] → (n : ℕ) (ts : Asts) → AllWorded P ts → AllByRecursion (ClassCalled P) (classes_of (declarations n ts))
unfolding declarations
declarations_called P e n tree.none h = tt
declarations_called P e n (tree.more t rest) h = both (ClassCalled P) (declaration n t) (declarations (n + width t) rest) (declaration_called P e n t h.0) (declarations_called P e (n + width t) rest h.1)

pub unit_called : (P : Names) → P [] → (n : ℕ) (t : Ast) → Worded P t → AllByRecursion (ClassCalled P) (classes_of (unit n t))
unit_called P e n (Leaf o) h = declaration_called P e n (Leaf o) h
unit_called P e n (Node form.Unit parts) h = declarations_called P e n parts h
unit_called P e n (Node form.Class parts) h = declaration_called P e n (Node form.Class parts) h
unit_called P e n (Node form.Interface parts) h = declaration_called P e n (Node form.Interface parts) h
unit_called P e n (Node _ parts) h = tt
