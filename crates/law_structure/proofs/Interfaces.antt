-- The interfaces of a well-formed tree have no bodies.
use Rattle.std.proofs.Common.{◌≡◌, ◌∙◌, refl, sym, ap, subst, arith, ℕ, ◌+◌, ◌≤◌, Bool, true, false, if◌then◌else◌, List, [], ◌∷◌, ◌++◌}
use Rattle.std.specs.Prelude.{Option, None, flat_map, filter_map}
use Rattle.std.proofs.lemmas.List.{append_assoc}
use Rattle.wy_tree.specs.Seen.{Tok}
use Rattle.wy_tree.specs.Kinds.{kind_of, same}
use Rattle.wy_tree.specs.Ast.{Ast, Asts, Leaf, Node, none, more, node}
use Rattle.wy_tree.specs.Conditions.{is_name}
use Rattle.wy_tree.specs.Grammar.{a, name, rule, is_modifying, Alternative, Suffix, Is, Match, WellFormed}
use Rattle.wy_tree.specs.Grammar as grammar
use Rattle.wy_tree.specs.declared.kind.Kind.{Kind}
use Rattle.wy_tree.specs.declared.kind.Kind.TheVariants as kinds
use Rattle.wy_tree.specs.declared.tree.Form.{Form}
use Rattle.wy_tree.specs.declared.tree.Form.TheVariants as form
use Rattle.wy_tree.specs.declared.grammar.Class.TheVariants as classes
use Rattle.wy_tree.specs.declared.grammar.Sort.TheVariants as sorts
use Rattle.wy_tree.specs.declared.grammar.Row.TheVariants as rows
use Rattle.wy_tree.specs.declared.grammar.Item.{Item}
use Rattle.wy_tree.specs.declared.grammar.Item.TheVariants.{One, Part, Parts}
use Rattle.wy_tree.proofs.Tags.{same_is}
use Rattle.wy_kernel.specs.Table.{Table}
use Rattle.wy_syntax.specs.Syntax.{Placed, Header, Member, ClassSyntax, Declaration}
use Rattle.wy_syntax.specs.Syntax as syntax
use Rattle.wy_syntax.specs.Names.{width, is_leaf}
use Rattle.wy_syntax.specs.Statements.{declarators}
use Rattle.wy_syntax.specs.Declarations as written
use Rattle.wy_syntax.specs.Declarations.{placed, is_modifier, modifiers_of, behind_modifiers, is_params, is_throws, behind_throws, header, result_of, type_at, body_of, member_behind, method_in, methods_in, behind_brace, end_in, name_at, names_behind, class_behind, interface_behind, declaration, declarations, unit}
use Rattle.wy_elab_body.specs.declared.place.Place.{Place}
use Rattle.wy_members.specs.Declarations.{class_in, classes_of}
use Rattle.law_structure.proofs.ClassMarks.{own_places}
use Rattle.law_structure.proofs.Tallies.{AllBodiless}
use Rattle.law_structure.proofs.Productions.{HasPart, has_part}

-- ---- tokens that are no other

kind_alone : (k j i : Kind) → same k j ≡ true → same j i ≡ false → same k i ≡ false
kind_alone k j i e other = let P : Kind → Type 0 = λ x. same x i ≡ false in subst P (sym (same_is k j e)) other

name_alone : (k : Kind) → is_name k ≡ true → (same k kinds.Semicolon ≡ false) × (same k kinds.OpenBrace ≡ false)
name_alone kinds.Word e = (refl, refl)
name_alone kinds.Override e = (refl, refl)
name_alone _ e = absurd cc

modifier_alone : (k : Kind) → is_modifying k ≡ true → same k kinds.Semicolon ≡ false
modifier_alone kinds.Modifier e = refl
modifier_alone kinds.Static e = refl
modifier_alone kinds.Final e = refl
modifier_alone _ e = absurd cc

no_modifier : (k j : Kind) → same k j ≡ true → is_modifying j ≡ false → is_modifying k ≡ false
no_modifier k j e other = let P : Kind → Type 0 = λ x. is_modifying x ≡ false in subst P (sym (same_is k j e)) other

-- ---- nodes of two parts or more

abbrev how_many : Asts → ℕ
how_many none = 0
how_many (more t rest) = how_many rest + 1

abbrev at_least : List Item → ℕ
at_least [] = 0
at_least (One c ∷ rest) = at_least rest + 1
at_least (Part x ∷ rest) = at_least rest + 1
at_least (Parts r ∷ rest) = at_least rest

at_least_behind : (xs ys : List Item) → at_least ys ≤ at_least (xs ++ ys)
at_least_behind [] ys = omega arith
at_least_behind (One c ∷ xs) ys = let less : at_least ys ≤ at_least (xs ++ ys) = at_least_behind xs ys in omega arith
at_least_behind (Part x ∷ xs) ys = let less : at_least ys ≤ at_least (xs ++ ys) = at_least_behind xs ys in omega arith
at_least_behind (Parts r ∷ xs) ys = at_least_behind xs ys

enough : (items : List Item) (ts : Asts) → Match items ts → at_least items ≤ how_many ts
enough _ _ grammar.done = omega arith
enough _ _ (grammar.token {items} {ts} m w) = let less : at_least items ≤ how_many ts = enough items ts w in omega arith
enough _ _ (grammar.part {items} {ts} v w) = let less : at_least items ≤ how_many ts = enough items ts w in omega arith
enough _ _ (grammar.chosen {way} {items} {ts} y w) =
    let less : at_least (way ++ items) ≤ how_many ts = enough (way ++ items) ts w in
    let more_items : at_least items ≤ at_least (way ++ items) = at_least_behind way items in omega arith

node_stays : (f : Form) (ts : Asts) → 2 ≤ how_many ts → node f ts ≡ Node f ts
node_stays f none h = absurd (omega arith)
node_stays f (more t none) h = absurd (omega arith)
node_stays f (more t (more u rest)) h = refl

-- a tree of a sort whose production has two parts or more is a node of its form
class_node : (t : Ast) → Is sorts.Class t → (ts : Asts) × (t ≡ Node form.Class ts)
class_node t (grammar.made {ts} w e q) = let few : 4 ≤ how_many ts = enough (rule sorts.Class) ts w in (ts, q ∙ node_stays form.Class ts (omega arith))
class_node t (grammar.grown v (grammar.operator e) w j q) = absurd cc

interface_node : (t : Ast) → Is sorts.Interface t → (ts : Asts) × Match (rule sorts.Interface) ts × (t ≡ Node form.Interface ts)
interface_node t (grammar.made {ts} w e q) = let few : 4 ≤ how_many ts = enough (rule sorts.Interface) ts w in (ts, w, q ∙ node_stays form.Interface ts (omega arith))
interface_node t (grammar.grown v (grammar.operator e) w j q) = absurd cc

params_node : (t : Ast) → Is sorts.Params t → (ts : Asts) × (t ≡ Node form.Params ts)
params_node t (grammar.made {ts} w e q) = let few : 2 ≤ how_many ts = enough (rule sorts.Params) ts w in (ts, q ∙ node_stays form.Params ts few)
params_node t (grammar.grown v (grammar.operator e) w j q) = absurd cc

throws_node : (t : Ast) → Is sorts.Throws t → (ts : Asts) × (t ≡ Node form.Throws ts)
throws_node t (grammar.made {ts} w e q) = let few : 2 ≤ how_many ts = enough (rule sorts.Throws) ts w in (ts, q ∙ node_stays form.Throws ts few)
throws_node t (grammar.grown v (grammar.operator e) w j q) = absurd cc

-- ---- modifiers and results

abbrev IsNoEnd : Ast → Type 0
IsNoEnd t = is_leaf kinds.Semicolon t ≡ false

along : (P : Ast → Type 0) (t u : Ast) → t ≡ u → P u → P t
along P t u e h = subst P (sym e) h

mod_plain : (t : Ast) → Is sorts.Mod t → IsNoEnd t × (is_modifier t ≡ true)
mod_plain t (grammar.made {ts} (grammar.chosen grammar.modifier (grammar.token {o} m grammar.done)) e q) =
    along (λ u. IsNoEnd u × (is_modifier u ≡ true)) t (Leaf o) q (modifier_alone (kind_of o) m, m)
mod_plain t (grammar.made {ts} (grammar.chosen grammar.annotation (grammar.token {o} m (grammar.token {o = p} n grammar.done))) e q) =
    along (λ u. IsNoEnd u × (is_modifier u ≡ true)) t (Node form.Mod (more (Leaf o) (more (Leaf p) none))) q (refl, refl)
mod_plain t (grammar.grown v (grammar.operator e) w j q) = absurd cc

-- neither a semicolon nor a modifier
abbrev IsPlain : Ast → Type 0
IsPlain t = IsNoEnd t × (is_modifier t ≡ false)

element_alone : (k : Kind) → grammar.allows classes.Element k ≡ true → (same k kinds.Semicolon ≡ false) × (is_modifying k ≡ false)
element_alone kinds.Word e = (refl, refl)
element_alone kinds.Override e = (refl, refl)
element_alone kinds.Prim e = (refl, refl)
element_alone _ e = absurd cc

type_node : (o : Tok) (ts : Asts) → grammar.allows classes.Element (kind_of o) ≡ true → IsPlain (node form.TypeNode (more (Leaf o) ts))
type_node o none m = element_alone (kind_of o) m
type_node o (more t rest) m = (refl, refl)

type_plain : (t : Ast) → Is sorts.Type t → IsPlain t
type_plain t (grammar.made (grammar.token {o} {ts} m w) e q) = along IsPlain t (node form.TypeNode (more (Leaf o) ts)) q (type_node o ts m)
type_plain t (grammar.grown v (grammar.operator e) w j q) = absurd cc

result_plain : (t : Ast) → Is sorts.Result t → IsPlain t
result_plain t (grammar.made (grammar.chosen grammar.no_result (grammar.token {o} m grammar.done)) e q) =
    along IsPlain t (Leaf o) q (kind_alone (kind_of o) kinds.Void kinds.Semicolon m refl, no_modifier (kind_of o) kinds.Void m refl)
result_plain t (grammar.made (grammar.chosen grammar.a_result (grammar.part {t = u} v grammar.done)) e q) = along IsPlain t u q (type_plain u v)
result_plain t (grammar.grown v (grammar.operator e) w j q) = absurd cc

-- ---- the methods of an interface

-- no member has a body
abbrev pub Quiet : List Member → Type 0
Quiet ms = (t : Table) (c : ℕ) (k : ClassSyntax) → flat_map (own_places t c k) ms ≡ []

abbrev part_at : ℕ → Ast → written.Part
part_at n t = record { at = n; entity = t }

along_members : (xs ys : List Member) → xs ≡ ys → Quiet ys → Quiet xs
along_members xs ys e h = subst Quiet (sym e) h

both_empty : (xs ys : List Place) → xs ++ [] ≡ [] → ys ≡ [] → xs ++ ys ≡ []
both_empty xs ys e f = (λ i. xs ++ f i) ∙ e

-- one more part of a method, and then others
one_part : (before : written.Parts) (n : ℕ) (t : Ast) (m : ℕ) (ts : Asts) → IsNoEnd t → HasPart ts → Quiet (methods_in (before ++ part_at n t ∷ []) (placed m ts)) → Quiet (methods_in before (part_at n t ∷ placed m ts))
unfolding placed methods_in
one_part before n t m none e h i = absurd h
one_part before n t m (more u rest) e h i = along_members _ _ (ap (λ b. if b then method_in before ∷ methods_in [] (placed m (more u rest)) else methods_in (before ++ part_at n t ∷ []) (placed m (more u rest))) e) i

last_part : (before : written.Parts) (n : ℕ) (o : Tok) (m : ℕ) (ts : Asts) → same (kind_of o) kinds.Semicolon ≡ true → HasPart ts → Quiet (method_in before ∷ []) → Quiet (methods_in [] (placed m ts)) → Quiet (methods_in before (part_at n (Leaf o) ∷ placed m ts))
unfolding placed methods_in
last_part before n o m none e h i j = absurd h
last_part before n o m (more u rest) e h i j =
    along_members _ _ (ap (λ b. if b then method_in before ∷ methods_in [] (placed m (more u rest)) else methods_in (before ++ part_at n (Leaf o) ∷ []) (placed m (more u rest))) e)
    (λ t c k. both_empty (own_places t c k (method_in before)) (flat_map (own_places t c k) (methods_in [] (placed m (more u rest)))) (i t c k) (j t c k))

-- modifiers alone
abbrev AllModifiers : written.Parts → Type 0
AllModifiers [] = Unit {0}
AllModifiers (p ∷ rest) = (is_modifier p.entity ≡ true) × AllModifiers rest

one_modifier : (before : written.Parts) (p : written.Part) → AllModifiers before → is_modifier p.entity ≡ true → AllModifiers (before ++ p ∷ [])
one_modifier [] p h e = (e, tt)
one_modifier (q ∷ before) p h e = (h.0, one_modifier before p h.1 e)

behind_them : (before : written.Parts) (p : written.Part) (rest : written.Parts) → AllModifiers before → is_modifier p.entity ≡ false → behind_modifiers (before ++ p ∷ rest) ≡ p ∷ rest
unfolding behind_modifiers
behind_them [] p rest h e = ap (λ b. if b then behind_modifiers rest else p ∷ rest) e
behind_them (q ∷ before) p rest h e = ap (λ b. if b then behind_modifiers (before ++ p ∷ rest) else q ∷ (before ++ p ∷ rest)) h.0 ∙ behind_them before p rest h.1 e

method_is : (before : written.Parts) (p : written.Part) (rest : written.Parts) → method_in (before ++ p ∷ rest) ≡ member_behind (modifiers_of (before ++ p ∷ rest)) (behind_modifiers (before ++ p ∷ rest))
method_is [] p rest = refl
method_is (q ∷ before) p rest = refl

no_body : (b : Bool) (h : Header) (ms : List Placed) (result : Option syntax.WrittenType) (ty : syntax.WrittenType) (all : List syntax.Declarator) (t : Table) (c : ℕ) (k : ClassSyntax) →
    own_places t c k (if b then syntax.Method h result None else syntax.Fields ms ty all) ≡ []
no_body true h ms result ty all t c k = refl
no_body false h ms result ty all t c k = refl

quiet_without : (before : written.Parts) (p : written.Part) (n : ℕ) (o : Tok) (q : written.Part) → AllModifiers before → is_modifier p.entity ≡ false → Quiet (method_in (before ++ p ∷ part_at n (Leaf o) ∷ q ∷ []) ∷ [])
quiet_without before p n o q h e t c k =
    let rest = part_at n (Leaf o) ∷ q ∷ [] in
    let same_member : method_in (before ++ p ∷ rest) ≡ member_behind (modifiers_of (before ++ p ∷ rest)) (p ∷ rest) = method_is before p rest ∙ ap (member_behind (modifiers_of (before ++ p ∷ rest))) (behind_them before p rest h e) in
    ap (λ m. own_places t c k m ++ []) same_member
    ∙ ap (λ qs. qs ++ []) (no_body (is_params q.entity) _ (modifiers_of (before ++ p ∷ rest)) (result_of p) (type_at p) (declarators n (Leaf o)) t c k)

quiet_with : (before : written.Parts) (p : written.Part) (n : ℕ) (o : Tok) (q : written.Part) (m : ℕ) (ts : Asts) → AllModifiers before → is_modifier p.entity ≡ false → Quiet (method_in (before ++ p ∷ part_at n (Leaf o) ∷ q ∷ part_at m (Node form.Throws ts) ∷ []) ∷ [])
quiet_with before p n o q m ts h e t c k =
    let rest = part_at n (Leaf o) ∷ q ∷ part_at m (Node form.Throws ts) ∷ [] in
    let same_member : method_in (before ++ p ∷ rest) ≡ member_behind (modifiers_of (before ++ p ∷ rest)) (p ∷ rest) = method_is before p rest ∙ ap (member_behind (modifiers_of (before ++ p ∷ rest))) (behind_them before p rest h e) in
    ap (λ x. own_places t c k x ++ []) same_member
    ∙ ap (λ qs. qs ++ []) (no_body (is_params q.entity) _ (modifiers_of (before ++ p ∷ rest)) (result_of p) (type_at p) (declarators n (Leaf o)) t c k)

grouped_three : (before : written.Parts) (p q r : written.Part) → ((before ++ p ∷ []) ++ q ∷ []) ++ r ∷ [] ≡ before ++ p ∷ q ∷ r ∷ []
grouped_three before p q r = append_assoc (before ++ p ∷ []) (q ∷ []) (r ∷ []) ∙ append_assoc before (p ∷ []) (q ∷ r ∷ [])

grouped_four : (before : written.Parts) (p q r s : written.Part) → (((before ++ p ∷ []) ++ q ∷ []) ++ r ∷ []) ++ s ∷ [] ≡ before ++ p ∷ q ∷ r ∷ s ∷ []
grouped_four before p q r s = ap (λ xs. xs ++ s ∷ []) (grouped_three before p q r) ∙ append_assoc before (p ∷ q ∷ r ∷ []) (s ∷ [])

along_before : (xs ys : written.Parts) → xs ≡ ys → Quiet (method_in ys ∷ []) → Quiet (method_in xs ∷ [])
along_before xs ys e h = let P : written.Parts → Type 0 = λ zs. Quiet (method_in zs ∷ []) in subst P (sym e) h

-- up to the brace
abbrev to_end : List Item
to_end = Parts rows.Methods ∷ a kinds.CloseBrace ∷ []

abbrev one_method : List Item
one_method = Parts (rows.Any sorts.Mod) ∷ Part sorts.Result ∷ name ∷ Part sorts.Params ∷ Parts (rows.Maybe sorts.Throws) ∷ a kinds.Semicolon ∷ to_end

mutual
  unfolding placed methods_in

  quiet_methods : (ts : Asts) → Match to_end ts → (n : ℕ) → Quiet (methods_in [] (placed n ts))
  quiet_methods ts (grammar.chosen grammar.no_methods (grammar.token m grammar.done)) n = λ t c k. refl
  quiet_methods ts (grammar.chosen grammar.no_method (grammar.token {o} {ts = rest} m w)) n =
      last_part [] n o (n + 1) rest m (has_part to_end rest w refl) (λ t c k. refl) (quiet_methods rest w (n + 1))
  quiet_methods ts (grammar.chosen grammar.method w) n = quiet_method ts w n [] tt

  quiet_method : (ts : Asts) → Match one_method ts → (n : ℕ) (before : written.Parts) → AllModifiers before → Quiet (methods_in before (placed n ts))
  quiet_method ts (grammar.chosen grammar.some_of (grammar.part {t} {ts = rest} v w)) n before h =
      let plain = mod_plain t v in
      one_part before n t (n + width t) rest plain.0 (has_part one_method rest w refl) (quiet_method rest w (n + width t) (before ++ part_at n t ∷ []) (one_modifier before (part_at n t) h plain.1))
  quiet_method ts (grammar.chosen grammar.none_of (grammar.part {t = r} v (grammar.token {o} m (grammar.part {t = ps} u (grammar.chosen grammar.absent (grammar.token {o = s} {ts = rest} e w)))))) n before h =
      let plain = result_plain r v in
      let params = params_node ps u in
      let second = n + width r in
      let third = n + width r + 1 in
      let last = n + width r + 1 + width ps in
      one_part before n r second (more (Leaf o) (more ps (more (Leaf s) rest))) plain.0 tt
      (one_part (before ++ part_at n r ∷ []) second (Leaf o) third (more ps (more (Leaf s) rest)) (name_alone (kind_of o) m).0 tt
      (one_part ((before ++ part_at n r ∷ []) ++ part_at second (Leaf o) ∷ []) third ps last (more (Leaf s) rest) (along IsNoEnd ps (Node form.Params params.0) params.1 refl) tt
      (last_part (((before ++ part_at n r ∷ []) ++ part_at second (Leaf o) ∷ []) ++ part_at third ps ∷ []) last s (last + 1) rest e (has_part to_end rest w refl)
      (along_before _ _ (grouped_three before (part_at n r) (part_at second (Leaf o)) (part_at third ps)) (quiet_without before (part_at n r) second o (part_at third ps) h plain.1))
      (quiet_methods rest w (last + 1)))))
  quiet_method ts (grammar.chosen grammar.none_of (grammar.part {t = r} v (grammar.token {o} m (grammar.part {t = ps} u (grammar.chosen grammar.present (grammar.part {t = th} x (grammar.token {o = s} {ts = rest} e w))))))) n before h =
      let plain = result_plain r v in
      let params = params_node ps u in
      let throws = throws_node th x in
      let second = n + width r in
      let third = n + width r + 1 in
      let fourth = n + width r + 1 + width ps in
      let last = n + width r + 1 + width ps + width th in
      let P : Ast → Type 0 = λ z. Quiet (method_in (before ++ part_at n r ∷ part_at second (Leaf o) ∷ part_at third ps ∷ part_at fourth z ∷ []) ∷ []) in
      one_part before n r second (more (Leaf o) (more ps (more th (more (Leaf s) rest)))) plain.0 tt
      (one_part (before ++ part_at n r ∷ []) second (Leaf o) third (more ps (more th (more (Leaf s) rest))) (name_alone (kind_of o) m).0 tt
      (one_part ((before ++ part_at n r ∷ []) ++ part_at second (Leaf o) ∷ []) third ps fourth (more th (more (Leaf s) rest)) (along IsNoEnd ps (Node form.Params params.0) params.1 refl) tt
      (one_part (((before ++ part_at n r ∷ []) ++ part_at second (Leaf o) ∷ []) ++ part_at third ps ∷ []) fourth th last (more (Leaf s) rest) (along IsNoEnd th (Node form.Throws throws.0) throws.1 refl) tt
      (last_part ((((before ++ part_at n r ∷ []) ++ part_at second (Leaf o) ∷ []) ++ part_at third ps ∷ []) ++ part_at fourth th ∷ []) last s (last + 1) rest e (has_part to_end rest w refl)
      (along_before _ _ (grouped_four before (part_at n r) (part_at second (Leaf o)) (part_at third ps) (part_at fourth th))
      (along P th (Node form.Throws throws.0) throws.1 (quiet_with before (part_at n r) second o (part_at third ps) fourth throws.0 h plain.1)))
      (quiet_methods rest w (last + 1))))))

-- ---- an interface up to its brace

braced : (n : ℕ) (o : Tok) (ts : Asts) → same (kind_of o) kinds.OpenBrace ≡ true → Quiet (methods_in [] (placed (n + 1) ts)) → Quiet (methods_in [] (behind_brace (placed n (more (Leaf o) ts))))
unfolding placed behind_brace
braced n o ts e h = along_members _ _ (ap (λ b. methods_in [] (if b then placed (n + 1) ts else behind_brace (placed (n + 1) ts))) e) h

unbraced : (n : ℕ) (o : Tok) (ts : Asts) → same (kind_of o) kinds.OpenBrace ≡ false → Quiet (methods_in [] (behind_brace (placed (n + 1) ts))) → Quiet (methods_in [] (behind_brace (placed n (more (Leaf o) ts))))
unfolding placed behind_brace
unbraced n o ts e h = along_members _ _ (ap (λ b. methods_in [] (if b then placed (n + 1) ts else behind_brace (placed (n + 1) ts))) e) h

abbrev from_brace : List Item
from_brace = a kinds.OpenBrace ∷ to_end

quiet_names : (ts : Asts) → Match (Parts rows.Names ∷ from_brace) ts → (n : ℕ) → Quiet (methods_in [] (behind_brace (placed n ts)))
quiet_names ts (grammar.chosen grammar.no_names (grammar.token {o} {ts = rest} m w)) n = braced n o rest m (quiet_methods rest w (n + 1))
quiet_names ts (grammar.chosen grammar.names (grammar.token {o} m (grammar.token {o = p} {ts = rest} e w))) n =
    unbraced n o (more (Leaf p) rest) (kind_alone (kind_of o) kinds.Comma kinds.OpenBrace m refl) (unbraced (n + 1) p rest (name_alone (kind_of p) e).1 (quiet_names rest w (n + 1 + 1)))

quiet_supers : (ts : Asts) → Match (Parts rows.Supers ∷ from_brace) ts → (n : ℕ) → Quiet (methods_in [] (behind_brace (placed n ts)))
quiet_supers ts (grammar.chosen grammar.no_supers (grammar.token {o} {ts = rest} m w)) n = braced n o rest m (quiet_methods rest w (n + 1))
quiet_supers ts (grammar.chosen grammar.supers (grammar.token {o} m (grammar.token {o = p} {ts = rest} e w))) n =
    unbraced n o (more (Leaf p) rest) (kind_alone (kind_of o) kinds.Extends kinds.OpenBrace m refl) (unbraced (n + 1) p rest (name_alone (kind_of p) e).1 (quiet_names rest w (n + 1 + 1)))

-- behind the word and the name
abbrev QuietBehind : written.Parts → Type 0
QuietBehind (word ∷ x ∷ rest) = Quiet (methods_in [] (behind_brace rest))
QuietBehind _ = Unit {0}

quiet_interface : (ts : Asts) → Match (rule sorts.Interface) ts → (n : ℕ) → QuietBehind (behind_modifiers (placed n ts))
unfolding placed behind_modifiers
quiet_interface ts (grammar.chosen grammar.some_of (grammar.part {t} {ts = rest} v w)) n =
    let plain = mod_plain t v in
    subst QuietBehind (sym (ap (λ b. if b then behind_modifiers (placed (n + width t) rest) else part_at n t ∷ placed (n + width t) rest) plain.1)) (quiet_interface rest w (n + width t))
quiet_interface ts (grammar.chosen grammar.none_of (grammar.token {o} m (grammar.token {o = p} {ts = rest} e w))) n =
    subst QuietBehind (sym (ap (λ b. if b then behind_modifiers (placed (n + 1) (more (Leaf p) rest)) else part_at n (Leaf o) ∷ placed (n + 1) (more (Leaf p) rest)) (no_modifier (kind_of o) kinds.Interface m refl))) (quiet_supers rest w (n + 1 + 1))

-- ---- declarations

abbrev DeclarationBodiless : Declaration → Type 0
DeclarationBodiless d = AllBodiless (filter_map class_in (d ∷ []))

class_bodiless : (ms : List Placed) (end : ℕ) (ps : written.Parts) → DeclarationBodiless (class_behind ms end ps)
class_bodiless ms end [] = tt
class_bodiless ms end (x ∷ []) = tt
class_bodiless ms end (word ∷ x ∷ rest) = (λ e. absurd cc, tt)

interface_bodiless : (ms : List Placed) (end : ℕ) (ps : written.Parts) → QuietBehind ps → DeclarationBodiless (interface_behind ms end ps)
interface_bodiless ms end [] h = tt
interface_bodiless ms end (x ∷ []) h = tt
interface_bodiless ms end (word ∷ x ∷ rest) h =
    let k : ClassSyntax = record { is_interface = true; modifiers = ms; name = name_at x; above = None; interfaces = names_behind rest; members = methods_in [] (behind_brace rest); end = end } in
    (λ e t c. h t c k, tt)

-- a declaration by what it may be
by_declaration : (P : Ast → Type 0) → ((ts : Asts) → P (Node form.Class ts)) → ((ts : Asts) → Match (rule sorts.Interface) ts → P (Node form.Interface ts)) → ((o : Tok) → P (Leaf o)) → (x : Ast) → Is sorts.Declaration x → P x
by_declaration P f g h x (grammar.made (grammar.chosen grammar.a_class (grammar.part {t} v grammar.done)) e q) = let node = class_node t v in along P x (Node form.Class node.0) (q ∙ node.1) (f node.0)
by_declaration P f g h x (grammar.made (grammar.chosen grammar.an_interface (grammar.part {t} v grammar.done)) e q) = let node = interface_node t v in along P x (Node form.Interface node.0) (q ∙ node.2) (g node.0 node.1)
by_declaration P f g h x (grammar.made (grammar.chosen grammar.nothing (grammar.token {o} m grammar.done)) e q) = along P x (Leaf o) q (h o)
by_declaration P f g h x (grammar.grown v (grammar.operator e) w j q) = absurd cc

leaf_bodiless : (n : ℕ) (o : Tok) → DeclarationBodiless (declaration n (Leaf o))
leaf_bodiless n o = elim (is_leaf kinds.Semicolon (Leaf o)) as (λ b. DeclarationBodiless (if b then syntax.Declaration.Nothing else syntax.Declaration.Unknown)) [ true ↦ tt | false ↦ tt ]

node_bodiless : (ts : Asts) → Match (rule sorts.Interface) ts → (n : ℕ) → DeclarationBodiless (declaration n (Node form.Interface ts))
node_bodiless ts w n = interface_bodiless _ _ (behind_modifiers (placed n ts)) (quiet_interface ts w n)

declared_bodiless : (x : Ast) → Is sorts.Declaration x → (n : ℕ) → DeclarationBodiless (declaration n x)
declared_bodiless x v n = by_declaration (λ u. DeclarationBodiless (declaration n u)) (λ ts. class_bodiless _ _ (behind_modifiers (placed n ts))) (λ ts w. node_bodiless ts w n) (leaf_bodiless n) x v

-- a text of one declaration
lone_bodiless : (x : Ast) → Is sorts.Declaration x → (n : ℕ) → AllBodiless (classes_of (unit n x))
lone_bodiless x v n = by_declaration (λ u. AllBodiless (classes_of (unit n u))) (λ ts. class_bodiless _ _ (behind_modifiers (placed n ts))) (λ ts w. node_bodiless ts w n) (leaf_bodiless n) x v

both_bodiless : (d : Declaration) (rest : List Declaration) → DeclarationBodiless d → AllBodiless (classes_of rest) → AllBodiless (classes_of (d ∷ rest))
both_bodiless (syntax.Declaration.Declared k) rest h i = (h.0, i)
both_bodiless syntax.Declaration.Nothing rest h i = i
both_bodiless syntax.Declaration.Unknown rest h i = i

declarations_bodiless : (ts : Asts) → Match (rule sorts.Unit) ts → (n : ℕ) → AllBodiless (classes_of (declarations n ts))
unfolding declarations
declarations_bodiless ts (grammar.chosen grammar.none_of grammar.done) n = tt
declarations_bodiless ts (grammar.chosen grammar.some_of (grammar.part {t} {ts = rest} v w)) n =
    both_bodiless (declaration n t) (declarations (n + width t) rest) (declared_bodiless t v n) (declarations_bodiless rest w (n + width t))

unit_of_parts : (ts : Asts) → Match (rule sorts.Unit) ts → (n : ℕ) → AllBodiless (classes_of (unit n (node form.Unit ts)))
unit_of_parts none w n = declarations_bodiless none w n
unit_of_parts (more x none) (grammar.chosen grammar.some_of (grammar.part v w)) n = lone_bodiless x v n
unit_of_parts (more x none) (grammar.chosen grammar.none_of w) n = elim w [ ]
unit_of_parts (more x (more y rest)) w n = declarations_bodiless (more x (more y rest)) w n

pub unit_bodiless : (t : Ast) → WellFormed t → (n : ℕ) → AllBodiless (classes_of (unit n t))
unit_bodiless t w n = by w.0
  where
    by : Is sorts.Unit t → AllBodiless (classes_of (unit n t))
    by (grammar.made {ts} m e q) = along (λ u. AllBodiless (classes_of (unit n u))) t (node form.Unit ts) q (unit_of_parts ts m n)
    by (grammar.grown v (grammar.operator e) m j q) = absurd cc
