-- Each node of a well-formed tree has a part, but for a text without declarations.
use Rattle.std.proofs.Common.{◌≡◌, refl, sym, subst, Bool, true, false, ◌||◌, ◌&&◌, List, [], ◌∷◌, ◌++◌}
use Rattle.std.proofs.lemmas.Bool.{and_parts, and_from}
use Rattle.wy_tree.specs.Ast.{Ast, Asts, Leaf, Node, none, more, node}
use Rattle.wy_tree.specs.Grammar.{form_of, tighter, rule, Alternative, Suffix, Is, Match, WellFormed}
use Rattle.wy_tree.specs.Grammar as grammar
use Rattle.wy_tree.specs.declared.tree.Form.{Form}
use Rattle.wy_tree.specs.declared.tree.Form.TheVariants as form
use Rattle.wy_tree.specs.declared.grammar.Sort.{Sort}
use Rattle.wy_tree.specs.declared.grammar.Sort.TheVariants as sorts
use Rattle.wy_tree.specs.declared.grammar.Row.{Row}
use Rattle.wy_tree.specs.declared.grammar.Row.TheVariants as rows
use Rattle.wy_tree.specs.declared.grammar.Item.{Item}
use Rattle.wy_tree.specs.declared.grammar.Item.TheVariants.{One, Part, Parts}
use Rattle.law_structure.proofs.Trees.{Full, FullParts, AllFull, parts_full}

-- all sorts but that of a whole text
abbrev pub is_inner : Sort → Bool
is_inner sorts.Unit = false
is_inner _ = true

-- items that stand for no whole text
abbrev inner_row : Row → Bool
inner_row (rows.Any x) = is_inner x
inner_row (rows.Maybe x) = is_inner x
inner_row (rows.Series x) = is_inner x
inner_row (rows.Further x) = is_inner x
inner_row _ = true

abbrev inner_item : Item → Bool
inner_item (One c) = true
inner_item (Part x) = is_inner x
inner_item (Parts r) = inner_row r

abbrev pub all_inner : List Item → Bool
all_inner [] = true
all_inner (i ∷ rest) = inner_item i && all_inner rest

-- items that stand for at least one part
abbrev solid_row : Row → Bool
solid_row (rows.Any x) = false
solid_row (rows.Maybe x) = false
solid_row (rows.Series x) = false
solid_row (rows.Further x) = false
solid_row rows.Names = false
solid_row rows.Brackets = false
solid_row rows.MaybeFinal = false
solid_row rows.Superclass = false
solid_row rows.Interfaces = false
solid_row rows.Supers = false
solid_row rows.Methods = false
solid_row rows.OwnCall = false
solid_row rows.Initial = false
solid_row rows.Elements = false
solid_row rows.MoreElements = false
solid_row rows.AfterComma = false
solid_row rows.Otherwise = false
solid_row rows.Label = false
solid_row rows.Finally = false
solid_row rows.Assigned = false
solid_row rows.Choice = false
solid_row rows.Steps = false
solid_row rows.Dimensions = false
solid_row _ = true

abbrev solid_item : Item → Bool
solid_item (One c) = true
solid_item (Part x) = true
solid_item (Parts r) = solid_row r

abbrev pub solid : List Item → Bool
solid [] = false
solid (i ∷ rest) = solid_item i || solid rest

inner_append : (xs ys : List Item) → all_inner xs ≡ true → all_inner ys ≡ true → all_inner (xs ++ ys) ≡ true
inner_append [] ys e f = f
inner_append (x ∷ xs) ys e f = and_from (inner_item x) (all_inner (xs ++ ys)) (and_parts (inner_item x) (all_inner xs) e).0 (inner_append xs ys (and_parts (inner_item x) (all_inner xs) e).1 f)

twice : (b : Bool) → b ≡ true → (b && (b && true)) ≡ true
twice true e = refl
twice false e = e

once : (b : Bool) → b ≡ true → (b && true) ≡ true
once true e = refl
once false e = e

way_inner : {r : Row} {way : List Item} → Alternative r way → inner_row r ≡ true → all_inner way ≡ true
way_inner (grammar.some_of {x}) e = twice (is_inner x) e
way_inner (grammar.present {x}) e = once (is_inner x) e
way_inner (grammar.series {x}) e = twice (is_inner x) e
way_inner (grammar.further {x}) e = twice (is_inner x) e
way_inner _ e = refl

rule_inner : (x : Sort) → all_inner (rule x) ≡ true
rule_inner sorts.Unit = refl
rule_inner _ = refl

suffix_inner : {x : Sort} {items : List Item} → Suffix x items → all_inner items ≡ true
suffix_inner (grammar.operator {x} {k} e) = once (is_inner (tighter x)) (tighter_inner x)
  where
    tighter_inner : (x : Sort) → is_inner (tighter x) ≡ true
    tighter_inner sorts.OrElse = refl
    tighter_inner _ = refl
suffix_inner grammar.instance_of = refl
suffix_inner grammar.member = refl
suffix_inner grammar.element = refl

solid_append : (xs ys : List Item) → solid xs ≡ true → solid (xs ++ ys) ≡ true
solid_append [] ys e = absurd cc
solid_append (x ∷ xs) ys e = by (solid_item x) (solid_append xs ys) e
  where
    by : (b : Bool) → (solid xs ≡ true → solid (xs ++ ys) ≡ true) → (b || solid xs) ≡ true → (b || solid (xs ++ ys)) ≡ true
    by true h f = refl
    by false h f = h f

solid_behind : (xs ys : List Item) → solid ys ≡ true → solid (xs ++ ys) ≡ true
solid_behind [] ys e = e
solid_behind (x ∷ xs) ys e = by (solid_item x) (solid_behind xs ys e)
  where
    by : (b : Bool) → solid (xs ++ ys) ≡ true → (b || solid (xs ++ ys)) ≡ true
    by true f = refl
    by false f = f

way_solid : {r : Row} {way : List Item} → Alternative r way → solid_row r ≡ true → solid way ≡ true
way_solid grammar.none_of e = absurd cc
way_solid grammar.absent e = absurd cc
way_solid grammar.no_series e = absurd cc
way_solid grammar.no_further e = absurd cc
way_solid grammar.no_names e = absurd cc
way_solid grammar.no_brackets e = absurd cc
way_solid grammar.not_final e = absurd cc
way_solid grammar.no_superclass e = absurd cc
way_solid grammar.no_interfaces e = absurd cc
way_solid grammar.no_supers e = absurd cc
way_solid grammar.no_methods e = absurd cc
way_solid grammar.no_own_call e = absurd cc
way_solid grammar.no_initial e = absurd cc
way_solid grammar.no_elements e = absurd cc
way_solid grammar.no_more_elements e = absurd cc
way_solid grammar.comma_last e = absurd cc
way_solid grammar.no_else e = absurd cc
way_solid grammar.no_label e = absurd cc
way_solid grammar.no_finally e = absurd cc
way_solid grammar.not_assigned e = absurd cc
way_solid grammar.no_choice e = absurd cc
way_solid grammar.no_steps e = absurd cc
way_solid grammar.no_dimensions e = absurd cc
way_solid _ e = refl

rule_solid : (x : Sort) → is_inner x ≡ true → solid (rule x) ≡ true
rule_solid sorts.Unit e = absurd cc
rule_solid _ e = refl

-- the parts are not none
abbrev pub HasPart : Asts → Type 0
HasPart none = ⊥
HasPart (more t rest) = Unit {0}

either_way : (b c : Bool) (P : Type 0) → (b || c) ≡ true → (b ≡ true → P) → (c ≡ true → P) → P
either_way true c P e f g = f refl
either_way false c P e f g = g e

pub has_part : (items : List Item) (ts : Asts) → Match items ts → solid items ≡ true → HasPart ts
has_part _ _ grammar.done e = absurd cc
has_part _ _ (grammar.token m w) e = tt
has_part _ _ (grammar.part v w) e = tt
has_part _ _ (grammar.chosen {r} {way} {items} {ts} y w) e =
    has_part (way ++ items) ts w (either_way (solid_row r) (solid items) (solid (way ++ items) ≡ true) e (λ f. solid_append way items (way_solid y f)) (λ f. solid_behind way items f))

all_parts : (ts : Asts) → HasPart ts → AllFull ts → FullParts ts
all_parts none h f = h
all_parts (more t rest) h f = f

node_full : (f : Form) (ts : Asts) → FullParts ts → Full (node f ts)
node_full f none h = absurd h
node_full f (more t none) h = h.0
node_full f (more t (more u rest)) h = h

mutual
  pub tree_full : (x : Sort) (t : Ast) → Is x t → is_inner x ≡ true → Full t
  tree_full x t (grammar.made {ts} w e q) i =
      subst Full (sym q) (node_full (form_of x) ts (all_parts ts (has_part (rule x) ts w (rule_solid x i)) (items_full (rule x) ts w (rule_inner x))))
  tree_full x t (grammar.grown {l} {ts} {items} v y w e q) i =
      subst Full (sym q) (tree_full x l v i, items_full items ts w (suffix_inner y))

  pub items_full : (items : List Item) (ts : Asts) → Match items ts → all_inner items ≡ true → AllFull ts
  items_full _ _ grammar.done i = tt
  items_full _ _ (grammar.token {items} {ts} m w) i = (tt, items_full items ts w i)
  items_full _ _ (grammar.part {x} {t} {items} {ts} v w) i = (tree_full x t v (and_parts (is_inner x) (all_inner items) i).0, items_full items ts w (and_parts (is_inner x) (all_inner items) i).1)
  items_full _ _ (grammar.chosen {r} {way} {items} {ts} y w) i =
      items_full (way ++ items) ts w (inner_append way items (way_inner y (and_parts (inner_row r) (all_inner items) i).0) (and_parts (inner_row r) (all_inner items) i).1)

-- a text may have no declarations
abbrev pub UnitFull : Ast → Type 0
UnitFull (Node form.Unit parts) = AllFull parts
UnitFull t = Full t

full_unit : (t : Ast) → Full t → UnitFull t
full_unit (Leaf o) f = tt
full_unit (Node form.Unit parts) f = parts_full parts f
full_unit (Node g parts) f = f

unit_node : (ts : Asts) → AllFull ts → UnitFull (node form.Unit ts)
unit_node none f = tt
unit_node (more t none) f = full_unit t f.0
unit_node (more t (more u rest)) f = f

pub unit_full : (t : Ast) → WellFormed t → UnitFull t
unit_full t w = by w.0
  where
    by : Is sorts.Unit t → UnitFull t
    by (grammar.made {ts} m e q) = subst UnitFull (sym q) (unit_node ts (items_full (rule sorts.Unit) ts m refl))
    by (grammar.grown {l} {ts} {items} v (grammar.operator e) m j q) = absurd cc
