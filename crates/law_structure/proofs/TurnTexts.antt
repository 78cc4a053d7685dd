-- The statements of a text at one site have their numbers in the order of their roles.
use Rattle.std.proofs.Common.{◌≡◌, ◌∙◌, refl, sym, ap, subst, inl, inr, arith, ℕ, zero, suc, ◌+◌, ◌*◌, ◌<◌, ◌≤◌, Bool, true, false, if◌then◌else◌, List, [], ◌∷◌, ◌++◌, length}
use Rattle.std.specs.Prelude.{None, map, flat_map, slice_index_or}
use Rattle.std.specs.List.{AllPairs}
use Rattle.wy_tree.specs.Ast.{Ast, Asts, Leaf, Node}
use Rattle.wy_tree.specs.Ast as tree
use Rattle.wy_tree.specs.declared.kind.Kind.TheVariants as kinds
use Rattle.wy_tree.specs.declared.tree.Form.TheVariants as form
use Rattle.wy_kernel.specs.Form.{Statement}
use Rattle.wy_kernel.specs.Statements.{number_of}
use Rattle.wy_kernel.specs.Table.{Table}
use Rattle.wy_syntax.specs.Syntax.{Placed, ClassSyntax, Declaration}
use Rattle.wy_syntax.specs.Syntax as syntax
use Rattle.wy_syntax.specs.Names.{width, widths, is_leaf}
use Rattle.wy_syntax.specs.Declarations.{Parts, placed, behind_modifiers, name_at, members_in, behind_brace, names_behind, methods_in, superclass_in, implemented_in, class_behind, interface_behind, declaration, declarations, unit}
use Rattle.wy_elab_body.specs.declared.place.Place.{Place}
use Rattle.wy_elab_body.specs.declared.place.Role.{Role}
use Rattle.wy_elab_body.specs.declared.place.Role.TheVariants.{InitializerBody, FieldsBody, ConstructorBody, SuperCall, FieldsCall}
use Rattle.wy_elab_body.specs.Places.{at, key_of, order_of, number_at, calls_superclass, has_fields_unit, declares_constructor, place_if, implied_calls, implied_constructor_places}
use Rattle.wy_elab_body.specs.Statements.{Setting}
use Rattle.wy_members.specs.Declarations.{classes_of}
use Rattle.law_structure.specs.Numbers.{ComesFirst}
use Rattle.law_structure.proofs.Dense.{In, rank, rank_before}
use Rattle.law_structure.proofs.Trees.{Full, AllFull, parts_full, wide}
use Rattle.law_structure.proofs.Tallies.{Bodiless, AllBodiless, all_initializers, all_bodies}
use Rattle.law_structure.proofs.Productions.{UnitFull}
use Rattle.law_structure.proofs.Marks.{Mark, mark_of, mark_at, Marked}
use Rattle.law_structure.proofs.Numbered.{keys, number_is, in_map, map_in, number_of_mark, site_of_mark}
use Rattle.law_structure.proofs.ClassMarks.{static_places, instance_places, own_places, initializer_places, fields_places, class_body_places}
use Rattle.law_structure.proofs.ClassTrees.{Row, row_wider, row_rises, placed_row, modifiers_row, brace_row}
use Rattle.law_structure.proofs.Turns.{in_both, Cross, Neat, Within, neat_both, cross_left, cross_right, cross_apart, cross_behind, within_both, within_wider, within_none, calls_neat}
use Rattle.law_structure.proofs.TurnClasses.{Three, neat_of_both, within_of_both, cross_both, members_three}

-- the places in the bodies of initializers, and in the others
pub record Two (low high : ℕ) (xs ys : List Place) : Type 0 where
  pub first_neat : Neat xs
  pub second_neat : Neat ys
  pub cross : Cross xs ys
  pub first_within : Within low high xs
  pub second_within : Within low high ys

two_none : (low high : ℕ) → Two low high [] []
two_none low high = record { first_neat = tt; second_neat = tt; cross = λ q r m n e. absurd m; first_within = within_none low high; second_within = within_none low high }

two_both : (low middle high : ℕ) (xs ys us vs : List Place) → low ≤ middle → middle ≤ high → Two low middle xs ys → Two middle high us vs → Two low high (xs ++ us) (ys ++ vs)
two_both low middle high xs ys us vs a b h i = record {
  first_neat = neat_of_both low middle high xs us h.first_within i.first_within h.first_neat i.first_neat;
  second_neat = neat_of_both low middle high ys vs h.second_within i.second_within h.second_neat i.second_neat;
  cross = cross_both low middle high xs ys us vs h.first_within h.second_within i.first_within i.second_within h.cross i.cross;
  first_within = within_of_both low middle high xs us a b h.first_within i.first_within;
  second_within = within_of_both low middle high ys vs a b h.second_within i.second_within;
}

two_wider : (low high less : ℕ) (xs ys : List Place) → less ≤ low → Two low high xs ys → Two less high xs ys
two_wider low high less xs ys a h = record {
  first_neat = h.first_neat;
  second_neat = h.second_neat;
  cross = h.cross;
  first_within = within_wider low high less high xs a (omega arith) h.first_within;
  second_within = within_wider low high less high ys a (omega arith) h.second_within;
}

-- ---- at the name of a class

-- all stand at one site, with keys in a stretch
abbrev AtName : ℕ → ℕ → ℕ → List Place → Type 0
AtName n low high qs = (q : Place) → In q qs → (q.site ≡ n) × (low ≤ key_of q) × (key_of q < high)

cross_keys : (n low middle high : ℕ) (xs ys : List Place) → AtName n low middle xs → AtName n middle high ys → Cross xs ys
cross_keys n low middle high xs ys h i q r m k e =
    let less : key_of q < middle = (h q m).2 in
    let more : middle ≤ key_of r = (i r k).1 in omega arith

at_within : (n low high : ℕ) (qs : List Place) → AtName n low high qs → Within n (n + 1) qs
at_within n low high qs h q m = let site : q.site ≡ n = (h q m).0 in (omega arith, omega arith)

one_at : (n low high : ℕ) (q : Place) → q.site ≡ n → low ≤ key_of q → key_of q < high → AtName n low high (q ∷ [])
one_at n low high q a b c r (inl e) =
    let key : key_of r ≡ key_of q = ap key_of e in (ap (λ (p : Place). p.site) e ∙ a, omega arith, omega arith)
one_at n low high q a b c r (inr f) = absurd f

maybe_at : (n low high : ℕ) (b : Bool) (role : Role) → low ≤ key_of (at n role) → key_of (at n role) < high → AtName n low high (place_if b n role)
maybe_at n low high true role h i = one_at n low high (at n role) refl h i
maybe_at n low high false role h i = λ q m. absurd m

both_at : (n low middle high : ℕ) (xs ys : List Place) → low ≤ middle → middle ≤ high → AtName n low middle xs → AtName n middle high ys → AtName n low high (xs ++ ys)
both_at n low middle high xs ys a b h i q m = elim (in_both xs ys q m) [
  | inl l ↦ (let less : key_of q < middle = (h q l).2 in ((h q l).0, (h q l).1, omega arith))
  | inr r ↦ (let more : middle ≤ key_of q = (i q r).1 in ((i q r).0, omega arith, (i q r).2))
]

lone_neat : (q : Place) → Neat (q ∷ [])
lone_neat q = (λ r m e. absurd m, tt)

constructor_at : (t : Table) (c : ℕ) (k : ClassSyntax) → AtName k.name.token (k.name.token * 8 + 2) (k.name.token * 8 + 5) (implied_constructor_places t c k) × Neat (implied_constructor_places t c k)
unfolding order_of
constructor_at t c k = by (declares_constructor k)
  where
    by : (b : Bool) → AtName k.name.token (k.name.token * 8 + 2) (k.name.token * 8 + 5) (if b then [] else at k.name.token ConstructorBody ∷ implied_calls t c k k.name.token) × Neat (if b then [] else at k.name.token ConstructorBody ∷ implied_calls t c k k.name.token)
    by true = (λ q m. absurd m, tt)
    by false =
        let n = k.name.token in
        let head = one_at n (n * 8 + 2) (n * 8 + 3) (at n ConstructorBody) refl (omega arith) (omega arith) in
        let calls = both_at n (n * 8 + 3) (n * 8 + 4) (n * 8 + 5) (place_if (calls_superclass t c) n SuperCall) (place_if (has_fields_unit k) n FieldsCall) (omega arith) (omega arith)
        (maybe_at n (n * 8 + 3) (n * 8 + 4) (calls_superclass t c) SuperCall (omega arith) (omega arith)) (maybe_at n (n * 8 + 4) (n * 8 + 5) (has_fields_unit k) FieldsCall (omega arith) (omega arith)) in (
          both_at n (n * 8 + 2) (n * 8 + 3) (n * 8 + 5) (at n ConstructorBody ∷ []) (implied_calls t c k n) (omega arith) (omega arith) head calls,
          neat_both (at n ConstructorBody ∷ []) (implied_calls t c k n) (lone_neat (at n ConstructorBody)) (calls_neat (calls_superclass t c) (has_fields_unit k) n)
              (cross_keys n (n * 8 + 2) (n * 8 + 3) (n * 8 + 5) (at n ConstructorBody ∷ []) (implied_calls t c k n) head calls),
        )

-- the places of a class by those at its name and those of its members
class_lists : (n high : ℕ) (is fs cs ss ls os : List Place) → n + 1 ≤ high → Neat is → Neat fs → Neat cs → AtName n (n * 8) (n * 8 + 1) is → AtName n (n * 8 + 1) (n * 8 + 2) fs → AtName n (n * 8 + 2) (n * 8 + 5) cs →
    Three (n + 1) high ss ls os → Two n high (is ++ ss) ((fs ++ ls) ++ cs ++ os)
class_lists n high is fs cs ss ls os less ni nf nc ai af ac h =
    let wi = at_within n (n * 8) (n * 8 + 1) is ai in
    let wf = at_within n (n * 8 + 1) (n * 8 + 2) fs af in
    let wc = at_within n (n * 8 + 2) (n * 8 + 5) cs ac in
    let body = fs ++ ls in
    let front = neat_both fs ls nf h.second_neat (cross_apart n (n + 1) high fs ls wf h.second_within) in
    let middle = neat_both body cs front nc (cross_left fs ls cs (cross_keys n (n * 8 + 1) (n * 8 + 2) (n * 8 + 5) fs cs af ac) (cross_behind n (n + 1) high ls cs h.second_within wc)) in
    let to_own = cross_left body cs os (cross_left fs ls os (cross_apart n (n + 1) high fs os wf h.third_within) h.second_third) (cross_apart n (n + 1) high cs os wc h.third_within) in
    let first_wide : Within n high is = within_wider n (n + 1) n high is (omega arith) less wi in
    let fields_wide : Within n high fs = within_wider n (n + 1) n high fs (omega arith) less wf in
    let constructor_wide : Within n high cs = within_wider n (n + 1) n high cs (omega arith) less wc in
    let name_keys = ai in
    record {
      first_neat = neat_both is ss ni h.first_neat (cross_apart n (n + 1) high is ss wi h.first_within);
      second_neat = neat_both (body ++ cs) os middle h.third_neat to_own;
      cross = cross_left is ss (body ++ cs ++ os)
          (cross_right is (body ++ cs) os
          (cross_right is body cs (cross_right is fs ls (cross_keys n (n * 8) (n * 8 + 1) (n * 8 + 2) is fs ai af) (cross_apart n (n + 1) high is ls wi h.second_within))
          (λ q r m k e. let one : key_of q < n * 8 + 1 = (ai q m).2 in let other : n * 8 + 2 ≤ key_of r = (ac r k).1 in omega arith))
          (cross_apart n (n + 1) high is os wi h.third_within))
          (cross_right ss (body ++ cs) os
          (cross_right ss body cs (cross_right ss fs ls (cross_behind n (n + 1) high ss fs h.first_within wf) h.first_second) (cross_behind n (n + 1) high ss cs h.first_within wc))
          h.first_third);
      first_within = within_both n high is ss first_wide (within_wider (n + 1) high n high ss (omega arith) (omega arith) h.first_within);
      second_within = within_both n high (body ++ cs) os
          (within_both n high body cs (within_both n high fs ls fields_wide (within_wider (n + 1) high n high ls (omega arith) (omega arith) h.second_within)) constructor_wide)
          (within_wider (n + 1) high n high os (omega arith) (omega arith) h.third_within);
    }

without_second : (low high : ℕ) (xs ys zs : List Place) → Three low high xs ys zs → Three low high xs [] zs
without_second low high xs ys zs h = record {
  first_neat = h.first_neat;
  second_neat = tt;
  third_neat = h.third_neat;
  first_second = λ q r m n e. absurd n;
  first_third = h.first_third;
  second_third = λ q r m n e. absurd m;
  first_within = h.first_within;
  second_within = within_none low high;
  third_within = h.third_within;
}

class_two : (t : Table) (c : ℕ) (k : ClassSyntax) (high : ℕ) → k.is_interface ≡ false → k.name.token + 1 ≤ high → Three (k.name.token + 1) high (flat_map static_places k.members) (flat_map instance_places k.members) (flat_map (own_places t c k) k.members) →
    Two k.name.token high (initializer_places k) (class_body_places t c k)
unfolding order_of
class_two t c k high is_class less h =
    let n = k.name.token in
    let ctor = constructor_at t c k in
    let own = flat_map (own_places t c k) k.members in
    let ss = flat_map static_places k.members in
    let cs = implied_constructor_places t c k in
    let P : Bool → Type 0 = λ b. Two n high (if b then [] else at n InitializerBody ∷ ss) (if b then own else fields_places k ++ cs ++ own) in
    subst P (sym is_class) (by (has_fields_unit k) h ctor.0 ctor.1)
  where
    by : (b : Bool) → Three (k.name.token + 1) high (flat_map static_places k.members) (flat_map instance_places k.members) (flat_map (own_places t c k) k.members) →
        AtName k.name.token (k.name.token * 8 + 2) (k.name.token * 8 + 5) (implied_constructor_places t c k) → Neat (implied_constructor_places t c k) →
        Two k.name.token high (at k.name.token InitializerBody ∷ flat_map static_places k.members) ((if b then at k.name.token FieldsBody ∷ flat_map instance_places k.members else []) ++ implied_constructor_places t c k ++ flat_map (own_places t c k) k.members)
    by true i a b =
        class_lists k.name.token high (at k.name.token InitializerBody ∷ []) (at k.name.token FieldsBody ∷ []) (implied_constructor_places t c k) (flat_map static_places k.members) (flat_map instance_places k.members) (flat_map (own_places t c k) k.members) less
        (lone_neat (at k.name.token InitializerBody)) (lone_neat (at k.name.token FieldsBody)) b
        (one_at k.name.token (k.name.token * 8) (k.name.token * 8 + 1) (at k.name.token InitializerBody) refl (omega arith) (omega arith))
        (one_at k.name.token (k.name.token * 8 + 1) (k.name.token * 8 + 2) (at k.name.token FieldsBody) refl (omega arith) (omega arith)) a i
    by false i a b =
        class_lists k.name.token high (at k.name.token InitializerBody ∷ []) [] (implied_constructor_places t c k) (flat_map static_places k.members) [] (flat_map (own_places t c k) k.members) less
        (lone_neat (at k.name.token InitializerBody)) tt b
        (one_at k.name.token (k.name.token * 8) (k.name.token * 8 + 1) (at k.name.token InitializerBody) refl (omega arith) (omega arith))
        (λ q m. absurd m) a (without_second (k.name.token + 1) high (flat_map static_places k.members) (flat_map instance_places k.members) (flat_map (own_places t c k) k.members) i)

-- ---- a whole text

abbrev DeclarationTwo : Table → ℕ → ℕ → ℕ → Declaration → Type 0
DeclarationTwo t c low high (syntax.Declaration.Declared k) = Two low high (initializer_places k) (class_body_places t c k)
DeclarationTwo t c low high _ = Unit {0}

class_behind_two : (t : Table) (c : ℕ) (ms : List Placed) (end low : ℕ) (ps : Parts) (high : ℕ) → Row low ps high → DeclarationTwo t c low high (class_behind ms end ps)
class_behind_two t c ms end low [] high r = tt
class_behind_two t c ms end low (x ∷ []) high r = tt
class_behind_two t c ms end low (word ∷ x ∷ rest) high r =
    let k : ClassSyntax = record { is_interface = false; modifiers = ms; name = name_at x; above = superclass_in rest; interfaces = implemented_in rest; members = members_in (behind_brace rest); end = end } in
    let first : low ≤ word.at = r.0 in
    let second : word.at + width word.entity ≤ x.at = r.2.0 in
    let some : 1 ≤ width x.entity = wide x.entity r.2.1 in
    let there : x.at + width x.entity ≤ high = row_rises (x.at + width x.entity) rest high r.2.2 in
    two_wider x.at high low (initializer_places k) (class_body_places t c k) (omega arith)
    (class_two t c k high refl (omega arith)
    (members_three t c k (x.at + 1) (behind_brace rest) high (row_wider (x.at + 1) (x.at + width x.entity) (behind_brace rest) high (omega arith) (brace_row (x.at + width x.entity) rest high r.2.2))))

interface_two : (t : Table) (c : ℕ) (k : ClassSyntax) (low high : ℕ) → k.is_interface ≡ true → Bodiless k → Two low high (initializer_places k) (class_body_places t c k)
interface_two t c k low high e free =
    let P : Bool → Type 0 = λ b. Two low high (if b then [] else at k.name.token InitializerBody ∷ flat_map static_places k.members) (if b then flat_map (own_places t c k) k.members else fields_places k ++ implied_constructor_places t c k ++ flat_map (own_places t c k) k.members) in
    let Q : List Place → Type 0 = λ ys. Two low high [] ys in
    subst P (sym e) (subst Q (sym (free e t c)) (two_none low high))

abbrev DeclarationFree : Declaration → Type 0
DeclarationFree (syntax.Declaration.Declared k) = Bodiless k
DeclarationFree _ = Unit {0}

interface_behind_two : (t : Table) (c : ℕ) (ms : List Placed) (end low : ℕ) (ps : Parts) (high : ℕ) → DeclarationFree (interface_behind ms end ps) → DeclarationTwo t c low high (interface_behind ms end ps)
interface_behind_two t c ms end low [] high f = tt
interface_behind_two t c ms end low (x ∷ []) high f = tt
interface_behind_two t c ms end low (word ∷ x ∷ rest) high f =
    let k : ClassSyntax = record { is_interface = true; modifiers = ms; name = name_at x; above = None; interfaces = names_behind rest; members = methods_in [] (behind_brace rest); end = end } in
    interface_two t c k low high refl f

declaration_two : (t : Table) (c n : ℕ) (x : Ast) → Full x → DeclarationFree (declaration n x) → DeclarationTwo t c n (n + width x) (declaration n x)
declaration_two t c n (Leaf o) f free = elim (is_leaf kinds.Semicolon (Leaf o)) as (λ b. DeclarationTwo t c n (n + 1) (if b then syntax.Declaration.Nothing else syntax.Declaration.Unknown)) [ true ↦ tt | false ↦ tt ]
declaration_two t c n (Node form.Class parts) f free = class_behind_two t c _ _ n (behind_modifiers (placed n parts)) (n + widths parts) (modifiers_row n (placed n parts) (n + widths parts) (placed_row n parts (parts_full parts f)))
declaration_two t c n (Node form.Interface parts) f free = interface_behind_two t c _ _ n (behind_modifiers (placed n parts)) (n + widths parts) free
declaration_two t c n (Node g parts) f free = tt

abbrev AllTwo : Table → ℕ → ℕ → ℕ → List Declaration → Type 0
AllTwo t c low high ds = Two low high (all_initializers (classes_of ds)) (all_bodies t c (classes_of ds))

join_two : (t : Table) (c : ℕ) (d : Declaration) (rest : List Declaration) (low middle high : ℕ) → low ≤ middle → middle ≤ high → DeclarationTwo t c low middle d → ((n : ℕ) → AllTwo t n middle high rest) → AllTwo t c low high (d ∷ rest)
join_two t c (syntax.Declaration.Declared k) rest low middle high a b h i =
    two_both low middle high (initializer_places k) (class_body_places t c k) (all_initializers (classes_of rest)) (all_bodies t (suc c) (classes_of rest)) a b h (i (suc c))
join_two t c syntax.Declaration.Nothing rest low middle high a b h i = two_wider middle high low _ _ a (i c)
join_two t c syntax.Declaration.Unknown rest low middle high a b h i = two_wider middle high low _ _ a (i c)

free_first : (d : Declaration) (rest : List Declaration) → AllBodiless (classes_of (d ∷ rest)) → DeclarationFree d
free_first (syntax.Declaration.Declared k) rest h = h.0
free_first syntax.Declaration.Nothing rest h = tt
free_first syntax.Declaration.Unknown rest h = tt

free_rest : (d : Declaration) (rest : List Declaration) → AllBodiless (classes_of (d ∷ rest)) → AllBodiless (classes_of rest)
free_rest (syntax.Declaration.Declared k) rest h = h.1
free_rest syntax.Declaration.Nothing rest h = h
free_rest syntax.Declaration.Unknown rest h = h

declarations_two : (t : Table) (n : ℕ) (parts : Asts) → AllFull parts → AllBodiless (classes_of (declarations n parts)) → (c : ℕ) → AllTwo t c n (n + widths parts) (declarations n parts)
unfolding declarations
declarations_two t n tree.none f free c = two_none n (n + 0)
declarations_two t n (tree.more x rest) f free c =
    let P : ℕ → Type 0 = λ high. AllTwo t c n high (declaration n x ∷ declarations (n + width x) rest) in
    subst P (omega arith)
    (join_two t c (declaration n x) (declarations (n + width x) rest) n (n + width x) (n + width x + widths rest) (omega arith) (omega arith)
    (declaration_two t c n x f.0 (free_first (declaration n x) (declarations (n + width x) rest) free))
    (λ k. declarations_two t (n + width x) rest f.1 (free_rest (declaration n x) (declarations (n + width x) rest) free) k))

lone_two : (t : Table) (c n : ℕ) (x : Ast) → Full x → AllBodiless (classes_of (declaration n x ∷ [])) → AllTwo t c n (n + width x) (declaration n x ∷ [])
lone_two t c n x f free =
    join_two t c (declaration n x) [] n (n + width x) (n + width x) (omega arith) (omega arith) (declaration_two t c n x f (free_first (declaration n x) [] free)) (λ k. two_none (n + width x) (n + width x))

pub unit_two : (t : Table) (c n : ℕ) (x : Ast) → UnitFull x → AllBodiless (classes_of (unit n x)) → AllTwo t c n (n + width x) (unit n x)
unit_two t c n (Leaf o) f free = lone_two t c n (Leaf o) tt free
unit_two t c n (Node form.Unit parts) f free = declarations_two t n parts f free c
unit_two t c n (Node g parts) f free = lone_two t c n (Node g parts) f free

-- ---- statements

-- each comes before those behind it
abbrev InTurn : List Statement → Type 0
InTurn [] = Unit {0}
InTurn (s ∷ rest) = ((t : Statement) → In t rest → ComesFirst s t) × InTurn rest

in_index : {X : Type 0} (xs : List X) (j : ℕ) (d : X) → j < length xs → In (slice_index_or xs j d) xs
in_index [] j d h = absurd (omega arith)
in_index (x ∷ xs) zero d h = inl refl
in_index (x ∷ xs) (suc j) d h = inr (in_index xs j d (omega arith))

pub all_pairs : (xs : List Statement) → InTurn xs → AllPairs ComesFirst xs
all_pairs [] h i j d less below = absurd (omega arith)
all_pairs (x ∷ xs) h zero zero d less below = absurd (omega arith)
all_pairs (x ∷ xs) h zero (suc j) d less below = h.0 (slice_index_or xs j d) (in_index xs j d (omega arith))
all_pairs (x ∷ xs) h (suc i) zero d less below = absurd (omega arith)
all_pairs (x ∷ xs) h (suc i) (suc j) d less below = all_pairs xs h.1 i j d (omega arith) (omega arith)

abbrev first_mark : Mark → List Mark → Mark
first_mark d [] = d
first_mark d (m ∷ rest) = m

abbrev other_marks : List Mark → List Mark
other_marks [] = []
other_marks (m ∷ rest) = rest

numbers_before : (w : Setting) (q r : Place) (s t : Statement) → In (key_of q) (keys w.places) → key_of q < key_of r → mark_at w q ≡ mark_of s → mark_at w r ≡ mark_of t → number_of s < number_of t
numbers_before w q r s t m less a b =
    let ranks : rank (keys w.places) (key_of q) < rank (keys w.places) (key_of r) = rank_before (keys w.places) (key_of q) (key_of r) m less in
    let first : number_at w.places q ≡ 74 + rank (keys w.places) (key_of q) = number_is w.places q in
    let second : number_at w.places r ≡ 74 + rank (keys w.places) (key_of r) = number_is w.places r in
    let own : number_at w.places q ≡ number_of s = ap (λ (x : Mark). x.0) a ∙ number_of_mark s in
    let other : number_at w.places r ≡ number_of t = ap (λ (x : Mark). x.0) b ∙ number_of_mark t in
    omega arith

pub in_turn : (w : Setting) (qs : List Place) (xs : List Statement) → Marked w qs xs → Neat qs → ((q : Place) → In q qs → In (key_of q) (keys w.places)) → InTurn xs
in_turn w [] [] h n among = tt
in_turn w [] (x ∷ xs) h n among = absurd cc
in_turn w (q ∷ qs) [] h n among = absurd cc
in_turn w (q ∷ qs) (x ∷ xs) h n among =
    let head : mark_of x ≡ mark_at w q = ap (first_mark (mark_of x)) h in
    let rest : map mark_of xs ≡ map (mark_at w) qs = ap other_marks h in
    let P : List Mark → (t : Statement) → Type 0 = λ ms t. In (mark_of t) ms in (
      (λ t m e.
          let found = map_in (mark_at w) qs (mark_of t) (subst (λ ms. P ms t) rest (in_map mark_of xs t m)) in
          let site : q.site ≡ found.0.site = ap (λ (y : Mark). y.1) (sym head) ∙ site_of_mark x ∙ e ∙ sym (ap (λ (y : Mark). y.1) found.2 ∙ site_of_mark t) in
          numbers_before w q found.0 x t (among q (inl refl)) (n.0 found.0 found.1 site) (sym head) found.2),
      in_turn w qs xs rest n.1 (λ r m. among r (inr m)),
    )
