-- Of the places at one site of a tree's classes those of lesser roles come first, those in the bodies of initializers before the others.
use Rattle.std.proofs.Common.{inl, inr, arith, ℕ, ◌+◌, ◌*◌, ◌≤◌, Bool, true, false, if◌then◌else◌, List, [], ◌∷◌, ◌++◌}
use Rattle.std.specs.Prelude.{Some, None, flat_map}
use Rattle.wy_tree.specs.Ast.{Ast, Leaf, Node}
use Rattle.wy_tree.specs.declared.kind.Kind.TheVariants as kinds
use Rattle.wy_tree.specs.declared.tree.Form.TheVariants as form
use Rattle.wy_kernel.specs.Table.{Table}
use Rattle.wy_syntax.specs.Syntax.{Braced, Placed, Header, Member, ClassSyntax, Declaration}
use Rattle.wy_syntax.specs.Syntax as syntax
use Rattle.wy_syntax.specs.Names.{width, widths, is_leaf}
use Rattle.wy_syntax.specs.Statements.{block, declarators}
use Rattle.wy_syntax.specs.Declarations.{Parts, placed, is_block, is_params, modifiers_of, behind_modifiers, behind_throws, header, result_of, type_at, body_of, constructor_of, member_behind, member_in, member_seen, members_in}
use Rattle.wy_elab_body.specs.declared.place.Place.{Place}
use Rattle.wy_elab_body.specs.declared.place.Role.TheVariants.{Written}
use Rattle.wy_elab_body.specs.Places.{written, block_places, all_places, first_calls, initialized_places, member_places}
use Rattle.wy_elab_stmt.specs.Classes.{is_static}
use Rattle.law_structure.proofs.Spread.{Spread, head_spread}
use Rattle.law_structure.proofs.Dense.{In}
use Rattle.law_structure.proofs.Trees.{Full, parts_full, wide}
use Rattle.law_structure.proofs.ClassMarks.{static_places, instance_places, own_places, constructor_places}
use Rattle.law_structure.proofs.ClassTrees.{Row, row_wider, row_rises, placed_row, modifiers_row, throws_row, own_rows, member_spread}
use Rattle.law_structure.proofs.Turns.{in_both, in_left, in_right, Cross, Neat, Within, neat_both, cross_left, cross_right, cross_apart, cross_behind, within_both, within_wider, within_none, within_spread, written_neat, block_written, initialized_written, StandsBehind, constructor_neat}

-- ---- three lists in one stretch

pub record Three (low high : ℕ) (xs ys zs : List Place) : Type 0 where
  pub first_neat : Neat xs
  pub second_neat : Neat ys
  pub third_neat : Neat zs
  pub first_second : Cross xs ys
  pub first_third : Cross xs zs
  pub second_third : Cross ys zs
  pub first_within : Within low high xs
  pub second_within : Within low high ys
  pub third_within : Within low high zs

no_cross_left : (ys : List Place) → Cross [] ys
no_cross_left ys q r m n e = absurd m

no_cross_right : (xs : List Place) → Cross xs []
no_cross_right xs q r m n e = absurd n

only_first : (low high : ℕ) (xs : List Place) → Neat xs → Within low high xs → Three low high xs [] []
only_first low high xs h w = record { first_neat = h; second_neat = tt; third_neat = tt; first_second = no_cross_right xs; first_third = no_cross_right xs; second_third = no_cross_right []; first_within = w; second_within = within_none low high; third_within = within_none low high }

only_second : (low high : ℕ) (ys : List Place) → Neat ys → Within low high ys → Three low high [] ys []
only_second low high ys h w = record { first_neat = tt; second_neat = h; third_neat = tt; first_second = no_cross_left ys; first_third = no_cross_left []; second_third = no_cross_right ys; first_within = within_none low high; second_within = w; third_within = within_none low high }

only_third : (low high : ℕ) (zs : List Place) → Neat zs → Within low high zs → Three low high [] [] zs
only_third low high zs h w = record { first_neat = tt; second_neat = tt; third_neat = h; first_second = no_cross_left []; first_third = no_cross_left zs; second_third = no_cross_left zs; first_within = within_none low high; second_within = within_none low high; third_within = w }

three_wider : (low high less : ℕ) (xs ys zs : List Place) → less ≤ low → Three low high xs ys zs → Three less high xs ys zs
three_wider low high less xs ys zs a h = record {
  first_neat = h.first_neat;
  second_neat = h.second_neat;
  third_neat = h.third_neat;
  first_second = h.first_second;
  first_third = h.first_third;
  second_third = h.second_third;
  first_within = within_wider low high less high xs a (omega arith) h.first_within;
  second_within = within_wider low high less high ys a (omega arith) h.second_within;
  third_within = within_wider low high less high zs a (omega arith) h.third_within;
}

-- of lists in two stretches, the second behind the first
pub cross_both : (low middle high : ℕ) (xs ys us vs : List Place) → Within low middle xs → Within low middle ys → Within middle high us → Within middle high vs → Cross xs ys → Cross us vs → Cross (xs ++ us) (ys ++ vs)
cross_both low middle high xs ys us vs a b c d h i =
    cross_left xs us (ys ++ vs) (cross_right xs ys vs h (cross_apart low middle high xs vs a d)) (cross_right us ys vs (cross_behind low middle high us ys c b) i)

pub neat_of_both : (low middle high : ℕ) (xs us : List Place) → Within low middle xs → Within middle high us → Neat xs → Neat us → Neat (xs ++ us)
neat_of_both low middle high xs us a c h i = neat_both xs us h i (cross_apart low middle high xs us a c)

pub within_of_both : (low middle high : ℕ) (xs us : List Place) → low ≤ middle → middle ≤ high → Within low middle xs → Within middle high us → Within low high (xs ++ us)
within_of_both low middle high xs us a b h i = within_both low high xs us (within_wider low middle low high xs (omega arith) b h) (within_wider middle high low high us a (omega arith) i)

three_both : (low middle high : ℕ) (xs ys zs us vs ws : List Place) → low ≤ middle → middle ≤ high → Three low middle xs ys zs → Three middle high us vs ws → Three low high (xs ++ us) (ys ++ vs) (zs ++ ws)
three_both low middle high xs ys zs us vs ws a b h i = record {
  first_neat = neat_of_both low middle high xs us h.first_within i.first_within h.first_neat i.first_neat;
  second_neat = neat_of_both low middle high ys vs h.second_within i.second_within h.second_neat i.second_neat;
  third_neat = neat_of_both low middle high zs ws h.third_within i.third_within h.third_neat i.third_neat;
  first_second = cross_both low middle high xs ys us vs h.first_within h.second_within i.first_within i.second_within h.first_second i.first_second;
  first_third = cross_both low middle high xs zs us ws h.first_within h.third_within i.first_within i.third_within h.first_third i.first_third;
  second_third = cross_both low middle high ys zs vs ws h.second_within h.third_within i.second_within i.third_within h.second_third i.second_third;
  first_within = within_of_both low middle high xs us a b h.first_within i.first_within;
  second_within = within_of_both low middle high ys vs a b h.second_within i.second_within;
  third_within = within_of_both low middle high zs ws a b h.third_within i.third_within;
}

-- ---- members

fields_three : (low high : ℕ) (b : Bool) (qs : List Place) → Neat qs → Within low high qs → Three low high (if b then qs else []) (if b then [] else qs) []
fields_three low high true qs h w = only_first low high qs h w
fields_three low high false qs h w = only_second low high qs h w

same_within : (low high : ℕ) (xs ys : List Place) → ((q : Place) → In q xs → In q ys) → Within low high ys → Within low high xs
same_within low high xs ys i h q m = h q (i q m)

in_turned : (calls brace parts : List Place) (q : Place) → In q (brace ++ (calls ++ parts)) → In q (calls ++ (brace ++ parts))
in_turned calls brace parts q m = elim (in_both brace (calls ++ parts) q m) [
  | inl l ↦ in_right calls (brace ++ parts) q (in_left brace parts q l)
  | inr r ↦ elim (in_both calls parts q r) [
    | inl l ↦ in_left calls (brace ++ parts) q l
    | inr n ↦ in_right calls (brace ++ parts) q (in_right brace parts q n)
  ]
]

member_three : (t : Table) (c : ℕ) (k : ClassSyntax) (low high : ℕ) (m : Member) → Spread low high (member_places t c k m) → StandsBehind high m → Three low high (static_places m) (instance_places m) (own_places t c k m)
unfolding member_places
member_three t c k low high (syntax.Initializer true b) h s = only_first low high (block_places b) (written_neat (8 * low) (8 * high) (block_places b) (block_written b) h) (within_spread low high (block_places b) h)
member_three t c k low high (syntax.Initializer false b) h s = only_second low high (block_places b) (written_neat (8 * low) (8 * high) (block_places b) (block_written b) h) (within_spread low high (block_places b) h)
member_three t c k low high (syntax.Fields ms ty all) h s = fields_three low high (is_static ms) (initialized_places all) (written_neat (8 * low) (8 * high) (initialized_places all) (initialized_written all) h) (within_spread low high (initialized_places all) h)
member_three t c k low high (syntax.Method x result None) h s = only_third low high [] tt (within_none low high)
member_three t c k low high (syntax.Method x result (Some b)) h s = only_third low high (block_places b) (written_neat (8 * low) (8 * high) (block_places b) (block_written b) h) (within_spread low high (block_places b) h)
member_three t c k low high (syntax.Constructor x own brace parts end) h s =
    only_third low high (constructor_places t c k x own brace parts) (constructor_neat t c k x.name.token high brace own parts s)
    (same_within low high (constructor_places t c k x own brace parts) (first_calls t c k x.name.token own ++ written brace ∷ all_places parts) (in_turned (first_calls t c k x.name.token own) (written brace ∷ []) (all_places parts)) (within_spread low high _ h))
member_three t c k low high syntax.Member.Nothing h s = only_third low high [] tt (within_none low high)
member_three t c k low high syntax.Member.Unknown h s = only_third low high [] tt (within_none low high)

-- ---- what is written in a constructor stands behind its name

constructor_behind : (h : Header) (high : ℕ) (ps : Parts) → Row (h.name.token + 1) ps high → StandsBehind high (constructor_of h ps)
constructor_behind h high [] r = tt
constructor_behind h high (brace ∷ rest) r =
    let some : 1 ≤ width brace.entity = wide brace.entity r.1 in
    head_spread (h.name.token + 1) brace.at high Written _ r.0 (own_rows (brace.at + 1) rest high (row_wider (brace.at + 1) (brace.at + width brace.entity) rest high (omega arith) r.2))

either_behind : (high : ℕ) (b : Bool) (m n : Member) → StandsBehind high m → StandsBehind high n → StandsBehind high (if b then m else n)
either_behind high true m n h i = h
either_behind high false m n h i = i

behind_stands : (ms : List Placed) (low : ℕ) (ps : Parts) (high : ℕ) → Row low ps high → StandsBehind high (member_behind ms ps)
behind_stands ms low [] high r = tt
behind_stands ms low (x ∷ []) high r = tt
behind_stands ms low (x ∷ y ∷ []) high r = tt
behind_stands ms low (x ∷ y ∷ z ∷ rest) high r =
    let some : 1 ≤ width x.entity = wide x.entity r.1 in
    let second : x.at + width x.entity ≤ y.at = r.2.0 in
    either_behind high (is_params y.entity) (constructor_of (header ms x y (z ∷ rest)) (behind_throws (z ∷ rest)))
    (if is_params z.entity then syntax.Method (header ms y z rest) (result_of x) (body_of (behind_throws rest)) else syntax.Fields ms (type_at x) (declarators y.at y.entity))
    (constructor_behind (header ms x y (z ∷ rest)) high (behind_throws (z ∷ rest)) (throws_row (x.at + 1) (z ∷ rest) high (row_wider (x.at + 1) (y.at + width y.entity) (z ∷ rest) high (omega arith) r.2.2)))
    (either_behind high (is_params z.entity) (syntax.Method (header ms y z rest) (result_of x) (body_of (behind_throws rest))) (syntax.Fields ms (type_at x) (declarators y.at y.entity)) tt tt)

in_stands : (low : ℕ) (ps : Parts) (high : ℕ) → Row low ps high → StandsBehind high (member_in ps)
in_stands low [] high r = behind_stands (modifiers_of []) low (behind_modifiers []) high (modifiers_row low [] high r)
in_stands low (x ∷ []) high r = behind_stands (modifiers_of (x ∷ [])) low (behind_modifiers (x ∷ [])) high (modifiers_row low (x ∷ []) high r)
in_stands low (word ∷ p ∷ []) high r =
    either_behind high (is_block p.entity) (syntax.Initializer true (block p.at p.entity)) (member_behind (modifiers_of (word ∷ p ∷ [])) (behind_modifiers (word ∷ p ∷ []))) tt
    (behind_stands (modifiers_of (word ∷ p ∷ [])) low (behind_modifiers (word ∷ p ∷ [])) high (modifiers_row low (word ∷ p ∷ []) high r))
in_stands low (x ∷ y ∷ z ∷ rest) high r = behind_stands (modifiers_of (x ∷ y ∷ z ∷ rest)) low (behind_modifiers (x ∷ y ∷ z ∷ rest)) high (modifiers_row low (x ∷ y ∷ z ∷ rest) high r)

member_stands : (n : ℕ) (x : Ast) → Full x → StandsBehind (n + width x) (member_seen n x)
member_stands n (Leaf o) f = either_behind (n + 1) (is_leaf kinds.Semicolon (Leaf o)) syntax.Member.Nothing syntax.Member.Unknown tt tt
member_stands n (Node form.Block parts) f = tt
member_stands n (Node form.Member parts) f = in_stands n (placed n parts) (n + widths parts) (placed_row n parts (parts_full parts f))
member_stands n (Node g parts) f = tt

pub members_three : (t : Table) (c : ℕ) (k : ClassSyntax) (low : ℕ) (ps : Parts) (high : ℕ) → Row low ps high →
    Three low high (flat_map static_places (members_in ps)) (flat_map instance_places (members_in ps)) (flat_map (own_places t c k) (members_in ps))
unfolding members_in
members_three t c k low [] high r = only_third low high [] tt (within_none low high)
members_three t c k low (p ∷ []) high r = only_third low high [] tt (within_none low high)
members_three t c k low (p ∷ q ∷ rest) high r =
    let here : low ≤ p.at = r.0 in
    let there : p.at + width p.entity ≤ high = row_rises (p.at + width p.entity) (q ∷ rest) high r.2 in
    let m = member_seen p.at p.entity in
    let first = member_three t c k p.at (p.at + width p.entity) m (member_spread t c k p.at p.entity r.1) (member_stands p.at p.entity r.1) in
    three_both low (p.at + width p.entity) high (static_places m) (instance_places m) (own_places t c k m) (flat_map static_places (members_in (q ∷ rest))) (flat_map instance_places (members_in (q ∷ rest))) (flat_map (own_places t c k) (members_in (q ∷ rest)))
    (omega arith) there (three_wider p.at (p.at + width p.entity) low (static_places m) (instance_places m) (own_places t c k m) here first) (members_three t c k (p.at + width p.entity) (q ∷ rest) high r.2)
