-- The statements of the classes of a tree stand at its tokens, one after another: no two at one place.
use Rattle.std.proofs.Common.{◌≡◌, ◌∙◌, refl, sym, ap, subst, arith, ℕ, ◌+◌, ◌*◌, ◌<◌, ◌≤◌, Bool, true, false, if◌then◌else◌, List, [], ◌∷◌, ◌++◌}
use Rattle.std.specs.Prelude.{Option, Some, None, is_some, flat_map}
use Rattle.std.proofs.lemmas.Bool.{and_parts}
use Rattle.std.proofs.lemmas.List.{append-nil}
use Rattle.wy_tree.specs.Kinds.{kind_of, same}
use Rattle.wy_tree.specs.Grammar.{is_own}
use Rattle.wy_tree.specs.Conditions.{leaf_kind}
use Rattle.wy_tree.specs.Ast.{Ast, Asts, Leaf, Node}
use Rattle.wy_tree.specs.Ast as tree
use Rattle.wy_tree.specs.declared.kind.Kind.{Kind}
use Rattle.wy_tree.specs.declared.kind.Kind.TheVariants as kinds
use Rattle.wy_tree.specs.declared.tree.Form.TheVariants as form
use Rattle.wy_kernel.specs.Program.{first_source_class}
use Rattle.wy_kernel.specs.Table.{Table}
use Rattle.wy_syntax.specs.Syntax.{WrittenType, Declarator, Placed, OwnCall, Header, Member, ClassSyntax, Declaration}
use Rattle.wy_syntax.specs.Syntax as syntax
use Rattle.wy_syntax.specs.Names.{width, widths, is_leaf}
use Rattle.wy_syntax.specs.Expressions.{arguments_of}
use Rattle.wy_syntax.specs.Statements.{block, declarators, statement}
use Rattle.wy_syntax.specs.Declarations.{Part, Parts, placed, is_block, is_params, modifiers_of, behind_modifiers, is_modifier, is_throws, behind_throws, header, result_of, type_at, name_at, body_of, statements_in, is_arguments, begins_own_call, own_call_in, behind_own_call, constructor_of, member_behind, member_in, member_seen, members_in, behind_brace, superclass_in, implemented_in, class_behind, interface_behind, declaration, declarations, unit}
use Rattle.wy_elab_body.specs.declared.place.Place.{Place}
use Rattle.wy_elab_body.specs.declared.place.Role.{Role}
use Rattle.wy_elab_body.specs.declared.place.Role.TheVariants.{InitializerBody, FieldsBody, ConstructorBody, SuperCall, FieldsCall, Written}
use Rattle.wy_elab_body.specs.Places.{at, written, key_of, order_of, declarator_places, places, all_places, calls_superclass, has_fields_unit, declares_constructor, place_if, implied_calls, first_calls, initialized_places, member_places, implied_constructor_places, class_places, places_of}
use Rattle.wy_members.specs.Declarations.{class_by_class_from}
use Rattle.law_structure.proofs.Spread.{times, times_both, Once, none_once, one_once, both_once, wider_once, fewer_once, Spread, none_spread, one_spread, both_spread, wider_spread, head_spread}
use Rattle.law_structure.proofs.Trees.{Full, AllFull, parts_full, wide, declarators_spread, statement_spread, block_spread}
use Rattle.law_structure.proofs.Productions.{UnitFull}
use Rattle.law_structure.proofs.ClassMarks.{initialized_first}

-- ---- parts in a row

abbrev pub Row : ℕ → Parts → ℕ → Type 0
Row low [] high = low ≤ high
Row low (p ∷ rest) high = (low ≤ p.at) × Full p.entity × Row (p.at + width p.entity) rest high

pub row_rises : (low : ℕ) (ps : Parts) (high : ℕ) → Row low ps high → low ≤ high
row_rises low [] high h = h
row_rises low (p ∷ rest) high h =
    let here : low ≤ p.at = h.0 in
    let there : p.at + width p.entity ≤ high = row_rises (p.at + width p.entity) rest high h.2 in omega arith

pub row_wider : (less low : ℕ) (ps : Parts) (high : ℕ) → less ≤ low → Row low ps high → Row less ps high
row_wider less low [] high a h = let there : low ≤ high = h in omega arith
row_wider less low (p ∷ rest) high a h = let here : low ≤ p.at = h.0 in (omega arith, h.1, h.2)

-- without the first
pub row_behind : (low : ℕ) (p : Part) (rest : Parts) (high : ℕ) → Row low (p ∷ rest) high → Row low rest high
row_behind low p rest high h = let here : low ≤ p.at = h.0 in row_wider low (p.at + width p.entity) rest high (omega arith) h.2

-- with one more
pub row_with : (low : ℕ) (before : Parts) (middle : ℕ) (p : Part) → Row low before middle → middle ≤ p.at → Full p.entity → Row low (before ++ p ∷ []) (p.at + width p.entity)
row_with low [] middle p r less f = let there : low ≤ middle = r in (omega arith, f, omega arith)
row_with low (q ∷ before) middle p r less f = (r.0, r.1, row_with (q.at + width q.entity) before middle p r.2 less f)

pub row_longer : (low : ℕ) (ps : Parts) (high more : ℕ) → high ≤ more → Row low ps high → Row low ps more
row_longer low [] high more less r = let there : low ≤ high = r in omega arith
row_longer low (p ∷ rest) high more less r = (r.0, r.1, row_longer (p.at + width p.entity) rest high more less r.2)

pub placed_row : (n : ℕ) (ts : Asts) → AllFull ts → Row n (placed n ts) (n + widths ts)
unfolding placed
placed_row n tree.none f = let e : n ≤ n + 0 = omega arith in e
placed_row n (tree.more t rest) f =
    let P : ℕ → Type 0 = λ high. Row (n + width t) (placed (n + width t) rest) high in
    (omega arith, f.0, subst P (omega arith) (placed_row (n + width t) rest f.1))

pub modifiers_row : (low : ℕ) (ps : Parts) (high : ℕ) → Row low ps high → Row low (behind_modifiers ps) high
unfolding behind_modifiers
modifiers_row low [] high h = h
modifiers_row low (p ∷ rest) high h = elim (is_modifier p.entity) as (λ b. Row low (if b then behind_modifiers rest else p ∷ rest) high) [
  | true ↦ modifiers_row low rest high (row_behind low p rest high h)
  | false ↦ h
]

pub throws_row : (low : ℕ) (ps : Parts) (high : ℕ) → Row low ps high → Row low (behind_throws ps) high
throws_row low [] high h = h
throws_row low (p ∷ rest) high h = elim (is_throws p.entity) as (λ b. Row low (if b then rest else p ∷ rest) high) [
  | true ↦ row_behind low p rest high h
  | false ↦ h
]

pub brace_row : (low : ℕ) (ps : Parts) (high : ℕ) → Row low ps high → Row low (behind_brace ps) high
unfolding behind_brace
brace_row low [] high h = h
brace_row low (p ∷ rest) high h = elim (is_leaf kinds.OpenBrace p.entity) as (λ b. Row low (if b then rest else behind_brace rest) high) [
  | true ↦ row_behind low p rest high h
  | false ↦ brace_row low rest high (row_behind low p rest high h)
]

-- ---- what is given first

place_if_once : (low high : ℕ) (b : Bool) (n : ℕ) (role : Role) → low ≤ key_of (at n role) → key_of (at n role) < high → Once low high (place_if b n role)
place_if_once low high true n role h i = one_once low high (at n role) h i
place_if_once low high false n role h i = none_once low high (omega arith)

no_more_places : (k : ℕ) (b : Bool) (q : Place) → times k (place_if b q.site q.role) ≤ times k (at q.site q.role ∷ [])
no_more_places k true q = omega arith
no_more_places k false q = omega arith

fewer_sum : (x y a b s t : ℕ) → s ≡ x + a → t ≡ y + b → x ≤ y → a ≤ b → s ≤ t
fewer_sum x y a b s t e f h i = omega arith

pub initialized_fewer : (n : ℕ) (all : List Declarator) → times n (initialized_places all) ≤ times n (declarator_places all)
initialized_fewer n [] = omega arith
initialized_fewer n (d ∷ rest) =
    fewer_sum (times n (place_if (is_some d.initial) d.name.token Written)) (times n (written d.name.token ∷ [])) (times n (initialized_places rest)) (times n (declarator_places rest)) _ _
    (ap (times n) (initialized_first d rest) ∙ times_both n (place_if (is_some d.initial) d.name.token Written) (initialized_places rest))
    (times_both n (written d.name.token ∷ []) (declarator_places rest))
    (no_more_places n (is_some d.initial) (written d.name.token)) (initialized_fewer n rest)

initialized_spread : (low high : ℕ) (all : List Declarator) → Spread low high (declarator_places all) → Spread low high (initialized_places all)
initialized_spread low high all h = fewer_once (8 * low) (8 * high) (initialized_places all) (declarator_places all) (λ n. initialized_fewer n all) h

-- ---- constructors

implied_once : (n : ℕ) (a b : Bool) → Once (8 * n + 3) (8 * (n + 1)) (place_if a n SuperCall ++ place_if b n FieldsCall)
unfolding order_of
implied_once n a b =
    both_once (8 * n + 3) (8 * n + 4) (8 * (n + 1)) (place_if a n SuperCall) (place_if b n FieldsCall)
    (place_if_once (8 * n + 3) (8 * n + 4) a n SuperCall (omega arith) (omega arith)) (place_if_once (8 * n + 4) (8 * (n + 1)) b n FieldsCall (omega arith) (omega arith))

implied_spread : (n : ℕ) (a b : Bool) → Spread n (n + 1) (place_if a n SuperCall ++ place_if b n FieldsCall)
implied_spread n a b = wider_once (8 * n + 3) (8 * (n + 1)) (8 * n) (8 * (n + 1)) _ (omega arith) (omega arith) (implied_once n a b)

fields_spread : (n : ℕ) (b : Bool) → Spread n (n + 1) (place_if b n FieldsCall)
unfolding order_of
fields_spread n b = place_if_once (8 * n) (8 * (n + 1)) b n FieldsCall (omega arith) (omega arith)

-- the call that is written at the head
abbrev pub own_front : Option OwnCall → List Place
own_front None = []
own_front (Some call) = written call.token ∷ []

moved : (some call fields brace rest left head right all behind last : ℕ) → some ≤ call → left ≡ head + right → head ≡ some + fields → right ≡ brace + rest → all ≡ fields + behind → behind ≡ brace + last → last ≡ call + rest → left ≤ all
moved some call fields brace rest left head right all behind last less a b c d e f = omega arith

swapped : (call brace rest left right all last : ℕ) → left ≡ call + right → right ≡ brace + rest → all ≡ brace + last → last ≡ call + rest → left ≤ all
swapped call brace rest left right all last a b c d = omega arith

past : (p w q u r v : ℕ) → 1 ≤ w → p + w ≤ q → q + u ≤ r → p + 1 ≤ r + v
past p w q u r v a b c = omega arith

own_choice : (low high : ℕ) (b : Bool) (call : OwnCall) (n : ℕ) → call.token ≡ n → (qs : List Place) → (b ≡ true → Spread low high (written n ∷ qs)) → (b ≡ false → Spread low high qs) → Spread low high (own_front (if b then Some call else None) ++ qs)
own_choice low high true call n e qs h i = let P : ℕ → Type 0 = λ k. Spread low high (written k ∷ qs) in subst P (sym e) (h refl)
own_choice low high false call n e qs h i = i refl

other_order : (n : ℕ) (some call fs : List Place) (brace : ℕ) (qs : List Place) → times n some ≤ times n call → times n ((some ++ fs) ++ written brace ∷ qs) ≤ times n (fs ++ written brace ∷ (call ++ qs))
other_order n some call fs brace qs less =
    let front = written brace ∷ [] in
    let a : times n ((some ++ fs) ++ (front ++ qs)) ≡ times n (some ++ fs) + times n (front ++ qs) = times_both n (some ++ fs) (front ++ qs) in
    let b : times n (some ++ fs) ≡ times n some + times n fs = times_both n some fs in
    let c : times n (front ++ qs) ≡ times n front + times n qs = times_both n front qs in
    let d : times n (fs ++ (front ++ (call ++ qs))) ≡ times n fs + times n (front ++ (call ++ qs)) = times_both n fs (front ++ (call ++ qs)) in
    let e : times n (front ++ (call ++ qs)) ≡ times n front + times n (call ++ qs) = times_both n front (call ++ qs) in
    let f : times n (call ++ qs) ≡ times n call + times n qs = times_both n call qs in
    moved (times n some) (times n call) (times n fs) (times n front) (times n qs) _ _ _ _ _ _ less a b c d e f

first_two : (n : ℕ) (call front qs : List Place) → times n (call ++ (front ++ qs)) ≤ times n (front ++ (call ++ qs))
first_two n call front qs = swapped (times n call) (times n front) (times n qs) _ _ _ _ (times_both n call (front ++ qs)) (times_both n front qs) (times_both n front (call ++ qs)) (times_both n call qs)

with_calls : (t : Table) (c : ℕ) (k : ClassSyntax) (site brace high : ℕ) (own : Option OwnCall) (qs : List Place) → site < brace → Spread (brace + 1) high (own_front own ++ qs) → Spread site high (first_calls t c k site own ++ written brace ∷ qs)
with_calls t c k site brace high None qs less h =
    let rising : 8 * (brace + 1) ≤ 8 * high = h.rising in
    both_spread site (site + 1) high (implied_calls t c k site) (written brace ∷ qs) (implied_spread site (calls_superclass t c) (has_fields_unit k))
    (head_spread (site + 1) brace high Written qs (omega arith) h)
with_calls t c k site brace high (Some call) qs less h =
    let rising : 8 * (brace + 1) ≤ 8 * high = h.rising in
    let b = calls_superclass t c in
    let fs = place_if (has_fields_unit k) site FieldsCall in
    elim call.is_super as (λ s. Spread site high ((if s then place_if b call.token Written ++ fs else written call.token ∷ []) ++ written brace ∷ qs)) [
      | true ↦ fewer_once (8 * site) (8 * high) _ (fs ++ written brace ∷ (written call.token ∷ qs))
          (λ n. other_order n (place_if b call.token Written) (written call.token ∷ []) fs brace qs (no_more_places n b (written call.token)))
          (both_spread site (site + 1) high fs (written brace ∷ (written call.token ∷ qs)) (fields_spread site (has_fields_unit k)) (head_spread (site + 1) brace high Written (written call.token ∷ qs) (omega arith) h))
      | false ↦ fewer_once (8 * site) (8 * high) _ (written brace ∷ (written call.token ∷ qs))
          (λ n. first_two n (written call.token ∷ []) (written brace ∷ []) qs)
          (head_spread site brace high Written (written call.token ∷ qs) (omega arith) h)
    ]

own_kind : (k : Kind) → is_own k ≡ true → same k kinds.Semicolon ≡ false
own_kind kinds.Semicolon e = absurd cc
own_kind _ e = refl

own_nothing : (n : ℕ) (t : Ast) → is_own (leaf_kind t) ≡ true → places (statement n t) ≡ []
unfolding statement places
own_nothing n (Leaf o) e = elim (same (kind_of o) kinds.Semicolon) as (λ b. b ≡ false → places (if b then syntax.Empty n else syntax.Unknown) ≡ []) [ true ↦ λ c. absurd cc | false ↦ λ c. refl ] (own_kind (kind_of o) e)
own_nothing n (Node f parts) e = absurd cc

statements_in_spread : (low : ℕ) (ps : Parts) (high : ℕ) → Row low ps high → Spread low high (all_places (statements_in ps))
unfolding statements_in all_places
statements_in_spread low [] high h = none_spread low high h
statements_in_spread low (p ∷ []) high h = none_spread low high (row_rises low (p ∷ []) high h)
statements_in_spread low (p ∷ q ∷ rest) high h =
    let here : low ≤ p.at = h.0 in
    both_spread low (p.at + width p.entity) high (places (statement p.at p.entity)) (all_places (statements_in (q ∷ rest)))
    (wider_spread p.at (p.at + width p.entity) low (p.at + width p.entity) _ (omega arith) (omega arith) (statement_spread p.at p.entity h.1)) (statements_in_spread (p.at + width p.entity) (q ∷ rest) high h.2)

-- `this` or `super` alone is no statement
lone_call : (low : ℕ) (p q : Part) (high : ℕ) → Row low (p ∷ q ∷ []) high → begins_own_call (p ∷ q ∷ []) ≡ true → Spread low high (written p.at ∷ all_places (statements_in (p ∷ q ∷ [])))
unfolding statements_in all_places
lone_call low p q high h e =
    let here : low ≤ p.at = h.0 in
    let there : p.at + width p.entity ≤ high = row_rises (p.at + width p.entity) (q ∷ []) high h.2 in
    let some : 1 ≤ width p.entity = wide p.entity h.1 in
    let P : List Place → Type 0 = λ xs. Spread low high (written p.at ∷ (xs ++ [])) in
    subst P (sym (own_nothing p.at p.entity (and_parts (is_own (leaf_kind p.entity)) (is_arguments q.entity) e).0)) (one_spread low high p.at Written (omega arith) (omega arith))

pub own_rows : (low : ℕ) (ps : Parts) (high : ℕ) → Row low ps high → Spread low high (own_front (own_call_in ps) ++ all_places (statements_in (behind_own_call ps)))
own_rows low [] high h = statements_in_spread low [] high h
own_rows low (p ∷ []) high h = statements_in_spread low (p ∷ []) high h
own_rows low (p ∷ q ∷ []) high h =
    own_choice low high (begins_own_call (p ∷ q ∷ [])) _ p.at refl (all_places (statements_in (p ∷ q ∷ []))) (lone_call low p q high h) (λ e. statements_in_spread low (p ∷ q ∷ []) high h)
own_rows low (p ∷ q ∷ r ∷ rest) high h =
    let here : low ≤ p.at = h.0 in
    let some : 1 ≤ width p.entity = wide p.entity h.1 in
    let next : p.at + width p.entity ≤ q.at = h.2.0 in
    elim (begins_own_call (p ∷ q ∷ r ∷ rest)) as (λ b. Spread low high (own_front (if b then Some (record { is_super = is_leaf kinds.Super p.entity; args = arguments_of q.at q.entity; paren = q.at; token = p.at }) else None) ++ all_places (statements_in (if b then rest else p ∷ q ∷ r ∷ rest)))) [
      | true ↦ head_spread low p.at high Written (all_places (statements_in rest)) (omega arith)
          (statements_in_spread (p.at + 1) rest high (row_wider (p.at + 1) (r.at + width r.entity) rest high (past p.at (width p.entity) q.at (width q.entity) r.at (width r.entity) some next h.2.2.0) h.2.2.2))
      | false ↦ statements_in_spread low (p ∷ q ∷ r ∷ rest) high h
    ]

constructor_spread : (t : Table) (c : ℕ) (k : ClassSyntax) (h : Header) (high : ℕ) (ps : Parts) → Row (h.name.token + 1) ps high → Spread h.name.token high (member_places t c k (constructor_of h ps))
unfolding member_places
constructor_spread t c k h high [] r = none_spread h.name.token high (omega (arith, row_rises (h.name.token + 1) [] high r))
constructor_spread t c k h high (brace ∷ rest) r =
    let here : h.name.token + 1 ≤ brace.at = r.0 in
    let some : 1 ≤ width brace.entity = wide brace.entity r.1 in
    with_calls t c k h.name.token brace.at high (own_call_in rest) (all_places (statements_in (behind_own_call rest))) (omega arith)
    (own_rows (brace.at + 1) rest high (row_wider (brace.at + 1) (brace.at + width brace.entity) rest high (omega arith) r.2))

-- ---- members

body_spread : (t : Table) (c : ℕ) (k : ClassSyntax) (h : Header) (result : Option WrittenType) (low : ℕ) (ps : Parts) (high : ℕ) → Row low ps high → Spread low high (member_places t c k (syntax.Method h result (body_of ps)))
unfolding member_places
body_spread t c k h result low [] high r = none_spread low high r
body_spread t c k h result low (p ∷ []) high r =
    let here : low ≤ p.at = r.0 in
    let there : p.at + width p.entity ≤ high = r.2 in
    elim (is_block p.entity) as (λ b. Spread low high (member_places t c k (syntax.Method h result (if b then Some (block p.at p.entity) else None)))) [
      | true ↦ wider_spread p.at (p.at + width p.entity) low high _ (omega arith) (omega arith) (block_spread p.at p.entity r.1)
      | false ↦ none_spread low high (omega arith)
    ]
body_spread t c k h result low (p ∷ q ∷ rest) high r = none_spread low high (row_rises low (p ∷ q ∷ rest) high r)

abbrev MemberSpreads : Table → ℕ → ClassSyntax → ℕ → ℕ → Member → Type 0
MemberSpreads t c k low high m = Spread low high (member_places t c k m)

one_member : (t : Table) (c : ℕ) (k : ClassSyntax) (low high : ℕ) (b : Bool) (m n : Member) → MemberSpreads t c k low high m → MemberSpreads t c k low high n → MemberSpreads t c k low high (if b then m else n)
one_member t c k low high true m n h i = h
one_member t c k low high false m n h i = i

behind_spread : (t : Table) (c : ℕ) (k : ClassSyntax) (ms : List Placed) (low : ℕ) (ps : Parts) (high : ℕ) → Row low ps high → MemberSpreads t c k low high (member_behind ms ps)
unfolding member_places
behind_spread t c k ms low [] high r = none_spread low high r
behind_spread t c k ms low (x ∷ []) high r = none_spread low high (row_rises low (x ∷ []) high r)
behind_spread t c k ms low (x ∷ y ∷ []) high r = none_spread low high (row_rises low (x ∷ y ∷ []) high r)
behind_spread t c k ms low (x ∷ y ∷ z ∷ rest) high r =
    let first : low ≤ x.at = r.0 in
    let some : 1 ≤ width x.entity = wide x.entity r.1 in
    let second : x.at + width x.entity ≤ y.at = r.2.0 in
    let there : y.at + width y.entity ≤ high = row_rises (y.at + width y.entity) (z ∷ rest) high r.2.2 in
    one_member t c k low high (is_params y.entity) (constructor_of (header ms x y (z ∷ rest)) (behind_throws (z ∷ rest)))
    (if is_params z.entity then syntax.Method (header ms y z rest) (result_of x) (body_of (behind_throws rest)) else syntax.Fields ms (type_at x) (declarators y.at y.entity))
    (wider_spread x.at high low high _ (omega arith) (omega arith)
    (constructor_spread t c k (header ms x y (z ∷ rest)) high (behind_throws (z ∷ rest)) (throws_row (x.at + 1) (z ∷ rest) high (row_wider (x.at + 1) (y.at + width y.entity) (z ∷ rest) high (omega arith) r.2.2))))
    (one_member t c k low high (is_params z.entity) (syntax.Method (header ms y z rest) (result_of x) (body_of (behind_throws rest))) (syntax.Fields ms (type_at x) (declarators y.at y.entity))
    (body_spread t c k (header ms y z rest) (result_of x) low (behind_throws rest) high (throws_row low rest high (row_wider low (y.at + width y.entity) rest high (omega arith) (row_behind (y.at + width y.entity) z rest high r.2.2))))
    (initialized_spread low high (declarators y.at y.entity) (wider_spread y.at (y.at + width y.entity) low high _ (omega arith) (omega arith) (declarators_spread y.at y.entity r.2.1))))

in_spread : (t : Table) (c : ℕ) (k : ClassSyntax) (low : ℕ) (ps : Parts) (high : ℕ) → Row low ps high → MemberSpreads t c k low high (member_in ps)
unfolding member_places
in_spread t c k low [] high r = behind_spread t c k (modifiers_of []) low (behind_modifiers []) high (modifiers_row low [] high r)
in_spread t c k low (x ∷ []) high r = behind_spread t c k (modifiers_of (x ∷ [])) low (behind_modifiers (x ∷ [])) high (modifiers_row low (x ∷ []) high r)
in_spread t c k low (word ∷ p ∷ []) high r =
    let first : low ≤ word.at = r.0 in
    let second : word.at + width word.entity ≤ p.at = r.2.0 in
    let there : p.at + width p.entity ≤ high = r.2.2 in
    one_member t c k low high (is_block p.entity) (syntax.Initializer true (block p.at p.entity)) (member_behind (modifiers_of (word ∷ p ∷ [])) (behind_modifiers (word ∷ p ∷ [])))
    (wider_spread p.at (p.at + width p.entity) low high _ (omega arith) (omega arith) (block_spread p.at p.entity r.2.1))
    (behind_spread t c k (modifiers_of (word ∷ p ∷ [])) low (behind_modifiers (word ∷ p ∷ [])) high (modifiers_row low (word ∷ p ∷ []) high r))
in_spread t c k low (x ∷ y ∷ z ∷ rest) high r = behind_spread t c k (modifiers_of (x ∷ y ∷ z ∷ rest)) low (behind_modifiers (x ∷ y ∷ z ∷ rest)) high (modifiers_row low (x ∷ y ∷ z ∷ rest) high r)

pub member_spread : (t : Table) (c : ℕ) (k : ClassSyntax) (n : ℕ) (x : Ast) → Full x → MemberSpreads t c k n (n + width x) (member_seen n x)
unfolding member_places
member_spread t c k n (Leaf o) f = one_member t c k n (n + 1) (is_leaf kinds.Semicolon (Leaf o)) syntax.Member.Nothing syntax.Member.Unknown (none_spread n (n + 1) (omega arith)) (none_spread n (n + 1) (omega arith))
member_spread t c k n (Node form.Block parts) f = block_spread n (Node form.Block parts) f
member_spread t c k n (Node form.Member parts) f = in_spread t c k n (placed n parts) (n + widths parts) (placed_row n parts (parts_full parts f))
member_spread t c k n (Node g parts) f = none_spread n (n + widths parts) (omega arith)

pub members_spread : (t : Table) (c : ℕ) (k : ClassSyntax) (low : ℕ) (ps : Parts) (high : ℕ) → Row low ps high → Spread low high (flat_map (member_places t c k) (members_in ps))
unfolding members_in
members_spread t c k low [] high r = none_spread low high r
members_spread t c k low (p ∷ []) high r = none_spread low high (row_rises low (p ∷ []) high r)
members_spread t c k low (p ∷ q ∷ rest) high r =
    let here : low ≤ p.at = r.0 in
    both_spread low (p.at + width p.entity) high (member_places t c k (member_seen p.at p.entity)) (flat_map (member_places t c k) (members_in (q ∷ rest)))
    (wider_spread p.at (p.at + width p.entity) low (p.at + width p.entity) _ (omega arith) (omega arith) (member_spread t c k p.at p.entity r.1)) (members_spread t c k (p.at + width p.entity) (q ∷ rest) high r.2)

-- ---- classes

constructor_once : (t : Table) (c : ℕ) (k : ClassSyntax) → Once (8 * k.name.token + 2) (8 * (k.name.token + 1)) (implied_constructor_places t c k)
unfolding order_of
constructor_once t c k =
    let n = k.name.token in
    elim (declares_constructor k) as (λ b. Once (8 * n + 2) (8 * (n + 1)) (if b then [] else at n ConstructorBody ∷ implied_calls t c k n)) [
      | true ↦ none_once (8 * n + 2) (8 * (n + 1)) (omega arith)
      | false ↦ both_once (8 * n + 2) (8 * n + 3) (8 * (n + 1)) (at n ConstructorBody ∷ []) (implied_calls t c k n)
          (one_once (8 * n + 2) (8 * n + 3) (at n ConstructorBody) (omega arith) (omega arith)) (implied_once n (calls_superclass t c) (has_fields_unit k))
    ]

class_spread : (t : Table) (c : ℕ) (k : ClassSyntax) (high : ℕ) → Spread (k.name.token + 1) high (flat_map (member_places t c k) k.members) → Spread k.name.token high (class_places t c k)
unfolding class_places order_of
class_spread t c k high h =
    let n = k.name.token in
    let rising : 8 * (n + 1) ≤ 8 * high = h.rising in
    let members = flat_map (member_places t c k) k.members in
    let fs = place_if (has_fields_unit k) n FieldsBody in
    let all = at n InitializerBody ∷ (fs ++ implied_constructor_places t c k ++ members) in
    let own : Spread n high all =
    both_once (8 * n) (8 * n + 1) (8 * high) (at n InitializerBody ∷ []) (fs ++ implied_constructor_places t c k ++ members)
    (one_once (8 * n) (8 * n + 1) (at n InitializerBody) (omega arith) (omega arith))
    (both_once (8 * n + 1) (8 * (n + 1)) (8 * high) (fs ++ implied_constructor_places t c k) members
    (both_once (8 * n + 1) (8 * n + 2) (8 * (n + 1)) fs (implied_constructor_places t c k) (place_if_once (8 * n + 1) (8 * n + 2) (has_fields_unit k) n FieldsBody (omega arith) (omega arith)) (constructor_once t c k)) h) in
    elim k.is_interface as (λ b. Spread n high (if b then [] else all)) [
      | true ↦ none_spread n high (omega arith)
      | false ↦ own
    ]

abbrev ClassesSpread : Table → ℕ → ℕ → ℕ → Declaration → Type 0
ClassesSpread t c low high d = Spread low high (class_by_class_from (class_places t) c (d ∷ []))

alone_in_list : (low high : ℕ) (qs : List Place) → Spread low high qs → Spread low high (qs ++ [])
alone_in_list low high qs h = let P : List Place → Type 0 = λ xs. Spread low high xs in subst P (sym (append-nil qs)) h

class_behind_spread : (t : Table) (c : ℕ) (ms : List Placed) (end low : ℕ) (ps : Parts) (high : ℕ) → Row low ps high → ClassesSpread t c low high (class_behind ms end ps)
class_behind_spread t c ms end low [] high r = none_spread low high r
class_behind_spread t c ms end low (x ∷ []) high r = none_spread low high (row_rises low (x ∷ []) high r)
class_behind_spread t c ms end low (word ∷ x ∷ rest) high r =
    let k : ClassSyntax = record { is_interface = false; modifiers = ms; name = name_at x; above = superclass_in rest; interfaces = implemented_in rest; members = members_in (behind_brace rest); end = end } in
    let first : low ≤ word.at = r.0 in
    let second : word.at + width word.entity ≤ x.at = r.2.0 in
    let some : 1 ≤ width x.entity = wide x.entity r.2.1 in
    let qs = class_places t c k in
    alone_in_list low high qs
    (wider_spread x.at high low high qs (omega arith) (omega arith)
    (class_spread t c k high (members_spread t c k (x.at + 1) (behind_brace rest) high (row_wider (x.at + 1) (x.at + width x.entity) (behind_brace rest) high (omega arith) (brace_row (x.at + width x.entity) rest high r.2.2)))))

interface_behind_spread : (t : Table) (c : ℕ) (ms : List Placed) (end low : ℕ) (ps : Parts) (high : ℕ) → Row low ps high → ClassesSpread t c low high (interface_behind ms end ps)
unfolding class_places
interface_behind_spread t c ms end low [] high r = none_spread low high r
interface_behind_spread t c ms end low (x ∷ []) high r = none_spread low high (row_rises low (x ∷ []) high r)
interface_behind_spread t c ms end low (word ∷ x ∷ rest) high r = none_spread low high (row_rises low (word ∷ x ∷ rest) high r)

declaration_spread : (t : Table) (c n : ℕ) (x : Ast) → Full x → ClassesSpread t c n (n + width x) (declaration n x)
declaration_spread t c n (Leaf o) f = elim (is_leaf kinds.Semicolon (Leaf o)) as (λ b. ClassesSpread t c n (n + 1) (if b then syntax.Declaration.Nothing else syntax.Declaration.Unknown)) [
  | true ↦ none_spread n (n + 1) (omega arith)
  | false ↦ none_spread n (n + 1) (omega arith)
]
declaration_spread t c n (Node form.Class parts) f = class_behind_spread t c _ _ n (behind_modifiers (placed n parts)) (n + widths parts) (modifiers_row n (placed n parts) (n + widths parts) (placed_row n parts (parts_full parts f)))
declaration_spread t c n (Node form.Interface parts) f = interface_behind_spread t c _ _ n (behind_modifiers (placed n parts)) (n + widths parts) (modifiers_row n (placed n parts) (n + widths parts) (placed_row n parts (parts_full parts f)))
declaration_spread t c n (Node g parts) f = none_spread n (n + widths parts) (omega arith)

-- ---- a whole text

split_classes : (t : Table) (c : ℕ) (d : Declaration) (rest : List Declaration) (low middle high : ℕ) → ((n : ℕ) → ClassesSpread t n low middle d) → ((n : ℕ) → Spread middle high (class_by_class_from (class_places t) n rest)) → Spread low high (class_by_class_from (class_places t) c (d ∷ rest))
split_classes t c (syntax.Declaration.Declared k) rest low middle high h i =
    both_spread low middle high (class_places t c k) (class_by_class_from (class_places t) (c + 1) rest) (let P : List Place → Type 0 = λ xs. Spread low middle xs in subst P (append-nil (class_places t c k)) (h c)) (i (c + 1))
split_classes t c syntax.Declaration.Nothing rest low middle high h i = let rising : 8 * low ≤ 8 * middle = (h c).rising in wider_spread middle high low high _ (omega arith) (omega arith) (i c)
split_classes t c syntax.Declaration.Unknown rest low middle high h i = let rising : 8 * low ≤ 8 * middle = (h c).rising in wider_spread middle high low high _ (omega arith) (omega arith) (i c)

declarations_spread : (t : Table) (n : ℕ) (parts : Asts) → AllFull parts → (c : ℕ) → Spread n (n + widths parts) (class_by_class_from (class_places t) c (declarations n parts))
unfolding declarations
declarations_spread t n tree.none f c = none_spread n (n + 0) (omega arith)
declarations_spread t n (tree.more x rest) f c =
    split_classes t c (declaration n x) (declarations (n + width x) rest) n (n + width x) (n + (width x + widths rest)) (λ k. declaration_spread t k n x f.0)
    (λ k. wider_spread (n + width x) (n + width x + widths rest) (n + width x) (n + (width x + widths rest)) _ (omega arith) (omega arith) (declarations_spread t (n + width x) rest f.1 k))

pub unit_spread : (t : Table) (n : ℕ) (x : Ast) → UnitFull x → Spread n (n + width x) (places_of t (unit n x))
unit_spread t n (Leaf o) f = declaration_spread t first_source_class n (Leaf o) tt
unit_spread t n (Node form.Unit parts) f = declarations_spread t n parts f first_source_class
unit_spread t n (Node g parts) f = declaration_spread t first_source_class n (Node g parts) f
