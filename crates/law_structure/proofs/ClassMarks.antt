-- The bodies of each class have the numbers and the sites of its places.
use Rattle.std.proofs.Common.{◌≡◌, ◌∙◌, refl, sym, ap, ℕ, Bool, true, false, not, if◌then◌else◌, List, [], ◌∷◌, ◌++◌}
use Rattle.std.specs.Prelude.{Option, Some, None, is_some, map, flat_map, filter}
use Rattle.std.proofs.lemmas.List.{append-nil, append_assoc}
use Rattle.std.proofs.lemmas.List.Concat.{flat_map-append}
use Rattle.wy_kernel.specs.declared.types.Ty.{Ty}
use Rattle.wy_kernel.specs.Form as kernel
use Rattle.wy_kernel.specs.Program.{Body}
use Rattle.wy_kernel.specs.Table.{Table}
use Rattle.wy_kernel.specs.Statements as inner
use Rattle.wy_kernel.specs.Statements.{statements_of_body, statements_of_bodies}
use Rattle.wy_syntax.specs.Syntax.{Named, WrittenType, Declarator, Initial, Braced, braced, Statements, OwnCall, Header, Member, ClassSyntax}
use Rattle.wy_syntax.specs.Syntax as source
use Rattle.wy_elab_expr.specs.Elaboration.{initialized}
use Rattle.wy_elab_expr.specs.Meaning.{Gets}
use Rattle.wy_elab_expr.specs.Meaning as found
use Rattle.wy_elab_body.specs.declared.place.Place.{Place}
use Rattle.wy_elab_body.specs.declared.place.Role.{Role}
use Rattle.wy_elab_body.specs.declared.place.Role.TheVariants.{InitializerBody, FieldsBody, ConstructorBody, SuperCall, FieldsCall, Written}
use Rattle.wy_elab_body.specs.Places.{at, written, number_at, block_places, all_places, calls_superclass, has_fields_unit, declares_constructor, place_if, implied_calls, initialized_places}
use Rattle.wy_elab_body.specs.Places as place
use Rattle.wy_elab_body.specs.Making.{Making, Makes, give, ◌>>=◌, expressed, each, begun, resumed}
use Rattle.wy_elab_body.specs.Parts.{NoValue, constructor_called, constructor_call, object_called}
use Rattle.wy_elab_body.specs.Jumps.{alone, inside}
use Rattle.wy_elab_body.specs.Statements.{Setting, number, plain, block, statements, joined, row_of}
use Rattle.wy_elab_body.specs.Bodies.{Growing, Growth, body_of, end_of, implied, declared_type, parameters, outcome_of, brace_of, method_block, superclass_of, implied_super_call, implied_fields_call, own_call, no_call, written_super_call, first_calls, constructor_block, implied_constructor_block, around_initializer, assigned_first, field_initial, field_initials, initializer_block, implied_body}
use Rattle.wy_elab_stmt.specs.Classes.{ClassBodies, whole, with_body, grown, in_initializer, in_fields, is_static, member, members, implied_constructor, none_yet, fields_body, finished, of_class, of_interface, class_bodies}
use Rattle.law_structure.proofs.Yields.{Yields, given, weaker, and_then, behind, then_found, of_either, of_resumed}
use Rattle.law_structure.proofs.Marks.{mark_of, mark_at, Marked, both_marked, head_marked, Stands, AllStand, RowStands, row_stands, joined_stands, alone_stands, block_stands, statements_stand}

pub all_both : (w : Setting) (qs rs : List Place) (xs ys : List kernel.Statement) → AllStand w qs xs → AllStand w rs ys → AllStand w (qs ++ rs) (xs ++ ys)
all_both w qs rs xs ys h i = ap (map mark_of) (flat_map-append inner.statements xs ys) ∙ both_marked w qs rs (flat_map inner.statements xs) (flat_map inner.statements ys) h i

one_or_none : (w : Setting) (site : ℕ) (b : Bool) (x : kernel.Statement) → AllStand w (at site FieldsCall ∷ []) (x ∷ []) → AllStand w (place_if b site FieldsCall) (if b then x ∷ [] else [])
one_or_none w site true x h = h
one_or_none w site false x h = refl

method_stands : (w : Setting) (h : Header) (result : Option WrittenType) (b : Braced) → Yields (method_block w h result b) (Stands w (block_places b))
unfolding method_block
method_stands w h result b =
    behind (outcome_of w result) _ (Stands w (block_places b)) (λ outcome.
    behind (parameters w h.params) _ (Stands w (block_places b)) (λ params.
    block_stands w (alone (number w (brace_of b)) outcome) b))

-- ---- calls at the head of a constructor

super_stands : (w : Setting) (c site : ℕ) → Yields (implied_super_call w c site) (AllStand w (place_if (calls_superclass w.table c) site SuperCall))
unfolding implied_super_call
super_stands w c site =
    of_either (calls_superclass w.table c) _ (give []) (λ b. AllStand w (place_if b site SuperCall))
    (behind (expressed (constructor_called w.judgement w.table (superclass_of w c) [] site)) (λ e. give (implied w site SuperCall (kernel.Eval e) ∷ [])) (AllStand w (at site SuperCall ∷ [])) (λ e.
    given (AllStand w (at site SuperCall ∷ [])) (implied w site SuperCall (kernel.Eval e) ∷ []) refl))
    (given (AllStand w []) [] refl)

fields_call_stands : (w : Setting) (c : ℕ) (k : ClassSyntax) (site : ℕ) → AllStand w (place_if (has_fields_unit k) site FieldsCall) (implied_fields_call w c k site)
unfolding implied_fields_call
fields_call_stands w c k site = one_or_none w site (has_fields_unit k) (implied w site FieldsCall _) refl

own_stands : (w : Setting) (c d : ℕ) (call : OwnCall) → Yields (own_call w c d call) (AllStand w (written call.token ∷ []))
unfolding own_call
own_stands w c d call =
    behind (expressed (constructor_call w.judgement w.table d call.args call.paren)) (λ e. give (plain w call.token true (kernel.Eval e) ∷ [])) (AllStand w (written call.token ∷ [])) (λ e.
    given (AllStand w (written call.token ∷ [])) (plain w call.token true (kernel.Eval e) ∷ []) refl)

none_stand : (w : Setting) (call : OwnCall) → Yields (no_call w call) (AllStand w [])
unfolding no_call
none_stand w call = behind (expressed (object_called w.judgement w.table call.args call.paren)) (λ x. give []) (AllStand w []) (λ x. given (AllStand w []) [] refl)

written_super_stands : (w : Setting) (c : ℕ) (call : OwnCall) → Yields (written_super_call w c call) (AllStand w (place_if (calls_superclass w.table c) call.token Written))
unfolding written_super_call
written_super_stands w c call =
    of_either (calls_superclass w.table c) (own_call w c (superclass_of w c) call) (no_call w call) (λ b. AllStand w (place_if b call.token Written)) (own_stands w c (superclass_of w c) call) (none_stand w call)

with_fields : (w : Setting) (c : ℕ) (k : ClassSyntax) (site : ℕ) (qs : List Place) (f : Makes (List kernel.Statement)) → Yields f (AllStand w qs) → Yields (f >>= λ xs. give (xs ++ implied_fields_call w c k site)) (AllStand w (qs ++ place_if (has_fields_unit k) site FieldsCall))
with_fields w c k site qs f h =
    let rs = place_if (has_fields_unit k) site FieldsCall in
    and_then f (λ xs. give (xs ++ implied_fields_call w c k site)) (AllStand w qs) (AllStand w (qs ++ rs)) h (λ xs i.
    given (AllStand w (qs ++ rs)) (xs ++ implied_fields_call w c k site) (all_both w qs rs xs (implied_fields_call w c k site) i (fields_call_stands w c k site)))

calls_stand : (w : Setting) (c : ℕ) (k : ClassSyntax) (site : ℕ) (own : Option OwnCall) → Yields (first_calls w c k site own) (AllStand w (place.first_calls w.table c k site own))
unfolding first_calls
calls_stand w c k site None = with_fields w c k site (place_if (calls_superclass w.table c) site SuperCall) (implied_super_call w c site) (super_stands w c site)
calls_stand w c k site (Some call) =
    of_either call.is_super _ (own_call w c c call) (λ b. AllStand w (if b then place_if (calls_superclass w.table c) call.token Written ++ place_if (has_fields_unit k) site FieldsCall else written call.token ∷ []))
    (with_fields w c k site (place_if (calls_superclass w.table c) call.token Written) (written_super_call w c call) (written_super_stands w c call)) (own_stands w c c call)

-- the block of a constructor, the calls at its head and what is written in it
abbrev pub constructor_places : Table → ℕ → ClassSyntax → Header → Option OwnCall → ℕ → Statements → List Place
constructor_places t c k h own brace parts = written brace ∷ (place.first_calls t c k h.name.token own ++ all_places parts)

constructor_stands : (w : Setting) (c : ℕ) (k : ClassSyntax) (h : Header) (own : Option OwnCall) (brace : ℕ) (parts : Statements) → Yields (constructor_block w c k h own brace parts) (Stands w (constructor_places w.table c k h own brace parts))
unfolding constructor_block
constructor_stands w c k h own brace parts =
    let qs = place.first_calls w.table c k h.name.token own in
    behind (parameters w h.params) _ (Stands w (written brace ∷ (qs ++ all_places parts))) (λ params.
    and_then (first_calls w c k h.name.token own) _ (AllStand w qs) (Stands w (written brace ∷ (qs ++ all_places parts))) (calls_stand w c k h.name.token own) (λ calls i.
    and_then (statements w (inside (alone (number w brace) NoValue) (number w brace)) parts) _ (RowStands w (all_places parts)) (Stands w (written brace ∷ (qs ++ all_places parts)))
    (statements_stand w (inside (alone (number w brace) NoValue) (number w brace)) parts) (λ xs j.
    given (Stands w (written brace ∷ (qs ++ all_places parts))) (plain w brace false (kernel.Block (joined calls xs)))
    (head_marked w (written brace) (qs ++ all_places parts) (kernel.Block (joined calls xs)) (joined_stands w qs (all_places parts) calls xs i j)))))

implied_constructor_stands : (w : Setting) (c : ℕ) (k : ClassSyntax) → Yields (implied_constructor_block w c k) (Stands w (at k.name.token ConstructorBody ∷ implied_calls w.table c k k.name.token))
unfolding implied_constructor_block
implied_constructor_stands w c k =
    let qs = implied_calls w.table c k k.name.token in
    and_then (first_calls w c k k.name.token None) _ (AllStand w qs) (Stands w (at k.name.token ConstructorBody ∷ qs)) (calls_stand w c k k.name.token None) (λ calls i.
    given (Stands w (at k.name.token ConstructorBody ∷ qs)) (implied w k.name.token ConstructorBody (kernel.Block (row_of calls)))
    (head_marked w (at k.name.token ConstructorBody) qs (kernel.Block (row_of calls)) (row_stands w qs calls i)))

-- ---- initializers

initializer_stands : (w : Setting) (k : ClassSyntax) (role : Role) (b : Braced) → Yields (initializer_block w k role b) (AllStand w (block_places b))
initializer_stands w k role b = alone_stands w (block_places b) (block w (around_initializer w k role) b) (block_stands w (around_initializer w k role) b)

assigned_stands : (w : Setting) (c : ℕ) (is_static : Bool) (ty : Ty) (n : Named) (i : Initial) → Yields (assigned_first w c is_static ty n i) (Stands w (written n.token ∷ []))
assigned_stands w c is_static ty n i =
    behind (expressed (λ s. initialized w.judgement w.table s ty i n.token)) _ (Stands w (written n.token ∷ [])) (λ e. given (Stands w (written n.token ∷ [])) (plain w n.token true (kernel.Eval _)) refl)

field_stands : (w : Setting) (c : ℕ) (is_static : Bool) (ty : WrittenType) (d : Declarator) (i : Option Initial) → Yields (field_initial w c is_static ty d i) (AllStand w (place_if (is_some i) d.name.token Written))
field_stands w c is_static ty d None = given (AllStand w []) [] refl
field_stands w c is_static ty d (Some i) =
    behind (declared_type w ty d.brackets) (λ t. assigned_first w c is_static t d.name i >>= λ x. give (x ∷ [])) (AllStand w (written d.name.token ∷ [])) (λ t.
    alone_stands w (written d.name.token ∷ []) (assigned_first w c is_static t d.name i) (assigned_stands w c is_static t d.name i))

pub initialized_first : (d : Declarator) (rest : List Declarator) → initialized_places (d ∷ rest) ≡ place_if (is_some d.initial) d.name.token Written ++ initialized_places rest
initialized_first d rest = elim (is_some d.initial) as (λ b. map (λ (x : Declarator). written x.name.token) (if b then d ∷ filter (λ (x : Declarator). is_some x.initial) rest else filter (λ (x : Declarator). is_some x.initial) rest) ≡ place_if b d.name.token Written ++ initialized_places rest) [
  | true ↦ refl
  | false ↦ refl
]

rows_stand : (w : Setting) (c : ℕ) (is_static : Bool) (ty : WrittenType) (all : List Declarator) → Yields (each (λ (d : Declarator). field_initial w c is_static ty d d.initial) all) (λ xss. AllStand w (initialized_places all) (flat_map (λ xs. xs) xss))
unfolding each
rows_stand w c is_static ty [] = given (λ (xss : List (List kernel.Statement)). AllStand w [] (flat_map (λ xs. xs) xss)) [] refl
rows_stand w c is_static ty (d ∷ rest) =
    let q = place_if (is_some d.initial) d.name.token Written in
    let P : List (List kernel.Statement) → Type 0 = λ xss. AllStand w (initialized_places (d ∷ rest)) (flat_map (λ xs. xs) xss) in
    and_then (field_initial w c is_static ty d d.initial) _ (AllStand w q) P (field_stands w c is_static ty d d.initial) (λ xs i.
    and_then (each (λ (d : Declarator). field_initial w c is_static ty d d.initial) rest) _ (λ xss. AllStand w (initialized_places rest) (flat_map (λ xs. xs) xss)) P (rows_stand w c is_static ty rest) (λ xss j.
    given P (xs ∷ xss) (all_both w q (initialized_places rest) xs (flat_map (λ ys. ys) xss) i j ∙ ap (map (mark_at w)) (sym (initialized_first d rest)))))

fields_stand : (w : Setting) (c : ℕ) (is_static : Bool) (ty : WrittenType) (all : List Declarator) → Yields (field_initials w c is_static ty all) (AllStand w (initialized_places all))
unfolding field_initials
fields_stand w c is_static ty all =
    and_then (each (λ (d : Declarator). field_initial w c is_static ty d d.initial) all) _ (λ xss. AllStand w (initialized_places all) (flat_map (λ xs. xs) xss)) (AllStand w (initialized_places all)) (rows_stand w c is_static ty all) (λ xss h.
    given (AllStand w (initialized_places all)) (flat_map (λ xs. xs) xss) h)

-- ---- members

-- the places of a member in the body of the class's initializer, in that of `<fields>`, and in a body of its own
abbrev pub static_places : Member → List Place
static_places (source.Initializer true b) = block_places b
static_places (source.Fields ms ty all) = if is_static ms then initialized_places all else []
static_places _ = []

abbrev pub instance_places : Member → List Place
instance_places (source.Initializer false b) = block_places b
instance_places (source.Fields ms ty all) = if is_static ms then [] else initialized_places all
instance_places _ = []

abbrev pub own_places : Table → ℕ → ClassSyntax → Member → List Place
own_places t c k (source.Method h result (Some b)) = block_places b
own_places t c k (source.Constructor h own brace parts end) = constructor_places t c k h own brace parts
own_places t c k _ = []

abbrev pub BodiesStand : Setting → List Place → List (Option Body) → Type 0
BodiesStand w qs bs = Marked w qs (statements_of_bodies bs)

pub bodies_append : (xs ys : List (Option Body)) → statements_of_bodies (xs ++ ys) ≡ statements_of_bodies xs ++ statements_of_bodies ys
bodies_append [] ys = refl
bodies_append (x ∷ xs) ys = ap (λ zs. statements_of_body x ++ zs) (bodies_append xs ys) ∙ sym (append_assoc (statements_of_body x) (statements_of_bodies xs) (statements_of_bodies ys))

pub bodies_both : (w : Setting) (qs rs : List Place) (xs ys : List (Option Body)) → BodiesStand w qs xs → BodiesStand w rs ys → BodiesStand w (qs ++ rs) (xs ++ ys)
bodies_both w qs rs xs ys h i = ap (map mark_of) (bodies_append xs ys) ∙ both_marked w qs rs (statements_of_bodies xs) (statements_of_bodies ys) h i

body_alone : (w : Setting) (qs : List Place) (b : Option Body) → Marked w qs (statements_of_body b) → BodiesStand w qs (b ∷ [])
body_alone w qs b h = ap (map mark_of) (append-nil (statements_of_body b)) ∙ h

pub record GrowsAt (w : Setting) (is fs bs : List Place) (g : Growth) : Type 0 where
  pub initializer : AllStand w is g.initializer.parts
  pub fields : AllStand w fs g.fields.parts
  pub bodies : BodiesStand w bs g.bodies

grown_stands : (w : Setting) (qs rs : List Place) (g : Growing) → AllStand w qs g.parts → (f : Makes (List kernel.Statement)) → Yields f (AllStand w rs) → Yields (grown g f) (λ x. AllStand w (qs ++ rs) x.parts)
grown_stands w qs rs g h f i =
    then_found (resumed g.making f) _ (λ p. AllStand w rs p.0) (λ x. AllStand w (qs ++ rs) x.parts) (of_resumed g.making f (AllStand w rs) i) (λ p j.
    given (λ (x : Growing). AllStand w (qs ++ rs) x.parts) (record { making = p.1; parts = g.parts ++ p.0 }) (all_both w qs rs g.parts p.0 h j))

same_all : (w : Setting) (qs : List Place) (xs : List kernel.Statement) → AllStand w qs xs → AllStand w (qs ++ []) xs
same_all w qs xs h = h ∙ ap (map (mark_at w)) (sym (append-nil qs))

same_bodies : (w : Setting) (qs : List Place) (xs : List (Option Body)) → BodiesStand w qs xs → BodiesStand w (qs ++ []) xs
same_bodies w qs xs h = h ∙ ap (map (mark_at w)) (sym (append-nil qs))

into_initializer : (w : Setting) (is fs bs rs : List Place) (g : Growth) (f : Makes (List kernel.Statement)) → GrowsAt w is fs bs g → Yields f (AllStand w rs) → Yields (in_initializer g f) (GrowsAt w (is ++ rs) (fs ++ []) (bs ++ []))
into_initializer w is fs bs rs g f h i =
    then_found (grown g.initializer f) _ (λ x. AllStand w (is ++ rs) x.parts) (GrowsAt w (is ++ rs) (fs ++ []) (bs ++ [])) (grown_stands w is rs g.initializer h.initializer f i) (λ x j.
    given (GrowsAt w (is ++ rs) (fs ++ []) (bs ++ [])) (record g { initializer = x }) (record { initializer = j; fields = same_all w fs g.fields.parts h.fields; bodies = same_bodies w bs g.bodies h.bodies }))

into_fields : (w : Setting) (is fs bs rs : List Place) (g : Growth) (f : Makes (List kernel.Statement)) → GrowsAt w is fs bs g → Yields f (AllStand w rs) → Yields (in_fields g f) (GrowsAt w (is ++ []) (fs ++ rs) (bs ++ []))
into_fields w is fs bs rs g f h i =
    then_found (grown g.fields f) _ (λ x. AllStand w (fs ++ rs) x.parts) (GrowsAt w (is ++ []) (fs ++ rs) (bs ++ [])) (grown_stands w fs rs g.fields h.fields f i) (λ x j.
    given (GrowsAt w (is ++ []) (fs ++ rs) (bs ++ [])) (record g { fields = x }) (record { initializer = same_all w is g.initializer.parts h.initializer; fields = j; bodies = same_bodies w bs g.bodies h.bodies }))

one_more : (w : Setting) (is fs bs rs : List Place) (g : Growth) (b : Option Body) → GrowsAt w is fs bs g → Marked w rs (statements_of_body b) → GrowsAt w (is ++ []) (fs ++ []) (bs ++ rs) (with_body g b)
one_more w is fs bs rs g b h i = record {
  initializer = same_all w is g.initializer.parts h.initializer;
  fields = same_all w fs g.fields.parts h.fields;
  bodies = bodies_both w bs rs g.bodies (b ∷ []) h.bodies (body_alone w rs b i);
}

no_more : (w : Setting) (is fs bs : List Place) (g : Growth) → GrowsAt w is fs bs g → GrowsAt w (is ++ []) (fs ++ []) (bs ++ []) g
no_more w is fs bs g h = record {
  initializer = same_all w is g.initializer.parts h.initializer;
  fields = same_all w fs g.fields.parts h.fields;
  bodies = same_bodies w bs g.bodies h.bodies;
}

whole_stands : (w : Setting) (qs : List Place) (m : Making) (end : ℕ) (f : Makes kernel.Statement) → Yields f (Stands w qs) → Yields (whole m end f) (λ b. Stands w qs b.block)
whole_stands w qs m end f h =
    then_found (resumed m f) (λ p. found.give (body_of p.0 p.1 end)) (λ p. Stands w qs p.0) (λ b. Stands w qs b.block) (of_resumed m f (Stands w qs) h) (λ p i.
    given (λ (b : Body). Stands w qs b.block) (body_of p.0 p.1 end) i)

behind_body : (w : Setting) (is fs bs rs : List Place) (g : Growth) (f : Gets Body) → GrowsAt w is fs bs g → Yields f (λ b. Stands w rs b.block) → Yields (λ s. found.onward (λ (b : Body). found.give (with_body g (Some b))) (f s)) (GrowsAt w (is ++ []) (fs ++ []) (bs ++ rs))
behind_body w is fs bs rs g f h i =
    then_found f (λ (b : Body). found.give (with_body g (Some b))) (λ b. Stands w rs b.block) (GrowsAt w (is ++ []) (fs ++ []) (bs ++ rs)) i (λ b j.
    given (GrowsAt w (is ++ []) (fs ++ []) (bs ++ rs)) (with_body g (Some b)) (one_more w is fs bs rs g (Some b) h j))

member_stands : (w : Setting) (c : ℕ) (k : ClassSyntax) (is fs bs : List Place) (g : Growth) (m : Member) → GrowsAt w is fs bs g →
    Yields (member w c k g m) (GrowsAt w (is ++ static_places m) (fs ++ instance_places m) (bs ++ own_places w.table c k m))
unfolding member
member_stands w c k is fs bs g (source.Initializer true b) h = into_initializer w is fs bs (block_places b) g (initializer_block w k InitializerBody b) h (initializer_stands w k InitializerBody b)
member_stands w c k is fs bs g (source.Initializer false b) h = into_fields w is fs bs (block_places b) g (initializer_block w k FieldsBody b) h (initializer_stands w k FieldsBody b)
member_stands w c k is fs bs g (source.Fields ms ty all) h =
    of_either (is_static ms) (in_initializer g (field_initials w c true ty all)) (in_fields g (field_initials w c false ty all))
    (λ b. GrowsAt w (is ++ (if b then initialized_places all else [])) (fs ++ (if b then [] else initialized_places all)) (bs ++ []))
    (into_initializer w is fs bs (initialized_places all) g (field_initials w c true ty all) h (fields_stand w c true ty all))
    (into_fields w is fs bs (initialized_places all) g (field_initials w c false ty all) h (fields_stand w c false ty all))
member_stands w c k is fs bs g (source.Method x result None) h = given (GrowsAt w (is ++ []) (fs ++ []) (bs ++ [])) (with_body g None) (one_more w is fs bs [] g None h refl)
member_stands w c k is fs bs g (source.Method x result (Some b)) h =
    behind_body w is fs bs (block_places b) g (whole (begun c (not (is_static x.modifiers)) x.name.token) (end_of b) (method_block w x result b)) h
    (whole_stands w (block_places b) (begun c (not (is_static x.modifiers)) x.name.token) (end_of b) (method_block w x result b) (method_stands w x result b))
member_stands w c k is fs bs g (source.Constructor x own brace parts end) h =
    behind_body w is fs bs (constructor_places w.table c k x own brace parts) g (whole (begun c true x.name.token) end (constructor_block w c k x own brace parts)) h
    (whole_stands w (constructor_places w.table c k x own brace parts) (begun c true x.name.token) end (constructor_block w c k x own brace parts) (constructor_stands w c k x own brace parts))
member_stands w c k is fs bs g source.Member.Nothing h = given (GrowsAt w (is ++ []) (fs ++ []) (bs ++ [])) g (no_more w is fs bs g h)
member_stands w c k is fs bs g source.Member.Unknown h = given (GrowsAt w (is ++ []) (fs ++ []) (bs ++ [])) g (no_more w is fs bs g h)

again_grows : (w : Setting) (is is' fs fs' bs bs' : List Place) (g : Growth) → is ≡ is' → fs ≡ fs' → bs ≡ bs' → GrowsAt w is fs bs g → GrowsAt w is' fs' bs' g
again_grows w is is' fs fs' bs bs' g a b c h = record { initializer = h.initializer ∙ ap (map (mark_at w)) a; fields = h.fields ∙ ap (map (mark_at w)) b; bodies = h.bodies ∙ ap (map (mark_at w)) c }

members_stand : (w : Setting) (c : ℕ) (k : ClassSyntax) (is fs bs : List Place) (g : Growth) (ms : List Member) → GrowsAt w is fs bs g →
    Yields (members w c k g ms) (GrowsAt w (is ++ flat_map static_places ms) (fs ++ flat_map instance_places ms) (bs ++ flat_map (own_places w.table c k) ms))
unfolding members
members_stand w c k is fs bs g [] h = given (GrowsAt w (is ++ []) (fs ++ []) (bs ++ [])) g (no_more w is fs bs g h)
members_stand w c k is fs bs g (m ∷ rest) h =
    then_found (member w c k g m) (λ next. members w c k next rest) (GrowsAt w (is ++ static_places m) (fs ++ instance_places m) (bs ++ own_places w.table c k m))
    (GrowsAt w (is ++ (static_places m ++ flat_map static_places rest)) (fs ++ (instance_places m ++ flat_map instance_places rest)) (bs ++ (own_places w.table c k m ++ flat_map (own_places w.table c k) rest)))
    (member_stands w c k is fs bs g m h) (λ next i.
    weaker (members w c k next rest) (GrowsAt w (is ++ static_places m ++ flat_map static_places rest) (fs ++ instance_places m ++ flat_map instance_places rest) (bs ++ own_places w.table c k m ++ flat_map (own_places w.table c k) rest)) _
    (members_stand w c k (is ++ static_places m) (fs ++ instance_places m) (bs ++ own_places w.table c k m) next rest i) (λ g j.
    again_grows w _ _ _ _ _ _ g (append_assoc is (static_places m) (flat_map static_places rest)) (append_assoc fs (instance_places m) (flat_map instance_places rest)) (append_assoc bs (own_places w.table c k m) (flat_map (own_places w.table c k) rest)) j))

-- ---- classes

implied_stands : (w : Setting) (c : ℕ) (k : ClassSyntax) → Yields (implied_constructor w c k) (BodiesStand w (place.implied_constructor_places w.table c k))
unfolding implied_constructor
implied_stands w c k =
    of_either (declares_constructor k) (found.give []) _ (λ b. BodiesStand w (if b then [] else at k.name.token ConstructorBody ∷ implied_calls w.table c k k.name.token))
    (given (BodiesStand w []) [] refl)
    (then_found (whole (begun c true k.name.token) k.name.token (implied_constructor_block w c k)) (λ body. found.give (Some body ∷ [])) (λ b. Stands w (at k.name.token ConstructorBody ∷ implied_calls w.table c k k.name.token) b.block) (BodiesStand w (at k.name.token ConstructorBody ∷ implied_calls w.table c k k.name.token))
    (whole_stands w (at k.name.token ConstructorBody ∷ implied_calls w.table c k k.name.token) (begun c true k.name.token) k.name.token (implied_constructor_block w c k) (implied_constructor_stands w c k)) (λ b h.
    given (BodiesStand w (at k.name.token ConstructorBody ∷ implied_calls w.table c k k.name.token)) (Some b ∷ []) (body_alone w (at k.name.token ConstructorBody ∷ implied_calls w.table c k k.name.token) (Some b) h)))

-- the places in the body of a class's initializer, and in its other bodies
abbrev pub initializer_places : ClassSyntax → List Place
initializer_places k = if k.is_interface then [] else at k.name.token InitializerBody ∷ flat_map static_places k.members

abbrev pub fields_places : ClassSyntax → List Place
fields_places k = if has_fields_unit k then at k.name.token FieldsBody ∷ flat_map instance_places k.members else []

abbrev pub class_body_places : Table → ℕ → ClassSyntax → List Place
class_body_places t c k =
    if k.is_interface then flat_map (own_places t c k) k.members
    else fields_places k ++ place.implied_constructor_places t c k ++ flat_map (own_places t c k) k.members

pub record ClassStands (w : Setting) (is bs : List Place) (b : ClassBodies) : Type 0 where
  pub initializer : Marked w is (statements_of_body b.initializer)
  pub bodies : BodiesStand w bs b.bodies

none_grows : (w : Setting) (c : ℕ) (k : ClassSyntax) → GrowsAt w [] [] [] (none_yet c k)
none_grows w c k = record { initializer = refl; fields = refl; bodies = refl }

implied_body_stands : (w : Setting) (k : ClassSyntax) (role : Role) (qs : List Place) (g : Growing) → AllStand w qs g.parts → Stands w (at k.name.token role ∷ qs) (implied w k.name.token role (kernel.Block (row_of g.parts)))
implied_body_stands w k role qs g h = head_marked w (at k.name.token role) qs (kernel.Block (row_of g.parts)) (row_stands w qs g.parts h)

fields_body_stands : (w : Setting) (k : ClassSyntax) (g : Growing) → AllStand w (flat_map instance_places k.members) g.parts → BodiesStand w (fields_places k) (fields_body w k g)
fields_body_stands w k g h =
    let qs = at k.name.token FieldsBody ∷ flat_map instance_places k.members in
    elim (has_fields_unit k) as (λ b. BodiesStand w (if b then qs else []) (if b then Some (implied_body w k FieldsBody g) ∷ [] else [])) [
      | true ↦ body_alone w qs (Some (implied_body w k FieldsBody g)) (implied_body_stands w k FieldsBody (flat_map instance_places k.members) g h)
      | false ↦ refl
    ]

pub class_stands : (w : Setting) (c : ℕ) (k : ClassSyntax) → Yields (class_bodies w c k) (ClassStands w (initializer_places k) (class_body_places w.table c k))
unfolding class_bodies
class_stands w c k =
    let own = flat_map (own_places w.table c k) k.members in
    let is = at k.name.token InitializerBody ∷ flat_map static_places k.members in
    let implied_ones = place.implied_constructor_places w.table c k in
    let bs = fields_places k ++ implied_ones ++ own in
    of_either k.is_interface (of_interface w c k) (of_class w c k) (λ b. ClassStands w (if b then [] else is) (if b then own else bs))
    (then_found (members w c k (none_yet c k) k.members) _ (GrowsAt w (flat_map static_places k.members) (flat_map instance_places k.members) own) (ClassStands w [] own)
    (members_stand w c k [] [] [] (none_yet c k) k.members (none_grows w c k)) (λ g h.
    given (ClassStands w [] own) (record { bodies = g.bodies; initializer = None }) (record { initializer = refl; bodies = h.bodies })))
    (then_found (implied_constructor w c k) _ (BodiesStand w implied_ones) (ClassStands w is bs) (implied_stands w c k) (λ made i.
    then_found (members w c k (none_yet c k) k.members) _ (GrowsAt w (flat_map static_places k.members) (flat_map instance_places k.members) own) (ClassStands w is bs)
    (members_stand w c k [] [] [] (none_yet c k) k.members (none_grows w c k)) (λ g h.
    given (ClassStands w is bs) (finished w k made g) (record {
      initializer = implied_body_stands w k InitializerBody (flat_map static_places k.members) g.initializer h.initializer;
      bodies = bodies_both w (fields_places k ++ implied_ones) own (fields_body w k g.fields ++ made) g.bodies
          (bodies_both w (fields_places k) implied_ones (fields_body w k g.fields) made (fields_body_stands w k g.fields h.fields) i) h.bodies;
    }))))
