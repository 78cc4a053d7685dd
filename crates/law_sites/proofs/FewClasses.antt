-- The bodies of a class have together no more `&&`, `||` and `?:` of a site than what is written in it has signs there.
use Rattle.std.proofs.Common.{◌≡◌, ◌∙◌, refl, sym, ap, subst, ℕ, suc, Bool, true, false, not, if◌then◌else◌, List, [], ◌∷◌, ◌++◌, append_assoc}
use Rattle.std.specs.Prelude.{Option, Some, None, flat_map, slice_get}
use Rattle.wy_kernel.specs.Form as kernel
use Rattle.wy_kernel.specs.Program.{Body, Method}
use Rattle.wy_kernel.specs.Table.{Table}
use Rattle.wy_syntax.specs.Syntax.{Named, WrittenType, Declarator, Initial, Row, Braced, Statements, OwnCall, Header, Member, ClassSyntax}
use Rattle.wy_syntax.specs.Syntax as source
use Rattle.wy_constant.specs.declared.rule.Rule.TheVariants.{NoMethod, Private}
use Rattle.wy_constant.specs.Scope.{Scope}
use Rattle.wy_elab_expr.specs.Meaning.{Meaning, Gets}
use Rattle.wy_elab_expr.specs.Meaning as found
use Rattle.wy_elab_expr.specs.Operators.{Judgement}
use Rattle.wy_elab_expr.specs.Members.{is_outside, brought_all, method_for}
use Rattle.wy_elab_expr.specs.Elaboration.{initialized, elaborated_all}
use Rattle.wy_elab_body.specs.declared.place.Role.{Role}
use Rattle.wy_elab_body.specs.declared.place.Role.TheVariants.{InitializerBody, FieldsBody, ConstructorBody, SuperCall}
use Rattle.wy_elab_body.specs.Places.{calls_superclass, has_fields_unit, declares_constructor}
use Rattle.wy_elab_body.specs.Making.{Making, Makes, give, ◌>>=◌, expressed, each, begun, resumed}
use Rattle.wy_elab_body.specs.Parts.{NoValue, constructor_form, constructed_by, constructor_called, constructor_call, object_called}
use Rattle.wy_elab_body.specs.Jumps.{alone, inside}
use Rattle.wy_elab_body.specs.Statements.{Setting, number, plain, block, statements, joined, row_of}
use Rattle.wy_elab_body.specs.Bodies.{Growing, Growth, body_of, end_of, implied, declared_type, parameters, outcome_of, brace_of, method_block, superclass_of, implied_super_call, implied_fields_call, own_call, no_call, written_super_call, fields_call, first_calls, constructor_block, implied_constructor_block, around_initializer, own_place, field_number, assigned_first, field_initial, field_initials, initializer_block, implied_body}
use Rattle.wy_elab_stmt.specs.Classes.{ClassBodies, whole, with_body, grown, in_initializer, in_fields, is_static, member, members, implied_constructor, none_yet, fields_body, finished, of_class, of_interface, class_bodies}
use Rattle.wy_elab_stmt.specs.Program.{Bodies, no_bodies, and_more, bodies_from}
use Rattle.law_structure.proofs.Yields.{Yields, given, weaker, refused_found, anything, and_then, behind, then_found, of_expressed, of_choice, of_resumed}
use Rattle.law_sites.proofs.Fewer.{Fewer, few_same, few_none, few_then, few_both, few_behind, few_left, few_right, few_regrouped, few_first, few_second, few_third, few_paired}
use Rattle.law_sites.proofs.FewForms.{Few, FewRow, AllFew}
use Rattle.law_sites.proofs.FewMembers.{row_few}
use Rattle.law_sites.proofs.FewExpressions.{row_signs, initial_signs, AllSigns, all_few, initial_few}
use Rattle.law_sites.proofs.FewStatements.{choices, choices_of_all, choices_of_list, FewIn, FewAll, FewList, first_signs, declarator_signs, signs_in_block, signs_in_all, joined_few, alone_few, block_few, statements_few}
use Rattle.law_sites.proofs.FewStatements as statement

-- ---- the signs that are written in a class, in the order of the text

abbrev pub own_signs : Option OwnCall → List ℕ
own_signs None = []
own_signs (Some call) = row_signs call.args

abbrev pub member_signs : Member → List ℕ
member_signs (source.Initializer is_static b) = signs_in_block b
member_signs (source.Fields ms ty all) = declarator_signs all
member_signs (source.Method h result (Some b)) = signs_in_block b
member_signs (source.Constructor h own brace parts end) = own_signs own ++ signs_in_all parts
member_signs _ = []

abbrev pub members_signs : List Member → List ℕ
members_signs [] = []
members_signs (m ∷ rest) = member_signs m ++ members_signs rest

abbrev pub classes_signs : List ClassSyntax → List ℕ
classes_signs [] = []
classes_signs (k ∷ rest) = members_signs k.members ++ classes_signs rest

-- ---- lists of statements

list_both : (xs ys : List kernel.Statement) → choices_of_list (xs ++ ys) ≡ choices_of_list xs ++ choices_of_list ys
list_both [] ys = refl
list_both (x ∷ xs) ys = ap (λ zs. choices x ++ zs) (list_both xs ys) ∙ sym (append_assoc (choices x) (choices_of_list xs) (choices_of_list ys))

append_few : (ks ls : List ℕ) (xs ys : List kernel.Statement) → FewList ks xs → FewList ls ys → FewList (ks ++ ls) (xs ++ ys)
append_few ks ls xs ys h i = let P : List ℕ → Type 0 = λ zs. Fewer zs (ks ++ ls) in subst P (sym (list_both xs ys)) (few_both h i)

-- ---- calls at the head of a constructor

by_few : (ks : List ℕ) (s : Scope) (class k : ℕ) (m : Option Method) (ms : List Meaning) (token : ℕ) → AllFew ks ms → Yields (constructed_by s class k m ms token) (Few ks)
by_few ks s class k None ms token h = refused_found (Few ks) NoMethod token
by_few ks s class k (Some m) ms token h =
    of_choice (is_outside s m.is_private m.class) (found.refuse Private token) _ (Few ks) (refused_found (Few ks) Private token)
    (then_found (brought_all m.params ms) _ (FewRow ks) (Few ks) (row_few ks m.params ms h) (λ es i. given (Few ks) (constructor_form class k es token) i))

called_few : (ks : List ℕ) (j : Judgement) (t : Table) (class : ℕ) (ms : List Meaning) (token : ℕ) → AllFew ks ms → (s : Scope) → Yields (constructor_called j t class ms token s) (Few ks)
unfolding constructor_called
called_few ks j t class ms token h s = then_found (method_for j _ _ ms token) _ (λ k. Unit {0}) (Few ks) (anything _) (λ k x. by_few ks s class k (slice_get t.methods k) ms token h)

call_few : (j : Judgement) (t : Table) (class : ℕ) (args : Row) (token : ℕ) (s : Scope) → Yields (constructor_call j t class args token s) (Few (row_signs args))
unfolding constructor_call
call_few j t class args token s = then_found (elaborated_all j t s args) _ (AllSigns args) (Few (row_signs args)) (all_few j t s args) (λ ms i. called_few (row_signs args) j t class ms token i s)

super_few : (w : Setting) (c site : ℕ) → Yields (implied_super_call w c site) (FewList [])
unfolding implied_super_call
super_few w c site =
    of_choice (calls_superclass w.table c) _ (give []) (FewList [])
    (and_then (expressed (constructor_called w.judgement w.table (superclass_of w c) [] site)) (λ e. give (implied w site SuperCall (kernel.Eval e) ∷ [])) (Few []) (FewList [])
    (of_expressed (constructor_called w.judgement w.table (superclass_of w c) [] site) (Few []) (called_few [] w.judgement w.table (superclass_of w c) [] site (few_none [])))
    (λ e i. given (FewList []) (implied w site SuperCall (kernel.Eval e) ∷ []) (few_behind i)))
    (given (FewList []) [] (few_none []))

fields_form_few : (k : Option ℕ) (c site : ℕ) → Few [] (fields_call k c site)
fields_form_few None c site = few_none []
fields_form_few (Some k) c site = few_none []

chosen : (b : Bool) (xs : List kernel.Statement) → FewList [] xs → FewList [] (if b then xs else [])
chosen true xs h = h
chosen false xs h = few_none []

fields_call_few : (w : Setting) (c : ℕ) (k : ClassSyntax) (site : ℕ) → FewList [] (implied_fields_call w c k site)
unfolding implied_fields_call
fields_call_few w c k site = chosen (has_fields_unit k) _ (few_behind (fields_form_few _ c site))

own_few : (w : Setting) (c d : ℕ) (call : OwnCall) → Yields (own_call w c d call) (FewList (row_signs call.args))
unfolding own_call
own_few w c d call =
    let ks = row_signs call.args in
    and_then (expressed (constructor_call w.judgement w.table d call.args call.paren)) (λ e. give (plain w call.token true (kernel.Eval e) ∷ [])) (Few ks) (FewList ks)
    (of_expressed (constructor_call w.judgement w.table d call.args call.paren) (Few ks) (call_few w.judgement w.table d call.args call.paren))
    (λ e i. given (FewList ks) (plain w call.token true (kernel.Eval e) ∷ []) (few_behind i))

none_few : (ks : List ℕ) (w : Setting) (call : OwnCall) → Yields (no_call w call) (FewList ks)
unfolding no_call
none_few ks w call = behind (expressed (object_called w.judgement w.table call.args call.paren)) (λ x. give []) (FewList ks) (λ x. given (FewList ks) [] (few_none ks))

written_super_few : (w : Setting) (c : ℕ) (call : OwnCall) → Yields (written_super_call w c call) (FewList (row_signs call.args))
unfolding written_super_call
written_super_few w c call = of_choice (calls_superclass w.table c) (own_call w c (superclass_of w c) call) (no_call w call) (FewList (row_signs call.args)) (own_few w c (superclass_of w c) call) (none_few (row_signs call.args) w call)

with_fields : (ks : List ℕ) (w : Setting) (c : ℕ) (k : ClassSyntax) (site : ℕ) (f : Makes (List kernel.Statement)) → Yields f (FewList ks) → Yields (f >>= λ xs. give (xs ++ implied_fields_call w c k site)) (FewList ks)
with_fields ks w c k site f h =
    and_then f (λ xs. give (xs ++ implied_fields_call w c k site)) (FewList ks) (FewList ks) h (λ xs i.
    given (FewList ks) (xs ++ implied_fields_call w c k site) (few_then (append_few ks [] xs (implied_fields_call w c k site) i (fields_call_few w c k site)) (few_behind (few_same ks))))

calls_few : (w : Setting) (c : ℕ) (k : ClassSyntax) (site : ℕ) (own : Option OwnCall) → Yields (first_calls w c k site own) (FewList (own_signs own))
unfolding first_calls
calls_few w c k site None = with_fields [] w c k site (implied_super_call w c site) (super_few w c site)
calls_few w c k site (Some call) =
    of_choice call.is_super _ (own_call w c c call) (FewList (row_signs call.args))
    (with_fields (row_signs call.args) w c k site (written_super_call w c call) (written_super_few w c call)) (own_few w c c call)

-- ---- blocks

method_few : (w : Setting) (h : Header) (result : Option WrittenType) (b : Braced) → Yields (method_block w h result b) (FewIn (signs_in_block b))
unfolding method_block
method_few w h result b =
    let P : kernel.Statement → Type 0 = FewIn (signs_in_block b) in
    behind (outcome_of w result) _ P (λ outcome. behind (parameters w h.params) _ P (λ params. block_few w (alone (number w (brace_of b)) outcome) b))

constructor_few : (w : Setting) (c : ℕ) (k : ClassSyntax) (h : Header) (own : Option OwnCall) (brace : ℕ) (parts : Statements) → Yields (constructor_block w c k h own brace parts) (FewIn (own_signs own ++ signs_in_all parts))
unfolding constructor_block
constructor_few w c k h own brace parts =
    let P : kernel.Statement → Type 0 = FewIn (own_signs own ++ signs_in_all parts) in
    behind (parameters w h.params) _ P (λ params.
    and_then (first_calls w c k h.name.token own) _ (FewList (own_signs own)) P (calls_few w c k h.name.token own) (λ calls x.
    and_then (statements w (inside (alone (number w brace) NoValue) (number w brace)) parts) _ (FewAll (signs_in_all parts)) P (statements_few w (inside (alone (number w brace) NoValue) (number w brace)) parts) (λ xs y.
    given P (plain w brace false (kernel.Block (joined calls xs))) (joined_few (own_signs own) (signs_in_all parts) calls xs x y))))

implied_constructor_few : (w : Setting) (c : ℕ) (k : ClassSyntax) → Yields (implied_constructor_block w c k) (FewIn [])
unfolding implied_constructor_block
implied_constructor_few w c k =
    and_then (first_calls w c k k.name.token None) _ (FewList []) (FewIn []) (calls_few w c k k.name.token None) (λ calls i.
    given (FewIn []) (implied w k.name.token ConstructorBody (kernel.Block (row_of calls))) (statement.row_few [] calls i))

initializer_few : (w : Setting) (k : ClassSyntax) (role : Role) (b : Braced) → Yields (initializer_block w k role b) (FewList (signs_in_block b))
initializer_few w k role b = alone_few (signs_in_block b) (block w (around_initializer w k role) b) (block_few w (around_initializer w k role) b)

own_place_few : (ks : List ℕ) (b : Bool) (field token : ℕ) (e : kernel.Expression) → Few ks e → Few ks (kernel.Set (own_place b field token) e token)
own_place_few ks true field token e h = h
own_place_few ks false field token e h = h

field_few : (w : Setting) (c : ℕ) (is_static : Bool) (ty : WrittenType) (d : Declarator) (i : Option Initial) → Yields (field_initial w c is_static ty d i) (FewList (first_signs i))
field_few w c is_static ty d None = given (FewList []) [] (few_none [])
field_few w c is_static ty d (Some i) =
    let ks = initial_signs i in
    behind (declared_type w ty d.brackets) (λ t. assigned_first w c is_static t d.name i >>= λ x. give (x ∷ [])) (FewList ks) (λ t.
    alone_few ks (assigned_first w c is_static t d.name i)
    (and_then (expressed (λ s. initialized w.judgement w.table s t i d.name.token)) _ (Few ks) (FewIn ks)
    (of_expressed (λ s. initialized w.judgement w.table s t i d.name.token) (Few ks) (λ s. initial_few w.judgement w.table s t i d.name.token))
    (λ e x. given (FewIn ks) (plain w d.name.token true (kernel.Eval (kernel.Set (own_place is_static (field_number w c d.name.name) d.name.token) e d.name.token))) (own_place_few ks is_static (field_number w c d.name.name) d.name.token e x))))

rows_few : (w : Setting) (c : ℕ) (is_static : Bool) (ty : WrittenType) (all : List Declarator) → Yields (each (λ (d : Declarator). field_initial w c is_static ty d d.initial) all) (λ xss. FewList (declarator_signs all) (flat_map (λ xs. xs) xss))
unfolding each
rows_few w c is_static ty [] = given (λ (xss : List (List kernel.Statement)). FewList [] (flat_map (λ xs. xs) xss)) [] (few_none [])
rows_few w c is_static ty (d ∷ rest) =
    let Q : List (List kernel.Statement) → Type 0 = λ xss. FewList (declarator_signs rest) (flat_map (λ xs. xs) xss) in
    let P : List (List kernel.Statement) → Type 0 = λ xss. FewList (first_signs d.initial ++ declarator_signs rest) (flat_map (λ xs. xs) xss) in
    and_then (field_initial w c is_static ty d d.initial) _ (FewList (first_signs d.initial)) P (field_few w c is_static ty d d.initial) (λ xs i.
    and_then (each (λ (d : Declarator). field_initial w c is_static ty d d.initial) rest) _ Q P (rows_few w c is_static ty rest) (λ xss k.
    given P (xs ∷ xss) (append_few (first_signs d.initial) (declarator_signs rest) xs (flat_map (λ ys. ys) xss) i k)))

fields_few : (w : Setting) (c : ℕ) (is_static : Bool) (ty : WrittenType) (all : List Declarator) → Yields (field_initials w c is_static ty all) (FewList (declarator_signs all))
unfolding field_initials
fields_few w c is_static ty all =
    let ks = declarator_signs all in
    and_then (each (λ (d : Declarator). field_initial w c is_static ty d d.initial) all) _ (λ xss. FewList ks (flat_map (λ xs. xs) xss)) (FewList ks) (rows_few w c is_static ty all) (λ xss i.
    given (FewList ks) (flat_map (λ xs. xs) xss) i)

-- ---- bodies

abbrev pub choices_of_body : Option Body → List ℕ
choices_of_body None = []
choices_of_body (Some b) = choices b.block

abbrev pub choices_of_bodies : List (Option Body) → List ℕ
choices_of_bodies [] = []
choices_of_bodies (b ∷ rest) = choices_of_body b ++ choices_of_bodies rest

pub bodies_both : (xs ys : List (Option Body)) → choices_of_bodies (xs ++ ys) ≡ choices_of_bodies xs ++ choices_of_bodies ys
bodies_both [] ys = refl
bodies_both (x ∷ xs) ys = ap (λ zs. choices_of_body x ++ zs) (bodies_both xs ys) ∙ sym (append_assoc (choices_of_body x) (choices_of_bodies xs) (choices_of_bodies ys))

abbrev FewBody : List ℕ → Body → Type 0
FewBody ks b = FewIn ks b.block

abbrev FewBodies : List ℕ → List (Option Body) → Type 0
FewBodies ks bs = Fewer (choices_of_bodies bs) ks

whole_few : (ks : List ℕ) (m : Making) (end : ℕ) (f : Makes kernel.Statement) → Yields f (FewIn ks) → Yields (whole m end f) (FewBody ks)
whole_few ks m end f h =
    then_found (resumed m f) (λ p. found.give (body_of p.0 p.1 end)) (λ p. FewIn ks p.0) (FewBody ks) (of_resumed m f (FewIn ks) h) (λ p i. given (FewBody ks) (body_of p.0 p.1 end) i)

-- what a class has so far
abbrev choices_so_far : Growth → List ℕ
choices_so_far g = choices_of_list g.initializer.parts ++ (choices_of_list g.fields.parts ++ choices_of_bodies g.bodies)

abbrev FewSoFar : List ℕ → Growth → Type 0
FewSoFar ks g = Fewer (choices_so_far g) ks

grown_few : (ls : List ℕ) (g : Growing) (f : Makes (List kernel.Statement)) → Yields f (FewList ls) → Yields (grown g f) (λ x. (xs : List kernel.Statement) × FewList ls xs × (choices_of_list x.parts ≡ choices_of_list g.parts ++ choices_of_list xs))
grown_few ls g f i =
    let P : Growing → Type 0 = λ x. (xs : List kernel.Statement) × FewList ls xs × (choices_of_list x.parts ≡ choices_of_list g.parts ++ choices_of_list xs) in
    then_found (resumed g.making f) _ (λ p. FewList ls p.0) P (of_resumed g.making f (FewList ls) i) (λ p k.
    given P (record { making = p.1; parts = g.parts ++ p.0 }) (p.0, k, list_both g.parts p.0))

into_initializer : (ks ls : List ℕ) (g : Growth) (f : Makes (List kernel.Statement)) → FewSoFar ks g → Yields f (FewList ls) → Yields (in_initializer g f) (FewSoFar (ks ++ ls))
into_initializer ks ls g f h i =
    then_found (grown g.initializer f) _ (λ x. (xs : List kernel.Statement) × FewList ls xs × (choices_of_list x.parts ≡ choices_of_list g.initializer.parts ++ choices_of_list xs)) (FewSoFar (ks ++ ls)) (grown_few ls g.initializer f i) (λ x k.
    let P : List ℕ → Type 0 = λ zs. Fewer (zs ++ (choices_of_list g.fields.parts ++ choices_of_bodies g.bodies)) (ks ++ ls) in
    given (FewSoFar (ks ++ ls)) (record g { initializer = x })
    (subst P (sym k.2) (few_first (choices_of_list g.initializer.parts) (choices_of_list k.0) (choices_of_list g.fields.parts ++ choices_of_bodies g.bodies) h k.1)))

into_fields : (ks ls : List ℕ) (g : Growth) (f : Makes (List kernel.Statement)) → FewSoFar ks g → Yields f (FewList ls) → Yields (in_fields g f) (FewSoFar (ks ++ ls))
into_fields ks ls g f h i =
    then_found (grown g.fields f) _ (λ x. (xs : List kernel.Statement) × FewList ls xs × (choices_of_list x.parts ≡ choices_of_list g.fields.parts ++ choices_of_list xs)) (FewSoFar (ks ++ ls)) (grown_few ls g.fields f i) (λ x k.
    let P : List ℕ → Type 0 = λ zs. Fewer (choices_of_list g.initializer.parts ++ (zs ++ choices_of_bodies g.bodies)) (ks ++ ls) in
    given (FewSoFar (ks ++ ls)) (record g { fields = x })
    (subst P (sym k.2) (few_second (choices_of_list g.initializer.parts) (choices_of_list g.fields.parts) (choices_of_list k.0) (choices_of_bodies g.bodies) h k.1)))

one_more : (ks ls : List ℕ) (g : Growth) (b : Option Body) → FewSoFar ks g → Fewer (choices_of_body b) ls → FewSoFar (ks ++ ls) (with_body g b)
one_more ks ls g b h i =
    let P : List ℕ → Type 0 = λ zs. Fewer (choices_of_list g.initializer.parts ++ (choices_of_list g.fields.parts ++ zs)) (ks ++ ls) in
    subst P (sym (bodies_both g.bodies (b ∷ []))) (few_third (choices_of_list g.initializer.parts) (choices_of_list g.fields.parts) (choices_of_bodies g.bodies) (choices_of_body b ++ []) h (few_behind i))

behind_body : (ks ls : List ℕ) (g : Growth) (f : Gets Body) → FewSoFar ks g → Yields f (FewBody ls) → Yields (λ s. found.onward (λ (b : Body). found.give (with_body g (Some b))) (f s)) (FewSoFar (ks ++ ls))
behind_body ks ls g f h i = then_found f (λ (b : Body). found.give (with_body g (Some b))) (FewBody ls) (FewSoFar (ks ++ ls)) i (λ b k. given (FewSoFar (ks ++ ls)) (with_body g (Some b)) (one_more ks ls g (Some b) h k))

member_few : (ks : List ℕ) (w : Setting) (c : ℕ) (k : ClassSyntax) (g : Growth) (m : Member) → FewSoFar ks g → Yields (member w c k g m) (FewSoFar (ks ++ member_signs m))
unfolding member
member_few ks w c k g (source.Initializer true b) h = into_initializer ks (signs_in_block b) g (initializer_block w k InitializerBody b) h (initializer_few w k InitializerBody b)
member_few ks w c k g (source.Initializer false b) h = into_fields ks (signs_in_block b) g (initializer_block w k FieldsBody b) h (initializer_few w k FieldsBody b)
member_few ks w c k g (source.Fields ms ty all) h =
    of_choice (is_static ms) (in_initializer g (field_initials w c true ty all)) (in_fields g (field_initials w c false ty all)) (FewSoFar (ks ++ declarator_signs all))
    (into_initializer ks (declarator_signs all) g (field_initials w c true ty all) h (fields_few w c true ty all))
    (into_fields ks (declarator_signs all) g (field_initials w c false ty all) h (fields_few w c false ty all))
member_few ks w c k g (source.Method x result None) h = given (FewSoFar (ks ++ [])) (with_body g None) (one_more ks [] g None h (few_none []))
member_few ks w c k g (source.Method x result (Some b)) h =
    behind_body ks (signs_in_block b) g (whole (begun c (not (is_static x.modifiers)) x.name.token) (end_of b) (method_block w x result b)) h
    (whole_few (signs_in_block b) (begun c (not (is_static x.modifiers)) x.name.token) (end_of b) (method_block w x result b) (method_few w x result b))
member_few ks w c k g (source.Constructor x own brace parts end) h =
    behind_body ks (own_signs own ++ signs_in_all parts) g (whole (begun c true x.name.token) end (constructor_block w c k x own brace parts)) h
    (whole_few (own_signs own ++ signs_in_all parts) (begun c true x.name.token) end (constructor_block w c k x own brace parts) (constructor_few w c k x own brace parts))
member_few ks w c k g source.Member.Nothing h = given (FewSoFar (ks ++ [])) g (few_left [] h)
member_few ks w c k g source.Member.Unknown h = given (FewSoFar (ks ++ [])) g (few_left [] h)

members_few : (ks : List ℕ) (w : Setting) (c : ℕ) (k : ClassSyntax) (g : Growth) (ms : List Member) → FewSoFar ks g → Yields (members w c k g ms) (FewSoFar (ks ++ members_signs ms))
unfolding members
members_few ks w c k g [] h = given (FewSoFar (ks ++ [])) g (few_left [] h)
members_few ks w c k g (m ∷ rest) h =
    then_found (member w c k g m) (λ next. members w c k next rest) (FewSoFar (ks ++ member_signs m)) (FewSoFar (ks ++ (member_signs m ++ members_signs rest))) (member_few ks w c k g m h) (λ next x.
    weaker (members w c k next rest) (FewSoFar ((ks ++ member_signs m) ++ members_signs rest)) (FewSoFar (ks ++ (member_signs m ++ members_signs rest)))
    (members_few (ks ++ member_signs m) w c k next rest x) (λ all y. few_regrouped ks (member_signs m) (members_signs rest) y))

implied_few : (w : Setting) (c : ℕ) (k : ClassSyntax) → Yields (implied_constructor w c k) (FewBodies [])
unfolding implied_constructor
implied_few w c k =
    of_choice (declares_constructor k) (found.give []) _ (FewBodies [])
    (given (FewBodies []) [] (few_none []))
    (then_found (whole (begun c true k.name.token) k.name.token (implied_constructor_block w c k)) (λ body. found.give (Some body ∷ [])) (FewBody []) (FewBodies [])
    (whole_few [] (begun c true k.name.token) k.name.token (implied_constructor_block w c k) (implied_constructor_few w c k)) (λ b h. given (FewBodies []) (Some b ∷ []) (few_behind h)))

-- ---- classes

abbrev choices_of_class : ClassBodies → List ℕ
choices_of_class b = choices_of_body b.initializer ++ choices_of_bodies b.bodies

fields_body_few : (w : Setting) (k : ClassSyntax) (g : Growing) → Fewer (choices_of_bodies (fields_body w k g)) (choices_of_list g.parts)
fields_body_few w k g = elim (has_fields_unit k) as (λ b. Fewer (choices_of_bodies (if b then Some (implied_body w k FieldsBody g) ∷ [] else [])) (choices_of_list g.parts)) [
  | true ↦ few_behind (statement.row_few (choices_of_list g.parts) g.parts (few_same (choices_of_list g.parts)))
  | false ↦ few_none (choices_of_list g.parts)
]

finished_few : (ks : List ℕ) (w : Setting) (k : ClassSyntax) (bs : List (Option Body)) (g : Growth) → FewBodies [] bs → FewSoFar ks g → Fewer (choices_of_class (finished w k bs g)) ks
finished_few ks w k bs g h i =
    let P : List ℕ → Type 0 = λ zs. Fewer (choices_of_all (row_of g.initializer.parts) ++ zs) ks in
    let e : choices_of_bodies (fields_body w k g.fields ++ bs ++ g.bodies) ≡ (choices_of_bodies (fields_body w k g.fields) ++ choices_of_bodies bs) ++ choices_of_bodies g.bodies =
    bodies_both (fields_body w k g.fields ++ bs) g.bodies ∙ ap (λ zs. zs ++ choices_of_bodies g.bodies) (bodies_both (fields_body w k g.fields) bs) in
    subst P (sym e) (few_then
    (few_both (statement.row_few (choices_of_list g.initializer.parts) g.initializer.parts (few_same (choices_of_list g.initializer.parts)))
    (few_both (few_then (few_both (fields_body_few w k g.fields) h) (few_behind (few_same (choices_of_list g.fields.parts)))) (few_same (choices_of_bodies g.bodies)))) i)

pub class_few : (w : Setting) (c : ℕ) (k : ClassSyntax) → Yields (class_bodies w c k) (λ b. Fewer (choices_of_class b) (members_signs k.members))
unfolding class_bodies
class_few w c k =
    let ks = members_signs k.members in
    let P : ClassBodies → Type 0 = λ b. Fewer (choices_of_class b) ks in
    of_choice k.is_interface (of_interface w c k) (of_class w c k) P
    (then_found (members w c k (none_yet c k) k.members) _ (FewSoFar ks) P (members_few [] w c k (none_yet c k) k.members (few_none [])) (λ g h.
    given P (record { bodies = g.bodies; initializer = None }) (few_then (few_right (choices_of_list g.initializer.parts) (few_right (choices_of_list g.fields.parts) (few_same (choices_of_bodies g.bodies)))) h)))
    (then_found (implied_constructor w c k) _ (FewBodies []) P (implied_few w c k) (λ bs x.
    then_found (members w c k (none_yet c k) k.members) _ (FewSoFar ks) P (members_few [] w c k (none_yet c k) k.members (few_none [])) (λ g h.
    given P (finished w k bs g) (finished_few ks w k bs g x h))))

pub record FewOfAll (ks : List ℕ) (b : Bodies) : Type 0 where
  pub few : Fewer (choices_of_bodies b.initializers ++ choices_of_bodies b.methods) ks

pub bodies_few : (w : Setting) (c : ℕ) (ks : List ClassSyntax) → Yields (bodies_from w c ks) (FewOfAll (classes_signs ks))
unfolding bodies_from
bodies_few w c [] = given (FewOfAll []) no_bodies (record { few = few_none [] })
bodies_few w c (k ∷ rest) =
    let P : Bodies → Type 0 = FewOfAll (members_signs k.members ++ classes_signs rest) in
    then_found (class_bodies w c k) _ (λ b. Fewer (choices_of_class b) (members_signs k.members)) P (class_few w c k) (λ x h.
    then_found (bodies_from w (suc c) rest) _ (FewOfAll (classes_signs rest)) P (bodies_few w (suc c) rest) (λ xs y.
    let Q : List ℕ → Type 0 = λ zs. Fewer ((choices_of_body x.initializer ++ choices_of_bodies xs.initializers) ++ zs) (members_signs k.members ++ classes_signs rest) in
    given P (and_more x xs) (record {
      few = subst Q (sym (bodies_both x.bodies xs.methods))
          (few_paired (choices_of_body x.initializer) (choices_of_bodies xs.initializers) (choices_of_bodies x.bodies) (choices_of_bodies xs.methods) h y.few);
    })))
