-- The ways of a program: its links, those of a call that the class of its receiver decides taken as one. A link's site is that of its
-- call, its initialization or its catch, else that of its source.
use Rattle.std.specs.Prelude.{ℕ, zero, suc, Bool, true, false, if◌then◌else◌, List, [], ◌∷◌, ◌++◌, length, Option, Some}
use Rattle.std.specs.Prelude.{None as Absent}
use Rattle.std.specs.List.{flat_map, range_with_len}
use Rattle.wy_kernel.specs.declared.types.Base.TheVariants.{Class as Named}
use Rattle.wy_kernel.specs.declared.types.Ty.{Ty}
use Rattle.wy_kernel.specs.declared.types.Ty.TheVariants.{Of}
use Rattle.wy_kernel.specs.declared.form.CallForm.{CallForm}
use Rattle.wy_kernel.specs.declared.form.CallForm.TheVariants as call_form
use Rattle.wy_kernel.specs.Form.{Expression, Read, Set, Upd, Cond, New, Call, Cat, Place, Static, Part, absent, the, Statement, Stmt, Act, Block, Eval, If, While, Do, For, Labelled, Return, Throw, Try, Print, Other, nothing, this, Statements, done, first, Catches, uncaught, catch}
use Rattle.wy_kernel.specs.Program.{Program, Body, class, method, field, body, init_body, dispatch, is_source, object_class}
use Rattle.wy_kernel.specs.Statements.{number_of, statements_of}
use Rattle.wy_static.specs.declared.point.Point.{Point}
use Rattle.wy_static.specs.declared.point.Point.TheVariants as point
use Rattle.wy_static.specs.declared.point.LinkKind.{LinkKind}
use Rattle.wy_static.specs.declared.point.LinkKind.TheVariants as kind
use Rattle.wy_static.specs.declared.way.Owner.{Owner}
use Rattle.wy_static.specs.declared.way.Decides.{Decides}
use Rattle.wy_static.specs.declared.way.Decides.TheVariants.{Class, Object, Nothing}
use Rattle.wy_static.specs.declared.way.Goal.{Goal}
use Rattle.wy_static.specs.declared.way.Goal.TheVariants.{Known, Chosen}
use Rattle.wy_static.specs.declared.way.Way.{Way}
use Rattle.wy_static.specs.Forms.{forms}

abbrev pub owner_of : Statement → Owner
owner_of (Stmt number site askable reach act) = record { point = point.Statement number; site = site }

-- a way that has its source's site
abbrev pub way : LinkKind → Owner → Point → Way
way k o q = record { kind = k; from = o.point; goal = Known q; site = o.site }

-- a way that is taken where its source calls or initializes
abbrev pub call_at : Owner → ℕ → Goal → Way
call_at o site goal = record { kind = kind.Call; from = o.point; goal = goal; site = site }

-- ---- statements (JLS 14)

abbrev pub to : LinkKind → Owner → Statement → List Way
to k o s = way k o (point.Statement (number_of s)) ∷ []

-- to the first of them, and then from each to the next one
abbrev pub in_order : LinkKind → Owner → Statements → List Way
in_order k o done = []
in_order k o (first s rest) = way k o (point.Statement (number_of s)) ∷ in_order kind.Next (owner_of s) rest

abbrev pub to_other : LinkKind → Owner → Other → List Way
to_other k o nothing = []
to_other k o (this s) = to k o s

-- into the body of a `for`, by its condition if it has one
abbrev pub by_test : Part → LinkKind
by_test absent = kind.Into
by_test (the e) = kind.Arm 1

abbrev pub catch_owner : ℕ → Owner
catch_owner site = record { point = point.Catch site; site = site }

-- to a clause at this site, and from it to its block
abbrev pub to_catch : Owner → ℕ → Statement → List Way
to_catch o site block = record { kind = kind.Catch; from = o.point; goal = Known (point.Catch site); site = site } ∷ to kind.Into (catch_owner site) block

abbrev pub to_catches : Owner → Catches → List Way
to_catches o uncaught = []
to_catches o (catch c local site block rest) = to_catch o site block ++ to_catches o rest

-- those between a statement and the statements directly in it
abbrev pub flow : Owner → Act → List Way
flow o (Block parts) = in_order kind.Into o parts
flow o (If test if_true if_false) = to (kind.Arm 1) o if_true ++ to_other (kind.Arm 0) o if_false
flow o (While test body) = to (kind.Arm 1) o body
flow o (Do body test) = to kind.Into o body
flow o (For inits test updates body) = in_order kind.Into o inits ++ (to (by_test test) o body ++ in_order kind.Next (owner_of body) updates)
flow o (Labelled body) = to kind.Into o body
flow o (Try main catches last) = to kind.Into o main ++ (to_catches o catches ++ to_other kind.Into o last)
flow o _ = []

-- ---- calls and initializations (JLS 12.4.1, 15.12.4)

-- a source class may be initialized, and a class of the library needs no initialization
abbrev pub initializing : Owner → ℕ → ℕ → List Way
initializing o c site = if is_source c then call_at o site (Known (point.Init c)) ∷ [] else []

abbrev pub calling : Owner → ℕ → ℕ → List Way
calling o m site = call_at o site (Known (point.Entry m)) ∷ []

-- the static type of a receiver decides a call: that of null and a primitive one receive none
abbrev pub decides : Ty → Decides
decides (Of (Named c) zero) = Class c
decides (Of base (suc brackets)) = Object
decides _ = Nothing

-- an array runs what Object runs
abbrev pub chosen : Program → Owner → ℕ → Decides → ℕ → List Way
chosen p o m (Class c) site = call_at o site (Chosen m c) ∷ []
chosen p o m Object site = calling o (dispatch p m object_class) site
chosen p o m Nothing site = []

abbrev pub choosing : Program → Owner → ℕ → Ty → ℕ → List Way
choosing p o m ty site = chosen p o m (decides ty) site

-- Object's `toString`
abbrev pub to_string : ℕ
to_string = 0

-- string conversion calls `toString` on what is an object (JLS 5.1.11)
abbrev pub converting : Program → Owner → Ty → ℕ → List Way
converting p o ty site = choosing p o to_string ty site

abbrev pub constructing : Owner → Option ℕ → ℕ → List Way
constructing o Absent site = []
constructing o (Some m) site = calling o m site

-- a read or a write of a static field may initialize the class that declares it
abbrev pub placing : Program → Owner → Place → List Way
placing p o (Static f site) = initializing o (field p f).class site
placing p o _ = []

-- `+=` on texts converts both sides; every other update converts none
abbrev pub updating : Program → Owner → Ty → Ty → Bool → ℕ → List Way
updating p o ty value_ty is_text site = if is_text then converting p o ty site ++ converting p o value_ty site else []

abbrev pub is_absent : {X : Type 0} → Option X → Bool
is_absent Absent = true
is_absent (Some x) = false

abbrev pub called : Program → Owner → CallForm → ℕ → Ty → ℕ → List Way
called p o call_form.Static m ty site = initializing o (method p m).class site ++ calling o m site
called p o call_form.Direct m ty site = calling o m site
called p o call_form.Chosen m ty site = choosing p o m ty site

abbrev pub arms : Owner → ℕ → List Way
arms o site = way (kind.Arm 1) o (point.Arm site 1) ∷ way (kind.Arm 0) o (point.Arm site 0) ∷ []

-- what a form leads to by itself, without the forms within it
abbrev pub form_ways : Program → Owner → Expression → List Way
form_ways p o (Read place) = placing p o place
form_ways p o (Set place value site) = placing p o place
form_ways p o (Upd place op value value_ty ty wide gives_old site) = placing p o place ++ updating p o ty value_ty (is_absent wide) site
form_ways p o (Cond form test if_true if_false site) = arms o site
form_ways p o (New c constructor args site) = initializing o c site ++ constructing o constructor site
form_ways p o (Call form m receiver ty args site) = called p o form m ty site
form_ways p o (Cat left right left_ty right_ty site) = converting p o left_ty site ++ converting p o right_ty site
form_ways p o _ = []

abbrev pub owned_ways : Program → Owner × Expression → List Way
owned_ways p x = form_ways p x.0 x.1

-- ---- a statement with its expressions

abbrev pub in_part : Owner → Part → List (Owner × Expression)
in_part o absent = []
in_part o (the e) = forms o e

-- the forms that a statement owns, and those in arms within them
abbrev pub act_forms : Owner → Act → List (Owner × Expression)
act_forms o (Eval value) = forms o value
act_forms o (If test if_true if_false) = forms o test
act_forms o (While test body) = forms o test
act_forms o (Do body test) = forms o test
act_forms o (For inits test updates body) = in_part o test
act_forms o (Return value) = in_part o value
act_forms o (Throw value) = forms o value
act_forms o (Print operand ty ends_line site) = in_part o operand
act_forms o _ = []

-- a print converts its operand
abbrev pub printing : Program → Owner → Act → List Way
printing p o (Print operand ty ends_line site) = converting p o ty site
printing p o _ = []

abbrev pub statement_ways : Program → Statement → List Way
statement_ways p (Stmt number site askable reach act) =
    let o : Owner = owner_of (Stmt number site askable reach act) in
    flow o act ++ (printing p o act ++ flat_map (owned_ways p) (act_forms o act))

-- ---- the program

-- main is called, and its class is initialized
abbrev pub start_ways : Program → List Way
start_ways p =
    let o : Owner = record { point = point.Start; site = (method p p.main).site } in
    calling o p.main o.site ++ initializing o (method p p.main).class (class p (method p p.main).class).site

abbrev pub into_body : Owner → Option Body → List Way
into_body o Absent = []
into_body o (Some b) = to kind.Into o b.block

abbrev pub entry_ways : Program → ℕ → List Way
entry_ways p m = into_body (record { point = point.Entry m; site = (method p m).site }) (body p m)

abbrev pub above_ways : Owner → Option ℕ → List Way
above_ways o Absent = []
above_ways o (Some d) = initializing o d o.site

-- a class's superclass is initialized before it (JLS 12.4.2)
abbrev pub init_ways : Program → ℕ → List Way
init_ways p c =
    let o : Owner = record { point = point.Init c; site = (class p c).site } in
    into_body o (init_body p c) ++ above_ways o (class p c).above

abbrev pub ways_of : Program → List Way
ways_of p =
    start_ways p
    ++ (flat_map (entry_ways p) (range_with_len 0 (length p.bodies))
    ++ (flat_map (init_ways p) (range_with_len 0 (length p.init_bodies))
    ++ flat_map (statement_ways p) (statements_of p)))
