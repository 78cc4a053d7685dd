-- Where statements have apart what decides and what is tested, no site is both.
use Rattle.std.proofs.Common.{◌≡◌, sym, subst, inl, inr, ℕ, true, List, [], ◌∷◌, ◌++◌}
use Rattle.std.specs.Prelude.{Option, Some, None}
use Rattle.std.proofs.lemmas.List.Elements.{All-head, All-tail}
use Rattle.wy_kernel.specs.Form.{Expression, Const, Str, Read, Set, Upd, Un, Bin, Conv, Cast, InstanceOf, Cond, New, NewArray, Call, Cat, Lib, Place, Local, Static, Field, Elem, Part, absent, the, Row, none, more, Statement, Stmt, Act, Block, Eval, Declare, If, While, Do, For, Labelled, Jump, Return, Throw, Try, Print, Other, nothing, this, Statements, done, first, Catches, uncaught, catch}
use Rattle.wy_kernel.specs.Program.{Program, Body}
use Rattle.wy_kernel.specs.Statements.{statements, statements_within, statements_of_other, statements_of_all, statements_of_catches, statements_of_body, statements_of_bodies, statements_of}
use Rattle.law_structure.specs.Numbers.{site_of}
use Rattle.law_structure.specs.Reaches.{is_testing, is_testing_act}
use Rattle.law_structure.specs.Sites.{deciding, deciding_in_place, deciding_in_part, deciding_in_row, deciding_in_act, deciding_in_statement, TestsStandApart}
use Rattle.law_structure.proofs.Sound.{Numbers}
use Rattle.law_structure.proofs.Dense.{In}
use Rattle.law_structure.proofs.Numbered.{contains_in}
use Rattle.law_structure.proofs.Clear.{Clear, ClearPlace, ClearPart, ClearRow}
use Rattle.law_structure.proofs.Apart.{Apart, ApartAct, ApartOther, ApartAll, ApartCatches}
use Rattle.law_structure.proofs.ApartClasses.{ApartBody, ApartBodies}

abbrev pub EachIn : {X : Type 0} → (X → Type 0) → List X → Type 0
EachIn P xs = (x : _) → In x xs → P x

pub both_in : {X : Type 0} (P : X → Type 0) (xs ys : List X) → EachIn P xs → EachIn P ys → EachIn P (xs ++ ys)
both_in P [] ys h i x m = i x m
both_in P (y ∷ xs) ys h i x (inl e) = h x (inl e)
both_in P (y ∷ xs) ys h i x (inr m) = both_in P xs ys (λ z n. h z (inr n)) i x m

pub head_in : {X : Type 0} (P : X → Type 0) (y : X) (ys : List X) → P y → EachIn P ys → EachIn P (y ∷ ys)
head_in P y ys h i x (inl e) = subst P (sym e) h
head_in P y ys h i x (inr m) = i x m

pub none_in_it : {X : Type 0} (P : X → Type 0) → EachIn P []
none_in_it P x m = absurd m

-- ---- expressions

mutual
  clear_sites : (S : Numbers) (e : Expression) → Clear S e → EachIn S (deciding e)
  clear_sites S (Const value) h = none_in_it S
  clear_sites S (Str text) h = none_in_it S
  clear_sites S (Read place) h = place_sites S place h
  clear_sites S (Set place value site) h = both_in S (deciding_in_place place) (deciding value) (place_sites S place h.0) (clear_sites S value h.1)
  clear_sites S (Upd place op value value_ty ty wide gives_old site) h = both_in S (deciding_in_place place) (deciding_in_part value) (place_sites S place h.0) (part_sites S value h.1)
  clear_sites S (Un op operand) h = clear_sites S operand h
  clear_sites S (Bin op left right site) h = both_in S (deciding left) (deciding right) (clear_sites S left h.0) (clear_sites S right h.1)
  clear_sites S (Conv to operand) h = clear_sites S operand h
  clear_sites S (Cast ty operand site) h = clear_sites S operand h
  clear_sites S (InstanceOf ty operand) h = clear_sites S operand h
  clear_sites S (Cond form test if_true if_false site) h =
      head_in S site (deciding test ++ (deciding_in_part if_true ++ deciding_in_part if_false)) h.0
      (both_in S (deciding test) (deciding_in_part if_true ++ deciding_in_part if_false) (clear_sites S test h.1) (both_in S (deciding_in_part if_true) (deciding_in_part if_false) (part_sites S if_true h.2) (part_sites S if_false h.3)))
  clear_sites S (New class constructor args site) h = row_sites S args h
  clear_sites S (NewArray ty dims elements element_sites site) h = both_in S (deciding_in_row dims) (deciding_in_row elements) (row_sites S dims h.0) (row_sites S elements h.1)
  clear_sites S (Call form method receiver ty args site) h = both_in S (deciding_in_part receiver) (deciding_in_row args) (part_sites S receiver h.0) (row_sites S args h.1)
  clear_sites S (Cat left right left_ty right_ty site) h = both_in S (deciding left) (deciding right) (clear_sites S left h.0) (clear_sites S right h.1)
  clear_sites S (Lib op args site) h = row_sites S args h

  place_sites : (S : Numbers) (p : Place) → ClearPlace S p → EachIn S (deciding_in_place p)
  place_sites S (Local index) h = none_in_it S
  place_sites S (Static field site) h = none_in_it S
  place_sites S (Field object field site) h = clear_sites S object h
  place_sites S (Elem array index site) h = both_in S (deciding array) (deciding index) (clear_sites S array h.0) (clear_sites S index h.1)

  part_sites : (S : Numbers) (p : Part) → ClearPart S p → EachIn S (deciding_in_part p)
  part_sites S absent h = none_in_it S
  part_sites S (the e) h = clear_sites S e h

  row_sites : (S : Numbers) (r : Row) → ClearRow S r → EachIn S (deciding_in_row r)
  row_sites S none h = none_in_it S
  row_sites S (more e rest) h = both_in S (deciding e) (deciding_in_row rest) (clear_sites S e h.0) (row_sites S rest h.1)

-- ---- statements

-- what holds of a statement by itself
abbrev pub Own : Numbers → Numbers → Statement → Type 0
Own S T s = (is_testing s ≡ true → T (site_of s)) × EachIn S (deciding_in_statement s)

own_test : (S T : Numbers) (site : ℕ) (act : Act) → ApartAct S T site act → is_testing_act act ≡ true → T site
own_test S T site (If test x y) h e = h.0
own_test S T site (While test x) h e = h.0
own_test S T site (Do x test) h e = h.0
own_test S T site (For inits test updates x) h e = h.0
own_test S T site (Block parts) h e = absurd cc
own_test S T site (Eval value) h e = absurd cc
own_test S T site (Declare local) h e = absurd cc
own_test S T site (Labelled x) h e = absurd cc
own_test S T site (Jump target) h e = absurd cc
own_test S T site (Return value) h e = absurd cc
own_test S T site (Throw value) h e = absurd cc
own_test S T site (Try x catches y) h e = absurd cc
own_test S T site (Print operand ty ends_line at) h e = absurd cc

own_sites : (S T : Numbers) (site : ℕ) (act : Act) → ApartAct S T site act → EachIn S (deciding_in_act act)
own_sites S T site (If test x y) h = clear_sites S test h.1
own_sites S T site (While test x) h = clear_sites S test h.1
own_sites S T site (Do x test) h = clear_sites S test h.1
own_sites S T site (For inits test updates x) h = part_sites S test h.1
own_sites S T site (Block parts) h = none_in_it S
own_sites S T site (Eval value) h = clear_sites S value h
own_sites S T site (Declare local) h = none_in_it S
own_sites S T site (Labelled x) h = none_in_it S
own_sites S T site (Jump target) h = none_in_it S
own_sites S T site (Return value) h = part_sites S value h
own_sites S T site (Throw value) h = clear_sites S value h
own_sites S T site (Try x catches y) h = none_in_it S
own_sites S T site (Print operand ty ends_line at) h = part_sites S operand h

mutual
  apart_each : (S T : Numbers) (k : Statement) → Apart S T k → EachIn (Own S T) (statements k)
  apart_each S T (Stmt number site askable reach act) h =
      head_in (Own S T) (Stmt number site askable reach act) (statements_within act) (own_test S T site act h, own_sites S T site act h) (act_each S T site act h)

  act_each : (S T : Numbers) (site : ℕ) (act : Act) → ApartAct S T site act → EachIn (Own S T) (statements_within act)
  act_each S T site (Block parts) h = all_each S T parts h
  act_each S T site (Eval value) h = none_in_it (Own S T)
  act_each S T site (Declare local) h = none_in_it (Own S T)
  act_each S T site (If test x y) h = both_in (Own S T) (statements x) (statements_of_other y) (apart_each S T x h.2) (other_each S T y h.3)
  act_each S T site (While test x) h = apart_each S T x h.2
  act_each S T site (Do x test) h = apart_each S T x h.2
  act_each S T site (For inits test updates x) h =
      both_in (Own S T) (statements_of_all inits) (statements_of_all updates ++ statements x) (all_each S T inits h.2) (both_in (Own S T) (statements_of_all updates) (statements x) (all_each S T updates h.3) (apart_each S T x h.4))
  act_each S T site (Labelled x) h = apart_each S T x h
  act_each S T site (Jump target) h = none_in_it (Own S T)
  act_each S T site (Return value) h = none_in_it (Own S T)
  act_each S T site (Throw value) h = none_in_it (Own S T)
  act_each S T site (Try x catches y) h =
      both_in (Own S T) (statements x) (statements_of_catches catches ++ statements_of_other y) (apart_each S T x h.0) (both_in (Own S T) (statements_of_catches catches) (statements_of_other y) (catches_each S T catches h.1) (other_each S T y h.2))
  act_each S T site (Print operand ty ends_line at) h = none_in_it (Own S T)

  other_each : (S T : Numbers) (x : Other) → ApartOther S T x → EachIn (Own S T) (statements_of_other x)
  other_each S T nothing h = none_in_it (Own S T)
  other_each S T (this s) h = apart_each S T s h

  all_each : (S T : Numbers) (x : Statements) → ApartAll S T x → EachIn (Own S T) (statements_of_all x)
  all_each S T done h = none_in_it (Own S T)
  all_each S T (first s rest) h = both_in (Own S T) (statements s) (statements_of_all rest) (apart_each S T s h.0) (all_each S T rest h.1)

  catches_each : (S T : Numbers) (x : Catches) → ApartCatches S T x → EachIn (Own S T) (statements_of_catches x)
  catches_each S T uncaught h = none_in_it (Own S T)
  catches_each S T (catch class local site block rest) h = both_in (Own S T) (statements block) (statements_of_catches rest) (apart_each S T block h.0) (catches_each S T rest h.1)

body_each : (S T : Numbers) (b : Option Body) → ApartBody S T b → EachIn (Own S T) (statements_of_body b)
body_each S T None h = none_in_it (Own S T)
body_each S T (Some b) h = apart_each S T b.block h

bodies_each : (S T : Numbers) (bs : List (Option Body)) → ApartBodies S T bs → EachIn (Own S T) (statements_of_bodies bs)
bodies_each S T [] h = none_in_it (Own S T)
bodies_each S T (b ∷ rest) h = both_in (Own S T) (statements_of_body b) (statements_of_bodies rest) (body_each S T b (All-head (ApartBody S T) b rest h)) (bodies_each S T rest (All-tail (ApartBody S T) b rest h))

pub tests_stand_apart : (S T : Numbers) → ((n : ℕ) → S n → T n → ⊥) → (p : Program) → ApartBodies S T p.bodies × ApartBodies S T p.init_bodies → TestsStandApart p
tests_stand_apart S T never p h s t site cs ct testing decides same =
    let each = both_in (Own S T) (statements_of_bodies p.bodies) (statements_of_bodies p.init_bodies) (bodies_each S T p.bodies h.0) (bodies_each S T p.init_bodies h.1) in
    let tested : T (site_of s) = (each s (contains_in (statements_of p) s cs)).0 testing in
    let decided : S site = (each t (contains_in (statements_of p) t ct)).1 site (contains_in (deciding_in_statement t) site decides) in
    never site decided (subst T same tested)
