-- Where each print ends a line by its site, it does so where a `println` stands, and there alone.
use Rattle.std.proofs.Common.{◌≡◌, ◌∙◌, refl, sym, ap, subst, arith, ℕ, Bool, true, false, ◌||◌, List, [], ◌∷◌, ◌++◌}
use Rattle.std.specs.Prelude.{◌==◌, Option, Some, None}
use Rattle.std.specs.List.{list_any}
use Rattle.std.proofs.lemmas.Bool.Decides.{nat_tests}
use Rattle.std.proofs.lemmas.List.Elements.{All-head, All-tail}
use Rattle.wy_kernel.specs.Form.{Statement, Stmt, Act, Print}
use Rattle.wy_kernel.specs.Program.{Program, Body}
use Rattle.wy_kernel.specs.Statements.{statements, statements_of_body, statements_of_bodies, statements_of}
use Rattle.wy_payload.specs.Bodies.{newline_in, newlines_of}
use Rattle.law_structure.proofs.EachBody.{BodyHas, BodiesHave}
use Rattle.law_in_range.specs.InRange.{PrintLined, StatementLined, Lined, LinesEnd}
use Rattle.wy_typing.proofs.Listed.{joined}

-- which sites end a line
abbrev Lines : Type 0
Lines = ℕ → Bool

-- the number is among these
abbrev has : List ℕ → Lines
has ns n = list_any (λ m. m == n) ns

has_first : (n : ℕ) (ns : List ℕ) → has (n ∷ ns) n ≡ true
has_first n ns = let same : (n == n) ≡ true = grind (arith, nat_tests) in ap (λ b. b || has ns n) same

later : (b c : Bool) → c ≡ true → (b || c) ≡ true
later true c e = refl
later false c e = e

has_behind : (ms ns : List ℕ) (n : ℕ) → has ns n ≡ true → has (ms ++ ns) n ≡ true
has_behind [] ns n e = e
has_behind (m ∷ ms) ns n e = later (m == n) (has (ms ++ ns) n) (has_behind ms ns n e)

either : (b c : Bool) (P : Type 0) → (b ≡ true → P) → (c ≡ true → P) → (b || c) ≡ true → P
either true c P h i e = h refl
either false c P h i e = i e

-- ---- what ends lines, and where

own_found : (E : Lines) (act : Act) (ns : List ℕ) (n : ℕ) → PrintLined E act → (has ns n ≡ true → E n ≡ true) → has (newline_in act ++ ns) n ≡ true → E n ≡ true
own_found E (Print operand ty true at) ns n h i e =
    either (at == n) (has ns n) (E n ≡ true) (λ f. let same : at ≡ n = grind (arith, nat_tests) in subst (λ (k : ℕ). E k ≡ true) same h) i e
own_found E _ ns n h i e = i e

-- no other site ends a line
none_other : (E : Lines) (all : List Statement) → Lined E all → (n : ℕ) → has (newlines_of all) n ≡ true → E n ≡ true
none_other E [] h n e = absurd (cc)
none_other E (Stmt number site askable reach act ∷ rest) h n e = own_found E act (newlines_of rest) n h.0 (none_other E rest h.1 n) e

module _ (E L : Lines) (less : (n : ℕ) → L n ≡ true → E n ≡ true) where
  not_there : (at : ℕ) (b : Bool) → L at ≡ b → E at ≡ false → L at ≡ false
  not_there at false f e = f
  not_there at true f e = absurd (let clash : true ≡ false = sym (less at f) ∙ e in cc)

  own_turned : (act : Act) (ns : List ℕ) → PrintLined E act → ((n : ℕ) → has (newline_in act ++ ns) n ≡ true → L n ≡ true) → PrintLined L act
  own_turned (Print operand ty true at) ns h more = more at (has_first at ns)
  own_turned (Print operand ty false at) ns h more = not_there at (L at) refl h
  own_turned _ ns h more = tt

  -- where these say so of more sites
  turned : (all : List Statement) → Lined E all → ((n : ℕ) → has (newlines_of all) n ≡ true → L n ≡ true) → Lined L all
  turned [] h more = tt
  turned (Stmt number site askable reach act ∷ rest) h more =
      (own_turned act (newlines_of rest) h.0 more, turned rest h.1 (λ n e. more n (has_behind (newline_in act) (newlines_of rest) n e)))

-- ---- bodies

abbrev LinedBody : Lines → Option Body → Type 0
LinedBody E b = BodyHas (λ s. Lined E (statements s)) b

abbrev pub LinedBodies : Lines → List (Option Body) → Type 0
LinedBodies E bs = BodiesHave (λ s. Lined E (statements s)) bs

body_lined : (E : Lines) (b : Option Body) → LinedBody E b → Lined E (statements_of_body b)
body_lined E None h = tt
body_lined E (Some b) h = h

bodies_lined : (E : Lines) (bs : List (Option Body)) → LinedBodies E bs → Lined E (statements_of_bodies bs)
bodies_lined E [] h = tt
bodies_lined E (b ∷ rest) h =
    joined (StatementLined E) (statements_of_body b) (statements_of_bodies rest) (body_lined E b (All-head (LinedBody E) b rest h)) (bodies_lined E rest (All-tail (LinedBody E) b rest h))

pub lines_end : (E : Lines) (p : Program) → LinedBodies E p.bodies × LinedBodies E p.init_bodies → LinesEnd (has (newlines_of (statements_of p))) p
lines_end E p h =
    let all = joined (StatementLined E) (statements_of_bodies p.bodies) (statements_of_bodies p.init_bodies) (bodies_lined E p.bodies h.0) (bodies_lined E p.init_bodies h.1) in
    turned E (has (newlines_of (statements_of p))) (none_other E (statements_of p) all) (statements_of p) all (λ n e. e)
