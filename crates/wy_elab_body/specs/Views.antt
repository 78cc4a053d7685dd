-- What the code of this crate gives, as the definitions see it.
use Rattle.std.specs.Prelude.{◌≡◌, ℕ, List, [], ◌∷◌, map, Option, option_map, Result, Ok, Err, string_bytes}
use Rattle.std.specs.declared.alloc.Global.{Global}
use Rattle.std.specs.declared.boxed.Box.{Box}
use Rattle.wy_syntax.specs.declared.statement.Block.{Block}
use Rattle.wy_syntax.specs.Syntax as source
use Rattle.wy_syntax.specs.View.{block_of, last_of}
use Rattle.std.specs.declared.vec.Vec.{Vec}
use Rattle.wy_kernel.specs.declared.form.Expr.{Expr}
use Rattle.wy_kernel.specs.declared.form.Stmt.{Stmt}
use Rattle.wy_kernel.specs.Form as kernel
use Rattle.wy_kernel.specs.declared.form.Catch.{Catch}
use Rattle.wy_kernel.specs.declared.form.Body.{Body}
use Rattle.wy_kernel.specs.Program as plain_program
use Rattle.wy_kernel.specs.View.{local_of, body_of, statement, statements_of, clause, clauses_of, test_of}
use Rattle.wy_constant.specs.declared.rule.TypeError.{TypeError}
use Rattle.wy_constant.specs.Refusal.{Refusal, Fails}
use Rattle.wy_constant.specs.Scope.{FixedText}
use Rattle.wy_elab_body.specs.declared.making.Making as memory
use Rattle.wy_elab_body.specs.Making.{Making}
use Rattle.wy_table.specs.ClassTable.{table_of}
use Rattle.wy_elab_expr.specs.Operators.{Settles}
use Rattle.wy_elab_body.specs.declared.place.Role.{Role}
use Rattle.wy_elab_body.specs.declared.setting.Setting as memory_setting
use Rattle.wy_elab_body.specs.Places.{at, number_at}
use Rattle.wy_elab_body.specs.Statements.{Setting, Clause, joined}
use Rattle.wy_elab_body.specs.declared.around.Outcome as memory_outcome
use Rattle.wy_elab_body.specs.declared.around.Outcome.TheVariants as outcomes
use Rattle.wy_elab_body.specs.declared.around.Loop as memory_loop
use Rattle.wy_elab_body.specs.declared.around.Label as memory_label
use Rattle.wy_elab_body.specs.declared.around.Around as memory_around
use Rattle.wy_elab_body.specs.Parts.{Outcome, NoValue, ValueOf, NoReturn}
use Rattle.wy_elab_body.specs.Jumps.{Around, Loop, Label}

-- a body with the texts that forms hold so far
abbrev pub making_of : memory.Making → List FixedText → Making
making_of m texts = record { scope = m.scope; locals = map local_of m.locals.items; texts = texts }

-- what a function returned, seen by a view, and the body after it, are what the definition gives; want of memory is free
abbrev pub MakesTo : {X A : Type 0} → (X → A) → Result X TypeError → Making → Result (A × Making) Refusal → Type 0
MakesTo see (Ok x) after given = given ≡ Ok (see x, after)
MakesTo see (Err e) after given = Fails e given

-- ---- what stands around a statement

abbrev pub outcome_of : memory_outcome.Outcome → Outcome
outcome_of outcomes.NoValue = NoValue
outcome_of (outcomes.ValueOf ty) = ValueOf ty
outcome_of outcomes.NoReturn = NoReturn

abbrev pub loop_of : memory_loop.Loop → Loop
loop_of l = record { number = l.number; body = l.body }

abbrev pub label_of : memory_label.Label → Label
label_of l = record { name = string_bytes l.name; number = l.number; loop_body = l.loop_body }

abbrev pub around_of : memory_around.Around → Around
around_of a = record {
  body = a.body;
  outcome = outcome_of a.outcome;
  enclosing = a.enclosing.items;
  catcher = a.catcher;
  innermost_loop = option_map loop_of a.innermost_loop;
  labels = map label_of a.labels.items;
}

-- a test that stands in another form, if there is one
abbrev pub inner_test : Option (Box Expr Global) → kernel.Part
inner_test test = test_of (option_map (λ e. e.value) test)

-- ---- parts of source statements that may be absent

abbrev pub last_seen : Option Block → source.Last
last_seen b = last_of (option_map block_of b)

-- ---- what bodies are made by

-- the table and the numbers in memory are those of w
pub record IsSetting (s : memory_setting.Setting) (w : Setting) : Type 0 where
  pub table : w.table ≡ table_of s.table.now
  pub settled : Settles w.table w.judgement
  pub numbers : (site : ℕ) (role : Role) → number_at s.numbers.places.items (at site role) ≡ number_at w.places (at site role)

abbrev pub statements_seen : Vec Stmt Global → List kernel.Statement
statements_seen all = map statement all.items

abbrev pub row_seen : Vec Stmt Global → kernel.Statements
row_seen all = statements_of (map statement all.items)

abbrev pub bodies_seen : Vec (Option Body) Global → List (Option plain_program.Body)
bodies_seen all = map (option_map body_of) all.items

abbrev pub clauses_seen : Vec Catch Global → kernel.Catches
clauses_seen all = clauses_of (map clause all.items)

-- a clause of a `try` in memory, without the site of its parameter
abbrev pub clause_seen : Catch → Clause
clause_seen c = record { class = c.class; local = c.local; block = statement c.block }

-- what is given behind statements, or clauses, that are there already
abbrev pub behind_row : List kernel.Statement → Result (kernel.Statements × Making) Refusal → Result (kernel.Statements × Making) Refusal
behind_row front (Ok p) = Ok (joined front p.0, p.1)
behind_row front (Err e) = Err e

abbrev pub in_front : List (kernel.Catches → kernel.Catches) → kernel.Catches → kernel.Catches
in_front [] rest = rest
in_front (c ∷ more) rest = c (in_front more rest)

abbrev pub behind_clauses : List (kernel.Catches → kernel.Catches) → Result (kernel.Catches × Making) Refusal → Result (kernel.Catches × Making) Refusal
behind_clauses front (Ok p) = Ok (in_front front p.0, p.1)
behind_clauses front (Err e) = Err e
