-- An expression in memory whose operands are there, by its form.
use Rattle.std.proofs.Common.{◌≡◌, ◌∙◌, ℕ, List, length, refl, ap, sym, subst, Bool, Option, Result}
use Rattle.wy_kernel.specs.Program.{Program}
use Rattle.wy_kernel.specs.Form.{Expression}
use Rattle.wy_kernel.specs.Form as plain
use Rattle.wy_kernel.specs.View.{expression, row_of}
use Rattle.wy_kernel.specs.declared.types.Ty.{Ty}
use Rattle.std.proofs.lemmas.List.{length-map}
use Rattle.wy_kernel.specs.declared.form.CondForm.{CondForm}
use Rattle.wy_kernel.specs.declared.form.Expr.{Expr}
use Rattle.wy_kernel.specs.declared.form.LibOp.{LibOp}
use Rattle.wy_kernel.specs.declared.operator.BinOp.{BinOp}
use Rattle.wy_kernel.specs.declared.operator.Primitive.{Primitive}
use Rattle.wy_steps.specs.Sets.{nothing}
use Rattle.wy_steps.specs.State.{State, Carried, ◌>>=◌, go_on, return}
use Rattle.wy_meaning.specs.World.{World}
use Rattle.wy_meaning.specs.Run.{world}
use Rattle.wy_meaning.specs.Text.{cat, concatenated}
use Rattle.wy_meaning.specs.Library.{library, library_form}
use Rattle.wy_state.specs.declared.parts.Halt.{Halt}
use Rattle.wy_operands.specs.Values.{Values, at, top, last_many, under_many}
use Rattle.wy_work.specs.Expressions.{put_on}
use Rattle.wy_work.specs.Tasks.{MachineState, Does}
use Rattle.wy_work.specs.Listed.{IsNew, IsTestOf, IsUpdate, rows}
use Rattle.wy_work.specs.Operands.{evaluated, list_of}
use Rattle.wy_work.proofs.Finds.{all_evaluated}
use Rattle.wy_work.proofs.Places.{Operating, put_as}
use Rattle.wy_work.proofs.Views.{listed_row}

pub update_given : (x : Expression) (place : plain.Place) (op : BinOp) (value : plain.Part) (value_ty ty : Ty) (wide : Option Primitive) (gives_old : Bool) (site : ℕ) → x ≡ plain.Upd place op value value_ty ty wide gives_old site → IsUpdate x place
update_given x place op value value_ty ty wide gives_old site is = rw is refl

pub test_given : (x test same : Expression) (kind : CondForm) (main other : plain.Part) (site : ℕ) → x ≡ plain.Cond kind test main other site → same ≡ test → IsTestOf x same
test_given x test same kind main other site is eq = rw is (sym eq)

pub new_given : (x : Expression) (class site : ℕ) (constructor_of : Option ℕ) (args : plain.Row) → x ≡ plain.New class constructor_of args site → IsNew x class site
new_given x class site constructor_of args is = rw is (refl, refl)

-- so many arguments are in a row as in memory
pub row_length : (es : List Expr) (count : ℕ) → count ≡ length es → length (list_of (row_of (rows es))) ≡ count
row_length es count is = ap length (listed_row (rows es)) ∙ length-map es expression ∙ sym is

module _ (p : Program) (m n : MachineState) (r : Result (Unit {0}) Halt) (x : Expression) where
  -- the same expression
  pub operating_by : (y : Expression) → x ≡ y → Operating p y m r n → Operating p x m r n
  operating_by y is a = subst (λ z. Operating p z m r n) (sym is) a

  cat_is : (w : World nothing) (a b : Carried nothing) (site : ℕ) (s : State nothing) → cat w (return a) (return b) site s ≡ concatenated w site a b s
  unfolding cat ◌>>=◌ go_on return
  cat_is w a b site s = refl

  pub cat_by : (left right : Expression) (left_ty right_ty : Ty) (site : ℕ) → x ≡ plain.Cat left right left_ty right_ty site → Does p (λ w vs. put_on (under_many 2 vs) (concatenated w site (at 1 vs) (top vs))) m r n → Operating p x m r n
  cat_by left right left_ty right_ty site is a =
      operating_by (plain.Cat left right left_ty right_ty site) is
      (put_as p m (cat (world p m.depth) (return (at 1 m.values)) (return (top m.values)) site) (concatenated (world p m.depth) site (at 1 m.values) (top m.values)) (under_many 2 m.values) r n (cat_is (world p m.depth) (at 1 m.values) (top m.values) site) a)

  library_is : (w : World nothing) (op : LibOp) (vs : Values) (site : ℕ) (s : State nothing) → library_form w op (evaluated vs) site s ≡ library w op site vs s
  unfolding library_form ◌>>=◌ go_on return
  library_is w op vs site s = ap (λ o. go_on o (λ us. library w op site us)) (all_evaluated vs s)

  pub library_by : (op : LibOp) (args : List Expression) (site count : ℕ) → x ≡ plain.Lib op (row_of args) site → length (list_of (row_of args)) ≡ count → Does p (λ w vs. put_on (under_many count vs) (library w op site (last_many count vs))) m r n → Operating p x m r n
  library_by op args site count is many a =
      let w = world p m.depth in
      let k = length (list_of (row_of args)) in
      operating_by (plain.Lib op (row_of args) site) is
      (put_as p m (library_form w op (evaluated (last_many k m.values)) site) (library w op site (last_many k m.values)) (under_many k m.values) r n (library_is w op (last_many k m.values) site)
      (subst (λ z. Does p (λ w vs. put_on (under_many z vs) (library w op site (last_many z vs))) m r n) (sym many) a))
