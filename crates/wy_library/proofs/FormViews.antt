-- What the expressions in memory say that the library's bodies are made of.
use Rattle.std.proofs.Common.{◌≡◌, ap, sym, ◌∙◌, map, ℕ, Some}
use Rattle.std.specs.Prelude.{None as Absent}
use Rattle.std.specs.declared.alloc.Global.{Global}
use Rattle.std.specs.declared.boxed.Box.{Box}
use Rattle.std.specs.declared.vec.Vec.{Vec}
use Rattle.wy_kernel.specs.declared.operator.BinOp.{BinOp}
use Rattle.wy_kernel.specs.declared.types.Ty.{Ty}
use Rattle.wy_kernel.specs.declared.form.CallForm.{CallForm}
use Rattle.wy_kernel.specs.declared.form.LibOp.{LibOp}
use Rattle.wy_kernel.specs.declared.form.Const.{Const}
use Rattle.wy_kernel.specs.declared.form.Expr.{Expr}
use Rattle.wy_kernel.specs.declared.form.Place.{Place}
use Rattle.wy_kernel.specs.declared.form.Expr.TheOpen as layer
use Rattle.wy_kernel.specs.declared.form.Expr.TheVariants as form
use Rattle.wy_kernel.specs.declared.form.Place.TheVariants as places
use Rattle.wy_kernel.specs.declared.form.Expr.TheFolds.{fold-roll-Expr, fold-roll-Place}
use Rattle.wy_kernel.specs.Form as plain
use Rattle.wy_kernel.specs.View.{constant_of, row_of, expression_step, place_step, expression}
use Rattle.wy_kernel.specs.View.{place as place_seen, act, statement}
use Rattle.wy_kernel.specs.declared.form.Stmt.{Stmt}
use Rattle.wy_kernel.specs.declared.form.StmtForm.TheVariants as act_form
use Rattle.wy_kernel.proofs.Views.{view_if}

pub view_call_on : (kind : CallForm) (method : ℕ) (receiver : Box Expr Global) (ty : Ty) (args : Vec Expr Global) (site : ℕ) → expression (form.Call kind method (Some receiver) ty args site) ≡ plain.Call kind method (plain.the (expression receiver.value)) ty (row_of (map expression args.items)) site
unfolding expression place_seen
view_call_on kind method receiver ty args site = ap expression (sym (form.rolls-Call kind method (Some receiver) ty args site)) ∙ fold-roll-Expr plain.Expression plain.Place expression_step place_step (layer.Call kind method (Some receiver) ty args site)

-- an `if` without `else`
pub view_guard : (test : Expr) (main : Box Stmt Global) → act (act_form.If test main Absent) ≡ plain.If (expression test) (statement main.value) plain.nothing
view_guard test main = view_if test main Absent
