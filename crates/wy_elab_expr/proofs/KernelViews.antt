-- What a kernel form in memory says where a part that may be absent is there, or is not.
use Rattle.std.proofs.Common.{◌≡◌, map, ℕ, Bool, Option, Some}
use Rattle.std.specs.Prelude.{None as Absent}
use Rattle.std.specs.declared.alloc.Global.{Global}
use Rattle.std.specs.declared.boxed.Box.{Box}
use Rattle.std.specs.declared.vec.Vec.{Vec}
use Rattle.wy_kernel.specs.declared.operator.Primitive.{Primitive}
use Rattle.wy_kernel.specs.declared.operator.BinOp.{BinOp}
use Rattle.wy_kernel.specs.declared.types.Ty.{Ty}
use Rattle.wy_kernel.specs.declared.form.CondForm.{CondForm}
use Rattle.wy_kernel.specs.declared.form.CallForm.{CallForm}
use Rattle.wy_kernel.specs.declared.form.Expr.{Expr}
use Rattle.wy_kernel.specs.declared.form.Place.{Place}
use Rattle.wy_kernel.specs.declared.form.Expr.TheVariants as form
use Rattle.wy_kernel.specs.Form as plain
use Rattle.wy_kernel.specs.View.{row_of, expression}
use Rattle.wy_kernel.specs.View.{place as place_seen}
use Rattle.wy_kernel.proofs.ExpressionViews.{view_upd, view_cond, view_call}

pub view_upd_value : (place : Place) (op : BinOp) (value : Box Expr Global) (value_ty ty : Ty) (wide : Option Primitive) (gives_old : Bool) (site : ℕ) → expression (form.Upd place op (Some value) value_ty ty wide gives_old site) ≡ plain.Upd (place_seen place) op (plain.the (expression value.value)) value_ty ty wide gives_old site
view_upd_value place op value value_ty ty wide gives_old site = view_upd place op (Some value) value_ty ty wide gives_old site

pub view_upd_step : (place : Place) (op : BinOp) (value_ty ty : Ty) (wide : Option Primitive) (gives_old : Bool) (site : ℕ) → expression (form.Upd place op Absent value_ty ty wide gives_old site) ≡ plain.Upd (place_seen place) op plain.absent value_ty ty wide gives_old site
view_upd_step place op value_ty ty wide gives_old site = view_upd place op Absent value_ty ty wide gives_old site

pub view_cond_choice : (kind : CondForm) (test main other : Box Expr Global) (site : ℕ) → expression (form.Cond kind test (Some main) (Some other) site) ≡ plain.Cond kind (expression test.value) (plain.the (expression main.value)) (plain.the (expression other.value)) site
view_cond_choice kind test main other site = view_cond kind test (Some main) (Some other) site

pub view_cond_first : (kind : CondForm) (test main : Box Expr Global) (site : ℕ) → expression (form.Cond kind test (Some main) Absent site) ≡ plain.Cond kind (expression test.value) (plain.the (expression main.value)) plain.absent site
view_cond_first kind test main site = view_cond kind test (Some main) Absent site

pub view_cond_second : (kind : CondForm) (test other : Box Expr Global) (site : ℕ) → expression (form.Cond kind test Absent (Some other) site) ≡ plain.Cond kind (expression test.value) plain.absent (plain.the (expression other.value)) site
view_cond_second kind test other site = view_cond kind test Absent (Some other) site

pub view_call_on : (kind : CallForm) (method : ℕ) (receiver : Box Expr Global) (ty : Ty) (args : Vec Expr Global) (site : ℕ) → expression (form.Call kind method (Some receiver) ty args site) ≡ plain.Call kind method (plain.the (expression receiver.value)) ty (row_of (map expression args.items)) site
view_call_on kind method receiver ty args site = view_call kind method (Some receiver) ty args site

pub view_call_static : (kind : CallForm) (method : ℕ) (ty : Ty) (args : Vec Expr Global) (site : ℕ) → expression (form.Call kind method Absent ty args site) ≡ plain.Call kind method plain.absent ty (row_of (map expression args.items)) site
view_call_static kind method ty args site = view_call kind method Absent ty args site
