-- What the expressions and places in memory say, at each of their forms.
use Rattle.std.proofs.Common.{◌≡◌, ap, sym, ◌∙◌, map, ℕ, Bool, Option, Some}
use Rattle.std.specs.Prelude.{None as Absent}
use Rattle.std.specs.declared.alloc.Global.{Global}
use Rattle.std.specs.declared.boxed.Box.{Box}
use Rattle.std.specs.declared.vec.Vec.{Vec}
use Rattle.wy_kernel.specs.declared.operator.Primitive.{Primitive}
use Rattle.wy_kernel.specs.declared.operator.UnOp.{UnOp}
use Rattle.wy_kernel.specs.declared.operator.BinOp.{BinOp}
use Rattle.wy_kernel.specs.declared.types.Ty.{Ty}
use Rattle.wy_kernel.specs.declared.form.CondForm.{CondForm}
use Rattle.wy_kernel.specs.declared.form.CallForm.{CallForm}
use Rattle.wy_kernel.specs.declared.form.LibOp.{LibOp}
use Rattle.wy_kernel.specs.declared.form.Const.{Const}
use Rattle.wy_kernel.specs.declared.form.Expr.{Expr}
use Rattle.wy_kernel.specs.declared.form.Place.{Place}
use Rattle.wy_kernel.specs.declared.form.Expr.TheOpen as layer
use Rattle.wy_kernel.specs.declared.form.Expr.TheVariants as form
use Rattle.wy_kernel.specs.declared.form.Place.TheVariants as places
use Rattle.wy_kernel.specs.declared.form.Expr.TheFolds.{fold-roll-Expr, fold-roll-Place}
use Rattle.wy_kernel.specs.Form as plain
use Rattle.wy_kernel.specs.View.{constant_of, part_seen, present, row_of, expression_step, place_step, expression}
use Rattle.wy_kernel.specs.View.{place as place_seen}

pub view_const : (value : Const) → expression (form.Const value) ≡ plain.Const (constant_of value)
unfolding expression place_seen
view_const value = ap expression (sym (form.rolls-Const value)) ∙ fold-roll-Expr plain.Expression plain.Place expression_step place_step (layer.Const value)

pub view_str : (text : ℕ) → expression (form.Str text) ≡ plain.Str text
unfolding expression place_seen
view_str text = ap expression (sym (form.rolls-Str text)) ∙ fold-roll-Expr plain.Expression plain.Place expression_step place_step (layer.Str text)

pub view_read : (place : Place) → expression (form.Read place) ≡ plain.Read (place_seen place)
unfolding expression place_seen
view_read place = ap expression (sym (form.rolls-Read place)) ∙ fold-roll-Expr plain.Expression plain.Place expression_step place_step (layer.Read place)

pub view_set : (place : Place) (value : Box Expr Global) (site : ℕ) → expression (form.Set place value site) ≡ plain.Set (place_seen place) (expression value.value) site
unfolding expression place_seen
view_set place value site = ap expression (sym (form.rolls-Set place value site)) ∙ fold-roll-Expr plain.Expression plain.Place expression_step place_step (layer.Set place value site)

pub view_un : (op : UnOp) (operand : Box Expr Global) → expression (form.Un op operand) ≡ plain.Un op (expression operand.value)
unfolding expression place_seen
view_un op operand = ap expression (sym (form.rolls-Un op operand)) ∙ fold-roll-Expr plain.Expression plain.Place expression_step place_step (layer.Un op operand)

pub view_bin : (op : BinOp) (left right : Box Expr Global) (site : ℕ) → expression (form.Bin op left right site) ≡ plain.Bin op (expression left.value) (expression right.value) site
unfolding expression place_seen
view_bin op left right site = ap expression (sym (form.rolls-Bin op left right site)) ∙ fold-roll-Expr plain.Expression plain.Place expression_step place_step (layer.Bin op left right site)

pub view_conv : (to : Primitive) (operand : Box Expr Global) → expression (form.Conv to operand) ≡ plain.Conv to (expression operand.value)
unfolding expression place_seen
view_conv to operand = ap expression (sym (form.rolls-Conv to operand)) ∙ fold-roll-Expr plain.Expression plain.Place expression_step place_step (layer.Conv to operand)

pub view_cast : (ty : Ty) (operand : Box Expr Global) (site : ℕ) → expression (form.Cast ty operand site) ≡ plain.Cast ty (expression operand.value) site
unfolding expression place_seen
view_cast ty operand site = ap expression (sym (form.rolls-Cast ty operand site)) ∙ fold-roll-Expr plain.Expression plain.Place expression_step place_step (layer.Cast ty operand site)

pub view_instance : (ty : Ty) (operand : Box Expr Global) → expression (form.InstanceOf ty operand) ≡ plain.InstanceOf ty (expression operand.value)
unfolding expression place_seen
view_instance ty operand = ap expression (sym (form.rolls-InstanceOf ty operand)) ∙ fold-roll-Expr plain.Expression plain.Place expression_step place_step (layer.InstanceOf ty operand)

pub view_new : (class constructor : ℕ) (args : Vec Expr Global) (site : ℕ) → expression (form.New class constructor args site) ≡ plain.New class (present constructor) (row_of (map expression args.items)) site
unfolding expression place_seen
view_new class constructor args site = ap expression (sym (form.rolls-New class constructor args site)) ∙ fold-roll-Expr plain.Expression plain.Place expression_step place_step (layer.New class constructor args site)

pub view_new_array : (ty : Ty) (dims elements : Vec Expr Global) (sites : Vec ℕ Global) (site : ℕ) → expression (form.NewArray ty dims elements sites site) ≡ plain.NewArray ty (row_of (map expression dims.items)) (row_of (map expression elements.items)) sites.items site
unfolding expression place_seen
view_new_array ty dims elements sites site = ap expression (sym (form.rolls-NewArray ty dims elements sites site)) ∙ fold-roll-Expr plain.Expression plain.Place expression_step place_step (layer.NewArray ty dims elements sites site)

pub view_cat : (left right : Box Expr Global) (left_ty right_ty : Ty) (site : ℕ) → expression (form.Cat left right left_ty right_ty site) ≡ plain.Cat (expression left.value) (expression right.value) left_ty right_ty site
unfolding expression place_seen
view_cat left right left_ty right_ty site = ap expression (sym (form.rolls-Cat left right left_ty right_ty site)) ∙ fold-roll-Expr plain.Expression plain.Place expression_step place_step (layer.Cat left right left_ty right_ty site)

pub view_lib : (op : LibOp) (args : Vec Expr Global) (site : ℕ) → expression (form.Lib op args site) ≡ plain.Lib op (row_of (map expression args.items)) site
unfolding expression place_seen
view_lib op args site = ap expression (sym (form.rolls-Lib op args site)) ∙ fold-roll-Expr plain.Expression plain.Place expression_step place_step (layer.Lib op args site)

-- a part that may be absent, said in one way
pub view_upd : (place : Place) (op : BinOp) (value : Option (Box Expr Global)) (value_ty ty : Ty) (wide : Option Primitive) (gives_old : Bool) (site : ℕ) → expression (form.Upd place op value value_ty ty wide gives_old site) ≡ plain.Upd (place_seen place) op (part_seen value) value_ty ty wide gives_old site
unfolding expression place_seen
view_upd place op (Some value) value_ty ty wide gives_old site = ap expression (sym (form.rolls-Upd place op (Some value) value_ty ty wide gives_old site)) ∙ fold-roll-Expr plain.Expression plain.Place expression_step place_step (layer.Upd place op (Some value) value_ty ty wide gives_old site)
view_upd place op Absent value_ty ty wide gives_old site = ap expression (sym (form.rolls-Upd place op Absent value_ty ty wide gives_old site)) ∙ fold-roll-Expr plain.Expression plain.Place expression_step place_step (layer.Upd place op Absent value_ty ty wide gives_old site)

pub view_cond : (kind : CondForm) (test : Box Expr Global) (main other : Option (Box Expr Global)) (site : ℕ) → expression (form.Cond kind test main other site) ≡ plain.Cond kind (expression test.value) (part_seen main) (part_seen other) site
unfolding expression place_seen
view_cond kind test (Some main) (Some other) site = ap expression (sym (form.rolls-Cond kind test (Some main) (Some other) site)) ∙ fold-roll-Expr plain.Expression plain.Place expression_step place_step (layer.Cond kind test (Some main) (Some other) site)
view_cond kind test (Some main) Absent site = ap expression (sym (form.rolls-Cond kind test (Some main) Absent site)) ∙ fold-roll-Expr plain.Expression plain.Place expression_step place_step (layer.Cond kind test (Some main) Absent site)
view_cond kind test Absent (Some other) site = ap expression (sym (form.rolls-Cond kind test Absent (Some other) site)) ∙ fold-roll-Expr plain.Expression plain.Place expression_step place_step (layer.Cond kind test Absent (Some other) site)
view_cond kind test Absent Absent site = ap expression (sym (form.rolls-Cond kind test Absent Absent site)) ∙ fold-roll-Expr plain.Expression plain.Place expression_step place_step (layer.Cond kind test Absent Absent site)

pub view_call : (kind : CallForm) (method : ℕ) (receiver : Option (Box Expr Global)) (ty : Ty) (args : Vec Expr Global) (site : ℕ) → expression (form.Call kind method receiver ty args site) ≡ plain.Call kind method (part_seen receiver) ty (row_of (map expression args.items)) site
unfolding expression place_seen
view_call kind method (Some receiver) ty args site = ap expression (sym (form.rolls-Call kind method (Some receiver) ty args site)) ∙ fold-roll-Expr plain.Expression plain.Place expression_step place_step (layer.Call kind method (Some receiver) ty args site)
view_call kind method Absent ty args site = ap expression (sym (form.rolls-Call kind method Absent ty args site)) ∙ fold-roll-Expr plain.Expression plain.Place expression_step place_step (layer.Call kind method Absent ty args site)

pub view_local : (index : ℕ) → place_seen (places.Local index) ≡ plain.Local index
unfolding expression place_seen
view_local index = ap place_seen (sym (places.rolls-Local index)) ∙ fold-roll-Place plain.Expression plain.Place expression_step place_step (layer.Local index)

pub view_static : (field site : ℕ) → place_seen (places.Static field site) ≡ plain.Static field site
unfolding expression place_seen
view_static field site = ap place_seen (sym (places.rolls-Static field site)) ∙ fold-roll-Place plain.Expression plain.Place expression_step place_step (layer.Static field site)

pub view_field : (object : Box Expr Global) (field site : ℕ) → place_seen (places.Field object field site) ≡ plain.Field (expression object.value) field site
unfolding expression place_seen
view_field object field site = ap place_seen (sym (places.rolls-Field object field site)) ∙ fold-roll-Place plain.Expression plain.Place expression_step place_step (layer.Field object field site)

pub view_elem : (array index : Box Expr Global) (site : ℕ) → place_seen (places.Elem array index site) ≡ plain.Elem (expression array.value) (expression index.value) site
unfolding expression place_seen
view_elem array index site = ap place_seen (sym (places.rolls-Elem array index site)) ∙ fold-roll-Place plain.Expression plain.Place expression_step place_step (layer.Elem array index site)
