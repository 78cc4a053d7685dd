-- Forms by what the code was given of them.
use Rattle.std.proofs.Common.{◌≡◌, ◌∙◌, ℕ, Bool, ap, Option}
use Rattle.wy_kernel.specs.Form.{Expression, Part, Place, Row}
use Rattle.wy_kernel.specs.Form as plain
use Rattle.wy_kernel.specs.declared.form.CondForm.{CondForm}
use Rattle.wy_kernel.specs.declared.operator.BinOp.{BinOp}
use Rattle.wy_kernel.specs.declared.operator.Primitive.{Primitive}
use Rattle.wy_kernel.specs.declared.types.Ty.{Ty}
use Rattle.wy_work.specs.Listed.{IsNew, IsTestOf, IsUpdate}

pub record TestOf (x test : Expression) : Type 0 where
  pub kind : CondForm
  pub yes : Part
  pub no : Part
  pub site : ℕ
  pub is : x ≡ plain.Cond kind test yes no site

pub record UpdateOf (x : Expression) (place : Place) : Type 0 where
  pub op : BinOp
  pub value : Part
  pub value_ty : Ty
  pub ty : Ty
  pub wide : Option Primitive
  pub gives_old : Bool
  pub site : ℕ
  pub is : x ≡ plain.Upd place op value value_ty ty wide gives_old site

pub record NewOf (x : Expression) (class site : ℕ) : Type 0 where
  pub constructor_of : Option ℕ
  pub args : Row
  pub is : x ≡ plain.New class constructor_of args site

pub test_of : (x : Expression) (test_given : Expression) → IsTestOf x test_given → TestOf x test_given
test_of (plain.Const v) test_given h = absurd h
test_of (plain.Str k) test_given h = absurd h
test_of (plain.Read place) test_given h = absurd h
test_of (plain.Set place value site) test_given h = absurd h
test_of (plain.Upd place op value value_ty ty wide gives_old site) test_given h = absurd h
test_of (plain.Un op operand) test_given h = absurd h
test_of (plain.Bin op left right site) test_given h = absurd h
test_of (plain.Conv to operand) test_given h = absurd h
test_of (plain.Cast ty operand site) test_given h = absurd h
test_of (plain.InstanceOf ty operand) test_given h = absurd h
test_of (plain.Cond f test if_true if_false site) test_given h = record { kind = f; yes = if_true; no = if_false; site = site; is = ap (λ z. plain.Cond f z if_true if_false site) h }
test_of (plain.New c constructor args site) test_given h = absurd h
test_of (plain.NewArray ty dims elements sites site) test_given h = absurd h
test_of (plain.Call f m receiver ty args site) test_given h = absurd h
test_of (plain.Cat left right left_ty right_ty site) test_given h = absurd h
test_of (plain.Lib op args site) test_given h = absurd h

pub update_of : (x : Expression) (at : Place) → IsUpdate x at → UpdateOf x at
update_of (plain.Const v) at h = absurd h
update_of (plain.Str k) at h = absurd h
update_of (plain.Read place) at h = absurd h
update_of (plain.Set place value site) at h = absurd h
update_of (plain.Upd place op value value_ty ty wide gives_old site) at h = record { op = op; value = value; value_ty = value_ty; ty = ty; wide = wide; gives_old = gives_old; site = site; is = ap (λ z. plain.Upd z op value value_ty ty wide gives_old site) h }
update_of (plain.Un op operand) at h = absurd h
update_of (plain.Bin op left right site) at h = absurd h
update_of (plain.Conv to operand) at h = absurd h
update_of (plain.Cast ty operand site) at h = absurd h
update_of (plain.InstanceOf ty operand) at h = absurd h
update_of (plain.Cond f test if_true if_false site) at h = absurd h
update_of (plain.New c constructor args site) at h = absurd h
update_of (plain.NewArray ty dims elements sites site) at h = absurd h
update_of (plain.Call f m receiver ty args site) at h = absurd h
update_of (plain.Cat left right left_ty right_ty site) at h = absurd h
update_of (plain.Lib op args site) at h = absurd h

pub new_of : (x : Expression) (class at : ℕ) → IsNew x class at → NewOf x class at
new_of (plain.Const v) class at h = absurd h
new_of (plain.Str k) class at h = absurd h
new_of (plain.Read place) class at h = absurd h
new_of (plain.Set place value site) class at h = absurd h
new_of (plain.Upd place op value value_ty ty wide gives_old site) class at h = absurd h
new_of (plain.Un op operand) class at h = absurd h
new_of (plain.Bin op left right site) class at h = absurd h
new_of (plain.Conv to operand) class at h = absurd h
new_of (plain.Cast ty operand site) class at h = absurd h
new_of (plain.InstanceOf ty operand) class at h = absurd h
new_of (plain.Cond f test if_true if_false site) class at h = absurd h
new_of (plain.New c constructor args site) class at h = record { constructor_of = constructor; args = args; is = ap (λ z. plain.New z constructor args site) h.0 ∙ ap (λ z. plain.New class constructor args z) h.1 }
new_of (plain.NewArray ty dims elements sites site) class at h = absurd h
new_of (plain.Call f m receiver ty args site) class at h = absurd h
new_of (plain.Cat left right left_ty right_ty site) class at h = absurd h
new_of (plain.Lib op args site) class at h = absurd h
