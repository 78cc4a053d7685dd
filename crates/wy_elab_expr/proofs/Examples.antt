-- Which rule an unknown field of a superclass breaks, computed.
use Rattle.std.proofs.Common.{◌≡◌, ℕ, true, false, List, [], ◌∷◌, ◌++◌, refl, Some, Err}
use Rattle.std.specs.Prelude.{codes}
use Rattle.wy_kernel.specs.Builtin.{classes}
use Rattle.wy_kernel.specs.Program.{Class}
use Rattle.wy_kernel.specs.Table.{Table}
use Rattle.wy_constant.specs.declared.rule.Rule.TheVariants.{NotInStatic, NotOffered, UnknownName}
use Rattle.wy_constant.specs.Fields.{field_within}
use Rattle.wy_constant.specs.Refusal.{refused}
use Rattle.wy_constant.specs.Scope.{body_of}
use Rattle.wy_elab_expr.specs.Elaboration.{super_spot}

abbrev extending : ℕ → List ℕ → Class
extending above name = record { name = name; site = 1; is_interface = false; is_abstract = false; is_final = false; above = Some above; interfaces = [] }

-- class A, number 18, and class B extends A
a_and_b : Table
a_and_b = record { classes = classes ++ extending 0 (codes "A") ∷ extending 18 (codes "B") ∷ []; methods = []; fields = []; constants = [] }

-- Object has no field `f`, and the library offers no other
of_object : super_spot a_and_b (body_of 18 true) (codes "f") 4 [] ≡ Err (refused NotOffered 4)
unfolding super_spot field_within classes a_and_b
of_object = refl

of_source_class : super_spot a_and_b (body_of 19 true) (codes "f") 4 [] ≡ Err (refused UnknownName 4)
unfolding super_spot field_within classes a_and_b
of_source_class = refl

without_this : super_spot a_and_b (body_of 19 false) (codes "f") 4 [] ≡ Err (refused NotInStatic 4)
unfolding super_spot
without_this = refl
