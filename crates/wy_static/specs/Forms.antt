-- The forms of an expression, each with its owner: the innermost arm around it, else its statement (JLS 15.23 to 15.25).
use Rattle.std.specs.Prelude.{ℕ, List, [], ◌∷◌, ◌++◌}
use Rattle.wy_kernel.specs.Form.{Expression, Const, Str, Read, Set, Upd, Un, Bin, Conv, Cast, InstanceOf, Cond, New, NewArray, Call, Cat, Lib, Place, Local, Static, Field, Elem, Part, absent, the, Row, none, more}
use Rattle.wy_static.specs.declared.point.Point.TheVariants as point
use Rattle.wy_static.specs.declared.way.Owner.{Owner}

-- an arm owns what stands in it
abbrev pub arm_owner : ℕ → ℕ → Owner
arm_owner site value = record { point = point.Arm site value; site = site }

abbrev mutual
  -- the forms within a form, each before those within it
  pub forms_within : Owner → Expression → List (Owner × Expression)
  forms_within o (Const value) = []
  forms_within o (Str text) = []
  forms_within o (Read place) = place_forms o place
  forms_within o (Set place value site) = place_forms o place ++ ((o, value) ∷ forms_within o value)
  forms_within o (Upd place op value value_ty ty wide gives_old site) = place_forms o place ++ part_forms o value
  forms_within o (Un op operand) = (o, operand) ∷ forms_within o operand
  forms_within o (Bin op left right site) = ((o, left) ∷ forms_within o left) ++ ((o, right) ∷ forms_within o right)
  forms_within o (Conv to operand) = (o, operand) ∷ forms_within o operand
  forms_within o (Cast ty operand site) = (o, operand) ∷ forms_within o operand
  forms_within o (InstanceOf ty operand) = (o, operand) ∷ forms_within o operand
  forms_within o (Cond form test if_true if_false site) = ((o, test) ∷ forms_within o test) ++ (part_forms (arm_owner site 1) if_true ++ part_forms (arm_owner site 0) if_false)
  forms_within o (New class constructor args site) = row_forms o args
  forms_within o (NewArray ty dims elements element_sites site) = row_forms o dims ++ row_forms o elements
  forms_within o (Call form method receiver ty args site) = part_forms o receiver ++ row_forms o args
  forms_within o (Cat left right left_ty right_ty site) = ((o, left) ∷ forms_within o left) ++ ((o, right) ∷ forms_within o right)
  forms_within o (Lib op args site) = row_forms o args

  pub place_forms : Owner → Place → List (Owner × Expression)
  place_forms o (Local index) = []
  place_forms o (Static field site) = []
  place_forms o (Field object field site) = (o, object) ∷ forms_within o object
  place_forms o (Elem array index site) = ((o, array) ∷ forms_within o array) ++ ((o, index) ∷ forms_within o index)

  pub part_forms : Owner → Part → List (Owner × Expression)
  part_forms o absent = []
  part_forms o (the e) = (o, e) ∷ forms_within o e

  pub row_forms : Owner → Row → List (Owner × Expression)
  row_forms o none = []
  row_forms o (more e rest) = ((o, e) ∷ forms_within o e) ++ row_forms o rest

-- a form and those within it
abbrev pub forms : Owner → Expression → List (Owner × Expression)
forms o e = (o, e) ∷ forms_within o e
