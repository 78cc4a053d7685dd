-- The variables of a body that are in scope (JLS 6.3, 6.4), and the texts that its forms hold.
use Rattle.std.specs.Prelude.{ℕ, ◌+◌, ◌-◌, Bool, List, [], ◌∷◌, ◌++◌, length, take, find, bytes_eq, slice_index_or, Option, Some, None, Result, Ok, Err, if◌then◌else◌}
use Rattle.wy_kernel.specs.declared.types.Ty.{Ty}
use Rattle.wy_kernel.specs.Table.{ConstantValue}
use Rattle.wy_constant.specs.declared.rule.Rule.TheVariants.{Duplicate}
use Rattle.wy_constant.specs.Refusal.{Refusal, refused}

-- is_fixed holds for a final variable with an initializer; constant is the value of a constant variable (JLS 4.12.4)
pub record Variable : Type 0 where
  pub name : List ℕ
  pub number : ℕ
  pub ty : Ty
  pub is_fixed : Bool
  pub constant : Option ConstantValue

-- a text that forms hold, and the least first token of such a form
pub record FixedText : Type 0 where
  pub units : List ℕ
  pub token : ℕ

-- a body of a class: the variables in scope, the last declared last; for each open block the number of variables around it,
-- the innermost last; the number of the next local; and the distinct texts of its forms
pub record Scope : Type 0 where
  pub class : ℕ
  pub has_this : Bool
  pub variables : List Variable
  pub blocks : List ℕ
  pub next : ℕ
  pub texts : List FixedText

-- local 0 is `this` where the body has one
abbrev pub body_of : ℕ → Bool → Scope
body_of class has_this = record { class = class; has_this = has_this; variables = []; blocks = []; next = if has_this then 1 else 0; texts = [] }

abbrev pub is_named : List ℕ → Variable → Bool
is_named name v = bytes_eq v.name name

-- the variable that a name denotes: no two in scope have one name
abbrev pub denoted : Scope → List ℕ → Option Variable
denoted s name = find (is_named name) s.variables

abbrev pub opened : Scope → Scope
opened s = record s { blocks = s.blocks ++ length s.variables ∷ [] }

-- how many variables stand outside the innermost block
abbrev pub outside : Scope → ℕ
outside s = slice_index_or s.blocks (length s.blocks - 1) (length s.variables)

-- without the innermost block and its variables
unfoldable pub closed : Scope → Scope
closed s = record s { variables = take (outside s) s.variables; blocks = take (length s.blocks - 1) s.blocks }

abbrev pub with_variable : Scope → List ℕ → Ty → Bool → Option ConstantValue → Scope
with_variable s name ty is_fixed constant = record s {
  variables = s.variables ++ record { name = name; number = s.next; ty = ty; is_fixed = is_fixed; constant = constant } ∷ [];
  next = s.next + 1;
}

abbrev pub declared_as : Option Variable → Scope → List ℕ → Ty → Bool → Option ConstantValue → ℕ → Result Scope Refusal
declared_as None s name ty is_fixed constant token = Ok (with_variable s name ty is_fixed constant)
declared_as (Some v) s name ty is_fixed constant token = Err (refused Duplicate token)

-- with one variable more: a name that is in scope can't be declared again (JLS 6.4)
abbrev pub declared : Scope → List ℕ → Ty → Bool → Option ConstantValue → ℕ → Result Scope Refusal
declared s name ty is_fixed constant token = declared_as (denoted s name) s name ty is_fixed constant token

abbrev pub with_value : Option ConstantValue → Variable → Variable
with_value c v = record v { constant = c }

abbrev pub with_last : {X : Type 0} → (X → X) → List X → List X
with_last f [] = []
with_last f (x ∷ []) = f x ∷ []
with_last f (x ∷ y ∷ rest) = x ∷ with_last f (y ∷ rest)

-- the variable that was declared last has this value, or none
unfoldable pub with_last_value : Option ConstantValue → Scope → Scope
with_last_value c s = record s { variables = with_last (with_value c) s.variables }

-- with other texts
abbrev pub with_texts : Scope → List FixedText → Scope
with_texts s texts = record s { texts = texts }
