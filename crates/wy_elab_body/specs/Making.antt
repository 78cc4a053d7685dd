-- A body that is being made, and what does one thing after another to it.
use Rattle.std.specs.Prelude.{ℕ, Bool, List, [], ◌∷◌, ◌++◌, None, Result, Ok, Err, if◌then◌else◌, codes}
use Rattle.wy_kernel.specs.declared.types.Ty.{Ty}
use Rattle.wy_kernel.specs.Program.{Local}
use Rattle.wy_kernel.specs.Subtyping.{class_type}
use Rattle.wy_syntax.specs.Syntax.{Named}
use Rattle.wy_constant.specs.declared.rule.Rule.{Rule}
use Rattle.wy_constant.specs.Refusal.{Refusal, refused}
use Rattle.wy_constant.specs.Scope.{Scope, FixedText, body_of, opened, closed, declared}
use Rattle.wy_elab_expr.specs.Meaning.{Gets}

-- locals are those that were declared so far, in scope or not, in the order of their numbers; texts are those that forms hold, of this body
-- and of those before it
pub record Making : Type 0 where
  pub scope : Scope
  pub locals : List Local
  pub texts : List FixedText

-- what is found in a body, and the body after it; or a refusal
abbrev pub Makes : Type 0 → Type 0
Makes A = Making → Result (A × Making) Refusal

abbrev pub give : {A : Type 0} → A → Makes A
give x = λ m. Ok (x, m)

abbrev pub refuse : {A : Type 0} → Rule → ℕ → Makes A
refuse rule token = λ m. Err (refused rule token)

abbrev pub onward : {A B : Type 0} → (A → Makes B) → Result (A × Making) Refusal → Result (B × Making) Refusal
onward f (Ok p) = f p.0 p.1
onward f (Err e) = Err e

infixl 10 ◌>>=◌
abbrev pub ◌>>=◌ : {A B : Type 0} → Makes A → (A → Makes B) → Makes B
f >>= g = λ m. onward g (f m)

-- what is made of each, one after another
unfoldable pub each : {D A : Type 0} → (D → Makes A) → List D → Makes (List A)
each f [] = give []
each f (d ∷ rest) = do
  x ← f d
  xs ← each f rest
  give (x ∷ xs)

-- what is given behind what is there already
abbrev pub behind : {A : Type 0} → List A → Result (List A × Making) Refusal → Result (List A × Making) Refusal
behind front (Ok p) = Ok (front ++ p.0, p.1)
behind front (Err e) = Err e

-- ---- expressions

abbrev pub with_texts : Making → List FixedText → Making
with_texts m texts = record m { texts = texts }

abbrev pub after_texts : {A : Type 0} → Making → Result (A × List FixedText) Refusal → Result (A × Making) Refusal
after_texts m (Ok p) = Ok (p.0, with_texts m p.1)
after_texts m (Err e) = Err e

-- what an expression is found to be in the scope
unfoldable pub expressed : {A : Type 0} → (Scope → Gets A) → Makes A
expressed f = λ m. after_texts m (f m.scope m.texts)

-- ---- blocks and variables (JLS 6.3, 14.4)

abbrev pub changed : (Scope → Scope) → Makes Unit
changed f = λ m. Ok (tt, record m { scope = f m.scope })

-- what is declared in a block is in scope up to its end
unfoldable pub in_block : {A : Type 0} → Makes A → Makes A
in_block f = do
  begun ← changed opened
  x ← f
  ended ← changed closed
  give x

abbrev pub local : List ℕ → ℕ → Ty → Local
local name site ty = record { name = name; site = site; ty = ty }

abbrev pub after_scope : Making → Local → Result Scope Refusal → Result (ℕ × Making) Refusal
after_scope m l (Ok s) = Ok (m.scope.next, record m { scope = s; locals = m.locals ++ l ∷ [] })
after_scope m l (Err e) = Err e

-- a variable that is no constant, and its number
unfoldable pub declaring : Named → Ty → Bool → Makes ℕ
declaring n ty is_fixed = λ m. after_scope m (local n.name n.token ty) (declared m.scope n.name ty is_fixed None n.token)

-- ---- a body from its beginning on

-- `this` is local 0, and its Bind stands at this site
abbrev pub this_local : Bool → ℕ → ℕ → List Local
this_local has_this class site = if has_this then local (codes "this") site (class_type class) ∷ [] else []

unfoldable pub begun : ℕ → Bool → ℕ → Making
begun class has_this site = record { scope = body_of class has_this; locals = this_local has_this class site; texts = [] }

abbrev pub rejoined : {A : Type 0} → Result (A × Making) Refusal → Result ((A × Making) × List FixedText) Refusal
rejoined (Ok p) = Ok (p, p.1.texts)
rejoined (Err e) = Err e

-- a body goes on, with the texts that the forms of all bodies hold so far
unfoldable pub resumed : {A : Type 0} → Making → Makes A → Gets (A × Making)
resumed m f = λ texts. rejoined (f (with_texts m texts))
