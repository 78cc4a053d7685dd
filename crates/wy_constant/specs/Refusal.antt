-- Refusals, and what code gives that may refuse.
use Rattle.std.specs.Prelude.{◌≡◌, ℕ, Result, Ok, Err}
use Rattle.wy_constant.specs.declared.rule.Rule.{Rule}
use Rattle.wy_constant.specs.declared.rule.TypeError.{TypeError}
use Rattle.wy_constant.specs.declared.rule.TypeError.TheVariants as error

-- a rule that is broken, and the token that it is broken at
pub record Refusal : Type 0 where
  pub rule : Rule
  pub token : ℕ

abbrev pub refused : Rule → ℕ → Refusal
refused rule token = record { rule = rule; token = token }

-- want of memory is free; every other refusal is that of the definition
abbrev pub Fails : {Y : Type 0} → TypeError → Result Y Refusal → Type 0
Fails error.NoMemory given = Unit {0}
Fails (error.Broken rule token) given = given ≡ Err (refused rule token)

-- what a function returned, seen by a view, is what the definition gives
abbrev pub Gives : {X Y : Type 0} → (X → Y) → Result X TypeError → Result Y Refusal → Type 0
Gives see (Ok x) given = given ≡ Ok (see x)
Gives see (Err e) given = Fails e given
