-- Fields that are given nothing first break no rule in their initializers.
use Rattle.std.proofs.Common.{◌≡◌, ℕ, Bool, List, Some}
use Rattle.std.specs.Prelude.{None as Absent}
use Rattle.std.specs.List.{All}
use Rattle.std.proofs.lemmas.List.Elements.{All-head, All-tail}
use Rattle.wy_kernel.specs.declared.types.Ty.{Ty}
use Rattle.wy_syntax.specs.Syntax.{Initial, WrittenType, Declarator}
use Rattle.wy_constant.specs.Scope.{Scope}
use Rattle.wy_elab_body.specs.Statements.{Setting}
use Rattle.law_refusals.specs.Members.{InFields, IsFieldGiven, IsFieldFilled}
use Rattle.law_refusals.specs.Members as member
use Rattle.law_refusals.specs.BodyLaws.{FieldsGivenNothingBreakNothing}

abbrev GivenNothing : Declarator → Type 0
GivenNothing d = d.initial ≡ Absent

module _ {w : Setting} {c : ℕ} {is_static : Bool} {ty : WrittenType} where
  of_each : {s there : Scope} {all : List Declarator} {d : Declarator} → InFields w c is_static ty s all there d → All GivenNothing all → GivenNothing d
  of_each (member.InFields.here {d = d} {rest = rest}) h = All-head GivenNothing d rest h
  of_each (member.InFields.later {other = other} {rest = rest} leads among) h = of_each among (All-tail GivenNothing other rest h)

  none_given : {s there : Scope} {all : List Declarator} {d : Declarator} {i : Initial} → IsFieldGiven w c is_static ty s all there d i → All GivenNothing all → ⊥
  none_given {d = d} {i = i} g h =
      let none : d.initial ≡ Absent = of_each g.among h in
      let some : d.initial ≡ Some i = g.given in
      cc

  none_filled : {s there : Scope} {all : List Declarator} {inner_type : Ty} {inner : Initial} {at : ℕ} → IsFieldFilled w c is_static ty s all there inner_type inner at → All GivenNothing all → ⊥
  none_filled (member.fills g is fills) h = none_given g h

pub nothing_broken : FieldsGivenNothingBreakNothing
nothing_broken w c is_static ty s all h _ _ (member.HasBadField.no_type g none) = none_given g h
nothing_broken w c is_static ty s all h _ _ (member.HasBadField.expression g stands broken) = none_given g h
nothing_broken w c is_static ty s all h _ _ (member.HasBadField.void_given filled found is_void) = none_filled filled h
nothing_broken w c is_static ty s all h _ _ (member.HasBadField.unfit filled found valued wrong) = none_filled filled h
nothing_broken w c is_static ty s all h _ _ (member.HasBadField.braces filled none) = none_filled filled h
