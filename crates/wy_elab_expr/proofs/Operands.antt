-- What is printed, by how many arguments there are.
use Rattle.std.proofs.Common.{◌≡◌, ℕ, ◌<◌, List, [], ◌∷◌, length, map, refl, arith, if◌then◌else◌}
use Rattle.std.proofs.lemmas.List.{length-map}
use Rattle.wy_constant.specs.declared.rule.Rule.TheVariants.{NoMethod, BadOperand, NotOffered}
use Rattle.wy_constant.specs.Scope.{FixedText}
use Rattle.wy_elab_expr.specs.declared.meaning.Meaning as memory
use Rattle.wy_elab_expr.specs.Meaning.{Meaning, refuse}
use Rattle.wy_elab_expr.specs.Members.{some_void}
use Rattle.wy_elab_expr.specs.Elaboration.{is_print, print_operand}
use Rattle.wy_elab_expr.specs.Views.{meaning_of}

many : (name : List ℕ) (ms : List Meaning) (token : ℕ) (texts : List FixedText) → 1 < length ms →
    print_operand name ms token texts ≡ refuse (if some_void ms then BadOperand else (if is_print name then NoMethod else NotOffered)) token texts
unfolding print_operand
many name [] token texts more = absurd (omega (arith, more))
many name (m ∷ []) token texts more = absurd (omega (arith, more))
many name (m ∷ n ∷ ms) token texts more = refl

pub of_many : (name : List ℕ) (args : List memory.Meaning) (token : ℕ) (texts : List FixedText) → 1 < length args →
    print_operand name (map meaning_of args) token texts
    ≡ refuse (if some_void (map meaning_of args) then BadOperand else (if is_print name then NoMethod else NotOffered)) token texts
of_many name args token texts more = let more' : 1 < length (map meaning_of args) = omega (arith, more, length-map args meaning_of) in many name (map meaning_of args) token texts more'
