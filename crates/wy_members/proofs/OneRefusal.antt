-- A program has at most one refusal.
use Rattle.std.proofs.Common.{◌≡◌, ℕ, ◌≤◌, [], ◌∷◌, get_or, refl, sym, ◌∙◌, ap, subst, arith}
use Rattle.wy_constant.specs.declared.rule.Rule.{Rule}
use Rattle.wy_constant.specs.declared.rule.Rule.TheVariants as rule
use Rattle.wy_members.specs.Broken.{Breaks}
use Rattle.wy_members.specs.Refusal.{rule_order, OneIsDue, NoneIsDue}

-- the rule at a place
abbrev rule_at : ℕ → Rule
rule_at n =
    get_or (
    rule.NoMain ∷ rule.Duplicate ∷ rule.UnknownName ∷ rule.Cycle ∷ rule.BadOverride ∷ rule.NotImplemented ∷ rule.NoMethod ∷ rule.Ambiguous ∷ rule.BadOperand
    ∷ rule.BadAssign ∷ rule.BadCast ∷ rule.Private ∷ rule.NotInStatic ∷ rule.NotOffered ∷ rule.BadJump ∷ rule.BadReturn ∷ []) n rule.NoMain

at_its_place : (r : Rule) → rule_at (rule_order r) ≡ r
unfolding rule_order
at_its_place rule.Duplicate = refl
at_its_place rule.UnknownName = refl
at_its_place rule.Cycle = refl
at_its_place rule.BadOverride = refl
at_its_place rule.NotImplemented = refl
at_its_place rule.NoMethod = refl
at_its_place rule.Ambiguous = refl
at_its_place rule.BadOperand = refl
at_its_place rule.BadAssign = refl
at_its_place rule.BadCast = refl
at_its_place rule.Private = refl
at_its_place rule.NotInStatic = refl
at_its_place rule.NotOffered = refl
at_its_place rule.BadJump = refl
at_its_place rule.BadReturn = refl
at_its_place rule.NoMain = refl

same_place : (a b : Rule) → rule_order a ≡ rule_order b → a ≡ b
same_place a b e = sym (at_its_place a) ∙ ap rule_at e ∙ at_its_place b

pub one_is_due : OneIsDue
one_is_due unit a b x y r s =
    let up : x ≤ y = r.least_token b y s.broken in
    let down : y ≤ x = s.least_token a x r.broken in
    let token : x ≡ y = omega arith in
    let P : ℕ → Type 0 = λ t. Breaks unit b t in
    let Q : ℕ → Type 0 = λ t. Breaks unit a t in
    let before : rule_order a ≤ rule_order b = r.first_rule b (subst P (sym token) s.broken) in
    let behind : rule_order b ≤ rule_order a = s.first_rule a (subst Q token r.broken) in
    let place : rule_order a ≡ rule_order b = omega arith in
    (same_place a b place, token)

pub none_is_due : NoneIsDue
none_is_due unit rule token keeps refusal = keeps rule token refusal.broken
