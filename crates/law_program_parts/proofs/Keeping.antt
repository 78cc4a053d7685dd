-- What stands in a class or an interface of a text that breaks no rule on declarations.
use Rattle.std.proofs.Common.{◌≡◌, refl, ℕ, ◌+◌, Bool, true, false}
use Rattle.std.specs.Prelude.{Option, Some, None, slice_get}
use Rattle.std.specs.List.{AllByRecursion}
use Rattle.wy_kernel.specs.Program.{Class, first_source_class}
use Rattle.wy_syntax.specs.Syntax.{Member, ClassSyntax}
use Rattle.wy_syntax.specs.Syntax as source
use Rattle.wy_syntax.specs.Declarations as syntax
use Rattle.wy_constant.specs.declared.rule.Rule.TheVariants as rule
use Rattle.wy_members.specs.Declarations.{CompilationUnit, classes_of, is_abstract_in, table}
use Rattle.wy_members.specs.Broken.{HasMember, IsSourceClass, IsJudged, IsNotImplemented, above_itself, body_missing}
use Rattle.wy_members.specs.Refusal.{KeepsRules}
use Rattle.wy_members.proofs.Contained.{contained, in_numbered}
use Rattle.wy_members.proofs.Cycles.{not_above_beyond}
use Rattle.law_program_parts.specs.Rows.{MayLackBody}
use Rattle.law_program_parts.specs.Shapes.{DeclarationKeeps}
use Rattle.law_program_parts.specs.BodiesLaws.{TreesKeep}
use Rattle.law_program_parts.proofs.BodiesLists.{all_at, at_all, beyond}
use Rattle.law_program_parts.proofs.Headers.{HasHeaders, have_headers}

-- where no class is above itself each is judged
keeps_judged : (unit : CompilationUnit) → KeepsRules unit → (c : ℕ) → IsJudged unit c
keeps_judged unit keeps c d above itself = by (slice_get (table unit).classes d) refl
  where
    by : (o : Option Class) → slice_get (table unit).classes d ≡ o → ⊥
    by (Some row) e = keeps rule.Cycle row.site (above_itself e itself)
    by None e = not_above_beyond (table unit).classes d (beyond (table unit).classes d e) itself

pub implemented : (unit : CompilationUnit) → KeepsRules unit → (c token : ℕ) → IsNotImplemented unit c token → ⊥
implemented unit keeps c token broken = keeps rule.NotImplemented token (c, keeps_judged unit keeps c, broken)

-- the members of a class, which has a number
pub has_members : (unit : CompilationUnit) (c : ℕ) (k : ClassSyntax) → IsSourceClass unit c k → AllByRecursion (HasMember unit c k) k.members
has_members unit c k written = all_at (HasMember unit c k) k.members (λ i m e. record { written = written; member = contained k.members i m e })

pub is_written : (unit : CompilationUnit) (i : ℕ) (k : ClassSyntax) → slice_get (classes_of unit) i ≡ Some k → IsSourceClass unit (first_source_class + i) k
is_written unit i k e = in_numbered first_source_class (classes_of unit) i k e

may_lack : (unit : CompilationUnit) → KeepsRules unit → (c : ℕ) (k : ClassSyntax) (m : Member) → HasMember unit c k m → MayLackBody k m
may_lack unit keeps c k (source.Method h result None) has = by (is_abstract_in k h) refl
  where
    by : (b : Bool) → is_abstract_in k h ≡ b → is_abstract_in k h ≡ true
    by true e = e
    by false e = absurd (implemented unit keeps c h.name.token (body_missing has refl e))
may_lack unit keeps c k (source.Method h result (Some b)) has = tt
may_lack unit keeps c k (source.Initializer is_static block) has = tt
may_lack unit keeps c k (source.Fields modifiers ty all) has = tt
may_lack unit keeps c k (source.Constructor h own brace parts end) has = tt
may_lack unit keeps c k source.Member.Nothing has = tt
may_lack unit keeps c k source.Member.Unknown has = tt

class_keeps : (unit : CompilationUnit) → KeepsRules unit → (c : ℕ) (k : ClassSyntax) → IsSourceClass unit c k → HasHeaders k → (b : Bool) → k.is_interface ≡ b → DeclarationKeeps k b
class_keeps unit keeps c k written headers true e = headers e
class_keeps unit keeps c k written headers false e =
    all_at (MayLackBody k) k.members (λ i m f. may_lack unit keeps c k m (record { written = written; member = contained k.members i m f }))

pub trees_keep : TreesKeep
trees_keep t w keeps =
    let u : CompilationUnit = syntax.unit 0 t in
    all_at (λ (k : ClassSyntax). DeclarationKeeps k k.is_interface) (classes_of u)
    (λ i k e. class_keeps u keeps (first_source_class + i) k (is_written u i k e) (at_all HasHeaders (classes_of u) i k (have_headers t w) e) k.is_interface refl)
