-- Where declarations of variables are refused, their statement breaks the rule, or an expression in it does.
use Rattle.std.proofs.Common.{◌≡◌, ◌∙◌, subst, refl, ℕ, Bool, true, List, [], ◌∷◌, Option, Some}
use Rattle.std.specs.Prelude.{◌&&◌, is_some}
use Rattle.std.specs.Prelude.{None as Absent}
use Rattle.std.specs.List.{All, Contains}
use Rattle.std.proofs.lemmas.List.Elements.{All-contains, All-head, All-tail}
use Rattle.wy_kernel.specs.Form as kernel
use Rattle.wy_kernel.specs.declared.types.Ty.{Ty}
use Rattle.wy_syntax.specs.Syntax.{Expression, Initial, WrittenType, Declarator, Statement}
use Rattle.wy_constant.specs.Refusal.{Refusal}
use Rattle.wy_constant.specs.Scope.{Scope}
use Rattle.wy_elab_expr.specs.Operators.{Settles}
use Rattle.wy_elab_expr.specs.Elaboration.{type_written, with_brackets, initialized}
use Rattle.wy_elab_body.specs.Making.{Making, give, ◌>>=◌, each, changed, declaring}
use Rattle.wy_elab_body.specs.Jumps.{Around}
use Rattle.wy_elab_body.specs.Statements.{Setting, plain, given_first, constant_if, declarator, declarations}
use Rattle.law_refusals.specs.Found.{values_of}
use Rattle.law_refusals.specs.ExpressionLaws.{IsWhole}
use Rattle.law_refusals.proofs.Walk.{only_weaker}
use Rattle.law_refusals.proofs.ExpressionParts.{type_only, type_found}
use Rattle.law_refusals.proofs.Refused.{Bad, void, unfit, braces, InInitial, initial_explained}
use Rattle.law_well_formed.specs.Complete.{IsComplete, HasCompleteInitial, IsCompleteDeclarator}
use Rattle.law_refusals.specs.Surroundings.{Leads, InDeclarators, Lists, declaring_scope, Declares, Begins, Evaluates}
use Rattle.law_refusals.specs.Surroundings as standing
use Rattle.law_refusals.specs.Missteps.{IsGiven, Missteps, IsBrokenIn}
use Rattle.law_refusals.specs.Missteps as misstep
use Rattle.law_refusals.proofs.Steps.{OnlyFrom, from_give, from_changed, from_bind, from_declaring, bind_expressed, leading}
use Rattle.law_refusals.proofs.Whole.{whole, written_values}

-- what is said of a refusal where a statement is
abbrev pub Blames : Setting → Around → Scope → Statement → Refusal → Type 0
Blames w a s x r = IsBrokenIn w a s x r.rule r.token

pub of_misstep : (w : Setting) (a : Around) (s : Scope) (x : Statement) (r : Refusal) → Missteps w a s x r.rule r.token → Blames w a s x r
of_misstep w a s x r h = misstep.itself h

module _ (w : Setting) (a : Around) (g : Settles w.table w.judgement) where
  bad : (s : Scope) (x : Statement) (there : Scope) (ty : Ty) (i : Initial) (at : ℕ) (r : Refusal) → IsGiven w s x there ty i at → Bad w.judgement w.table there ty i at r → Missteps w a s x r.rule r.token
  bad s x there ty _ at _ given (void f v) = misstep.void_given given f v
  bad s x there ty _ at _ given (unfit f n m) = misstep.value given f n m
  bad s x there ty _ at _ given (braces n) = misstep.braces given n

  first_refused : (s : Scope) (x : Statement) (is_final : Bool) (ty : Ty) (there : Scope) (d : Declarator) (i : Initial) (r : Refusal) → Begins w s x is_final ty there d i →
      InInitial w.judgement w.table there ty i d.name.token r → Blames w a s x r
  first_refused s x is_final ty there d i r begins (InInitial.a_value b) = misstep.expression (standing.Evaluates.initial begins b.stands) b.broken
  first_refused s x is_final ty there d i r begins (InInitial.a_fill it inner at fills b) = misstep.itself (bad s x there it inner at r (misstep.first begins fills) b)

  first_only : (s : Scope) (x : Statement) (is_final : Bool) (ty : Ty) (d : Declarator) (b : Making) (k : ℕ) → (o : Option Initial) → d.initial ≡ o → HasCompleteInitial o →
      ((i : Initial) → d.initial ≡ Some i → Begins w s x is_final ty b.scope d i) → OnlyFrom (Blames w a s x) (given_first w is_final ty k d.name o) b
  first_only s x is_final ty d b k Absent e h f = from_give
  first_only s x is_final ty d b k (Some i) e h f =
      let begins : Begins w s x is_final ty b.scope d i = f i e in
      let are_whole : (part : Expression) → Contains (values_of i) part → IsWhole w.table b.scope part = λ part c. whole w.table b.scope part (All-contains IsComplete (values_of i) part (written_values i h) c) in
      bind_expressed (λ s1. initialized w.judgement w.table s1 ty i d.name.token)
      (λ e1. changed (constant_if is_final w.table ty i) >>= λ fixed. give (plain w d.name.token true (kernel.Eval (kernel.Set (kernel.Local k) e1 d.name.token)))) b
      (only_weaker (λ r. first_refused s x is_final ty b.scope d i r begins) (initial_explained w.judgement w.table b.scope g i ty d.name.token are_whole))
      (λ e1 c ex. from_bind {f = changed (constant_if is_final w.table ty i)} {g = λ fixed. give (plain w d.name.token true (kernel.Eval (kernel.Set (kernel.Local k) e1 d.name.token)))}
      (from_changed (constant_if is_final w.table ty i)) (λ z c2 k2. from_give))

  pub declarator_only : (s : Scope) (x : Statement) (is_final : Bool) (base : Ty) (d : Declarator) (b : Making) → IsCompleteDeclarator d → Declares w s x is_final (with_brackets base d.brackets) b.scope d →
      OnlyFrom (Blames w a s x) (declarator w is_final base d) b
  unfolding declarator
  declarator_only s x is_final base d b h declares =
      let ty : Ty = with_brackets base d.brackets in
      let fixed : Bool = is_final && is_some d.initial in
      from_bind {f = declaring d.name ty fixed} {g = λ k. given_first w is_final ty k d.name d.initial}
      (from_declaring d.name ty fixed b (λ v e. misstep.itself (misstep.again_local declares e)))
      (λ k c is. first_only s x is_final ty d c k d.initial refl h (λ i e. record { declared_in = b.scope; declares = declares; leads = leading (declaring d.name ty fixed) b k c is; given = e }))

  declarators_only : (s : Scope) (x : Statement) (is_final : Bool) (base : Ty) (rest : List Declarator) (b : Making) → All IsCompleteDeclarator rest →
      ((there : Scope) (d : Declarator) → InDeclarators w is_final base b.scope rest there d → Declares w s x is_final (with_brackets base d.brackets) there d) →
      OnlyFrom (Blames w a s x) (each (declarator w is_final base) rest) b
  unfolding each
  declarators_only s x is_final base [] b h f = from_give
  declarators_only s x is_final base (d ∷ rest) b h f =
      from_bind {f = declarator w is_final base d} {g = λ y. each (declarator w is_final base) rest >>= λ ys. give (y ∷ ys)}
      (declarator_only s x is_final base d b (All-head IsCompleteDeclarator d rest h) (f b.scope d standing.InDeclarators.here))
      (λ y c is. from_bind {f = each (declarator w is_final base) rest} {g = λ ys. give (y ∷ ys)}
      (declarators_only s x is_final base rest c (All-tail IsCompleteDeclarator d rest h) (λ there e k. f there e (standing.InDeclarators.later (leading (declarator w is_final base d) b y c is) k)))
      (λ ys c2 is2. from_give))

  pub declarations_only : (s : Scope) (x : Statement) (is_final : Bool) (ty : WrittenType) (all : List Declarator) (b : Making) → Lists x is_final ty all → b.scope ≡ declaring_scope x s → All IsCompleteDeclarator all →
      OnlyFrom (Blames w a s x) (declarations w is_final ty all) b
  unfolding declarations type_written
  declarations_only s x is_final ty all b lists begins h =
      bind_expressed (λ s1. type_written w.table ty) (λ base. each (declarator w is_final base) all) b
      (type_only w.table ty.base ty.brackets ty.token (λ none. misstep.itself (misstep.of_type lists none)))
      (λ base c ex. declarators_only s x is_final base all c h (λ there d k. record {
        written = ty;
        all = all;
        base = base;
        lists = lists;
        is_type = type_found w.table ty.base ty.brackets ty.token b.texts ex.later base ex.found;
        among = (let Q : Scope → Type 0 = λ z. InDeclarators w is_final base z all there d in subst Q (ex.same ∙ begins) k);
        same = refl;
      }))
