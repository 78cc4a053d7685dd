-- Where the rules on declarations are kept, what a class runs has a body and stands for what is called.
use Rattle.std.proofs.Common.{◌≡◌, refl, sym, ◌∙◌, ap, subst, ℕ, ◌≤◌, inl, inr, Bool, true, false, length, Some}
use Rattle.std.specs.Prelude.{slice_get}
use Rattle.std.proofs.lemmas.Bool.Decides.{eqb_tells}
use Rattle.wy_kernel.specs.declared.types.MethodForm.TheVariants as kind
use Rattle.wy_kernel.specs.Program.{Program, Class, Method, dispatch}
use Rattle.wy_kernel.specs.Subtyping.{Below, Substitutable, class_type}
use Rattle.wy_members.specs.Broken.{wrong_result}
use Rattle.wy_members.proofs.Contained.{contained}
use Rattle.wy_typing.specs.Programs.{RunsFor, RunsMethods}
use Rattle.law_typed.specs.ExpressionsTyped.{MethodsFit}
use Rattle.law_judgement.proofs.Decided.{Decided}
use Rattle.law_program_parts.proofs.Codes.{AreTyped}
use Rattle.law_program_parts.proofs.Chains.{IsAt, same_row, below_ascending}
use Rattle.law_program_parts.proofs.Results.{substitutable_or_not}
use Rattle.law_program_parts.proofs.Dispatch.{IsRun, dispatched}
use Rattle.law_program_parts.proofs.Rules.{open_part, KeepRules, one_method}
use Rattle.law_program_parts.proofs.Alike.{open_at, alike}
use Rattle.law_program_parts.proofs.Inherited.{inherited_body, inherited_result, somewhere}

module _ (p : Program) (keeps : KeepRules p.classes p.methods) (fit : MethodsFit p) (c : ℕ) (row : Class) (at : IsAt p.classes c row) (class : row.is_interface ≡ false) (concrete : row.is_abstract ≡ false) where
  module _ (k : ℕ) (m : Method) (found : slice_get p.methods k ≡ Some m) (form : m.form ≡ kind.Instance) (public : m.is_private ≡ false) (below : Below p.classes (class_type c) (class_type m.class)) (n : ℕ) (r : IsRun p m c n) where
    -- what a class declares itself isn't abstract
    own_body : r.class ≡ c → r.run.is_abstract ≡ false
    own_body own = by r.run.is_abstract refl
      where
        by : (b : Bool) → r.run.is_abstract ≡ b → r.run.is_abstract ≡ false
        by false e = e
        by true e = absurd (keeps.concrete c row r.run at concrete (contained p.methods n r.run r.found) (r.runs.class ∙ own) e)

    -- it is the called one, or overrides it
    own_result : r.class ≡ c → Substitutable p.classes r.run.result m.result
    own_result own = elim (eqb_tells m.class c) [ inl e ↦ itself e.1 | inr other ↦ by other.1 (substitutable_or_not p.classes keeps.sorted.top keeps.sorted.acyclic r.run.result m.result) ]
      where
        itself : m.class ≡ c → Substitutable p.classes r.run.result m.result
        itself e =
            let place : n ≡ k = one_method p.methods keeps.apart n k r.run m r.found found (r.runs.class ∙ own ∙ sym e) r.runs.named r.runs.params in
            let same : r.run ≡ m = same_row p.methods k r.run m (subst (λ x. slice_get p.methods x ≡ Some r.run) place r.found) found in
            inl (ap (λ (x : Method). x.result) same)

        by : (m.class ≡ c → ⊥) → Decided (Substitutable p.classes r.run.result m.result) → Substitutable p.classes r.run.result m.result
        by elsewhere (inl s) = s
        by elsewhere (inr none) =
            let w = open_at p.classes p.methods n r.run r.found r.runs.open_to_all in
            let v = open_at p.classes p.methods k m found public in
            absurd (keeps.overriding c r.run.site (wrong_result (record {
              method = contained (open_part p.classes p.methods).methods w.0 r.run w.1;
              own = r.runs.class ∙ own;
              same = alike p.classes p.methods c r.run v.0 m v.1 form below (sym r.runs.named) (sym r.runs.params);
              elsewhere = elsewhere;
            }) none))

    stands_by : (r.run.is_abstract ≡ false) → Substitutable p.classes r.run.result m.result → RunsFor p c m n
    stands_by body result = record {
      body = fit.bodies n r.run r.found body;
      run = r.run;
      found = r.found;
      instance = r.runs.form;
      receiver = subst (λ x. Below p.classes (class_type c) (class_type x)) (sym r.runs.class) (below_ascending p.classes keeps.sorted r.way);
      params = r.runs.params;
      result = result;
    }

    runs_for : RunsFor p c m n
    runs_for = elim r.own [
      | inl own ↦ stands_by (own_body own) (own_result own)
      | inr lacks ↦ stands_by (inherited_body p keeps c row at class concrete m n r lacks) (inherited_result p keeps c row at class concrete m n r lacks k found form public below)
    ]

pub all_run : (p : Program) → length p.classes ≤ 1048594 → KeepRules p.classes p.methods → ((j : ℕ) (m : Method) → slice_get p.methods j ≡ Some m → AreTyped (length p.classes) m.params) → MethodsFit p → RunsMethods p
all_run p le keeps typed fit c k m (row, at, class, concrete) found form public below =
    elim (dispatched p k m keeps.sorted (length p.classes) le typed found c (row, at, class)) [
      | inl r ↦ runs_for p keeps fit c row at class concrete k m found form public below (dispatch p k c) r
      | inr w ↦ absurd (somewhere p keeps c row at class concrete k m found form public below w.0)
    ]
