-- Every part of a run leads from states that agree with its records to such states, and gives values by their uses.
use Rattle.std.proofs.Common.{◌≡◌, ℕ, zero, suc, List, [], ◌∷◌, length, Some, sym, ap, ◌∙◌, subst}
use Rattle.std.specs.Prelude.{slice_get}
use Rattle.wy_kernel.specs.Program.{Program}
use Rattle.wy_event.specs.Record.{Recorded}
use Rattle.wy_steps.specs.Sets.{numbers}
use Rattle.wy_steps.specs.State.{Carried, State, Run, Outcome}
use Rattle.wy_steps.specs.Steps.{owner_in}
use Rattle.wy_meaning.specs.Run.{world, end}
use Rattle.law_carried.specs.Backward.{data_of_uses, all_of_uses}
use Rattle.law_carried.specs.Agreement.{AreFirst, Agrees, ExpressionsLead, PlacesLead, ArgumentsLead, StatementsLead, InitializationsLead, StartsAgree, Comes, Arises, Evaluated, Located, Passed, Stored, HandedBack, Thrown, Failed, IsByUses, ValuesAreByUses, EqualUsesEqualSets}
use Rattle.law_carried.proofs.Fits.{Fits}
use Rattle.law_carried.proofs.Rules.{Fact, nothing, fits, reason_fits, Given, Keeps, AllFit, all_fit, keeps_read}
use Rattle.law_carried.proofs.Forms.{keeps_all_of, keeps_find}
use Rattle.law_carried.proofs.Programs.{keeps_eval, keeps_locate, keeps_row, keeps_exec, world_keeps}
use Rattle.law_carried.proofs.Theorem.{start_fits}

leads : {X : Type 0} (p : Program) (records : List Recorded) (Q : X → Fact) (m : Run numbers X) → Keeps (owner_in p) records nothing m Q → (s : State numbers) → Agrees (owner_in p) records s → AreFirst records (end (m s)).noted → Agrees (owner_in p) records (end (m s))
leads p records Q m k s agrees first = (k.by s).inv first agrees tt

pub expressions_lead : (p : Program) → ExpressionsLead p
expressions_lead p depth e records = leads p records _ _ ((keeps_eval p records (world p depth) (world_keeps p records depth) e).by nothing)

pub statements_lead : (p : Program) → StatementsLead p
statements_lead p depth x records = leads p records (λ t. nothing) _ ((keeps_exec p records (world p depth) (world_keeps p records depth) x).by nothing)

pub places_lead : (p : Program) → PlacesLead p
places_lead p depth x records =
    let w = world {A = numbers} p depth in let kw = world_keeps p records depth in
    leads p records (λ place. fits (owner_in p) records place.parts) _ (keeps_find p records w kw nothing _ (keeps_locate p records w kw x))

pub arguments_lead : (p : Program) → ArgumentsLead p
arguments_lead p depth args records = leads p records (all_fit (owner_in p) records) _ (keeps_all_of p records _ nothing (keeps_row p records (world p depth) (world_keeps p records depth) args))

pub initializations_lead : (p : Program) → InitializationsLead p
initializations_lead p depth site class records = leads p records (λ t. nothing) _ ((world_keeps p records depth).enter site class nothing)

pub starts_agree : (p : Program) → StartsAgree p
starts_agree p records input budget = start_fits (owner_in p) records input budget

module _ (p : Program) (records : List Recorded) where
  -- what is known of how a part of a run ended
  given : {X : Type 0} (Q : X → Fact) (m : Run numbers X) (o : Outcome numbers X) → Keeps (owner_in p) records nothing m Q → Comes p records m o → Given (owner_in p) records Q o
  given Q m o k c =
      subst (λ (x : Outcome numbers _). Given (owner_in p) records Q x) c.is
      ((k.by c.from).returned (subst (λ (x : Outcome numbers _). AreFirst records (end x).noted) (sym c.is) c.first) c.agrees tt)

  one_of_all : (vs : List (Carried numbers)) (n i : ℕ) (v : Carried numbers) → AllFit (owner_in p) records vs n → slice_get vs i ≡ Some v → Fits (owner_in p) records v n
  one_of_all [] n i v h e = absurd (cc)
  one_of_all (w ∷ vs) n zero v h e = subst (λ (x : Carried numbers). Fits (owner_in p) records x n) (cc) h.0
  one_of_all (w ∷ vs) n (suc i) v h e = one_of_all vs n i v h.1 e

  pub by_uses : (v : Carried numbers) → Arises p records v → IsByUses (owner_in p) records v
  unfolding reason_fits all_fit
  by_uses v (Evaluated depth e _ s c) = (given (fits (owner_in p) records) _ _ ((keeps_eval p records (world p depth) (world_keeps p records depth) e).by nothing) c).sets
  by_uses v (Located depth x spot s c) =
      (given (λ place. fits (owner_in p) records place.parts) _ _ (keeps_find p records (world p depth) (world_keeps p records depth) nothing _ (keeps_locate p records (world p depth) (world_keeps p records depth) x)) c).sets
  by_uses v (Passed depth args vs i _ s c at) =
      (one_of_all vs (length s.noted) i v (given (all_fit (owner_in p) records) _ _ (keeps_all_of p records _ nothing (keeps_row p records (world p depth) (world_keeps p records depth) args)) c) at).sets
  by_uses v (Stored x _ s c) = (given (fits (owner_in p) records) _ _ (keeps_read (owner_in p) records x) c).sets
  by_uses v (HandedBack depth x n _ s c) = (given (λ t. nothing) _ _ ((keeps_exec p records (world p depth) (world_keeps p records depth) x).by nothing) c).sets
  by_uses v (Thrown depth x n _ s c) = (given (λ t. nothing) _ _ ((keeps_exec p records (world p depth) (world_keeps p records depth) x).by nothing) c).sets
  by_uses v (Failed depth e n _ s c) = (given (fits (owner_in p) records) _ _ ((keeps_eval p records (world p depth) (world_keeps p records depth) e).by nothing) c).sets

pub values_are_by_uses : (p : Program) → ValuesAreByUses p
values_are_by_uses p records v a = by_uses p records v a

pub equal_uses_equal_sets : (p : Program) → EqualUsesEqualSets p
equal_uses_equal_sets p records v w a b same =
    let f = by_uses p records v a in
    let g = by_uses p records w b in (
      f.0 ∙ ap (data_of_uses (owner_in p) records) same ∙ sym g.0,
      f.1 ∙ ap (all_of_uses (owner_in p) records) same ∙ sym g.1,
    )
