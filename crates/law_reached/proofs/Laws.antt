-- In every run executed points are reached, each item is needed, and calls stand on links.
use Rattle.std.proofs.Common.{◌≡◌, ◌∙◌, ℕ, List, map, sym}
use Rattle.wy_kernel.specs.Program.{Program}
use Rattle.wy_event.specs.declared.record.Cover.{Cover}
use Rattle.wy_event.specs.declared.record.Kind.{Kind}
use Rattle.wy_event.specs.declared.record.Kind.TheVariants as kind
use Rattle.wy_steps.specs.Sets.{Sets}
use Rattle.wy_meaning.specs.Run.{covers, outcome, end, history, events, tail, tail_of}
use Rattle.wy_meaning.specs.Kept.{covered_of}
use Rattle.wy_typing.specs.Programs.{IsProgram}
use Rattle.law_typed_states.specs.Typed.{KeepsLibrary}
use Rattle.law_reached.specs.Laws.{StandsApart, AreCoversOf, ExecutedAreReached, ExecutedPointsAreReached, EachItemIsNeeded, IsCallOrInit, CallsStandOnLinks}
use Rattle.law_reached.proofs.Seen as seen
use Rattle.law_reached.proofs.Need.{needed}
use Rattle.law_reached.proofs.Structure.{built}
use Rattle.law_reached.proofs.Ends.{in_order, event_at_is, place_in, was_executed, reached_by, stands_there}
use Rattle.law_reached.proofs.Runs.{run_kept}

module _ (A : Sets) (p : Program) (fits : IsProgram p) (library : KeepsLibrary p) (apart : StandsApart p) where
  kept : (input : List ℕ) (budget : ℕ) → seen.Inv p (end (outcome {A = A} p input budget))
  kept input budget = run_kept (record { sets = A; program = p; fits = fits; library = library }) (built p apart fits) input budget

  calling : (k : Kind) → IsCallOrInit k → seen.IsCalling k
  calling kind.Call h = tt
  calling kind.Init h = tt
  calling _ h = absurd h

  -- the covers of the run
  are_covers : (input : List ℕ) (budget : ℕ) (cs : List Cover) → AreCoversOf A p input budget cs → map covered_of cs ≡ covers (end (outcome {A = A} p input budget)).coverage 0 p.statements
  unfolding tail tail_of
  are_covers input budget cs h = h

  executed_reached : (input : List ℕ) (budget : ℕ) (cs : List Cover) → AreCoversOf A p input budget cs → ExecutedAreReached p (in_order (end (outcome {A = A} p input budget)).noted) cs
  executed_reached input budget cs h q i e =
      let t = end (outcome {A = A} p input budget) in
      let are = are_covers input budget cs h in
      reached_by p t cs are q ((kept input budget).reached q i (was_executed p t cs are q e))

  pub points_reached : ExecutedPointsAreReached A p
  unfolding events history
  points_reached input budget cs h = executed_reached input budget cs h

  pub items_needed : EachItemIsNeeded A p
  unfolding events history
  items_needed input budget cs n items h never are l i = needed p _ cs n (executed_reached input budget cs h) items are l i

  pub calls_stand : CallsStandOnLinks A p
  unfolding events history
  calls_stand input budget cs h r i k =
      let t = end (outcome {A = A} p input budget) in
      let x = place_in (in_order t.noted) r i in
      stands_there p t cs (are_covers input budget cs h) r (((kept input budget).sound x.0 r (sym (event_at_is t.noted x.0) ∙ x.1)).stands (calling r.kind k))
