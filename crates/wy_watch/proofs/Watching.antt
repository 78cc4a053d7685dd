-- What a text declares decides what it is worth.
use Rattle.std.proofs.Common.{◌≡◌, ◌∙◌, ℕ, List, Some, None, sym, ap}
use Rattle.std.specs.Prelude.{unwrap_or}
use Rattle.std.proofs.lemmas.Option.{none-some}
use Rattle.wy_kernel.specs.Program.{Program}
use Rattle.wy_value.specs.declared.value.Value.{Value}
use Rattle.wy_event.specs.Record.{Recorded}
use Rattle.wy_syntax.specs.Syntax.{Declaration, Expression}
use Rattle.wy_watch.specs.Sight.{sight_at}
use Rattle.wy_watch.specs.Value.{value}
use Rattle.wy_watch.specs.Watch.{HasNoValue, IsValueOf}
use Rattle.wy_watch.specs.Watched.{Declares, of_class, wrapped}

module _ (p : Program) (rs : List Recorded) (m : ℕ) (text : List ℕ) where
  pub not_declared : ((all : List Declaration) → ¬ Declares (wrapped text) all) → HasNoValue p rs m text
  not_declared lacks v h = lacks h.watched.all h.watched.declares

  module _ (all : List Declaration) (only : (others : List Declaration) → Declares (wrapped text) others → others ≡ all) where
    pub no_expression : None ≡ of_class all → HasNoValue p rs m text
    no_expression lacks v h = none-some h.expression (lacks ∙ sym (ap of_class (only h.watched.all h.watched.declares)) ∙ h.watched.is)

    module _ (e : Expression) (is : Some e ≡ of_class all) where
      pub has_value : Declares (wrapped text) all → (v : Value) → Some v ≡ value (sight_at p rs m) e → IsValueOf p rs m text v
      has_value declares v gives = record { expression = e; watched = record { all = all; declares = declares; is = sym is }; is = sym gives }

      pub no_value_there : None ≡ value (sight_at p rs m) e → HasNoValue p rs m text
      no_value_there lacks v h =
          let same : e ≡ h.expression = ap (λ o. unwrap_or o e) (is ∙ sym (ap of_class (only h.watched.all h.watched.declares)) ∙ h.watched.is) in
          none-some v (lacks ∙ ap (value (sight_at p rs m)) same ∙ h.is)
