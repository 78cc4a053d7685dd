-- A statement, an arm and a clause have the method in whose body they stand.
use Rattle.std.proofs.Common.{◌≡◌, ℕ, refl, sym, ◌∙◌, subst, ⊎_elim}
use Rattle.std.specs.Option.{option_map_or}
use Rattle.wy_kernel.specs.Program.{Program}
use Rattle.wy_kernel.specs.View.{NONE}
use Rattle.wy_static.specs.declared.point.Point.{Point}
use Rattle.wy_static.specs.Standings.{standings_of}
use Rattle.wy_static.specs.LookUps.{method_of, standing_at}
use Rattle.wy_static.proofs.answer.Links.method.Goals as goal

abbrev in_body : Program → Point → ℕ
in_body p q = option_map_or (λ x. x.method) (standing_at (standings_of p) q) NONE

abbrev StandsInBody : Program → Point → Type 0
StandsInBody p q = in_body p q ≡ method_of p q

pub returns-in-Statement : goal.returns-in-Statement
returns-in-Statement c = λ p all.
    let told = c.method_around.ensures p all in
    ⊎_elim
    (λ s. told ∙ subst (StandsInBody p) (sym s.1) refl)
    (λ r. ⊎_elim
    (λ a. told ∙ subst (StandsInBody p) (sym a.2) refl)
    (λ k. told ∙ subst (StandsInBody p) (sym k.1) refl)
    r)
    c.in-Statement.is
