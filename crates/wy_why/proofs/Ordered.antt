-- The order of sources is total, and equal ones are one.
use Rattle.std.proofs.Common.{◌≡◌, Bool, true, ◌&&◌, refl, sym, ap₂, ◌∙◌, eqb-true}
use Rattle.std.specs.Prelude.{nat_eq}
use Rattle.std.specs.declared.cmp.Ordering.{Ordering}
use Rattle.std.specs.declared.cmp.Ordering.TheVariants.{Less, Equal, Greater}
use Rattle.std.specs.Cmp.{IsTotalOrder, IsEquivalence}
use Rattle.std.specs.Ordering.{nat_cmp, is_eq, eq_by_cmp, ordering_then}
use Rattle.std.proofs.lemmas.Bool.{and_parts}
use Rattle.std.proofs.lemmas.Cmp.{nat_cmp_total, on_total, then_total, eq_by_cmp_equiv}
use Rattle.wy_index.proofs.Orders.{same_numbers}
use Rattle.wy_why.specs.declared.source.Role.{Role}
use Rattle.wy_why.specs.declared.source.Role.TheVariants as role
use Rattle.wy_why.specs.declared.source.Source.{Source}
use Rattle.wy_why.specs.Sources.{role_rank, source_cmp}

pub sources_total : IsTotalOrder source_cmp
sources_total = then_total (on_total (λ (s : Source). s.event) nat_cmp_total) (on_total (λ (s : Source). role_rank s.role) nat_cmp_total)

abbrev pub source_eq : Source → Source → Bool
source_eq a b = eq_by_cmp source_cmp a b

eq_then : (a b : Ordering) → is_eq (ordering_then a b) ≡ (is_eq a && is_eq b)
eq_then Less b = refl
eq_then Equal b = refl
eq_then Greater b = refl

pub ties : (a b : Source) → source_eq a b ≡ eq_by_cmp source_cmp a b
ties a b = refl

pub sources_equal : IsEquivalence source_eq
sources_equal = eq_by_cmp_equiv sources_total

one_role : (a b : Role) → role_rank a ≡ role_rank b → a ≡ b
one_role role.Data role.Data is = refl
one_role role.Choice role.Choice is = refl
one_role role.Control role.Control is = refl
one_role _ _ is = cc

pub one_source : (a b : Source) → source_eq a b ≡ true → a ≡ b
one_source a b is =
    let tests = sym (eq_then (nat_cmp a.event b.event) (nat_cmp (role_rank a.role) (role_rank b.role)) ∙ ap₂ (λ x y. x && y) (same_numbers a.event b.event) (same_numbers (role_rank a.role) (role_rank b.role))) ∙ is in
    let both = and_parts (nat_eq a.event b.event) (nat_eq (role_rank a.role) (role_rank b.role)) tests in
    ap₂ (λ e r. record { event = e; role = r }) (eqb-true a.event b.event both.0) (one_role a.role b.role (eqb-true (role_rank a.role) (role_rank b.role) both.1))
