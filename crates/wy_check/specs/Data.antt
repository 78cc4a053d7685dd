-- Sources by data.
use Rattle.std.specs.Prelude.{ℕ, Bool, true, false, ◌&&◌, nat_eq, List}
use Rattle.std.specs.List.{list_any}
use Rattle.wy_why.specs.declared.source.Role.{Role}
use Rattle.wy_why.specs.declared.source.Role.TheVariants as role
use Rattle.wy_why.specs.declared.source.Source.{Source}

abbrev pub is_by_data : Role → Bool
is_by_data role.Data = true
is_by_data role.Choice = false
is_by_data role.Control = false

-- one of the sources is this event, by data
abbrev pub has_data : List Source → ℕ → Bool
has_data sources j = list_any (λ (s : Source). is_by_data s.role && nat_eq j s.event) sources
