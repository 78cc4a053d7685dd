-- The sources of an event in order: by event, and then by role.
use Rattle.std.specs.Prelude.{ℕ}
use Rattle.std.specs.declared.cmp.Ordering.{Ordering}
use Rattle.std.specs.Ordering.{nat_cmp, ordering_then}
use Rattle.wy_event.specs.Sources as records
use Rattle.wy_why.specs.declared.source.Role.{Role}
use Rattle.wy_why.specs.declared.source.Role.TheVariants as role
use Rattle.wy_why.specs.declared.source.Source.{Source}

abbrev pub role_of : Role → records.Role
role_of role.Data = records.Data
role_of role.Choice = records.Choosing
role_of role.Control = records.Control

-- a source as the records have it
abbrev pub source_of : Source → records.Source
source_of s = record { role = role_of s.role; event = s.event }

abbrev pub role_rank : Role → ℕ
role_rank role.Data = 0
role_rank role.Choice = 1
role_rank role.Control = 2

abbrev pub source_cmp : Source → Source → Ordering
source_cmp a b = ordering_then (nat_cmp a.event b.event) (nat_cmp (role_rank a.role) (role_rank b.role))
