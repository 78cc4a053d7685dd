-- The first breach of those that were found, rule by rule in their order.
use Rattle.std.specs.Prelude.{ℕ, Option, Some, None, if◌then◌else◌, nat_lt}
use Rattle.wy_constant.specs.declared.rule.Rule.{Rule}
use Rattle.wy_members.specs.declared.broken.breach.Breach.{Breach}

-- that which was found, or the breach of a later rule where it stands before it
abbrev pub earlier : Option Breach → Rule → Option ℕ → Option Breach
earlier found rule None = found
earlier None rule (Some token) = Some (record { rule = rule; token = token })
earlier (Some b) rule (Some token) = if nat_lt token b.token then Some (record { rule = rule; token = token }) else Some b
