-- Numbers by spans, each from a first number to a last one.
use Rattle.std.specs.Prelude.{ℕ, Bool, ◌&&◌, List, nat_le}
use Rattle.std.specs.List.{list_any}
use Rattle.wy_table.specs.declared.spans.Span.{Span}

-- whether a number is in a span
abbrev pub is_within : ℕ → Span → Bool
is_within n span = nat_le span.first n && nat_le n span.last

-- whether a number is in one of the spans of a row
abbrev pub is_covered : ℕ → List Span → Bool
is_covered n row = list_any (is_within n) row
