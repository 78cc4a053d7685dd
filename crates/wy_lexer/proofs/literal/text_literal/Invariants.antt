use Rattle.std.proofs.Common.{◌≡◌, ◌-◌, ◌+◌, ◌≤◌, length}
use Rattle.wy_tree.specs.Literals.{text_literal, text_from, with_units}
use Rattle.wy_lexer.proofs.literal.text_literal.Given as goal

-- the units so far, and those of the rest, are those of the literal
abbrev pub invariant-loop : goal.invariant-loop
invariant-loop l = record { same : text_literal l.text ≡ with_units l.found.items (text_from (length l.text - l.counter) l.rest); within : length l.rest + l.counter ≤ length l.text }
