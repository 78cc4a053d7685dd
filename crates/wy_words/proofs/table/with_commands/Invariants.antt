use Rattle.std.proofs.Common.{◌≡◌, map, drop}
use Rattle.clap.specs.Simple.{app_of}
use Rattle.wy_words.specs.Table.{with_commands}
use Rattle.wy_words.proofs.table.with_commands.Given as goal

abbrev pub invariant-loop-name : goal.invariant-loop-name
invariant-loop-name l = with_commands (app_of l.table) (map (λ s. s.now) (drop l.name-index l.names)) ≡ with_commands (app_of l.fn.table) (map (λ s. s.now) l.names)
