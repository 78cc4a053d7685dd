-- The table of the command line, as it is told to the crate that reads words: each command takes operands and options alike; help and
-- a version.
use Rattle.std.specs.Prelude.{◌≡◌, true, List, [], ◌∷◌, Some, fold, codes}
use Rattle.clap.specs.Walk.{Rule, Text}
use Rattle.clap.specs.Simple.{App, Shape, app_of, new_rule, new_shape, with_rule, with_subcommand}
use Rattle.clap.specs.declared.builder.action.ArgAction.TheVariants.{SetTrue}
use Rattle.clap.specs.declared.builder.command.Command.{Command}
use Rattle.clap.specs.declared.builder.command.Command.TheViews.{out-Command}

abbrev pub first : Rule
first = new_rule (codes "first")

abbrev pub second : Rule
second = new_rule (codes "second")

abbrev pub operands : List Rule
operands = first ∷ (second ∷ [])

-- an option of this name, without a value
abbrev pub flag_rule : Text → Rule
flag_rule name = record (new_rule name) { long = Some name; action = Some SetTrue }

abbrev pub given : List Rule
given = first ∷ (second ∷ (flag_rule (codes "stop") ∷ (flag_rule (codes "all") ∷ (flag_rule (codes "data") ∷ []))))

-- the command with these arguments more, none of which its subcommands take
pub record Adds (before : Command) (rules : List Rule) (after : Command) : Type 0 where
  pub told : app_of after ≡ fold with_rule (app_of before) rules
  pub globals : (out-Command after).has_globals ≡ (out-Command before).has_globals

abbrev pub sub : Text → Shape
sub name = record (new_shape name) { rules = given }

abbrev pub top : Shape
top = record (new_shape (codes "whylens")) { no_binary_name = true; disable_help_subcommand = true; has_version = true }

abbrev pub table : App
table =
    with_subcommand (with_subcommand (with_subcommand (with_subcommand (with_subcommand (with_subcommand (with_subcommand (record { top = top; subs = [] })
    (sub (codes "explain"))) (sub (codes "show"))) (sub (codes "slice"))) (sub (codes "report"))) (sub (codes "diff"))) (sub (codes "expect"))) (sub (codes "events"))
