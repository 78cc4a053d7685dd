-- The table of the command line, as it is told to the crate that reads words: each command takes operands and options alike.
use Rattle.std.specs.Prelude.{◌≡◌, true, List, [], ◌∷◌, Some, fold, codes}
use Rattle.clap.specs.Walk.{Rule, Text}
use Rattle.clap.specs.Simple.{App, Shape, app_of, new_rule, new_shape, with_rule, with_subcommand}
use Rattle.clap.specs.declared.builder.command.Command.{Command}
use Rattle.clap.specs.declared.builder.command.Command.TheViews.{out-Command}

abbrev pub first : Rule
first = new_rule (codes "first")

abbrev pub second : Rule
second = new_rule (codes "second")

abbrev pub third : Rule
third = new_rule (codes "third")

abbrev pub input : Rule
input = record (new_rule (codes "input")) { short = Some 105 }

abbrev pub trace : Rule
trace = record (new_rule (codes "trace")) { short = Some 111 }

abbrev pub steps : Rule
steps = record (new_rule (codes "steps")) { long = Some (codes "steps") }

abbrev pub operands : List Rule
operands = first ∷ (second ∷ (third ∷ []))

abbrev pub files : List Rule
files = input ∷ (trace ∷ [])

abbrev pub given : List Rule
given = first ∷ (second ∷ (third ∷ (input ∷ (trace ∷ (steps ∷ [])))))

-- the command with these arguments more, none of which its subcommands take
pub record Adds (before : Command) (rules : List Rule) (after : Command) : Type 0 where
  pub told : app_of after ≡ fold with_rule (app_of before) rules
  pub globals : (out-Command after).has_globals ≡ (out-Command before).has_globals

abbrev pub sub : Text → Shape
sub name = record (new_shape name) { rules = given }

abbrev pub names : List Text
names = codes "run" ∷ (codes "record" ∷ (codes "output" ∷ (codes "why" ∷ (codes "whynot" ∷ (codes "affects" ∷ (codes "certify" ∷ (codes "check" ∷ (codes "scope" ∷ (codes "questions" ∷ (codes "explore" ∷ (codes "audit" ∷ (codes "migrate" ∷ (codes "gen" ∷ [])))))))))))))

abbrev pub top : Shape
top = record (new_shape (codes "whyline")) { no_binary_name = true; disable_help_flag = true; disable_help_subcommand = true }

-- a command more for each of the names
abbrev pub with_commands : App → List Text → App
with_commands above names = fold (λ a name. with_subcommand a (sub name)) above names

abbrev pub table : App
table = with_commands (record { top = top; subs = [] }) names
