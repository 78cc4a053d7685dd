-- The table is told to the crate that reads words.
use Rattle.std.proofs.Common.{◌≡◌, ◌∙◌, Bool, true, false, ◌||◌, [], ◌∷◌, ap}
use Rattle.std.specs.Prelude.{fold}
use Rattle.clap.specs.Built.{AddsArg}
use Rattle.clap.specs.Walk.{Rule, Text, rule_of}
use Rattle.clap.specs.Simple.{App, app_of, new_app, with_rule}
use Rattle.clap.specs.declared.builder.arg.Arg.{Arg}
use Rattle.clap.specs.declared.builder.command.Command.{Command}
use Rattle.clap.specs.declared.builder.command.Command.TheViews.{out-Command}
use Rattle.wy_lens.specs.Table.{Adds, flag_rule, operands, sub}

-- an argument that is not global changes no command's having one
still_so : (u v w : Bool) → u ≡ (v || w) → w ≡ false → u ≡ v
still_so u true w is none = is
still_so u false w is none = is ∙ none

pub one_argument : (before : Command) (a : Arg) (after : Command) (r : Rule) → AddsArg before a after → a.global ≡ false → rule_of a ≡ r → Adds before (r ∷ []) after
one_argument before a after r adds own is =
    record { told = adds.shape own ∙ ap (with_rule (app_of before)) is; globals = still_so _ _ _ adds.globals own }

pub one_argument_more : (before middle after : Command) (r s : Rule) → Adds before (r ∷ []) middle → Adds middle (s ∷ []) after → Adds before (r ∷ (s ∷ [])) after
one_argument_more before middle after r s x y =
    record { told = y.told ∙ ap (λ a. with_rule a s) x.told; globals = y.globals ∙ x.globals }

abbrev flag : Text → Rule
flag = flag_rule

-- operands, and three options behind them
pub all_arguments : (name stop all flow : Text) (a b c d e : Command) → app_of a ≡ new_app name → Adds a operands b → Adds b (flag stop ∷ []) c → Adds c (flag all ∷ []) d → Adds d (flag flow ∷ []) e
    → app_of e ≡ fold with_rule (fold with_rule (new_app name) operands) (flag stop ∷ (flag all ∷ (flag flow ∷ [])))
all_arguments name stop all flow a b c d e new x y z w =
    w.told
    ∙ ap (λ v. with_rule v (flag flow)) (z.told
    ∙ ap (λ v. with_rule v (flag all)) (y.told
    ∙ ap (λ v. with_rule v (flag stop)) (x.told
    ∙ ap (λ v. fold with_rule v operands) new)))

pub none_global : (a b c d e : Command) (r s t : Rule) → (out-Command a).has_globals ≡ false → Adds a operands b → Adds b (r ∷ []) c → Adds c (s ∷ []) d → Adds d (t ∷ []) e → (out-Command e).has_globals ≡ false
none_global a b c d e r s t own x y z w = w.globals ∙ z.globals ∙ y.globals ∙ x.globals ∙ own
