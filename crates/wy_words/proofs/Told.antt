-- The table is told one command after another.
use Rattle.std.proofs.Common.{◌≡◌, ◌∙◌, ℕ, ◌+◌, ◌<◌, ◌≤◌, length, Bool, true, false, ◌||◌, List, [], ◌∷◌, map, drop, get_or, sym, ap}
use Rattle.std.specs.Borrow.{Bor}
use Rattle.std.specs.Prelude.{fold}
use Rattle.std.proofs.lemmas.List.{at_drop_more, drop_all}
use Rattle.clap.specs.Built.{AddsArg}
use Rattle.clap.specs.Walk.{Rule, Text, rule_of}
use Rattle.clap.specs.Simple.{App, app_of, new_app, with_rule, with_subcommand}
use Rattle.clap.specs.declared.builder.arg.Arg.{Arg}
use Rattle.clap.specs.declared.builder.command.Command.{Command}
use Rattle.clap.specs.declared.builder.command.Command.TheViews.{out-Command}
use Rattle.wy_words.specs.Table.{Adds, files, operands, steps, sub, with_commands}

pub one_more_command : (names : List (Bor Text)) (i : ℕ) (d : Bor Text) (text : Text) (a b whole : App) → i < length names → b ≡ with_subcommand a (sub text) → text ≡ (get_or names i d).now
    → with_commands a (map (λ s. s.now) (drop i names)) ≡ whole → with_commands b (map (λ s. s.now) (drop (i + 1) names)) ≡ whole
one_more_command names i d text a b whole less added is kept =
    ap (λ x. with_commands x (map (λ s. s.now) (drop (i + 1) names))) added
    ∙ ap (λ x. with_commands a (x ∷ map (λ s. s.now) (drop (i + 1) names))) is
    ∙ sym (at_drop_more (λ xs. with_commands a (map (λ s. s.now) xs)) names i d less)
    ∙ kept

pub none_left : (names : List (Bor Text)) (i : ℕ) (a whole : App) → length names ≤ i → with_commands a (map (λ s. s.now) (drop i names)) ≡ whole → a ≡ whole
none_left names i a whole end kept = sym (ap (λ (xs : List (Bor Text)). with_commands a (map (λ s. s.now) xs)) (drop_all i names end)) ∙ kept

-- an argument that is not global changes no command's having one
still_so : (u v w : Bool) → u ≡ (v || w) → w ≡ false → u ≡ v
still_so u true w is none = is
still_so u false w is none = is ∙ none

pub one_argument : (before : Command) (a : Arg) (after : Command) (r : Rule) → AddsArg before a after → a.global ≡ false → rule_of a ≡ r → Adds before (r ∷ []) after
one_argument before a after r adds own is =
    record { told = adds.shape own ∙ ap (with_rule (app_of before)) is; globals = still_so _ _ _ adds.globals own }

pub one_argument_more : (before middle after : Command) (r s : Rule) → Adds before (r ∷ []) middle → Adds middle (s ∷ []) after → Adds before (r ∷ (s ∷ [])) after
one_argument_more before middle after r s x y =
    record { told = y.told ∙ ap (λ a. with_rule a s) x.told; globals = y.globals ∙ x.globals }

pub arguments_more : (before middle after : Command) (r s t : Rule) → Adds before (r ∷ (s ∷ [])) middle → Adds middle (t ∷ []) after → Adds before (r ∷ (s ∷ (t ∷ []))) after
arguments_more before middle after r s t x y =
    record { told = y.told ∙ ap (λ a. with_rule a t) x.told; globals = y.globals ∙ x.globals }

pub all_arguments : (name : Text) (a b c d : Command) → app_of a ≡ new_app name → Adds a operands b → Adds b files c → Adds c (steps ∷ []) d → (app_of d).top ≡ sub name
all_arguments name a b c d new x y z =
    ap (λ (v : App). v.top) (z.told
    ∙ ap (λ v. with_rule v steps) (y.told
    ∙ ap (λ v. fold with_rule v files) (x.told
    ∙ ap (λ v. fold with_rule v operands) new)))

pub none_global : (a b c d : Command) → (out-Command a).has_globals ≡ false → Adds a operands b → Adds b files c → Adds c (steps ∷ []) d → (out-Command d).has_globals ≡ false
none_global a b c d own x y z = z.globals ∙ y.globals ∙ x.globals ∙ own
