-- From what the parse of the table gave to what is asked.
use Rattle.std.proofs.Common.{◌≡◌, ◌∙◌, true, false, List, [], Option, Some, None, is_some, refl, sym, ap, subst, inl, inr}
use Rattle.std.specs.Prelude.{IfSome, option_and_then, option_map}
use Rattle.std.proofs.lemmas.Bool.{false≢true}
use Rattle.std.proofs.lemmas.Option.{none-some, same_Some}
use Rattle.clap.specs.Matches.{has_subcommand, subcommand_name_of}
use Rattle.clap.specs.Kinds.{HasKind, Kinds}
use Rattle.clap.specs.Values.{kind_of}
use Rattle.clap.specs.Faults.{fault_of}
use Rattle.clap.specs.Simple.{App, subcommand_of, subcommand_rows, subcommand_rows_of}
use Rattle.clap.specs.Walk.{Row, Text}
use Rattle.clap.specs.declared.error.Error.{Error}
use Rattle.clap.specs.declared.error.kind.ErrorKind.TheVariants as kind
use Rattle.clap.specs.declared.parser.matches.ArgMatches.{ArgMatches}
use Rattle.clap.specs.declared.parser.matches.ArgMatches.TheViews.{out-ArgMatches}
use Rattle.wy_words.specs.declared.commands.Command as memory
use Rattle.wy_words.specs.Views.{command_of}
use Rattle.wy_words.specs.Words.{Asks, IsNoCommand}
use Rattle.wy_words.specs.Reading.{are_spelled, command_named}
use Rattle.wy_words.specs.Found.{asking_in, command_in}
use Rattle.wy_words.specs.Table.{table}
use Rattle.wy_words.proofs.Meant.{none_asked, read_as, some_asked}
use Rattle.wy_words.proofs.Top.{answers}

mapped_none : {X Y : Type 0} (f : X → Y) (o : Option X) → is_some o ≡ false → option_map f o ≡ None
mapped_none f None is = refl
mapped_none f (Some x) is = absurd (false≢true (sym is))

mapped_both : {X : Type 0} (f : X → Text × List Row) (o : Option X) (n : Text) (rs : List Row)
    → Some n ≡ option_map (λ x. (f x).0) o → Some rs ≡ option_map (λ (p : Text × List Row). p.1) (option_map f o) → option_map f o ≡ Some (n, rs)
mapped_both f None n rs named there = absurd (none-some n (sym named))
mapped_both f (Some x) n rs named there =
    ap (λ (t : Text). Some (t, (f x).1)) (sym (same_Some n (f x).0 named)) ∙ ap (λ (t : List Row). Some (n, t)) (sym (same_Some rs (f x).1 there))

pub nothing_found : (m : ArgMatches) → has_subcommand m ≡ false → command_in (subcommand_rows_of m) ≡ None
unfolding command_in
nothing_found m none = ap (λ o. option_and_then (λ p. option_and_then (command_named p.0) (asking_in p.1)) o) (mapped_none _ (out-ArgMatches m).subcommand none)

pub found_so : (m : ArgMatches) (name : Text) (rows : List Row) → Some name ≡ subcommand_name_of m
    → Some rows ≡ option_map (λ (p : Text × List Row). p.1) (subcommand_rows (out-ArgMatches m).subcommand)
    → command_in (subcommand_rows_of m) ≡ option_and_then (command_named name) (asking_in rows)
unfolding command_in
found_so m name rows named there =
    ap (λ o. option_and_then (λ p. option_and_then (command_named p.0) (asking_in p.1)) o) (mapped_both _ (out-ArgMatches m).subcommand name rows named there)

read_there : (given : List Text) (a : App) (m : ArgMatches) → a ≡ table → are_spelled false given ≡ true → fault_of a given ≡ [] → subcommand_rows_of m ≡ subcommand_of a given
    → command_in (subcommand_rows_of m) ≡ read_as given
read_there given a m told spelled quiet rows =
    ap command_in (rows ∙ ap (λ x. subcommand_of x given) told) ∙ (answers given spelled).0 (ap (λ x. fault_of x given) (sym told) ∙ quiet)

-- the answer to a parse that succeeded
pub asked_so : (given : List Text) (a : App) (m : ArgMatches) (r : Option memory.Command) → a ≡ table → are_spelled false given ≡ true → fault_of a given ≡ []
    → subcommand_rows_of m ≡ subcommand_of a given → option_map command_of r ≡ command_in (subcommand_rows_of m) → IfSome r (λ c. Asks given (command_of c))
asked_so given a m r told spelled quiet rows is = some_asked given r (is ∙ read_there given a m told spelled quiet rows)

pub refused_so : (given : List Text) (a : App) (m : ArgMatches) (r : Option memory.Command) → a ≡ table → are_spelled false given ≡ true → fault_of a given ≡ []
    → subcommand_rows_of m ≡ subcommand_of a given → option_map command_of r ≡ command_in (subcommand_rows_of m) → r ≡ None → IsNoCommand given
refused_so given a m r told spelled quiet rows is none =
    none_asked given (sym (read_there given a m told spelled quiet rows) ∙ sym is ∙ ap (option_map command_of) none)

kind_there : (ks : Kinds) (e : Error) → HasKind ks e → (kind_of e ≡ kind.OutOfMemory → ⊥) → ks ≡ [] → ⊥
kind_there ks e has other none = elim (subst (λ x. HasKind x e) none has) [ inl memory ↦ other memory | inr never ↦ never ]

-- and to one that failed, but for want of memory
pub failed_so : (given : List Text) (a : App) (e : Error) → a ≡ table → are_spelled false given ≡ true → HasKind (fault_of a given) e → (kind_of e ≡ kind.OutOfMemory → ⊥) → IsNoCommand given
failed_so given a e told spelled has other =
    none_asked given ((answers given spelled).1 (λ none. kind_there (fault_of a given) e has other (ap (λ x. fault_of x given) told ∙ none)))
