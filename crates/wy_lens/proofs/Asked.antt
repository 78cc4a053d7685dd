-- From what the parse of the table gave to what is asked.
use Rattle.std.proofs.Common.{◌≡◌, ◌≢◌, ◌∙◌, true, false, List, [], Option, Some, None, is_some, refl, sym, ap, subst, inl, inr, codes}
use Rattle.std.specs.Prelude.{IfSome, option_and_then, option_map}
use Rattle.std.proofs.lemmas.Bool.{false≢true}
use Rattle.std.proofs.lemmas.Option.{none-some, same_Some}
use Rattle.clap.specs.Kinds.{HasKind, IsAmong}
use Rattle.clap.specs.Matches.{has_subcommand, subcommand_name_of}
use Rattle.clap.specs.Values.{kind_of}
use Rattle.clap.specs.Faults.{fault_of, is_simple_and_free}
use Rattle.clap.specs.Simple.{App, is_simple, subcommand_of, subcommand_rows, subcommand_rows_of}
use Rattle.clap.specs.Walk.{Row, Text, first_of}
use Rattle.clap.specs.declared.error.Error.{Error}
use Rattle.clap.specs.declared.error.kind.ErrorKind.TheVariants as kind
use Rattle.clap.specs.declared.parser.matches.ArgMatches.{ArgMatches}
use Rattle.clap.specs.declared.parser.matches.ArgMatches.TheViews.{out-ArgMatches}
use Rattle.wy_lens.specs.declared.words.Request as memory
use Rattle.wy_lens.specs.Table.{table}
use Rattle.wy_lens.specs.Views.{request_of}
use Rattle.wy_lens.specs.Words.{AskNothing, Asks, Compare, Explain, Tell, Help, IsFault, Request, Version, request_for, request_in}
use Rattle.wy_lens.specs.Words as words

pub table_is_simple : is_simple table ≡ true
table_is_simple = refl

pub table_simple : is_simple_and_free table ≡ true
table_simple = refl

pub entered_asks : (given : List Text) (a : App) (m : ArgMatches) (r : Option memory.Request) → a ≡ table → fault_of a given ≡ [] → subcommand_rows_of m ≡ subcommand_of a given
    → option_map request_of r ≡ request_in (subcommand_rows_of m) → IfSome r (λ q. Asks given (request_of q))
entered_asks given a m None told quiet rows is = tt
entered_asks given a m (Some q) told quiet rows is =
    words.entered (request_of q) (ap (λ x. fault_of x given) (sym told) ∙ quiet) (ap request_in (ap (λ x. subcommand_of x given) (sym told) ∙ sym rows) ∙ sym is)

pub none_asked : (given : List Text) (a : App) (m : ArgMatches) (r : Option memory.Request) → a ≡ table → fault_of a given ≡ [] → subcommand_rows_of m ≡ subcommand_of a given
    → option_map request_of r ≡ request_in (subcommand_rows_of m) → r ≡ None → AskNothing given
none_asked given a m r told quiet rows is none =
    words.none (ap (λ x. fault_of x given) (sym told) ∙ quiet)
    (ap request_in (ap (λ x. subcommand_of x given) (sym told) ∙ sym rows) ∙ sym is ∙ ap (option_map request_of) none)

abbrev Among : List Text → Error → Type 0
Among given e = IsAmong (kind_of e) (fault_of table given)

among : (given : List Text) (a : App) (e : Error) → a ≡ table → HasKind (fault_of a given) e → kind_of e ≢ kind.OutOfMemory → Among given e
among given a e told has other = elim has [ inl memory ↦ absurd (other memory) | inr there ↦ subst (λ x. IsAmong (kind_of e) (fault_of x given)) told there ]

-- what a failed parse asks
pub fault_asks : (given : List Text) (a : App) (e : Error) (r : Request) → a ≡ table → HasKind (fault_of a given) e → IsFault (kind_of e) (Some r) → Asks given r
fault_asks given a e (Explain source) told has is = absurd is
fault_asks given a e (Tell trace telling) told has is = absurd is
fault_asks given a e (Compare beside trace other) told has is = absurd is
fault_asks given a e Help told has is =
    words.help (subst (λ k. IsAmong k (fault_of table given)) is (among given a e told has (λ memory. absurd (help_no_memory (sym memory ∙ is)))))
  where
    help_no_memory : kind.OutOfMemory ≡ kind.DisplayHelp → ⊥
    help_no_memory e = cc
fault_asks given a e Version told has is =
    words.version (subst (λ k. IsAmong k (fault_of table given)) is (among given a e told has (λ memory. absurd (version_no_memory (sym memory ∙ is)))))
  where
    version_no_memory : kind.OutOfMemory ≡ kind.DisplayVersion → ⊥
    version_no_memory e = cc

-- and one that asks for no text
pub fault_asks_nothing : (given : List Text) (a : App) (e : Error) → a ≡ table → HasKind (fault_of a given) e → IsFault (kind_of e) None → AskNothing given
fault_asks_nothing given a e told has is = words.fault (kind_of e) (among given a e told has is.2) is

-- the same of what is in memory
pub fault_told : (given : List Text) (a : App) (e : Error) (r : Option memory.Request) → a ≡ table → HasKind (fault_of a given) e → IsFault (kind_of e) (option_map request_of r)
    → IfSome r (λ q. Asks given (request_of q))
fault_told given a e None told has is = tt
fault_told given a e (Some q) told has is = fault_asks given a e (request_of q) told has is

pub none_told : (given : List Text) (a : App) (e : Error) (r : Option memory.Request) → a ≡ table → HasKind (fault_of a given) e → IsFault (kind_of e) (option_map request_of r)
    → r ≡ None → AskNothing given
none_told given a e r told has is none =
    fault_asks_nothing given a e told has (subst (λ x. IsFault (kind_of e) (option_map request_of x)) none is)

-- ---- the command that a parse entered

mapped_none : {X Y : Type 0} (f : X → Y) (o : Option X) → is_some o ≡ false → option_map f o ≡ None
mapped_none f None is = refl
mapped_none f (Some x) is = absurd (false≢true (sym is))

mapped_both : {X : Type 0} (f : X → Text × List Row) (o : Option X) (n : Text) (rs : List Row)
    → Some n ≡ option_map (λ x. (f x).0) o → Some rs ≡ option_map (λ (p : Text × List Row). p.1) (option_map f o) → option_map f o ≡ Some (n, rs)
mapped_both f None n rs named there = absurd (none-some n (sym named))
mapped_both f (Some x) n rs named there =
    ap (λ (t : Text). Some (t, (f x).1)) (sym (same_Some n (f x).0 named)) ∙ ap (λ (t : List Row). Some (n, t)) (sym (same_Some rs (f x).1 there))

pub nothing_found : (m : ArgMatches) → has_subcommand m ≡ false → request_in (subcommand_rows_of m) ≡ None
nothing_found m none = ap request_in (mapped_none _ (out-ArgMatches m).subcommand none)

pub found_so : (m : ArgMatches) (name : Text) (rows : List Row) → Some name ≡ subcommand_name_of m
    → Some rows ≡ option_map (λ (p : Text × List Row). p.1) (subcommand_rows (out-ArgMatches m).subcommand)
    → request_in (subcommand_rows_of m) ≡ option_and_then (request_for name rows) (first_of (codes "first") rows)
found_so m name rows named there = ap request_in (mapped_both _ (out-ArgMatches m).subcommand name rows named there)
