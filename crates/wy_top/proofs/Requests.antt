-- What the words ask for, and how many methods.
use Rattle.std.proofs.Common.{◌≡◌, refl, ℕ, ◌≤◌, List, Option, Some, None, IfSome, arith}
use Rattle.std.specs.Prelude.{option_map}
use Rattle.wy_words.specs.Views.{command_of, request_of}
use Rattle.wy_words.specs.Words.{AskOneCommand, Asks, Command, Explore, Gen, IsNoCommand, generated, number_up_to}
use Rattle.wy_words.specs.declared.commands.Command as memory
use Rattle.wy_words.specs.declared.commands.Command.TheVariants.{Once}
use Rattle.wy_words.specs.declared.commands.Request.{Request}
use Rattle.wy_words.specs.declared.commands.Request.TheVariants as once
use Rattle.wy_top.specs.Answers.{HasFewMethods, IsAsked}
use Rattle.wy_top.specs.Call.{IsNoRecording, RecordsNothing}

few_methods : (word : List ℕ) (n : ℕ) → number_up_to 2000 word ≡ Some n → (1 ≤ n) × (n ≤ 2000)
unfolding number_up_to
few_methods word n is = (grind (arith, is), grind (arith, is))

pub methods_asked : (words : List (List ℕ)) (n : ℕ) → Asks words (Gen n) → (1 ≤ n) × (n ≤ 2000)
methods_asked _ n (generated {word = word} spells holds is) = few_methods word n is

pub few_asked : (words : List (List ℕ)) (asked : Option Command) → IsAsked words asked → HasFewMethods asked
few_asked words None is n at = absurd cc
few_asked words (Some c) is n at = let same : c ≡ Gen n = cc in methods_asked words n (rw (same) at is)

-- ---- what has one answer

-- what the words ask, by what was read of them
pub asked_once : (words : List (List ℕ)) (command : Option memory.Command) (request : Request) (given : Option Request) → IfSome command (λ c. Asks words (command_of c)) → command ≡ Some (Once request) → given ≡ Some request →
    IsAsked words (option_map request_of given)
asked_once words command request given asks is same = rw (same) (rw (is) at asks)

pub asked_nothing : (words : List (List ℕ)) (command : Option memory.Command) (given : Option Request) → (command ≡ None → IsNoCommand words) → command ≡ None → given ≡ None → IsAsked words (option_map request_of given)
asked_nothing words command given none is same = rw (same) (none is)

pub nothing_asked : (words : List (List ℕ)) (request : Option Request) → IsAsked words (option_map request_of request) → request ≡ None → IsNoCommand words
nothing_asked words request asked is = rw (is) at asked

-- nothing is asked where the words are no command
pub none_asked : (words : List (List ℕ)) (request : Option Request) → IsAsked words (option_map request_of request) → IsNoCommand words → request ≡ None
none_asked words None asked none = refl
none_asked words (Some request) asked none = absurd (none (request_of request) asked)

pub no_recording : (words : List (List ℕ)) (request : Option Command) → IsAsked words request → RecordsNothing words → IsNoRecording request
no_recording words None asked nothing c is = absurd cc
no_recording words (Some d) asked nothing c is = let same : d ≡ c = cc in nothing c (rw (same) at asked)

-- what is asked once is no session
no_session : (r : Request) (trace : List ℕ) → request_of r ≡ Explore trace → ⊥
no_session (once.Run asked) trace is = cc
no_session (once.Record asked name) trace is = cc
no_session (once.Output name) trace is = cc
no_session (once.Why name question) trace is = cc
no_session (once.WhyNot name statement) trace is = cc
no_session (once.Affects name question) trace is = cc
no_session (once.Certify name question) trace is = cc
no_session (once.Check name certificate) trace is = cc
no_session (once.Scope name statement call) trace is = cc
no_session (once.Questions name) trace is = cc
no_session (once.Audit name) trace is = cc
no_session (once.Migrate name other) trace is = cc
no_session (once.Gen number) trace is = cc

pub asks_no_session : AskOneCommand → (words : List (List ℕ)) (request : Option Request) → IsAsked words (option_map request_of request) → (trace : List ℕ) → Asks words (Explore trace) → ⊥
asks_no_session one words None none trace asks = none (Explore trace) asks
asks_no_session one words (Some r) also trace asks = no_session r trace (one words (request_of r) (Explore trace) also asks)
