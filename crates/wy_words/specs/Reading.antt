-- What stands in the words that are read so far, as the calls of this crate find it. No definition of a command rests on it.
use Rattle.std.specs.Prelude.{ℕ, length, true, not, ◌||◌, is_some, List, [], ◌∷◌, ◌++◌, Bool, ◌&&◌, nat_eq, nat_lt, bytes_eq, if◌then◌else◌, Option, Some, None, is_none, option_and_then, option_map, codes, drop}
use Rattle.std.specs.List.{starts_with}
use Rattle.wy_words.specs.Words.{event_number, is_plain, number_up_to, Part, Operand, Input, Trace, Steps, Asked, Command, Run, Record, Output, Why, WhyNot, Affects, Certify, Check, Scope, Questions, Explore, Audit, Migrate, Gen, asked}
use Rattle.wy_words.specs.Awaited.{Awaited}
use Rattle.wy_words.specs.Awaited as awaited

-- what was named so far, and what the next word has to be
pub record Asking : Type 0 where
  pub awaited : Awaited
  pub operands : List (List ℕ)
  pub input : Option (List ℕ)
  pub trace : Option (List ℕ)
  pub steps : Option ℕ

abbrev pub nothing : Asking
nothing = record { awaited = awaited.Word; operands = []; input = None; trace = None; steps = None }

-- a part more: no command takes four operands, or an option twice
unfoldable pub with_part : Asking → Part → Option Asking
with_part a (Operand word) = if nat_lt (length a.operands) 3 then Some (record a { awaited = awaited.Word; operands = a.operands ++ (word ∷ []) }) else None
with_part a (Input name) = if is_none a.input then Some (record a { awaited = awaited.Word; input = Some name }) else None
with_part a (Trace name) = if is_none a.trace then Some (record a { awaited = awaited.Word; trace = Some name }) else None
with_part a (Steps n) = if is_none a.steps then Some (record a { awaited = awaited.Word; steps = Some n }) else None

-- an option of steps with its number
unfoldable pub is_joined : List ℕ → Bool
is_joined word = starts_with nat_eq word (codes "--steps=") && is_some (number_up_to 50000000 (drop 8 word))

-- a word that the table may have: a plain one, or an option; one that an option of steps awaits is a number
unfoldable pub may_stand : Bool → List ℕ → Bool
may_stand awaits_number word =
    (is_plain word || (bytes_eq word (codes "-i") || (bytes_eq word (codes "-o") || (bytes_eq word (codes "--steps") || is_joined word))))
    && (not awaits_number || is_some (number_up_to 50000000 word))

unfoldable pub are_spelled : Bool → List (List ℕ) → Bool
are_spelled awaits_number [] = true
are_spelled awaits_number (word ∷ words) = may_stand awaits_number word && are_spelled (bytes_eq word (codes "--steps")) words

-- a plain word more, as a part of this kind
unfoldable pub with_plain : Asking → (List ℕ → Part) → List ℕ → Option Asking
with_plain a part word = if is_plain word then with_part a (part word) else None

-- a number of steps more
unfoldable pub with_steps : Asking → List ℕ → Option Asking
with_steps a word = option_and_then (λ n. with_part a (Steps n)) (number_up_to 50000000 word)

-- a word that no option awaits
unfoldable pub with_word : Asking → List ℕ → Option Asking
with_word a word =
    if bytes_eq word (codes "-i") then Some (record a { awaited = awaited.Input })
    else (if bytes_eq word (codes "-o") then Some (record a { awaited = awaited.Trace })
    else (if bytes_eq word (codes "--steps") then Some (record a { awaited = awaited.Steps })
    else (if starts_with nat_eq word (codes "--steps=") then with_steps a (drop 8 word)
    else with_plain a Operand word)))

unfoldable pub with_next : Awaited → Asking → List ℕ → Option Asking
with_next awaited.Word a word = with_word a word
with_next awaited.Input a word = with_plain a Input word
with_next awaited.Trace a word = with_plain a Trace word
with_next awaited.Steps a word = with_steps a word

-- what is named behind a number of words
abbrev pub named : Asking → List (List ℕ) → Option Asking
named a [] = Some a
named a (word ∷ words) = option_and_then (λ b. named b words) (with_next a.awaited a word)

-- no option stands last without its word
unfoldable pub ended : Awaited → Asking → Option Asking
ended awaited.Word a = Some a
ended awaited.Input a = None
ended awaited.Trace a = None
ended awaited.Steps a = None

unfoldable pub named_in : List (List ℕ) → Option Asking
named_in words = option_and_then (λ a. ended a.awaited a) (named nothing words)

-- ---- commands

-- what a run is asked for, where one operand stands
unfoldable pub run_of : List (List ℕ) → Asking → Option Asked
run_of [] a = None
run_of (source ∷ []) a = Some (asked source a.input a.steps)
run_of (source ∷ (second ∷ more)) a = None

-- an asking without options
unfoldable pub is_bare : Asking → Bool
is_bare a = is_none a.input && is_none a.trace && is_none a.steps

-- the one operand, where nothing else stands
unfoldable pub only_operand : List (List ℕ) → Asking → Option (List ℕ)
only_operand [] a = None
only_operand (word ∷ []) a = if is_bare a then Some word else None
only_operand (word ∷ (second ∷ more)) a = None

unfoldable pub run : Asking → Option Command
run a = if is_none a.trace then option_map Run (run_of a.operands a) else None

unfoldable pub recording : Option (List ℕ) → Asking → Option Command
recording None a = None
recording (Some trace) a = option_map (λ r. Record r trace) (run_of a.operands a)

unfoldable pub output : Asking → Option Command
output a = option_map Output (only_operand a.operands a)

-- the two operands, where nothing else stands
unfoldable pub two_operands : List (List ℕ) → Asking → Option (List ℕ × List ℕ)
two_operands [] a = None
two_operands (first ∷ []) a = None
two_operands (first ∷ (second ∷ [])) a = if is_bare a then Some (first, second) else None
two_operands (first ∷ (second ∷ (third ∷ more))) a = None

unfoldable pub why : Asking → Option Command
why a = option_map (λ w. Why w.0 w.1) (two_operands a.operands a)

unfoldable pub whynot : Asking → Option Command
whynot a = option_map (λ w. WhyNot w.0 w.1) (two_operands a.operands a)

unfoldable pub affects : Asking → Option Command
affects a = option_map (λ w. Affects w.0 w.1) (two_operands a.operands a)

unfoldable pub certify : Asking → Option Command
certify a = option_map (λ w. Certify w.0 w.1) (two_operands a.operands a)

unfoldable pub check : Asking → Option Command
check a = option_map (λ w. Check w.0 w.1) (two_operands a.operands a)

-- the three operands, where nothing else stands
unfoldable pub three_operands : List (List ℕ) → Asking → Option (List ℕ × List ℕ × List ℕ)
three_operands [] a = None
three_operands (first ∷ []) a = None
three_operands (first ∷ (second ∷ [])) a = None
three_operands (first ∷ (second ∷ (third ∷ []))) a = if is_bare a then Some (first, second, third) else None
three_operands (first ∷ (second ∷ (third ∷ (fourth ∷ more)))) a = None

-- a statement in the call of a number
unfoldable pub scope_of : List ℕ × List ℕ × List ℕ → Option Command
scope_of w = option_map (Scope w.0 w.1) (event_number w.2)

unfoldable pub scope : Asking → Option Command
scope a = option_and_then scope_of (three_operands a.operands a)

unfoldable pub questions : Asking → Option Command
questions a = option_map Questions (only_operand a.operands a)

unfoldable pub explore : Asking → Option Command
explore a = option_map Explore (only_operand a.operands a)

unfoldable pub audit : Asking → Option Command
audit a = option_map Audit (only_operand a.operands a)

-- a trace, and what it is written to
unfoldable pub migrating : Option (List ℕ) → Asking → Option Command
migrating None a = None
migrating (Some name) a = option_map (λ t. Migrate t name) (only_operand a.operands (record a { trace = None }))

unfoldable pub generated : Asking → Option Command
generated a = option_map Gen (option_and_then (number_up_to 2000) (only_operand a.operands a))

-- the command of this name about a trace that is there, where it takes what is named
unfoldable pub over_trace : List ℕ → Asking → Option Command
over_trace name a =
    if bytes_eq name (codes "output") then output a
    else (if bytes_eq name (codes "why") then why a
    else (if bytes_eq name (codes "whynot") then whynot a
    else (if bytes_eq name (codes "affects") then affects a
    else (if bytes_eq name (codes "certify") then certify a
    else (if bytes_eq name (codes "check") then check a
    else (if bytes_eq name (codes "scope") then scope a
    else (if bytes_eq name (codes "questions") then questions a
    else (if bytes_eq name (codes "explore") then explore a
    else (if bytes_eq name (codes "audit") then audit a else None)))))))))

-- the command of this name, where it takes what is named
unfoldable pub command_named : List ℕ → Asking → Option Command
command_named name a =
    if bytes_eq name (codes "run") then run a
    else (if bytes_eq name (codes "record") then recording a.trace a
    else (if bytes_eq name (codes "migrate") then migrating a.trace a
    else (if bytes_eq name (codes "gen") then generated a
    else over_trace name a)))
