-- What the words of the command line ask: a command's name, and behind it operands and options in any order.
use Rattle.std.specs.Prelude.{◌≡◌, ℕ, length, List, [], ◌∷◌, ◌++◌, Bool, false, not, ◌&&◌, ◌==◌, nat_le, if◌then◌else◌, IsTrue, Option, Some, None, unwrap_or, codes, filter_map}
use Rattle.std.specs.Option.{option_to_list}
use Rattle.std.specs.Str.{all_ascii_digits}
use Rattle.std.specs.Str.Parse.{digits_value}

-- ---- words

-- a plain word isn't empty and doesn't begin with a minus sign
unfoldable pub is_plain : List ℕ → Bool
is_plain [] = false
is_plain (first ∷ rest) = not (first == 45)

-- a number has one to eight decimal digits and a value from 1 to this
unfoldable pub number_up_to : ℕ → List ℕ → Option ℕ
number_up_to most word = let value = digits_value 10 word in
    if all_ascii_digits word && nat_le (length word) 8 && nat_le 1 value && nat_le value most then Some value else None

-- the number of an event has one to ten decimal digits
unfoldable pub event_number : List ℕ → Option ℕ
event_number word = let value = digits_value 10 word in
    if all_ascii_digits word && nat_le 1 (length word) && nat_le (length word) 10 && nat_le value 4294967295 then Some value else None

-- the word is this number of steps
abbrev pub IsSteps : List ℕ → ℕ → Type 0
IsSteps word n = number_up_to 50000000 word ≡ Some n

-- the word is this number of methods of a generated program
abbrev pub IsMethods : List ℕ → ℕ → Type 0
IsMethods word n = number_up_to 2000 word ≡ Some n

-- ---- parts

-- what stands behind a command's name: an operand, or an option with its value
pub data Part : Type 0 where
  Operand : (word : List ℕ) → Part
  Input : (name : List ℕ) → Part
  Trace : (name : List ℕ) → Part
  Steps : (number : ℕ) → Part

-- the words are these parts, one after another
pub data Spells : List (List ℕ) → List Part → Type 0 where
  no_part : Spells [] []
  operand_part : {word : List ℕ} {words : List (List ℕ)} {parts : List Part} → IsTrue (is_plain word)
      → Spells words parts → Spells (word ∷ words) (Operand word ∷ parts)
  input_part : {name : List ℕ} {words : List (List ℕ)} {parts : List Part} → IsTrue (is_plain name)
      → Spells words parts → Spells (codes "-i" ∷ (name ∷ words)) (Input name ∷ parts)
  trace_part : {name : List ℕ} {words : List (List ℕ)} {parts : List Part} → IsTrue (is_plain name)
      → Spells words parts → Spells (codes "-o" ∷ (name ∷ words)) (Trace name ∷ parts)
  steps_part : {word : List ℕ} {n : ℕ} {words : List (List ℕ)} {parts : List Part} → IsSteps word n
      → Spells words parts → Spells (codes "--steps" ∷ (word ∷ words)) (Steps n ∷ parts)
  joined_steps_part : {word : List ℕ} {n : ℕ} {words : List (List ℕ)} {parts : List Part} → IsSteps word n
      → Spells words parts → Spells ((codes "--steps=" ++ word) ∷ words) (Steps n ∷ parts)

abbrev pub operand_of : Part → Option (List ℕ)
operand_of (Operand word) = Some word
operand_of _ = None

abbrev pub input_of : Part → Option (List ℕ)
input_of (Input name) = Some name
input_of _ = None

abbrev pub trace_of : Part → Option (List ℕ)
trace_of (Trace name) = Some name
trace_of _ = None

abbrev pub steps_of : Part → Option ℕ
steps_of (Steps n) = Some n
steps_of _ = None

-- the parts are these operands in their order, and these options, each at most once
pub record Holds (parts : List Part) (operands : List (List ℕ)) (input trace : Option (List ℕ)) (steps : Option ℕ) : Type 0 where
  pub has_operands : filter_map operand_of parts ≡ operands
  pub has_input : filter_map input_of parts ≡ option_to_list input
  pub has_trace : filter_map trace_of parts ≡ option_to_list trace
  pub has_steps : filter_map steps_of parts ≡ option_to_list steps

-- ---- commands

-- a run of the program in a file, on the input in another where one is named
pub record Asked : Type 0 where
  pub source : List ℕ
  pub input : Option (List ℕ)
  pub steps : ℕ

-- what can be asked
pub data Command : Type 0 where
  Run : (asked : Asked) → Command
  Record : (asked : Asked) (trace : List ℕ) → Command
  Output : (trace : List ℕ) → Command
  Why : (trace question : List ℕ) → Command
  WhyNot : (trace statement : List ℕ) → Command
  Affects : (trace question : List ℕ) → Command
  Certify : (trace question : List ℕ) → Command
  Check : (trace certificate : List ℕ) → Command
  Scope : (trace statement : List ℕ) (call : ℕ) → Command
  Questions : (trace : List ℕ) → Command
  Explore : (trace : List ℕ) → Command
  Audit : (trace : List ℕ) → Command
  Migrate : (trace name : List ℕ) → Command
  Gen : (number : ℕ) → Command

-- the steps that are run where none are asked
abbrev pub default_steps : ℕ
default_steps = 1000000

abbrev pub asked : List ℕ → Option (List ℕ) → Option ℕ → Asked
asked source input steps = record { source = source; input = input; steps = unwrap_or steps default_steps }

-- the words ask this: the command's name, and then its operands and options
pub data Asks : List (List ℕ) → Command → Type 0 where
  run : {words : List (List ℕ)} {parts : List Part} {source : List ℕ} {input : Option (List ℕ)} {steps : Option ℕ} → Spells words parts
      → Holds parts (source ∷ []) input None steps → Asks (codes "run" ∷ words) (Run (asked source input steps))
  recording : {words : List (List ℕ)} {parts : List Part} {source trace : List ℕ} {input : Option (List ℕ)} {steps : Option ℕ} → Spells words parts
      → Holds parts (source ∷ []) input (Some trace) steps → Asks (codes "record" ∷ words) (Record (asked source input steps) trace)
  output : {words : List (List ℕ)} {parts : List Part} {trace : List ℕ} → Spells words parts
      → Holds parts (trace ∷ []) None None None → Asks (codes "output" ∷ words) (Output trace)
  why : {words : List (List ℕ)} {parts : List Part} {trace question : List ℕ} → Spells words parts
      → Holds parts (trace ∷ (question ∷ [])) None None None → Asks (codes "why" ∷ words) (Why trace question)
  whynot : {words : List (List ℕ)} {parts : List Part} {trace statement : List ℕ} → Spells words parts
      → Holds parts (trace ∷ (statement ∷ [])) None None None → Asks (codes "whynot" ∷ words) (WhyNot trace statement)
  affects : {words : List (List ℕ)} {parts : List Part} {trace question : List ℕ} → Spells words parts
      → Holds parts (trace ∷ (question ∷ [])) None None None → Asks (codes "affects" ∷ words) (Affects trace question)
  certify : {words : List (List ℕ)} {parts : List Part} {trace question : List ℕ} → Spells words parts
      → Holds parts (trace ∷ (question ∷ [])) None None None → Asks (codes "certify" ∷ words) (Certify trace question)
  check : {words : List (List ℕ)} {parts : List Part} {trace certificate : List ℕ} → Spells words parts
      → Holds parts (trace ∷ (certificate ∷ [])) None None None → Asks (codes "check" ∷ words) (Check trace certificate)
  scope : {words : List (List ℕ)} {parts : List Part} {trace statement word : List ℕ} {call : ℕ} → Spells words parts
      → Holds parts (trace ∷ (statement ∷ (word ∷ []))) None None None → event_number word ≡ Some call
      → Asks (codes "scope" ∷ words) (Scope trace statement call)
  questions : {words : List (List ℕ)} {parts : List Part} {trace : List ℕ} → Spells words parts
      → Holds parts (trace ∷ []) None None None → Asks (codes "questions" ∷ words) (Questions trace)
  explore : {words : List (List ℕ)} {parts : List Part} {trace : List ℕ} → Spells words parts
      → Holds parts (trace ∷ []) None None None → Asks (codes "explore" ∷ words) (Explore trace)
  audit : {words : List (List ℕ)} {parts : List Part} {trace : List ℕ} → Spells words parts
      → Holds parts (trace ∷ []) None None None → Asks (codes "audit" ∷ words) (Audit trace)
  migrating : {words : List (List ℕ)} {parts : List Part} {trace name : List ℕ} → Spells words parts
      → Holds parts (trace ∷ []) None (Some name) None → Asks (codes "migrate" ∷ words) (Migrate trace name)
  generated : {words : List (List ℕ)} {parts : List Part} {word : List ℕ} {n : ℕ} → Spells words parts
      → Holds parts (word ∷ []) None None None → IsMethods word n → Asks (codes "gen" ∷ words) (Gen n)

-- the words are no command
abbrev pub IsNoCommand : List (List ℕ) → Type 0
IsNoCommand words = (c : Command) → Asks words c → ⊥

-- no words ask two commands
abbrev pub AskOneCommand : Type 0
AskOneCommand = (words : List (List ℕ)) (c d : Command) → Asks words c → Asks words d → c ≡ d
