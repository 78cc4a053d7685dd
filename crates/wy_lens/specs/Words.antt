-- What the words of the command line ask, as the crate that reads them reads the table.
use Rattle.std.specs.Prelude.{◌≡◌, ◌≢◌, ◌||◌, ℕ, Bool, true, false, is_some, bytes_eq, if◌then◌else◌, List, [], Option, Some, None, codes, option_and_then, option_map}
use Rattle.std.specs.Option.{option_map_or}
use Rattle.clap.specs.Walk.{Row, Text, first_of}
use Rattle.clap.specs.Simple.{subcommand_of}
use Rattle.clap.specs.Faults.{fault_of}
use Rattle.clap.specs.Kinds.{IsAmong}
use Rattle.clap.specs.declared.error.kind.ErrorKind.{ErrorKind}
use Rattle.clap.specs.declared.error.kind.ErrorKind.TheVariants as kind
use Rattle.wy_fold.specs.declared.fold.Showing.{Showing}
use Rattle.wy_lens.specs.Table.{table}
use Rattle.wy_lens.specs.declared.words.Beside.{Beside}
use Rattle.wy_lens.specs.declared.words.Beside.TheVariants.{Run, Output}

-- what is told of a trace: the answer to a question, or to why its run stopped, by lines; the lines of the source that an answer stands
-- on; the answer as a page; all events, or those of a line
pub data Telling : Type 0 where
  Show : (question : Option Text) (showing : Showing) → Telling
  Slice : (question : Text) → Telling
  Report : (question : Text) → Telling
  Events : (line : Option Text) → Telling

-- what can be asked
pub data Request : Type 0 where
  Explain : (source : Text) → Request
  Tell : (trace : Text) (telling : Telling) → Request
  Compare : (beside : Beside) (trace other : Text) → Request
  Help : Request
  Version : Request

-- ---- what stands behind a command's name

-- the option stands
unfoldable pub is_set : Text → List Row → Bool
is_set id rows = option_map_or (λ v. bytes_eq v (codes "true")) (first_of id rows) false

unfoldable pub has_options : List Row → Bool
has_options rows = is_set (codes "stop") rows || (is_set (codes "all") rows || is_set (codes "data") rows)

-- a question is shown, or where the run stopped: one of the two
unfoldable pub shown : Bool → Option Text → Showing → Option Telling
shown true None showing = Some (Show None showing)
shown false None showing = None
shown true (Some question) showing = None
shown false (Some question) showing = Some (Show (Some question) showing)

abbrev pub showing_in : List Row → Showing
showing_in rows = record { is_open = is_set (codes "all") rows; by_data = is_set (codes "data") rows }

-- what the command of this name tells of a trace
unfoldable pub telling_in : Text → List Row → Option Telling
telling_in name rows =
    if bytes_eq name (codes "show") then shown (is_set (codes "stop") rows) (first_of (codes "second") rows) (showing_in rows)
    else (if has_options rows then None
    else (if bytes_eq name (codes "slice") then option_map Slice (first_of (codes "second") rows)
    else (if bytes_eq name (codes "report") then option_map Report (first_of (codes "second") rows)
    else (if bytes_eq name (codes "events") then Some (Events (first_of (codes "second") rows)) else None))))

unfoldable pub explaining : List Row → Text → Option Request
explaining rows source = if has_options rows || is_some (first_of (codes "second") rows) then None else Some (Explain source)

-- a trace is compared with another file
unfoldable pub comparing : Beside → List Row → Text → Option Request
comparing beside rows trace = if has_options rows then None else option_map (Compare beside trace) (first_of (codes "second") rows)

-- what it asks of a file
unfoldable pub request_for : Text → List Row → Text → Option Request
request_for name rows file =
    if bytes_eq name (codes "explain") then explaining rows file
    else (if bytes_eq name (codes "diff") then comparing Run rows file
    else (if bytes_eq name (codes "expect") then comparing Output rows file else option_map (Tell file) (telling_in name rows)))

-- what the command that is entered asks: its first operand is a file
abbrev pub request_in : Option (Text × List Row) → Option Request
request_in None = None
request_in (Some p) = option_and_then (request_for p.0 p.1) (first_of (codes "first") p.1)

-- ---- what words ask

-- what a fault of this kind asks; want of memory is none
abbrev pub IsFault : ErrorKind → Option Request → Type 0
IsFault k (Some (Explain source)) = ⊥
IsFault k (Some (Tell trace telling)) = ⊥
IsFault k (Some (Compare beside trace other)) = ⊥
IsFault k (Some Help) = k ≡ kind.DisplayHelp
IsFault k (Some Version) = k ≡ kind.DisplayVersion
IsFault k None = (k ≢ kind.DisplayHelp) × (k ≢ kind.DisplayVersion) × (k ≢ kind.OutOfMemory)

-- the words ask this
pub data Asks (words : List (List ℕ)) : Request → Type 0 where
  entered : (r : Request) → fault_of table words ≡ [] → request_in (subcommand_of table words) ≡ Some r → Asks words r
  help : IsAmong kind.DisplayHelp (fault_of table words) → Asks words Help
  version : IsAmong kind.DisplayVersion (fault_of table words) → Asks words Version

-- the words ask nothing: they have a fault, or the command that is entered doesn't take what is named
pub data AskNothing (words : List (List ℕ)) : Type 0 where
  fault : (k : ErrorKind) → IsAmong k (fault_of table words) → IsFault k None → AskNothing words
  none : fault_of table words ≡ [] → request_in (subcommand_of table words) ≡ None → AskNothing words
