-- What the parts of a session do to its input and its output.
use Rattle.std.specs.Prelude.{◌≡◌, ◌<◌, ◌⊎◌, ℕ, ◌+◌, List, [], ◌++◌, length, take, Option, Some, codes, Result, Ok, Err}
use Rattle.std.specs.Prelude.{None as Absent}
use Rattle.wy_text.specs.EndLines.{line_of}
use Rattle.wy_explore.specs.Session.{Session}
use Rattle.wy_outside.specs.Counts.{Rose, last_count}
use Rattle.wy_outside.specs.Sink.{appended}
use Rattle.wy_session.specs.Scene.{Said, Scene}
use Rattle.wy_session.specs.Situation.{Scenes}
use Rattle.wy_session.specs.Talk.{AnswersFirst, BeginsTalk, IsPrefixOf, IsReadOut, Reaches, Talks, most_in_line}
use Rattle.wy_session.specs.declared.ending.Ending.{Ending}
use Rattle.wy_session.specs.declared.ending.Ending.TheVariants.{Done, LongLine, LongInput, KeysFailed, OutFailed, View, NoMemory}

-- ---- the whole of a session

abbrev pub keys_fault_line : List ℕ
keys_fault_line = line_of (codes "fault: keys")

-- the failures of the keys and of the output, before and after
pub record Failures : Type 0 where
  pub keys_before : ℕ
  pub keys_after : ℕ
  pub out_before : ℕ
  pub out_after : ℕ

abbrev pub failures : ℕ → ℕ → ℕ → ℕ → Failures
failures keys_before keys_after out_before out_after = record {
  keys_before = keys_before;
  keys_after = keys_after;
  out_before = out_before;
  out_after = out_after;
}

abbrev pub KeysStayed : Failures → Type 0
KeysStayed f = f.keys_after ≡ f.keys_before

abbrev pub OutStayed : Failures → Type 0
OutStayed f = f.out_after ≡ f.out_before

-- all that is due for an input was written, with this status
abbrev pub WritesAll : Scenes → Option (List ℕ) → ℕ → List ℕ → Type 0
WritesAll over told status said =
    (x : Scene) (input : List ℕ) → over x → told ≡ Some input → Talks x input status said

-- a prefix of what is due for an input was written
abbrev pub WritesPart : Scenes → Option (List ℕ) → List ℕ → Type 0
WritesPart over told said =
    (x : Scene) (input : List ℕ) → over x → told ≡ Some input → BeginsTalk x input said

-- all that some first lines of an input are answered was written, and nothing else
abbrev pub WritesFirst : Scenes → Option (List ℕ) → List ℕ → Type 0
WritesFirst over told said =
    (x : Scene) (input : List ℕ) → over x → told ≡ Some input → AnswersFirst x input said

-- nothing was written of the line of a fault, or the keys failed and a prefix of it was
abbrev pub BreaksOff : Failures → List ℕ → Type 0
BreaksOff f line = ((line ≡ []) × KeysStayed f) ⊎ (Rose f.keys_before f.keys_after × IsPrefixOf line keys_fault_line)

-- what was written when a session ended so, over one of these traces and an input that may be told: to
-- its lines, and then of the line of a fault
abbrev pub Closes : Scenes → Option (List ℕ) → Failures → Ending → List ℕ → List ℕ → Type 0
Closes over told f Done said line =
    (line ≡ []) × KeysStayed f × OutStayed f × WritesAll over told 0 said
Closes over told f LongLine said line =
    (line ≡ []) × KeysStayed f × OutStayed f × WritesAll over told 8 said
Closes over told f LongInput said line =
    (line ≡ []) × KeysStayed f × OutStayed f × WritesAll over told 8 said
Closes over told f KeysFailed said line =
    (line ≡ keys_fault_line) × Rose f.keys_before f.keys_after × OutStayed f × WritesPart over told said
Closes over told f OutFailed said line =
    BreaksOff f line × Rose f.out_before f.out_after × WritesPart over told said
Closes over told f (View e) said line =
    (line ≡ []) × KeysStayed f × OutStayed f × WritesFirst over told said
Closes over told f NoMemory said line = BreaksOff f line × OutStayed f × WritesPart over told said

pub record Closed (over : Scenes) (told : Option (List ℕ)) (f : Failures)
    (before after : Option (List ℕ)) (ending : Ending) : Type 0 where
  pub said : List ℕ
  pub line : List ℕ
  pub closes : Closes over told f ending said line
  pub written : after ≡ appended before (said ++ line)

-- a session that ended with all said has read an input that is told to its end, or at least to the end
-- of its quit, and what is left of it is told
abbrev pub ReadsOut : Scenes → Option (List ℕ) → Option (List ℕ) → Ending → Type 0
ReadsOut over told left Done = (x : Scene) (input : List ℕ) → over x → told ≡ Some input
    → (rest : List ℕ) × (left ≡ Some rest) × IsReadOut x input rest
ReadsOut over told left _ = Unit {0}

-- more was taken than a line may have, or so much that it is not counted any more
abbrev pub TookMany : ℕ → ℕ → Type 0
TookMany before after = (before + most_in_line < after) ⊎ (after ≡ last_count)

abbrev pub TakesManyFor : Ending → ℕ → ℕ → Type 0
TakesManyFor LongLine before after = TookMany before after
TakesManyFor LongInput before after = TookMany before after
TakesManyFor _ before after = Unit {0}

-- ---- a part of a session

-- reading these bytes, of which so many came before, leads a session there, where these are the
-- bytes of a line that isn't whole; and what is answered
pub record Leads (x : Scene) (s : Session) (before : ℕ) (bytes : List ℕ)
    (t : Session) (after : ℕ) (open_line said : List ℕ) : Type 0 where
  pub reaches : (input left earlier : List ℕ) → Reaches x input s (bytes ++ left) earlier
      → length input ≡ before + length (bytes ++ left)
      → Reaches x input t (open_line ++ left) (earlier ++ said)
  pub counts : before + length bytes ≡ after + length open_line

-- so a session ends that is written to an output, with so much of its input left
abbrev pub StopsAt : Scene → List ℕ → List ℕ → Ending → List ℕ → Type 0
StopsAt x input left Done text = Talks x input 0 text × IsReadOut x input left
StopsAt x input left LongLine text = Talks x input 8 text
StopsAt x input left LongInput text = Talks x input 8 text
StopsAt x input left KeysFailed text = ⊥
StopsAt x input left OutFailed text = BeginsTalk x input text
StopsAt x input left (View e) text = AnswersFirst x input text
StopsAt x input left NoMemory text = BeginsTalk x input text

-- reading these bytes, of which so many came before, ends a session so, with this written
abbrev pub Stops : Scene → Session → ℕ → List ℕ → Ending → List ℕ → Type 0
Stops x s before bytes ending said = (input left earlier : List ℕ)
    → Reaches x input s (bytes ++ left) earlier → length input ≡ before + length (bytes ++ left)
    → StopsAt x input left ending (earlier ++ said)

-- the output failed exactly where a session ends so
abbrev pub OutFor : Ending → ℕ → ℕ → Type 0
OutFor OutFailed before after = Rose before after
OutFor KeysFailed before after = ⊥
OutFor _ before after = after ≡ before

-- the same of what may have ended it
abbrev pub OutOf : Result Unit Ending → ℕ → ℕ → Type 0
OutOf (Ok _) before after = after ≡ before
OutOf (Err ending) before after = OutFor ending before after

-- a limit was passed, and so many bytes were read
abbrev pub IsLong : ℕ → Ending → Type 0
IsLong read LongLine = most_in_line < read
IsLong read LongInput = most_in_line < read
IsLong read _ = Unit {0}

abbrev pub LongAt : ℕ → Result Unit Ending → Type 0
LongAt read (Ok _) = Unit {0}
LongAt read (Err ending) = IsLong read ending

-- no limit was passed
abbrev pub IsWithin : Result Unit Ending → Type 0
IsWithin (Err LongLine) = ⊥
IsWithin (Err LongInput) = ⊥
IsWithin _ = Unit {0}

-- it ends because not all was written
abbrev pub IsBroken : Ending → Type 0
IsBroken OutFailed = Unit {0}
IsBroken NoMemory = Unit {0}
IsBroken _ = ⊥

-- a text was written, or a prefix of it, and why not all
abbrev pub Puts : List ℕ → Option (List ℕ) → Option (List ℕ) → ℕ → ℕ → Result Unit Ending → Type 0
Puts text old new n m (Ok _) = (new ≡ appended old text) × (m ≡ n)
Puts text old new n m (Err ending) =
    IsBroken ending × OutFor ending n m × ((k : ℕ) × (new ≡ appended old (take k text)))

-- such a text was written, and a session ended so, or the writing of it ended it
abbrev pub EndsWith : List ℕ → Ending → Option (List ℕ) → Option (List ℕ) → ℕ → ℕ → Ending → Type 0
EndsWith text wanted old new n m ending =
    ((ending ≡ wanted) × (new ≡ appended old text) × (m ≡ n))
    ⊎ (IsBroken ending × OutFor ending n m × ((k : ℕ) × (new ≡ appended old (take k text))))

-- nothing, or a prefix of the reply
abbrev pub IsPrefixOfReply : Scene → Session → List ℕ → List ℕ → Type 0
IsPrefixOfReply x s line part =
    (part ≡ []) ⊎ ((t : Session) × (reply : List ℕ) × Said x s line t (Some reply) × IsPrefixOf part reply)

-- what is written for a line, in a session over a trace
abbrev pub Answered : Scene → Session → List ℕ → (Session → Type 0) → Result Unit Ending → List ℕ → Type 0
Answered x s line stands (Ok _) part = (t : Session) × Said x s line t (Some part) × stands t
Answered x s line stands (Err Done) part = (t : Session) × Said x s line t Absent × (part ≡ [])
Answered x s line stands (Err LongLine) part = ⊥
Answered x s line stands (Err LongInput) part = ⊥
Answered x s line stands (Err KeysFailed) part = ⊥
Answered x s line stands (Err OutFailed) part = IsPrefixOfReply x s line part
Answered x s line stands (Err (View e)) part = part ≡ []
Answered x s line stands (Err NoMemory) part = IsPrefixOfReply x s line part
