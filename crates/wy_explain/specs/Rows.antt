-- What is said of a rule, and of a feature by the words around the place where it is refused.
use Rattle.std.specs.Prelude.{ℕ, Bool, true, false, List, [], ◌∷◌, ◌&&◌, ◌||◌, bytes_eq, codes, if◌then◌else◌, Option, Some, None}
use Rattle.std.specs.List.{list_any}
use Rattle.wy_tree.specs.Bytes.{begins_with, is_within}

abbrev pub Text : Type 0
Text = List ℕ

pub record Saying : Type 0 where
  pub rule : Text
  pub says : Text

-- a feature that is left out, or a slip, which is no Java either, and what to write in its place
pub record Feature : Type 0 where
  pub name : Text
  pub is_java : Bool
  pub instead : Text

-- a feature by the words that it is refused at
pub record Row : Type 0 where
  pub words : List Text
  pub feature : Feature

-- a feature by the word that it is refused at, the one before it, words one after another before it in its statement, and one behind it
pub record Form : Type 0 where
  pub here : List Text
  pub before : List Text
  pub within : List Text
  pub ahead : List Text
  pub feature : Feature

-- what stands at a refusal: its place, the word there and the one before it, those before it in its statement, and those behind it
pub record Window : Type 0 where
  pub place : ℕ
  pub here : Text
  pub last : Text
  pub before : List Text
  pub ahead : List Text

abbrev pub is_empty : List Text → Bool
is_empty [] = true
is_empty (word ∷ words) = false

abbrev pub saying : Text → Text → Saying
saying rule says = record { rule = rule; says = says }

abbrev pub feature_by : Text → Bool → Text → Feature
feature_by name is_java instead = record { name = name; is_java = is_java; instead = instead }

abbrev pub row : List Text → Text → Bool → Text → Row
row words name is_java instead = record { words = words; feature = feature_by name is_java instead }

abbrev pub form : List Text → List Text → List Text → List Text → Text → Bool → Text → Form
form here before within ahead name is_java instead =
    record { here = here; before = before; within = within; ahead = ahead; feature = feature_by name is_java instead }

-- ---- which row fits

abbrev pub says_in : List Saying → Text → Text
says_in [] rule = []
says_in (s ∷ sayings) rule = if bytes_eq s.rule rule then s.says else says_in sayings rule

-- the first row with this word
abbrev pub feature_in : List Row → Text → Option Feature
feature_in [] word = None
feature_in (r ∷ rows) word = if list_any (λ w. bytes_eq w word) r.words then Some r.feature else feature_in rows word

-- a sign stands for itself, or for each word that begins with a capital letter, a small letter or a quotation mark
unfoldable pub stands_for : Text → Text → Bool
stands_for sign word =
    bytes_eq sign word
    || ((bytes_eq sign (codes "Name") && begins_with (is_within 65 90) word)
    || ((bytes_eq sign (codes "name") && begins_with (is_within 97 122) word)
    || (bytes_eq sign (codes "\"") && begins_with (is_within 34 34) word)))

-- one of the signs stands for the word, or there is no sign
abbrev pub asks : List Text → Text → Bool
asks signs word = is_empty signs || list_any (λ s. stands_for s word) signs

-- one of the signs stands for one of the words, or there is no sign
abbrev pub asks_for_some : List Text → List Text → Bool
asks_for_some signs words = is_empty signs || list_any (asks signs) words

-- the words begin with these
abbrev pub begin_so : List Text → List Text → Bool
begin_so words [] = true
begin_so [] (sign ∷ signs) = false
begin_so (word ∷ words) (sign ∷ signs) = stands_for sign word && begin_so words signs

-- these stand one after another somewhere among the words
abbrev pub stand_so : List Text → List Text → Bool
stand_so [] signs = begin_so [] signs
stand_so (word ∷ words) signs = begin_so (word ∷ words) signs || stand_so words signs

abbrev pub is_seen : Form → Window → Bool
is_seen f w = asks f.here w.here && (asks f.before w.last && (stand_so w.before f.within && asks_for_some f.ahead w.ahead))

-- the first form that is seen
abbrev pub form_in : List Form → Window → Option Feature
form_in [] w = None
form_in (f ∷ forms) w = if is_seen f w then Some f.feature else form_in forms w
