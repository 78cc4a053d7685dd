-- What is written of a refusal: where it stands, the line with a caret below, what its rule says, and the feature that stands there.
use Rattle.std.specs.Prelude.{ℕ, List, [], ◌++◌, Bool, bytes_eq, codes, drop, length, take, if◌then◌else◌, Option, Some, None}
use Rattle.std.specs.List.{before_first}
use Rattle.std.specs.Fmt.{decimal}
use Rattle.wy_tree.specs.Bytes.{is_line_end}
use Rattle.wy_tree.specs.Tokens.{SpannedToken}
use Rattle.wy_explain.specs.declared.text.Place.{Place}
use Rattle.wy_explain.specs.declared.text.Place.TheVariants.{Byte, Token}
use Rattle.wy_explain.specs.Places.{caret_line, last_line, line_number}
use Rattle.wy_explain.specs.Rows.{Feature, Text, Window, feature_in, form_in, says_in}
use Rattle.wy_explain.specs.Samples.{sample}
use Rattle.wy_explain.specs.Tables.{bytes, calls, forms, names, sayings, words}
use Rattle.wy_explain.specs.Windows.{front_of, window_at}

abbrev pub line_of : Text → Text
line_of text = text ++ codes "\n"

abbrev pub is_rule : Text → Text → Bool
is_rule rule name = bytes_eq rule name

-- ---- the feature

abbrev pub or_else : Option Feature → Option Feature → Option Feature
or_else None next = next
or_else (Some f) next = Some f

-- a method is refused at the parenthesis behind its name
abbrev pub member_at : Window → Text
member_at w = if bytes_eq w.here (codes "(") then w.last else w.here

unfoldable pub feature_at_token : Text → Window → Option Feature
feature_at_token rule w =
    if is_rule rule (codes "Syntax") then or_else (form_in forms w) (feature_in words w.here)
    else (if is_rule rule (codes "UnknownName") then feature_in names w.here
    else (if is_rule rule (codes "NotOffered") then feature_in calls (member_at w) else None))

unfoldable pub feature_at_byte : Text → List ℕ → List ℕ → Option Feature
feature_at_byte rule before rest = if is_rule rule (codes "NotUtf8") then None else feature_in bytes (sample before rest)

abbrev pub judgement : Bool → Text
judgement is_java = if is_java then codes " is not in the subset of Java that whyline runs." else codes " is no Java."

unfoldable pub feature_text : Option Feature → Text
feature_text None = []
feature_text (Some f) = line_of (f.name ++ judgement f.is_java) ++ line_of (codes "Instead: " ++ f.instead)

-- ---- the text

-- the rest of a line; of one that is no UTF-8 nothing is shown
unfoldable pub shown_rest : Text → List ℕ → Text
shown_rest rule rest = if is_rule rule (codes "NotUtf8") then codes "?" else before_first is_line_end rest

-- FILE:LINE:COLUMN: RULE, the line, and the caret, by what stands before the place and the rest of the text
unfoldable pub place_text : Text → Text → List ℕ → List ℕ → Text
place_text name rule before rest =
    line_of (name ++ (codes ":" ++ (decimal (line_number before) ++ (codes ":" ++ (decimal (length (caret_line before)) ++ (codes ": " ++ rule))))))
    ++ (line_of (last_line before ++ shown_rest rule rest) ++ line_of (caret_line before))

unfoldable pub told : Text → Text → List ℕ → List ℕ → Option Feature → Text
told name rule before rest feature = place_text name rule before rest ++ (line_of (says_in sayings rule) ++ feature_text feature)

-- at a byte of a source
abbrev pub told_at : Text → Text → List ℕ → ℕ → Option Feature → Text
told_at name rule source place feature = told name rule (take place source) (drop place source) feature

-- at a byte, or at one of its tokens
abbrev pub explanation : Text → List ℕ → List SpannedToken → Text → Place → Text
explanation name source spans rule (Byte byte) = told_at name rule source byte (feature_at_byte rule (take byte source) (drop byte source))
explanation name source spans rule (Token token) =
    let w = window_at source (front_of source (take token spans)) (drop token spans) in told_at name rule source w.place (feature_at_token rule w)

-- what is written of a program
unfoldable pub program_line : Text → Text
program_line name = name ++ line_of (codes ": a program that whyline runs")
