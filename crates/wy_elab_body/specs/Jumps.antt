-- Where jumps go, and how far the test of a statement reaches (JLS 14.7, 14.15 to 14.18).
use Rattle.std.specs.Prelude.{ℕ, ◌==◌, Bool, List, [], ◌∷◌, ◌++◌, find, Option, Some, None, option_map, option_and_then, unwrap_or, bytes_eq, if◌then◌else◌}
use Rattle.std.specs.List.{list_any}
use Rattle.wy_kernel.specs.Form.{Statement, Stmt, Act, Block, Eval, Declare, If, While, Do, For, Labelled, Jump, Return, Throw, Try, Print, Other, nothing, this, Statements, done, first, Catches, uncaught, catch}
use Rattle.wy_syntax.specs.Syntax.{Named}
use Rattle.wy_elab_body.specs.Parts.{Outcome}

-- a loop around a statement, by its number and that of its body
pub record Loop : Type 0 where
  pub number : ℕ
  pub body : ℕ

-- a labelled statement around a statement, by its number; loop_body is the number of the loop's body where it is a loop's label
pub record Label : Type 0 where
  pub name : List ℕ
  pub number : ℕ
  pub loop_body : Option ℕ

-- what stands around a statement in its body: enclosing has the numbers of the statements that contain it, the outermost first; catcher is
-- that of the innermost `try` with a catch whose first block holds it, or of the body
pub record Around : Type 0 where
  pub body : ℕ
  pub outcome : Outcome
  pub enclosing : List ℕ
  pub catcher : ℕ
  pub innermost_loop : Option Loop
  pub labels : List Label

-- in a body whose block has this number
abbrev pub alone : ℕ → Outcome → Around
alone body outcome = record { body = body; outcome = outcome; enclosing = []; catcher = body; innermost_loop = None; labels = [] }

-- in the statement with this number
abbrev pub inside : Around → ℕ → Around
inside a number = record a { enclosing = a.enclosing ++ number ∷ [] }

abbrev pub in_loop : Around → ℕ → ℕ → Around
in_loop a number body = record (inside a number) { innermost_loop = Some (record { number = number; body = body }) }

abbrev pub under_label : Around → List ℕ → ℕ → Option ℕ → Around
under_label a name number loop_body = record (inside a number) { labels = a.labels ++ record { name = name; number = number; loop_body = loop_body } ∷ [] }

abbrev pub in_try : Around → ℕ → Around
in_try a number = record (inside a number) { catcher = number }

-- ---- targets

abbrev pub is_labelled : List ℕ → Label → Bool
is_labelled name l = bytes_eq l.name name

unfoldable pub label_named : Around → List ℕ → Option Label
label_named a name = find (is_labelled name) a.labels

-- `break` goes to the end of the innermost loop, or of the labelled statement
unfoldable pub break_target : Around → Option Named → Option ℕ
break_target a None = option_map (λ (l : Loop). l.number) a.innermost_loop
break_target a (Some n) = option_map (λ (l : Label). l.number) (label_named a n.name)

-- `continue` goes to the end of the body of the innermost loop, or of the loop that has the label
unfoldable pub continue_target : Around → Option Named → Option ℕ
continue_target a None = option_map (λ (l : Loop). l.body) a.innermost_loop
continue_target a (Some n) = option_and_then (λ (l : Label). l.loop_body) (label_named a n.name)

abbrev pub has_clause : Catches → Bool
has_clause uncaught = Bool.false
has_clause (catch class local site block rest) = Bool.true

unfoldable mutual
  -- the targets of the jumps in a statement; a `return` goes to the end of the body, and a `throw` to the innermost `try` with a catch
  -- whose first block holds it, or else to the end of the body
  pub targets : ℕ → ℕ → Statement → List ℕ
  targets body catcher (Stmt number site askable reach act) = targets_within body catcher number act

  pub targets_within : ℕ → ℕ → ℕ → Act → List ℕ
  targets_within body catcher number (Block parts) = targets_of_all body catcher parts
  targets_within body catcher number (If test if_true if_false) = targets body catcher if_true ++ targets_of_other body catcher if_false
  targets_within body catcher number (While test inner) = targets body catcher inner
  targets_within body catcher number (Do inner test) = targets body catcher inner
  targets_within body catcher number (For inits test updates inner) = targets body catcher inner
  targets_within body catcher number (Labelled inner) = targets body catcher inner
  targets_within body catcher number (Jump target) = target ∷ []
  targets_within body catcher number (Return value) = body ∷ []
  targets_within body catcher number (Throw value) = catcher ∷ []
  targets_within body catcher number (Try main catches last) =
      targets body (if has_clause catches then number else catcher) main ++ targets_of_catches body catcher catches ++ targets_of_other body catcher last
  targets_within body catcher number (Eval value) = []
  targets_within body catcher number (Declare local) = []
  targets_within body catcher number (Print operand ty ends_line site) = []

  pub targets_of_other : ℕ → ℕ → Other → List ℕ
  targets_of_other body catcher nothing = []
  targets_of_other body catcher (this s) = targets body catcher s

  pub targets_of_all : ℕ → ℕ → Statements → List ℕ
  targets_of_all body catcher done = []
  targets_of_all body catcher (first s rest) = targets body catcher s ++ targets_of_all body catcher rest

  pub targets_of_catches : ℕ → ℕ → Catches → List ℕ
  targets_of_catches body catcher uncaught = []
  targets_of_catches body catcher (catch class local site block rest) = targets body catcher block ++ targets_of_catches body catcher rest

-- ---- reaches

abbrev pub is_among : List ℕ → ℕ → Bool
is_among targets number = list_any (λ target. target == number) targets

-- the test of a statement that guards jumps with these targets reaches to the end of the outermost of them that contains the statement,
-- and to its own end where none does
unfoldable pub reach_of : Around → ℕ → List ℕ → ℕ
reach_of a number targets = unwrap_or (find (is_among targets) a.enclosing) number
