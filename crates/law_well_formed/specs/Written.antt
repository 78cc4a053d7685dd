-- What the text of a program can say: each body and each initial value in its classes is one that a text can say.
use Rattle.std.specs.Prelude.{◌≡◌, false, List, Some, None}
use Rattle.std.specs.List.{All}
use Rattle.wy_tree.specs.Seen.{Tok, Word}
use Rattle.wy_tree.specs.Words.{is_key}
use Rattle.wy_syntax.specs.Syntax.{Member, ClassSyntax}
use Rattle.wy_syntax.specs.Syntax as source
use Rattle.wy_members.specs.Declarations.{CompilationUnit, classes_of}
use Rattle.law_typed.specs.StatementsWritten.{DeclaratorsWritten, BlockWritten, AllWritten}
use Rattle.law_typed.specs.Bodies.{CallWritten}

abbrev pub MemberWritten : Member → Type 0
MemberWritten (source.Initializer is_static block) = BlockWritten block
MemberWritten (source.Fields modifiers ty all) = DeclaratorsWritten all
MemberWritten (source.Method h result None) = Unit {0}
MemberWritten (source.Method h result (Some b)) = BlockWritten b
MemberWritten (source.Constructor h own brace parts end) = CallWritten own × AllWritten parts
MemberWritten source.Member.Nothing = Unit {0}
MemberWritten source.Member.Unknown = Unit {0}

abbrev pub ClassWritten : ClassSyntax → Type 0
ClassWritten k = All MemberWritten k.members

-- each member of each class
abbrev pub UnitWritten : CompilationUnit → Type 0
UnitWritten unit = All ClassWritten (classes_of unit)

-- A word that is a name is no keyword, and none of true, false and null (JLS 3.8).
abbrev pub IsNoKeyword : Tok → Type 0
IsNoKeyword (Word name) = is_key name ≡ false
IsNoKeyword _ = Unit {0}

abbrev pub HasNoKeyword : List Tok → Type 0
HasNoKeyword all = All IsNoKeyword all
