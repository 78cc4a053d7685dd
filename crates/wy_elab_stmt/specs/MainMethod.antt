-- The first main of a text by what is written: String[] is written `String` with one pair of brackets, before or behind the name.
use Rattle.std.specs.Prelude.{ℕ, ◌+◌, Bool, false, ◌&&◌, ◌==◌, List, [], ◌∷◌, Option, Some, None, bytes_eq, codes, if◌then◌else◌}
use Rattle.std.specs.Option.{option_or}
use Rattle.wy_syntax.specs.declared.declaration.Modifier.TheVariants as modifier
use Rattle.wy_syntax.specs.Syntax.{Base, Parameter, Header, Member, Declaration}
use Rattle.wy_syntax.specs.Syntax as source
use Rattle.wy_members.specs.Declarations.{CompilationUnit, has}

abbrev pub is_string : Base → Bool
is_string (source.Basic p) = false
is_string (source.Class name) = bytes_eq name (codes "String")

abbrev pub is_text_array : Parameter → Bool
is_text_array p = is_string p.ty.base && p.ty.brackets + p.brackets == 1

abbrev pub is_one_text_array : List Parameter → Bool
is_one_text_array [] = false
is_one_text_array (p ∷ []) = is_text_array p
is_one_text_array (p ∷ q ∷ rest) = false

abbrev pub is_written_main : Header → Bool
is_written_main h = bytes_eq h.name.name (codes "main") && has modifier.Public h.modifiers && has modifier.Static h.modifiers && is_one_text_array h.params

-- the token of the name, where the member is one with a body that gives nothing
abbrev pub main_at : Member → Option ℕ
main_at (source.Method h None (Some b)) = if is_written_main h then Some h.name.token else None
main_at _ = None

abbrev pub main_among : List Member → Option ℕ
main_among [] = None
main_among (m ∷ rest) = option_or (main_at m) (main_among rest)

abbrev pub main_declared : Declaration → Option ℕ
main_declared source.Declaration.Nothing = None
main_declared (source.Declared k) = main_among k.members
main_declared source.Declaration.Unknown = None

-- the token of the first main's name
abbrev pub written_main_token : CompilationUnit → Option ℕ
written_main_token [] = None
written_main_token (d ∷ rest) = option_or (main_declared d) (written_main_token rest)
