-- The making of a program step by step: bodies behind others, the texts of all forms, and what a program is made of, as the code of this crate has it.
use Rattle.std.specs.Prelude.{ℕ, ◌+◌, List, [], ◌∷◌, ◌++◌, map, Option, Some, None, option_map, Result, Ok, Err}
use Rattle.wy_kernel.specs.Program as parts
use Rattle.wy_kernel.specs.Table.{Table}
use Rattle.wy_kernel.specs.View.{body_of}
use Rattle.wy_constant.specs.declared.rule.Rule.TheVariants.{NoMain}
use Rattle.wy_constant.specs.Refusal.{Refusal, refused}
use Rattle.wy_constant.specs.Scope.{FixedText}
use Rattle.wy_syntax.specs.Syntax.{ClassSyntax, Declaration}
use Rattle.wy_syntax.specs.Syntax as source
use Rattle.wy_members.specs.Declarations.{CompilationUnit}
use Rattle.wy_elab_expr.specs.Meaning.{Gets, give, ◌>>=◌}
use Rattle.wy_library.specs.Library.{library_bodies, library_init_bodies}
use Rattle.wy_elab_stmt.specs.declared.assembly.Bodies as memory
use Rattle.wy_elab_stmt.specs.declared.assembly.Made as memory_made
use Rattle.wy_elab_body.specs.Statements.{Setting}
use Rattle.wy_elab_stmt.specs.Classes.{ClassBodies, class_bodies}
use Rattle.wy_elab_stmt.specs.Program.{Bodies, bodies_of, library_text, in_order}

abbrev pub bodies_view : memory.Bodies → Bodies
bodies_view b = record { methods = map (option_map body_of) b.methods.items; initializers = map (option_map body_of) b.initializers.items }

-- those of a class behind others
abbrev pub and_class : Bodies → ClassBodies → Bodies
and_class front k = record { methods = front.methods ++ k.bodies; initializers = front.initializers ++ k.initializer ∷ [] }

-- those of a class behind others, and the number of the next class
abbrev pub class_behind : Setting → Bodies → ℕ → ClassSyntax → Gets (Bodies × ℕ)
class_behind w front c k = do
  x ← class_bodies w c k
  give (and_class front x, c + 1)

abbrev pub declared_behind : Setting → Bodies → ℕ → Declaration → Gets (Bodies × ℕ)
declared_behind w front c source.Declaration.Nothing = give (front, c)
declared_behind w front c (source.Declared k) = class_behind w front c k
declared_behind w front c source.Declaration.Unknown = give (front, c)

abbrev pub both : Bodies → Bodies → Bodies
both front rest = record { methods = front.methods ++ rest.methods; initializers = front.initializers ++ rest.initializers }

abbrev pub behind_bodies : Bodies → Result (Bodies × List FixedText) Refusal → Result (Bodies × List FixedText) Refusal
behind_bodies front (Ok p) = Ok (both front p.0, p.1)
behind_bodies front (Err e) = Err e

abbrev pub of_library : Bodies
of_library = record { methods = library_bodies; initializers = library_init_bodies }

-- ---- the texts that all forms hold are known once all bodies are made

abbrev pub texts_in : Result (Bodies × List FixedText) Refusal → Result (List FixedText) Refusal
texts_in (Ok p) = Ok (in_order p.1)
texts_in (Err e) = Err e

abbrev pub all_texts : Setting → CompilationUnit → Result (List FixedText) Refusal
all_texts w unit = texts_in (bodies_of w unit (library_text ∷ []))

-- ---- made again from these

abbrev pub made_from : Setting → CompilationUnit → Result (List FixedText) Refusal → Result (Bodies × List FixedText) Refusal
made_from w unit (Ok texts) = behind_bodies of_library (bodies_of w unit texts)
made_from w unit (Err e) = Err e

abbrev pub made : Setting → CompilationUnit → Result (Bodies × List FixedText) Refusal
made w unit = made_from w unit (all_texts w unit)

abbrev pub made_view : memory_made.Made → Bodies × List FixedText
made_view m = (bodies_view m.bodies, m.texts)

-- ---- the program

abbrev pub main_or_refused : Option ℕ → ℕ → Result ℕ Refusal
main_or_refused (Some main) tokens = Ok main
main_or_refused None tokens = Err (refused NoMain tokens)

-- of a table, the number of statements, the number of main, and all bodies with the texts that they hold
abbrev pub program_from : Table → ℕ → ℕ → Bodies × List FixedText → parts.Program
program_from t statements main p = record {
  classes = t.classes;
  methods = t.methods;
  fields = t.fields;
  bodies = p.0.methods;
  init_bodies = p.0.initializers;
  fixed_texts = map (λ (x : FixedText). x.units) p.1;
  statements = statements;
  main = main;
}
