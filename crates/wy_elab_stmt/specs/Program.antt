-- The program of a text (JLS 7, 12.1): its bodies, its constant texts, its statements by number, and its main; or the rule that it breaks.
use Rattle.std.specs.Prelude.{ℕ, suc, ◌+◌, Bool, ◌&&◌, ◌==◌, nat_le, List, [], ◌∷◌, ◌++◌, map, flat_map, length, Option, Some, None, option_and_then, Result, Ok, Err, bytes_eq, codes, if◌then◌else◌}
use Rattle.std.specs.List.{position_from}
use Rattle.wy_kernel.specs.Order as order
use Rattle.wy_kernel.specs.declared.types.Ty.TheVariants.{Of}
use Rattle.wy_kernel.specs.declared.types.Base.TheVariants.{Class as Named}
use Rattle.wy_kernel.specs.Program.{Program, Body, Method, string_class, first_source_class, same_types, library_statements}
use Rattle.wy_kernel.specs.Table.{Table}
use Rattle.wy_syntax.specs.declared.declaration.Modifier.TheVariants as modifier
use Rattle.wy_syntax.specs.Syntax.{Header, Member, ClassSyntax}
use Rattle.wy_syntax.specs.Syntax as source
use Rattle.wy_constant.specs.declared.rule.Rule.TheVariants.{NoMain}
use Rattle.wy_constant.specs.Refusal.{Refusal, refused}
use Rattle.wy_constant.specs.Scope.{FixedText}
use Rattle.wy_members.specs.Declarations.{CompilationUnit, classes_of, has, parameter_types}
use Rattle.wy_elab_expr.specs.Operators.{Judgement}
use Rattle.wy_elab_expr.specs.Meaning.{Gets, give, ◌>>=◌}
use Rattle.wy_elab_body.specs.Places.{places_of}
use Rattle.wy_elab_body.specs.Statements.{Setting}
use Rattle.wy_elab_stmt.specs.Classes.{ClassBodies, class_bodies}
use Rattle.wy_library.specs.Library.{library_bodies, library_init_bodies}

-- ---- bodies

pub record Bodies : Type 0 where
  pub methods : List (Option Body)
  pub initializers : List (Option Body)

abbrev pub and_more : ClassBodies → Bodies → Bodies
and_more k rest = record { methods = k.bodies ++ rest.methods; initializers = k.initializer ∷ rest.initializers }

abbrev pub no_bodies : Bodies
no_bodies = record { methods = []; initializers = [] }

-- those of classes one after another, the first of which has this number
unfoldable pub bodies_from : Setting → ℕ → List ClassSyntax → Gets Bodies
bodies_from w c [] = give no_bodies
bodies_from w c (k ∷ rest) = do
  x ← class_bodies w c k
  xs ← bodies_from w (suc c) rest
  give (and_more x xs)

abbrev pub bodies_of : Setting → CompilationUnit → Gets Bodies
bodies_of w unit = bodies_from w first_source_class (classes_of unit)

-- ---- constant texts

-- the text that the library's bodies hold, which is the first
abbrev pub library_text : FixedText
library_text = record { units = codes ": "; token = 0 }

-- in the order of their first tokens
unfoldable pub in_order : List FixedText → List FixedText
in_order texts = order.in_order (λ (t : FixedText). t.token) texts

-- ---- main (JLS 12.1.4)

abbrev pub takes_texts : CompilationUnit → Header → Bool
takes_texts unit h = same_types (parameter_types unit h) (Of (Named string_class) 1 ∷ [])

-- `public static void main(String[])`
abbrev pub is_main : CompilationUnit → Header → Bool
is_main unit h = bytes_eq h.name.name (codes "main") && has modifier.Public h.modifiers && has modifier.Static h.modifiers && takes_texts unit h

abbrev pub main_in : CompilationUnit → Member → List ℕ
main_in unit (source.Method h None (Some b)) = if is_main unit h then h.name.token ∷ [] else []
main_in unit _ = []

abbrev pub first_of : List ℕ → Option ℕ
first_of [] = None
first_of (n ∷ rest) = Some n

-- the token of the first main in the text
abbrev pub main_token : CompilationUnit → Option ℕ
main_token unit = first_of (flat_map (λ (k : ClassSyntax). flat_map (main_in unit) k.members) (classes_of unit))

abbrev pub stands_at : ℕ → Method → Bool
stands_at token m = m.site == token

unfoldable pub main_of : Table → CompilationUnit → Option ℕ
main_of t unit = option_and_then (λ token. position_from (stands_at token) 0 t.methods) (main_token unit)

-- ---- the program

abbrev pub setting : Judgement → Table → CompilationUnit → Setting
setting j t unit = record { judgement = j; table = t; places = places_of t unit }

abbrev pub program_with : Table → CompilationUnit → ℕ → Bodies → List FixedText → Program
program_with t unit main bodies texts = record {
  classes = t.classes;
  methods = t.methods;
  fields = t.fields;
  bodies = library_bodies ++ bodies.methods;
  init_bodies = library_init_bodies ++ bodies.initializers;
  fixed_texts = map (λ (x : FixedText). x.units) texts;
  statements = library_statements + length (places_of t unit);
  main = main;
}

abbrev pub with_main : Table → CompilationUnit → ℕ → Option ℕ → Bodies → List FixedText → Result Program Refusal
with_main t unit tokens (Some main) bodies texts = Ok (program_with t unit main bodies texts)
with_main t unit tokens None bodies texts = Err (refused NoMain tokens)

-- the texts that all forms hold are known once all bodies are made; made again from these texts in order, each form has its text's number
abbrev pub again : Judgement → Table → CompilationUnit → ℕ → Result (Bodies × List FixedText) Refusal → Result Program Refusal
again j t unit tokens (Ok p) = with_main t unit tokens (main_of t unit) p.0 p.1
again j t unit tokens (Err e) = Err e

abbrev pub from_texts : Judgement → Table → CompilationUnit → ℕ → Result (Bodies × List FixedText) Refusal → Result Program Refusal
from_texts j t unit tokens (Ok p) = again j t unit tokens (bodies_of (setting j t unit) unit (in_order p.1))
from_texts j t unit tokens (Err e) = Err e

-- tokens is the number of tokens of the text
unfoldable pub program : Judgement → Table → CompilationUnit → ℕ → Result Program Refusal
program j t unit tokens = from_texts j t unit tokens (bodies_of (setting j t unit) unit (library_text ∷ []))
