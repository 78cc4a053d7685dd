-- The interfaces of a well-formed tree have headers alone.
use Rattle.std.proofs.Common.{◌≡◌, ℕ, true, List, [], ◌∷◌}
use Rattle.std.specs.List.{AllByRecursion}
use Rattle.wy_tree.specs.Ast.{Ast}
use Rattle.wy_tree.specs.Grammar.{WellFormed}
use Rattle.wy_syntax.specs.Syntax.{Placed, ClassSyntax}
use Rattle.wy_syntax.specs.Declarations as written
use Rattle.wy_syntax.specs.Declarations.{placed, behind_modifiers, class_behind, interface_behind, unit}
use Rattle.wy_members.specs.Declarations.{classes_of}
use Rattle.law_program_parts.specs.Rows.{IsHeader}
use Rattle.law_well_formed.proofs.Texts.{OfDeclaration, InterfaceTold, interface_told, of_unit}
use Rattle.law_well_formed.proofs.Missing.{Any, any_worded}

abbrev pub HasHeaders : ClassSyntax → Type 0
HasHeaders k = k.is_interface ≡ true → AllByRecursion IsHeader k.members

of_class : (ms : List Placed) (end : ℕ) (ps : written.Parts) → OfDeclaration HasHeaders (class_behind ms end ps)
of_class ms end [] = tt
of_class ms end (x ∷ []) = tt
of_class ms end (word ∷ x ∷ rest) = ((λ e. absurd (cc)), tt)

of_interface : (ms : List Placed) (end : ℕ) (ps : written.Parts) → InterfaceTold IsHeader ps → OfDeclaration HasHeaders (interface_behind ms end ps)
of_interface ms end [] h = tt
of_interface ms end (x ∷ []) h = tt
of_interface ms end (word ∷ x ∷ rest) h = ((λ e. h), tt)

pub have_headers : (t : Ast) → WellFormed t → AllByRecursion HasHeaders (classes_of (unit 0 t))
have_headers t w =
    of_unit Any HasHeaders (record {
      class = λ ts m g n. of_class _ _ (behind_modifiers (placed n ts));
      interface = λ ts m n. of_interface _ _ (behind_modifiers (placed n ts)) (interface_told IsHeader (record { nothing = tt; header = λ h result. tt }) ts m n);
    }) t w (any_worded t) 0
