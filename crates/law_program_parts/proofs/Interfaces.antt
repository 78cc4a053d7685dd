-- The interfaces of a well-formed tree have headers of methods alone, so they initialize nothing.
use Rattle.std.proofs.Common.{◌≡◌, refl, Bool, true, false, List, [], ◌∷◌}
use Rattle.std.specs.List.{AllByRecursion}
use Rattle.wy_syntax.specs.Syntax.{ClassSyntax}
use Rattle.wy_syntax.specs.Declarations.{unit}
use Rattle.wy_members.specs.Declarations.{classes_of}
use Rattle.law_program_parts.proofs.Rows.{no_units}
use Rattle.law_program_parts.proofs.Headers.{HasHeaders, have_headers}
use Rattle.law_program_parts.specs.DeclaredLaws.{AllInterfacesAreBare, InitializesNothing, HasHeadersAlone, InterfacesHaveHeadersAlone}

abbrev AllOnlyHeaders : List ClassSyntax → Type 0
AllOnlyHeaders ks = AllByRecursion (λ (k : ClassSyntax). HasHeadersAlone k k.is_interface) ks

headers_alone : (k : ClassSyntax) (b : Bool) → k.is_interface ≡ b → HasHeaders k → HasHeadersAlone k b
headers_alone k true e h = h e
headers_alone k false e h = tt

all_alone : (ks : List ClassSyntax) → AllByRecursion HasHeaders ks → AllOnlyHeaders ks
all_alone [] h = tt
all_alone (k ∷ ks) h = (headers_alone k k.is_interface refl h.0, all_alone ks h.1)

pub interfaces_have_headers_alone : InterfacesHaveHeadersAlone
interfaces_have_headers_alone t w = all_alone (classes_of (unit 0 t)) (have_headers t w)

-- ---- so interfaces initialize nothing

bare : (k : ClassSyntax) (b : Bool) → HasHeadersAlone k b → InitializesNothing k b
bare k true h = no_units k.members h
bare k false h = tt

pub all_bare : (ks : List ClassSyntax) → AllOnlyHeaders ks → AllInterfacesAreBare ks
all_bare [] h = tt
all_bare (k ∷ ks) h = (bare k k.is_interface h.0, all_bare ks h.1)
