use Rattle.std.proofs.Common.{◌≡◌, ℕ, ◌<◌, ◌+◌, List, [], ◌∷◌, ◌++◌, length, map, take, get_or, refl, sym, ◌∙◌, ap}
use Rattle.std.specs.Option.{option_to_list}
use Rattle.std.specs.List.{filter_map}
use Rattle.std.proofs.lemmas.List.{map-append, take_more}
use Rattle.std.proofs.lemmas.List.Elements.{filter_map-append}
use Rattle.wy_syntax.specs.declared.declaration.Declaration as memory
use Rattle.wy_syntax.specs.Syntax.{ClassSyntax, Declaration, Declared}
use Rattle.wy_syntax.specs.Syntax as syntax
use Rattle.wy_syntax.specs.View.{declaration_of}
use Rattle.wy_members.specs.Declarations.{class_in, classes_of}
use Rattle.wy_members.proofs.broken.text.classes_in.Goals as goal

of_one : (d : Declaration) → filter_map class_in (d ∷ []) ≡ option_to_list (class_in d)
of_one (Declared k) = refl
of_one syntax.Declaration.Nothing = refl
of_one syntax.Declaration.Unknown = refl

of_more : (unit : List memory.Declaration) (i : ℕ) (x : memory.Declaration) → i < length unit → x ≡ get_or unit i x →
    classes_of (map declaration_of (take (i + 1) unit)) ≡ classes_of (map declaration_of (take i unit)) ++ option_to_list (class_in (declaration_of x))
of_more unit i x lt e =
    ap (λ l. classes_of (map declaration_of l)) (take_more unit i x lt ∙ ap (λ y. take i unit ++ y ∷ []) (sym e))
    ∙ ap classes_of (map-append declaration_of (take i unit) (x ∷ []))
    ∙ filter_map-append class_in (map declaration_of (take i unit)) (declaration_of x ∷ [])
    ∙ ap (λ r. classes_of (map declaration_of (take i unit)) ++ r) (of_one (declaration_of x))

pub loop-declaration-preserved : goal.loop-declaration-preserved
loop-declaration-preserved c =
    let x = c.declaration-item.result in
    c.in_ok-take_class.ensures
    ∙ ap (λ (ks : List ClassSyntax). ks ++ option_to_list (class_in (declaration_of x))) c.loop-declaration.invariant
    ∙ sym (of_more c.args.unit.now c.loop-declaration.declaration-index x c.loop-declaration-test.true c.declaration-item.is)
