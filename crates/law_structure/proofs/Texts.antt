-- The statements of the programs that texts become have all numbers, in the order of the text.
use Rattle.std.proofs.Common.{refl, subst, inl, inr, ℕ, Ok, ◌+◌, ◌*◌, List, ◌++◌}
use Rattle.std.specs.Prelude.{Option}
use Rattle.wy_tree.specs.Ast.{Ast}
use Rattle.wy_tree.specs.Grammar.{WellFormed}
use Rattle.wy_kernel.specs.Program.{Program, Body, first_source_class}
use Rattle.wy_kernel.specs.Statements.{statements_of_bodies}
use Rattle.wy_syntax.specs.Names.{width}
use Rattle.wy_syntax.specs.Declarations.{unit}
use Rattle.wy_members.specs.Declarations.{classes_of}
use Rattle.wy_elab_body.specs.declared.place.Place.{Place}
use Rattle.wy_elab_body.specs.Places.{key_of}
use Rattle.wy_elab_body.specs.Statements.{Setting}
use Rattle.wy_elab_stmt.specs.Program.{setting}
use Rattle.wy_elab_stmt.specs.Elaborates.{Elaborates}
use Rattle.law_structure.specs.Numbers.{AreDense, AreInOrder}
use Rattle.law_structure.proofs.Elaborated.{MadeFrom, made_from}
use Rattle.law_structure.proofs.Productions.{UnitFull, unit_full}
use Rattle.law_structure.proofs.ClassTrees.{unit_spread}
use Rattle.law_structure.proofs.Interfaces.{unit_bodiless}
use Rattle.law_structure.proofs.Dense.{tally, In}
use Rattle.law_structure.proofs.Spread.{has_key}
use Rattle.law_structure.proofs.Marks.{both_marked}
use Rattle.law_structure.proofs.Tallies.{AllBodiless, all_initializers, all_bodies}
use Rattle.law_structure.proofs.Numbered.{keys, library_numbers, Stand, stand, has_place, placed_behind, placed_by_site, tally_in, key_among, is_same, some_first, some_second, are_dense}
use Rattle.law_structure.proofs.Turns.{in_both, neat_both}
use Rattle.law_structure.proofs.TurnTexts.{unit_two, in_turn, all_pairs}

pub numbers_are_dense : (tree : Ast) → WellFormed tree → (count : ℕ) (p : Program) → Elaborates (unit 0 tree) count (Ok p) → AreDense p
numbers_are_dense tree well count p h =
    are_dense (unit 0 tree) p (made_from (unit 0 tree) count p h) (8 * 0) (8 * (0 + width tree)) (λ t. unit_spread t 0 tree (unit_full tree well)) (unit_bodiless tree well 0)

key_stands : (w : Setting) (is bs : List Place) (methods initializers : List (Option Body)) → Stand w is bs methods initializers → (q : Place) → In q (is ++ bs) → In (key_of q) (keys w.places)
key_stands w is bs methods initializers h q m = elim (in_both is bs q m) [
  | inl l ↦ key_among w (key_of q) (some_first (tally (has_key (key_of q)) is) (tally (has_key (key_of q)) bs) _ (h.same (has_key (key_of q))) (tally_in (has_key (key_of q)) is q l (is_same q)))
  | inr r ↦ key_among w (key_of q) (some_second (tally (has_key (key_of q)) is) (tally (has_key (key_of q)) bs) _ (h.same (has_key (key_of q))) (tally_in (has_key (key_of q)) bs q r (is_same q)))
]

in_order : (tree : Ast) → UnitFull tree → AllBodiless (classes_of (unit 0 tree)) → (p : Program) → MadeFrom (unit 0 tree) p → AreInOrder p
in_order tree full free p m =
    let w = setting m.judgement m.table (unit 0 tree) in
    let h = stand (unit 0 tree) p m (8 * 0) (8 * (0 + width tree)) (λ t. unit_spread t 0 tree full) free in
    let is = all_initializers (classes_of (unit 0 tree)) in
    let bs = all_bodies m.table first_source_class (classes_of (unit 0 tree)) in
    let place = has_place w is bs m.bodies.methods m.bodies.initializers h in
    let two = unit_two m.table first_source_class 0 tree full free in
    subst AreInOrder m.is (record {
      bodies = m.bodies.methods;
      initializers = m.bodies.initializers;
      has_bodies = refl;
      has_initializers = refl;
      library = library_numbers;
      behind = λ s c. placed_behind w s (place s c);
      by_site = λ s t c d less. placed_by_site w s t (place s c) (place t d) less;
      at_one_site = all_pairs (statements_of_bodies m.bodies.initializers ++ statements_of_bodies m.bodies.methods)
          (in_turn w (is ++ bs) (statements_of_bodies m.bodies.initializers ++ statements_of_bodies m.bodies.methods)
          (both_marked w is bs (statements_of_bodies m.bodies.initializers) (statements_of_bodies m.bodies.methods) h.initializers_stand h.methods_stand)
          (neat_both is bs two.first_neat two.second_neat two.cross) (key_stands w is bs m.bodies.methods m.bodies.initializers h));
    })

pub numbers_are_in_order : (tree : Ast) → WellFormed tree → (count : ℕ) (p : Program) → Elaborates (unit 0 tree) count (Ok p) → AreInOrder p
numbers_are_in_order tree well count p h = in_order tree (unit_full tree well) (unit_bodiless tree well 0) p (made_from (unit 0 tree) count p h)
