use Rattle.std.proofs.Common.{◌∙◌, ap, [], ◌∷◌, ◌++◌, refl, arith}
use Rattle.std.specs.Prelude.{map, option_map}
use Rattle.wy_kernel.specs.View.{body_of}
use Rattle.wy_kernel.proofs.Indexed.{beside}
use Rattle.wy_library.specs.Library as library
use Rattle.wy_library.specs.Library.{constructors_from, library_bodies}
use Rattle.wy_library.proofs.Superclasses.{superclasses, by_superclasses, next_class, all_classes}
use Rattle.wy_library.proofs.bodies.library_bodies.Goals as goal

pub loop-index-preserved : goal.loop-index-preserved
loop-index-preserved c = next_class superclasses c.loop-index.index _ _ _ (omega arith) c.in_ok-put_constructors.ensures c.loop-index.invariant

pub returns : goal.returns
unfolding library_bodies
returns c =
    all_classes superclasses c.loop-index.index _ _ (omega arith) c.loop-index.invariant
    ∙ ap (λ z. z ++ constructors_from 3 superclasses) (
    ap (map (option_map body_of)) c.in_ok-all.ensures.items
    ∙ beside c.in_ok-object_to_string.ensures (beside c.in_ok-object_equals.ensures (beside c.in_ok-plain_throwable.ensures (beside c.in_ok-throwable_with_message.ensures (beside c.in_ok-get_message.ensures (beside c.in_ok-throwable_to_string.ensures refl))))))
    ∙ ap (λ z. (library.object_to_string ∷ library.object_equals ∷ library.plain_throwable ∷ library.throwable_with_message ∷ library.get_message ∷ library.throwable_to_string ∷ []) ++ z) by_superclasses
