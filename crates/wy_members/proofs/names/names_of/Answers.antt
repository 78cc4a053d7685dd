use Rattle.std.proofs.Common.{◌≡◌, ◌∙◌, sym, ap, ◌+◌, ◌<◌, ◌++◌, List, length, map, rules, arith}
use Rattle.std.specs.HashMap.{get_by_text}
use Rattle.std.specs.Str.{bytes_eq}
use Rattle.std.proofs.lemmas.List.{length-map, length-append}
use Rattle.std.proofs.lemmas.Iterator.Adapters.{position_from-zero}
use Rattle.wy_kernel.specs.Program.{Class}
use Rattle.wy_kernel.specs.Builtin as builtin
use Rattle.wy_kernel.specs.Builtin.{no_site}
use Rattle.wy_kernel.specs.View.{class_of}
use Rattle.wy_syntax.specs.View.{declaration_of}
use Rattle.wy_members.specs.Declarations.{name_of, written_names, class_names, denoted}
use Rattle.wy_members.specs.Numbers.{numbered_all}
use Rattle.wy_members.proofs.Numbering.{numbered_whole}
use Rattle.wy_members.proofs.names.names_of.Goals as goal

library_length : length (map name_of builtin.classes) ≡ 18
unfolding builtin.classes
library_length = search rules

pub invariant_of-result-clause-few : goal.invariant_of-result-clause-few
invariant_of-result-clause-few c =
    let written = written_names (map declaration_of c.args.unit.now) in
    let library : map class_of c.as_slice.result.now ≡ builtin.classes = ap (map class_of) c.as_slice.ensures.value ∙ c.in_ok-library.ensures in
    let many : c.in_ok-many.many ≡ 18 = c.in_ok-many.ensures.many ∙ sym (length-map c.as_slice.result.now class_of) ∙ ap length library ∙ sym (length-map builtin.classes name_of) ∙ library_length in
    let counted : c.in_ok-number_declarations.field-0 ≡ c.in_ok-many.many + length written = search rules in
    let start : c.in_ok-many.many < no_site = omega arith in
    let few : c.in_ok-number_declarations.field-0 < no_site = c.in_ok-number_declarations.ensures.few start in
    let whole : length (map name_of builtin.classes ++ written) ≡ length (map name_of builtin.classes) + length written = length-append (map name_of builtin.classes) written in
    let library_many = library_length in
    omega arith

pub invariant_of-result-clause-exact : goal.invariant_of-result-clause-exact
unfolding denoted
invariant_of-result-clause-exact c = λ name.
    let library : map class_of c.as_slice.result.now ≡ builtin.classes = ap (map class_of) c.as_slice.ensures.value ∙ c.in_ok-library.ensures in
    let many : c.in_ok-many.many ≡ length (map name_of builtin.classes) = c.in_ok-many.ensures.many ∙ sym (length-map c.as_slice.result.now class_of) ∙ ap length library ∙ sym (length-map builtin.classes name_of) in
    let first : get_by_text c.number_classes.new.numbers name ≡ numbered_all name (get_by_text c.new-numbers.result name) 0 (map name_of builtin.classes) =
    c.in_ok-many.ensures.numbered name ∙ ap (λ (xs : List Class). numbered_all name (get_by_text c.new-numbers.result name) 0 (map name_of xs)) library in
    numbered_whole name (get_by_text c.new-numbers.result name) (get_by_text c.number_classes.new.numbers name) (get_by_text c.number_declarations.new.numbers name) (map name_of builtin.classes) (written_names (map declaration_of c.args.unit.now)) c.in_ok-many.many
    (search rules) many first (c.in_ok-number_declarations.ensures.numbered name)
    ∙ sym (position_from-zero (bytes_eq name) (class_names (map declaration_of c.args.unit.now)))
