use Rattle.std.proofs.Common.{List, map, subst, ◌∙◌, sym, ap}
use Rattle.wy_kernel.specs.View.{method_of}
use Rattle.wy_table.specs.Listed.{AreNamedGroups, ListsByKey}
use Rattle.wy_table.proofs.Indexing.{indexed}
use Rattle.wy_table.proofs.methods.MethodIndex.of.Goals as goal

pub returns : goal.returns
returns c =
    let ms = map method_of c.args.methods.now in
    let groups = c.in_ok-groups.groups.items in
    let named : AreNamedGroups ms groups c.in_ok-named_groups.named_groups.items = subst (λ gs. AreNamedGroups ms gs c.in_ok-named_groups.named_groups.items) c.as_slice.ensures.value c.in_ok-named_groups.ensures in
    indexed _ c.args.methods.now c.in_ok-named_groups.named_groups.items c.in_ok-classes.classes.items c.in_ok-groups.ensures named c.in_ok-classes.ensures c.in_ok-by_name.ensures
    (subst (λ keys. ListsByKey keys c.in_ok-by_key.field-0) c.as_slice-2.ensures.value c.in_ok-by_key.ensures)
    (subst (λ keys. ListsByKey keys c.in_ok-by_key-2.field-0) c.as_slice-3.ensures.value c.in_ok-by_key-2.ensures)
