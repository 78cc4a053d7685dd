-- The two searches cut the links before and behind those that end at the point.
use Rattle.std.proofs.Common.{rules, true, false, ◌≡◌, ◌-◌, ◌≤◌, List, length, take, drop, sym, ap, ◌∙◌, subst}
use Rattle.std.specs.List.Sorted.{IsPartitionedBy, IsPartitionPoint}
use Rattle.std.proofs.lemmas.List.{take_rest}
use Rattle.std.proofs.lemmas.List.Sorted.{IsPartitionPoint-from_clause}
use Rattle.wy_static.specs.declared.point.Link.{Link}
use Rattle.wy_static.specs.declared.point.Point.TheVariants as point
use Rattle.wy_static.specs.declared.point.LinkKind.TheVariants as kind
use Rattle.wy_static.specs.Links.{AreLinksInto}
use Rattle.wy_static.proofs.Ends.{is_below, is_upto, cut_below, cut_upto, IsPartAt, links_into}
use Rattle.wy_static.proofs.answer.Links.into.Goals as goal

pub returns : goal.returns
returns c = λ p all.
    let q = c.args.point in
    let links = c.args.self.now.items.items in
    let first = c.partition_point-first.result in
    let many = c.partition_point-many.result in
    let whole : c.deref.result.now ≡ links = c.deref.ensures.value in
    let again : c.deref-2.result.now ≡ links = c.deref-2.ensures.value in
    let rest : take (length c.deref-2.result.now - first) (drop first c.deref-2.result.now) ≡ drop first links =
    ap (λ (xs : List Link). take (length xs - first) (drop first xs)) again ∙ take_rest links first in
    let low = IsPartitionPoint-from_clause (is_below q) c.deref.result.now first c.partition_point-first.ensures.partitioned (subst (λ (xs : List Link). IsPartitionedBy (is_below q) xs) (sym whole) (cut_below q links all.links.in_order)) (λ a r f called. search rules) in
    let high = IsPartitionPoint-from_clause (is_upto q) (take (length c.deref-2.result.now - first) (drop first c.deref-2.result.now)) many c.partition_point-many.ensures.partitioned (subst (λ (xs : List Link). IsPartitionedBy (is_upto q) xs) (sym rest) (cut_upto q links first all.links.in_order)) (λ a r f called. search rules) in
    let part : IsPartAt q links first many = record {
      first_within = subst (λ (xs : List Link). first ≤ length xs) whole c.partition_point-first.ensures.bound;
      many_within = subst (λ (xs : List Link). many ≤ length xs) rest c.partition_point-many.ensures.bound;
      below = subst (λ (xs : List Link). IsPartitionPoint (λ l. is_below q l ≡ true) (λ l. is_below q l ≡ false) xs first) whole low;
      upto = subst (λ (xs : List Link). IsPartitionPoint (λ l. is_upto q l ≡ true) (λ l. is_upto q l ≡ false) xs many) rest high;
    } in
    let any : Link = record { kind = kind.Into; from = point.Start; to = point.Start; site = 0 } in
    subst (λ (xs : List Link). AreLinksInto p q (take many xs)) (sym rest) (links_into p q links first many any all.links part)
