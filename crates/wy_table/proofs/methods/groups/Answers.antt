use Rattle.std.proofs.Common.{◌≡◌, ◌<◌, ◌≤◌, ◌+◌, ℕ, length, map, sym, subst, arith}
use Rattle.std.proofs.lemmas.List.{length-map}
use Rattle.wy_kernel.specs.View.{method_of}
use Rattle.wy_kernel.proofs.Indexed.{mapped}
use Rattle.wy_table.proofs.Groups.{GroupedUpTo, grouped_one, alike_together}
use Rattle.wy_table.proofs.methods.groups.Goals as goal

pub loop-m-preserved : goal.loop-m-preserved
loop-m-preserved c =
    let ms = c.args.methods.now in
    let n = c.loop-m.m-index in
    grouped_one (map method_of ms) n c.loop-m.signatures.keys c.insert_full.new.self.keys c.loop-m.groups.items c.push.new.self.items c.in_ok-signature_of.field-0 (method_of c.m-item.result) c.in_ok-group.group c.loop-m.invariant
    (mapped method_of ms n c.m-item.result (omega (arith, c.loop-m-test.true)) c.m-item.is) c.in_ok-signature_of.ensures.0 c.in_ok-signature_of.ensures.1 c.in_ok-group.ensures.index c.in_ok-group.ensures.within c.in_ok-group.ensures.keys c.in_ok-push.ensures.items

pub returns : goal.returns
returns c =
    let ms = c.args.methods.now in
    let many = length-map ms method_of in
    let end = c.loop-m.auto.m-index-end in
    let past = c.loop-m-test.false in
    let all : c.loop-m.m-index ≡ length (map method_of ms) = omega arith in
    alike_together (map method_of ms) c.loop-m.signatures.keys c.loop-m.groups.items (subst (λ n. GroupedUpTo (map method_of ms) n c.loop-m.signatures.keys c.loop-m.groups.items) all c.loop-m.invariant)
