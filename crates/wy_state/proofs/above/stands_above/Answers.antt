use Rattle.std.proofs.Common.{◌≡◌, ◌∙◌, ap, length, replicate, false, refl, subst, sym, arith, rules}
use Rattle.std.proofs.lemmas.List.{length-map}
use Rattle.std.proofs.lemmas.List.Elements.{Contains-push}
use Rattle.std.specs.List.{Contains}
use Rattle.wy_kernel.specs.Parts.{program_of}
use Rattle.wy_kernel.specs.Program.{Class}
use Rattle.wy_kernel.specs.View.{class_of}
use Rattle.wy_state.specs.Above.{right_above}
use Rattle.wy_state.proofs.Climbing.{climbed, climbing_first, climbing_on, none_left, within_classes}
use Rattle.wy_state.proofs.above.stands_above.Goals as goal

pub loop-found-init : goal.loop-found-init
loop-found-init c =
    let long : length c.args.program.now.classes.items ≡ length (program_of c.args.program.now).classes = simp length-map in
    let count : c.len.result ≡ length c.args.program.now.classes.items = omega arith in
    let found : c.in_ok-vec.field-0.items ≡ replicate c.len.result false = search rules in
    climbing_first (program_of c.args.program.now) c.args.class c.args.goal c.requires _ c.visit.new.self refl refl (found ∙ ap (λ n. replicate n false) (count ∙ long)) c.new.ensures.items c.in_ok-visit.ensures.visited

pub returns-then-climb : goal.returns-then-climb
returns-then-climb c = sym (c.loop-found.invariant.right c.if-climb.true)

pub class-requires : goal.class-requires
class-requires c =
    let long : length c.args.program.now.classes.items ≡ length (program_of c.args.program.now).classes = simp length-map in
    let waits = subst (λ l. Contains l c.in-Some.found) (sym c.in-Some.ensures.items) (Contains-push c.pop.new.self.items c.in-Some.found) in
    let lt = within_classes (program_of c.args.program.now) c.args.class c.args.goal c.requires c.loop-found.climb c.in-Some.found c.loop-found.invariant waits in
    omega (arith, lt, long)

pub loop-found-preserved : goal.loop-found-preserved
loop-found-preserved c =
    climbing_on (program_of c.args.program.now) c.args.class c.args.goal c.requires c.in-Some.found (right_above (class_of c.class.result.now)) c.loop-found.climb _ c.visit_above.new.self
    (ap (λ (k : Class). right_above k) c.class.ensures) refl refl refl c.in-Some.ensures.items c.loop-found.invariant c.in_ok-visit_above.ensures.visited

pub loop-found-smaller : goal.loop-found-smaller
loop-found-smaller c = omega (arith, c.in_ok-visit_above.ensures.visited.left, c.in-Some.ensures.len)

pub returns : goal.returns
returns c =
    climbed (program_of c.args.program.now) c.args.class c.args.goal c.requires c.loop-found.climb (none_left c.loop-found.climb.waiting.items (omega (arith, c.in_default.ensures.cases.0))) c.loop-found.invariant c.loop-found.climb.met refl
