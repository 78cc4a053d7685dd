use Rattle.std.proofs.Common.{◌≡◌, ◌<◌, ◌≤◌, ◌+◌, ◌∙◌, ℕ, sym, subst, arith, length, drop}
use Rattle.std.proofs.lemmas.List.{get_or_default, length-drop}
use Rattle.wy_kernel.specs.View.{method_of}
use Rattle.wy_calls.specs.Dispatch.{first_in}
use Rattle.wy_calls.proofs.Rows.{Position, none_is_of, starts, passes, found_at, is_inside, next_is, later}
use Rattle.wy_calls.proofs.lookup.Dispatcher.declared_in.Goals as goal

pub loop-number-init : goal.loop-number-init
loop-number-init c =
    let inside : c.args.class < length c.args.self.now.first.items = omega arith in
    let is : c.index-number.result.now ≡ first_in c.args.class 0 c.args.self.now.program.now.methods.items =
    c.index-number.ensures ∙ get_or_default c.args.self.now.first.items c.args.class c.index-number.result.now 4294967295 inside ∙ c.args.self.now.firsts c.args.class inside in
    subst (Position c.args.self.now.program.now.methods.items c.args.class (method_of c.args.called.now)) (sym is) (starts c.args.self.now.program.now.methods.items c.args.class (method_of c.args.called.now))

pub returns-then-class-len : goal.returns-then-class-len
returns-then-class-len c =
    sym (none_is_of c.args.class (length c.args.self.now.first.items) 0 (method_of c.args.called.now) c.args.self.now.program.now.methods.items c.args.self.now.owned (omega arith))

pub returns-then-runs_as : goal.returns-then-runs_as
returns-then-runs_as c =
    let lt : c.loop-number.number < length c.args.self.now.program.now.methods.items = is_inside _ _ _ c.loop-number.number c.loop-number.invariant c.loop-number-test.true in
    found_at _ _ _ c.loop-number.number c.index.result.now c.loop-number.invariant lt c.args.self.now.few c.index.ensures (sym c.runs_as.ensures ∙ c.if-runs_as.true)

pub loop-number-smaller : goal.loop-number-smaller
loop-number-smaller c =
    let ms = c.args.self.now.program.now.methods.items in
    let n : ℕ = c.loop-number.number in
    let lt : n < length c.args.self.now.program.now.methods.items = is_inside _ _ _ n c.loop-number.invariant c.loop-number-test.true in
    let is : c.index-number-in-loop-number.result.now ≡ first_in c.args.class (n + 1) (drop (n + 1) ms) =
    next_is ms c.args.class (method_of c.args.called.now) c.args.self.now.next.items n c.index-number-in-loop-number.result.now c.index.result.now c.args.self.now.nexts c.args.self.now.all_next c.loop-number.invariant lt c.args.self.now.few c.index-number-in-loop-number.ensures in
    let after = later c.args.class (n + 1) (drop (n + 1) ms) (omega (arith, length-drop (n + 1) ms, lt, c.args.self.now.few)) in
    let low : n + 1 ≤ c.index-number-in-loop-number.result.now = omega (arith, is, after.0) in
    omega (arith, low, lt, c.args.self.now.few)

pub loop-number-preserved : goal.loop-number-preserved
loop-number-preserved c =
    let ms = c.args.self.now.program.now.methods.items in
    let n : ℕ = c.loop-number.number in
    let lt : n < length c.args.self.now.program.now.methods.items = is_inside _ _ _ n c.loop-number.invariant c.loop-number-test.true in
    let is : c.index-number-in-loop-number.result.now ≡ first_in c.args.class (n + 1) (drop (n + 1) ms) =
    next_is ms c.args.class (method_of c.args.called.now) c.args.self.now.next.items n c.index-number-in-loop-number.result.now c.index.result.now c.args.self.now.nexts c.args.self.now.all_next c.loop-number.invariant lt c.args.self.now.few c.index-number-in-loop-number.ensures in
    subst (Position ms c.args.class (method_of c.args.called.now)) (sym is)
    (passes ms c.args.class (method_of c.args.called.now) n c.index.result.now c.loop-number.invariant lt c.args.self.now.few c.index.ensures (sym c.runs_as.ensures ∙ c.if-runs_as.false))
