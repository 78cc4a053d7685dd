use Rattle.std.proofs.Common.{◌≡◌, ◌∙◌, ap, sym, arith, Some, ◌-◌}
use Rattle.std.specs.Prelude.{None as Absent}
use Rattle.wy_kernel.specs.Parts.{program_of}
use Rattle.wy_kernel.specs.Program.{find_method}
use Rattle.wy_kernel.specs.View.{present}
use Rattle.wy_calls.specs.Dispatch.{above}
use Rattle.wy_calls.proofs.Chain.{begins, ends_here, goes_on, ends_at_top, none_is_longer, searched, somebody, nobody}
use Rattle.wy_calls.proofs.lookup.Dispatcher.dispatch.Goals as goal

pub loop-longest-init : goal.loop-longest-init
loop-longest-init c = begins c.args.self.now.program.now c.len-longest.result c.args.method c.args.class (omega arith)

pub returns-in-Some : goal.returns-in-Some
returns-in-Some c =
    let found = searched c.args.self.now.program.now c.loop-longest.class c.args.method c.declared_in.result c.method-called.result.now c.declared_in.ensures c.method-called.ensures ∙ c.in-Some.is in
    sym (ends_here (program_of c.args.self.now.program.now) c.loop-longest.longest (c.loop-longest.longest - 1) c.args.method c.loop-longest.class c.in-Some.found (omega arith) found) ∙ c.loop-longest.invariant

pub returns-then-class : goal.returns-then-class
returns-then-class c =
    let none = searched c.args.self.now.program.now c.loop-longest.class c.args.method c.declared_in.result c.method-called.result.now c.declared_in.ensures c.method-called.ensures ∙ c.in_default.is in
    let top : above (program_of c.args.self.now.program.now) c.loop-longest.class ≡ Absent = sym c.superclass-class.ensures ∙ ap present c.if-class.true ∙ nobody in
    sym (ends_at_top (program_of c.args.self.now.program.now) c.loop-longest.longest (c.loop-longest.longest - 1) c.args.method c.loop-longest.class (omega arith) none top) ∙ c.loop-longest.invariant

pub loop-longest-preserved : goal.loop-longest-preserved
loop-longest-preserved c =
    let none = searched c.args.self.now.program.now c.loop-longest.class c.args.method c.declared_in.result c.method-called.result.now c.declared_in.ensures c.method-called.ensures ∙ c.in_default.is in
    let up : above (program_of c.args.self.now.program.now) c.loop-longest.class ≡ Some c.superclass-class.result = sym c.superclass-class.ensures ∙ somebody c.superclass-class.result c.if-class.false in
    sym (goes_on (program_of c.args.self.now.program.now) c.loop-longest.longest (c.loop-longest.longest - 1) c.args.method c.loop-longest.class c.superclass-class.result (omega arith) none up) ∙ c.loop-longest.invariant

pub returns : goal.returns
returns c =
    let done : c.loop-longest.longest ≡ 0 = omega arith in
    sym (none_is_longer (program_of c.args.self.now.program.now) c.args.method c.loop-longest.class) ∙ ap (λ n. find_method (program_of c.args.self.now.program.now) n c.args.method c.loop-longest.class) (sym done) ∙ c.loop-longest.invariant
