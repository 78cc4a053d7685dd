-- The line's sources are weighed against those of the event, which are marked as needed.
use Rattle.std.proofs.Common.{◌≡◌, ◌<◌, ◌||◌, ℕ, true, length, refl, sym, subst, ap, ◌∙◌, arith}
use Rattle.std.specs.Prelude.{◌↔◌, nat_eq}
use Rattle.std.specs.List.{list_any}
use Rattle.wy_kernel.specs.Parts.{program_of}
use Rattle.wy_event.specs.Record.{recorded}
use Rattle.wy_why.specs.declared.source.Source.{Source}
use Rattle.wy_why.proofs.Walking.{written_back}
use Rattle.wy_check.specs.Asking.{AreAsked, uses_at, uses_of}
use Rattle.wy_check.specs.Marks.{mark_of}
use Rattle.wy_check.specs.Weighing.{IsAsSaid}
use Rattle.wy_check.specs.Writes.{owners}
use Rattle.wy_check.proofs.Weights.{found_are, line_asked, weighed_next}
use Rattle.wy_check.proofs.weighing.Weighing.weigh.Goals as goal

pub returns-clause-weighed : goal.returns-clause-weighed
unfolding recorded
returns-clause-weighed c = λ rs lines end n read marked w there at.
    let owner = owners (program_of c.args.program.now) in
    let found = c.in_ok-found.found.items in
    let old = c.args.self.now.needed.items in
    let asked = subst (AreAsked c.args.self.now.history) (ap (uses_at rs) at ∙ ap uses_of read.there) (line_asked c.args.self.now.history rs lines (length c.args.self.now.sound.items) c.args.line.now w.asked there) in
    let are = found_are owner rs n (recorded c.args.event.now) found read.there read.refers (c.in_ok-found.ensures.exact _ w.seen asked) c.in_ok-found.ensures.rises in
    let long : length c.mark_sources.new.marks ≡ length old = c.mark_sources.auto.marks ∙ ap length c.deref_mut.ensures.value in
    let back = written_back c.args.self.now.needed.len c.mark_sources.new.marks old (sym c.args.self.now.needed.ok.0) long in
    weighed_next owner rs lines end n c.args.self.now _ c.args.line.now found c.is_as_said.result c.args.listed.now w marked there at are refl (ap length back ∙ long)
    (λ j lt. ap (λ l. mark_of l j) back ∙ c.mark_sources.ensures j (omega (arith, lt, ap length c.deref_mut.ensures.value))
    ∙ ap (λ l. mark_of l j || list_any (λ (s : Source). nat_eq j s.event) c.deref.result.now) c.deref_mut.ensures.value
    ∙ ap (λ ss. mark_of old j || list_any (λ (s : Source). nat_eq j s.event) ss) c.deref.ensures.value)
    c.in_ok-push.ensures.items
    (subst (λ ss. (c.is_as_said.result ≡ true) ↔ IsAsSaid ss c.args.line.now c.args.listed.now) c.deref-2.ensures.value c.is_as_said.ensures)
