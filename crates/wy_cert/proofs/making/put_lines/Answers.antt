-- A line for each event, with its sources.
use Rattle.std.proofs.Common.{◌≡◌, ◌<◌, ◌^◌, ◌++◌, length, get_or, refl, sym, ap, ◌∙◌, subst, arith}
use Rattle.std.specs.Prelude.{IfSome}
use Rattle.wy_view.proofs.Views.{keeps_itself, keeps_on}
use Rattle.wy_cert.specs.Spelling.{line_text}
use Rattle.wy_cert.proofs.Made.{begins_made, one_made, whole_made}
use Rattle.wy_cert.proofs.Members.{rises_at}
use Rattle.wy_cert.proofs.making.put_lines.Goals as goal

pub loop-n-init : goal.loop-n-init
loop-n-init g c = record {
  made = begins_made c.args.index.now (g.V.EventView.tells c.args.view.now) c.args.out.now.items c.args.events.now;
  keeps = keeps_itself (g.V.EventView.tells c.args.view.now);
  faults = refl;
  forward = omega arith;
}

pub sources-requires-clause-there : goal.sources-requires-clause-there
sources-requires-clause-there g c =
    let inv = c.loop-n.invariant in
    let told = g.V.EventView.tells c.args.view.now in
    omega (arith, rises_at 0 told.count c.args.events.now c.loop-n.n-index 0 c.requires.there c.loop-n-test.true, inv.keeps.count)

pub sources-requires-clause-index : goal.sources-requires-clause-index
sources-requires-clause-index g c =
    let inv = c.loop-n.invariant in
    let w = c.requires.index in
    record {
      records = w.records;
      is_index = w.is_index;
      all = w.all ∙ sym inv.keeps.count;
      as_told = subst (λ o. IfSome o (λ rs. rs ≡ w.records)) (sym inv.keeps.records) w.as_told;
    }

pub loop-n-preserved : goal.loop-n-preserved
loop-n-preserved g c =
    let told = g.V.EventView.tells in
    let inv = c.loop-n.invariant in
    let e = get_or c.args.events.now c.loop-n.n-index 0 in
    record {
      made = one_made c.args.index.now (told c.args.view.now) c.args.out.now.items c.loop-n.out.items c.args.events.now c.loop-n.n-index inv.made c.in_ok-found.found.items c.put_line.new.out.items e c.loop-n-test.true refl
          (omega (arith, c.type_inv.events c.loop-n.n-index))
          (c.in_ok-put_line.ensures ∙ ap (λ ss. c.loop-n.out.items ++ line_text (record { event = e; sources = ss })) c.deref.ensures.value)
          (λ rs is s. c.in_ok-found.ensures.sources rs (inv.keeps.records ∙ is) s) c.in_ok-found.ensures.rises c.in_ok-found.ensures.below;
      keeps = keeps_on (told c.args.view.now) (told c.loop-n.view) (told c.sources.new.view) inv.keeps c.in_ok-found.ensures.keeps;
      faults = c.in_ok-found.ensures.answers ∙ inv.faults;
      forward = omega (arith, inv.forward, c.in_ok-found.ensures.forward);
    }

pub returns-clause-lines : goal.returns-clause-lines
returns-clause-lines g c = whole_made c.args.index.now (g.V.EventView.tells c.args.view.now) c.args.out.now.items c.loop-n.out.items c.args.events.now c.loop-n.n-index c.loop-n.invariant.made c.loop-n-test.false
