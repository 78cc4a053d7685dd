-- Each local is asked for once, and stands behind those before it.
use Rattle.std.proofs.Common.{◌∙◌, ℕ, ◌++◌, sym, ap, subst, arith}
use Rattle.std.proofs.lemmas.List.Elements.{All-nil}
use Rattle.std.specs.Prelude.{All, option_map, option_to_list}
use Rattle.wy_kernel.specs.Parts.{program_of}
use Rattle.wy_value.specs.declared.value.Value.{Value}
use Rattle.wy_view.specs.References.{ValueBelow}
use Rattle.wy_view.proofs.Views.{keeps_itself, keeps_on}
use Rattle.wy_travel.proofs.Reading.{index_kept}
use Rattle.wy_travel.proofs.Written.{below_more, none_among, one_more}
use Rattle.wy_travel.proofs.locals.written_among.Goals as goal

pub loop-number-init : goal.loop-number-init
loop-number-init g c =
    let told = g.V.EventView.tells in
    record {
      locals = λ rs is. c.new-locals.ensures.items ∙ none_among (program_of c.args.program.now) rs c.args.frame c.args.event;
      below = subst (All (λ (l : ℕ × Value). ValueBelow c.args.event l.1)) (sym c.new-locals.ensures.items) (All-nil (λ (l : ℕ × Value). ValueBelow c.args.event l.1));
      keeps = keeps_itself (told c.args.view.now);
      faults = omega arith;
      forward = omega arith;
    }

pub last_given-requires-clause-index : goal.last_given-requires-clause-index
last_given-requires-clause-index g c =
    let told = g.V.EventView.tells in
    index_kept c.args.index.now (told c.args.view.now) (told c.loop-number.view) c.loop-number.invariant.keeps c.requires.index

pub loop-number-preserved : goal.loop-number-preserved
loop-number-preserved g c =
    let told = g.V.EventView.tells in
    let v = c.loop-number.invariant in
    let n = c.loop-number.number in
    let value = c.in_ok-value.value in
    record {
      locals = λ rs is.
          c.in_ok-keep.ensures
          ∙ ap (λ l. l ++ option_to_list (option_map (λ (x : Value). (n, x)) value)) (v.locals rs is)
          ∙ one_more (program_of c.args.program.now) rs c.args.frame c.args.event n value (c.in_ok-value.ensures.given rs (v.keeps.records ∙ is));
      below = subst (All (λ (l : ℕ × Value). ValueBelow c.args.event l.1)) (sym c.in_ok-keep.ensures) (below_more c.args.event n value c.loop-number.locals.items v.below c.in_ok-value.ensures.below);
      keeps = keeps_on (told c.args.view.now) (told c.loop-number.view) (told c.last_given.new.view) v.keeps c.in_ok-value.ensures.keeps;
      faults = c.in_ok-value.ensures.answers ∙ v.faults;
      forward = omega (arith, v.forward, c.in_ok-value.ensures.forward);
    }
