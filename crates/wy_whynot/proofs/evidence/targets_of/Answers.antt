use Rattle.std.proofs.Common.{◌≡◌, ◌∙◌, ◌++◌, ◌∷◌, [], sym, ap, subst, refl, arith, ℕ, Vec, Global, BTreeSet, List, get_or, take}
use Rattle.std.specs.Prelude.{filter}
use Rattle.std.proofs.lemmas.Grind.{common_steps}
use Rattle.wy_index.specs.declared.found.Hit.{Hit}
use Rattle.wy_whynot.specs.declared.item.Made.{Made}
use Rattle.wy_whynot.specs.Evidence.{is_call_from, targets_of}
use Rattle.wy_whynot.specs.Targets.{KnowsTargets, with_target}
use Rattle.wy_paths.proofs.Lists.{filter_next, filter_pass}
use Rattle.wy_whynot.proofs.Targeting.{no_hit, no_targets, targets_push}
use Rattle.wy_whynot.proofs.evidence.targets_of.Goals as goal
use Rattle.wy_whynot.proofs.evidence.targets_of.Goals.{then-is_call_from+in_ok-note, else-is_call_from}

pub loop-hit-init : goal.loop-hit-init
loop-hit-init c = record { known = λ m. grind (arith, common_steps, c.new-methods.ensures.empty, c.new-made.ensures.items); made = c.new-made.ensures.items ∙ sym no_targets }

pub loop-hit-preserved : goal.loop-hit-preserved
loop-hit-preserved c =
    let test = is_call_from c.args.body in
    let hits = c.args.hits.now in
    let i = c.loop-hit.hit-index in
    let calls = filter test (take i hits) in
    elim c.if-is_call_from.branch [
      | then-is_call_from+in_ok-note w ↦
          let noted = w.in_ok-note.ensures c.loop-hit.invariant.known in
          let call : Hit = get_or hits i no_hit in
          let made : c.if-is_call_from.made.items ≡ with_target c.loop-hit.made.items call = ap (λ (v : Vec Made Global). v.items) w.made-is ∙ noted.1 in
          record {
            known = subst (λ (v : Vec Made Global). KnowsTargets c.if-is_call_from.methods v.items) (sym w.made-is) (subst (λ (s : BTreeSet ℕ). KnowsTargets s w.note.new.made.items) (sym w.methods-is) noted.0);
            made = made ∙ ap (λ ms. with_target ms call) c.loop-hit.invariant.made ∙ sym (targets_push calls call)
                ∙ ap targets_of (filter_next test hits i no_hit calls (calls ++ call ∷ []) c.loop-hit-test.true refl (sym c.is_call_from.ensures ∙ w.if-is_call_from.true) refl);
          }
      | else-is_call_from w ↦
          let same : c.if-is_call_from.made.items ≡ c.loop-hit.made.items = ap (λ (v : Vec Made Global). v.items) w.made-is in
          record {
            known = subst (λ (ms : List Made). KnowsTargets c.if-is_call_from.methods ms) (sym same) (subst (λ (s : BTreeSet ℕ). KnowsTargets s c.loop-hit.made.items) (sym w.methods-is) c.loop-hit.invariant.known);
            made = same ∙ c.loop-hit.invariant.made ∙ ap targets_of (filter_pass test hits i _ calls c.loop-hit-test.true refl (sym c.is_call_from.ensures ∙ w.if-is_call_from.false));
          }
    ]

pub returns : goal.returns
returns c =
    let whole : take c.loop-hit.hit-index c.args.hits.now ≡ c.args.hits.now = grind (arith, common_steps) in
    c.loop-hit.invariant.made ∙ ap (λ hs. targets_of (filter (is_call_from c.args.body) hs)) whole
