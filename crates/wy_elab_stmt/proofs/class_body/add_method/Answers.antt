use Rattle.std.proofs.Common.{ap, sym, ◌∙◌, [], Ok}
use Rattle.std.specs.Prelude.{option_map}
use Rattle.wy_syntax.specs.Syntax as source
use Rattle.wy_syntax.specs.View.{block_of, header_of, outcome_of}
use Rattle.wy_elab_stmt.specs.Classes.{member}
use Rattle.wy_elab_stmt.specs.ClassViews.{at_rest, growth_of}
use Rattle.wy_elab_stmt.proofs.ClassParts.{without_body, with_a_body}
use Rattle.wy_elab_stmt.proofs.class_body.add_method.Goals as goal

pub returns-in_ok-add-in-None : goal.returns-in_ok-add-in-None
returns-in_ok-add-in-None c = λ w k first second s.
    ap (λ b. at_rest (member w c.args.number k (growth_of c.args.growth.now first second) (source.Method (header_of c.args.header.now) (outcome_of c.args.outcome.now) (option_map block_of b)) c.args.texts.now)) c.in-None.is
    ∙ ap at_rest (without_body w c.args.number k (header_of c.args.header.now) (outcome_of c.args.outcome.now) (growth_of c.args.growth.now first second) c.args.texts.now)
    ∙ ap (λ g. Ok (g, c.args.texts.now)) (sym (c.in_ok-add-in-None.ensures [] []))

pub returns-in_ok-add-in-Some : goal.returns-in_ok-add-in-Some
returns-in_ok-add-in-Some c = λ w k first second s.
    ap (λ b. at_rest (member w c.args.number k (growth_of c.args.growth.now first second) (source.Method (header_of c.args.header.now) (outcome_of c.args.outcome.now) (option_map block_of b)) c.args.texts.now)) c.in-Some.is
    ∙ ap at_rest (with_a_body w c.args.number k (header_of c.args.header.now) (outcome_of c.args.outcome.now) (block_of c.in-Some.b) (growth_of c.args.growth.now first second) _ c.args.texts.now _ (c.in_ok-made-in-Some.ensures w s))
    ∙ ap (λ g. Ok (g, c.method_body.new.texts)) (sym (c.in_ok-add-in-Some.ensures [] []))
