use Rattle.std.proofs.Common.{ap, sym, ◌∙◌, [], map, Ok}
use Rattle.std.specs.Prelude.{option_map}
use Rattle.wy_syntax.specs.View.{class_of, header_of, own_call_of, statement_of, statements_of}
use Rattle.wy_elab_stmt.specs.ClassViews.{at_rest, growth_of}
use Rattle.wy_elab_stmt.proofs.ClassParts.{constructor_made}
use Rattle.wy_elab_stmt.proofs.class_body.add_constructor.Goals as goal

pub returns : goal.returns
returns c = λ w first second s.
    ap at_rest (constructor_made w c.args.number (class_of c.args.class.now) (header_of c.args.header.now) (option_map own_call_of c.args.own_call.now) c.args.brace (statements_of (map statement_of c.args.parts.now)) c.args.end
    (growth_of c.args.growth.now first second) _ c.args.texts.now _ (c.in_ok-made.ensures w s))
    ∙ ap (λ g. Ok (g, c.constructor_body.new.texts)) (sym (c.in_ok-add.ensures [] []))
