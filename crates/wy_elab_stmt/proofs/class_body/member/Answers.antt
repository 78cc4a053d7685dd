-- Each kind of member does what its own function says.
use Rattle.std.proofs.Common.{ap, sym, ◌∙◌, [], map}
use Rattle.wy_syntax.specs.Syntax as source
use Rattle.wy_syntax.specs.View.{class_of, declarator_of, member_of, placed_of, type_seen}
use Rattle.wy_elab_stmt.specs.Classes.{member}
use Rattle.wy_elab_stmt.specs.ClassViews.{at_rest, growth_of}
use Rattle.wy_elab_stmt.proofs.ClassParts.{moved}
use Rattle.wy_elab_stmt.proofs.class_body.member.Goals as goal

pub returns-in-Initializer : goal.returns-in-Initializer
returns-in-Initializer c = λ w first second s.
    let same = ap (λ m. at_rest (member w c.args.number (class_of c.args.class.now) (growth_of c.args.growth.now first second) (member_of m) c.args.texts.now)) c.in-Initializer.is in
    moved (λ u. growth_of c.add_block.new.growth [] []) c.add_block.result c.add_block.new.texts _ _ same (c.add_block.ensures w c.args.number first second s)

pub returns-in-Fields : goal.returns-in-Fields
returns-in-Fields c = λ w first second s.
    let k = class_of c.args.class.now in
    let g = growth_of c.args.growth.now first second in
    let same = ap (λ m. at_rest (member w c.args.number k g (member_of m) c.args.texts.now)) c.in-Fields.is
    ∙ ap (λ ms. at_rest (member w c.args.number k g (source.Fields (map placed_of ms) (type_seen c.in-Fields.ty) (map declarator_of c.in-Fields.declarators.items)) c.args.texts.now)) (sym c.as_slice.ensures.value)
    ∙ ap (λ ds. at_rest (member w c.args.number k g (source.Fields (map placed_of c.as_slice.result.now) (type_seen c.in-Fields.ty) (map declarator_of ds)) c.args.texts.now)) (sym c.as_slice-in-Fields.ensures.value) in
    moved (λ u. growth_of c.add_fields.new.growth [] []) c.add_fields.result c.add_fields.new.texts _ _ same (c.add_fields.ensures w k first second s)

pub returns-in-Method : goal.returns-in-Method
returns-in-Method c = λ w first second s.
    let same = ap (λ m. at_rest (member w c.args.number (class_of c.args.class.now) (growth_of c.args.growth.now first second) (member_of m) c.args.texts.now)) c.in-Method.is in
    moved (λ u. growth_of c.add_method.new.growth [] []) c.add_method.result c.add_method.new.texts _ _ same (c.add_method.ensures w (class_of c.args.class.now) first second s)
