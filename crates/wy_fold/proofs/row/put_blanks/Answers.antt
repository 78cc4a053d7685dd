use Rattle.std.proofs.Common.{◌≡◌, ◌∙◌, ◌++◌, ◌∷◌, [], ap, arith, sym}
use Rattle.std.proofs.lemmas.List.{append-nil, replicate_more}
use Rattle.wy_fold.specs.Rows.{blanks}
use Rattle.wy_fold.proofs.Texts.{joined}
use Rattle.wy_fold.proofs.row.put_blanks.Goals as goal

pub loop-init : goal.loop-init
loop-init c = sym (append-nil c.args.out.now.items)

pub loop-preserved : goal.loop-preserved
loop-preserved c =
    joined c.args.out.now.items c.loop.out.items c.push.new.self.items (blanks c.loop.counter) (32 ∷ []) c.loop.invariant c.in_ok-push.ensures.items
    ∙ ap (λ l. c.args.out.now.items ++ l) (replicate_more c.loop.counter 32)

pub returns : goal.returns
returns c = let all : c.loop.counter ≡ c.args.many = omega arith in c.loop.invariant ∙ ap (λ n. c.args.out.now.items ++ blanks n) all
