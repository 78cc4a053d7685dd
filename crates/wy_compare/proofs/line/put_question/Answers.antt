use Rattle.std.proofs.Common.{◌≡◌, ◌++◌, ◌∷◌, []}
use Rattle.std.specs.Prelude.{codes}
use Rattle.std.specs.Fmt.{decimal}
use Rattle.std.proofs.lemmas.Result.{on_ok_weaker}
use Rattle.wy_compare.specs.Compared.{question_line}
use Rattle.wy_compare.proofs.Written.{joined}
use Rattle.wy_compare.proofs.line.put_question.Goals as goal

pub returns : goal.returns
unfolding question_line
returns c =
    let n = decimal c.args.event in
    let name = c.args.name.now in
    let command = c.args.command.now in
    let a = c.put.new.out.items in
    let b = c.put-2.new.out.items in
    let d = c.put-3.new.out.items in
    let e = c.put_name.new.out.items in
    let f = c.put-4.new.out.items in
    let x = c.put_decimal.new.out.items in
    let of_e : x ≡ e ++ (codes " e" ++ n) = joined e f x (codes " e") n c.in_ok-put-4.ensures c.in_ok-put_decimal.ensures in
    let of_d : x ≡ d ++ (name ++ (codes " e" ++ n)) = joined d e x name (codes " e" ++ n) c.in_ok-put_name.ensures of_e in
    let of_b : x ≡ b ++ (codes " " ++ (name ++ (codes " e" ++ n))) = joined b d x (codes " ") (name ++ (codes " e" ++ n)) c.in_ok-put-3.ensures of_d in
    let rest = command ++ (codes " " ++ (name ++ (codes " e" ++ n))) in
    let of_a : x ≡ a ++ rest = joined a b x command (codes " " ++ (name ++ (codes " e" ++ n))) c.in_ok-put-2.ensures of_b in
    let all : x ≡ c.args.out.now.items ++ (codes "ask: whyline " ++ rest) = joined c.args.out.now.items a x (codes "ask: whyline ") rest c.in_ok-put.ensures of_a in
    on_ok_weaker c.put-5.result (λ last. joined c.args.out.now.items x c.put-5.new.out.items (codes "ask: whyline " ++ rest) (10 ∷ []) all last) c.put-5.ensures
