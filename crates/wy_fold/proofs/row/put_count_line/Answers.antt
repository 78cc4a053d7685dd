use Rattle.std.proofs.Common.{◌≡◌, ◌∙◌, ◌++◌, ap}
use Rattle.std.specs.Prelude.{codes}
use Rattle.std.specs.Fmt.{decimal}
use Rattle.wy_fold.specs.Rows.{count_line, folded_away, hidden, of_the_data}
use Rattle.wy_fold.proofs.Texts.{joined}
use Rattle.wy_fold.proofs.row.put_count_line.Goals as goal

pub returns : goal.returns
unfolding count_line
returns c =
    let l = c.args.out.now.items in
    let la = c.put.new.out.items in
    let lb = c.put_count.new.out.items in
    let lc = c.put-2.new.out.items in
    let ld = c.put-3.new.out.items in
    let le = c.put-4.new.out.items in
    let lf = c.put_count-2.new.out.items in
    let lg = c.put-5.new.out.items in
    let lh = c.put_folded_away.new.out.items in
    let ours = of_the_data c.args.showing.by_data in
    let away = folded_away (hidden c.args.showing c.args.events c.args.groups) in
    let h : lh ≡ lf ++ (codes " lines" ++ away) = joined lf lg lh (codes " lines") away c.in_ok-put-5.ensures (c.in_ok-put_folded_away.ensures ∙ ap (λ n. lg ++ folded_away n) c.hidden.ensures) in
    let f : lh ≡ le ++ (decimal c.args.groups ++ (codes " lines" ++ away)) = joined le lf lh (decimal c.args.groups) (codes " lines" ++ away) c.in_ok-put_count-2.ensures h in
    let e : lh ≡ ld ++ (codes " in " ++ (decimal c.args.groups ++ (codes " lines" ++ away))) = joined ld le lh (codes " in ") (decimal c.args.groups ++ (codes " lines" ++ away)) c.in_ok-put-4.ensures f in
    let d = joined lc ld lh ours (codes " in " ++ (decimal c.args.groups ++ (codes " lines" ++ away))) (c.in_ok-put-3.ensures ∙ ap (λ x. lc ++ x) c.of_the_data.ensures) e in
    let b = joined lb lc lh (codes " events") (ours ++ (codes " in " ++ (decimal c.args.groups ++ (codes " lines" ++ away)))) c.in_ok-put-2.ensures d in
    let a = joined la lb lh (decimal c.args.events) (codes " events" ++ (ours ++ (codes " in " ++ (decimal c.args.groups ++ (codes " lines" ++ away))))) c.in_ok-put_count.ensures b in
    let all = joined l la lh (codes "-- ") (decimal c.args.events ++ (codes " events" ++ (ours ++ (codes " in " ++ (decimal c.args.groups ++ (codes " lines" ++ away)))))) c.in_ok-put.ensures a in
    joined l lh c.put-6.new.out.items _ (codes "\n") all c.in_ok-put-6.ensures
