use Rattle.std.proofs.Common.{◌∙◌, sym}
use Rattle.wy_explore.proofs.Arms.{go_missed, go_told, go_unread}
use Rattle.wy_explore.proofs.explorer.Explorer.go_to.Goals as goal

pub returns-in_default-clause-reply : goal.returns-in_default-clause-reply
returns-in_default-clause-reply c = λ m covers rs all. go_unread m covers rs c.args.self.now c.args.word.now (sym c.number.ensures ∙ c.in_default.is)

pub returns-then-go-clause-reply : goal.returns-then-go-clause-reply
returns-then-go-clause-reply c = λ m covers rs all.
    let (lt, at) = (c.if-go.ensures {u = tt}).goes in
    go_told m covers rs c.args.self.now c.args.word.now c.in-Some.n c.args.count c.go.new.self (sym c.number.ensures ∙ c.in-Some.is) all lt at

pub returns-else-go-clause-reply : goal.returns-else-go-clause-reply
returns-else-go-clause-reply c = λ m covers rs all.
    let (le, same) = (c.if-go.ensures {u = tt}).goes in
    go_missed m covers rs c.args.self.now c.args.word.now c.in-Some.n c.args.count c.go.new.self (sym c.number.ensures ∙ c.in-Some.is) all le same
