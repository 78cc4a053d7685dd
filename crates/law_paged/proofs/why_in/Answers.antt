use Rattle.std.proofs.Common.{◌≡◌, ◌∙◌, ℕ, IfOk, subst}
use Rattle.wy_event.specs.Sources.{closure, data_closure}
use Rattle.wy_index.specs.Index.{owners_of}
use Rattle.wy_kernel.specs.Parts.{program_of}
use Rattle.wy_kernel.specs.Program.{field}
use Rattle.wy_why.specs.Answer.{up_to}
use Rattle.law_paged.proofs.why_in.Goals as goal

pub returns-clause-all : goal.returns-clause-all
returns-clause-all g c = λ rs is.
    let owners : ℕ → ℕ = λ f. (field (program_of c.args.program.now) f).class in
    let same : owners_of c.in_ok-index.index ≡ owners = λ i f. (c.in_ok-index.ensures.owners f) i in
    subst (λ o. IfOk c.why.result (λ answer. answer.all.items ≡ up_to c.args.event (closure o rs c.args.event))) same (c.why.ensures.all rs (c.in_ok-index.ensures.keeps.records ∙ is))

pub returns-clause-flow : goal.returns-clause-flow
returns-clause-flow g c = λ rs is.
    let owners : ℕ → ℕ = λ f. (field (program_of c.args.program.now) f).class in
    let same : owners_of c.in_ok-index.index ≡ owners = λ i f. (c.in_ok-index.ensures.owners f) i in
    subst (λ o. IfOk c.why.result (λ answer. answer.flow.items ≡ up_to c.args.event (data_closure o rs c.args.event))) same (c.why.ensures.flow rs (c.in_ok-index.ensures.keeps.records ∙ is))
