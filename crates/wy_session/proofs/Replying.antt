-- The lines of replies.
use Rattle.std.proofs.Common.{◌≡◌, ◌∙◌, sym, ap, subst, ℕ, List, Option, Some, Result, IfOk, Vec, Global}
use Rattle.std.specs.Prelude.{filter, IfSome}
use Rattle.std.proofs.Math.Path.{fun_ext}
use Rattle.wy_event.specs.Numbers.{Numbers}
use Rattle.wy_event.specs.Record.{Recorded}
use Rattle.wy_event.specs.Sources.{Owners, closure, data_closure}
use Rattle.wy_kernel.specs.Program.{Program}
use Rattle.wy_view.specs.declared.view.ViewError.{ViewError}
use Rattle.wy_index.specs.declared.index.Index.{Index}
use Rattle.wy_index.specs.Index.{owners_of}
use Rattle.wy_why.specs.Answer.{up_to}
use Rattle.wy_ask.specs.Asked.{owners}
use Rattle.wy_telling.specs.Answers.{marked_lines}
use Rattle.wy_telling.specs.Why.{why_text}
use Rattle.wy_telling.proofs.Answering.{why_told}
use Rattle.wy_explore.specs.declared.explorer.Answered.{Answered}
use Rattle.wy_kernel.specs.Parts.{program_of}
use Rattle.wy_view.specs.View.{Told}
use Rattle.wy_explore.specs.declared.explorer.Explorer.{Explorer}
use Rattle.wy_explore.specs.declared.reply.Reply.{Reply}
use Rattle.wy_explore.specs.declared.reply.Reply.TheVariants.{Answer}
use Rattle.wy_ask.specs.declared.opened.Opened.{Opened}
use Rattle.wy_ask.specs.Opened.{IsOpenedOf}
use Rattle.wy_explore.specs.Explorer.{AllAnswered, IsAnswered, event_asked, reply_of}
use Rattle.wy_session.specs.Desk.{IsAsked, IsSceneIn}
use Rattle.wy_session.specs.Scene.{Scene, reply_text}

-- the lines of an answer that is held are those of its event
pub answer_told : (p : Program) (lines : List ℕ) (rs : List Recorded) (a : Answered) (index : Index) (r : Result (Vec ℕ Global) ViewError) → ((f : ℕ) → owners_of index f ≡ owners p f) → IsAnswered p rs a
    → ((by_data : Numbers) → a.answer.flow.items ≡ filter by_data a.answer.all.items → IfOk r (λ text. text.items ≡ marked_lines p lines rs by_data a.answer.all.items))
    → IfOk r (λ text. text.items ≡ why_text p lines rs a.event)
answer_told p lines rs a index r same is gives =
    let one : owners_of index ≡ owners p = fun_ext same in
    why_told p lines rs a.event index a.answer.all.items a.answer.flow.items r same
    (is.all ∙ ap (λ (o : Owners). up_to a.event (closure o rs a.event)) (sym one)) (is.flow ∙ ap (λ (o : Owners). up_to a.event (data_closure o rs a.event)) (sym one)) gives

one_event : (a : Answered) (event : ℕ) → Some a.event ≡ Some event → a.event ≡ event
one_event a event e = cc

of_question : (P : Answered → Type 0) (question : Option Answered) (a : Answered) → question ≡ Some a → IfSome question P → P a
of_question P question a is holds = subst (λ (q : Option Answered). IfSome q P) is holds

-- the answer to the question that was asked last, as a reply
pub answer_replied : {V : Type 0} (x : Scene) (told : Told) (o : Opened V) (e : Explorer) (reply : Reply) (event : ℕ) (a : Answered) (r : Result (Vec ℕ Global) ViewError) → IsOpenedOf told o → IsSceneIn told o x → AllAnswered x.program x.records e → e.question ≡ Some a
    → reply ≡ Answer event → IsAsked e reply
    → ((by_data : Numbers) → a.answer.flow.items ≡ filter by_data a.answer.all.items → IfOk r (λ text. text.items ≡ marked_lines (program_of o.program.now) o.program.now.lines.items x.records by_data a.answer.all.items))
    → IfOk r (λ text. text.items ≡ reply_text x (reply_of reply))
unfolding reply_text
answer_replied x told o e reply event a r opened scene all question is asked gives =
    let of : IsAsked e (Answer event) = subst (IsAsked e) is asked in
    let same : a.event ≡ event = one_event a event (sym (ap event_asked question) ∙ of) in
    let answered : IsAnswered x.program x.records a = of_question (IsAnswered x.program x.records) e.question a question all.now in
    let here : IsAnswered (program_of o.program.now) x.records a = subst (λ (p : Program). IsAnswered p x.records a) scene.program answered in
    let told_so = answer_told (program_of o.program.now) o.program.now.lines.items x.records a o.index r opened.owners here gives in
    subst (λ (z : Reply). IfOk r (λ text. text.items ≡ reply_text x (reply_of z))) (sym is)
    (subst (λ (n : ℕ). IfOk r (λ text. text.items ≡ why_text x.program x.lines x.records n)) same
    (subst (λ (p : Program). IfOk r (λ text. text.items ≡ why_text p x.lines x.records a.event)) (sym scene.program)
    (subst (λ (l : List ℕ). IfOk r (λ text. text.items ≡ why_text (program_of o.program.now) l x.records a.event)) (sym scene.lines) told_so)))
