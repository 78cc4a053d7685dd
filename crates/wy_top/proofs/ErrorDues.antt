-- Why a source is no program, as it is answered.
use Rattle.std.proofs.Common.{◌≡◌, sym, ap, subst, ℕ, List, Result, Ok, Err, IfOk}
use Rattle.std.specs.declared.alloc.AllocError.{AllocError}
use Rattle.wy_constant.specs.declared.rule.Rule.{Rule}
use Rattle.wy_constant.specs.Refusal as typing
use Rattle.wy_tree.specs.Lines.{line_of}
use Rattle.wy_tree.specs.Tokens as fault
use Rattle.wy_constant.specs.declared.source_refusal.LexFault.{LexFault}
use Rattle.wy_constant.specs.declared.source_refusal.LexFault.TheVariants.{NotUtf8, BadToken, BadLiteral}
use Rattle.wy_program.specs.declared.source.SourceError.{SourceError}
use Rattle.wy_program.specs.declared.source.SourceError.TheVariants.{Refused}
use Rattle.wy_constant.specs.declared.source_refusal.SourceRefusal.{SourceRefusal}
use Rattle.wy_constant.specs.declared.source_refusal.SourceRefusal.TheVariants.{NoTokens, NoTree, Broken}
use Rattle.wy_program.specs.Sources.{IsCauseOf, IsRefusedFor}
use Rattle.wy_reply.specs.declared.answer.Answer.{Answer}
use Rattle.wy_reply.specs.declared.status.Status.{Status}
use Rattle.wy_reply.specs.declared.status.Status.TheVariants as status
use Rattle.wy_reply.specs.Lines.{of_trace}
use Rattle.wy_constant.specs.RefusalNames.{fault_name}
use Rattle.wy_reply.specs.Sources.{source_refusal_text}
use Rattle.wy_top.specs.Causes.{IsNoProgram, rule_line, syntax_line, not_utf8, refused, syntax, broken}
use Rattle.wy_top.specs.Replies.{RefusesSource, RefusesTrace}

no_tokens : (f : LexFault) (byte : ℕ) (source : List ℕ) → IsRefusedFor source (NoTokens f byte) → IsNoProgram source (source_refusal_text (NoTokens f byte))
unfolding fault_name
no_tokens NotUtf8 byte source cause = not_utf8 byte cause
no_tokens BadToken byte source cause = refused (fault.BadToken byte) cause
no_tokens BadLiteral byte source cause = refused (fault.BadLiteral byte) cause

no_tree : (line token : ℕ) (source : List ℕ) → IsRefusedFor source (NoTree line token) → IsNoProgram source (syntax_line line token)
no_tree line token source c = syntax c.spans (syntax_line line token) c.read c.none (token, c.allowed, ap (λ l. syntax_line l token) c.at)

rule_broken : (r : Rule) (line token : ℕ) (source : List ℕ) → IsRefusedFor source (Broken r line token) → IsNoProgram source (rule_line r line token)
rule_broken r line token source (spans, read, becomes, at) =
    let same : rule_line r line token ≡ rule_line r (line_of spans token) token = ap (λ l. rule_line r l token) at in
    subst (λ (x : List ℕ). IsNoProgram source x) (sym same) (broken spans (typing.refused r token) read becomes)

-- the line of a refusal says why the source is no program
no_program : (refusal : SourceRefusal) (source : List ℕ) → IsRefusedFor source refusal → IsNoProgram source (source_refusal_text refusal)
no_program (NoTokens f byte) source cause = no_tokens f byte source cause
no_program (NoTree line token) source cause = no_tree line token source cause
no_program (Broken r line token) source cause = rule_broken r line token source cause

refused_by : (e : SourceError) (refusal : SourceRefusal) → e ≡ Refused refusal → (source : List ℕ) → IsCauseOf source e → IsNoProgram source (source_refusal_text refusal)
refused_by e refusal at source cause = no_program refusal source (subst (λ (x : SourceError). IsCauseOf source x) at cause)

-- ---- answers

-- the status and the text of a refusal, where it was made
abbrev pub Refuses : Status → List ℕ → Result Answer AllocError → Type 0
Refuses s text r = IfOk r (λ answer. (answer.status ≡ s) × (answer.text.items ≡ text))

pub source_refused : (e : SourceError) (refusal : SourceRefusal) (r : Result Answer AllocError) → e ≡ Refused refusal → Refuses status.Program (source_refusal_text refusal) r →
    IfOk r (λ answer. RefusesSource e answer)
source_refused e refusal (Ok answer) at h = (h.0, λ source cause. subst (IsNoProgram source) (sym h.1) (refused_by e refusal at source cause))
source_refused e refusal (Err x) at h = tt

pub trace_refused : (e : SourceError) (refusal : SourceRefusal) (r : Result Answer AllocError) → e ≡ Refused refusal → Refuses status.Trace (of_trace (source_refusal_text refusal)) r →
    IfOk r (λ answer. RefusesTrace e answer)
trace_refused e refusal (Ok answer) at h = (h.0, λ source cause. (source_refusal_text refusal, refused_by e refusal at source cause, h.1))
trace_refused e refusal (Err x) at h = tt
