-- What the opening of a trace comes to.
use Rattle.std.proofs.Common.{◌≡◌, subst, inl, inr, ℕ, List, Result, Ok, Err, IfOk, IfErr}
use Rattle.wy_event.specs.declared.record.Head.{Head}
use Rattle.wy_event.specs.declared.record.Version.{Version}
use Rattle.wy_kernel.specs.declared.program.Program.{Program}
use Rattle.wy_frames.specs.Heads.{GivesDue, ReadHead, head_of}
use Rattle.wy_frames.specs.Traces.{ReadsAs}
use Rattle.wy_frames.specs.declared.error.TraceError.{TraceError}
use Rattle.wy_frames.specs.declared.error.TraceError.TheVariants.{Cut, Damaged, BadSeal, NoMemory}
use Rattle.wy_program.specs.Openings.{IsNoTrace, IsNoTraceUnder, IsUnopenedFor, IsUnopenedUnder, Opens, OpensUnder}
use Rattle.wy_program.specs.Programs.{IsProgramOf}
use Rattle.wy_program.specs.Sources.{IsCauseOf}
use Rattle.wy_program.specs.declared.opening.OpenTrace.{OpenTrace}
use Rattle.wy_program.specs.declared.opening.OpeningError.{OpeningError}
use Rattle.wy_program.specs.declared.opening.OpeningError.TheVariants.{Trace, Source}

pub no_trace_under : (source bytes : List ℕ) (p : Program) (e : TraceError) → IsProgramOf source p → ReadsAs (Err e) p bytes → IsNoTraceUnder source bytes e
no_trace_under source bytes p (Cut byte) is read = (p, is, read)
no_trace_under source bytes p (Damaged byte rule) is read = (p, is, read)
no_trace_under source bytes p BadSeal is read = (p, is, read)
no_trace_under source bytes p NoMemory is read = tt

pub opened_by_head : (source bytes : List ℕ) (head : Head) (end : ℕ) (v : Version) (r : Result OpenTrace OpeningError) → head_of bytes ≡ Ok (head, end, v) → source ≡ head.source → IfOk r (OpensUnder source bytes) → IfOk r (Opens bytes)
opened_by_head source bytes head end v (Ok o) at same opens = (head, end, v, at, subst (λ s. OpensUnder s bytes o) same opens)
opened_by_head source bytes head end v (Err e) at same opens = tt

no_trace_by_head : (source bytes : List ℕ) (head : Head) (end : ℕ) (v : Version) (e : TraceError) → head_of bytes ≡ Ok (head, end, v) → source ≡ head.source → IsNoTraceUnder source bytes e → IsNoTrace bytes e
no_trace_by_head source bytes head end v (Cut byte) at same none = inr (head, end, v, at, subst (λ s. IsNoTraceUnder s bytes (Cut byte)) same none)
no_trace_by_head source bytes head end v (Damaged byte rule) at same none = inr (head, end, v, at, subst (λ s. IsNoTraceUnder s bytes (Damaged byte rule)) same none)
no_trace_by_head source bytes head end v BadSeal at same none = inr (head, end, v, at, subst (λ s. IsNoTraceUnder s bytes BadSeal) same none)
no_trace_by_head source bytes head end v NoMemory at same none = tt

unopened : (source bytes : List ℕ) (head : Head) (end : ℕ) (v : Version) (e : OpeningError) → head_of bytes ≡ Ok (head, end, v) → source ≡ head.source → IsUnopenedUnder source bytes e → IsUnopenedFor bytes e
unopened source bytes head end v (Source e) at same why = (head, end, v, at, subst (λ s. IsCauseOf s e) same why)
unopened source bytes head end v (Trace e) at same why = no_trace_by_head source bytes head end v e at same why

pub refused_by_head : (source bytes : List ℕ) (head : Head) (end : ℕ) (v : Version) (r : Result OpenTrace OpeningError) → head_of bytes ≡ Ok (head, end, v) → source ≡ head.source → IfErr r (IsUnopenedUnder source bytes) → IfErr r (IsUnopenedFor bytes)
refused_by_head source bytes head end v (Ok o) at same why = tt
refused_by_head source bytes head end v (Err e) at same why = unopened source bytes head end v e at same why

abbrev unread : TraceError → Result ReadHead TraceError
unread e = Err e

pub no_head : (bytes : List ℕ) (e : TraceError) → GivesDue (unread e) (head_of bytes) → IsNoTrace bytes e
no_head bytes (Cut byte) is = inl is
no_head bytes (Damaged byte rule) is = inl is
no_head bytes BadSeal is = inl is
no_head bytes NoMemory is = tt
