-- The way from a word to its answer.
use Rattle.std.proofs.Common.{ℕ, List, sym, subst}
use Rattle.std.specs.Prelude.{Ok, Err, Result, Vec}
use Rattle.std.specs.declared.alloc.Global.{Global}
use Rattle.wy_kernel.specs.Program.{Program}
use Rattle.wy_kernel.specs.Statements.{statements_of}
use Rattle.wy_event.specs.declared.record.Cover.{Cover}
use Rattle.wy_event.specs.Record.{Recorded}
use Rattle.wy_ask.specs.declared.naming.NamedStatement.{NamedStatement}
use Rattle.wy_ask.specs.Statements.{Finds}
use Rattle.wy_telling.specs.declared.whynot.Unanswered.{Unanswered}
use Rattle.wy_telling.specs.declared.whynot.Unanswered.TheVariants as unanswered
use Rattle.wy_telling.specs.Whynot.{NamesStatement, Ran, TellsNamed, TellsWhynot, WhynotIs, answered, ran}

pub told_of : (p : Program) (lines : List ℕ) (rs : List Recorded) (covers : List Cover) (word : List ℕ) (s : NamedStatement) (r : Result (Vec ℕ Global) Unanswered)
    → Finds lines (statements_of p) word (Ok s) → TellsNamed p lines rs covers s r → TellsWhynot p lines rs covers word r
told_of p lines rs covers word s (Ok text) found (none, (items, are, is)) =
    subst (λ t. WhynotIs p lines rs covers word (Ok t)) (sym is)
    (answered s.line s.place s.number items (record { names = found.0; placed = found.1 }) none are)
told_of p lines rs covers word s (Err unanswered.NotRead) found h = absurd h
told_of p lines rs covers word s (Err (unanswered.NoSuch line)) found h = absurd h
told_of p lines rs covers word s (Err (unanswered.Ran line place count first)) found (at, place_is, has) =
    let named : NamesStatement p lines word s.line s.place s.number = record { names = found.0; placed = found.1 } in
    subst (λ l. WhynotIs p lines rs covers word (Err (Ran l place count first))) (sym at)
    (subst (λ k. WhynotIs p lines rs covers word (Err (Ran s.line k count first))) (sym place_is)
    (ran s.line s.place s.number count first named has))
told_of p lines rs covers word s (Err unanswered.NoMemory) found h = tt
