use Rattle.law_own_traces.proofs.Short.{own_short}
use Rattle.law_own_traces.specs.Own.{text_of}
use Rattle.wy_kernel.specs.Parts.{program_of}
use Rattle.law_own_traces.proofs.traces.own_traces_are_short.Goals as goal

pub returns : goal.returns
returns c = λ p fits library text. own_short p
    (record {
      records = c.references_point_below.ensures.records;
      coverage = c.references_point_below.ensures.coverage;
      counts = c.references_point_below.ensures.counts;
      last = c.references_point_below.ensures.last;
    })
    (c.runs_are_in_range.ensures.runs (text_of p) (program_of p) fits library text)
