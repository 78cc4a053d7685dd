-- What was found in the records of the view is the index's.
use Rattle.wy_index.proofs.index.Index.of.Goals as goal

pub of_findings-requires : goal.of_findings-requires
of_findings-requires g c =
    let v = rw (c.in-Some.is) at c.requires.found in
    record { records = v.records; has_found = v.has_found; few = v.few }

pub returns-in_ok-of_findings-in-Some-clause-index : goal.returns-in_ok-of_findings-in-Some-clause-index
returns-in_ok-of_findings-in-Some-clause-index g c =
    let v = rw (c.in-Some.is) at c.requires.found in
    record { records = v.records; is_index = c.in_ok-of_findings-in-Some.ensures.index v.records v.has_found v.few; all = v.all; as_told = v.as_told }
