use Rattle.std.proofs.Common.{◌≡◌, ◌++◌, take}
use Rattle.std.specs.List.{flat_map}
use Rattle.wy_report.specs.Page.{source_link}
use Rattle.wy_report.specs.Pieces.{written}
use Rattle.wy_report.proofs.event.put_source_links.Given as goal

abbrev pub invariant-loop-source : goal.invariant-loop-source
invariant-loop-source l = l.out.items ≡ l.initial.out.items ++ flat_map (λ s. flat_map written (source_link s)) (take l.source-index l.sources)
