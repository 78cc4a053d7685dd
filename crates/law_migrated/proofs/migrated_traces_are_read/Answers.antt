use Rattle.std.proofs.Common.{map, ◌∙◌}
use Rattle.wy_event.specs.Record.{recorded}
use Rattle.wy_event.specs.declared.record.Version.TheVariants as version
use Rattle.wy_frames.specs.Heads.{version_of}
use Rattle.law_migrated.proofs.Versions.{all_told, readable}
use Rattle.law_migrated.proofs.migrated_traces_are_read.Goals as goal

pub returns : goal.returns
returns c = λ p bytes x fit fits is are short migrated small same.
    let rs = map recorded x.events in
    let keeps = readable (version_of bytes) version.Two p x.head rs x.tail (c.read_traces_keep_rules.ensures p bytes x fit fits is) in
    let read = c.traces_within_rules_are_read.ensures version.Two p x.head rs x.tail migrated small same keeps in
    record {
      trace = read.trace;
      read = read.read;
      head_is = read.head_is;
      events_are = read.events_are ∙ all_told (version_of bytes) rs (c.read_events_are_told.ensures p bytes x are short fit is);
      tail_is = read.tail_is;
    }
