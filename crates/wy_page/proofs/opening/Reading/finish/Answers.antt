-- All blocks are marked, and a digest of each is kept.
use Rattle.std.proofs.Common.{◌++◌, length, sym, ap, ◌∙◌, arith}
use Rattle.std.specs.Prelude.{Vec}
use Rattle.std.specs.declared.alloc.Global.{Global}
use Rattle.wy_spelling.specs.Spelling.{opening}
use Rattle.wy_frames.specs.declared.stage.Stage.TheVariants as stages
use Rattle.wy_page.specs.Reads.{places}
use Rattle.wy_page.proofs.Marked.{all_of_parts}
use Rattle.wy_page.proofs.Taken.{are_places, ends_within}
use Rattle.wy_page.proofs.opening.Reading.finish.Goals as goal

pub end-requires : goal.end-requires
end-requires c =
    let x = c.requires.reading in
    record { within = omega (arith, ends_within c.read_events_are_placed.ensures c.args.self x.version x.program x.head x.fed x.standing x.reads, ap length c.as_slice.ensures.value) }

pub fresh-requires : goal.fresh-requires
fresh-requires c =
    let x = c.requires.reading in
    let m = c.in_ok-end.ensures.marked (places x.version x.head x.standing) (opening x.version x.head ++ x.fed) (c.as_slice.ensures.value ∙ x.reads.left) x.reads.marked in
    are_places c.read_events_are_placed.ensures c.args.self x.version x.program x.head x.fed x.standing x.reads _ _ _ m

pub returns-clause-read : goal.returns-clause-read
returns-clause-read c = λ v p head fed t h.
    let end = c.end.new.self in
    let pages = c.in_ok-pages.pages in
    let sealed = c.in-Ok.ensures.read v p head fed t h.scans in
    let m = c.in_ok-end.ensures.marked (places v head t) (opening v head ++ fed) (c.as_slice.ensures.value ∙ h.left) h.marked in
    record {
      version_is = c.in_ok-pages.ensures.version ∙ h.version;
      sealed = sealed ∙ ap (stages.Sealed c.in-Ok.end.0) (sym c.in_ok-pages.ensures.seal);
      marked = all_of_parts end.starts.items pages.starts.items end.digests.items pages.digests.items end.count pages.count (places v head t) (opening v head ++ fed) (ap (λ (v : Vec _ Global). v.items) c.in_ok-pages.ensures.starts) (ap (λ (v : Vec _ Global). v.items) c.in_ok-pages.ensures.digests) c.in_ok-pages.ensures.count m;
    }
