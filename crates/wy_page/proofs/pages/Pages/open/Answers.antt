-- What was read whole is kept, and what was refused is what a reader of all bytes refuses.
use Rattle.std.proofs.Common.{ap, ◌∙◌}
use Rattle.std.specs.Prelude.{string_bytes}
use Rattle.wy_page.proofs.Answering.{end_stands, opened, unread, unsealed}
use Rattle.wy_page.proofs.Numbering.{noted_all}
use Rattle.wy_page.proofs.Whole.{Laws, fits_opened}
use Rattle.wy_page.proofs.pages.Pages.open.Goals as goal

pub returns-in-Err-read_whole-clause-trace : goal.returns-in-Err-read_whole-clause-trace
returns-in-Err-read_whole-clause-trace g c = unread (g.S.Shelf.held c.args.shelf.now) c.args.name.now c.args.version c.args.program.now c.args.head.now c.requires.file c.in-Err-read_whole.error c.in-Err-read_whole.ensures.refused

pub finish-requires : goal.finish-requires
finish-requires g c =
    let x = c.in-Ok-read_whole.ensures.read in
    record { reading = record { version = c.args.version; program = c.args.program.now; head = c.args.head.now; fed = x.0; standing = x.1; reads = x.2 } }

pub returns-in-Ok-finish-clause-trace : goal.returns-in-Ok-finish-clause-trace
returns-in-Ok-finish-clause-trace g c =
    let x = c.in-Ok-read_whole.ensures.read in
    let laws : Laws = record { placed = c.read_events_are_placed.ensures; told = c.read_events_are_told.ensures; refer = c.decoded_events_refer_below.ensures; sealed = c.read_traces_end_sealed.ensures } in
    let w = c.in-Ok-finish.ensures.read c.args.version c.args.program.now c.args.head.now x.0 x.1 x.2 in
    opened (g.S.Shelf.held c.args.shelf.now) c.args.name.now c.args.version c.args.program.now c.args.head.now c.requires.file laws c.in-Ok-read_whole.reading x.0 x.1 x.2 c.in-Ok-finish.opened.0 c.in-Ok-finish.opened.1 w c.is_of_bytes.ensures x.4

pub returns-in-Ok-finish-clause-fits : goal.returns-in-Ok-finish-clause-fits
returns-in-Ok-finish-clause-fits g c =
    let x = c.in-Ok-read_whole.ensures.read in
    let laws : Laws = record { placed = c.read_events_are_placed.ensures; told = c.read_events_are_told.ensures; refer = c.decoded_events_refer_below.ensures; sealed = c.read_traces_end_sealed.ensures } in
    let w = c.in-Ok-finish.ensures.read c.args.version c.args.program.now c.args.head.now x.0 x.1 x.2 in
    let fresh = c.in-Ok-finish.ensures.fresh in
    fits_opened laws c.in-Ok-read_whole.reading c.args.version c.args.program.now c.args.head.now x.0 x.1 x.2 c.in-Ok-finish.opened.0 c.in-Ok-finish.opened.1 w c.is_of_bytes.ensures fresh.nothing_held c.args.name.now (ap string_bytes fresh.name_is ∙ c.in-Ok.ensures.ok) (g.S.Shelf.held c.args.shelf.now) c.requires.file x.4

pub returns-in-Ok-finish-clause-end : goal.returns-in-Ok-finish-clause-end
returns-in-Ok-finish-clause-end g c =
    let x = c.in-Ok-read_whole.ensures.read in
    let w = c.in-Ok-finish.ensures.read c.args.version c.args.program.now c.args.head.now x.0 x.1 x.2 in
    end_stands c.read_ends_stand.ensures c.in-Ok-read_whole.reading c.args.version c.args.program.now c.args.head.now x.0 x.1 x.2 c.in-Ok-finish.opened.0 c.in-Ok-finish.opened.1 w

pub returns-in-Err-finish-clause-trace : goal.returns-in-Err-finish-clause-trace
returns-in-Err-finish-clause-trace g c =
    let x = c.in-Ok-read_whole.ensures.read in
    unsealed (g.S.Shelf.held c.args.shelf.now) c.args.name.now c.args.version c.args.program.now c.args.head.now c.requires.file c.in-Ok-read_whole.reading x.0 x.1 c.in-Err-finish.error x.2 x.4 (c.in-Err-finish.ensures.read c.args.version c.args.program.now c.args.head.now x.0 x.1 x.2)

pub returns-in-Ok-finish-clause-found : goal.returns-in-Ok-finish-clause-found
returns-in-Ok-finish-clause-found g c =
    let x = c.in-Ok-read_whole.ensures.read in
    let laws : Laws = record { placed = c.read_events_are_placed.ensures; told = c.read_events_are_told.ensures; refer = c.decoded_events_refer_below.ensures; sealed = c.read_traces_end_sealed.ensures } in
    let w = c.in-Ok-finish.ensures.read c.args.version c.args.program.now c.args.head.now x.0 x.1 x.2 in
    let fresh = c.in-Ok-finish.ensures.fresh in
    noted_all laws c.read_whole.new.found c.in-Ok-read_whole.reading c.args.version c.args.program.now c.args.head.now x.0 x.1 x.2 c.in-Ok-finish.opened.0 c.in-Ok-finish.opened.1 w c.is_of_bytes.ensures c.args.name.now (ap string_bytes fresh.name_is ∙ c.in-Ok.ensures.ok) (g.S.Shelf.held c.args.shelf.now) c.requires.file x.4 (c.read_events_refer_below.ensures c.args.version c.args.program.now c.args.head.now x.0 c.in-Ok-read_whole.reading.scanner.rest.items x.1 x.2.scans.leaves) x.3
