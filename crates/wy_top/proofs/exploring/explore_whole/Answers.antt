use Rattle.std.proofs.Common.{◌≡◌, List, Option, Some, None, ap, map, refl, subst, sym}
use Rattle.wy_event.specs.Record.{Recorded, recorded}
use Rattle.wy_event.specs.declared.record.Cover.{Cover}
use Rattle.wy_event.specs.declared.record.Event.{Event}
use Rattle.wy_view.specs.View.{Told}
use Rattle.wy_view.specs.Whole.{whole}
use Rattle.wy_session.specs.Desk.{IsSceneOf}
use Rattle.wy_session.proofs.Fewer.{closed_over, reads_out_over}
use Rattle.wy_reply.specs.Tellings.{covers_of}
use Rattle.wy_top.proofs.Scenes.{counted_whole, scene_is}
use Rattle.wy_top.proofs.exploring.explore_whole.Goals as goal

pub returns-clause-closed : goal.returns-clause-closed
returns-clause-closed g c =
    let p = c.args.program.now in
    let t = c.args.trace in
    let told : Told = whole c.into_vec.result.items None in
    let shown : told.records ≡ Some (map recorded t.events) = ap (λ (l : List Event). Some (map recorded l)) c.into_vec.ensures in
    closed_over _ _ _ _ _ _ c.unwrap.result (λ x is. subst (λ (cs : List Cover). IsSceneOf p cs told x) (sym c.as_slice-covers.ensures) (scene_is p (covers_of t) told (Some (map recorded t.events)) shown x is)) (rw (c.unwrap.ensures) at c.explore.ensures.closed)

pub returns-clause-read_out : goal.returns-clause-read_out
returns-clause-read_out g c =
    let p = c.args.program.now in
    let t = c.args.trace in
    let told : Told = whole c.into_vec.result.items None in
    let shown : told.records ≡ Some (map recorded t.events) = ap (λ (l : List Event). Some (map recorded l)) c.into_vec.ensures in
    reads_out_over _ _ _ _ c.unwrap.result (λ x is. subst (λ (cs : List Cover). IsSceneOf p cs told x) (sym c.as_slice-covers.ensures) (scene_is p (covers_of t) told (Some (map recorded t.events)) shown x is)) (rw (c.unwrap.ensures) at c.explore.ensures.read_out)

pub returns-clause-counts : goal.returns-clause-counts
returns-clause-counts g c = λ before.
    let old : Told = whole c.into_vec.result.items None in
    let new : Told = whole c.explore.result.events.items None in
    counted_whole c.unwrap.result old new (map recorded c.into_vec.result.items) ⊥ before refl refl refl (rw (c.unwrap.ensures) at c.explore.ensures.counts)
