-- Links with their evidence are items.
use Rattle.std.proofs.Common.{◌≡◌, ◌∙◌, ◌∷◌, [], ℕ, List, map, refl, sym, ap, subst}
use Rattle.wy_kernel.specs.Program.{Program}
use Rattle.wy_event.specs.declared.record.Cover.{Cover}
use Rattle.wy_event.specs.Record.{Recorded}
use Rattle.wy_static.specs.declared.point.Link.{Link}
use Rattle.wy_whynot.specs.Evidence.{Evidence, evidence}
use Rattle.wy_whynot.specs.Items.{AreBlocked, AreItems, links_of}

links_back : (p : Program) (rs : List Recorded) (covers : List Cover) (ls : List Link) → links_of (map (evidence p rs covers) ls) ≡ ls
links_back p rs covers [] = refl
links_back p rs covers (l ∷ ls) = ap (λ ks. l ∷ ks) (links_back p rs covers ls)

pub are_items : (p : Program) (rs : List Recorded) (covers : List Cover) (n : ℕ) (ls : List Link) (items : List Evidence) → AreBlocked p rs covers n ls → items ≡ map (evidence p rs covers) ls → AreItems p rs covers n items
are_items p rs covers n ls items blocked is =
    let same : links_of items ≡ ls = ap links_of is ∙ links_back p rs covers ls in
    record { blocked = subst (AreBlocked p rs covers n) (sym same) blocked; evident = is ∙ ap (map (evidence p rs covers)) (sym same) }
