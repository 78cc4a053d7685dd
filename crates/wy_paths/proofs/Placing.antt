-- The ends of links have numbers.
use Rattle.std.proofs.Common.{◌≡◌, ◌∙◌, ℕ, Bool, true, not, List, Vec, Global, length, map, sym, ap, subst}
use Rattle.std.specs.Prelude.{All}
use Rattle.std.specs.List.{Contains}
use Rattle.std.proofs.lemmas.List.{length-map, length-replicate}
use Rattle.std.proofs.lemmas.List.Elements.{All-contains_itself, All-map, All-weaker}
use Rattle.wy_static.specs.declared.point.Point.{Point}
use Rattle.wy_static.specs.declared.point.Link.{Link}
use Rattle.wy_paths.specs.declared.search.Found.{Found}
use Rattle.wy_paths.specs.declared.graph.Edge.{Edge}
use Rattle.wy_paths.specs.Graph.{LiesIn}
use Rattle.wy_paths.specs.Numbers.{AreNumbered, ArePoints, IsFound, IsPlaced, turned}

pub all_turned : (count : ℕ) (es back : List Edge) → All (LiesIn count) es → back ≡ map turned es → All (LiesIn count) back
all_turned count es back lie is =
    subst (All (LiesIn count)) (sym is) (All-map (LiesIn count) turned es (All-weaker (LiesIn count) (λ (e : Edge). LiesIn count (turned e)) (λ e h. (h.1, h.0)) es lie))

pub numbered : (links : List Link) (a b : Point) (points : List Point) → ArePoints links a b points → AreNumbered links points
numbered links a b points are = record { in_order = are.in_order; ends = are.there.ends }

pub all_placed : (links : List Link) (a b : Point) (found : Found) → IsFound links a b found → All (IsPlaced found) links
all_placed links a b found f = All-weaker (Contains links) (IsPlaced found) (λ l i. record {
  in_order = f.points.in_order;
  from = (f.points.there.ends l i).0;
  to = (f.points.there.ends l i).1;
  begun = f.sized;
  reached = f.reached.sized ∙ length-replicate (length found.points.items) true;
  leading = f.leading.sized ∙ length-map found.begun.items not ∙ f.sized;
}) links (All-contains_itself links)

pub begun_as : (met : Point → Bool) (found : Found) (points : Vec Point Global) (begun : Vec Bool Global) → found.begun ≡ begun → found.points ≡ points
    → begun.items ≡ map met points.items → found.begun.items ≡ map met found.points.items
begun_as met found points begun same placed is =
    ap (λ (v : Vec Bool Global). v.items) same ∙ is ∙ ap (λ (v : Vec Point Global). map met v.items) (sym placed)
