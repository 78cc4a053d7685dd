-- The way from what was found of a scope to its answer.
use Rattle.std.proofs.Common.{◌≡◌, ◌∙◌, ℕ, false, List, length, map, Option, Some, sym, ap, subst}
use Rattle.std.specs.Prelude.{is_some}
use Rattle.std.specs.Prelude.{None as Absent}
use Rattle.std.specs.List.{Contains}
use Rattle.wy_kernel.specs.Program.{Program}
use Rattle.wy_event.specs.Record.{Recorded}
use Rattle.wy_index.specs.declared.index.Index.{Index}
use Rattle.wy_index.specs.Index.{IsIndexOf, IsIndexOfView}
use Rattle.wy_view.specs.View.{Told}
use Rattle.wy_static.specs.declared.point.Point.{Point}
use Rattle.wy_static.specs.declared.point.Link.{Link}
use Rattle.wy_paths.specs.Frontier.{AreFrontier}
use Rattle.wy_scope.specs.Evidence.{Evidence, evidence}
use Rattle.wy_scope.specs.Graph.{AreScopedLinks}
use Rattle.wy_scope.specs.Items.{AreBlockedBetween, AreItems, IsMissed, region_of_statement}
use Rattle.wy_scope.specs.Kept.{IsFirstBelow}
use Rattle.wy_scope.specs.Passing.{IsFirstPass, passed, passes_at}
use Rattle.wy_scope.specs.Regions.{regions_of}
use Rattle.wy_scope.specs.Scope.{entry_of}
use Rattle.wy_scope.proofs.Blocking.{are_blocked, are_items}
use Rattle.wy_scope.proofs.Passes.{is_passed_where}
use Rattle.wy_scope.proofs.Telling.{told_one}

pub index_of : (index : Index) (told : Told) (rs : List Recorded) → told.records ≡ Some rs → IsIndexOfView index told → IsIndexOf index rs
index_of index told rs is whole = subst (IsIndexOf index) (sym (told_one told.records rs whole.records is whole.as_told)) whole.is_index

module _ (p : Program) (rs : List Recorded) (call n : ℕ) (region : Point) (same : region ≡ region_of_statement p n) (o : Option ℕ) (first : IsFirstBelow (passes_at p rs call region) (length rs) o) where
  pub passed_first : (event : ℕ) → o ≡ Some event → IsFirstPass p rs call (region_of_statement p n) event
  passed_first event is =
      let h = subst (IsFirstBelow (passes_at p rs call region) (length rs)) is first in
      subst (λ q. IsFirstPass p rs call q event) same (record { passes = h.1; first = h.2 })

  never_passed : o ≡ Absent → passed p rs call region ≡ false
  never_passed is = sym (is_passed_where p rs call region o first) ∙ ap is_some is

  pub answer : o ≡ Absent → (between blocked : List Link) → AreScopedLinks p (regions_of p) between → AreBlockedBetween p rs call region between blocked
      → (items : List Evidence) → items ≡ map (evidence p rs call) blocked → IsMissed p rs call n × AreItems p rs call n items
  answer is between blocked are found items made =
      let frontier : AreFrontier (Contains between) (passed p rs call) (entry_of rs call) (region_of_statement p n) blocked =
      subst (λ q. AreFrontier (Contains between) (passed p rs call) (entry_of rs call) q blocked) same (found (never_passed is)) in (
        ap (passed p rs call) (sym same) ∙ never_passed is,
        are_items p rs call n blocked items (are_blocked p rs call n between blocked are frontier) made,
      )
