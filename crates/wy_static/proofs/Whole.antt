-- The links of a program, from those along its ways.
use Rattle.std.proofs.Common.{◌≡◌, ℕ, List, subst}
use Rattle.std.specs.List.Sorted.{IsStrictlySortedBy}
use Rattle.wy_kernel.specs.Program.{Program}
use Rattle.wy_static.specs.Ways.{ways_of}
use Rattle.wy_static.specs.declared.point.Link.{Link}
use Rattle.wy_static.specs.declared.way.Way.{Way}
use Rattle.wy_static.specs.Along.{AreAlong, AreCalled, SameLinks}
use Rattle.wy_static.specs.LookUps.{AreTargetsAt, call_to}
use Rattle.wy_static.specs.Links.{AreLinks}
use Rattle.wy_static.specs.Order.{link_cmp}
use Rattle.wy_static.specs.Rows.{Rows, kept_under}

pub all_links : (p q : Program) (ways : List Way) (found new : List Link) → q ≡ p → ways ≡ ways_of q → AreAlong q ways found → SameLinks found new → IsStrictlySortedBy link_cmp new → AreLinks p new
all_links p q ways found new same all along kept sorted =
    let of_program : AreAlong p (ways_of p) found = subst (λ (r : Program). AreAlong r (ways_of r) found) same (subst (λ (ws : List Way). AreAlong q ws found) all along) in
    record {
      exact = λ l. (λ h. (of_program l).0 ((kept l).0 h), λ h. (kept l).1 ((of_program l).1 h));
      in_order = sorted;
    }

pub all_targets : (p : Program) (links : List Link) (rows : Rows) → AreLinks p links → AreCalled links rows → (site : ℕ) → AreTargetsAt p site (kept_under rows site)
all_targets p links rows all called site =
    let here = called site in
    record {
      exact = λ n. (
        λ h. let r = (here.exact n).0 h in record { from = r.0; is_link = (all.exact (call_to site r.0 n)).0 r.1 },
        λ h. (here.exact n).1 (h.from, (all.exact (call_to site h.from n)).1 h.is_link),
      );
      rising = here.rising;
    }
