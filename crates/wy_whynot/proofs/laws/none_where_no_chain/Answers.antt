use Rattle.std.proofs.Common.{◌≡◌, ℕ, List, [], ◌∷◌, refl, subst}
use Rattle.std.specs.List.{Contains}
use Rattle.wy_kernel.specs.Program.{Program}
use Rattle.wy_event.specs.declared.record.Cover.{Cover}
use Rattle.wy_event.specs.Record.{Recorded}
use Rattle.wy_static.specs.declared.point.Point.TheVariants as point
use Rattle.wy_static.specs.declared.point.Link.{Link}
use Rattle.wy_whynot.specs.Chains.{IsChain}
use Rattle.wy_whynot.specs.Evidence.{Evidence}
use Rattle.wy_whynot.specs.Items.{AreItems, links_of}
use Rattle.wy_whynot.proofs.Begun.{never_executed, start_executed}
use Rattle.wy_whynot.proofs.Chaining.{blocked_chain, cut}
use Rattle.wy_paths.proofs.Sorting.{in_head}
use Rattle.wy_paths.proofs.Spreading.{nothing_in}
use Rattle.wy_whynot.proofs.laws.none_where_no_chain.Goals as goal

no_items : (p : Program) (rs : List Recorded) (covers : List Cover) (n : ℕ) (items : List Evidence) → AreItems p rs covers n items
    → ((chain : List Link) → IsChain p (point.Statement n) chain → ⊥) → items ≡ []
no_items p rs covers n [] are none = refl
no_items p rs covers n (i ∷ is) are none =
    let c = blocked_chain p rs covers n i.link ((are.blocked.exact i.link).0 (in_head i.link (links_of is))) in
    absurd (none c.0 c.1)

pub returns : goal.returns
returns c = λ p rs covers n items never are. (
  λ (empty : items ≡ []) chain leads.
      let h = cut p rs covers n (never_executed rs covers n never) (start_executed rs covers) chain leads in
      nothing_in h.0 (subst (λ is. Contains (links_of is) h.0) empty ((are.blocked.exact h.0).1 h.2)),
  no_items p rs covers n items are,
)
