-- Chains of links, and what is on them.
use Rattle.std.proofs.Common.{◌≡◌, ◌++◌, ◌∷◌, [], inl, inr, ℕ, Bool, true, false, List, sym}
use Rattle.std.specs.List.{Contains}
use Rattle.wy_kernel.specs.Program.{Program}
use Rattle.wy_event.specs.declared.record.Cover.{Cover}
use Rattle.wy_event.specs.Record.{Recorded}
use Rattle.wy_static.specs.declared.point.Point.{Point}
use Rattle.wy_static.specs.declared.point.Point.TheVariants as point
use Rattle.wy_static.specs.declared.point.Link.{Link}
use Rattle.wy_static.specs.Links.{AreLinks, IsLink}
use Rattle.wy_paths.specs.Frontier.{AreFrontier, IsFrontier}
use Rattle.wy_paths.specs.Leads.{Leads}
use Rattle.wy_paths.proofs.Chaining.{frontier_also, path_through}
use Rattle.wy_paths.proofs.Chaining.{cut as frontier_cut}
use Rattle.wy_whynot.specs.Chains.{IsChain, IsReached}
use Rattle.wy_whynot.specs.Executed.{executed}
use Rattle.wy_whynot.specs.Items.{AreBlocked, IsBlocked}
use Rattle.wy_whynot.proofs.Crossing.{crossed_executed}

true-false : (b : Bool) {A : Type 0} → b ≡ true → b ≡ false → A
true-false b h k = absurd (cc)

-- a point is reached exactly if zero or more links lead to it from Start
pub reached_from : (p : Program) (q : Point) (ls : List Link) → Leads (IsLink p) point.Start ls q → IsReached p q
reached_from p q [] c = inl (sym c)
reached_from p q (l ∷ ls) c = inr (l ∷ ls, record { some = λ e. cc; leads = c })

pub reached_leads : (p : Program) (q : Point) → IsReached p q → (ls : List Link) × Leads (IsLink p) point.Start ls q
reached_leads p q (inl e) = ([], sym e)
reached_leads p q (inr c) = (c.0, c.1.leads)

nonempty : (ks : List Link) (l : Link) (ls : List Link) → ks ++ l ∷ ls ≡ [] → ⊥
nonempty [] l ls e = cc
nonempty (k ∷ ks) l ls e = cc

-- ---- blocked links

module _ (p : Program) (rs : List Recorded) (covers : List Cover) (n : ℕ) where
  abbrev begun : Point → Bool
  begun = executed rs covers

  pub blocked_here : (l : Link) → IsFrontier (IsLink p) begun point.Start (point.Statement n) l → IsBlocked p rs covers n l
  blocked_here l f = record {
    is_link = f.is_link;
    uncrossed = λ c. true-false (begun l.to) (crossed_executed p rs covers l c) f.never;
    begun = f.begun;
    reached = reached_from p l.from f.before f.reached;
    never = f.never;
    onward = f.onward;
    leads = f.leads;
  }

  pub frontier_here : (l : Link) → IsBlocked p rs covers n l → IsFrontier (IsLink p) begun point.Start (point.Statement n) l
  frontier_here l b =
      let before = reached_leads p l.from b.reached in
      record { is_link = b.is_link; begun = b.begun; before = before.0; reached = before.1; never = b.never; onward = b.onward; leads = b.leads }

  -- every chain to a statement that was not executed has a blocked link in it
  pub cut : begun (point.Statement n) ≡ false → begun point.Start ≡ true → (chain : List Link) → IsChain p (point.Statement n) chain
      → (l : Link) × Contains chain l × IsBlocked p rs covers n l
  cut never start chain c =
      let h = frontier_cut (IsLink p) begun point.Start (point.Statement n) never start chain c.leads in
      (h.0, h.1, blocked_here h.0 h.2)

  -- where a link is blocked there is a chain
  pub blocked_chain : (l : Link) → IsBlocked p rs covers n l → (chain : List Link) × IsChain p (point.Statement n) chain
  blocked_chain l b =
      let f = frontier_here l b in
      (f.before ++ l ∷ f.onward, record { some = nonempty f.before l f.onward; leads = path_through (IsLink p) begun point.Start (point.Statement n) l f })

  pub are_blocked : (links sorted : List Link) → AreLinks p links → AreFrontier (Contains links) begun point.Start (point.Statement n) sorted → AreBlocked p rs covers n sorted
  are_blocked links sorted are f = record {
    exact = λ l. (
      λ i. blocked_here l (frontier_also (Contains links) (IsLink p) begun point.Start (point.Statement n) (λ k. (are.exact k).0) l ((f.exact l).0 i)),
      λ b. (f.exact l).1 (frontier_also (IsLink p) (Contains links) begun point.Start (point.Statement n) (λ k. (are.exact k).1) l (frontier_here l b)),
    );
    in_order = f.in_order;
  }
