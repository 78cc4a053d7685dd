-- Where the executed points are reached by crossed links, each item is needed.
use Rattle.std.proofs.Common.{◌≡◌, ◌∙◌, ◌++◌, ◌∷◌, [], inl, ⊎_elim, ℕ, Bool, true, false, List, refl, sym, ap, subst}
use Rattle.std.specs.List.{Contains}
use Rattle.wy_kernel.specs.Program.{Program}
use Rattle.wy_event.specs.declared.record.Cover.{Cover}
use Rattle.wy_event.specs.Record.{Recorded}
use Rattle.wy_static.specs.declared.point.Point.{Point}
use Rattle.wy_static.specs.declared.point.Point.TheVariants as point
use Rattle.wy_static.specs.declared.point.Link.{Link}
use Rattle.wy_static.specs.Links.{IsLink}
use Rattle.wy_paths.specs.Leads.{Leads}
use Rattle.wy_whynot.specs.Evidence.{Evidence}
use Rattle.wy_whynot.specs.Executed.{executed, IsCrossed}
use Rattle.wy_whynot.specs.Items.{AreItems, IsBlocked, IsIdle, links_of}
use Rattle.wy_paths.proofs.Chaining.{leads_append, leads_weaker}
use Rattle.law_reached.specs.Laws.{ExecutedAreReached, IsNeeded}
use Rattle.law_reached.proofs.Contained.{nothing_in, in_head, in_cases, in_right, in_either}

module _ (p : Program) (rs : List Recorded) (covers : List Cover) (n : ℕ) where
  abbrev Blocked : Link → Type 0
  Blocked = IsBlocked p rs covers n

  -- each link that leads on is one of those that are allowed
  each_allowed : (allowed : Link → Type 0) (a c : Point) (ls : List Link) → Leads allowed a ls c → (l : Link) → Contains ls l → allowed l
  each_allowed allowed a c [] h l i = nothing_in l i
  each_allowed allowed a c (k ∷ ls) h l i = ⊎_elim (λ (e : k ≡ l). subst allowed e h.0) (λ (j : Contains ls l). each_allowed allowed k.to c ls h.2 l j) (in_cases k l ls i)

  -- a link of an idle chain begins at a point that was not executed
  idle_source : (a c : Point) (ls : List Link) → executed rs covers a ≡ false → Leads (IsIdle p rs covers) a ls c → (l : Link) → Contains ls l → executed rs covers l.from ≡ false
  idle_source a c [] never h l i = nothing_in l i
  idle_source a c (k ∷ ls) never h l i = ⊎_elim
      (λ (e : k ≡ l). subst (λ (z : Link). executed rs covers z.from ≡ false) e (ap (executed rs covers) h.1 ∙ never))
      (λ (j : Contains ls l). idle_source k.to c ls h.0.1 h.2 l j)
      (in_cases k l ls i)

  not_both : (b : Bool) {X : Type 0} → b ≡ true → b ≡ false → X
  not_both b t f = absurd (cc)

  nonempty : (ks : List Link) (l : Link) (ls : List Link) → ks ++ l ∷ ls ≡ [] → ⊥
  nonempty [] l ls e = cc e
  nonempty (k ∷ ks) l ls e = cc e

  pub needed : ExecutedAreReached p rs covers → (items : List Evidence) → AreItems p rs covers n items → (l : Link) → Contains (links_of items) l → IsNeeded p n items l
  needed reached items are l i =
      let x : Blocked l = (are.blocked.exact l).0 i in
      let before = reached l.from (record { link = l; is_link = x.is_link; is_end = inl refl }) x.begun in
      record {
        chain = before.0 ++ l ∷ x.onward;
        is_chain = record {
          some = nonempty before.0 l x.onward;
          leads = leads_append (IsLink p) point.Start l.from (point.Statement n) before.0 (l ∷ x.onward)
              (leads_weaker (λ k. IsLink p k × IsCrossed p rs covers k) (IsLink p) (λ k h. h.0) point.Start l.from before.0 before.1)
              (x.is_link, refl, leads_weaker (IsIdle p rs covers) (IsLink p) (λ k h. h.0) l.to (point.Statement n) x.onward x.leads);
        };
        has = in_right before.0 (l ∷ x.onward) l (in_head l x.onward);
        alone = λ k j m. alone before.0 x before.1 k j ((are.blocked.exact k).0 m);
      }
    where
      alone : (links : List Link) → (x : Blocked l) → Leads (λ k. IsLink p k × IsCrossed p rs covers k) point.Start links l.from → (k : Link) → Contains (links ++ l ∷ x.onward) k → Blocked k → k ≡ l
      alone links x lead k j y = ⊎_elim
          (λ (h : Contains links k). absurd (y.uncrossed (each_allowed (λ z. IsLink p z × IsCrossed p rs covers z) point.Start l.from links lead k h).1))
          (λ (h : Contains (l ∷ x.onward) k). ⊎_elim (λ (e : l ≡ k). sym e) (λ (g : Contains x.onward k). not_both (executed rs covers k.from) y.begun (idle_source l.to (point.Statement n) x.onward x.never x.leads k g)) (in_cases l k x.onward h))
          (in_either links (l ∷ x.onward) k j)
