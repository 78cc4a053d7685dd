-- Paths of links, and what is on them.
use Rattle.std.proofs.Common.{◌≡◌, ◌⊎◌, ◌∙◌, ◌++◌, ◌∷◌, [], inl, inr, ⊎_elim, Bool, true, false, List, refl, sym, ap, subst}
use Rattle.std.specs.List.{Contains}
use Rattle.wy_static.specs.declared.point.Point.{Point}
use Rattle.wy_static.specs.declared.point.Link.{Link}
use Rattle.wy_paths.specs.Frontier.{IsFrontier, IsUnmet}
use Rattle.wy_paths.specs.Leads.{Leads}
use Rattle.wy_paths.proofs.Sorting.{in_head, in_tail}

true-false : (b : Bool) {A : Type 0} → b ≡ true → b ≡ false → A
true-false b h k = absurd (cc)

pub leads_append : (allowed : Link → Type 0) (p q r : Point) (ks ls : List Link) → Leads allowed p ks q → Leads allowed q ls r → Leads allowed p (ks ++ ls) r
leads_append allowed p q r [] ls a b = subst (λ x. Leads allowed x ls r) (sym a) b
leads_append allowed p q r (k ∷ ks) ls a b = (a.0, a.1, leads_append allowed k.to q r ks ls a.2 b)

-- one link more
pub leads_on : (allowed : Link → Type 0) (p : Point) (ks : List Link) (l : Link) → Leads allowed p ks l.from → allowed l → Leads allowed p (ks ++ l ∷ []) l.to
leads_on allowed p ks l c h = leads_append allowed p l.from l.to ks (l ∷ []) c (h, refl, refl)

pub leads_weaker : (allowed also : Link → Type 0) → ((l : Link) → allowed l → also l) → (p q : Point) (ls : List Link) → Leads allowed p ls q → Leads also p ls q
leads_weaker allowed also h p q [] c = c
leads_weaker allowed also h p q (l ∷ ls) c = (h l c.0, c.1, leads_weaker allowed also h l.to q ls c.2)

-- a frontier by links that are allowed exactly where others are
pub frontier_also : (allowed also : Link → Type 0) (met : Point → Bool) (start goal : Point) → ((l : Link) → allowed l → also l)
    → (l : Link) → IsFrontier allowed met start goal l → IsFrontier also met start goal l
frontier_also allowed also met start goal h l f = record {
  is_link = h l f.is_link;
  begun = f.begun;
  before = f.before;
  reached = leads_weaker allowed also h start l.from f.before f.reached;
  never = f.never;
  onward = f.onward;
  leads = leads_weaker (IsUnmet allowed met) (IsUnmet also met) (λ k i. (h k i.0, i.1)) l.to goal f.onward f.leads;
}

-- ---- a path from what was met to what was not

module _ (allowed : Link → Type 0) (met : Point → Bool) (start goal : Point) where
  -- what is found along a path: a link of the frontier, or that none of it was met
  abbrev Found : Point → List Link → Type 0
  Found q ls = ((l : Link) × Contains ls l × IsFrontier allowed met start goal l) ⊎ ((met q ≡ false) × Leads (IsUnmet allowed met) q ls goal)

  -- a link into points that were not met is of the frontier where its source was
  here : (q : Point) (ks : List Link) (l : Link) (ls : List Link) → allowed l → l.from ≡ q → Leads allowed start ks q
      → (met l.to ≡ false) × Leads (IsUnmet allowed met) l.to ls goal → (b : Bool) → met l.from ≡ b → Found q (l ∷ ls)
  here q ks l ls is_link from before idle true e =
      inl (
        l,
        in_head l ls,
        record {
          is_link = is_link;
          begun = e;
          before = ks;
          reached = subst (Leads allowed start ks) (sym from) before;
          never = idle.0;
          onward = ls;
          leads = idle.1;
        },
      )
  here q ks l ls is_link from before idle false e = inr (ap met (sym from) ∙ e, ((is_link, idle.0), from, idle.1))

  found_along : met goal ≡ false → (q : Point) (ks ls : List Link) → Leads allowed start ks q → Leads allowed q ls goal → Found q ls
  found_along never q ks [] before c = inr (ap met c ∙ never, c)
  found_along never q ks (l ∷ ls) before c =
      let from_start : Leads allowed start ks l.from = subst (Leads allowed start ks) (sym c.1) before in
      ⊎_elim
      (λ (h : (k : Link) × Contains ls k × IsFrontier allowed met start goal k). inl (h.0, in_tail l h.0 ls h.1, h.2))
      (λ (h : (met l.to ≡ false) × Leads (IsUnmet allowed met) l.to ls goal). here q ks l ls c.0 c.1 before h (met l.from) refl)
      (found_along never l.to (ks ++ l ∷ []) ls (leads_on allowed start ks l from_start c.0) c.2)

  -- every path from what was met to what was not has a link of the frontier in it
  pub cut : met goal ≡ false → met start ≡ true → (path : List Link) → Leads allowed start path goal
      → (l : Link) × Contains path l × IsFrontier allowed met start goal l
  cut never begun path c = ⊎_elim (λ h. h) (λ h. true-false (met start) begun h.0) (found_along never start [] path refl c)

  -- a path goes through each link of the frontier
  pub path_through : (l : Link) (f : IsFrontier allowed met start goal l) → Leads allowed start (f.before ++ l ∷ f.onward) goal
  path_through l f =
      leads_append allowed start l.from goal f.before (l ∷ f.onward) f.reached
      (f.is_link, refl, leads_weaker (IsUnmet allowed met) allowed (λ k h. h.0) l.to goal f.onward f.leads)
