-- Links along a way, and along some ways one after another.
use Rattle.std.proofs.Common.{◌≡◌, Result, Ok, Err, OnOk, ℕ, ◌+◌, ◌<◌, List, [], ◌∷◌, ◌++◌, length, take, get_or, refl, sym, ap, ◌∙◌, subst, inl, inr, ⊎_elim}
use Rattle.std.specs.List.{Contains}
use Rattle.std.proofs.lemmas.List.{take_more}
use Rattle.std.proofs.lemmas.List.Elements.{Contains-append_left, Contains-append_right, Contains-append_cases}
use Rattle.wy_kernel.specs.Program.{Program}
use Rattle.wy_static.specs.declared.point.Point.{Point}
use Rattle.wy_static.specs.declared.point.Point.TheVariants as point
use Rattle.wy_static.specs.declared.point.Link.{Link}
use Rattle.wy_static.specs.declared.way.Goal.TheVariants.{Known, Chosen}
use Rattle.wy_static.specs.declared.way.Way.{Way}
use Rattle.wy_static.specs.Along.{AddsAlong, AreAlong, link_along, links_to_each}
use Rattle.wy_static.specs.Links.{IsAlong, Meets}
use Rattle.wy_static.specs.Receivers.{AreTargetsOf}
use Rattle.wy_static.proofs.Contained.{none, alone, first_in, same_in, in_map, of_map}

-- a link along a way is the one to its own target
only_link : (p : Program) (w : Way) (l : Link) → IsAlong p w l → l ≡ link_along w l.to
only_link p w l a = λ i. record { kind = a.kind i; from = a.from i; to = l.to; site = a.site i }

is_along : (p : Program) (w : Way) (l : Link) (q : Point) → l ≡ link_along w q → Meets p w.goal q → IsAlong p w l
is_along p w l q e m = subst (λ x. IsAlong p w x) (sym e) (record { kind = refl; from = refl; site = refl; to = m })

pub known : (p : Program) (w : Way) (r : Point) (old new : List Link) → w.goal ≡ Known r → new ≡ old ++ link_along w r ∷ [] → AddsAlong p w old new
known p w r old new goal grown l =
    let meets : (q : Point) → Meets p w.goal q → q ≡ r = λ q m. subst (λ g. Meets p g q) goal m in
    let back : Meets p w.goal r = subst (λ g. Meets p g r) (sym goal) refl in (
      λ h. ⊎_elim (λ a. inl a) (λ b. inr (is_along p w l r (alone (link_along w r) l b) back)) (Contains-append_cases old (link_along w r ∷ []) l (subst (λ xs. Contains xs l) grown h)),
      λ h. subst (λ xs. Contains xs l) (sym grown) (⊎_elim
          (λ a. Contains-append_left old (link_along w r ∷ []) l a)
          (λ b. Contains-append_right old (link_along w r ∷ []) l (same_in (link_along w r ∷ []) (link_along w r) l (ap (link_along w) (sym (meets l.to b.to)) ∙ sym (only_link p w l b)) (first_in (link_along w r) [])))
          h),
    )

pub chosen : (p : Program) (w : Way) (m d : ℕ) (methods : List ℕ) (old new : List Link) → w.goal ≡ Chosen m d → AreTargetsOf p m d methods → new ≡ old ++ links_to_each w methods → AddsAlong p w old new
chosen p w m d methods old new goal targets grown l = (
  λ h. ⊎_elim
      (λ a. inl a)
      (λ b. let r = of_map (λ n. link_along w (point.Entry n)) methods l b in
      inr (is_along p w l (point.Entry r.0) r.2 (subst (λ g. Meets p g (point.Entry r.0)) (sym goal) (r.0, (targets r.0).0 r.1, refl))))
      (Contains-append_cases old (links_to_each w methods) l (subst (λ xs. Contains xs l) grown h)),
  λ h. subst (λ xs. Contains xs l) (sym grown) (⊎_elim
      (λ a. Contains-append_left old (links_to_each w methods) l a)
      (λ b. let t = subst (λ g. Meets p g l.to) goal b.to in
      Contains-append_right old (links_to_each w methods) l (same_in (links_to_each w methods) (link_along w (point.Entry t.0)) l (ap (link_along w) (sym t.2) ∙ sym (only_link p w l b)) (in_map (λ n. link_along w (point.Entry n)) methods t.0 ((targets t.0).1 t.1))))
      h),
)

-- ---- one way more

pub begun : (p : Program) (ways : List Way) → ways ≡ [] → AreAlong p ways []
begun p ways e l = (λ h. absurd (none l h), λ a. absurd (none a.way (subst (λ ws. Contains ws a.way) e a.among)))

pub one_more : (p : Program) (ways : List Way) (i : ℕ) (w : Way) (old new : List Link) → i < length ways → w ≡ get_or ways i w → AreAlong p (take i ways) old → AddsAlong p w old new → AreAlong p (take (i + 1) ways) new
one_more p ways i w old new lt is so adds l =
    let more : take (i + 1) ways ≡ take i ways ++ w ∷ [] = take_more ways i w lt ∙ ap (λ x. take i ways ++ x ∷ []) (sym is) in (
      λ h. ⊎_elim
          (λ a. let r = (so l).0 a in record { way = r.way; among = subst (λ ws. Contains ws r.way) (sym more) (Contains-append_left (take i ways) (w ∷ []) r.way r.among); along = r.along })
          (λ b. record { way = w; among = subst (λ ws. Contains ws w) (sym more) (Contains-append_right (take i ways) (w ∷ []) w (first_in w [])); along = b })
          ((adds l).0 h),
      λ h. (adds l).1 (⊎_elim
          (λ a. inl ((so l).1 (record { way = h.way; among = a; along = h.along })))
          (λ b. inr (subst (λ x. IsAlong p x l) (alone w h.way b) h.along))
          (Contains-append_cases (take i ways) (w ∷ []) h.way (subst (λ ws. Contains ws h.way) more h.among))),
    )

pub on_ok : {A B : Type 0} {U E : Type 0} (r : Result U E) → (A → B) → OnOk r A → OnOk r B
on_ok (Ok u) f h = f h
on_ok (Err x) f h = h
