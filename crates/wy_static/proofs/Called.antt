-- The methods to which calls lead, while links in order are gone through.
use Rattle.std.proofs.Common.{◌≡◌, ◌≢◌, ℕ, ◌+◌, ◌-◌, ◌<◌, ◌≤◌, false, List, [], ◌∷◌, ◌++◌, length, take, get_or, slice_get, Option, Some, eq-eqb, ne_eqb, refl, sym, ap, ◌∙◌, subst, ⊎_elim, arith, length-append}
use Rattle.std.specs.Prelude.{nat_eq}
use Rattle.std.specs.Prelude.{None as Absent}
use Rattle.std.specs.List.{Contains}
use Rattle.std.specs.List.Sorted.{IsStrictlyIncreasing, IsStrictlySortedBy}
use Rattle.std.specs.Ordering.{nat_cmp, is_gt, ordering_then}
use Rattle.std.specs.declared.cmp.Ordering.{Ordering}
use Rattle.std.specs.declared.cmp.Ordering.TheVariants.{Less, Equal, Greater}
use Rattle.std.proofs.lemmas.Bool.{cases_lt, cases_eq}
use Rattle.std.proofs.lemmas.List.{take_more, append-nil, get_or-take, get_or_default, get_or_append_left, get_or_at, length-take}
use Rattle.std.proofs.lemmas.List.Elements.{Contains-get_or, Contains-append_left, Contains-append_right, Contains-append_cases}
use Rattle.std.proofs.lemmas.Map.Keys.{Less-from_sorted, le_from_not_gt}
use Rattle.std.proofs.lemmas.Option.{slice_get-get_or, slice_get_within, get_or_from_slice_get}
use Rattle.wy_static.specs.declared.point.Point.{Point}
use Rattle.wy_static.specs.declared.point.Point.TheVariants as point
use Rattle.wy_static.specs.declared.point.LinkKind.{LinkKind}
use Rattle.wy_static.specs.declared.point.LinkKind.TheVariants as kind
use Rattle.wy_static.specs.declared.point.Link.{Link}
use Rattle.wy_static.specs.Along.{AreCalledAt, AreCalled, AddsCall, IsBehind, called_by, entry_of, method_called}
use Rattle.wy_static.specs.LookUps.{call_to}
use Rattle.wy_static.specs.Order.{link_cmp}
use Rattle.wy_static.specs.Rows.{Rows, kept_under, last_of, one_if}
use Rattle.wy_static.proofs.Contained.{none, alone, first_in, same_in}

pub none_called : (site : ℕ) (methods : List ℕ) → methods ≡ [] → AreCalledAt [] site methods
none_called site methods e = subst (λ ms. AreCalledAt [] site ms) (sym e) (record {
  exact = λ n. (λ h. absurd (none n h), λ h. absurd (none (call_to site h.0 n) h.1));
  rising = λ k lt. absurd (omega (arith, lt));
})

-- a link that is no call from the site
pub no_call : (front : List Link) (x : Link) (site : ℕ) (methods : List ℕ) → ((from : Point) (n : ℕ) → x ≡ call_to site from n → ⊥) → AreCalledAt front site methods → AreCalledAt (front ++ x ∷ []) site methods
no_call front x site methods other so = record {
  exact = λ n. (
    λ h. let r = (so.exact n).0 h in (r.0, Contains-append_left front (x ∷ []) (call_to site r.0 n) r.1),
    λ h. (so.exact n).1 (h.0, ⊎_elim (λ a. a) (λ b. absurd (other h.0 n (sym (alone x (call_to site h.0 n) b)))) (Contains-append_cases front (x ∷ []) (call_to site h.0 n) h.1)),
  );
  rising = so.rising;
}

method_of_call : {s t m n : ℕ} {f g : Point} → call_to s f m ≡ call_to t g n → m ≡ n
method_of_call e = let to = ap (λ (l : Link). l.to) e in cc

-- a call of a method that is there
pub again : (front : List Link) (x : Link) (from : Point) (site m : ℕ) (methods : List ℕ) → x ≡ call_to site from m → Contains methods m → AreCalledAt front site methods → AreCalledAt (front ++ x ∷ []) site methods
again front x from site m methods is there so = record {
  exact = λ n. (
    λ h. let r = (so.exact n).0 h in (r.0, Contains-append_left front (x ∷ []) (call_to site r.0 n) r.1),
    λ h. ⊎_elim
        (λ a. (so.exact n).1 (h.0, a))
        (λ b. same_in methods m n (sym (method_of_call (alone x (call_to site h.0 n) b ∙ is))) there)
        (Contains-append_cases front (x ∷ []) (call_to site h.0 n) h.1),
  );
  rising = so.rising;
}

get_front : (xs : List ℕ) (m k : ℕ) → k < length xs → get_or (xs ++ m ∷ []) k 0 ≡ get_or xs k 0
get_front xs m k h = get_or_append_left xs (m ∷ []) 0 k h

get_end : (xs : List ℕ) (m : ℕ) → get_or (xs ++ m ∷ []) (length xs) 0 ≡ m
get_end xs m = get_or_at xs m [] 0 (length xs) refl

rises_on : (xs : List ℕ) (m : ℕ) → IsStrictlyIncreasing xs → ((n : ℕ) → Contains xs n → n < m) → IsStrictlyIncreasing (xs ++ m ∷ [])
rises_on xs m up above k here =
    let long : k < length xs = omega (arith, here, length-append xs (m ∷ [])) in
    ⊎_elim
    (λ (lt : k + 1 < length xs). rw (get_front xs m k long, get_front xs m (k + 1) lt) (up k lt))
    (λ (le : length xs ≤ k + 1).
    let last : k + 1 ≡ length xs = omega arith in
    let low : get_or xs k 0 < m = above (get_or xs k 0) (Contains-get_or xs k 0 long) in
    rw (get_front xs m k long, last, get_end xs m) low)
    (cases_lt (k + 1) (length xs))

-- a call of a method above those that are there
pub next : (front : List Link) (x : Link) (from : Point) (site m : ℕ) (methods : List ℕ) → x ≡ call_to site from m → ((n : ℕ) → Contains methods n → n < m) → AreCalledAt front site methods → AreCalledAt (front ++ x ∷ []) site (methods ++ m ∷ [])
next front x from site m methods is above so = record {
  exact = λ n. (
    λ h. ⊎_elim
        (λ a. let r = (so.exact n).0 a in (r.0, Contains-append_left front (x ∷ []) (call_to site r.0 n) r.1))
        (λ b. (from, Contains-append_right front (x ∷ []) (call_to site from n) (same_in (x ∷ []) x (call_to site from n) (is ∙ ap (call_to site from) (sym (alone m n b))) (first_in x []))))
        (Contains-append_cases methods (m ∷ []) n h),
    λ h. ⊎_elim
        (λ a. Contains-append_left methods (m ∷ []) n ((so.exact n).1 (h.0, a)))
        (λ b. Contains-append_right methods (m ∷ []) n (same_in (m ∷ []) m n (sym (method_of_call (alone x (call_to site h.0 n) b ∙ is))) (first_in m [])))
        (Contains-append_cases front (x ∷ []) (call_to site h.0 n) h.1),
  );
  rising = rises_on methods m so.rising above;
}

-- ---- what a link calls

pub is_called : (l : Link) (m : ℕ) → method_called l ≡ Some m → l ≡ call_to l.site l.from m
is_called l m e = λ i. record { kind = call_kind l.kind (entry_of l.to) m e i; from = l.from; to = entry_point l.to m (its_entry l.kind (entry_of l.to) m e) i; site = l.site }
  where
    call_kind : (k : LinkKind) (o : Option ℕ) (m : ℕ) → called_by k o ≡ Some m → k ≡ kind.Call
    call_kind kind.Into o m e = cc
    call_kind kind.Next o m e = cc
    call_kind (kind.Arm v) o m e = cc
    call_kind kind.Call o m e = refl
    call_kind kind.Catch o m e = cc

    its_entry : (k : LinkKind) (o : Option ℕ) (m : ℕ) → called_by k o ≡ Some m → o ≡ Some m
    its_entry kind.Into o m e = cc
    its_entry kind.Next o m e = cc
    its_entry (kind.Arm v) o m e = cc
    its_entry kind.Call o m e = e
    its_entry kind.Catch o m e = cc

    entry_point : (q : Point) (m : ℕ) → entry_of q ≡ Some m → q ≡ point.Entry m
    entry_point point.Start m e = cc
    entry_point (point.Entry n) m e = cc
    entry_point (point.Init n) m e = cc
    entry_point (point.Statement n) m e = cc
    entry_point (point.Arm n v) m e = cc
    entry_point (point.Catch n) m e = cc

-- what calls a method is a call of it
pub calls : (l : Link) (site : ℕ) (from : Point) (n : ℕ) → l ≡ call_to site from n → method_called l ≡ Some n
calls l site from n e = ap method_called e

pub site_of : (l : Link) (site : ℕ) (from : Point) (n : ℕ) → l ≡ call_to site from n → l.site ≡ site
site_of l site from n e = ap (λ (x : Link). x.site) e

-- ---- no method that came is above the next one

not_greater : (o a b c : Ordering) → ordering_then (ordering_then (ordering_then (ordering_then o Equal) a) b) c ≡ Less → is_gt o ≡ false
not_greater Less a b c h = refl
not_greater Equal a b c h = refl
not_greater Greater a b c h = cc

pub not_above : (front : List Link) (x : Link) (m : ℕ) → IsBehind front x → method_called x ≡ Some m → (n : ℕ) (g : Point) → Contains front (call_to x.site g n) → n ≤ m
not_above front x m behind is n g among =
    let apart : link_cmp (call_to x.site g n) (call_to x.site x.from m) ≡ Less = subst (λ y. link_cmp (call_to x.site g n) y ≡ Less) (is_called x m is) (behind (call_to x.site g n) among) in
    le_from_not_gt n m (not_greater (nat_cmp n m) _ _ _ apart)

-- numbers that rise up to one that isn't the next are below it
pub below_next : (methods : List ℕ) (m : ℕ) → IsStrictlyIncreasing methods → ((n : ℕ) → Contains methods n → n ≤ m) → (last_of methods ≡ Some m → ⊥) → (n : ℕ) → Contains methods n → n < m
below_next methods m up le other n h = ⊎_elim
    (λ (e : n ≡ m). absurd (other (is_last methods m up le (same_in methods n m e h))))
    (λ (ne : n ≢ m). let b = le n h in omega (arith, b, ne))
    (cases_eq n m)
  where
    is_last : (methods : List ℕ) (m : ℕ) → IsStrictlyIncreasing methods → ((n : ℕ) → Contains methods n → n ≤ m) → Contains methods m → last_of methods ≡ Some m
    is_last methods m up le (k, lt, read) = ⊎_elim
        (λ (lt2 : k + 1 < length methods).
        let a : get_or methods k 0 < get_or methods (k + 1) 0 = up k lt2 in
        let b : get_or methods (k + 1) 0 ≤ m = le (get_or methods (k + 1) 0) (Contains-get_or methods (k + 1) 0 lt2) in
        let c : get_or methods k 0 ≡ m = get_or_default methods k 0 m lt ∙ read in
        absurd (omega (arith, a, b, c)))
        (λ (past : length methods ≤ k + 1).
        let last : length methods - 1 ≡ k = omega arith in
        ap (slice_get methods) last ∙ slice_get-get_or methods k m lt ∙ ap Some read)
        (cases_lt (k + 1) (length methods))

-- ---- one link more

-- a link that calls nothing
pub adds_nothing : (rows : Rows) (x : Link) → method_called x ≡ Absent → AddsCall rows rows x
adds_nothing rows x none front behind so site = no_call front x site (kept_under rows site) (λ from n e. let h = calls x site from n e in cc) (so site)

last_in : (xs : List ℕ) (m : ℕ) → last_of xs ≡ Some m → Contains xs m
last_in xs m e = let at = slice_get_within xs (length xs - 1) m e in (length xs - 1, at, get_or_from_slice_get xs (length xs - 1) m m e)

-- a call of the method that is last
pub adds_none : (rows : Rows) (x : Link) (m : ℕ) → method_called x ≡ Some m → last_of (kept_under rows x.site) ≡ Some m → AddsCall rows rows x
adds_none rows x m is last front behind so site = ⊎_elim
    (λ (e : x.site ≡ site).
    let there : Contains (kept_under rows site) m = subst (λ s. Contains (kept_under rows s) m) e (last_in (kept_under rows x.site) m last) in
    again front x x.from site m (kept_under rows site) (is_called x m is ∙ ap (λ s. call_to s x.from m) e) there (so site))
    (λ (ne : x.site ≢ site). no_call front x site (kept_under rows site) (λ from n h. ne (site_of x site from n h)) (so site))
    (cases_eq x.site site)

-- a call of another method
pub adds_one : (rows now : Rows) (x : Link) (m : ℕ) → method_called x ≡ Some m → (last_of (kept_under rows x.site) ≡ Some m → ⊥) → ((q : ℕ) → kept_under now q ≡ kept_under rows q ++ one_if (nat_eq x.site q) m) → AddsCall rows now x
adds_one rows now x m is other put front behind so site = ⊎_elim
    (λ (e : x.site ≡ site).
    let grown : kept_under now site ≡ kept_under rows site ++ m ∷ [] = put site ∙ ap (λ b. kept_under rows site ++ one_if b m) (eq-eqb x.site site e) in
    let upto : (n : ℕ) → Contains (kept_under rows site) n → n ≤ m = λ n h. (
    let r = ((so site).exact n).0 h in
    not_above front x m behind is n r.0 (subst (λ s. Contains front (call_to s r.0 n)) (sym e) r.1)) in
    let below : (n : ℕ) → Contains (kept_under rows site) n → n < m = below_next (kept_under rows site) m (so site).rising upto (λ l. other (ap (λ s. last_of (kept_under rows s)) e ∙ l)) in
    subst (λ ms. AreCalledAt (front ++ x ∷ []) site ms) (sym grown) (next front x x.from site m (kept_under rows site) (is_called x m is ∙ ap (λ s. call_to s x.from m) e) below (so site)))
    (λ (ne : x.site ≢ site).
    let same : kept_under now site ≡ kept_under rows site = put site ∙ ap (λ b. kept_under rows site ++ one_if b m) (ne_eqb x.site site ne) ∙ append-nil (kept_under rows site) in
    subst (λ ms. AreCalledAt (front ++ x ∷ []) site ms) (sym same) (no_call front x site (kept_under rows site) (λ from n h. ne (site_of x site from n h)) (so site)))
    (cases_eq x.site site)

-- what stands before a link in order is behind it
pub behind_at : (links : List Link) (i : ℕ) (x : Link) → IsStrictlySortedBy link_cmp links → i < length links → x ≡ get_or links i x → IsBehind (take i links) x
behind_at links i x sorted here at y (k, lt, read) =
    let low : k < i = omega (arith, lt, length-take i links) in
    let first : get_or links k y ≡ y = sym (get_or-take i links k y low) ∙ read in
    let second : get_or links i y ≡ x = get_or_default links i y x here ∙ sym at in
    sym (λ j. link_cmp (first j) (second j)) ∙ Less-from_sorted link_cmp links k i y sorted low here

pub one_more : (links : List Link) (i : ℕ) (x : Link) (rows now : Rows) → IsStrictlySortedBy link_cmp links → i < length links → x ≡ get_or links i x → AreCalled (take i links) rows → AddsCall rows now x → AreCalled (take (i + 1) links) now
one_more links i x rows now sorted here at so adds =
    let more : take (i + 1) links ≡ take i links ++ x ∷ [] = take_more links i x here ∙ ap (λ y. take i links ++ y ∷ []) (sym at) in
    subst (λ front. AreCalled front now) (sym more) (adds (take i links) (behind_at links i x sorted here at) so)
