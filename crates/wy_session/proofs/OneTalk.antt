-- An input has one session, where a line has one answer.
use Rattle.std.proofs.Common.{◌≡◌, sym, ap, refl, subst, ℕ, List, [], ◌∷◌, ◌++◌, length, zero, append_assoc, length-append, Some, None, arith}
use Rattle.std.specs.List.{Contains}
use Rattle.std.specs.Io.BufRead.{strip_last}
use Rattle.std.proofs.lemmas.List.Elements.{Contains-append_right}
use Rattle.wy_explore.specs.Session.{Session, begun}
use Rattle.wy_session.specs.Scene.{Said, Scene}
use Rattle.wy_session.specs.Talk.{Ends, FirstLine, Fits, Reaches, Talks, over, quit, long_line, long_input, ended, last, start, line, talks}
use Rattle.wy_session.specs.Laws.{OneSaid, OneTalkOf}

-- ---- the first line

first_here : (bytes : List ℕ) → Contains (10 ∷ bytes) 10
first_here bytes = (zero, omega arith, refl)

head_same : (a b : ℕ) (x y : List ℕ) → a ∷ x ≡ b ∷ y → (a ≡ b) × (x ≡ y)
head_same a b x y e = (cc, cc)

later : (a : ℕ) (x : List ℕ) → ¬ Contains (a ∷ x) 10 → ¬ Contains x 10
later a x un has = un (Contains-append_right (a ∷ []) x 10 has)

-- a list is cut at its first line feed in one way
one_cut : (b c r s : List ℕ) → b ++ (10 ∷ r) ≡ c ++ (10 ∷ s) → ¬ Contains b 10 → ¬ Contains c 10 → (b ≡ c) × (r ≡ s)
one_cut [] [] r s e un also = (refl, (head_same 10 10 r s e).1)
one_cut [] (y ∷ c) r s e un also = absurd (also (subst (λ (z : ℕ). Contains (z ∷ c) 10) (head_same 10 y r (c ++ (10 ∷ s)) e).0 (first_here c)))
one_cut (x ∷ b) [] r s e un also = absurd (un (subst (λ (z : ℕ). Contains (z ∷ b) 10) (sym (head_same x 10 (b ++ (10 ∷ r)) s e).0) (first_here b)))
one_cut (x ∷ b) (y ∷ c) r s e un also =
    let h = head_same x y (b ++ (10 ∷ r)) (c ++ (10 ∷ s)) e in
    let t = one_cut b c r s h.1 (later x b un) (later y c also) in
    ((λ i. h.0 i ∷ t.0 i), t.1)

has_feed : (b r : List ℕ) → Contains (b ++ (10 ∷ r)) 10
has_feed b r = Contains-append_right b (10 ∷ r) 10 (first_here r)

pub record SameLine (b c l k r s : List ℕ) : Type 0 where
  pub bytes : b ≡ c
  pub line : l ≡ k
  pub behind : r ≡ s

one_first : (x y b c l k r s : List ℕ) → x ≡ y → FirstLine x b l r → FirstLine y c k s → SameLine b c l k r s
one_first _ _ _ _ _ _ _ _ e (ended b r un) (ended c s also) = let h = one_cut b c r s e un also in record { bytes = h.0; line = ap (strip_last 13) h.0; behind = h.1 }
one_first _ _ _ _ _ _ _ _ e (ended b r un) (last c some also) = absurd (also (subst (λ (z : List ℕ). Contains z 10) e (has_feed b r)))
one_first _ _ _ _ _ _ _ _ e (last b some un) (ended c s also) = absurd (un (subst (λ (z : List ℕ). Contains z 10) (sym e) (has_feed c s)))
one_first _ _ _ _ _ _ _ _ e (last b some un) (last c any also) = record { bytes = e; line = e; behind = refl }

first_some : (x b l r : List ℕ) → FirstLine x b l r → x ≡ [] → ⊥
first_some _ _ _ _ (ended b r un) none = let e : length (b ++ (10 ∷ r)) ≡ 0 = ap length none in omega (arith, e, length-append b (10 ∷ r))
first_some _ _ _ _ (last b some un) none = some none

-- ---- the end

-- from there it goes on over this line
pub record Goes (x : Scene) (input : List ℕ) (s t : Session) (rest behind reply : List ℕ) : Type 0 where
  pub bytes : List ℕ
  pub line : List ℕ
  pub fits : Fits input rest bytes line behind
  pub said : Said x s line t (Some reply)

ends_or_goes : (x : Scene) → OneSaid x → (input : List ℕ) (s t : Session) (z rest behind reply : List ℕ) (m : ℕ) (a : List ℕ) → z ≡ rest → Ends x input s z m a → Goes x input s t rest behind reply → ⊥
ends_or_goes x one input s t _ rest behind reply _ _ e over g = first_some rest g.bytes g.line behind g.fits.first (sym e)
ends_or_goes x one input s t _ rest behind reply _ _ e (quit u z b l r fits said) g =
    let h = one_first z rest b g.bytes l g.line r behind e fits.first g.fits.first in
    let n = (one s g.line u t None (Some reply) (subst (λ (w : List ℕ). Said x s w u None) h.line said) g.said).1 in cc
ends_or_goes x one input s t _ rest behind reply _ _ e (long_line z b l r first long) g =
    let h = one_first z rest b g.bytes l g.line r behind e first g.fits.first in omega (arith, long, ap length h.bytes, g.fits.short)
ends_or_goes x one input s t _ rest behind reply _ _ e (long_input z b l r first short long) g =
    let h = one_first z rest b g.bytes l g.line r behind e first g.fits.first in omega (arith, long, ap length h.behind, g.fits.within)

one_end : (x : Scene) → OneSaid x → (input : List ℕ) (s : Session) (y z : List ℕ) (m n : ℕ) (a b : List ℕ) → y ≡ z → Ends x input s y m a → Ends x input s z n b → (m ≡ n) × (a ≡ b)
one_end x one input s _ _ _ _ _ _ e over over = (refl, refl)
one_end x one input s _ _ _ _ _ _ e over (quit u z b l r fits said) = absurd (first_some z b l r fits.first (sym e))
one_end x one input s _ _ _ _ _ _ e over (long_line z b l r first long) = absurd (first_some z b l r first (sym e))
one_end x one input s _ _ _ _ _ _ e over (long_input z b l r first short long) = absurd (first_some z b l r first (sym e))
one_end x one input s _ _ _ _ _ _ e (quit u y b l r fits said) over = absurd (first_some y b l r fits.first e)
one_end x one input s _ _ _ _ _ _ e (quit u y b l r fits said) (quit v z c k q also told) = (refl, refl)
one_end x one input s _ _ _ _ _ _ e (quit u y b l r fits said) (long_line z c k q first long) = absurd (let h = one_first y z b c l k r q e fits.first first in omega (arith, long, ap length h.bytes, fits.short))
one_end x one input s _ _ _ _ _ _ e (quit u y b l r fits said) (long_input z c k q first short long) = absurd (let h = one_first y z b c l k r q e fits.first first in omega (arith, long, ap length h.behind, fits.within))
one_end x one input s _ _ _ _ _ _ e (long_line y b l r first long) over = absurd (first_some y b l r first e)
one_end x one input s _ _ _ _ _ _ e (long_line y b l r first long) (quit v z c k q also told) = absurd (let h = one_first y z b c l k r q e first also.first in omega (arith, long, ap length h.bytes, also.short))
one_end x one input s _ _ _ _ _ _ e (long_line y b l r first long) (long_line z c k q also more) = (refl, refl)
one_end x one input s _ _ _ _ _ _ e (long_line y b l r first long) (long_input z c k q also short more) = absurd (let h = one_first y z b c l k r q e first also in omega (arith, long, ap length h.bytes, short))
one_end x one input s _ _ _ _ _ _ e (long_input y b l r first short long) over = absurd (first_some y b l r first e)
one_end x one input s _ _ _ _ _ _ e (long_input y b l r first short long) (quit v z c k q also told) = absurd (let h = one_first y z b c l k r q e first also.first in omega (arith, long, ap length h.behind, also.within))
one_end x one input s _ _ _ _ _ _ e (long_input y b l r first short long) (long_line z c k q also more) = absurd (let h = one_first y z b c l k r q e first also in omega (arith, more, ap length h.bytes, short))
one_end x one input s _ _ _ _ _ _ e (long_input y b l r first short long) (long_input z c k q also little more) = (refl, refl)

-- ---- the whole

-- what is still written from there
pub data Runs (x : Scene) (input : List ℕ) : Session → List ℕ → ℕ → List ℕ → Type 0 where
  ends : (s : Session) (rest : List ℕ) (m : ℕ) (a : List ℕ) → Ends x input s rest m a → Runs x input s rest m a
  goes : (s t : Session) (rest behind reply : List ℕ) (m : ℕ) (a : List ℕ) → Goes x input s t rest behind reply → Runs x input t behind m a → Runs x input s rest m (reply ++ a)

some_same : (a b : List ℕ) → Some a ≡ Some b → a ≡ b
some_same a b e = cc

one_run : (x : Scene) → OneSaid x → (input : List ℕ) (s t : Session) (y z : List ℕ) (m n : ℕ) (a b : List ℕ) → s ≡ t → y ≡ z → Runs x input s y m a → Runs x input t z n b → (m ≡ n) × (a ≡ b)
one_run x one input _ _ _ _ _ _ _ _ same e (ends s y m a is) (ends t z n b also) = one_end x one input s y z m n a b e is (subst (λ (w : Session). Ends x input w z n b) (sym same) also)
one_run x one input _ _ _ _ _ _ _ _ same e (ends s y m a is) (goes t u z r reply n b g more) =
    absurd (ends_or_goes x one input s u y z r reply m a e is (record { bytes = g.bytes; line = g.line; fits = g.fits; said = subst (λ (w : Session). Said x w g.line u (Some reply)) (sym same) g.said }))
one_run x one input _ _ _ _ _ _ _ _ same e (goes s u y r reply m a g more) (ends t z n b also) =
    absurd (ends_or_goes x one input t u z y r reply n b (sym e) also (record { bytes = g.bytes; line = g.line; fits = g.fits; said = subst (λ (w : Session). Said x w g.line u (Some reply)) same g.said }))
one_run x one input _ _ _ _ _ _ _ _ same e (goes s u y r reply m a g more) (goes t v z q other n b h rest) =
    let f = one_first y z g.bytes h.bytes g.line h.line r q e g.fits.first h.fits.first in
    let said = one t h.line u v (Some reply) (Some other) (subst (λ (l : List ℕ). Said x t l u (Some reply)) f.line (subst (λ (w : Session). Said x w g.line u (Some reply)) same g.said)) h.said in
    let is = one_run x one input u v r q m n a b said.0 f.behind more rest in
    let text : reply ≡ other = some_same reply other said.1 in
    (is.0, (λ i. text i ++ is.1 i))

from_start : (x : Scene) (input : List ℕ) (s : Session) (rest said : List ℕ) (m : ℕ) (a : List ℕ) → Reaches x input s rest said → Runs x input s rest m a → Runs x input begun input m (said ++ a)
from_start x input _ _ _ m a start runs = runs
from_start x input _ _ _ m a (line s t rest bytes l behind said reply before fits is) runs =
    subst (Runs x input begun input m) (sym (append_assoc said reply a))
    (from_start x input s rest said m (reply ++ a) before (goes s t rest behind reply m a (record { bytes = bytes; line = l; fits = fits; said = is }) runs))

whole : (x : Scene) (input : List ℕ) (m : ℕ) (a : List ℕ) → Talks x input m a → Runs x input begun input m a
whole x input _ _ (talks s rest said more m reaches is) = from_start x input s rest said m more reaches (ends s rest m more is)

pub one_talk_of : (x : Scene) → OneSaid x → OneTalkOf x
one_talk_of x one input m n a b first second = one_run x one input begun begun input input m n a b refl refl (whole x input m a first) (whole x input n b second)
