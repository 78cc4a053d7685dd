-- In the body of each method of the library every site is that of the method.
use Rattle.std.proofs.Common.{arith, ◌≡◌, refl, subst, zero-add, ℕ, zero, suc, ◌+◌, ◌<◌, List, [], ◌∷◌, ◌++◌, length}
use Rattle.std.specs.Prelude.{Option, Some, slice_get, codes}
use Rattle.std.proofs.lemmas.List.Elements.{All-nil, All-cons}
use Rattle.wy_kernel.specs.Form.{Statements, done}
use Rattle.wy_kernel.specs.Program.{Body, string_class, object_class}
use Rattle.wy_kernel.specs.Program as part
use Rattle.wy_kernel.specs.Builtin.{method_site, throwable_class}
use Rattle.wy_library.specs.Library.{library_local, body_of, object_to_string, object_equals, plain_throwable, throwable_with_message, get_message, throwable_to_string, plain_constructor, constructor_with_message, library_bodies}
use Rattle.wy_typing.specs.Sites.{LocalsSited, BodySited}
use Rattle.law_sites.proofs.SitedStatements.{PartsSited}
use Rattle.law_sites.proofs.SitedClasses.{SomeBodySited}

-- the site is that of the method
abbrev pub IsAt : ℕ → ℕ → Type 0
IsAt m site = site ≡ method_site m

abbrev OwnBody : ℕ → Option Body → Type 0
OwnBody m b = SomeBodySited (IsAt m) b

-- bodies of methods one after another, the first of which has this number
data OwnBodies : ℕ → List (Option Body) → Type 0 where
  no_more : {m : ℕ} → OwnBodies m []
  own : {m : ℕ} {b : Option Body} {rest : List (Option Body)} → OwnBody m b → OwnBodies (suc m) rest → OwnBodies m (b ∷ rest)

made : (m number class : ℕ) (others : List part.Local) (parts : Statements) → LocalsSited (IsAt m) others → PartsSited (IsAt m) parts → OwnBody m (body_of m number class others parts)
made m number class others parts h i = record { block = ((refl, tt), i); locals = All-cons (λ (l : part.Local). IsAt m l.site) (library_local m (codes "this") class) others refl h; end = refl }

none_else : (m : ℕ) → LocalsSited (IsAt m) []
none_else m = All-nil (λ (l : part.Local). IsAt m l.site)

one_else : (m : ℕ) (name : List ℕ) (class : ℕ) → LocalsSited (IsAt m) (library_local m name class ∷ [])
one_else m name class = All-cons (λ (l : part.Local). IsAt m l.site) (library_local m name class) [] refl (none_else m)

-- ---- Object and Throwable

to_string_own : OwnBody 0 object_to_string
to_string_own = made 0 0 object_class [] _ (none_else 0) ((refl, (refl, (tt, tt))), tt)

equals_own : OwnBody 1 object_equals
equals_own = made 1 2 object_class _ _ (one_else 1 (codes "o") object_class) ((refl, (refl, tt, tt)), tt)

plain_own : OwnBody 2 plain_throwable
plain_own = made 2 4 throwable_class [] done (none_else 2) tt

message_own : OwnBody 3 throwable_with_message
message_own = made 3 5 throwable_class _ _ (one_else 3 (codes "m") string_class) ((refl, (refl, (refl, tt), tt)), tt)

get_own : OwnBody 4 get_message
get_own = made 4 7 throwable_class [] _ (none_else 4) ((refl, (refl, tt)), tt)

text_own : OwnBody 5 throwable_to_string
text_own = made 5 9 throwable_class _ _ (one_else 5 (codes "text") string_class) (
  (refl, (refl, tt, (refl, tt, tt))),
  (
    (refl, (refl, tt, tt)),
    ((refl, (refl, (tt, tt))), ((refl, (refl, (refl, (refl, (tt, tt)), tt), tt)), tt)),
  ),
)

-- ---- the constructors of each class below Throwable

constructor_own : (c m d : ℕ) → OwnBody m (plain_constructor c m d)
constructor_own c m d = made m _ c [] _ (none_else m) ((refl, (refl, tt, tt)), tt)

with_message_own : (c m d : ℕ) → OwnBody m (constructor_with_message c m d)
with_message_own c m d = made m _ c _ _ (one_else m (codes "m") string_class) ((refl, (refl, tt, (tt, tt))), tt)

-- both of a class, before the rest
below : (c m : ℕ) {d e : ℕ} {rest : List (Option Body)} → OwnBodies (suc (suc m)) rest → OwnBodies m (plain_constructor c m d ∷ constructor_with_message c (suc m) e ∷ rest)
below c m {d} {e} h = own (constructor_own c m d) (own (with_message_own c (suc m) e) h)

bodies_own : OwnBodies 0 library_bodies
unfolding library_bodies
bodies_own =
    own to_string_own (own equals_own (own plain_own (own message_own (own get_own (own text_own
    (below 3 6 (below 4 8 (below 5 10 (below 6 12 (below 7 14 (below 8 16 (below 9 18 (below 10 20
    (below 11 22 (below 12 24 (below 13 26 (below 14 28 (below 15 30 (below 16 32 (below 17 34 no_more))))))))))))))))))))

-- ---- where a body stands

own_at : (n : ℕ) (bs : List (Option Body)) (k : ℕ) (b : Body) → OwnBodies n bs → slice_get bs k ≡ Some (Some b) → BodySited (IsAt (n + k)) b
own_at n _ k b no_more e = absurd cc
own_at n (x ∷ rest) zero b (own h more) e = let same : x ≡ Some b = cc in let place : n ≡ n + zero = omega arith in subst (λ m. BodySited (IsAt m) b) place (subst (OwnBody n) same h)
own_at n (x ∷ rest) (suc k) b (own h more) e = let place : suc n + k ≡ n + suc k = omega arith in subst (λ m. BodySited (IsAt m) b) place (own_at (suc n) rest k b more e)

in_front : (bs behind : List (Option Body)) (k : ℕ) (b : Body) → k < length bs → slice_get (bs ++ behind) k ≡ Some (Some b) → slice_get bs k ≡ Some (Some b)
in_front [] behind k b h e = absurd (omega arith)
in_front (x ∷ rest) behind zero b h e = e
in_front (x ∷ rest) behind (suc k) b h e = in_front rest behind k b (omega arith) e

pub library_sited : (behind : List (Option Body)) (k : ℕ) (b : Body) → k < length library_bodies → slice_get (library_bodies ++ behind) k ≡ Some (Some b) → BodySited (IsAt k) b
library_sited behind k b h e = subst (λ m. BodySited (IsAt m) b) (zero-add k) (own_at 0 library_bodies k b bodies_own (in_front library_bodies behind k b h e))
