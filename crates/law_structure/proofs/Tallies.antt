-- What is counted among the places of a class is counted among those of its bodies.
use Rattle.std.proofs.Common.{◌≡◌, ◌∙◌, refl, sym, ap, cond, arith, add-one, zero-add, add_assoc, ℕ, suc, ◌+◌, Bool, true, false, not, ◌&&◌, if◌then◌else◌, List, [], ◌∷◌, ◌++◌}
use Rattle.std.specs.Prelude.{Some, None, is_some, map, flat_map, count_by}
use Rattle.std.specs.List.{list_any, enumerate_from}
use Rattle.std.proofs.lemmas.Bool.{or_parts}
use Rattle.std.proofs.lemmas.List.Recursion.{is_count_by}
use Rattle.wy_kernel.specs.Table.{Table}
use Rattle.wy_syntax.specs.Syntax.{Declarator, Member, ClassSyntax}
use Rattle.wy_syntax.specs.Syntax as source
use Rattle.wy_elab_body.specs.declared.place.Place.{Place}
use Rattle.wy_elab_body.specs.declared.place.Role.TheVariants.{InitializerBody, FieldsBody, Written}
use Rattle.wy_elab_body.specs.Places.{at, written, block_places, all_places, has_fields_unit, place_if, first_calls, initialized_places, member_places, implied_constructor_places, class_places}
use Rattle.wy_members.specs.Declarations.{initializes_objects, is_given_first}
use Rattle.wy_elab_stmt.specs.Classes.{is_static}
use Rattle.law_structure.proofs.Dense.{tally}
use Rattle.law_structure.proofs.ClassMarks.{static_places, instance_places, own_places, initializer_places, fields_places, class_body_places, initialized_first}

pub tally_both : {X : Type 0} (f : X → Bool) (xs ys : List X) → tally f (xs ++ ys) ≡ tally f xs + tally f ys
tally_both f [] ys = sym (zero-add (tally f ys))
tally_both f (x ∷ xs) ys = ap (λ n. cond (f x) 1 0 + n) (tally_both f xs ys) ∙ sym (add_assoc (cond (f x) 1 0) (tally f xs) (tally f ys))

counted : (b : Bool) (n : ℕ) → cond b 1 0 + n ≡ cond b (1 + n) n
counted true n = refl
counted false n = zero-add n

pub tally_is : {X : Type 0} (f : X → Bool) (xs : List X) → tally f xs ≡ count_by f xs
tally_is f xs = is_count_by (tally f) f refl (λ x ys. counted (f x) (tally f ys)) xs

pub tally_map : {X Y : Type 0} (f : Y → Bool) (g : X → Y) (xs : List X) → tally f (map g xs) ≡ tally (λ x. f (g x)) xs
tally_map f g [] = refl
tally_map f g (x ∷ xs) = ap (λ n. cond (f (g x)) 1 0 + n) (tally_map f g xs)

-- ---- members

fields_tally : (f : Place → Bool) (b : Bool) (qs : List Place) → tally f qs ≡ tally f (if b then qs else []) + tally f (if b then [] else qs) + 0
fields_tally f true qs = omega arith
fields_tally f false qs = omega arith

swapped : (a b c l r m n : ℕ) → l ≡ a + m → m ≡ b + c → r ≡ b + n → n ≡ a + c → l ≡ 0 + 0 + r
swapped a b c l r m n d e g h = omega arith

constructor_tally : (f : Place → Bool) (calls brace parts : List Place) → tally f (calls ++ (brace ++ parts)) ≡ 0 + 0 + tally f (brace ++ (calls ++ parts))
constructor_tally f calls brace parts =
    swapped (tally f calls) (tally f brace) (tally f parts) _ _ _ _ (tally_both f calls (brace ++ parts)) (tally_both f brace parts) (tally_both f brace (calls ++ parts)) (tally_both f calls parts)

first_only : (a : ℕ) → a ≡ a + 0 + 0
first_only a = omega arith

second_only : (a : ℕ) → a ≡ 0 + a + 0
second_only a = omega arith

third_only : (a : ℕ) → a ≡ 0 + 0 + a
third_only a = omega arith

pub member_tally : (f : Place → Bool) (t : Table) (c : ℕ) (k : ClassSyntax) (m : Member) → tally f (member_places t c k m) ≡ tally f (static_places m) + tally f (instance_places m) + tally f (own_places t c k m)
unfolding member_places
member_tally f t c k (source.Initializer true b) = first_only (tally f (block_places b))
member_tally f t c k (source.Initializer false b) = second_only (tally f (block_places b))
member_tally f t c k (source.Fields ms ty all) = fields_tally f (is_static ms) (initialized_places all)
member_tally f t c k (source.Method h result None) = refl
member_tally f t c k (source.Method h result (Some b)) = third_only (tally f (block_places b))
member_tally f t c k (source.Constructor h own brace parts end) = constructor_tally f (first_calls t c k h.name.token own) (written brace ∷ []) (all_places parts)
member_tally f t c k source.Member.Nothing = refl
member_tally f t c k source.Member.Unknown = refl

all_sums : (m s i o ms ss is os am at ai ao : ℕ) → m ≡ s + i + o → ms ≡ ss + is + os → am ≡ m + ms → at ≡ s + ss → ai ≡ i + is → ao ≡ o + os → am ≡ at + ai + ao
all_sums m s i o ms ss is os am at ai ao a b c d e g = omega arith

members_tally : (f : Place → Bool) (t : Table) (c : ℕ) (k : ClassSyntax) (ms : List Member) →
    tally f (flat_map (member_places t c k) ms) ≡ tally f (flat_map static_places ms) + tally f (flat_map instance_places ms) + tally f (flat_map (own_places t c k) ms)
members_tally f t c k [] = refl
members_tally f t c k (m ∷ rest) =
    all_sums (tally f (member_places t c k m)) (tally f (static_places m)) (tally f (instance_places m)) (tally f (own_places t c k m))
    (tally f (flat_map (member_places t c k) rest)) (tally f (flat_map static_places rest)) (tally f (flat_map instance_places rest)) (tally f (flat_map (own_places t c k) rest)) _ _ _ _
    (member_tally f t c k m) (members_tally f t c k rest)
    (tally_both f (member_places t c k m) (flat_map (member_places t c k) rest)) (tally_both f (static_places m) (flat_map static_places rest))
    (tally_both f (instance_places m) (flat_map instance_places rest)) (tally_both f (own_places t c k m) (flat_map (own_places t c k) rest))

-- ---- where there are no instance initializers

none_given : (all : List Declarator) → list_any is_given_first all ≡ false → initialized_places all ≡ []
none_given [] e = refl
none_given (d ∷ rest) e =
    let parts = or_parts (is_some d.initial) (list_any is_given_first rest) e in
    initialized_first d rest ∙ (λ i. place_if (parts.0 i) d.name.token Written ++ none_given rest parts.1 i)

no_fields : (b c : Bool) (qs : List Place) → (not b && c) ≡ false → (c ≡ false → qs ≡ []) → (if b then [] else qs) ≡ []
no_fields true c qs e h = refl
no_fields false true qs e h = absurd cc
no_fields false false qs e h = h refl

no_instance : (m : Member) → initializes_objects m ≡ false → instance_places m ≡ []
no_instance (source.Initializer true b) e = refl
no_instance (source.Initializer false b) e = absurd cc
no_instance (source.Fields ms ty all) e = no_fields (is_static ms) (list_any is_given_first all) (initialized_places all) e (none_given all)
no_instance (source.Method h result body) e = refl
no_instance (source.Constructor h own brace parts end) e = refl
no_instance source.Member.Nothing e = refl
no_instance source.Member.Unknown e = refl

no_instances : (ms : List Member) → list_any initializes_objects ms ≡ false → flat_map instance_places ms ≡ []
no_instances [] e = refl
no_instances (m ∷ rest) e = let parts = or_parts (initializes_objects m) (list_any initializes_objects rest) e in λ i. no_instance m parts.0 i ++ no_instances rest parts.1 i

-- ---- classes

-- an interface has no bodies
abbrev pub Bodiless : ClassSyntax → Type 0
Bodiless k = k.is_interface ≡ true → (t : Table) (c : ℕ) → flat_map (own_places t c k) k.members ≡ []

class_sum : (head unit ctor members static instance own all rest front fields body init : ℕ) →
    members ≡ static + instance + own → all ≡ head + rest → rest ≡ front + members → front ≡ unit + ctor → fields ≡ unit + instance → body ≡ fields + ctor + own → init ≡ head + static → all ≡ init + body
class_sum head unit ctor members static instance own all rest front fields body init a b c d e g h = omega arith

fields_sum : (f : Place → Bool) (k : ClassSyntax) → tally f (fields_places k) ≡ tally f (place_if (has_fields_unit k) k.name.token FieldsBody) + tally f (flat_map instance_places k.members)
fields_sum f k = by (has_fields_unit k) (no_instances k.members)
  where
    by : (b : Bool) → (b ≡ false → flat_map instance_places k.members ≡ []) → tally f (if b then at k.name.token FieldsBody ∷ flat_map instance_places k.members else []) ≡ tally f (place_if b k.name.token FieldsBody) + tally f (flat_map instance_places k.members)
    by true h = tally_both f (at k.name.token FieldsBody ∷ []) (flat_map instance_places k.members)
    by false h = sym (zero-add (tally f (flat_map instance_places k.members)) ∙ ap (tally f) (h refl))

body_sum : (f : Place → Bool) (xs ys zs : List Place) → tally f (xs ++ ys ++ zs) ≡ tally f xs + tally f ys + tally f zs
body_sum f xs ys zs = tally_both f (xs ++ ys) zs ∙ ap (λ n. n + tally f zs) (tally_both f xs ys)

pub class_tally : (f : Place → Bool) (t : Table) (c : ℕ) (k : ClassSyntax) → Bodiless k → tally f (class_places t c k) ≡ tally f (initializer_places k) + tally f (class_body_places t c k)
unfolding class_places
class_tally f t c k free = by k.is_interface (λ e. free e t c)
  where
    by : (b : Bool) → (b ≡ true → flat_map (own_places t c k) k.members ≡ []) →
        tally f (if b then [] else at k.name.token InitializerBody ∷ (place_if (has_fields_unit k) k.name.token FieldsBody ++ implied_constructor_places t c k ++ flat_map (member_places t c k) k.members))
        ≡ tally f (if b then [] else at k.name.token InitializerBody ∷ flat_map static_places k.members) + tally f (if b then flat_map (own_places t c k) k.members else fields_places k ++ implied_constructor_places t c k ++ flat_map (own_places t c k) k.members)
    by true h = sym (ap (λ qs. 0 + tally f qs) (h refl))
    by false h =
        let fs = place_if (has_fields_unit k) k.name.token FieldsBody in
        let cs = implied_constructor_places t c k in
        let ms = flat_map (member_places t c k) k.members in
        let head = at k.name.token InitializerBody ∷ [] in
        class_sum (tally f head) (tally f fs) (tally f cs) (tally f ms) (tally f (flat_map static_places k.members)) (tally f (flat_map instance_places k.members)) (tally f (flat_map (own_places t c k) k.members)) _ _ _ (tally f (fields_places k)) _ _
        (members_tally f t c k k.members) (tally_both f head (fs ++ cs ++ ms)) (tally_both f (fs ++ cs) ms) (tally_both f fs cs) (fields_sum f k)
        (body_sum f (fields_places k) cs (flat_map (own_places t c k) k.members)) (tally_both f head (flat_map static_places k.members))

-- ---- classes one after another

abbrev pub all_initializers : List ClassSyntax → List Place
all_initializers [] = []
all_initializers (k ∷ rest) = initializer_places k ++ all_initializers rest

abbrev pub all_bodies : Table → ℕ → List ClassSyntax → List Place
all_bodies t c [] = []
all_bodies t c (k ∷ rest) = class_body_places t c k ++ all_bodies t (suc c) rest

abbrev pub AllBodiless : List ClassSyntax → Type 0
AllBodiless [] = Unit {0}
AllBodiless (k ∷ rest) = Bodiless k × AllBodiless rest

abbrev pub all_class_places : Table → ℕ → List ClassSyntax → List Place
all_class_places t c ks = flat_map (λ p. class_places t p.0 p.1) (enumerate_from c ks)

next_class : (t : Table) (c : ℕ) (k : ClassSyntax) (rest : List ClassSyntax) → all_class_places t c (k ∷ rest) ≡ class_places t c k ++ all_class_places t (suc c) rest
next_class t c k rest = ap (λ n. class_places t c k ++ all_class_places t n rest) (add-one c)

both_sums : (k ks i is b bs all ais abs : ℕ) → k ≡ i + b → ks ≡ is + bs → all ≡ k + ks → ais ≡ i + is → abs ≡ b + bs → all ≡ ais + abs
both_sums k ks i is b bs all ais abs d e f g h = omega arith

pub classes_tally : (f : Place → Bool) (t : Table) (c : ℕ) (ks : List ClassSyntax) → AllBodiless ks → tally f (all_class_places t c ks) ≡ tally f (all_initializers ks) + tally f (all_bodies t c ks)
classes_tally f t c [] free = refl
classes_tally f t c (k ∷ rest) free =
    both_sums (tally f (class_places t c k)) (tally f (all_class_places t (suc c) rest)) (tally f (initializer_places k)) (tally f (all_initializers rest)) (tally f (class_body_places t c k)) (tally f (all_bodies t (suc c) rest)) _ _ _
    (class_tally f t c k free.0) (classes_tally f t (suc c) rest free.1)
    (ap (tally f) (next_class t c k rest) ∙ tally_both f (class_places t c k) (all_class_places t (suc c) rest))
    (tally_both f (initializer_places k) (all_initializers rest)) (tally_both f (class_body_places t c k) (all_bodies t (suc c) rest))
