-- The members of a class, one after another: with which texts a body was left says nothing.
use Rattle.std.proofs.Common.{◌≡◌, ap, sym, ◌∙◌, ℕ, ◌+◌, ◌<◌, ◌≤◌, List, [], ◌∷◌, map, drop, length, get_or, refl, Option, Result, Ok, Err}
use Rattle.std.specs.Prelude.{None}
use Rattle.std.proofs.Math.ListN.{drop_of_length-le}
use Rattle.wy_syntax.specs.Syntax as source
use Rattle.wy_syntax.specs.declared.declaration.Member as memory_member
use Rattle.wy_syntax.specs.View.{member_of}
use Rattle.wy_constant.specs.declared.rule.TypeError.{TypeError}
use Rattle.wy_constant.specs.declared.rule.TypeError.TheVariants as error
use Rattle.wy_constant.specs.Refusal.{Refusal, Fails, refused}
use Rattle.wy_constant.specs.Scope.{FixedText}
use Rattle.wy_elab_expr.specs.Meaning.{Gets, give, onward}
use Rattle.wy_elab_stmt.specs.declared.growth.Growth as memory
use Rattle.wy_elab_body.specs.Making.{with_texts}
use Rattle.wy_elab_body.specs.Statements.{Setting}
use Rattle.wy_elab_body.specs.Bodies.{Growing, Growth}
use Rattle.wy_kernel.specs.Program.{Body}
use Rattle.wy_elab_stmt.specs.Classes.{ClassBodies, member, members, none_yet, implied_constructor, finished, of_class, of_interface}
use Rattle.wy_elab_stmt.specs.ClassViews.{at_rest, both_left, growth_of}
use Rattle.wy_elab_body.proofs.Walks

-- the texts with which the two bodies that grow were left
pub record Stale : Type 0 where
  pub first : List FixedText
  pub second : List FixedText

with_stale : Stale → Growing → Growing → Growth → Growth
with_stale s a b g = record g { initializer = record a { making = with_texts a.making s.first }; fields = record b { making = with_texts b.making s.second } }

renewed : Stale → Result (Growth × List FixedText) Refusal → Result (Growth × List FixedText) Refusal
renewed s (Ok p) = Ok (with_stale s p.0.initializer p.0.fields p.0, p.1)
renewed s (Err e) = Err e

stale_of : Growth → Stale
stale_of g = record { first = g.initializer.making.texts; second = g.fields.making.texts }

pub from_rest : (r : Result (Growth × List FixedText) Refusal) (g : memory.Growth) (after : List FixedText) → at_rest r ≡ Ok (growth_of g [] [], after) →
    (s : Stale) × (r ≡ Ok (growth_of g s.first s.second, after))
unfolding with_stale renewed stale_of
from_rest (Ok p) g after is = (stale_of p.0, ap (renewed (stale_of p.0)) is)
from_rest (Err e) g after is = absurd (cc is)

pub fails_from_rest : (r : Result (Growth × List FixedText) Refusal) (e : TypeError) → Fails e (at_rest r) → Fails e r
fails_from_rest r error.NoMemory is = tt
fails_from_rest (Ok p) (error.Broken rule token) is = absurd (cc is)
fails_from_rest (Err f) (error.Broken rule token) is = is

-- ---- one member more

along : (w : Setting) (c : ℕ) (k : source.ClassSyntax) (g : Growth) (m : source.Member) (rest : List source.Member) (texts : List FixedText) →
    members w c k g (m ∷ rest) texts ≡ onward (λ next. members w c k next rest) (member w c k g m texts)
unfolding members
along w c k g m rest texts = refl

next_here : (ys : List memory_member.Member) (i : ℕ) (y : memory_member.Member) → i < length ys → y ≡ get_or ys i y → map member_of (drop i ys) ≡ member_of y ∷ map member_of (drop (i + 1) ys)
next_here ys i y less at = ap (map member_of) (Walks.next_here ys i y less at)

pub goes_on : (w : Setting) (c : ℕ) (k : source.ClassSyntax) (old new : memory.Growth) (ys : List memory_member.Member) (i : ℕ) (y : memory_member.Member) (s : Stale) (texts after : List FixedText)
    (r : Result (Growth × List FixedText) Refusal) → i < length ys → y ≡ get_or ys i y →
    at_rest (member w c k (growth_of old s.first s.second) (member_of y) texts) ≡ Ok (growth_of new [] [], after) →
    members w c k (growth_of old s.first s.second) (map member_of (drop i ys)) texts ≡ r →
    (t : Stale) × (members w c k (growth_of new t.first t.second) (map member_of (drop (i + 1) ys)) after ≡ r)
goes_on w c k old new ys i y s texts after r less at is known =
    let made = from_rest (member w c k (growth_of old s.first s.second) (member_of y) texts) new after is in
    let rest = map member_of (drop (i + 1) ys) in (
      made.0,
      sym (ap (λ z. members w c k (growth_of old s.first s.second) z texts) (next_here ys i y less at)
          ∙ along w c k (growth_of old s.first s.second) (member_of y) rest texts
          ∙ ap (onward (λ next. members w c k next rest)) made.1) ∙ known,
    )

pub stops : (w : Setting) (c : ℕ) (k : source.ClassSyntax) (old : memory.Growth) (ys : List memory_member.Member) (i : ℕ) (y : memory_member.Member) (s : Stale) (e : TypeError) (texts : List FixedText)
    (r : Result (Growth × List FixedText) Refusal) → i < length ys → y ≡ get_or ys i y →
    Fails e (at_rest (member w c k (growth_of old s.first s.second) (member_of y) texts)) →
    members w c k (growth_of old s.first s.second) (map member_of (drop i ys)) texts ≡ r → Fails e (at_rest r)
stops w c k old ys i y s error.NoMemory texts r less at is known = tt
stops w c k old ys i y s (error.Broken rule token) texts r less at is known =
    let rest = map member_of (drop (i + 1) ys) in
    ap at_rest (sym known ∙ ap (λ z. members w c k (growth_of old s.first s.second) z texts) (next_here ys i y less at)
    ∙ along w c k (growth_of old s.first s.second) (member_of y) rest texts
    ∙ ap (onward (λ next. members w c k next rest)) (fails_from_rest (member w c k (growth_of old s.first s.second) (member_of y) texts) (error.Broken rule token) is))

pub ends : (w : Setting) (c : ℕ) (k : source.ClassSyntax) (g : memory.Growth) (ys : List memory_member.Member) (i : ℕ) (s : Stale) (texts : List FixedText)
    (r : Result (Growth × List FixedText) Refusal) → length ys ≤ i →
    members w c k (growth_of g s.first s.second) (map member_of (drop i ys)) texts ≡ r → at_rest r ≡ Ok (growth_of g [] [], texts)
unfolding members
ends w c k g ys i s texts r less known =
    sym (ap at_rest known) ∙ ap (λ z. at_rest (members w c k (growth_of g s.first s.second) (map member_of z) texts)) (drop_of_length-le ys less)

-- the members in memory are those that are written

pub all_made : (w : Setting) (c : ℕ) (k : source.ClassSyntax) (start : Growth) (old new : memory.Growth) (slice : List memory_member.Member) (ms : List source.Member) (texts after : List FixedText) →
    growth_of old [] [] ≡ start → map member_of slice ≡ ms → at_rest (members w c k (growth_of old [] []) (map member_of slice) texts) ≡ Ok (growth_of new [] [], after) →
    at_rest (members w c k start ms texts) ≡ Ok (growth_of new [] [], after)
all_made w c k start old new slice ms texts after begins same is =
    ap (λ g. at_rest (members w c k g ms texts)) (sym begins) ∙ ap (λ z. at_rest (members w c k (growth_of old [] []) z texts)) (sym same) ∙ is

pub all_refused : (w : Setting) (c : ℕ) (k : source.ClassSyntax) (start : Growth) (old : memory.Growth) (slice : List memory_member.Member) (ms : List source.Member) (texts : List FixedText) (e : TypeError) →
    growth_of old [] [] ≡ start → map member_of slice ≡ ms → Fails e (at_rest (members w c k (growth_of old [] []) (map member_of slice) texts)) → Fails e (at_rest (members w c k start ms texts))
all_refused w c k start old slice ms texts error.NoMemory begins same is = tt
all_refused w c k start old slice ms texts (error.Broken rule token) begins same is =
    ap (λ g. at_rest (members w c k g ms texts)) (sym begins) ∙ ap (λ z. at_rest (members w c k (growth_of old [] []) z texts)) (sym same) ∙ is

-- ---- what is made of all members

-- what looks only at what both bodies say, and not at the texts with which they were left
done : {B : Type 0} (h : Growth → B) → ((g : Growth) → h (both_left g) ≡ h g) → (r : Result (Growth × List FixedText) Refusal) (g : memory.Growth) (after : List FixedText) →
    at_rest r ≡ Ok (growth_of g [] [], after) → onward (λ x. give (h x)) r ≡ Ok (h (growth_of g [] []), after)
done h same (Ok p) g after is = ap (λ x. Ok (x, p.1)) (sym (same p.0)) ∙ ap (onward (λ x. give (h x))) is
done h same (Err e) g after is = absurd (cc is)

not_done : {B : Type 0} (f : Growth → Gets B) (r : Result (Growth × List FixedText) Refusal) (e : TypeError) → Fails e (at_rest r) → Fails e (onward f r)
not_done f r error.NoMemory is = tt
not_done f r (error.Broken rule token) is = ap (onward f) (fails_from_rest r (error.Broken rule token) is)

then_refused : {A B : Type 0} (f : A → Gets B) (r : Result (A × List FixedText) Refusal) (x : A) (texts : List FixedText) (e : TypeError) → r ≡ Ok (x, texts) → Fails e (f x texts) → Fails e (onward f r)
then_refused f r x texts error.NoMemory is refused = tt
then_refused f r x texts (error.Broken rule token) is refused = ap (onward f) is ∙ refused

pub class_made : (w : Setting) (c : ℕ) (k : source.ClassSyntax) (implied : List (Option Body)) (g : memory.Growth) (texts between after : List FixedText) →
    implied_constructor w c k texts ≡ Ok (implied, between) → at_rest (members w c k (none_yet c k) k.members between) ≡ Ok (growth_of g [] [], after) →
    of_class w c k texts ≡ Ok (finished w k implied (growth_of g [] []), after)
class_made w c k implied g texts between after first is =
    ap (onward (λ x. λ t. onward (λ y. give (finished w k x y)) (members w c k (none_yet c k) k.members t))) first
    ∙ done (finished w k implied) (λ y. refl) (members w c k (none_yet c k) k.members between) g after is

pub class_refused : (w : Setting) (c : ℕ) (k : source.ClassSyntax) (implied : List (Option Body)) (texts between : List FixedText) (e : TypeError) →
    implied_constructor w c k texts ≡ Ok (implied, between) → Fails e (at_rest (members w c k (none_yet c k) k.members between)) → Fails e (of_class w c k texts)
class_refused w c k implied texts between e first is =
    then_refused (λ x. λ t. onward (λ y. give (finished w k x y)) (members w c k (none_yet c k) k.members t)) (implied_constructor w c k texts) implied between e first
    (not_done (λ y. give (finished w k implied y)) (members w c k (none_yet c k) k.members between) e is)

abbrev pub interface_bodies : Growth → ClassBodies
interface_bodies g = record { bodies = g.bodies; initializer = None }

pub interface_made : (w : Setting) (c : ℕ) (k : source.ClassSyntax) (g : memory.Growth) (texts after : List FixedText) →
    at_rest (members w c k (none_yet c k) k.members texts) ≡ Ok (growth_of g [] [], after) →
    of_interface w c k texts ≡ Ok (interface_bodies (growth_of g [] []), after)
interface_made w c k g texts after is = done interface_bodies (λ y. refl) (members w c k (none_yet c k) k.members texts) g after is

pub interface_refused : (w : Setting) (c : ℕ) (k : source.ClassSyntax) (texts : List FixedText) (e : TypeError) →
    Fails e (at_rest (members w c k (none_yet c k) k.members texts)) → Fails e (of_interface w c k texts)
interface_refused w c k texts e is = not_done (λ y. give (interface_bodies y)) (members w c k (none_yet c k) k.members texts) e is
