-- Methods with one signature have one group: the place of the signature among those that were met.
use Rattle.std.proofs.Common.{◌≡◌, ℕ, zero, suc, ◌<◌, ◌≤◌, ◌+◌, Bool, true, false, ◌&&◌, List, [], ◌∷◌, ◌++◌, length, Option, Some, slice_get, string_bytes, refl, sym, ap, subst, ◌∙◌, arith, below_more, cond, if◌then◌else◌, IsTrue, ◌↔◌, rules, ◌⊎◌, inl, inr}
use Rattle.std.specs.Prelude.{map}
use Rattle.std.specs.List.{list_any, position_or_len}
use Rattle.std.specs.Str.{bytes_eq}
use Rattle.std.proofs.lemmas.List.{length-append}
use Rattle.std.proofs.lemmas.List.Folds.{position_or_len_push}
use Rattle.std.proofs.lemmas.Bool.{eq-eqb, ne_eqb, cases_eq}
use Rattle.std.proofs.lemmas.Option.{slice_get_within}
use Rattle.std.proofs.lemmas.Slice.Eq.{bytes_eq-Decides}
use lib.Dec.{eqb}
use lib.Pointwise.{pointwise}
use Rattle.indexmap.specs.IndexSet.{insert_key}
use Rattle.wy_kernel.specs.declared.types.Ty.{Ty}
use Rattle.wy_kernel.specs.contracts.types.TyPartialEq.TheImpl as type_value
use Rattle.wy_kernel.specs.Program.{Method}
use Rattle.wy_table.specs.Listed.{AlikeTogether}
use Rattle.wy_table.specs.Methods.{IsAlike}
use Rattle.wy_table.specs.declared.methods.Signature.{Signature}
use Rattle.wy_table.specs.contracts.methods.SignaturePartialEq.TheImpl.{eq-value}

abbrev pub same : Signature → Signature → Bool
same = eq-value.it

-- the group of method k is the place of its signature among these
pub record IsGrouped (keys : List Signature) (groups : List ℕ) (k : ℕ) (m : Method) : Type 0 where
  pub signature : Signature
  pub name : string_bytes signature.name ≡ m.name
  pub params : signature.params.items ≡ m.params
  pub group : slice_get groups k ≡ Some (position_or_len (same signature) keys)
  pub known : position_or_len (same signature) keys < length keys

abbrev pub GroupedUpTo : List Method → ℕ → List Signature → List ℕ → Type 0
GroupedUpTo methods n keys groups = (length groups ≡ n) × ((k : ℕ) (m : Method) → k < n → slice_get methods k ≡ Some m → IsGrouped keys groups k m)

same_place : (p : Signature → Bool) (keys : List Signature) (x : Signature) (b : Bool) → position_or_len p keys < length keys →
    (position_or_len p (if b then keys else keys ++ x ∷ []) ≡ position_or_len p keys) × (position_or_len p keys < length (if b then keys else keys ++ x ∷ []))
same_place p keys x true lt = (refl, lt)
same_place p keys x false lt =
    let n = position_or_len p keys in
    let apart : eqb n (length keys) ≡ false = ne_eqb n (length keys) (λ e. omega arith) in
    (position_or_len_push p keys x ∙ ap (λ b. cond b (length keys + cond (p x) 0 1) n) apart, (let long = length-append keys (x ∷ []) in omega arith))

own_place : (p : Signature → Bool) (keys : List Signature) (x : Signature) (b : Bool) → p x ≡ true → position_or_len p (if b then keys else keys ++ x ∷ []) ≡ position_or_len p keys
own_place p keys x true here = refl
own_place p keys x false here =
    let n = position_or_len p keys in
    elim (cases_eq n (length keys)) [
      | inl e ↦ position_or_len_push p keys x ∙ ap (λ b. cond b (length keys + cond (p x) 0 1) n) (eq-eqb n (length keys) e) ∙ ap (λ b. length keys + cond b 0 1) here ∙ (let z : length keys + 0 ≡ n = omega arith in z)
      | inr ne ↦ position_or_len_push p keys x ∙ ap (λ b. cond b (length keys + cond (p x) 0 1) n) (ne_eqb n (length keys) ne)
    ]

in_front : (xs ys : List ℕ) (i x : ℕ) → slice_get xs i ≡ Some x → slice_get (xs ++ ys) i ≡ Some x
in_front [] ys i x e = absurd (cc)
in_front (z ∷ zs) ys zero x e = e
in_front (z ∷ zs) ys (suc i) x e = in_front zs ys i x e

at_end : (xs : List ℕ) (x n : ℕ) → length xs ≡ n → slice_get (xs ++ x ∷ []) n ≡ Some x
at_end [] x zero e = refl
at_end [] x (suc n) e = absurd (omega arith)
at_end (z ∷ zs) x zero e = absurd (omega arith)
at_end (z ∷ zs) x (suc n) e = at_end zs x n (omega arith)

test : List ℕ → List Ty → Signature → Bool
test name params key = bytes_eq name (string_bytes key.name) && pointwise type_value.eq-value.it params key.params.items

as_test : (a : Signature) → same a ≡ test (string_bytes a.name) a.params.items
unfolding test
as_test a = refl

congruent : (a b : Signature) → string_bytes a.name ≡ string_bytes b.name → a.params.items ≡ b.params.items → same a ≡ same b
congruent a b e f = as_test a ∙ ap (λ name. test name a.params.items) e ∙ ap (test (string_bytes b.name)) f ∙ sym (as_test b)

type_itself : (a : Ty) → type_value.eq-value.it a a ≡ true
type_itself a = let f : IsTrue (type_value.eq-value.it a a) ↔ (a ≡ a) = search rules in f.1 refl

types_themselves : (a : List Ty) → pointwise type_value.eq-value.it a a ≡ true
types_themselves [] = refl
types_themselves (x ∷ xs) = ap (λ b. b && pointwise type_value.eq-value.it xs xs) (type_itself x) ∙ types_themselves xs

itself : (a : Signature) → same a a ≡ true
itself a = ap (λ b. b && pointwise type_value.eq-value.it a.params.items a.params.items) ((bytes_eq-Decides (string_bytes a.name) (string_bytes a.name)).1 refl) ∙ types_themselves a.params.items

pub grouped_one : (methods : List Method) (n : ℕ) (keys new : List Signature) (groups all : List ℕ) (s : Signature) (m : Method) (group : ℕ) → GroupedUpTo methods n keys groups →
    slice_get methods n ≡ Some m → string_bytes s.name ≡ m.name → s.params.items ≡ m.params → group ≡ position_or_len (same s) keys → group < length new → new ≡ insert_key same keys s → all ≡ groups ++ group ∷ [] →
    GroupedUpTo methods (n + 1) new all
grouped_one methods n keys new groups all s m group before is name params at within grown pushed = (
  ap length pushed ∙ length-append groups (group ∷ []) ∙ (let e = before.0 in let z : length groups + 1 ≡ n + 1 = omega arith in z),
  λ k x lt there. below_more (λ i. (y : Method) → slice_get methods i ≡ Some y → IsGrouped new all i y) n (λ i less y e. kept i y less (before.1 i y less e)) here k lt x there,
)
  where
    kept : (i : ℕ) (y : Method) → i < n → IsGrouped keys groups i y → IsGrouped new all i y
    kept i y less g =
        let p = same_place (same g.signature) keys s (list_any (same s) keys) g.known in
        let place : position_or_len (same g.signature) new ≡ position_or_len (same g.signature) keys = ap (position_or_len (same g.signature)) grown ∙ p.0 in
        record {
          signature = g.signature;
          name = g.name;
          params = g.params;
          group = ap (λ xs. slice_get xs i) pushed ∙ in_front groups (group ∷ []) i _ g.group ∙ ap (λ x. Some x) (sym place);
          known = (let longer : position_or_len (same g.signature) keys < length new = subst (λ ks. position_or_len (same g.signature) keys < length ks) (sym grown) p.1 in omega arith);
        }

    here : (y : Method) → slice_get methods n ≡ Some y → IsGrouped new all n y
    here y e =
        let one : m ≡ y = (let f : Some m ≡ Some y = sym is ∙ e in cc) in
        let place : position_or_len (same s) new ≡ position_or_len (same s) keys = ap (position_or_len (same s)) grown ∙ own_place (same s) keys s (list_any (same s) keys) (itself s) in
        record {
          signature = s;
          name = name ∙ ap (λ (x : Method). x.name) one;
          params = params ∙ ap (λ (x : Method). x.params) one;
          group = ap (λ xs. slice_get xs n) pushed ∙ at_end groups group n before.0 ∙ ap (λ x. Some x) (at ∙ sym place);
          known = omega arith;
        }

pub alike_together : (methods : List Method) (keys : List Signature) (groups : List ℕ) → GroupedUpTo methods (length methods) keys groups → AlikeTogether methods groups
alike_together methods keys groups all = record {
  a_group_a_method = all.0;
  together = λ j k m other is is' alike. (
      let a = all.1 j m (slice_get_within methods j m is) is in
      let b = all.1 k other (slice_get_within methods k other is') is' in
      let name : string_bytes a.signature.name ≡ string_bytes b.signature.name = a.name ∙ sym alike.0 ∙ sym b.name in
      let params : a.signature.params.items ≡ b.signature.params.items = a.params ∙ sym alike.1 ∙ sym b.params in
      a.group ∙ ap (λ p. Some (position_or_len p keys)) (congruent a.signature b.signature name params) ∙ sym b.group);
}
