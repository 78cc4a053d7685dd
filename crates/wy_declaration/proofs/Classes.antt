-- Classes and interfaces by the shape of their parts.
use Rattle.std.proofs.Common.{◌≡◌, ℕ, zero, suc, ◌+◌, ◌-◌, ◌<◌, ◌≤◌, true, false, List, [], ◌∷◌, ◌++◌, map, length, take, refl, ap, sym, ◌∙◌, arith}
use Rattle.wy_tree.specs.declared.kind.Kind.TheVariants as kinds
use Rattle.wy_syntax.specs.Syntax as plain
use Rattle.wy_syntax.specs.Names.{is_leaf}
use Rattle.wy_syntax.specs.Declarations.{Part, Parts, names_behind, member_seen, members_in, method_in, methods_in, behind_brace, implemented_in}
use Rattle.wy_syntax.specs.View.{member_of}
use Rattle.wy_syntax.specs.declared.declaration.Member.{Member}
use Rattle.wy_declaration.proofs.Rows.{grown}

-- ---- members of a class

pub members_go : (found more : List Member) (d : Member) (ps qs rest : Parts) (p q : Part) (all : List plain.Member)
    → more ≡ found ++ (d ∷ []) → ps ≡ p ∷ qs → qs ≡ q ∷ rest → member_of d ≡ member_seen p.at p.entity
    → map member_of found ++ members_in ps ≡ all → map member_of more ++ members_in qs ≡ all
unfolding members_in
members_go found more d ps qs rest p q all eg shape after ed h =
    grown member_of found more d (member_seen p.at p.entity) _ all eg ed (ap (λ r. map member_of found ++ r) (sym (rw (shape, after) refl)) ∙ h)

pub members_alone : (ps qs : Parts) (p : Part) → ps ≡ p ∷ qs → qs ≡ [] → members_in ps ≡ []
unfolding members_in
members_alone ps qs p shape after = rw (shape, after) refl

pub members_end : (ps : Parts) → ps ≡ [] → members_in ps ≡ []
unfolding members_in
members_end ps shape = rw shape refl

-- ---- methods of an interface

-- the parts in front of others
abbrev front : Parts → ℕ → Parts
front ps k = take (length ps - k) ps

front_none : (ps : Parts) → front ps (length ps) ≡ []
front_none ps = let e : length ps - length ps ≡ 0 = omega arith in ap (λ k. take k ps) e

front_more : (k : ℕ) (ps : Parts) (p : Part) (rest : Parts) → take k ps ++ (p ∷ rest) ≡ ps → k < length ps → take (suc k) ps ≡ take k ps ++ (p ∷ [])
front_more zero [] p rest e low = absurd (omega (arith, low))
front_more zero (x ∷ xs) p rest e low = ap (λ z. z ∷ []) (head_same x p xs rest (sym e))
  where
    head_same : (a b : Part) (left right : Parts) → a ∷ left ≡ b ∷ right → a ≡ b
    head_same a b left right e = cc
front_more (suc k) [] p rest e low = absurd (omega (arith, low))
front_more (suc k) (x ∷ xs) p rest e low = ap (λ z. x ∷ z) (front_more k xs p rest (tail_same e) (omega (arith, low)))
  where
    tail_same : x ∷ (take k xs ++ (p ∷ rest)) ≡ x ∷ xs → take k xs ++ (p ∷ rest) ≡ xs
    tail_same e = cc

-- the parts seen of a method, and those that are left
pub record Seen (all left : Parts) (k : ℕ) : Type 0 where
  pub whole : front all k ++ left ≡ all
  pub methods : methods_in (front all k) left ≡ methods_in [] all
  pub count : k ≡ length left
  pub within : k ≤ length all

pub seen_begin : (all : Parts) (k : ℕ) → k ≡ length all → Seen all all k
seen_begin all k ek = record {
  whole = ap (λ z. front all z ++ all) ek ∙ ap (λ z. z ++ all) (front_none all);
  methods = ap (λ z. methods_in (front all z) all) ek ∙ ap (λ z. methods_in z all) (front_none all);
  count = ek;
  within = omega (arith, ek);
}

next_front : (all left rest : Parts) (p : Part) (k m : ℕ) → Seen all left k → left ≡ p ∷ rest → k ≡ m + 1 → front all m ≡ front all k ++ (p ∷ [])
next_front all left rest p k m h shape ek =
    let e : length all - m ≡ suc (length all - k) = omega (arith, h.within) in
    ap (λ z. take z all) e
    ∙ front_more (length all - k) all p rest (ap (λ z. front all k ++ z) (sym shape) ∙ h.whole) (omega (arith, h.within))

append_one : (xs : Parts) (p : Part) (rest : Parts) → (xs ++ (p ∷ [])) ++ rest ≡ xs ++ (p ∷ rest)
append_one [] p rest = refl
append_one (x ∷ xs) p rest = ap (λ z. x ∷ z) (append_one xs p rest)

pub seen_go : (all left behind rest : Parts) (p q : Part) (k m : ℕ)
    → Seen all left k → left ≡ p ∷ behind → behind ≡ q ∷ rest → k ≡ m + 1 → is_leaf kinds.Semicolon p.entity ≡ false → Seen all behind m
unfolding methods_in
seen_go all left behind rest p q k m h shape after ek other =
    let e = next_front all left behind p k m h shape ek in
    record {
      whole = ap (λ z. z ++ behind) e ∙ append_one (front all k) p behind ∙ ap (λ z. front all k ++ z) (sym shape) ∙ h.whole;
      methods = ap (λ z. methods_in z behind) e ∙ sym (stepped (front all k)) ∙ h.methods;
      count = omega (arith, h.count, ap length shape);
      within = omega (arith, h.within);
    }
  where
    stepped : (before : Parts) → methods_in before left ≡ methods_in (before ++ (p ∷ [])) behind
    stepped before = rw (shape, after, other) refl

pub seen_method : (all left behind rest before : Parts) (p q : Part) (k : ℕ)
    → Seen all left k → left ≡ p ∷ behind → behind ≡ q ∷ rest → is_leaf kinds.Semicolon p.entity ≡ true → before ≡ front all k
    → methods_in [] all ≡ method_in before ∷ methods_in [] behind
unfolding methods_in
seen_method all left behind rest before p q k h shape after is eb =
    sym h.methods ∙ rw (shape, after, is, eb) refl

pub seen_alone : (all left behind : Parts) (p : Part) (k : ℕ) → Seen all left k → left ≡ p ∷ behind → behind ≡ [] → methods_in [] all ≡ []
unfolding methods_in
seen_alone all left behind p k h shape after = sym h.methods ∙ rw (shape, after) refl

pub seen_end : (all left : Parts) (k : ℕ) → Seen all left k → left ≡ [] → methods_in [] all ≡ []
unfolding methods_in
seen_end all left k h shape = sym h.methods ∙ rw shape refl

pub methods_go : (found more : List Member) (d : Member) (ps first rest : Parts) (all : List plain.Member)
    → more ≡ found ++ (d ∷ []) → methods_in [] ps ≡ method_in first ∷ methods_in [] rest → member_of d ≡ method_in first
    → map member_of found ++ methods_in [] ps ≡ all → map member_of more ++ methods_in [] rest ≡ all
methods_go found more d ps first rest all eg shape ed h =
    grown member_of found more d (method_in first) _ all eg ed (ap (λ r. map member_of found ++ r) (sym shape) ∙ h)

-- ---- heads

pub brace_here : (ps rest all : Parts) (p : Part) → ps ≡ p ∷ rest → is_leaf kinds.OpenBrace p.entity ≡ true → behind_brace ps ≡ all → rest ≡ all
unfolding behind_brace
brace_here ps rest all p shape is h = sym (rw (shape, is) refl) ∙ h

pub brace_on : (ps rest all : Parts) (p : Part) → ps ≡ p ∷ rest → is_leaf kinds.OpenBrace p.entity ≡ false → behind_brace ps ≡ all → behind_brace rest ≡ all
unfolding behind_brace
brace_on ps rest all p shape other h = sym (rw (shape, other) refl) ∙ h

pub brace_none : (ps all : Parts) → ps ≡ [] → behind_brace ps ≡ all → ps ≡ all
unfolding behind_brace
brace_none ps all shape h = shape ∙ sym (rw shape refl) ∙ h

pub implemented_brace : (ps rest : Parts) (p : Part) (all : List plain.Named) → ps ≡ p ∷ rest → is_leaf kinds.OpenBrace p.entity ≡ true → implemented_in ps ≡ all → [] ≡ all
unfolding implemented_in
implemented_brace ps rest p all shape is h = sym (rw (shape, is) refl) ∙ h

pub implemented_here : (ps rest : Parts) (p : Part) (all : List plain.Named)
    → ps ≡ p ∷ rest → is_leaf kinds.OpenBrace p.entity ≡ false → is_leaf kinds.Implements p.entity ≡ true → implemented_in ps ≡ all → names_behind ps ≡ all
unfolding implemented_in
implemented_here ps rest p all shape other is h = ap names_behind shape ∙ sym (rw (shape, other, is) refl) ∙ h

pub implemented_on : (ps rest : Parts) (p : Part) (all : List plain.Named)
    → ps ≡ p ∷ rest → is_leaf kinds.OpenBrace p.entity ≡ false → is_leaf kinds.Implements p.entity ≡ false → implemented_in ps ≡ all → implemented_in rest ≡ all
unfolding implemented_in
implemented_on ps rest p all shape other others h = sym (rw (shape, other, others) refl) ∙ h

pub implemented_end : (ps : Parts) (all : List plain.Named) → ps ≡ [] → implemented_in ps ≡ all → [] ≡ all
unfolding implemented_in
implemented_end ps all shape h = sym (rw shape refl) ∙ h
