-- The first breach: at the least token, and there by the first rule.
use Rattle.std.proofs.Common.{◌≡◌, ℕ, ◌<◌, ◌≤◌, Bool, true, false, cond, nat_lt, ltb-true, ltb-false, Option, Some, ◌⊎◌, inl, inr, refl, sym, ap, subst, arith}
use Rattle.std.specs.Prelude.{None as Absent}
use Rattle.std.specs.Prelude.{MatchOption}
use Rattle.wy_constant.specs.declared.rule.Rule.{Rule}
use Rattle.wy_constant.specs.declared.rule.Rule.TheVariants as rule
use Rattle.wy_members.specs.declared.broken.breach.Breach.{Breach}
use Rattle.wy_members.specs.Least.{IsLeast, nowhere, least}
use Rattle.wy_members.specs.Earlier.{earlier}
use Rattle.wy_members.specs.Refusal.{rule_order, IsRefusal, KeepsRules}
use Rattle.wy_members.specs.Declarations.{CompilationUnit}
use Rattle.wy_members.specs.Broken.{Breaks}

-- what is broken so far, and a rule more
abbrev pub With : (Rule → ℕ → Type 0) → Rule → (ℕ → Type 0) → Rule → ℕ → Type 0
With B rule Q other n = B other n ⊎ ((other ≡ rule) × Q n)

pub record IsFirstAt (B : Rule → ℕ → Type 0) (b : Breach) : Type 0 where
  pub broken : B b.rule b.token
  pub least_token : (other : Rule) (n : ℕ) → B other n → b.token ≤ n
  pub first_rule : (other : Rule) → B other b.token → rule_order b.rule ≤ rule_order other

pub data IsFirst (B : Rule → ℕ → Type 0) : Option Breach → Type 0 where
  keeps : ((other : Rule) (n : ℕ) → B other n → ⊥) → IsFirst B Absent
  breaks : {b : Breach} → IsFirstAt B b → IsFirst B (Some b)

abbrev pub Nothing : Rule → ℕ → Type 0
Nothing other n = ⊥

pub none_yet : IsFirst Nothing Absent
none_yet = keeps (λ other n h. h)

same_place : (a b : Rule) → a ≡ b → rule_order b ≤ rule_order a
same_place a b e = let f = ap rule_order e in omega arith

module _ (B : Rule → ℕ → Type 0) (r : Rule) (Q : ℕ → Type 0) where
  more : (b : Breach) (t : ℕ) → IsFirstAt B b → Q t → ((n : ℕ) → Q n → t ≤ n) → rule_order b.rule ≤ rule_order r → (c : Bool) → nat_lt t b.token ≡ c → IsFirst (With B r Q) (cond c (Some (record { rule = r; token = t })) (Some b))
  more b t f q low before true is =
      let lt : t < b.token = ltb-true t b.token is in
      breaks (record {
        broken = inr (refl, q);
        least_token = λ other n h. elim h [ inl x ↦ (let le = f.least_token other n x in omega arith) | inr y ↦ low n y.1 ];
        first_rule = λ other h. elim h [ inl x ↦ absurd (let le = f.least_token other t x in omega arith) | inr y ↦ same_place other r y.0 ];
      })
  more b t f q low before false is =
      let le : b.token ≤ t = ltb-false t b.token is in
      breaks (record {
        broken = inl f.broken;
        least_token = λ other n h. elim h [ inl x ↦ f.least_token other n x | inr y ↦ (let less = low n y.1 in omega arith) ];
        first_rule = λ other h. elim h [ inl x ↦ f.first_rule other x | inr y ↦ (let e = ap rule_order y.0 in omega arith) ];
      })

  -- a rule behind those so far
  pub with_rule : ((other : Rule) (n : ℕ) → B other n → rule_order other ≤ rule_order r) → (found : Option Breach) (t : Option ℕ) → IsFirst B found → IsLeast Q t → IsFirst (With B r Q) (earlier found r t)
  with_rule order Absent Absent (keeps f) (nowhere g) = keeps (λ other n h. elim h [ inl x ↦ f other n x | inr y ↦ g n y.1 ])
  with_rule order (Some b) Absent (breaks f) (nowhere g) =
      breaks (record {
        broken = inl f.broken;
        least_token = λ other n h. elim h [ inl x ↦ f.least_token other n x | inr y ↦ absurd (g n y.1) ];
        first_rule = λ other h. elim h [ inl x ↦ f.first_rule other x | inr y ↦ absurd (g b.token y.1) ];
      })
  with_rule order Absent (Some t) (keeps f) (least q low) =
      breaks (record {
        broken = inr (refl, q);
        least_token = λ other n h. elim h [ inl x ↦ absurd (f other n x) | inr y ↦ low n y.1 ];
        first_rule = λ other h. elim h [ inl x ↦ absurd (f other t x) | inr y ↦ same_place other r y.0 ];
      })
  with_rule order (Some b) (Some t) (breaks f) (least q low) = more b t f q low (order b.rule b.token f.broken) (nat_lt t b.token) refl

-- ---- by all rules

module _ (unit : CompilationUnit) where
  abbrev First : Rule → ℕ → Type 0
  First = With Nothing rule.Duplicate (Breaks unit rule.Duplicate)

  abbrev Second : Rule → ℕ → Type 0
  Second = With First rule.UnknownName (Breaks unit rule.UnknownName)

  abbrev Third : Rule → ℕ → Type 0
  Third = With Second rule.Cycle (Breaks unit rule.Cycle)

  abbrev Fourth : Rule → ℕ → Type 0
  Fourth = With Third rule.BadOverride (Breaks unit rule.BadOverride)

  abbrev Fifth : Rule → ℕ → Type 0
  Fifth = With Fourth rule.NotImplemented (Breaks unit rule.NotImplemented)

  by_rule : (r other : Rule) (n : ℕ) → other ≡ r → Breaks unit r n → Breaks unit other n
  by_rule r other n e h = subst (λ (x : Rule). Breaks unit x n) (sym e) h

  to_rules : (other : Rule) (n : ℕ) → Fifth other n → Breaks unit other n
  to_rules other n (inr h) = by_rule rule.NotImplemented other n h.0 h.1
  to_rules other n (inl (inr h)) = by_rule rule.BadOverride other n h.0 h.1
  to_rules other n (inl (inl (inr h))) = by_rule rule.Cycle other n h.0 h.1
  to_rules other n (inl (inl (inl (inr h)))) = by_rule rule.UnknownName other n h.0 h.1
  to_rules other n (inl (inl (inl (inl (inr h))))) = by_rule rule.Duplicate other n h.0 h.1
  to_rules other n (inl (inl (inl (inl (inl h))))) = absurd h

  of_rules : (other : Rule) (n : ℕ) → Breaks unit other n → Fifth other n
  of_rules rule.Duplicate n h = inl (inl (inl (inl (inr (refl, h)))))
  of_rules rule.UnknownName n h = inl (inl (inl (inr (refl, h))))
  of_rules rule.Cycle n h = inl (inl (inr (refl, h)))
  of_rules rule.BadOverride n h = inl (inr (refl, h))
  of_rules rule.NotImplemented n h = inr (refl, h)
  of_rules _ n h = absurd h

  at_most : (r other : Rule) (m n : ℕ) → other ≡ r → rule_order r ≡ m → m ≤ n → rule_order other ≤ n
  at_most r other m n e f le = let g = ap rule_order e in omega arith

  first_order : (other : Rule) (n : ℕ) → First other n → rule_order other ≤ 1
  unfolding rule_order
  first_order other n (inl h) = absurd h
  first_order other n (inr h) = at_most rule.Duplicate other 1 1 h.0 refl (omega arith)

  second_order : (other : Rule) (n : ℕ) → Second other n → rule_order other ≤ 2
  unfolding rule_order
  second_order other n (inl h) = let le = first_order other n h in omega arith
  second_order other n (inr h) = at_most rule.UnknownName other 2 2 h.0 refl (omega arith)

  third_order : (other : Rule) (n : ℕ) → Third other n → rule_order other ≤ 3
  unfolding rule_order
  third_order other n (inl h) = let le = second_order other n h in omega arith
  third_order other n (inr h) = at_most rule.Cycle other 3 3 h.0 refl (omega arith)

  fourth_order : (other : Rule) (n : ℕ) → Fourth other n → rule_order other ≤ 4
  unfolding rule_order
  fourth_order other n (inl h) = let le = third_order other n h in omega arith
  fourth_order other n (inr h) = at_most rule.BadOverride other 4 4 h.0 refl (omega arith)

  decided : (r : Option Breach) → IsFirst Fifth r → MatchOption r (KeepsRules unit) (λ b. IsRefusal unit b.rule b.token)
  decided Absent (keeps f) = λ other n h. f other n (of_rules other n h)
  decided (Some b) (breaks f) =
      record {
        broken = to_rules b.rule b.token f.broken;
        least_token = λ other n h. f.least_token other n (of_rules other n h);
        first_rule = λ other h. f.first_rule other (of_rules other b.token h);
      }

  pub first_of_all : (d u c o i : Option ℕ) (a b e f r : Option Breach) →
      IsLeast (Breaks unit rule.Duplicate) d → IsLeast (Breaks unit rule.UnknownName) u → IsLeast (Breaks unit rule.Cycle) c → IsLeast (Breaks unit rule.BadOverride) o → IsLeast (Breaks unit rule.NotImplemented) i →
      a ≡ earlier Absent rule.Duplicate d → b ≡ earlier a rule.UnknownName u → e ≡ earlier b rule.Cycle c → f ≡ earlier e rule.BadOverride o → r ≡ earlier f rule.NotImplemented i →
      MatchOption r (KeepsRules unit) (λ b. IsRefusal unit b.rule b.token)
  unfolding rule_order
  first_of_all d u c o i a b e f r is_d is_u is_c is_o is_i of_a of_b of_e of_f of_r =
      let first : IsFirst First a = subst (IsFirst First) (sym of_a) (with_rule Nothing rule.Duplicate (Breaks unit rule.Duplicate) (λ other n h. absurd h) Absent d none_yet is_d) in
      let second : IsFirst Second b = subst (IsFirst Second) (sym of_b) (with_rule First rule.UnknownName (Breaks unit rule.UnknownName) (λ other n h. (let le = first_order other n h in omega arith)) a u first is_u) in
      let third : IsFirst Third e = subst (IsFirst Third) (sym of_e) (with_rule Second rule.Cycle (Breaks unit rule.Cycle) (λ other n h. (let le = second_order other n h in omega arith)) b c second is_c) in
      let fourth : IsFirst Fourth f = subst (IsFirst Fourth) (sym of_f) (with_rule Third rule.BadOverride (Breaks unit rule.BadOverride) (λ other n h. (let le = third_order other n h in omega arith)) e o third is_o) in
      decided r (subst (IsFirst Fifth) (sym of_r) (with_rule Fourth rule.NotImplemented (Breaks unit rule.NotImplemented) (λ other n h. (let le = fourth_order other n h in omega arith)) f i fourth is_i))
