-- The methods of a class that have one name and the same parameter types.
use Rattle.std.proofs.Common.{◌≡◌, refl, sym, ◌∙◌, ap, subst, ℕ, ◌⊎◌, inl, inr, false, not, List, Some}
use Rattle.std.specs.Prelude.{slice_get}
use Rattle.std.proofs.lemmas.Bool.{not-true}
use Rattle.wy_kernel.specs.declared.types.Ty.{Ty}
use Rattle.wy_kernel.specs.declared.types.MethodForm.{MethodForm}
use Rattle.wy_kernel.specs.declared.types.MethodForm.TheVariants as kind
use Rattle.wy_kernel.specs.Program.{Class, Method}
use Rattle.wy_kernel.specs.Subtyping.{Supertype, itself, further, IsAcyclic, Below, same, class_type}
use Rattle.wy_kernel.specs.Table.{Table}
use Rattle.wy_overloads.specs.Lineage.{HasTop}
use Rattle.wy_overloads.specs.Choice.{DeclaredFor, Equivalent}
use Rattle.wy_members.specs.Broken.{Overrides, Inherits, static_against_instance, inherited_static}
use Rattle.wy_members.proofs.Contained.{contained}
use Rattle.wy_overloads.proofs.Straight.{straight, further_up, above_object}
use Rattle.wy_overloads.proofs.Related.{class_below_class}
use Rattle.law_program_parts.proofs.Codes.{RunsAs}
use Rattle.law_program_parts.proofs.Chains.{IsAt}
use Rattle.law_program_parts.proofs.Dispatch.{Lacks}
use Rattle.law_program_parts.proofs.Rules.{open_part, is_open, KeepRules, in_filtered, of_filtered}

instance_or_not : (f : MethodForm) → (f ≡ kind.Instance) ⊎ (f ≡ kind.Instance → ⊥)
instance_or_not kind.Instance = inl refl
instance_or_not kind.Static = inr (λ e. cc)
instance_or_not kind.Constructor = inr (λ e. cc)
instance_or_not kind.Fields = inr (λ e. cc)

-- ---- classes below each other are one

one_class : (classes : List Class) {c d : ℕ} → IsAcyclic classes → Supertype classes c d → Supertype classes d c → c ≡ d
one_class classes acyclic itself t = refl
one_class classes acyclic (further {c} {d} {e} h s) t = absurd (acyclic c d h (further_up classes s t))

pub same_class : (classes : List Class) (c d : ℕ) → HasTop classes → IsAcyclic classes → Below classes (class_type c) (class_type d) → Below classes (class_type d) (class_type c) → c ≡ d
same_class classes c d top acyclic up down =
    elim (class_below_class classes c d 0 (straight classes top up)) [
      | inl e ↦ elim (class_below_class classes d c 0 (straight classes top down)) [ inl f ↦ f ∙ sym e | inr t ↦ above_object classes top t e ∙ sym e ]
      | inr s ↦ elim (class_below_class classes d c 0 (straight classes top down)) [ inl f ↦ f ∙ sym (above_object classes top s f) | inr t ↦ one_class classes acyclic s t ]
    ]

-- ---- what a class has

declared_below : (classes : List Class) (c d : ℕ) (form : MethodForm) → DeclaredFor classes (class_type c) d form → Below classes (class_type c) (class_type d)
declared_below classes c d kind.Static h = h.1
declared_below classes c d kind.Instance h = h.1
declared_below classes c d kind.Constructor h = subst (λ (x : Ty). Below classes (class_type c) x) h same
declared_below classes c d kind.Fields h = absurd h

module _ (classes : List Class) (methods : List Method) where
  abbrev open_table : Table
  open_table = open_part classes methods

  -- a method that isn't private is among those that are inherited
  pub open_at : (k : ℕ) (m : Method) → slice_get methods k ≡ Some m → m.is_private ≡ false → (j : ℕ) × (slice_get open_table.methods j ≡ Some m)
  open_at k m found public = in_filtered is_open methods k m found (ap not public)

  pub alike : (c : ℕ) (a : Method) (j : ℕ) (b : Method) → slice_get open_table.methods j ≡ Some b → b.form ≡ kind.Instance → Below classes (class_type c) (class_type b.class) → b.name ≡ a.name → b.params ≡ a.params →
      Equivalent open_table (class_type c) a j b
  alike c a j b there form below name params =
      (there, record { member = record { named = name; declared = subst (DeclaredFor classes (class_type c) b.class) (sym form) (tt, below) }; same = params })

  pub below_alike : (c : ℕ) (a : Method) (j : ℕ) (b : Method) → Equivalent open_table (class_type c) a j b → Below classes (class_type c) (class_type b.class)
  below_alike c a j b h = declared_below classes c b.class b.form h.1.member.declared

  -- an instance method like one that is like m runs as m
  pub runs_alike : (c : ℕ) (m a : Method) (j : ℕ) (b : Method) → Equivalent open_table (class_type c) a j b → a.name ≡ m.name → a.params ≡ m.params → b.form ≡ kind.Instance →
      ((i : ℕ) × (slice_get methods i ≡ Some b)) × RunsAs b.class m b
  runs_alike c m a j b h name params form =
      let w = of_filtered is_open methods j b h.0 in
      (w.0, record { class = refl; form = form; open_to_all = not-true b.is_private w.1; named = h.1.member.named ∙ name; params = h.1.same ∙ params })

  module _ (keeps : KeepRules classes methods) (c : ℕ) where
    -- a class that declares no method which runs as m declares none like an instance method which is like m
    pub undeclared : (m : Method) → Lacks methods c m → (k : ℕ) (a : Method) → slice_get open_table.methods k ≡ Some a → a.form ≡ kind.Instance → Below classes (class_type c) (class_type a.class) → a.name ≡ m.name → a.params ≡ m.params →
        (a.class ≡ c → ⊥) → (j : ℕ) (b : Method) → Equivalent open_table (class_type c) a j b → b.class ≡ c → ⊥
    undeclared m lacks k a there form below name params elsewhere j b h own =
        elim (instance_or_not b.form) [
          | inl is ↦ (let w = runs_alike c m a j b h name params is in lacks w.0.0 b w.0.1 (subst (λ x. RunsAs x m b) own w.1))
          | inr other ↦ keeps.overriding c b.site (static_against_instance overrides (λ e. other (e ∙ form)))
        ]
      where
        overrides : Overrides open_table c b k a
        overrides = record {
          method = contained open_table.methods j b h.0;
          own = own;
          same = alike c b k a there form below (sym h.1.member.named) (sym h.1.same);
          elsewhere = elsewhere;
        }

    -- what is like an instance method that a class inherits is one too
    pub all_instances : (row : Class) → IsAt classes c row → (k : ℕ) (a : Method) → Inherits open_table c k a → a.form ≡ kind.Instance → (j : ℕ) (b : Method) → Equivalent open_table (class_type c) a j b → b.form ≡ kind.Instance
    all_instances row at k a inherits form j b h =
        elim (instance_or_not b.form) [
          | inl is ↦ is
          | inr other ↦ absurd (keeps.overriding c row.site (inherited_static j at inherits h (λ e. other (sym e ∙ form))))
        ]
