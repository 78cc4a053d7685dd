-- A class that declares no method which runs as m: what it inherits counts, has a body, and gives what may stand for what m gives.
use Rattle.std.proofs.Common.{◌≡◌, refl, sym, ◌∙◌, ap, subst, arith, ℕ, inl, inr, Bool, true, false, Some}
use Rattle.std.specs.Prelude.{slice_get}
use Rattle.wy_kernel.specs.declared.types.MethodForm.TheVariants as kind
use Rattle.wy_kernel.specs.Program.{Program, Class, Method}
use Rattle.wy_kernel.specs.Table.{Table}
use Rattle.wy_kernel.specs.Subtyping.{Below, to_object, Substitutable, class_type}
use Rattle.wy_overloads.specs.Choice.{IsClass, Equivalent, IsNearest, NearestHasBody, Counts, nearest, lowest}
use Rattle.wy_members.specs.Broken.{Inherits, StandsForEach, inherited_results}
use Rattle.law_judgement.proofs.Decided.{Decided}
use Rattle.law_program_parts.proofs.Codes.{RunsAs}
use Rattle.law_program_parts.proofs.Chains.{IsAt, OfClass, Ascends, stays, same_row, class_ascending, below_ascending, object_or_on_chain, of_class, is_class, row_at}
use Rattle.law_program_parts.proofs.Results.{substitutable_or_not}
use Rattle.law_program_parts.proofs.Dispatch.{Lacks, IsRun, IsNowhere}
use Rattle.law_program_parts.proofs.Rules.{open_part, is_open, KeepRules, filtered_apart, one_method}
use Rattle.law_program_parts.proofs.Alike.{same_class, open_at, alike, below_alike, runs_alike, undeclared, all_instances}

module _ (p : Program) (keeps : KeepRules p.classes p.methods) (c : ℕ) (row : Class) (at : IsAt p.classes c row) (class : row.is_interface ≡ false) (concrete : row.is_abstract ≡ false) where
  abbrev open_table : Table
  open_table = open_part p.classes p.methods

  -- ---- the class runs a method of another class

  module _ (m : Method) (n : ℕ) (r : IsRun p m c n) (lacks : Lacks p.methods c m) where
    below_run : Below p.classes (class_type c) (class_type r.run.class)
    below_run = subst (λ x. Below p.classes (class_type c) (class_type x)) (sym r.runs.class) (below_ascending p.classes keeps.sorted r.way)

    elsewhere : r.run.class ≡ c → ⊥
    elsewhere e = lacks n r.run r.found (subst (λ x. RunsAs x m r.run) (sym r.runs.class ∙ e) r.runs)

    module _ (k : ℕ) (there : slice_get open_table.methods k ≡ Some r.run) where
      inherits : Inherits open_table c k r.run
      inherits = record {
        has = (there, (alike p.classes p.methods c r.run k r.run there r.runs.form below_run refl refl).1.member);
        undeclared = undeclared p.classes p.methods keeps c m lacks k r.run there r.runs.form below_run r.runs.named r.runs.params elsewhere;
      }

      form_alike : (j : ℕ) (b : Method) → Equivalent open_table (class_type c) r.run j b → b.form ≡ kind.Instance
      form_alike = all_instances p.classes p.methods keeps c row at k r.run inherits r.runs.form

      -- a class that declares one like it is further up, or Object
      further_up : (j : ℕ) (b : Method) → Equivalent open_table (class_type c) r.run j b → IsClass p.classes b.class → Below p.classes (class_type r.run.class) (class_type b.class)
      further_up j b h of =
          elim (object_or_on_chain p.classes keeps.sorted c b.class (below_alike p.classes p.methods c r.run j b h) (row, at, class) (of_class p.classes b.class of)) [
            | inl e ↦ subst (λ x. Below p.classes (class_type r.run.class) (class_type x)) (sym e) (to_object tt)
            | inr way ↦ (let w = runs_alike p.classes p.methods c m r.run j b h r.runs.named r.runs.params (form_alike j b h) in
                subst (λ x. Below p.classes (class_type x) (class_type b.class)) (sym r.runs.class) (below_ascending p.classes keeps.sorted (r.nearest b.class w.0.0 b way w.0.1 w.1)))
          ]

      one_in_class : (j : ℕ) (b : Method) → Equivalent open_table (class_type c) r.run j b → b.class ≡ r.run.class → k ≡ j
      one_in_class j b h e =
          one_method open_table.methods (filtered_apart is_open p.methods keeps.apart) k j r.run b there h.0 (sym e) (sym h.1.member.named) (sym h.1.same)

      run_class : IsClass p.classes r.run.class
      run_class = is_class p.classes r.run.class (subst (OfClass p.classes) (sym r.runs.class) (class_ascending p.classes keeps.sorted r.way (row, at, class)))

      is_nearest : IsNearest open_table (class_type c) k r.run
      is_nearest = record {
        by_class = run_class;
        nearest = λ j b h. record { above = further_up j b h; behind = λ e. (let same : k ≡ j = one_in_class j b h e in omega arith) };
      }

      as_run : (j : ℕ) (b : Method) → Equivalent open_table (class_type c) r.run j b → Equivalent open_table (class_type c) b k r.run
      as_run j b h = alike p.classes p.methods c b k r.run there r.runs.form below_run (sym h.1.member.named) (sym h.1.same)

      one_nearest : (j : ℕ) (b : Method) → Equivalent open_table (class_type c) r.run j b → IsNearest open_table (class_type c) j b → b ≡ r.run
      one_nearest j b h near =
          let up = further_up j b h near.by_class in
          let down = (near.nearest k r.run (as_run j b h)).above run_class in
          let classes : r.run.class ≡ b.class = same_class p.classes r.run.class b.class keeps.sorted.top keeps.sorted.acyclic up down in
          let places : k ≡ j = one_in_class j b h (sym classes) in
          same_row open_table.methods j b r.run h.0 (subst (λ x. slice_get open_table.methods x ≡ Some r.run) places there)

      has_body : r.run.is_abstract ≡ false
      has_body = by r.run.is_abstract refl
        where
          no_other : r.run.is_abstract ≡ true → NearestHasBody open_table (class_type c) r.run → ⊥
          no_other e (j, b, h, near, body) =
              let same : b ≡ r.run = one_nearest j b h near in
              let no : false ≡ true = sym body ∙ ap (λ (x : Method). x.is_abstract) same ∙ e in
              cc

          by : (b : Bool) → r.run.is_abstract ≡ b → r.run.is_abstract ≡ false
          by false e = e
          by true e = absurd (keeps.implemented c k row r.run at concrete inherits (no_other e) e)

      counted : (j : ℕ) (b : Method) → Equivalent open_table (class_type c) r.run j b → Counts open_table (class_type c) j b → b ≡ r.run
      counted j b h (nearest near body) = one_nearest j b h near
      counted j b h (lowest none low) = absurd (none (k, r.run, as_run j b h, is_nearest, has_body))

      stands : (i : ℕ) → slice_get open_table.methods i ≡ Some m → m.form ≡ kind.Instance → Below p.classes (class_type c) (class_type m.class) → Substitutable p.classes r.run.result m.result
      stands i found form below = by (substitutable_or_not p.classes keeps.sorted.top keeps.sorted.acyclic r.run.result m.result)
        where
          none_common : (Substitutable p.classes r.run.result m.result → ⊥) → (j : ℕ) (b : Method) → Equivalent open_table (class_type c) r.run j b → Counts open_table (class_type c) j b → StandsForEach open_table (class_type c) b → ⊥
          none_common none j b h counts each =
              let same : b ≡ r.run = counted j b h counts in
              none (subst (λ (x : Method). Substitutable p.classes x.result m.result) same
              (each i m (alike p.classes p.methods c b i m found form below (sym r.runs.named ∙ sym h.1.member.named) (sym r.runs.params ∙ sym h.1.same))))

          by : Decided (Substitutable p.classes r.run.result m.result) → Substitutable p.classes r.run.result m.result
          by (inl s) = s
          by (inr none) = absurd (keeps.overriding c row.site (inherited_results at inherits (none_common none)))

    pub inherited_body : r.run.is_abstract ≡ false
    inherited_body = let w = open_at p.classes p.methods n r.run r.found r.runs.open_to_all in has_body w.0 w.1

    pub inherited_result : (k : ℕ) → slice_get p.methods k ≡ Some m → m.form ≡ kind.Instance → m.is_private ≡ false → Below p.classes (class_type c) (class_type m.class) → Substitutable p.classes r.run.result m.result
    inherited_result k found form public below =
        let w = open_at p.classes p.methods n r.run r.found r.runs.open_to_all in
        let v = open_at p.classes p.methods k m found public in
        stands w.0 w.1 v.0 v.1 form below

  -- ---- the class and all above it declare none

  module _ (k : ℕ) (m : Method) (found : slice_get p.methods k ≡ Some m) (form : m.form ≡ kind.Instance) (public : m.is_private ≡ false) (below : Below p.classes (class_type c) (class_type m.class)) (w : IsNowhere p m c) where
    not_on_chain : (d : ℕ) → Below p.classes (class_type c) (class_type d) → OfClass p.classes d → Lacks p.methods d m
    not_on_chain d under of =
        elim (object_or_on_chain p.classes keeps.sorted c d under (row, at, class) of) [
          | inl e ↦ w.lacks d (subst (Ascends p.classes c) (sym e) w.object)
          | inr way ↦ w.lacks d way
        ]

    other_class : (above : Class) → IsAt p.classes m.class above → above.is_interface ≡ true → m.class ≡ c → ⊥
    other_class above there is e =
        let same : above ≡ row = same_row p.classes c above row (subst (λ x. slice_get p.classes x ≡ Some above) e there) at in
        let no : true ≡ false = sym is ∙ ap (λ (x : Class). x.is_interface) same ∙ class in
        cc

    of_interface : (above : Class) → IsAt p.classes m.class above → above.is_interface ≡ true → ⊥
    of_interface above there is =
        let v = open_at p.classes p.methods k m found public in
        let inherits : Inherits open_table c v.0 m = record {
          has = (v.1, (alike p.classes p.methods c m v.0 m v.1 form below refl refl).1.member);
          undeclared = undeclared p.classes p.methods keeps c m (w.lacks c stays) v.0 m v.1 form below refl refl (other_class above there is);
        } in
        keeps.implemented c v.0 row m at concrete inherits (no_other v.0 inherits) (keeps.of_interfaces k m above found form there is)
      where
        no_other : (i : ℕ) → Inherits open_table c i m → NearestHasBody open_table (class_type c) m → ⊥
        no_other i inherits (j, b, h, near, body) =
            let is = all_instances p.classes p.methods keeps c row at i m inherits form j b h in
            let x = runs_alike p.classes p.methods c m m j b h refl refl is in
            not_on_chain b.class (below_alike p.classes p.methods c m j b h) (of_class p.classes b.class near.by_class) x.0.0 b x.0.1 x.1

    pub somewhere : ⊥
    somewhere =
        let above = row_at p.classes m.class (keeps.among k m found) in
        by above.0 above.1 above.0.is_interface refl
      where
        by : (above : Class) → IsAt p.classes m.class above → (b : Bool) → above.is_interface ≡ b → ⊥
        by above there true is = of_interface above there is
        by above there false is =
            not_on_chain m.class below (above, there, is) k m found (record { class = refl; form = form; open_to_all = public; named = refl; params = refl })
