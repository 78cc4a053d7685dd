-- In a text that keeps the rules all members are known and all supertypes fit: its methods are compared in its own table, without the private ones.
use Rattle.std.proofs.Common.{◌≡◌, refl, sym, ◌∙◌, ap, subst, ℕ, true, false, if◌then◌else◌, List, [], ◌∷◌, ◌++◌, Option, Some, map}
use Rattle.std.specs.Prelude.{None as Absent}
use Rattle.std.specs.Prelude.{filter, is_some, option_map, option_to_list, flat_map}
use Rattle.std.specs.List.{Contains}
use Rattle.std.proofs.lemmas.List.Elements.{Contains-append_left, Contains-append_right}
use Rattle.std.proofs.lemmas.Option.{slice_get-map, get_or_from_slice_get}
use Rattle.wy_kernel.specs.Program.{Class, object_class}
use Rattle.wy_kernel.specs.Subtyping.{direct_supertypes, named_above}
use Rattle.wy_syntax.specs.Syntax.{Named, Member, ClassSyntax, Declaration, Declared}
use Rattle.wy_syntax.specs.Syntax as syntax
use Rattle.wy_members.specs.Declarations.{CompilationUnit, classes_of, denoted, table}
use Rattle.wy_members.specs.Broken.{names_in, named_in, thrown_in, is_known, with_known_members, known_part, is_interface_in, with_fitting_supertypes, inheriting, compared}
use Rattle.wy_members.specs.Refusal.{KeepsRules}
use Rattle.wy_members.proofs.Contained.{placed, in_flat}
use Rattle.law_program_parts.proofs.RunningLists.{later, first, all_pass, all_left, all_same}
use Rattle.law_program_parts.proofs.Chains.{IsAt, AreSorted, row_at, superclass_named}
use Rattle.law_program_parts.proofs.Rules.{open_part}
use Rattle.law_program_parts.proofs.Hierarchy.{denotes, are_sorted}

-- ---- known members

module _ (unit : CompilationUnit) (keeps : KeepsRules unit) where
  named_by_member : (k : ClassSyntax) (m : Member) (n : Named) → Contains k.members m → Contains (named_in m) n → Contains (names_in k) n
  named_by_member k m n there named =
      let at = placed k.members m there in
      Contains-append_right (option_to_list k.above ++ k.interfaces) (flat_map (λ (x : Member). named_in x ++ thrown_in x) k.members) n
      (in_flat (λ (x : Member). named_in x ++ thrown_in x) k.members at.0 m n at.1 (Contains-append_left (named_in m) (thrown_in m) n named))

  member_known : (k : ClassSyntax) → Contains (classes_of unit) k → (m : Member) → Contains k.members m → is_known unit m ≡ true
  member_known k there m within =
      all_pass (λ (n : Named). is_some (denoted unit n.name)) (named_in m)
      (λ n named. let d = denotes unit keeps k n there (named_by_member k m n within named) in ap is_some d.1)

  all_known : (k : ClassSyntax) → Contains (classes_of unit) k → filter (is_known unit) k.members ≡ k.members
  all_known k there = all_left (is_known unit) k.members (member_known k there)

  declarations_known : (ds : List Declaration) → ((k : ClassSyntax) → Contains (classes_of ds) k → filter (is_known unit) k.members ≡ k.members) → map (with_known_members unit) ds ≡ ds
  declarations_known [] h = refl
  declarations_known (Declared k ∷ rest) h = λ i. Declared (record k { members = h k (first k (classes_of rest)) i }) ∷ declarations_known rest (λ x c. h x (later x k (classes_of rest) c)) i
  declarations_known (syntax.Declaration.Nothing ∷ rest) h = ap (λ ds. syntax.Declaration.Nothing ∷ ds) (declarations_known rest h)
  declarations_known (syntax.Declaration.Unknown ∷ rest) h = ap (λ ds. syntax.Declaration.Unknown ∷ ds) (declarations_known rest h)

  pub all_is_known : known_part unit ≡ unit
  all_is_known = declarations_known unit all_known

-- ---- fitting supertypes

module _ (classes : List Class) (sorted : AreSorted classes) where
  interface_in : (d : ℕ) (row : Class) → IsAt classes d row → is_interface_in classes d ≡ row.is_interface
  interface_in d row at = get_or_from_slice_get (map (λ (k : Class). k.is_interface) classes) d row.is_interface false (slice_get-map (λ (k : Class). k.is_interface) classes d ∙ ap (option_map (λ (k : Class). k.is_interface)) at)

  implemented_named : (c d : ℕ) (row : Class) → IsAt classes c row → Contains row.interfaces d → Contains (direct_supertypes classes c) d
  unfolding direct_supertypes
  implemented_named c d row at h =
      let P : List ℕ → Type 0 = λ ds. Contains ds d in
      subst P (sym (ap named_above at)) (Contains-append_right (option_to_list row.above) row.interfaces d h)

  superclass_fits : (c : ℕ) (row : Class) → IsAt classes c row → (o : Option ℕ) → row.above ≡ o → option_map (λ d. if is_interface_in classes d then object_class else d) o ≡ o
  superclass_fits c row at Absent e = refl
  superclass_fits c row at (Some d) e =
      let up = row_at classes d (sorted.among c d (superclass_named classes c d row at e)) in
      let class : is_interface_in classes d ≡ false = interface_in d up.0 up.1 ∙ sorted.extends c d row up.0 at e up.1 in
      ap (λ b. Some (if b then object_class else d)) class

  interfaces_fit : (c : ℕ) (row : Class) → IsAt classes c row → filter (is_interface_in classes) row.interfaces ≡ row.interfaces
  interfaces_fit c row at =
      all_left (is_interface_in classes) row.interfaces
      (λ d h. let up = row_at classes d (sorted.among c d (implemented_named c d row at h)) in interface_in d up.0 up.1 ∙ sorted.implements c d row up.0 at h up.1)

  row_fits : (c : ℕ) (row : Class) → IsAt classes c row → with_fitting_supertypes classes row ≡ row
  row_fits c row at = λ i. record row { above = superclass_fits c row at row.above refl i; interfaces = interfaces_fit c row at i }

  pub all_fit : map (with_fitting_supertypes classes) classes ≡ classes
  all_fit = all_same (with_fitting_supertypes classes) classes row_fits

-- ---- what is compared

pub compared_is : (unit : CompilationUnit) → KeepsRules unit → open_part (table unit).classes (table unit).methods ≡ compared unit
unfolding compared
compared_is unit keeps =
    ap (λ (cs : List Class). open_part cs (table unit).methods) (sym (all_fit (table unit).classes (are_sorted unit keeps)))
    ∙ ap (λ (u : CompilationUnit). inheriting (table u)) (sym (all_is_known unit keeps))
