-- What is listed by keys is an index of methods.
use Rattle.std.proofs.Common.{◌≡◌, ℕ, ◌<◌, List, [], ◌∷◌, length, map, option_map, Option, Some, None, slice_get, get_or, refl, sym, ap, subst, ◌∙◌, arith}
use Rattle.std.specs.List.{Contains}
use Rattle.std.proofs.lemmas.List.{length-map}
use Rattle.std.proofs.lemmas.Option.{slice_get-get_or, slice_get-map, slice_get_within}
use Rattle.wy_kernel.specs.declared.types.Method as memory
use Rattle.wy_kernel.specs.declared.types.MethodForm.{MethodForm}
use Rattle.wy_kernel.specs.declared.types.MethodForm.TheVariants as kind
use Rattle.wy_kernel.specs.Program.{Method}
use Rattle.wy_kernel.specs.View.{method_of}
use Rattle.wy_table.specs.declared.methods.MethodIndex.{MethodIndex}
use Rattle.wy_table.specs.Listed.{AlikeTogether, AreNamedGroups, ListsByKey, ListsNames, listed, constructor_class, constructor_key, named_group, group_key}
use Rattle.wy_table.specs.Methods.{Lists, IsAlike, IsByName, IsConstructorOf}
use Rattle.wy_table.specs.MethodIndex.{IsIndexOf, alike_in, constructors_in, listed_if}

maps : (methods : List memory.Method) → map (λ m. constructor_key (method_of m)) methods ≡ map constructor_key (map method_of methods)
maps [] = refl
maps (m ∷ rest) = ap (λ xs. constructor_key (method_of m) ∷ xs) (maps rest)

group_named : (form : MethodForm) (group : ℕ) → IsByName form → named_group form group ≡ Some group
group_named kind.Static group h = refl
group_named kind.Instance group h = refl
group_named kind.Constructor group h = absurd h
group_named kind.Fields group h = absurd h

module _ (index : MethodIndex) (methods : List Method) where
  by_class : ListsByKey (map constructor_key methods) index.constructors → (class : ℕ) → Lists methods (λ k m. IsConstructorOf class m) (constructors_in index class)
  by_class all class = record {
    each = λ k m e is. all.each k class (slice_get-map constructor_key methods k ∙ ap (option_map constructor_key) e ∙ ap (λ f. Some (constructor_class f m.class)) is.0 ∙ ap (λ n. Some (Some n)) is.1);
    in_range = λ k has. (let lt = all.in_range class k has in let many = length-map methods constructor_key in omega arith);
  }

  by_signature : (keys : List (Option ℕ)) → AlikeTogether methods index.groups.items → AreNamedGroups methods index.groups.items keys → ListsByKey keys index.alike →
      (k : ℕ) (m : Method) → slice_get methods k ≡ Some m → Lists methods (λ j other. IsByName other.form × IsAlike m other) (alike_in index k)
  by_signature keys together named all k m e =
      let groups = index.groups.items in
      let inside : k < length methods = slice_get_within methods k m e in
      let many = together.a_group_a_method in
      let group = get_or groups k 0 in
      let at : slice_get groups k ≡ Some group = slice_get-get_or groups k 0 (omega arith) in
      let P : Option ℕ → Type 0 = λ o. Lists methods (λ j other. IsByName other.form × IsAlike m other) (listed_if index.alike o) in
      subst P (sym at) (record {
        each = λ j other e' is. all.each j group (named.each j group other e' (sym (together.together k j m other e e' is.1) ∙ at) ∙ ap (λ o. Some o) (group_named other.form group is.0));
        in_range = λ j has. (let lt = all.in_range group j has in let long = named.a_key_a_method in omega arith);
      })

pub indexed : (index : MethodIndex) (methods : List memory.Method) (keys classes : List (Option ℕ)) → AlikeTogether (map method_of methods) index.groups.items → AreNamedGroups (map method_of methods) index.groups.items keys →
    classes ≡ map (λ m. constructor_key (method_of m)) methods → ListsNames (map method_of methods) index.by_name → ListsByKey classes index.constructors → ListsByKey keys index.alike →
    IsIndexOf index (map method_of methods)
indexed index methods keys classes together named are names constructors alike = record {
  named = names;
  constructors = by_class index (map method_of methods) (subst (λ xs. ListsByKey xs index.constructors) (are ∙ maps methods) constructors);
  alike = by_signature index (map method_of methods) keys together named alike;
}
