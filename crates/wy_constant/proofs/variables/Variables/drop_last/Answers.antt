use Rattle.std.proofs.Common.{◌≡◌, ◌∙◌, ap, subst, rules, map, ◌++◌, ◌∷◌, [], List, ℕ, None}
use Rattle.std.specs.HashMap.{get_by_text}
use Rattle.std.specs.Map.{update}
use Rattle.std.specs.Str.{bytes_eq}
use Rattle.std.proofs.lemmas.List.{map-append}
use Rattle.std.proofs.lemmas.Map.Text.{hash_map_updates_text}
use Rattle.wy_constant.specs.Places.{name_of}
use Rattle.wy_constant.proofs.Placing.{Finds, finds_without, finds_as}
use Rattle.wy_constant.proofs.variables.Variables.drop_last.Goals as goal

pub invariant_of-self : goal.invariant_of-self
invariant_of-self c =
    let s = c.args.self.now in
    let gone = name_of c.in-Some.variable in
    let whole : map name_of s.list.items ≡ map name_of c.pop.new.self.items ++ gone ∷ [] = ap (map name_of) c.in-Some.ensures.items ∙ map-append name_of c.pop.new.self.items (c.in-Some.variable ∷ []) in
    let P : List (List ℕ) → Type 0 = λ names. Finds (get_by_text s.places) names in
    let named : c.as_str.result.now ≡ gone = search rules in
    record {
      keeps_places = finds_as (update bytes_eq (get_by_text s.places) gone None) (get_by_text c.remove.new.self) (map name_of c.pop.new.self.items)
          (λ q. hash_map_updates_text c.as_str.result.now s.places c.remove.new.self None c.remove.ensures.updates q ∙ ap (λ n. update bytes_eq (get_by_text s.places) n None q) named)
          (finds_without (get_by_text s.places) (map name_of c.pop.new.self.items) gone (subst P whole s.keeps_places));
    }
