use Rattle.std.proofs.Common.{◌≡◌, ◌∙◌, ap, sym, subst, rules, map, length, ◌++◌, ◌∷◌, [], List, ℕ, Some, None}
use Rattle.std.specs.Prelude.{string_bytes}
use Rattle.std.specs.HashMap.{get_by_text}
use Rattle.std.specs.Map.{update}
use Rattle.std.specs.Str.{bytes_eq}
use Rattle.std.proofs.lemmas.List.{map-append, length-map}
use Rattle.std.proofs.lemmas.Map.Text.{hash_map_updates_text}
use Rattle.wy_constant.specs.Places.{name_of}
use Rattle.wy_constant.proofs.Placing.{Finds, finds_with, finds_as, unfound}
use Rattle.wy_constant.proofs.variables.Variables.push.Goals as goal

pub invariant_of-self-in-Ok : goal.invariant_of-self-in-Ok
invariant_of-self-in-Ok c =
    let s = c.args.self.now in
    let f = get_by_text s.places in
    let names = map name_of s.list.items in
    let n = name_of c.args.variable in
    let named : string_bytes c.in_ok-name.name ≡ n = search rules in
    let many : c.len-place.result ≡ length s.list.items = search rules in
    let at : c.len-place.result ≡ length names = many ∙ sym (length-map s.list.items name_of) in
    let whole : map name_of c.push.new.self.items ≡ names ++ n ∷ [] = ap (map name_of) c.in_ok-push.ensures.items ∙ map-append name_of s.list.items (c.args.variable ∷ []) in
    let fresh : f n ≡ None = unfound f s.list.items n s.keeps_places c.requires in
    let P : List (List ℕ) → Type 0 = λ ns. Finds (get_by_text c.insert.new.self) ns in
    record {
      keeps_places = subst P (sym whole) (finds_as (update bytes_eq f n (Some (length names))) (get_by_text c.insert.new.self) (names ++ n ∷ [])
          (λ q. hash_map_updates_text (string_bytes c.in_ok-name.name) s.places c.insert.new.self (Some c.len-place.result) c.in-Ok.ensures.updates q
          ∙ ap (λ b. update bytes_eq f b (Some c.len-place.result) q) named ∙ ap (λ k. update bytes_eq f n (Some k) q) at)
          (finds_with f names n s.keeps_places fresh));
    }
