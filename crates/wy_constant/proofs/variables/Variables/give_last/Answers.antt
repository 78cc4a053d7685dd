use Rattle.std.proofs.Common.{◌≡◌, ◌∙◌, ◌-◌, ap, sym, subst, rules, List, ℕ, get_or}
use Rattle.std.specs.HashMap.{get_by_text}
use Rattle.wy_constant.specs.Places.{name_of}
use Rattle.wy_constant.proofs.Placing.{Finds, same_names}
use Rattle.wy_constant.proofs.variables.Variables.give_last.Goals as goal

pub invariant_of-self : goal.invariant_of-self
invariant_of-self c =
    let s = c.args.self.now in
    let i = c.len-many.result - 1 in
    let v = c.index_mut.result.now in
    let read : v ≡ get_or s.list.items i v = search rules in
    let P : List (List ℕ) → Type 0 = λ names. Finds (get_by_text s.places) names in
    record { keeps_places = subst P (sym (same_names s.list.items i c.give.new.variable v (c.give.ensures.named ∙ ap name_of read))) s.keeps_places }
