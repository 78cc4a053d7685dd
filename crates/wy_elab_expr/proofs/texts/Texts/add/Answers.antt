use Rattle.std.proofs.Common.{◌≡◌, ◌∙◌, ◌+◌, ◌≤◌, ◌++◌, ◌∷◌, [], ap, sym, subst, arith, length, length-append, Some, ℕ}
use Rattle.std.specs.Str.{bytes_eq}
use Rattle.indexmap.specs.IndexMap.{Updates}
use Rattle.wy_constant.specs.declared.variable.FixedText as memory
use Rattle.wy_elab_expr.proofs.Listed.{pushes, pushes_place}
use Rattle.wy_elab_expr.proofs.TextPlaces.{placed_behind, stands_behind}
use Rattle.wy_elab_expr.proofs.texts.Texts.add.Goals as goal

pub invariant_of-self-inside-2 : goal.invariant_of-self-inside-2
invariant_of-self-inside-2 c =
    let text : memory.FixedText = record { units = c.args.units; token = c.args.token } in
    let old = c.self.inside.list.items in
    let at : c.len-at.result ≡ length old = omega arith in
    let more : c.push_reserved.new.self.items ≡ old ++ text ∷ [] = c.push_reserved.ensures.items ∙ ap (λ xs. xs ++ text ∷ []) c.in_ok-reserve.ensures.items in
    let many : length c.push_reserved.new.self.items ≡ length old + 1 = ap length more ∙ length-append old (text ∷ []) in
    let few = c.if-at-ge4294967295.false in
    let place = stands_behind old c.args.self.now c.args.units.items c.len-at.result c.self.view_is at c.requires in
    let P : ℕ → Type 0 = λ n. Updates (λ a b. bytes_eq a.items b.items) c.self.inside.places c.insert.new.self c.in_ok-copied.field-0 (Some n) in (
      omega arith,
      (
        placed_behind old c.push_reserved.new.self.items text c.self.inside.places c.insert.new.self c.in_ok-copied.field-0 more c.in_ok-copied.ensures (sym place ∙ at) c.self.inside.keeps_places
            (subst P at c.in_ok-insert.ensures.updates),
        tt,
      ),
    )

pub returns-clause-listed : goal.returns-clause-listed
returns-clause-listed c =
    let text : memory.FixedText = record { units = c.args.units; token = c.args.token } in
    let old = c.self.inside.list.items in
    let at : c.len-at.result ≡ length old = omega arith in
    let more : c.push_reserved.new.self.items ≡ old ++ text ∷ [] = c.push_reserved.ensures.items ∙ ap (λ xs. xs ++ text ∷ []) c.in_ok-reserve.ensures.items in
    pushes old c.push_reserved.new.self.items c.args.self.now text c.len-at.result c.self.view_is (stands_behind old c.args.self.now c.args.units.items c.len-at.result c.self.view_is at c.requires) (omega arith) more

pub returns-clause-place : goal.returns-clause-place
returns-clause-place c =
    let text : memory.FixedText = record { units = c.args.units; token = c.args.token } in
    let old = c.self.inside.list.items in
    let at : c.len-at.result ≡ length old = omega arith in
    let more : c.push_reserved.new.self.items ≡ old ++ text ∷ [] = c.push_reserved.ensures.items ∙ ap (λ xs. xs ++ text ∷ []) c.in_ok-reserve.ensures.items in
    pushes_place old c.push_reserved.new.self.items c.args.self.now text c.len-at.result c.self.view_is (stands_behind old c.args.self.now c.args.units.items c.len-at.result c.self.view_is at c.requires) (omega arith) more
