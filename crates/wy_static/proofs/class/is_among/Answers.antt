use Rattle.std.proofs.Common.{◌≡◌, ℕ, ◌<◌, List, Contains, sym, subst, inl, inr, ⊎_elim, ◌⊎◌}
use Rattle.std.specs.Option.{option_to_list}
use Rattle.std.proofs.lemmas.List.Elements.{Contains-append_cases}
use Rattle.wy_kernel.specs.View.{NONE, present}
use Rattle.wy_static.proofs.Naming.{of_present}
use Rattle.wy_static.proofs.class.is_among.Goals.{else-class-via-then-class+else-class-many, else-class-via-else-class}
use Rattle.wy_static.proofs.class.is_among.Goals as goal

pub returns : goal.returns
returns c = λ yes d among.
    let above = c.args.class.now.above in
    let many = c.args.many in
    let small : (above ≡ NONE) ⊎ (above < many) = elim c.else-class.branch [
      | else-class-via-then-class+else-class-many w ↦ inr w.if-class-many.false
      | else-class-via-else-class w ↦ inl w.if-class.false
    ] in
    ⊎_elim
    (λ a. of_present above d many small a)
    (λ b. c.all_below.ensures yes d (subst (λ (xs : List ℕ). Contains xs d) (sym c.deref.ensures.value) b))
    (Contains-append_cases (option_to_list (present above)) c.args.class.now.interfaces.items d among)
