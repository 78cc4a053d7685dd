use Rattle.std.proofs.Common.{◌≡◌, ℕ, ◌+◌, ◌<◌, ◌≤◌, List, [], ◌∷◌, ◌++◌, length, ap, sym, subst, ◌∙◌, arith}
use Rattle.std.specs.declared.alloc.Global.{Global}
use Rattle.std.specs.declared.vec.Vec.{Vec}
use Rattle.std.proofs.lemmas.Option.{slice_get_within}
use Rattle.wy_kernel.specs.Program.{Method}
use Rattle.wy_kernel.specs.View.{method_of}
use Rattle.wy_overloads.specs.LineageView.{lineage_of}
use Rattle.wy_members.specs.Alike.{AreMethods, IsFound, IsMarked, HasEarlier}
use Rattle.wy_overloads.proofs.Related.{untrue}
use Rattle.wy_members.proofs.Alike.{FoundBefore, all_found, found_added, found_kept, range_added}
use Rattle.wy_members.proofs.broken.compared.first_found.Goals.{then-is_found+then-not-has_earlier+in_ok-push, else-is_found, else-is_found-via-then-is_found+else-not-has_earlier, else-is_found-via-else-is_found}
use Rattle.wy_members.proofs.broken.compared.first_found.Goals as goal

pub loop-k-preserved : goal.loop-k-preserved
loop-k-preserved c =
    let t = lineage_of c.args.lineage.now in
    let m = method_of c.method-m.result.now in
    let only = c.args.only_abstract in
    let Open : ℕ → Type 0 = λ d. IsMarked c.args.marks.now d in
    let k = c.loop-k.k in
    let before = c.loop-k.numbers.items in
    let items : Vec ℕ Global → List ℕ = λ v. v.items in
    let So : List ℕ → Type 0 = λ xs. record { found : FoundBefore t Open only (k + 1) xs; in_range : AreMethods t xs } in
    let here : k < length t.methods = slice_get_within t.methods k m c.method-m.ensures in
    elim c.if-is_found.branch [
      | then-is_found+then-not-has_earlier+in_ok-push w ↦ (let e : items c.if-is_found.numbers ≡ before ++ k ∷ [] = ap items w.numbers-is ∙ w.in_ok-push.ensures.items in
          subst So (sym e) (record { found = found_added t Open only k before m c.method-m.ensures c.loop-k.invariant.found; in_range = range_added t before k c.loop-k.invariant.in_range here }))
      | else-is_found w ↦ (let earlier : IsFound t Open only k m → HasEarlier t Open only k m = elim w.else-is_found.branch [
        | else-is_found-via-then-is_found+else-not-has_earlier v ↦ (λ found. v.has_earlier.ensures.0 v.if-not-has_earlier.false)
        | else-is_found-via-else-is_found v ↦ (λ found. absurd (untrue _ v.if-is_found.false (c.is_found.ensures found)))
      ] in
          subst So (sym (ap items w.numbers-is)) (record { found = found_kept t Open only k before m c.method-m.ensures c.loop-k.invariant.found earlier; in_range = c.loop-k.invariant.in_range }))
    ]

pub returns : goal.returns
returns c =
    let t = lineage_of c.args.lineage.now in
    let all : length t.methods ≤ c.loop-k.k = omega (arith, c.loop-k-test.false, c.methods-k-end.ensures) in
    all_found t (λ d. IsMarked c.args.marks.now d) c.args.only_abstract c.loop-k.k c.loop-k.numbers.items c.requires all c.loop-k.invariant.found c.loop-k.invariant.in_range
