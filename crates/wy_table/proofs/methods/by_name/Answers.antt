use Rattle.std.proofs.Common.{◌≡◌, ◌<◌, ◌≤◌, ◌+◌, ℕ, length, map, sym, subst, arith, ◌∙◌, ap}
use Rattle.std.specs.Str.{bytes_eq}
use Rattle.std.proofs.lemmas.List.{length-map}
use Rattle.std.proofs.lemmas.Option.{slice_get_within}
use Rattle.wy_kernel.specs.View.{method_of}
use Rattle.wy_table.specs.Listed.{listed_by_text}
use Rattle.wy_table.proofs.Listing.{ListedUpTo, listed_one, skipped}
use Rattle.wy_table.proofs.Wanted.{IsNameOf, same_name, called_there}
use Rattle.wy_table.proofs.methods.by_name.Goals as goal
use Rattle.wy_table.proofs.methods.by_name.Goals.{then-is_by_name+in_ok-put_named, else-is_by_name}

pub loop-k-preserved : goal.loop-k-preserved
loop-k-preserved c =
    let ms = c.args.methods.now in
    let k = c.loop-k.k in
    let x = c.index-methods-k.result in
    let P : _ → Type 0 = λ ls. ListedUpTo (IsNameOf (map method_of ms)) (k + 1) (listed_by_text ls) in
    elim c.if-is_by_name.branch [
      | then-is_by_name+in_ok-put_named w ↦ subst P (sym w.lists-is) (listed_one (IsNameOf (map method_of ms)) k (listed_by_text c.loop-k.lists) (listed_by_text w.put_named.new.lists) (λ q. bytes_eq q w.as_str.result.now) c.loop-k.invariant w.in_ok-put_named.ensures (λ q e. same_name ms k x w.as_str.result.now q c.loop-k-test.true c.index-methods-k.is w.as_str.ensures.value e))
      | else-is_by_name w ↦ subst P (sym w.lists-is) (skipped (IsNameOf (map method_of ms)) k (listed_by_text c.loop-k.lists) c.loop-k.invariant
          (λ q e. let t = c.is_by_name.ensures.1 (called_there ms k x e.0 c.loop-k-test.true c.index-methods-k.is e.1 e.2.0) in let f = w.if-is_by_name.false in cc))
    ]

pub returns : goal.returns
returns c =
    let ms = c.args.methods.now in
    let many = length-map ms method_of in
    let all = c.loop-k-test.false in
    let end = c.loop-k.auto.k-end in
    λ name. record {
      each = λ k m e p. c.loop-k.invariant.0 k name (let lt : k < length (map method_of ms) = slice_get_within (map method_of ms) k m e in omega arith) (m, e, p);
      in_range = λ k has. (let lt = c.loop-k.invariant.1 name k has in omega arith);
    }
