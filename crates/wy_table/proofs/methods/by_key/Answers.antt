use Rattle.std.proofs.Common.{◌<◌, ◌≤◌, ◌+◌, length, nat_eq, sym, subst, arith}
use Rattle.std.proofs.lemmas.Option.{slice_get_within}
use Rattle.wy_table.specs.Listed.{listed}
use Rattle.wy_table.proofs.Listing.{ListedUpTo, listed_one, skipped}
use Rattle.wy_table.proofs.Wanted.{IsKeyOf, same_key, no_key}
use Rattle.wy_table.proofs.methods.by_key.Goals as goal
use Rattle.wy_table.proofs.methods.by_key.Goals.{in-Some+in_ok-put, in_default}

pub loop-k-preserved : goal.loop-k-preserved
loop-k-preserved c =
    let keys = c.args.keys.now in
    let P : _ → Type 0 = λ ls. ListedUpTo (IsKeyOf keys) (c.loop-k.k + 1) (listed ls) in
    elim c.match-keys-k.branch [
      | in-Some+in_ok-put w ↦ subst P (sym w.lists-is) (listed_one (IsKeyOf keys) c.loop-k.k (listed c.loop-k.lists) (listed w.put.new.lists) (λ q. nat_eq w.in-Some.key q) c.loop-k.invariant w.in_ok-put.ensures (λ q e. same_key keys c.loop-k.k w.in-Some.key q w.in-Some.is e))
      | in_default w ↦ subst P (sym w.lists-is) (skipped (IsKeyOf keys) c.loop-k.k (listed c.loop-k.lists) c.loop-k.invariant (λ q e. no_key keys c.loop-k.k q w.in_default.is e))
    ]

pub returns : goal.returns
returns c =
    let all : length c.args.keys.now ≤ c.loop-k.k = c.loop-k-test.false in
    record {
      each = λ k key e. c.loop-k.invariant.0 k key (let lt : k < length c.args.keys.now = slice_get_within c.args.keys.now k _ e in omega arith) e;
      in_range = λ key k has. (let lt = c.loop-k.invariant.1 key k has in let end = c.loop-k.auto.k-end in omega arith);
    }
