use Rattle.std.proofs.Common.{◌≡◌, ◌++◌, ◌-◌, map, string_bytes}
use Rattle.std.specs.List.{range_with_len}
use Rattle.wy_gen.specs.Generated.{below, call, ended}
use Rattle.wy_gen.proofs.put_calls.Given as goal

-- what is written and the lines that are left are the whole
abbrev pub invariant-loop-k : goal.invariant-loop-k
invariant-loop-k l = string_bytes l.text ++ ended (map call (range_with_len l.k (l.n - l.k))) ≡ string_bytes l.fn.text ++ ended (map call (below l.n))
