-- What clients see of a source in memory.
use Rattle.std.specs.Prelude.{ℕ, List, drop}
use Rattle.wy_outside.specs.declared.memory.source.MemorySource.{MemorySource}

-- the bytes that are still to come
abbrev pub left_of : MemorySource → List ℕ
left_of source = drop source.at source.bytes.items
