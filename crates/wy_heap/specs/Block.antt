-- What events made, by their numbers; and how it lies in the lists of values and of units.
use Rattle.std.specs.Prelude.{◌≡◌, ◌<◌, ◌≤◌, ◌+◌, ◌^◌, ℕ, Bool, true, false, List, length, slice_index_or, Option}
use Rattle.wy_value.specs.declared.value.Value.{Value}
use Rattle.wy_value.specs.declared.value.Value.TheVariants.{Null}
use Rattle.wy_heap.specs.declared.block.Block.{Block}
use Rattle.wy_heap.specs.declared.block.Block.TheVariants.{Nothing, Object, Array, Text}
use Rattle.wy_heap.specs.declared.layout.Row.{Row}
use Rattle.wy_heap.specs.Plan.{Plan, field_at, first_of, fields_of}
use Rattle.wy_heap.specs.Layout.{is_known}

abbrev pub block_at : List Block → ℕ → Block
block_at blocks n = slice_index_or blocks n Nothing

-- where the values of an object or an array begin
unfoldable pub begin_of : Block → ℕ
begin_of (Object c b l) = b
begin_of (Array k b l) = b
begin_of _ = 0

-- and how many they are
unfoldable pub length_of : Block → ℕ
length_of (Object c b l) = l
length_of (Array k b l) = l
length_of _ = 0

-- the value at a place is one of the block's
pub record Covers (b : Block) (p : ℕ) : Type 0 where
  pub from : begin_of b ≤ p
  pub below : p < begin_of b + length_of b

-- blocks have their values and units in the lists, no value is of two blocks, and objects have the rows of their classes
pub record AreApart (plan : Plan) (rows : List (Option Row)) (blocks : List Block) (values units : ℕ) : Type 0 where
  pub inside : (n p : ℕ) → Covers (block_at blocks n) p → p < values
  pub apart : (m n p : ℕ) → Covers (block_at blocks m) p → Covers (block_at blocks n) p → m ≡ n
  pub known : (n c b l : ℕ) → block_at blocks n ≡ Object c b l → is_known rows c ≡ true
  pub lengths : (n c b l : ℕ) → block_at blocks n ≡ Object c b l → l ≡ length (fields_of plan c)
  pub codes : (n c b l : ℕ) → block_at blocks n ≡ Object c b l → c + 16 < 2 ^ 32
  pub texts : (n b l : ℕ) → block_at blocks n ≡ Text b l → b + l ≤ units

-- a static field of a class that wasn't made has its first value
pub record AreFirst (plan : Plan) (begun : List Bool) (statics : List Value) : Type 0 where
  pub a_value_a_field : length statics ≡ length plan.fields
  pub each : (f : ℕ) → slice_index_or begun (field_at plan.fields f).class false ≡ false → slice_index_or statics f Null ≡ first_of plan f
