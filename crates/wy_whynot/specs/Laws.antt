-- What holds of each list of items.
use Rattle.std.specs.Prelude.{◌≡◌, ℕ, List, [], ◌↔◌}
use Rattle.std.specs.List.{Contains}
use Rattle.wy_kernel.specs.Program.{Program}
use Rattle.wy_event.specs.declared.record.Cover.{Cover}
use Rattle.wy_event.specs.Record.{Recorded}
use Rattle.wy_static.specs.declared.point.Point.TheVariants as point
use Rattle.wy_static.specs.declared.point.Link.{Link}
use Rattle.wy_whynot.specs.Chains.{IsChain}
use Rattle.wy_whynot.specs.Evidence.{Evidence}
use Rattle.wy_whynot.specs.Executed.{cover_of}
use Rattle.wy_whynot.specs.Items.{AreItems, links_of}

abbrev pub NeverBegan : List Cover → ℕ → Type 0
NeverBegan covers n = (cover_of covers n).begins ≡ 0

-- every chain to a statement that never began has an item's link in it
abbrev pub ItemsAreACut : Type 0
ItemsAreACut =
    (p : Program) (rs : List Recorded) (covers : List Cover) (n : ℕ) (items : List Evidence)
    → NeverBegan covers n → AreItems p rs covers n items
    → (chain : List Link) → IsChain p (point.Statement n) chain
    → (l : Link) × Contains chain l × Contains (links_of items) l

-- there are none exactly where no chain leads to the statement
abbrev pub NoneWhereNoChain : Type 0
NoneWhereNoChain =
    (p : Program) (rs : List Recorded) (covers : List Cover) (n : ℕ) (items : List Evidence)
    → NeverBegan covers n → AreItems p rs covers n items
    → (items ≡ []) ↔ ((chain : List Link) → IsChain p (point.Statement n) chain → ⊥)

-- a statement has one list of items
abbrev pub ItemsAreOne : Type 0
ItemsAreOne =
    (p : Program) (rs : List Recorded) (covers : List Cover) (n : ℕ) (xs ys : List Evidence)
    → AreItems p rs covers n xs → AreItems p rs covers n ys → xs ≡ ys
