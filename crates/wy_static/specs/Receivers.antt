-- What is kept of the classes that may receive calls, and of the targets that were found.
use Rattle.std.specs.Prelude.{◌≡◌, ℕ, List, ◌↔◌, Vec, Some, IsSome}
use Rattle.std.specs.List.{Contains}
use Rattle.std.specs.declared.alloc.Global.{Global}
use Rattle.std.specs.BTreeMap.{get}
use Rattle.wy_kernel.specs.Program.{Program}
use Rattle.wy_kernel.specs.Subtyping.{Supertype}
use Rattle.wy_static.specs.declared.class.Receivers.{Receivers}
use Rattle.wy_static.specs.declared.class.Targets.{Targets}
use Rattle.wy_static.specs.Links.{MayReceive, IsTarget}
use Rattle.wy_static.specs.Order.{pair_cmp}
use Rattle.wy_static.specs.Rows.{kept_under}

-- all classes that may receive calls, and under each number those with that supertype
pub record AreReceivers (r : Receivers) (p : Program) : Type 0 where
  pub all : (c : ℕ) → Contains r.all.items c ↔ MayReceive p c
  pub below : (c d : ℕ) → Contains (kept_under r.below d) c ↔ (MayReceive p c × Supertype p.classes c d)

-- the numbers are those of the targets of a call
abbrev pub AreTargetsOf : Program → ℕ → ℕ → List ℕ → Type 0
AreTargetsOf p m d methods = (n : ℕ) → Contains methods n ↔ IsTarget p m d n

-- the targets that were found are those of their method and class
pub record AreTargets (t : Targets) (p : Program) : Type 0 where
  pub receivers : AreReceivers t.receivers p
  pub found : (m d : ℕ) (ns : Vec ℕ Global)
      → get pair_cmp t.found (m, d) ≡ Some ns → AreTargetsOf p m d ns.items

abbrev pub WasFound : Targets → ℕ → ℕ → Type 0
WasFound t m d = IsSome (get pair_cmp t.found (m, d))
