-- The links of a program, and the possible targets of a call that the class of its receiver decides.
use Rattle.std.specs.Prelude.{◌≡◌, ◌≢◌, ℕ, ◌<◌, false, List, length, ◌⊎◌, ◌↔◌}
use Rattle.std.specs.List.{Contains}
use Rattle.std.specs.List.Sorted.{IsStrictlySortedBy}
use Rattle.wy_kernel.specs.Program.{Program, class, dispatch, object_class, string_class}
use Rattle.wy_kernel.specs.Subtyping.{Supertype}
use Rattle.wy_static.specs.declared.point.Point.{Point}
use Rattle.wy_static.specs.declared.point.Point.TheVariants as point
use Rattle.wy_static.specs.declared.point.Link.{Link}
use Rattle.wy_static.specs.declared.way.Goal.{Goal}
use Rattle.wy_static.specs.declared.way.Goal.TheVariants.{Known, Chosen}
use Rattle.wy_static.specs.declared.way.Way.{Way}
use Rattle.wy_static.specs.Ways.{ways_of}
use Rattle.wy_static.specs.Order.{link_cmp}

-- ---- targets (JLS 15.12.4.4)

-- a class is itself, or below a class or an interface; each is below Object
abbrev pub IsAtOrBelow : Program → ℕ → ℕ → Type 0
IsAtOrBelow p c d = (d ≡ object_class) ⊎ Supertype p.classes c d

-- an object may be of a class that isn't abstract; the calls on a String are operations of the library
pub record MayReceive (p : Program) (c : ℕ) : Type 0 where
  pub there : c < length p.classes
  pub concrete : (class p c).is_abstract ≡ false
  pub no_text : c ≢ string_class

-- a call of method m on a receiver whose static type is class d may run method n:
-- a class at or below d that may receive calls runs it
pub record IsTarget (p : Program) (m d n : ℕ) : Type 0 where
  pub receiver : ℕ
  pub may : MayReceive p receiver
  pub below : IsAtOrBelow p receiver d
  pub runs : n ≡ dispatch p m receiver

-- ---- links

-- a way leads to its point, or to the entry of each target of its call
abbrev pub Meets : Program → Goal → Point → Type 0
Meets p (Known r) q = q ≡ r
Meets p (Chosen m d) q = (n : ℕ) × IsTarget p m d n × (q ≡ point.Entry n)

-- a link along a way
pub record IsAlong (p : Program) (w : Way) (l : Link) : Type 0 where
  pub kind : l.kind ≡ w.kind
  pub from : l.from ≡ w.from
  pub site : l.site ≡ w.site
  pub to : Meets p w.goal l.to

-- a link along one of some ways
pub record IsAlongOneOf (p : Program) (ways : List Way) (l : Link) : Type 0 where
  pub way : Way
  pub among : Contains ways way
  pub along : IsAlong p way l

abbrev pub IsLink : Program → Link → Type 0
IsLink p l = IsAlongOneOf p (ways_of p) l

-- the links of a program, each once and in order
pub record AreLinks (p : Program) (links : List Link) : Type 0 where
  pub exact : (l : Link) → Contains links l ↔ IsLink p l
  pub in_order : IsStrictlySortedBy link_cmp links

-- those that end at a point, each once and in order
pub record AreLinksInto (p : Program) (q : Point) (links : List Link) : Type 0 where
  pub exact : (l : Link) → Contains links l ↔ (IsLink p l × (l.to ≡ q))
  pub in_order : IsStrictlySortedBy link_cmp links
