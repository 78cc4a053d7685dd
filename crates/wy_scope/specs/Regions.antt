-- The regions of a program: its entries and initializations, the arms of its tests, and the clauses of
-- its tries; and the region in which each statement stands (JLS 14.9, 14.12, 14.14.1, 14.20).
use Rattle.std.specs.Prelude.{ℕ, Bool, ◌==◌, List, [], ◌∷◌, ◌++◌, length, Option, Some, option_map, unwrap_or}
use Rattle.std.specs.Prelude.{None as Absent}
use Rattle.std.specs.List.{find, flat_map, range_with_len}
use Rattle.wy_kernel.specs.Form.{Part, absent, the, Statement, Stmt, Act, Block, If, While, Do, For, Labelled, Try, Other, nothing, this, Statements, done, first, Catches, uncaught, catch}
use Rattle.wy_kernel.specs.Program.{Program, Body, body, init_body}
use Rattle.wy_kernel.specs.Statements.{number_of}
use Rattle.wy_static.specs.declared.point.Point.{Point}
use Rattle.wy_static.specs.declared.point.Point.TheVariants as point
use Rattle.wy_scope.specs.declared.region.Located.{Located}

abbrev pub located : ℕ → Point → Located
located n q = record { statement = n; region = q }

-- the region that an arm or the body of a loop is
abbrev pub own_region : Statement → Point
own_region s = point.Statement (number_of s)

-- the body of a `for` and its updates are a region where a condition decides about them
abbrev pub loop_region : Point → Part → Statement → Point
loop_region q absent body = q
loop_region q (the test) body = own_region body

abbrev mutual
  -- a statement stands in a region, and so does what stands in it but for the regions that it makes
  pub regions : Point → Statement → List Located
  regions q (Stmt number site askable reach act) = located number q ∷ regions_within q act

  pub regions_within : Point → Act → List Located
  regions_within q (Block parts) = regions_of_all q parts
  regions_within q (If test if_true if_false) = regions (own_region if_true) if_true ++ arm_regions if_false
  regions_within q (While test body) = regions (own_region body) body
  regions_within q (Do body test) = regions q body
  regions_within q (For inits test updates body) = regions_of_all q inits ++ (regions (loop_region q test body) body ++ regions_of_all (loop_region q test body) updates)
  regions_within q (Labelled body) = regions q body
  regions_within q (Try main catches last) = regions q main ++ (regions_of_clauses catches ++ regions_of_other q last)
  regions_within q _ = []

  pub arm_regions : Other → List Located
  arm_regions nothing = []
  arm_regions (this s) = regions (own_region s) s

  pub regions_of_other : Point → Other → List Located
  regions_of_other q nothing = []
  regions_of_other q (this s) = regions q s

  pub regions_of_all : Point → Statements → List Located
  regions_of_all q done = []
  regions_of_all q (first s rest) = regions q s ++ regions_of_all q rest

  pub regions_of_clauses : Catches → List Located
  regions_of_clauses uncaught = []
  regions_of_clauses (catch class local site block rest) = regions (point.Catch site) block ++ regions_of_clauses rest

-- ---- the program

abbrev pub regions_of_body : Point → Option Body → List Located
regions_of_body q Absent = []
regions_of_body q (Some b) = regions q b.block

abbrev pub method_regions : Program → ℕ → List Located
method_regions p m = regions_of_body (point.Entry m) (body p m)

abbrev pub initializer_regions : Program → ℕ → List Located
initializer_regions p c = regions_of_body (point.Init c) (init_body p c)

abbrev pub regions_of : Program → List Located
regions_of p =
    flat_map (method_regions p) (range_with_len 0 (length p.bodies))
    ++ flat_map (initializer_regions p) (range_with_len 0 (length p.init_bodies))

abbrev pub is_about : ℕ → Located → Bool
is_about n x = x.statement == n

-- where a statement first stands; every other point is a region, and so is a statement that stands
-- nowhere
abbrev pub region_among : List Located → Point → Point
region_among all (point.Statement n) =
    unwrap_or (option_map (λ x. x.region) (find (is_about n) all)) (point.Statement n)
region_among all q = q

abbrev pub region_of : Program → Point → Point
region_of p q = region_among (regions_of p) q
