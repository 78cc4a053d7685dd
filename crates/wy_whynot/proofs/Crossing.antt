-- What was crossed ended at a point that was executed.
use Rattle.std.proofs.Common.{◌≡◌, ⊎_elim, Bool, true, false, List, [], ◌∷◌, ◌∙◌, refl, ap}
use Rattle.std.specs.Prelude.{◌||◌}
use Rattle.std.specs.List.{Contains, list_any}
use Rattle.wy_kernel.specs.Program.{Program}
use Rattle.wy_event.specs.declared.record.Cover.{Cover}
use Rattle.wy_event.specs.Record.{Recorded}
use Rattle.wy_static.specs.declared.point.Point.{Point}
use Rattle.wy_static.specs.declared.point.Point.TheVariants as point
use Rattle.wy_static.specs.declared.point.LinkKind.{LinkKind}
use Rattle.wy_static.specs.declared.point.LinkKind.TheVariants as kind
use Rattle.wy_static.specs.declared.point.Link.{Link}
use Rattle.wy_whynot.specs.Executed.{begins_at, executed, IsCrossed, IsCrossedAs}
use Rattle.wy_paths.proofs.Sorting.{in_cases}
use Rattle.wy_paths.proofs.Spreading.{nothing_in}

pub any_holds : {X : Type 0} (test : X → Bool) (xs : List X) (x : X) → Contains xs x → test x ≡ true → list_any test xs ≡ true
any_holds test [] x i h = nothing_in x i
any_holds test (y ∷ ys) x i h = ⊎_elim
    (λ (e : y ≡ x). ap (λ b. b || list_any test ys) (ap test e ∙ h))
    (λ (j : Contains ys x). later (test y) (any_holds test ys x j h))
    (in_cases y x ys i)
  where
    later : (b : Bool) → list_any test ys ≡ true → (b || list_any test ys) ≡ true
    later true k = refl
    later false k = k

called_executed : (rs : List Recorded) (covers : List Cover) (q : Point) (r : Recorded) → Contains rs r → begins_at q r ≡ true → executed rs covers q ≡ true
unfolding executed
called_executed rs covers point.Start r i h = refl
called_executed rs covers (point.Entry method) r i h = any_holds _ rs r i h
called_executed rs covers (point.Init class) r i h = any_holds _ rs r i h
called_executed rs covers (point.Statement n) r i h = absurd (cc)
called_executed rs covers (point.Arm site value) r i h = absurd (cc)
called_executed rs covers (point.Catch site) r i h = absurd (cc)

crossed_as : (k : LinkKind) (p : Program) (rs : List Recorded) (covers : List Cover) (l : Link) → IsCrossedAs k p rs covers l → executed rs covers l.to ≡ true
crossed_as kind.Into p rs covers l c = c.1
crossed_as kind.Next p rs covers l c = c.1
crossed_as (kind.Arm value) p rs covers l c = c.1
crossed_as kind.Call p rs covers l c = called_executed rs covers l.to c.event c.there c.begins
crossed_as kind.Catch p rs covers l c = c.1

pub crossed_executed : (p : Program) (rs : List Recorded) (covers : List Cover) (l : Link) → IsCrossed p rs covers l → executed rs covers l.to ≡ true
crossed_executed p rs covers l c = crossed_as l.kind p rs covers l c
