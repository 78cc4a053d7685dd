-- One look at a view after another.
use Rattle.std.proofs.Common.{◌≡◌, ◌∙◌, List, Some, Result, Ok, Err, IfOk, refl}
use Rattle.wy_event.specs.Record.{Recorded}
use Rattle.wy_view.specs.declared.view.ViewError.{ViewError}
use Rattle.wy_view.specs.View.{Keeps, KeepsCounts, Told}
use Rattle.wy_view.proofs.Views.{keeps_itself, keeps_on, refused_since}
use Rattle.wy_watch.specs.Looks.{Looks}

-- no look
pub no_look : {X : Type 0} (told : Told) (x : X) (answer : List Recorded → X) → ((rs : List Recorded) → told.records ≡ Some rs → x ≡ answer rs) → Looks (Ok x) told told answer
no_look told x answer same = record { keeps = keeps_itself told; counts = refl; is = same }

answer_as : {X : Type 0} (r : Result X ViewError) (x y : X) → x ≡ y → IfOk r (λ z. z ≡ x) → IfOk r (λ z. z ≡ y)
answer_as (Ok z) x y same h = h ∙ same
answer_as (Err e) x y same h = tt

-- the same answer in other words
pub look_as : {X : Type 0} (r : Result X ViewError) (old new : Told) (answer other : List Recorded → X) → ((rs : List Recorded) → old.records ≡ Some rs → answer rs ≡ other rs)
    → Looks r old new answer → Looks r old new other
look_as r old new answer other same look = record {
  keeps = look.keeps;
  counts = look.counts;
  is = λ rs told. answer_as r (answer rs) (other rs) (same rs told) (look.is rs told);
}

-- one that is refused
pub look_refused : {X Y : Type 0} (e : ViewError) (old new : Told) (answer : List Recorded → X) (other : List Recorded → Y) → Looks (Err e) old new answer → Looks (Err e) old new other
look_refused e old new answer other look = record { keeps = look.keeps; counts = look.counts; is = λ rs told. tt }

counts_on : {Y : Type 0} (r : Result Y ViewError) (a b c : Told) → Keeps a b → b.faults ≡ a.faults → Keeps b c → KeepsCounts r b c → KeepsCounts r a c
counts_on (Ok y) a b c first same second h = h ∙ same
counts_on (Err e) a b c first same second h = refused_since e a b c first same second h

-- a look behind calls that went well
pub look_behind : {X : Type 0} (a b c : Told) (r : Result X ViewError) (second whole : List Recorded → X) → Keeps a b → b.faults ≡ a.faults
    → ((rs : List Recorded) → a.records ≡ Some rs → second rs ≡ whole rs) → Looks r b c second → Looks r a c whole
look_behind a b c r second whole keeps faults same two = record {
  keeps = keeps_on a b c keeps two.keeps;
  counts = counts_on r a b c keeps faults two.keeps two.counts;
  is = λ rs told. answer_as r (second rs) (whole rs) (same rs told) (two.is rs (keeps.records ∙ told));
}

-- a look behind one that was answered
pub look_on : {X Y : Type 0} (a b c : Told) (x : X) (r : Result Y ViewError) (first : List Recorded → X) (second whole : List Recorded → Y)
    → ((rs : List Recorded) → a.records ≡ Some rs → x ≡ first rs → second rs ≡ whole rs) → Looks (Ok x) a b first → Looks r b c second → Looks r a c whole
look_on a b c x r first second whole same one two = look_behind a b c r second whole one.keeps one.counts (λ rs told. same rs told (one.is rs told)) two
