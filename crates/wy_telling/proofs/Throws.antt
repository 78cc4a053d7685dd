-- What a trace says of a Throw, by what was read of it.
use Rattle.std.proofs.Common.{◌≡◌, ◌∙◌, ◌<◌, ◌≤◌, ◌==◌, ℕ, Bool, true, false, List, length, Option, Some, refl, sym, ap}
use Rattle.std.specs.Prelude.{if◌then◌else◌, option_and_then, option_map, slice_get}
use Rattle.std.specs.Prelude.{None as Absent}
use Rattle.std.proofs.lemmas.Option.{slice_get_past}
use Rattle.wy_event.specs.Record.{Recorded}
use Rattle.wy_kernel.specs.View.{NONE, present}
use Rattle.wy_kernel.specs.Program.{class_of_type, type_of_code}
use Rattle.wy_meaning.specs.World.{type_in}
use Rattle.wy_steps.specs.Steps.{code_of}
use Rattle.wy_telling.specs.Thrown.{class_thrown, throw_in, thrown_class, thrown_site}
use Rattle.wy_telling.proofs.Values.{is_there}

-- ---- no such event

past_if : (rs : List Recorded) (last : ℕ) (b : Bool) → length rs ≤ last → throw_in rs (if b then Absent else Some last) ≡ Absent
past_if rs last true past = refl
past_if rs last false past = slice_get_past rs last past

no_throw : (rs : List Recorded) (last : ℕ) → length rs ≤ last → throw_in rs (present last) ≡ Absent
unfolding present
no_throw rs last past = past_if rs last (last == NONE) past

nothing : present NONE ≡ Absent
unfolding present
nothing = refl

pub no_class : (rs : List Recorded) (last : ℕ) → length rs ≤ last → present NONE ≡ thrown_class rs (present last)
unfolding thrown_class
no_class rs last past = nothing ∙ sym (ap (option_map (class_thrown rs)) (no_throw rs last past))

pub no_site : (rs : List Recorded) (last : ℕ) → length rs ≤ last → present NONE ≡ thrown_site rs (present last)
unfolding thrown_site
no_site rs last past = nothing ∙ sym (ap (option_and_then (λ e. present e.site)) (no_throw rs last past))

pub no_object : (rs : List Recorded) (n class : ℕ) → length rs ≤ n → class ≡ class_of_type (type_in Absent) → class ≡ class_of_type (type_in (slice_get rs n))
no_object rs n class past is = is ∙ sym (ap (λ o. class_of_type (type_in o)) (slice_get_past rs n past))

-- ---- a Throw that is there

pub class_read : (rs : List Recorded) (last class : ℕ) (e : Recorded) → last < NONE → class < NONE → slice_get rs last ≡ Some e → class ≡ class_thrown rs e → present class ≡ thrown_class rs (present last)
unfolding thrown_class
class_read rs last class e lt less at is =
    is_there class less ∙ ap Some is ∙ sym (ap (λ o. option_map (class_thrown rs) (throw_in rs o)) (is_there last lt) ∙ ap (option_map (class_thrown rs)) at)

pub site_read : (rs : List Recorded) (last site : ℕ) (e : Recorded) → last < NONE → slice_get rs last ≡ Some e → site ≡ e.site → present site ≡ thrown_site rs (present last)
unfolding thrown_site
site_read rs last site e lt at is =
    ap present is ∙ sym (ap (λ o. option_and_then (λ r. present r.site) (throw_in rs o)) (is_there last lt) ∙ ap (option_and_then (λ r. present r.site)) at)

-- the class of an object, by the record that made it
pub made_read : (rs : List Recorded) (n class code : ℕ) (entity : Option ℕ) (e : Recorded) → slice_get rs n ≡ Some e → class ≡ class_of_type (type_of_code code) → code ≡ code_of entity → entity ≡ e.entity
    → class ≡ class_of_type (type_in (slice_get rs n))
unfolding type_in
made_read rs n class code entity e at is of about =
    is ∙ ap (λ k. class_of_type (type_of_code k)) (of ∙ ap code_of about) ∙ sym (ap (λ o. class_of_type (type_in o)) at)
