-- The last print of a run, and how many events it comes from.
use Rattle.std.proofs.Common.{◌≡◌, ◌∙◌, ◌<◌, ◌-◌, ℕ, List, [], length, Option, Some, sym, ap, refl}
use Rattle.std.proofs.Math.Path.{fun_ext}
use Rattle.std.specs.Prelude.{None as Absent}
use Rattle.std.specs.Prelude.{slice_get}
use Rattle.wy_kernel.specs.Program.{Program}
use Rattle.wy_event.specs.Record.{Recorded}
use Rattle.wy_event.specs.Sources.{closure, data_closure}
use Rattle.wy_steps.specs.Sets.{nothing}
use Rattle.wy_meaning.specs.Run as meaning
use Rattle.wy_index.specs.Found.{prints_in}
use Rattle.wy_index.specs.Index.{owners_of}
use Rattle.wy_why.specs.Answer.{up_to}
use Rattle.wy_ask.specs.Asked.{owners}
use Rattle.wy_ask.proofs.Stores.{print_below}
use Rattle.wy_reply.specs.declared.sizes.size.Sizes.{Sizes}
use Rattle.wy_reply.specs.RunSizes.{answer_size, data_size, last_of, size_of, sizes_of}
use Rattle.wy_index.specs.declared.index.Index.{Index}

is_absent : {X : Type 0} (o : Option X) → ((x : X) → o ≡ Some x → ⊥) → o ≡ Absent
is_absent Absent other = refl
is_absent (Some x) other = absurd (other x refl)

module _ (p : Program) (rs : List Recorded) (prints : List ℕ) (last : Option ℕ) (all : prints ≡ prints_in rs) (found : last ≡ slice_get prints (length prints - 1)) where
  pub is_last : last ≡ last_of (prints_in rs)
  is_last = found ∙ ap last_of all

  -- ---- no print

  pub no_answer : ((e : ℕ) → last ≡ Some e → ⊥) → 0 ≡ answer_size p rs
  unfolding answer_size
  no_answer none = ap (size_of (closure (owners p) rs)) (sym (is_absent last none) ∙ is_last)

  pub no_data : ((e : ℕ) → last ≡ Some e → ⊥) → 0 ≡ data_size p rs
  unfolding data_size
  no_data none = ap (size_of (data_closure (owners p) rs)) (sym (is_absent last none) ∙ is_last)

  -- ---- a print

  module _ (event : ℕ) (is : last ≡ Some event) where
    pub is_below : event < length rs
    is_below = print_below rs (length (prints_in rs) - 1) (Some event) (sym is ∙ is_last)

    module _ (index : Index) (same : (f : ℕ) → owners_of index f ≡ owners p f) (events : List ℕ) where
      pub answer_counted : events ≡ up_to event (closure (owners_of index) rs event) → length events ≡ answer_size p rs
      unfolding answer_size
      answer_counted told = ap length told ∙ ap (λ o. length (up_to event (closure o rs event))) (fun_ext same) ∙ ap (size_of (closure (owners p) rs)) (sym is ∙ is_last)

      pub data_counted : events ≡ up_to event (data_closure (owners_of index) rs event) → length events ≡ data_size p rs
      unfolding data_size
      data_counted told = ap length told ∙ ap (λ o. length (up_to event (data_closure o rs event))) (fun_ext same) ∙ ap (size_of (data_closure (owners p) rs)) (sym is ∙ is_last)

-- ---- all sizes

pub measured : (p : Program) (steps : ℕ) (rs : List Recorded) (events answer flow : ℕ) → rs ≡ meaning.events nothing p [] steps → events ≡ (meaning.tail nothing p [] steps).events
    → answer ≡ answer_size p rs → flow ≡ data_size p rs → ◌≡◌ {A = Sizes} (record { events = events; answer = answer; «data» = flow }) (sizes_of p steps)
unfolding sizes_of
measured p steps rs events answer flow same all in_all by_data =
    let a : answer ≡ answer_size p (meaning.events nothing p [] steps) = in_all ∙ ap (answer_size p) same in
    let d : flow ≡ data_size p (meaning.events nothing p [] steps) = by_data ∙ ap (data_size p) same in
    λ i. record { events = all i; answer = a i; «data» = d i }
