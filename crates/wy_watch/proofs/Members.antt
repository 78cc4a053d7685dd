-- What objects and arrays have.
use Rattle.std.proofs.Common.{◌≡◌, ◌∙◌, ◌<◌, ℕ, true, false, ◌&&◌, nat_lt, List, Option, Some, None, cond, sym, ap}
use Rattle.std.proofs.lemmas.Bool.{lt-ltb}
use Rattle.wy_kernel.specs.Program.{is_array, type_of_code}
use Rattle.wy_value.specs.declared.value.Value.{Value}
use Rattle.wy_index.specs.declared.found.Made.{Made}
use Rattle.wy_watch.specs.Sight.{Sight}
use Rattle.wy_event.specs.declared.record.Slot.TheVariants.{Elem}
use Rattle.wy_watch.specs.Value.{array_member, element_of, member_of, object_member, stored_at}

pub of_array : (s : Sight) (name : List ℕ) (o : ℕ) (m : Made) (r : Option Value) → is_array (type_of_code m.entity) ≡ true → r ≡ array_member name m.length → r ≡ member_of s name o (Some m)
of_array s name o m r is e = e ∙ sym (ap (λ b. cond b (array_member name m.length) (object_member s name o m.entity)) is)

pub of_object : (s : Sight) (name : List ℕ) (o : ℕ) (m : Made) → is_array (type_of_code m.entity) ≡ false → object_member s name o m.entity ≡ member_of s name o (Some m)
of_object s name o m is = sym (ap (λ b. cond b (array_member name m.length) (object_member s name o m.entity)) is)

pub of_element : (s : Sight) (a : ℕ) (m : Made) (i : ℕ) → is_array (type_of_code m.entity) ≡ true → i < m.length → stored_at s (Elem a i) ≡ element_of s a (Some m) (Some i)
of_element s a m i is less =
    sym (ap (λ b. cond (b && nat_lt i m.length) (stored_at s (Elem a i)) None) is ∙ ap (λ b. cond b (stored_at s (Elem a i)) None) (lt-ltb i m.length less))
