-- What the prints of a trace wrote, one event after another.
use Rattle.std.proofs.Common.{◌≡◌, ◌∙◌, ◌<◌, ◌+◌, ℕ, Bool, true, false, List, [], ◌++◌, length, take, Option, Some, ⊎_elim, refl, sym, ap, subst, arith}
use Rattle.std.specs.List.{flat_map}
use Rattle.std.specs.Prelude.{IfSome, if◌then◌else◌, slice_get}
use Rattle.std.proofs.lemmas.List.{append_assoc, append-nil}
use Rattle.std.proofs.lemmas.Option.{same_Some, slice_get_cases}
use Rattle.wy_event.specs.declared.record.Kind.{Kind}
use Rattle.wy_event.specs.declared.record.Kind.TheVariants.{Print}
use Rattle.wy_event.specs.Record.{Recorded}
use Rattle.wy_index.specs.Found.{is_print}
use Rattle.wy_kernel.specs.Program.{Program}
use Rattle.wy_meaning.specs.Text.{line_end}
use Rattle.wy_value.specs.declared.value.Value.{Value}
use Rattle.wy_value.specs.Encoding.{utf8_of}
use Rattle.wy_telling.specs.Printed.{ends_line, printed_by, printed_units}
use Rattle.wy_telling.proofs.Asked.{one_line}

-- ---- an event

pub not_print : (k : Kind) → ¬ (k ≡ Print) → is_print k ≡ false
not_print Print other = absurd (other refl)
not_print _ other = refl

pub one_record : (o : Option Recorded) (a e : Recorded) → o ≡ Some a → o ≡ Some e → a ≡ e
one_record o a e first second = same_Some a e (sym first ∙ second)

-- a Print wrote its value, and a line feed where its site ends a line
pub print_wrote : (p : Program) (rs : List Recorded) (e : Recorded) (k : Kind) (site : ℕ) (value : Value) (ends : Bool) (old mid new : List ℕ) → is_print k ≡ true → k ≡ e.kind → site ≡ e.site → value ≡ e.value
    → ends ≡ ends_line p site → mid ≡ old ++ utf8_of (printed_units p rs value) → new ≡ mid ++ line_end ends → new ≡ old ++ printed_by p rs e
unfolding printed_by
print_wrote p rs e k site value ends old mid new prints kind_is site_is value_is ends_is first second =
    let wrote : Value → List ℕ = λ v. utf8_of (printed_units p rs v) in
    let all : List ℕ = wrote e.value ++ line_end (ends_line p e.site) in
    second ∙ ap (λ xs. xs ++ line_end ends) first ∙ append_assoc old (wrote value) (line_end ends)
    ∙ ap (λ v. old ++ (wrote v ++ line_end ends)) value_is
    ∙ ap (λ b. old ++ (wrote e.value ++ line_end b)) (ends_is ∙ ap (ends_line p) site_is)
    ∙ ap (λ b. old ++ (if b then all else [])) (sym prints ∙ ap is_print kind_is)

-- and another event wrote nothing
pub other_wrote : (p : Program) (rs : List Recorded) (e : Recorded) (k : Kind) (old new : List ℕ) → is_print k ≡ false → k ≡ e.kind → new ≡ old → new ≡ old ++ printed_by p rs e
unfolding printed_by
other_wrote p rs e k old new other kind_is same =
    let all : List ℕ = utf8_of (printed_units p rs e.value) ++ line_end (ends_line p e.site) in
    same ∙ sym (append-nil old) ∙ ap (λ b. old ++ (if b then all else [])) (sym other ∙ ap is_print kind_is)

-- ---- the events of a view

pub all_told : (told : Option (List Recorded)) (rs : List Recorded) (count : ℕ) → told ≡ Some rs → IfSome told (λ t. length t ≡ count) → length rs ≡ count
all_told told rs count is counted = subst (λ o. IfSome o (λ t. length t ≡ count)) is counted

-- what one event more wrote
pub one_more : (f : Recorded → List ℕ) (rs : List Recorded) (n : ℕ) (text more : List ℕ) → n < length rs → text ≡ flat_map f (take n rs) → ((e : Recorded) → slice_get rs n ≡ Some e → more ≡ text ++ f e) → more ≡ flat_map f (take (n + 1) rs)
one_more f rs n text more lt so_far is =
    ⊎_elim (λ h. one_line f rs n h.0 text more h.1 so_far (is h.0 h.2 ∙ ap (λ e. text ++ f e) (sym h.3))) (λ h. absurd (omega (arith, lt, h.0))) (slice_get_cases rs n).1
