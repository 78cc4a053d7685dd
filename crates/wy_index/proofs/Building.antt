-- One look more, and the index of all that was looked at.
use Rattle.std.proofs.Common.{◌≡◌, ℕ, zero, suc, ◌+◌, ◌≤◌, Bool, true, false, List, [], ◌∷◌, ◌++◌, length, map, take, get_or, Option, Some, None, refl, sym, ap, ap₂, ◌∙◌, length-append, arith}
use Rattle.std.specs.Prelude.{slice_get, IfSome}
use Rattle.std.proofs.lemmas.List.{take_more, get_or_past}
use Rattle.std.proofs.Math.Seq.{take-length}
use Rattle.std.proofs.lemmas.Option.{slice_get_within, get_or_from_slice_get}
use Rattle.wy_kernel.specs.declared.types.Field.{Field}
use Rattle.wy_kernel.specs.Program as program
use Rattle.wy_kernel.specs.View.{field_of}
use Rattle.wy_event.specs.Record.{Recorded}
use Rattle.wy_event.specs.Sources.{is_write}
use Rattle.wy_kernel.specs.declared.types.Ty.TheVariants.{Void}
use Rattle.wy_index.specs.declared.posting.Posting.{Posting}
use Rattle.wy_index.specs.Found.{gathered, one_if, posting_of}

-- each record has at most one posting
few_if : {X : Type 0} (b : Bool) (x : X) → length (one_if b x) ≤ 1
few_if true x = omega arith
few_if false x = omega arith

pub few_postings : (n : ℕ) (rs : List Recorded) → length (gathered posting_of n rs) ≤ length rs
few_postings n [] = omega arith
few_postings n (r ∷ rs) = omega (arith, length-append (posting_of n r) (gathered posting_of (suc n) rs), few_if {X = Posting} (is_write r.kind) (record { slot = r.slot; event = n }), few_postings (suc n) rs)

-- what was looked at is a prefix of what is told
pub told_more : (o : Option (List Recorded)) (rs : List Recorded) (r : Recorded) (n : ℕ) → IfSome o (λ t. rs ≡ take n t) → IfSome o (λ t. slice_get t n ≡ Some r) → IfSome o (λ t. rs ++ r ∷ [] ≡ take (n + 1) t)
told_more None rs r n front next = tt
told_more (Some t) rs r n front next =
    ap₂ (λ a b. a ++ b ∷ []) front (sym (get_or_from_slice_get t n r r next)) ∙ sym (take_more t n r (slice_get_within t n r next))

pub all_told : (o : Option (List Recorded)) (rs : List Recorded) (n : ℕ) → IfSome o (λ t. rs ≡ take n t) → IfSome o (λ t. length t ≡ n) → IfSome o (λ t. t ≡ rs)
all_told None rs n front whole = tt
all_told (Some t) rs n front whole = sym (front ∙ ap (λ k. take k t) (sym whole) ∙ take-length t)

class_kept : (fields : List Field) (past : program.Field) (n : ℕ) → past.class ≡ 0 → get_or (map (λ (f : Field). f.class) fields) n 0 ≡ (get_or (map field_of fields) n past).class
class_kept [] past n none = get_or_past [] n 0 (omega arith) ∙ sym (ap (λ (f : program.Field). f.class) (get_or_past [] n past (omega arith)) ∙ none)
class_kept (f ∷ fields) past zero none = refl
class_kept (f ∷ fields) past (suc n) none = class_kept fields past n none

-- the class of a field, where its number is past the end too
pub owner_kept : (p : program.Program) (fields : List Field) (n : ℕ) → p.fields ≡ map field_of fields → get_or (map (λ (f : Field). f.class) fields) n 0 ≡ (program.field p n).class
unfolding program.field
owner_kept p fields n is =
    let past : program.Field = record { name = []; site = 0; class = 0; ty = Void; is_static = false; is_final = false; is_fixed = false; is_private = false } in
    class_kept fields past n refl ∙ ap (λ l. (get_or l n past).class) (sym is)
