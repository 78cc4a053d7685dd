-- Answers of two views that tell the same records.
use Rattle.std.proofs.Common.{◌≡◌, ◌∙◌, ℕ, List, Option, Some, Result, Ok, Err, IfOk, IfErr, inl, inr, length, sym, refl, subst, arith}
use Rattle.std.specs.Prelude.{IfSome}
use Rattle.wy_event.specs.Record.{Recorded}
use Rattle.wy_view.specs.Counts.{Rose}
use Rattle.wy_view.specs.View.{KeepsCounts, RefusedFor, Told}
use Rattle.wy_view.specs.declared.view.ViewError.{ViewError}
use Rattle.wy_view.specs.declared.view.ViewError.TheVariants.{Changed, Gone, NoMemory, ReadFault}
use Rattle.wy_why.specs.declared.answer.Answer.{Answer}

-- where the records are told and no fault came, a view refuses for want of memory alone
refused : (e : ViewError) (old new : Told) (rs : List Recorded) → old.records ≡ Some rs → ¬ Rose old.faults new.faults → RefusedFor e old new → e ≡ NoMemory
refused ReadFault old new rs told unrisen h = absurd (unrisen h)
refused Gone old new rs told unrisen h = absurd (let never = sym told ∙ h.2 in cc)
refused (Changed block kept found) old new rs told unrisen h = absurd (let never = sym told ∙ h.3 in cc)
refused NoMemory old new rs told unrisen h = refl

pub only_memory : (r : Result Answer ViewError) (old new : Told) (rs : List Recorded) → old.records ≡ Some rs → ¬ Rose old.faults new.faults → KeepsCounts r old new → IfErr r (λ e. e ≡ NoMemory)
only_memory (Ok answer) old new rs told unrisen h = tt
only_memory (Err e) old new rs told unrisen h = refused e old new rs told unrisen h

pub no_faults : ¬ Rose 0 0
no_faults (inl less) = omega (arith, less)
no_faults (inr last) = omega (arith, last)

-- two answers that are these lists
pub one_answer : (a b : Result Answer ViewError) (all flow : List ℕ) → IfOk a (λ x. x.all.items ≡ all) → IfOk a (λ x. x.flow.items ≡ flow) → IfOk b (λ y. y.all.items ≡ all) → IfOk b (λ y. y.flow.items ≡ flow)
    → IfOk a (λ x. IfOk b (λ y. (x.all.items ≡ y.all.items) × (x.flow.items ≡ y.flow.items)))
one_answer (Ok x) (Ok y) all flow x_all x_flow y_all y_flow = (x_all ∙ sym y_all, x_flow ∙ sym y_flow)
one_answer (Ok x) (Err e) all flow x_all x_flow y_all y_flow = tt
one_answer (Err e) b all flow x_all x_flow y_all y_flow = tt

pub counted : (told : Option (List Recorded)) (rs : List Recorded) (count : ℕ) → told ≡ Some rs → IfSome told (λ t. length t ≡ count) → length rs ≡ count
counted told rs count is all = subst (λ o. IfSome o (λ t. length t ≡ count)) is all
