-- Loops, where the number of steps that are left may be looked at.
use Rattle.std.proofs.Common.{ℕ, zero, suc, Bool}
use Rattle.wy_steps.specs.Sets.{Sets}
use Rattle.wy_steps.specs.State.{Run, StepLimit, ◌>>◌, return, choose}
use Rattle.wy_steps.specs.Steps.{steps_left}
use Rattle.wy_meaning.specs.Statement.{turns, while_form, do_form}
use Rattle.law_induction.specs.Law.{Fact, nothing, Region, StepLaw, Law}
use Rattle.law_induction.proofs.Rules.{trivially}

module _ (A : Sets) (S : StepLaw A) (counts : (r : Region) (P : Fact S.moments) → S.keeps r P steps_left (λ n. nothing)) where
  pub after : (r : Region) (P : Fact S.moments) (m k : Run A Unit) → ((P : Fact S.moments) → S.keeps r P m (λ t. nothing)) → ((P : Fact S.moments) → S.keeps r P k (λ t. nothing)) → S.keeps r P (m >> k) (λ t. nothing)
  unfolding ◌>>◌
  after r P m k h l = S.binds r P m (λ t. nothing) (λ t. k) (λ t. nothing) (h P) (λ t. l _)

  pub turns_keep : (n : ℕ) (r : Region) (test : Run A Bool) (m : Run A Unit) (P : Fact S.moments) → ((P : Fact S.moments) → S.keeps r P test (λ b. nothing)) → ((P : Fact S.moments) → S.keeps r P m (λ t. nothing)) → S.keeps r P (turns n test m) (λ t. nothing)
  unfolding turns
  turns_keep zero r test m P ht hm = S.stops r P StepLimit (λ t. nothing) tt
  turns_keep (suc n) r test m P ht hm =
      S.binds r P test (λ b. nothing) (λ b. choose b (m >> turns n test m) (return tt)) (λ t. nothing) (ht P) (λ b.
      S.chooses r _ b (m >> turns n test m) (return tt) (λ t. nothing) (λ e. after r _ m (turns n test m) hm (λ Q. turns_keep n r test m Q ht hm)) (λ e. S.returns r _ tt (λ t. nothing) trivially))

  unfoldable pub counted : Law A
  unfolding while_form do_form
  counted = record {
    steps = S;
    whiles = λ r P test m ht hm. S.binds r P steps_left (λ n. nothing) (λ n. turns (suc n) test m) (λ t. nothing) (counts r P) (λ n. turns_keep (suc n) r test m _ ht hm);
    dos = λ r P test m ht hm. S.binds r P steps_left (λ n. nothing) (λ n. m >> turns (suc n) test m) (λ t. nothing) (counts r P) (λ n. after r _ m (turns (suc n) test m) hm (λ Q. turns_keep (suc n) r test m Q ht hm));
  }
