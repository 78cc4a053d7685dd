-- A word names one statement, which has one answer.
use Rattle.std.proofs.Common.{◌≡◌, ◌∙◌, ℕ, ◌-◌, ◌<◌, List, length, refl, sym, ap, subst, arith}
use Rattle.std.specs.Prelude.{Result, Ok, Err}
use Rattle.std.proofs.lemmas.List.Sorted.{length_permutation}
use Rattle.std.proofs.lemmas.Option.{slice_get_within}
use Rattle.wy_kernel.specs.Program.{Program}
use Rattle.wy_kernel.specs.Statements.{statements_of}
use Rattle.wy_event.specs.declared.record.Cover.{Cover}
use Rattle.wy_event.specs.Record.{Recorded}
use Rattle.wy_ask.specs.Lines.{numbers_on}
use Rattle.wy_ask.specs.Statements.{IsPlaced, Names}
use Rattle.wy_ask.proofs.Rising.{one_place}
use Rattle.wy_whynot.specs.Evidence.{Evidence}
use Rattle.wy_whynot.specs.Executed.{cover_of}
use Rattle.wy_whynot.specs.Items.{AreItems, HasRun}
use Rattle.wy_whynot.specs.Laws.{ItemsAreOne}
use Rattle.wy_telling.specs.Items.{items_text}
use Rattle.wy_telling.specs.Whynot.{Denied, NamesStatement, NoSuch, OneAnswerToWhynot, Ran, WhynotIs, answered, not_read, not_there, ran}

-- the same place in the same numbers, with the same statement
pub record Same (l k n m j o : ℕ) : Type 0 where
  pub line : m ≡ l
  pub place : j ≡ k
  pub statement : o ≡ n

module _ (p : Program) (lines : List ℕ) (word : List ℕ) where
  pub same_statement : (l k n m j o : ℕ) → NamesStatement p lines word l k n → NamesStatement p lines word m j o → Same l k n m j o
  same_statement l k n m j o a b =
      let same = a.names.only m j b.names.spelled in
      let moved : IsPlaced (numbers_on lines l (statements_of p)) k o =
      subst (λ z. IsPlaced (numbers_on lines l (statements_of p)) z o) same.1
      (subst (λ z. IsPlaced (numbers_on lines z (statements_of p)) j o) same.0 b.placed) in
      record { line = same.0; place = same.1; statement = one_place (numbers_on lines l (statements_of p)) k n o a.placed moved }

  placed_within : (numbers : List ℕ) (k n : ℕ) → IsPlaced numbers k n → length numbers < k → ⊥
  placed_within numbers k n a short =
      let within : k - 1 < length a.rising = slice_get_within a.rising (k - 1) n a.there in
      omega (arith, within, short, length_permutation numbers a.rising a.rises.same)

  pub there_or_not : (l k n m j : ℕ) → NamesStatement p lines word l k n → Names word m j
      → length (numbers_on lines m (statements_of p)) < j → ⊥
  there_or_not l k n m j a names short =
      let same = a.names.only m j names.spelled in
      placed_within (numbers_on lines l (statements_of p)) k n a.placed
      (subst (λ z. length (numbers_on lines l (statements_of p)) < z) same.1
      (subst (λ z. length (numbers_on lines z (statements_of p)) < j) same.0 short))

module _ (one : ItemsAreOne) (p : Program) (lines : List ℕ) (rs : List Recorded) (covers : List Cover) (word : List ℕ) where
  ran_or_not : (l k n m j o count start : ℕ) → NamesStatement p lines word l k n → NamesStatement p lines word m j o
      → (cover_of covers n).begins ≡ 0 → HasRun covers o count start → ⊥
  ran_or_not l k n m j o count start a b none has =
      has.began (ap (λ z. (cover_of covers z).begins) (same_statement p lines word l k n m j o a b).statement ∙ none)

  one_text : (l k n m j o : ℕ) (xs ys : List Evidence) → NamesStatement p lines word l k n → NamesStatement p lines word m j o
      → AreItems p rs covers n xs → AreItems p rs covers o ys → xs ≡ ys
  one_text l k n m j o xs ys a b are also =
      one p rs covers n xs ys are (subst (λ z. AreItems p rs covers z ys) (same_statement p lines word l k n m j o a b).statement also)

  one_run : (l k n m j o c f d g : ℕ) → NamesStatement p lines word l k n → NamesStatement p lines word m j o
      → HasRun covers n c f → HasRun covers o d g → Ran l k c f ≡ Ran m j d g
  one_run l k n m j o c f d g a b has also =
      let same = same_statement p lines word l k n m j o a b in
      let count : c ≡ d = has.count_is ∙ sym (ap (λ z. (cover_of covers z).begins) same.statement) ∙ sym also.count_is in
      let start : f ≡ g = has.first_is ∙ sym (ap (λ z. (cover_of covers z).first) same.statement) ∙ sym also.first_is in
      λ i. Ran (sym same.line i) (sym same.place i) (count i) (start i)

  one_answer : (a b : Result (List ℕ) Denied) → WhynotIs p lines rs covers word a → WhynotIs p lines rs covers word b → a ≡ b
  one_answer _ _ (answered l k n xs named none are) (answered m j o ys also nothing have) = ap (λ i. Ok (items_text p lines i)) (one_text l k n m j o xs ys named also are have)
  one_answer _ _ (answered l k n xs named none are) (ran m j o c f also has) = absurd (ran_or_not l k n m j o c f named also none has)
  one_answer _ _ (answered l k n xs named none are) (not_there m j names short) = absurd (there_or_not p lines word l k n m j named names short)
  one_answer _ _ (answered l k n xs named none are) (not_read unread) = absurd (unread l k named.names.spelled)
  one_answer _ _ (ran l k n c f named has) (answered m j o ys also none have) = absurd (ran_or_not m j o l k n c f also named none has)
  one_answer _ _ (ran l k n c f named has) (ran m j o d g also too) = ap Err (one_run l k n m j o c f d g named also has too)
  one_answer _ _ (ran l k n c f named has) (not_there m j names short) = absurd (there_or_not p lines word l k n m j named names short)
  one_answer _ _ (ran l k n c f named has) (not_read unread) = absurd (unread l k named.names.spelled)
  one_answer _ _ (not_there l k names short) (answered m j o ys also none have) = absurd (there_or_not p lines word m j o l k also names short)
  one_answer _ _ (not_there l k names short) (ran m j o d g also too) = absurd (there_or_not p lines word m j o l k also names short)
  one_answer _ _ (not_there l k names short) (not_there m j also less) = ap (λ z. Err (NoSuch z)) (sym (names.only m j also.spelled).0)
  one_answer _ _ (not_there l k names short) (not_read unread) = absurd (unread l k names.spelled)
  one_answer _ _ (not_read none) (answered m j o ys also nothing have) = absurd (none m j also.names.spelled)
  one_answer _ _ (not_read none) (ran m j o d g also too) = absurd (none m j also.names.spelled)
  one_answer _ _ (not_read none) (not_there m j names short) = absurd (none m j names.spelled)
  one_answer _ _ (not_read none) (not_read unread) = refl

pub one_answer_to_word : ItemsAreOne → OneAnswerToWhynot
one_answer_to_word one = λ p lines rs covers word a b first second. one_answer one p lines rs covers word a b first second
