-- An event has one certificate, and bytes have one verdict.
use Rattle.std.proofs.Common.{◌≡◌, ◌+◌, ◌<◌, ◌≤◌, ℕ, zero, suc, List, [], ◌∷◌, Some, Ok, Err, Result, length, refl, sym, ap, ap₂, ◌∙◌, subst, ⊎_elim, arith}
use Rattle.std.specs.Prelude.{Contains}
use Rattle.std.proofs.lemmas.Bool.{cases_lt}
use Rattle.hex.specs.Hex.{encode_lower}
use Rattle.wy_event.specs.Record.{Recorded}
use Rattle.wy_event.specs.Sources.{Owners, closure, data_closure}
use Rattle.wy_why.specs.declared.answer.Answer.{Answer}
use Rattle.wy_why.specs.Answer.{up_to}
use Rattle.wy_cert.specs.declared.certificate.Certificate.{Certificate}
use Rattle.wy_cert.specs.declared.certificate.Listed.{Listed}
use Rattle.wy_cert.specs.Spelling.{events, spelled}
use Rattle.wy_cert.specs.Goodness.{AreSources, Certifies, IsFault, IsGood, least, not_last}
use Rattle.wy_check.specs.declared.error.CertError.{CertError}
use Rattle.wy_check.specs.declared.error.CertError.TheVariants.{NotRead, OtherTrace, BadEvent, View, NoMemory}
use Rattle.wy_check.specs.Checks.{IsAnswer, IsSpelled, Judges}
use Rattle.wy_check.specs.Laws.{IsVerdict, SayTheSame}
use Rattle.wy_check.proofs.Faults.{good_no_fault}
use Rattle.wy_check.proofs.Spellings.{head_same, one_spelling, tail_same}
use Rattle.wy_check.proofs.Weights.{one_list}

-- ---- one certificate

module _ (owner : Owners) (rs : List Recorded) where
  -- lines of the same events, each with the sources of its event
  same_lines : (ks ls : List Listed) → events ks ≡ events ls → ((l : Listed) → Contains ks l → AreSources owner rs l.event l.sources)
      → ((l : Listed) → Contains ls l → AreSources owner rs l.event l.sources) → ks ≡ ls
  same_lines [] [] same first second = refl
  same_lines [] (l ∷ ls) same first second = absurd (cc)
  same_lines (k ∷ ks) [] same first second = absurd (cc)
  same_lines (k ∷ ks) (l ∷ ls) same first second =
      let event = head_same k.event l.event (events ks) (events ls) same in
      let own = first k (0, omega arith, refl) in
      let other = second l (0, omega arith, refl) in
      let sources = one_list owner rs l.event k.sources l.sources (subst (λ n. AreSources owner rs n k.sources) event own) other in
      let rest = same_lines ks ls (tail_same k.event l.event (events ks) (events ls) same) (λ m has. first m (suc has.0, omega (arith, has.1), has.2)) (λ m has. second m (suc has.0, omega (arith, has.1), has.2)) in
      ap₂ (λ m ms. m ∷ ms) (ap₂ (λ e ss. record { event = e; sources = ss }) event sources) rest

  pub one_certificate : (seal : List ℕ) (event : ℕ) (x y : List ℕ) → Certifies owner rs seal event x → Certifies owner rs seal event y → x ≡ y
  one_certificate seal event x y a b =
      let c = a.certificate in
      let d = b.certificate in
      let hex = a.good.of_trace ∙ sym b.good.of_trace in
      let asked = a.asked ∙ sym b.asked in
      let lines = same_lines c.listed d.listed (a.listed ∙ sym b.listed) (λ l has. (a.good.sound l has).sources) (λ l has. (b.good.sound l has).sources) in
      let same : c ≡ d = λ i. record { hex = hex i; event = asked i; listed = lines i } in
      a.spelled ∙ ap spelled same ∙ sym b.spelled

  -- ---- one fault

  one_fault : (c : Certificate) (n m : ℕ) → IsFault owner rs c n → IsFault owner rs c m → n ≡ m
  one_fault c _ _ (least l has unsound before) (least k also wrong earlier) = ⊎_elim
      (λ (lt : l.event < k.event). absurd (unsound (earlier l has lt)))
      (λ (le : k.event ≤ l.event). ⊎_elim (λ (lt : k.event < l.event). absurd (wrong (before k also lt))) (λ (ge : l.event ≤ k.event). omega (arith, le, ge)) (cases_lt k.event l.event))
      (cases_lt l.event k.event)
  one_fault c _ _ (least l has unsound before) (not_last sound not) = absurd (unsound (sound l has))
  one_fault c _ _ (not_last sound not) (least l has unsound before) = absurd (unsound (sound l has))
  one_fault c _ _ (not_last sound not) (not_last also neither) = refl

  -- ---- one verdict

  module _ (seal bytes : List ℕ) where
    same_certificate : (c d : Certificate) → IsSpelled c bytes → IsSpelled d bytes → c ≡ d
    same_certificate c d first second = one_spelling c d first.written second.written (sym first.spelled ∙ second.spelled)

    abbrev IsOfOther : Certificate → Type 0
    IsOfOther c = c.hex ≡ encode_lower seal → ⊥

    not_other : (c d : Certificate) → IsSpelled c bytes → IsSpelled d bytes → c.hex ≡ encode_lower seal → IsOfOther d → ⊥
    not_other c d first second of other = subst IsOfOther (sym (same_certificate c d first second)) other of

    not_faulty : (c d : Certificate) (n : ℕ) → IsSpelled c bytes → IsSpelled d bytes → IsGood owner rs seal c → IsFault owner rs d n → ⊥
    not_faulty c d n first second good fault = good_no_fault owner rs seal c n good (subst (λ e. IsFault owner rs e n) (sym (same_certificate c d first second)) fault)

    same_answer : (c d : Certificate) (a b : Answer) → IsSpelled c bytes → IsSpelled d bytes → IsAnswer owner rs c.event a → IsAnswer owner rs d.event b → (a.all.items ≡ b.all.items) × (a.flow.items ≡ b.flow.items)
    same_answer c d a b first second answer other =
        let event = ap (λ (e : Certificate). e.event) (same_certificate c d first second) in
        (answer.all ∙ ap (λ e. up_to e (closure owner rs e)) event ∙ sym other.all, answer.flow ∙ ap (λ e. up_to e (data_closure owner rs e)) event ∙ sym other.flow)

    pub one_verdict : (r s : Result Answer CertError) → IsVerdict r → IsVerdict s → Judges owner (Some rs) seal bytes r → Judges owner (Some rs) seal bytes s → SayTheSame r s
    one_verdict (Ok a) (Ok b) is also (c, spelt, of, (good, answer)) (d, spelt_so, of_it, (good_too, other)) = same_answer c d a b spelt spelt_so answer other
    one_verdict (Ok a) (Err NotRead) is also (c, spelt, of, (good, answer)) none = absurd (none c spelt)
    one_verdict (Ok a) (Err OtherTrace) is also (c, spelt, of, (good, answer)) (d, spelt_so, other) = absurd (not_other c d spelt spelt_so of other)
    one_verdict (Ok a) (Err (BadEvent m)) is also (c, spelt, of, (good, answer)) (d, spelt_so, of_it, fault) = absurd (not_faulty c d m spelt spelt_so good fault)
    one_verdict (Err NotRead) (Ok b) is also none (d, spelt_so, of_it, (good, answer)) = absurd (none d spelt_so)
    one_verdict (Err NotRead) (Err NotRead) is also none neither = refl
    one_verdict (Err NotRead) (Err OtherTrace) is also none (d, spelt_so, other) = absurd (none d spelt_so)
    one_verdict (Err NotRead) (Err (BadEvent m)) is also none (d, spelt_so, of_it, fault) = absurd (none d spelt_so)
    one_verdict (Err OtherTrace) (Ok b) is also (c, spelt, other) (d, spelt_so, of_it, (good, answer)) = absurd (not_other d c spelt_so spelt of_it other)
    one_verdict (Err OtherTrace) (Err NotRead) is also (c, spelt, other) none = absurd (none c spelt)
    one_verdict (Err OtherTrace) (Err OtherTrace) is also first second = refl
    one_verdict (Err OtherTrace) (Err (BadEvent m)) is also (c, spelt, other) (d, spelt_so, of_it, fault) = absurd (not_other d c spelt_so spelt of_it other)
    one_verdict (Err (BadEvent n)) (Ok b) is also (c, spelt, of, fault) (d, spelt_so, of_it, (good, answer)) = absurd (not_faulty d c n spelt_so spelt good fault)
    one_verdict (Err (BadEvent n)) (Err NotRead) is also (c, spelt, of, fault) none = absurd (none c spelt)
    one_verdict (Err (BadEvent n)) (Err OtherTrace) is also (c, spelt, of, fault) (d, spelt_so, other) = absurd (not_other c d spelt spelt_so of other)
    one_verdict (Err (BadEvent n)) (Err (BadEvent m)) is also (c, spelt, of, fault) (d, spelt_so, of_it, other) =
        ap BadEvent (one_fault c n m fault (subst (λ e. IsFault owner rs e m) (sym (same_certificate c d spelt spelt_so)) other))
    one_verdict (Err (View e)) s is also first second = absurd is
    one_verdict (Err NoMemory) s is also first second = absurd is
    one_verdict (Ok a) (Err (View e)) is also first second = absurd also
    one_verdict (Ok a) (Err NoMemory) is also first second = absurd also
    one_verdict (Err NotRead) (Err (View e)) is also first second = absurd also
    one_verdict (Err NotRead) (Err NoMemory) is also first second = absurd also
    one_verdict (Err OtherTrace) (Err (View e)) is also first second = absurd also
    one_verdict (Err OtherTrace) (Err NoMemory) is also first second = absurd also
    one_verdict (Err (BadEvent n)) (Err (View e)) is also first second = absurd also
    one_verdict (Err (BadEvent n)) (Err NoMemory) is also first second = absurd also
