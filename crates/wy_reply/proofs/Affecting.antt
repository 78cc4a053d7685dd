-- What affects tells over the trace of a run is to which events the run carried the one that is asked about.
use Rattle.std.proofs.Common.{◌≡◌, ◌∙◌, sym, ap, subst, refl, ⊎_elim, ℕ, suc, ◌<◌, ◌≤◌, ◌-◌, true, false, List, length, map, get_or, Some, None, Result, Ok, Err, arith}
use Rattle.std.specs.Prelude.{filter, option_map, slice_get}
use Rattle.std.specs.List.{range_with_len}
use Rattle.std.proofs.lemmas.Option.{slice_get-map, slice_get_cases}
use Rattle.wy_kernel.specs.declared.program.Program as memory
use Rattle.wy_kernel.specs.Program.{Program}
use Rattle.wy_kernel.specs.Parts.{program_of}
use Rattle.wy_event.specs.Numbers.{none}
use Rattle.wy_event.specs.Record.{Recorded, recorded}
use Rattle.wy_event.specs.Sources.{closure, data_closure}
use Rattle.wy_event.specs.declared.record.Trace.{Trace}
use Rattle.wy_steps.specs.Sets.{nothing, numbers}
use Rattle.wy_steps.specs.State.{Noted}
use Rattle.wy_steps.specs.Steps.{owner_in}
use Rattle.wy_meaning.specs.Run.{events, history}
use Rattle.wy_affects.specs.Affected.{above_with, affected}
use Rattle.wy_affects.proofs.Giving.{no_record}
use Rattle.wy_telling.specs.Affects.{AffectsIs, affects_text, later_lines}
use Rattle.wy_telling.specs.Answers.{Refused, NotRead, NoSuch, answered, not_there, not_read}
use Rattle.wy_reply.specs.Carried.{AffectedAnswer, all_to, data_to}
use Rattle.wy_reply.specs.Tellings.{Wanted, Affects, Tells, affects, certify, check, lacking, scoped, why, whynot, questions, explore, audit, migrated, output}
use Rattle.wy_reply.proofs.Carrying.{Runs, event_below, history_length, ok_is, owners_are}

-- ---- a run

module _ (p : Program) (input : List ℕ) (steps : ℕ) (run : Runs p input steps) where
  abbrev rs : List Recorded
  rs = events numbers p input steps

  abbrev noted : List (Noted numbers)
  noted = history numbers p input steps

  no_event : (n : ℕ) → slice_get noted n ≡ None → slice_get rs n ≡ None
  unfolding events
  no_event n is = slice_get-map (λ (e : Noted numbers). e.event) noted n ∙ ap (option_map (λ (e : Noted numbers). e.event)) is

  -- an event comes from one that is there where that was carried to it
  module _ (w : ℕ) (less : w < length rs) (n : ℕ) where
    apart : length noted ≤ n → w ≡ n → ⊥
    apart le same = omega (arith, le, same, less, history_length p input steps)

    all_same : closure (owner_in p) rs n w ≡ all_to (slice_get noted n) w
    unfolding closure none
    all_same = ⊎_elim
        (λ (found : (e : Noted numbers) × (n < length noted) × (slice_get noted n ≡ Some e) × (get_or noted n e ≡ e)). (run.carried n found.0 found.2 w).1 ∙ sym (ap (λ o. all_to o w) found.2))
        (λ (none_there : (length noted ≤ n) × (slice_get noted n ≡ None)). no_record (owner_in p) true rs n w (no_event n none_there.1) (apart none_there.0) ∙ sym (ap (λ o. all_to o w) none_there.1))
        (slice_get_cases noted n).1

    data_same : data_closure (owner_in p) rs n w ≡ data_to (slice_get noted n) w
    unfolding data_closure none
    data_same = ⊎_elim
        (λ (found : (e : Noted numbers) × (n < length noted) × (slice_get noted n ≡ Some e) × (get_or noted n e ≡ e)). (run.carried n found.0 found.2 w).0 ∙ sym (ap (λ o. data_to o w) found.2))
        (λ (none_there : (length noted ≤ n) × (slice_get noted n ≡ None)). no_record (owner_in p) false rs n w (no_event n none_there.1) (apart none_there.0) ∙ sym (ap (λ o. data_to o w) none_there.1))
        (slice_get_cases noted n).1

  carried_text : (lines : List ℕ) (w : ℕ) → w < length rs → affects_text p lines rs w ≡ later_lines p lines rs (λ n. data_to (slice_get noted n) w) (above_with (λ n. all_to (slice_get noted n)) w (length noted))
  unfolding affects_text
  carried_text lines w less =
      let long = history_length p input steps in
      ap (λ o. later_lines p lines rs (λ n. data_closure o rs n w) (affected o rs w)) (owners_are p)
      ∙ (λ i. later_lines p lines rs (λ n. data_same w less n i) (filter (λ n. all_same w less n i) (range_with_len (suc w) (long i - suc w))))

  answer_affected : (lines asks text : List ℕ) (r : Result (List ℕ) Refused) → r ≡ Ok text → AffectsIs p lines rs asks r → AffectedAnswer p lines input steps asks text
  answer_affected lines asks text _ same (answered q w is_asked is) = record {
    asked = q;
    is_asked = is_asked;
    event = w;
    is_event = is;
    lists = sym (ok_is _ _ same) ∙ carried_text lines w (event_below p rs q w is);
  }
  answer_affected lines asks text _ same (not_there q is_asked is) = absurd (cc)
  answer_affected lines asks text _ same (not_read unread) = absurd (cc)

-- ---- what is told

tells_affects : (p : memory.Program) (seal : List ℕ) (t : Trace) (w : Wanted) (s : ℕ) (x : List ℕ) → Tells p seal t w s x → (asks : List ℕ) → w ≡ Affects asks → s ≡ 0 →
    (r : Result (List ℕ) Refused) × (r ≡ Ok x) × AffectsIs (program_of p) p.lines.items (map recorded t.events) asks r
tells_affects p seal t _ _ _ output asks same zero_is = absurd (cc)
tells_affects p seal t _ _ _ (affects question (Ok text) is) asks same zero_is = let e : question ≡ asks = cc in (Ok text, refl, subst (λ (q : List ℕ). AffectsIs (program_of p) p.lines.items (map recorded t.events) q (Ok text)) e is)
tells_affects p seal t _ _ _ (affects question (Err NotRead) is) asks same zero_is = absurd (omega (arith, zero_is))
tells_affects p seal t _ _ _ (affects question (Err (NoSuch n)) is) asks same zero_is = absurd (omega (arith, zero_is))
tells_affects p seal t _ _ _ (why question answer is) asks same zero_is = absurd (cc)
tells_affects p seal t _ _ _ questions asks same zero_is = absurd (cc)
tells_affects p seal t _ _ _ (whynot word answer is) asks same zero_is = absurd (cc)
tells_affects p seal t _ _ _ (explore input status text is) asks same zero_is = absurd (cc)
tells_affects p seal t _ _ _ (audit v is) asks same zero_is = absurd (cc)
tells_affects p seal t _ _ _ (certify question answer is) asks same zero_is = absurd (cc)
tells_affects p seal t _ _ _ (scoped said call answer is) asks same zero_is = absurd (cc)
tells_affects p seal t _ _ _ (check bytes r is judged) asks same zero_is = absurd (cc)
tells_affects p seal t _ _ _ (lacking status text) asks same zero_is = absurd (cc)
tells_affects p seal t _ _ _ migrated asks same zero_is = absurd (cc)

pub told_affected : (p : memory.Program) (seal : List ℕ) (t : Trace) (w : Wanted) (s : ℕ) (x : List ℕ) (input : List ℕ) (steps : ℕ) → Runs (program_of p) input steps → map recorded t.events ≡ events nothing (program_of p) input steps →
    Tells p seal t w s x → s ≡ 0 → (asks : List ℕ) → w ≡ Affects asks → AffectedAnswer (program_of p) p.lines.items input steps asks x
told_affected p seal t w s x input steps run read tells done asks same =
    let r = tells_affects p seal t w s x tells asks same done in
    answer_affected (program_of p) input steps run p.lines.items asks x r.0 r.1
    (subst (λ (rs : List Recorded). AffectsIs (program_of p) p.lines.items rs asks r.0) (read ∙ sym run.same) r.2)
