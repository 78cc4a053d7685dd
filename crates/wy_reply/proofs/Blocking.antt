-- What whynot tells over the trace of a run is what the run reached and did not cross.
use Rattle.std.proofs.Common.{◌≡◌, ◌∙◌, sym, ap, subst, refl, ℕ, List, map, Result, Ok, Err, arith}
use Rattle.wy_kernel.specs.declared.program.Program as memory
use Rattle.wy_kernel.specs.Program.{Program}
use Rattle.wy_kernel.specs.Parts.{program_of}
use Rattle.wy_event.specs.Record.{Recorded, recorded}
use Rattle.wy_event.specs.declared.record.Cover.{Cover}
use Rattle.wy_event.specs.declared.record.Tail.{Tail}
use Rattle.wy_event.specs.declared.record.Trace.{Trace}
use Rattle.wy_steps.specs.Sets.{nothing}
use Rattle.wy_meaning.specs.Run as meaning
use Rattle.wy_meaning.specs.Run.{events}
use Rattle.wy_meaning.specs.Kept.{covered_of, kept_tail}
use Rattle.wy_telling.specs.Whynot.{WhynotIs, Denied, NotRead, NoSuch, Ran, answered, ran, not_there, not_read}
use Rattle.wy_reply.specs.Blocked.{BlockedAnswer}
use Rattle.wy_reply.specs.Tellings.{Wanted, WhyNot, Tells, covers_of, affects, certify, check, lacking, scoped, why, whynot, questions, explore, audit, migrated, output}

abbrev ok_text : List ℕ → Result (List ℕ) Denied
ok_text x = Ok x

ok_is : (x y : List ℕ) → ok_text x ≡ ok_text y → x ≡ y
ok_is x y e = cc

-- these are the covers of the run
abbrev AreCovers : Program → List ℕ → ℕ → List Cover → Type 0
AreCovers p input steps covers = map covered_of covers ≡ (meaning.tail nothing p input steps).coverage

answer_blocked : (p : Program) (lines input : List ℕ) (steps : ℕ) (covers : List Cover) (word text : List ℕ) → AreCovers p input steps covers → (r : Result (List ℕ) Denied) → r ≡ Ok text →
    WhynotIs p lines (events nothing p input steps) covers word r → BlockedAnswer p lines input steps word text
answer_blocked p lines input steps covers word text are _ same (answered line place n items names never is) =
    record { line = line; place = place; number = n; names = names; covers = covers; covers_are = are; never = never; items = items; items_are = is; lists = sym (ok_is _ _ same) }
answer_blocked p lines input steps covers word text are _ same (ran line place n count first names has) = absurd (cc)
answer_blocked p lines input steps covers word text are _ same (not_there line place names less) = absurd (cc)
answer_blocked p lines input steps covers word text are _ same (not_read none) = absurd (cc)

tells_whynot : (p : memory.Program) (seal : List ℕ) (t : Trace) (w : Wanted) (s : ℕ) (x : List ℕ) → Tells p seal t w s x → (word : List ℕ) → w ≡ WhyNot word → s ≡ 0 →
    (r : Result (List ℕ) Denied) × (r ≡ Ok x) × WhynotIs (program_of p) p.lines.items (map recorded t.events) (covers_of t) word r
tells_whynot p seal t _ _ _ output word same zero_is = absurd (cc)
tells_whynot p seal t _ _ _ (why question answer is) word same zero_is = absurd (cc)
tells_whynot p seal t _ _ _ (affects question answer is) word same zero_is = absurd (cc)
tells_whynot p seal t _ _ _ questions word same zero_is = absurd (cc)
tells_whynot p seal t _ _ _ (whynot asked (Ok text) is) word same zero_is =
    let e : asked ≡ word = cc in
    (Ok text, refl, subst (λ (q : List ℕ). WhynotIs (program_of p) p.lines.items (map recorded t.events) (covers_of t) q (Ok text)) e is)
tells_whynot p seal t _ _ _ (whynot asked (Err NotRead) is) word same zero_is = absurd (omega (arith, zero_is))
tells_whynot p seal t _ _ _ (whynot asked (Err (NoSuch n)) is) word same zero_is = absurd (omega (arith, zero_is))
tells_whynot p seal t _ _ _ (whynot asked (Err (Ran line place count first)) is) word same zero_is = absurd (omega (arith, zero_is))
tells_whynot p seal t _ _ _ (explore input status text is) word same zero_is = absurd (cc)
tells_whynot p seal t _ _ _ (audit v is) word same zero_is = absurd (cc)
tells_whynot p seal t _ _ _ (certify question answer is) word same zero_is = absurd (cc)
tells_whynot p seal t _ _ _ (scoped said call answer is) word same zero_is = absurd (cc)
tells_whynot p seal t _ _ _ (check bytes r is judged) word same zero_is = absurd (cc)
tells_whynot p seal t _ _ _ (lacking status text) word same zero_is = absurd (cc)
tells_whynot p seal t _ _ _ migrated word same zero_is = absurd (cc)

pub told_blocked : (p : memory.Program) (seal : List ℕ) (t : Trace) (s : ℕ) (x : List ℕ) (input : List ℕ) (steps : ℕ) → map recorded t.events ≡ events nothing (program_of p) input steps → AreCovers (program_of p) input steps (covers_of t) →
    (word : List ℕ) → Tells p seal t (WhyNot word) s x → s ≡ 0 → BlockedAnswer (program_of p) p.lines.items input steps word x
told_blocked p seal t s x input steps read covers word tells done =
    let r = tells_whynot p seal t (WhyNot word) s x tells word refl done in
    answer_blocked (program_of p) p.lines.items input steps (covers_of t) word x covers r.0 r.1
    (subst (λ (rs : List Recorded). WhynotIs (program_of p) p.lines.items rs (covers_of t) word r.0) read r.2)

-- the covers that are read are those of the run, where its end is read back
pub covers_read : (p : Program) (input : List ℕ) (steps : ℕ) (t : Trace) (end : Tail) → t.tail ≡ end → kept_tail end ≡ meaning.tail nothing p input steps → AreCovers p input steps (covers_of t)
unfolding kept_tail
covers_read p input steps t end same is = ap (λ (e : Tail). map covered_of e.coverage.statements) same ∙ ap (λ (e : meaning.Tail). e.coverage) is
