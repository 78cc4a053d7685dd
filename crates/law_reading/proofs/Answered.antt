-- Two answers on the same bytes are one.
use Rattle.std.proofs.Common.{◌≡◌, ◌⊎◌, ℕ, List, ◌++◌, length, drop, Result, Ok, Err, sym, ap, ◌∙◌, subst, inl, inr}
use Rattle.std.specs.Prelude.{MatchResult}
use Rattle.wy_kernel.specs.declared.program.Program.{Program}
use Rattle.wy_event.specs.declared.record.Version.{Version}
use Rattle.wy_event.specs.declared.record.Head.{Head}
use Rattle.wy_event.specs.declared.record.Event.{Event}
use Rattle.wy_event.specs.declared.record.Tail.{Tail}
use Rattle.wy_event.specs.declared.record.Trace.{Trace}
use Rattle.wy_spelling.specs.Spelling.{opening}
use Rattle.wy_payload.specs.Ranges.{ranges_of}
use Rattle.wy_frames.specs.declared.error.TraceError.{TraceError}
use Rattle.wy_frames.specs.declared.error.TraceError.TheVariants.{Cut, Damaged, BadSeal, NoMemory}
use Rattle.wy_frames.specs.declared.stage.Stage.{Stage}
use Rattle.wy_frames.specs.declared.stage.Stage.TheVariants as stages
use Rattle.wy_frames.specs.Progress.{Progress, start}
use Rattle.wy_frames.specs.Ends.{IsUnsealed}
use Rattle.wy_frames.specs.Scan.{Turn, Waits, Fails, turn, Leaves, IsRefused}
use Rattle.wy_frames.specs.Heads.{ReadHead, head_of}
use Rattle.wy_frames.specs.Decoding.{HasTrace}
use Rattle.wy_frames.specs.Traces.{IsCut, IsReadBehind, IsReadAs}
use Rattle.law_reading.specs.OneReading.{SaysOfBytes}
use Rattle.law_reading.proofs.OneSteps.{Settles, one_end}

-- ---- one place, one answer

made : Head → List Event → Tail → Trace
made head events tail = record { head = head; events = events; tail = tail }

same_parts : (x y : Trace) → x.head ≡ y.head → x.events ≡ y.events → x.tail ≡ y.tail → x ≡ y
same_parts x y p q r = λ i. record { head = p i; events = q i; tail = r i }

same_tail : (stage : Stage) (a b : Tail) (c d : List ℕ) → stage ≡ stages.Sealed a c → stage ≡ stages.Sealed b d → a ≡ b
same_tail stage a b c d e f = cc

one_trace : (x y : Trace) (head : Head) (t : Progress) → HasTrace x head t → HasTrace y head t → x ≡ y
one_trace x y head t h k = same_parts x y (h.head_is ∙ sym k.head_is) (h.events ∙ sym k.events) (same_tail t.stage x.tail y.tail h.seal k.seal h.sealed k.sealed)

never_both : (turn : Turn) (e : TraceError) → turn ≡ Waits → turn ≡ Fails e → ⊥
never_both turn e p q = cc

one_error : (turn : Turn) (e f : TraceError) → turn ≡ Fails e → turn ≡ Fails f → e ≡ f
one_error turn e f p q = cc

module _ (v : Version) (p : Program) (head : Head) (fed : List ℕ) where
  cut : TraceError
  cut = Cut (length (opening v head ++ fed))

  abbrev Met : Result Trace TraceError → Progress → Turn → Type 0
  Met (Ok x) t turn = (turn ≡ Waits) × HasTrace x head t
  Met (Err e) t turn = (turn ≡ Fails e) ⊎ ((turn ≡ Waits) × IsUnsealed t.stage × (e ≡ Cut (length (opening v head ++ fed))))

  settles : (a : Result Trace TraceError) (t : Progress) (turn : Turn) → Met a t turn → Settles turn
  settles (Ok x) t turn m = subst (λ (y : Turn). Settles y) (sym m.0) tt
  settles (Err e) t turn (inl fails) = subst (λ (y : Turn). Settles y) (sym fails) tt
  settles (Err e) t turn (inr waits) = subst (λ (y : Turn). Settles y) (sym waits.0) tt

  unsealed : (t : Progress) (x : Tail) (seal : List ℕ) → t.stage ≡ stages.Sealed x seal → IsUnsealed t.stage → ⊥
  unsealed t x seal e h = subst (λ (s : Stage). IsUnsealed s) e h

  one_answer : (a b : Result Trace TraceError) (t : Progress) (turn : Turn) → Met a t turn → Met b t turn → a ≡ b
  one_answer (Ok x) (Ok y) t turn m n = ap Ok (one_trace x y head t m.1 n.1)
  one_answer (Ok x) (Err f) t turn m (inl fails) = absurd (never_both turn f m.0 fails)
  one_answer (Ok x) (Err f) t turn m (inr waits) = absurd (unsealed t x.tail m.1.seal m.1.sealed waits.1)
  one_answer (Err e) (Ok y) t turn (inl fails) n = absurd (never_both turn e n.0 fails)
  one_answer (Err e) (Ok y) t turn (inr waits) n = absurd (unsealed t y.tail n.1.seal n.1.sealed waits.1)
  one_answer (Err e) (Err f) t turn (inl fails) (inl breaks) = ap Err (one_error turn e f fails breaks)
  one_answer (Err e) (Err f) t turn (inl fails) (inr waits) = absurd (never_both turn e waits.0 fails)
  one_answer (Err e) (Err f) t turn (inr waits) (inl fails) = absurd (never_both turn f waits.0 fails)
  one_answer (Err e) (Err f) t turn (inr waits) (inr stops) = ap Err (waits.2 ∙ sym stops.2)

  -- ---- where an answer comes from

  record Comes (a : Result Trace TraceError) : Type 0 where
    standing : Progress
    left : List ℕ
    leaves : Leaves (ranges_of v p) head.steps (start v head) fed standing left
    met : Met a standing (turn (ranges_of v p) head.steps standing left)

  of_refusal : (e : TraceError) → IsRefused (ranges_of v p) head.steps (start v head) fed e → Comes (Err e)
  of_refusal e h = record { standing = h.standing; left = h.rest; leaves = h.leaves; met = inl h.fails }

  of_cut : (e : TraceError) → IsCut v p head fed e → Comes (Err e)
  of_cut e h = record { standing = h.0; left = h.1.rest; leaves = h.1.leaves; met = inr (h.1.waits, h.2, h.3) }

  comes : (a : Result Trace TraceError) → SaysOfBytes a → IsReadBehind v p head fed a → Comes a
  comes (Ok x) says h = record { standing = h.0; left = h.1.rest; leaves = h.1.leaves; met = (h.1.waits, h.2) }
  comes (Err NoMemory) says h = absurd says
  comes (Err (Cut byte)) says (inl h) = of_refusal (Cut byte) h
  comes (Err (Cut byte)) says (inr h) = of_cut (Cut byte) h
  comes (Err (Damaged byte rule)) says (inl h) = of_refusal (Damaged byte rule) h
  comes (Err (Damaged byte rule)) says (inr h) = of_cut (Damaged byte rule) h
  comes (Err BadSeal) says (inl h) = of_refusal BadSeal h
  comes (Err BadSeal) says (inr h) = of_cut BadSeal h

  together : (a b : Result Trace TraceError) → Comes a → Comes b → a ≡ b
  together a b x y =
      let one = one_end (ranges_of v p) head.steps (start v head) fed x.standing x.left y.standing y.left x.leaves y.leaves (settles a x.standing (turn (ranges_of v p) head.steps x.standing x.left) x.met) (settles b y.standing (turn (ranges_of v p) head.steps y.standing y.left) y.met) in
      let here : Met a y.standing (turn (ranges_of v p) head.steps y.standing y.left) = moved a x.standing y.standing x.left y.left one.0 one.1 x.met in
      one_answer a b y.standing (turn (ranges_of v p) head.steps y.standing y.left) here y.met
    where
      moved : (a : Result Trace TraceError) (s t : Progress) (rest others : List ℕ) → s ≡ t → rest ≡ others → Met a s (turn (ranges_of v p) head.steps s rest) → Met a t (turn (ranges_of v p) head.steps t others)
      moved a s t rest others e f m = subst (λ (l : List ℕ). Met a t (turn (ranges_of v p) head.steps t l)) f (subst (λ (u : Progress). Met a u (turn (ranges_of v p) head.steps u rest)) e m)

  pub behind_one : (a b : Result Trace TraceError) → SaysOfBytes a → SaysOfBytes b → IsReadBehind v p head fed a → IsReadBehind v p head fed b → a ≡ b
  behind_one a b says tells h k = together a b (comes a says h) (comes b tells k)

-- ---- the head

with_head : (p : Program) (bytes : List ℕ) (a b : Result Trace TraceError) (h : Result ReadHead TraceError) → SaysOfBytes a → SaysOfBytes b
    → MatchResult h (λ x. IsReadBehind x.2 p x.0 (drop x.1 bytes) a) (λ e. a ≡ Err e) → MatchResult h (λ x. IsReadBehind x.2 p x.0 (drop x.1 bytes) b) (λ e. b ≡ Err e) → a ≡ b
with_head p bytes a b (Ok x) says tells h k = behind_one x.2 p x.0 (drop x.1 bytes) a b says tells h k
with_head p bytes a b (Err e) says tells h k = h ∙ sym k

pub one_reading : (p : Program) (bytes : List ℕ) (a b : Result Trace TraceError) → SaysOfBytes a → SaysOfBytes b → IsReadAs p bytes a → IsReadAs p bytes b → a ≡ b
one_reading p bytes a b says tells h k = with_head p bytes a b (head_of bytes) says tells h k
