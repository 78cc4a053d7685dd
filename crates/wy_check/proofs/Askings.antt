-- One slot more is asked about, and those before it still are.
use Rattle.std.proofs.Common.{◌≡◌, ◌+◌, ◌<◌, ◌≤◌, ℕ, zero, suc, List, [], ◌∷◌, ◌++◌, length, get_or, take, sym, ap, ◌∙◌, subst, arith}
use Rattle.std.specs.List.{AllByRecursion}
use Rattle.std.proofs.lemmas.List.{take_more}
use Rattle.wy_event.specs.declared.record.Slot.{Slot}
use Rattle.wy_event.specs.declared.record.Slot.TheVariants.{None}
use Rattle.wy_event.specs.declared.record.Use.{Use}
use Rattle.wy_event.specs.declared.record.Use.TheVariants.{Place, Value, Choice}
use Rattle.wy_event.specs.Record.{Recorded}
use Rattle.wy_cert.specs.declared.certificate.Listed.{Listed}
use Rattle.wy_check.specs.declared.history.History.{History}
use Rattle.wy_check.specs.Asking.{AreAsked, AreLinesAsked, AsksMore, IsUseAsked, uses_at}
use Rattle.wy_check.specs.History.{IsAsked}

pub asks_itself : (h : History) → AsksMore h h
asks_itself h = record { keeps = λ x asked. asked; seen = λ seen. seen }

pub asks_on : (a b c : History) → AsksMore a b → AsksMore b c → AsksMore a c
asks_on a b c first second = record { keeps = λ x asked. second.keeps x (first.keeps x asked); seen = λ seen. second.seen (first.seen seen) }

use_kept : (h k : History) → ((x : Slot) → IsAsked h x → IsAsked k x) → (u : Use) → IsUseAsked h u → IsUseAsked k u
use_kept h k keeps (Place x m) asked = keeps x asked
use_kept h k keeps (Value e) asked = tt
use_kept h k keeps (Choice e) asked = tt

pub uses_kept : (h k : History) → ((x : Slot) → IsAsked h x → IsAsked k x) → (us : List Use) → AreAsked h us → AreAsked k us
uses_kept h k keeps [] asked = tt
uses_kept h k keeps (u ∷ us) asked = (use_kept h k keeps u asked.0, uses_kept h k keeps us asked.1)

pub lines_kept : (h k : History) → ((x : Slot) → IsAsked h x → IsAsked k x) → (rs : List Recorded) (ls : List Listed) → AreLinesAsked h rs ls → AreLinesAsked k rs ls
lines_kept h k keeps rs [] asked = tt
lines_kept h k keeps rs (l ∷ ls) asked = (uses_kept h k keeps (uses_at rs l.event) asked.0, lines_kept h k keeps rs ls asked.1)

push : {X : Type 0} (P : X → Type 0) (xs : List X) (x : X) → AllByRecursion P xs → P x → AllByRecursion P (xs ++ x ∷ [])
push P [] x all one = (one, tt)
push P (y ∷ xs) x all one = (all.0, push P xs x all.1 one)

whole : {X : Type 0} (P : X → Type 0) (xs : List X) (i : ℕ) → AllByRecursion P (take i xs) → length xs ≤ i → AllByRecursion P xs
whole P [] i all le = tt
whole P (x ∷ xs) zero all le = absurd (omega (arith, le))
whole P (x ∷ xs) (suc i) all le = (all.0, whole P xs i all.1 (omega (arith, le)))

abbrev pub no_use : Use
no_use = Place None 0

pub asked_push : (h k : History) (us : List Use) (i : ℕ) → AreAsked h (take i us) → AsksMore h k → i < length us → IsUseAsked k (get_or us i no_use) → AreAsked k (take (i + 1) us)
asked_push h k us i asked more lt one = subst (AreAsked k) (sym (take_more us i no_use lt)) (push (IsUseAsked k) (take i us) (get_or us i no_use) (uses_kept h k more.keeps (take i us) asked) one)

pub asked_all : (h : History) (us : List Use) (i : ℕ) → AreAsked h (take i us) → length us ≤ i → AreAsked h us
asked_all h us i asked le = whole (IsUseAsked h) us i asked le

pub lines_push : (h k : History) (rs : List Recorded) (ls : List Listed) (i : ℕ) (l : Listed) → AreLinesAsked h rs (take i ls) → AsksMore h k → i < length ls → l ≡ get_or ls i l → AreAsked k (uses_at rs l.event) → AreLinesAsked k rs (take (i + 1) ls)
lines_push h k rs ls i l asked more lt is one = subst (AreLinesAsked k rs) (sym (take_more ls i l lt)) (push (λ (m : Listed). AreAsked k (uses_at rs m.event)) (take i ls) (get_or ls i l) (lines_kept h k more.keeps rs (take i ls) asked) (subst (λ (m : Listed). AreAsked k (uses_at rs m.event)) is one))

pub lines_all : (h : History) (rs : List Recorded) (ls : List Listed) (i : ℕ) → AreLinesAsked h rs (take i ls) → length ls ≤ i → AreLinesAsked h rs ls
lines_all h rs ls i asked le = whole (λ (l : Listed). AreAsked h (uses_at rs l.event)) ls i asked le

pub asked_at : (h : History) (us : List Use) (i : ℕ) (u : Use) → AreAsked h us → i < length us → IsUseAsked h (get_or us i u)
asked_at h [] i u asked lt = absurd (omega (arith, lt))
asked_at h (v ∷ us) zero u asked lt = asked.0
asked_at h (v ∷ us) (suc i) u asked lt = asked_at h us i u asked.1 (omega (arith, lt))
