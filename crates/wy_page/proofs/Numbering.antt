-- Each event is noted once, in order: those of a piece behind those before it, and in the end all that are of the file.
use Rattle.std.proofs.Common.{◌≡◌, ℕ, zero, suc, ◌+◌, ◌<◌, ◌^◌, List, [], ◌∷◌, ◌++◌, length, length-append, map, take, get_or, add-one, append_assoc, take-suc, Option, Some, sym, ap, ◌∙◌, subst, arith}
use Rattle.std.specs.Prelude.{None as Absent}
use Rattle.std.specs.Prelude.{IfSome, slice_get, string_bytes}
use Rattle.std.specs.Option.{unwrap_or}
use Rattle.std.proofs.lemmas.List.{length-map, length-take, map-append}
use Rattle.wy_kernel.specs.declared.program.Program.{Program}
use Rattle.wy_event.specs.declared.record.Version.{Version}
use Rattle.wy_event.specs.declared.record.Event.{Event}
use Rattle.wy_event.specs.declared.record.Head.{Head}
use Rattle.wy_event.specs.declared.record.Tail.{Tail}
use Rattle.wy_event.specs.Record.{Recorded, recorded}
use Rattle.wy_spelling.specs.Spelling.{opening}
use Rattle.wy_frames.specs.declared.stage.ReadEvent.{ReadEvent}
use Rattle.wy_frames.specs.Progress.{Progress, event_in, start}
use Rattle.wy_index.specs.declared.build.Findings.{Findings}
use Rattle.wy_index.specs.Findings.{HasFound}
use Rattle.law_reading.specs.Referring.{ReferBelow}
use Rattle.law_reading.specs.Spelled.{AreBytes}
use Rattle.wy_view.specs.References.{RefersBelow}
use Rattle.wy_outside.specs.Shelf.{Files}
use Rattle.wy_page.specs.declared.opening.Reading.{Reading}
use Rattle.wy_page.specs.declared.pages.Pages.{Pages}
use Rattle.wy_page.specs.Opening.{MayBeOpened}
use Rattle.wy_page.specs.Paged.{records_of, records_told}
use Rattle.wy_page.specs.Reads.{AreOthers, IsWhole, Reads}
use Rattle.wy_page.specs.Noted.{HasNoted, HaveFound, Noted}
use Rattle.wy_page.proofs.Whole.{Laws, records_are, whole_count}

-- nothing was noted behind the head alone
pub none_noted : (found : Option Findings) (v : Version) (head : Head) → HaveFound found [] → Noted found (start v head)
unfolding start
none_noted found v head nothing = nothing

abbrev pub records_in : Progress → List Recorded
records_in t = map recorded (map event_in t.placed)

pub records_many : (t : Progress) → length (records_in t) ≡ length t.placed
records_many t = length-map (map event_in t.placed) recorded ∙ length-map t.placed event_in

behind : (es fs : List Event) (i : ℕ) (e : Event) → slice_get fs i ≡ Some e → slice_get (es ++ fs) (length es + i) ≡ Some e
behind [] fs i e is = let same : i ≡ 0 + i = omega arith in subst (λ m. slice_get fs m ≡ Some e) same is
behind (d ∷ es) fs i e is =
    let next : suc (length es + i) ≡ suc (length es) + i = omega arith in
    subst (λ m. slice_get (d ∷ (es ++ fs)) m ≡ Some e) next (behind es fs i e is)

in_events : (placed : List ReadEvent) (i : ℕ) (x : ReadEvent) → slice_get placed i ≡ Some x → slice_get (map event_in placed) i ≡ Some x.event
in_events [] i x is = absurd cc
in_events (y ∷ ys) zero x is = let same : y ≡ x = cc in ap (λ (z : ReadEvent). Some (event_in z)) same
in_events (y ∷ ys) (suc i) x is = in_events ys i x is

-- one event more
pub one_noted : (found : Findings) (placed : List ReadEvent) (i : ℕ) (x : ReadEvent) → i < length placed → x ≡ get_or placed i x → (rs : List Recorded) → HasFound found ((rs ++ map recorded (map event_in (take i placed))) ++ recorded x.event ∷ []) → HasFound found (rs ++ map recorded (map event_in (take (i + 1) placed)))
one_noted found placed i x within is rs seen =
    let first = take i placed in
    let more : take (i + 1) placed ≡ first ++ x ∷ [] = ap (λ k. take k placed) (add-one i) ∙ take-suc placed i x within ∙ ap (λ (y : ReadEvent). first ++ y ∷ []) (sym is) in
    let both : map recorded (map event_in (first ++ x ∷ [])) ≡ map recorded (map event_in first) ++ recorded x.event ∷ [] = ap (map recorded) (map-append event_in first (x ∷ [])) ∙ map-append recorded (map event_in first) (x.event ∷ []) in
    subst (HasFound found) (append_assoc rs (map recorded (map event_in first)) (recorded x.event ∷ []) ∙ ap (λ l. rs ++ l) (sym both) ∙ ap (λ (l : List ReadEvent). rs ++ map recorded (map event_in l)) (sym more)) seen

pub noted_many : (placed : List ReadEvent) (i : ℕ) (rs : List Recorded) (first : ℕ) → i < length placed → length rs ≡ first → length (rs ++ map recorded (map event_in (take i placed))) ≡ first + i
noted_many placed i rs first within many = omega (arith, length-append rs (map recorded (map event_in (take i placed))), length-map (map event_in (take i placed)) recorded, length-map (take i placed) event_in, length-take i placed, within, many)

-- a piece more
module _ (t u : Progress) (placed shown : List ReadEvent) (are : shown ≡ placed) (adds : u.placed ≡ t.placed ++ placed) where
  both : map event_in u.placed ≡ map event_in t.placed ++ map event_in shown
  both = ap (map event_in) adds ∙ map-append event_in t.placed placed ∙ ap (λ (l : List ReadEvent). map event_in t.placed ++ map event_in l) (sym are)

  pub few_more : ReferBelow (map event_in u.placed) → (n : ℕ) → n ≡ length t.placed → n + length shown < 2 ^ 32
  few_more below n is = omega (arith, below.few, ap (λ (l : List Event). length l) both, length-append (map event_in t.placed) (map event_in shown), length-map t.placed event_in, length-map shown event_in, is)

  pub refer_more : ReferBelow (map event_in u.placed) → (n : ℕ) → n ≡ length t.placed → (i : ℕ) (x : ReadEvent) → slice_get shown i ≡ Some x → RefersBelow (n + i) (recorded x.event)
  refer_more below n is i x found =
      let place : length (map event_in t.placed) + i ≡ n + i = omega (arith, is, length-map t.placed event_in) in
      let there = behind (map event_in t.placed) (map event_in shown) i x.event (in_events shown i x found) in
      subst (λ (m : ℕ). RefersBelow m (recorded x.event)) place (below.refer (length (map event_in t.placed) + i) x.event (subst (λ (l : List Event). slice_get l (length (map event_in t.placed) + i) ≡ Some x.event) (sym both) there))

pub noted_more : (found : Option Findings) (t u : Progress) (placed shown : List ReadEvent) → shown ≡ placed → u.placed ≡ t.placed ++ placed → HaveFound found (records_in t ++ map recorded (map event_in shown)) → Noted found u
noted_more found t u placed shown are adds noted = subst (HaveFound found) (sym (ap (map recorded) (both t u placed shown are adds) ∙ map-append recorded (map event_in t.placed) (map event_in shown))) noted

-- all of it
pub noted_all : (laws : Laws) (found : Option Findings) (r : Reading) (v : Version) (p : Program) (head : Head) (fed : List ℕ) (t : Progress) → Reads r v p head fed t → (pages : Pages) (tail : Tail) → IsWhole pages tail v head fed t → AreBytes (opening v head) → (name : List ℕ) → string_bytes pages.name ≡ name → (held : Option Files)
    → MayBeOpened held name v head → AreOthers held name (length (opening v head)) fed → ReferBelow (map event_in t.placed) → Noted found t → IfSome found (HasNoted pages held)
noted_all laws Absent r v p head fed t h pages tail w are name named held may others below noted = tt
noted_all laws (Some found) r v p head fed t h pages tail w are name named held may others below noted = record { records = records_in t; has_found = noted; few = omega (arith, below.few, length-map (map event_in t.placed) recorded); all = records_many t ∙ sym (whole_count v head fed t pages tail w); as_told = by held may others } where
  by : (held : Option Files) → MayBeOpened held name v head → AreOthers held name (length (opening v head)) fed → IfSome (records_told pages held) (λ rs. rs ≡ records_in t)
  by Absent may others = tt
  by (Some files) may (bytes, there, behind_head) =
      ap (λ o. records_of pages.version pages.starts pages.count (unwrap_or o [])) (ap files named ∙ there)
      ∙ subst (λ (u : Version). records_of u pages.starts pages.count bytes ≡ records_in t) (sym w.version_is) (records_are laws r v p head fed t h pages tail w are bytes (may bytes there) behind_head)
