-- What a piece that was read says of the file that is told.
use Rattle.std.proofs.Common.{◌≡◌, ℕ, ◌+◌, ◌-◌, ◌<◌, ◌≤◌, min, List, [], ◌++◌, length, length-append, take, drop, Option, Some, Ok, refl, sym, ap, ◌∙◌, arith, take-append-drop, ⊎_elim}
use Rattle.std.specs.Prelude.{None as Absent}
use Rattle.std.specs.Prelude.{Vec, option_map}
use Rattle.std.specs.declared.alloc.Global.{Global}
use Rattle.std.proofs.Math.Seq.{take-add}
use Rattle.std.proofs.lemmas.Bool.{cases_lt}
use Rattle.std.proofs.lemmas.List.{drop-drop, length-drop, length-take, take_all}
use Rattle.wy_kernel.specs.Limits.{trace_limit}
use Rattle.wy_kernel.specs.declared.program.Program.{Program}
use Rattle.wy_event.specs.declared.record.Version.{Version}
use Rattle.wy_event.specs.declared.record.Head.{Head}
use Rattle.wy_spelling.specs.Spelling.{opening}
use Rattle.wy_payload.specs.Ranges.{ranges_of}
use Rattle.wy_frames.specs.declared.error.TraceError.{TraceError}
use Rattle.wy_frames.specs.declared.error.TraceError.TheVariants as trace
use Rattle.wy_frames.specs.Progress.{start}
use Rattle.wy_frames.specs.Scan.{Refused}
use Rattle.wy_outside.specs.Shelf.{Files, ReadsPart}
use Rattle.wy_page.specs.declared.error.PageError.TheVariants.{Trace as Refusal}
use Rattle.wy_page.specs.Opening.{IsUnread, MayBeOpened}
use Rattle.wy_page.specs.Reads.{AreNext, AreOthers}
use Rattle.wy_page.specs.Refusals.{refused}

piece_is : (files : Files) (name bytes piece : List ℕ) (at wanted : ℕ) → files name ≡ Some bytes → option_map (λ all. take wanted (drop at all)) (files name) ≡ Some piece → take wanted (drop at bytes) ≡ piece
piece_is files name bytes piece at wanted there read = some_is (ap (option_map (λ all. take wanted (drop at all))) (sym there) ∙ read) where
  some_is : {x y : List ℕ} → Some x ≡ Some y → x ≡ y
  some_is e = cc

own_length : (n : ℕ) (l : List ℕ) → take (length (take n l)) l ≡ take n l
own_length n l = ⊎_elim (λ lt. ap (λ k. take k l) (omega (arith, length-take n l, lt))) (λ le. take_all (length (take n l)) l (omega (arith, length-take n l, le)) ∙ sym (take_all n l le)) (cases_lt n (length l))

take_both : (a b : ℕ) (l : List ℕ) → a ≤ length l → take (a + b) l ≡ take a l ++ take b (drop a l)
take_both a b l within = take-add a b l

-- the bytes from a place on, and those that follow so many of them
module _ (from at wanted : ℕ) (bytes fed piece : List ℕ) (next : fed ≡ take (length fed) (drop from bytes)) (place : at ≡ from + length fed) (read : take wanted (drop at bytes) ≡ piece) where
  abbrev rest : List ℕ
  rest = drop from bytes

  behind : drop at bytes ≡ drop (length fed) rest
  behind = ap (λ n. drop n bytes) place ∙ sym (drop-drop (length fed) from bytes)

  fed_within : length fed ≤ length rest
  fed_within = omega (arith, ap length next, length-take (length fed) rest)

  piece_next : piece ≡ take (length piece) (drop (length fed) rest)
  piece_next = sym read ∙ sym (own_length wanted (drop at bytes)) ∙ ap (λ l. take (length l) (drop at bytes)) read ∙ ap (take (length piece)) behind

  both_next : fed ++ piece ≡ take (length (fed ++ piece)) rest
  both_next = (λ i. next i ++ piece_next i) ∙ sym (take_both (length fed) (length piece) rest fed_within) ∙ ap (λ n. take n rest) (sym (length-append fed piece))

  -- a piece that is shorter than was asked, or reaches the longest that a file may be, is the last
  all_there : length bytes ≤ trace_limit → at ≤ trace_limit → (most : ℕ) → wanted ≡ min most (trace_limit - at) → length piece < most → fed ++ piece ≡ rest
  all_there short within most is less =
      let long : length (drop at bytes) ≤ wanted = omega (arith, length-drop at bytes, ap length read, length-take wanted (drop at bytes), is, less, short) in
      let whole : piece ≡ drop (length fed) rest = sym read ∙ take_all wanted (drop at bytes) long ∙ behind in
      (λ i. next i ++ whole i) ∙ take-append-drop (length fed) rest

pub none_next : (held : Option Files) (name : List ℕ) (from : ℕ) → AreNext held name from []
none_next Absent name from = tt
none_next (Some files) name from = λ bytes there. refl

pub next_on : (held : Option Files) (name : List ℕ) (from at wanted : ℕ) (fed : List ℕ) (piece : Vec ℕ Global) → AreNext held name from fed → at ≡ from + length fed → ReadsPart held name at wanted (Ok piece) → AreNext held name from (fed ++ piece.items)
next_on Absent name from at wanted fed piece next place read = tt
next_on (Some files) name from at wanted fed piece next place read = λ bytes there. both_next from at wanted bytes fed piece.items (next bytes there) place (piece_is files name bytes piece.items at wanted there read)

pub others_are : (held : Option Files) (name : List ℕ) (v : Version) (head : Head) (at wanted most : ℕ) (fed : List ℕ) (piece : Vec ℕ Global) → MayBeOpened held name v head → AreNext held name (length (opening v head)) fed → at ≡ length (opening v head) + length fed → at ≤ trace_limit → wanted ≡ min most (trace_limit - at) → length piece.items < most → ReadsPart held name at wanted (Ok piece) → AreOthers held name (length (opening v head)) (fed ++ piece.items)
others_are Absent name v head at wanted most fed piece may next place within is less read = tt
others_are (Some files) name v head at wanted most fed piece may next place within is less read = by (files name) refl read where
  by : (o : Option (List ℕ)) → files name ≡ o → option_map (λ all. take wanted (drop at all)) o ≡ Some piece.items → AreOthers (Some files) name (length (opening v head)) (fed ++ piece.items)
  by Absent there none = absurd cc
  by (Some bytes) there some = (bytes, there, all_there (length (opening v head)) at wanted bytes fed piece.items (next bytes there) place (some_is some) (may bytes there).short within most is less) where
    some_is : {x y : List ℕ} → Some x ≡ Some y → x ≡ y
    some_is e = cc

-- ---- what is refused

pub trace_refused : (held : Option Files) (name : List ℕ) (v : Version) (p : Program) (head : Head) (fed : List ℕ) (e : TraceError) → AreNext held name (length (opening v head)) fed → Refused (ranges_of v p) head.steps (start v head) fed e → IsUnread held name v p head (Refusal e)
trace_refused held name v p head fed trace.NoMemory next refused = tt
trace_refused held name v p head fed (trace.Cut byte) next refused = (fed, next, refused)
trace_refused held name v p head fed (trace.Damaged byte r) next refused = (fed, next, refused)
trace_refused held name v p head fed trace.BadSeal next refused = (fed, next, refused)
