-- Which texts begin others.
use Rattle.std.proofs.Common.{◌∙◌, ◌==◌, ℕ, Bool, true, false, not, List, [], ◌∷◌, ◌++◌, take, drop, refl, sym, ap}
use Rattle.std.specs.Prelude.{if◌then◌else◌}
use Rattle.std.specs.List.{flat_map}
use Rattle.std.proofs.lemmas.Grind.{flat_map-append}
use Rattle.std.proofs.lemmas.List.{append_assoc, append-nil, take-append-drop}
use Rattle.std.proofs.lemmas.List.Elements.{filter-append}
use Rattle.wy_kernel.specs.Program.{Program}
use Rattle.wy_event.specs.declared.record.Tail.{Tail}
use Rattle.wy_event.specs.Record.{Recorded}
use Rattle.wy_text.specs.EndLines.{line_of}
use Rattle.wy_telling.specs.Output.{ends_its_line, end_line, output_text, whole_lines}
use Rattle.wy_telling.specs.Printed.{printed}
use Rattle.wy_expect.specs.Expected.{Begins, plain, without_returns}

pub begins_on : (a b c : List ℕ) → Begins a b → Begins b c → Begins a c
begins_on a b c first next = (first.0 ++ next.0, next.1 ∙ ap (λ xs. xs ++ next.0) first.1 ∙ append_assoc a first.0 next.0)

pub whole_begins : (text : List ℕ) → Begins text (whole_lines text)
whole_begins text = by_end (ends_its_line text)
  where
    by_end : (b : Bool) → Begins text (if b then text else line_of text)
    by_end true = ([], sym (append-nil text))
    by_end false = (10 ∷ [], refl)

pub still_begins : (a b : List ℕ) → Begins a b → Begins (without_returns a) (without_returns b)
still_begins a b is = (without_returns is.0, ap without_returns is.1 ∙ filter-append (λ b. not (b == 13)) a is.0)

pub below_begins : (f : Recorded → List ℕ) (rs : List Recorded) (n : ℕ) → Begins (flat_map f (take n rs)) (flat_map f rs)
below_begins f rs n = (flat_map f (drop n rs), ap (flat_map f) (sym (take-append-drop n rs)) ∙ flat_map-append f (take n rs) (drop n rs))

pub output_begins : (p : Program) (lines : List ℕ) (rs : List Recorded) (tail : Tail) → Begins (printed p rs) (output_text p lines rs tail)
unfolding output_text
output_begins p lines rs tail =
    begins_on (printed p rs) (whole_lines (printed p rs)) (whole_lines (printed p rs) ++ end_line p lines rs tail) (whole_begins (printed p rs)) (end_line p lines rs tail, refl)

pub plainly_begins : (a b : List ℕ) → Begins a b → Begins (without_returns a) (plain b)
plainly_begins a b is = begins_on (without_returns a) (without_returns b) (plain b) (still_begins a b is) (whole_begins (without_returns b))
