use Rattle.std.proofs.Common.{◌∙◌, ◌++◌, List, ℕ, ap, arith}
use Rattle.wy_kernel.specs.Parts.{program_of}
use Rattle.wy_text.proofs.ClassNames.{built_in_behind, of_source}
use Rattle.wy_text.proofs.class.put_full_name.Goals as goal

pub returns-then-number-lt-FIRST_SOURCE_CLASS : goal.returns-then-number-lt-FIRST_SOURCE_CLASS
returns-then-number-lt-FIRST_SOURCE_CLASS c =
    built_in_behind (program_of c.args.program.now) c.args.number c.args.out.now.items c.extend_from_slice.new.self.items c.extend_from_slice-then-number-lt-FIRST_SOURCE_CLASS.new.self.items c.as_bytes.result.now c.as_bytes-then-number-lt-FIRST_SOURCE_CLASS.result.now
    (omega arith) c.as_bytes.ensures.value (c.as_bytes-then-number-lt-FIRST_SOURCE_CLASS.ensures.value ∙ c.own_name-own.ensures)
    c.in_ok-extend_from_slice.ensures.items c.in_ok-extend_from_slice-2.ensures.items

pub returns : goal.returns
returns c =
    c.in_ok-extend_from_slice-3.ensures.items
    ∙ ap (λ (l : List ℕ). c.args.out.now.items ++ l) (c.as_bytes-2.ensures.value ∙ c.own_name-own.ensures ∙ of_source (program_of c.args.program.now) c.args.number (omega arith))
