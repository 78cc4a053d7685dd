use Rattle.std.proofs.Common.{◌≡◌, ◌∙◌, ◌++◌, OnOk, ap, sym, subst, arith}
use Rattle.wy_kernel.specs.Parts.{program_of}
use Rattle.wy_text.specs.Names.{method_name}
use Rattle.wy_text.proofs.MemberNames.{is_present, no_method}
use Rattle.wy_text.proofs.name.put_method_name.Goals as goal

pub returns-then-number-len : goal.returns-then-number-len
returns-then-number-len c = subst (λ text. OnOk c.put_member_name.result (c.put_member_name.new.out.items ≡ c.args.out.now.items ++ text))
    (no_method c.args.program.now c.args.number (omega arith) ∙ sym (ap (method_name (program_of c.args.program.now)) (is_present c.args.number c.if-number-eq-NONE.false))) c.put_member_name.ensures
