use Rattle.std.proofs.Common.{◌≡◌, ◌++◌, OnOk, subst, arith}
use Rattle.wy_text.proofs.MemberNames.{no_field}
use Rattle.wy_text.proofs.name.put_field_name.Goals as goal

pub returns-then-number-len : goal.returns-then-number-len
returns-then-number-len c = subst (λ text. OnOk c.put_member_name.result (c.put_member_name.new.out.items ≡ c.args.out.now.items ++ text)) (no_field c.args.program.now c.args.number (omega arith)) c.put_member_name.ensures
