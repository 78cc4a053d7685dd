use Rattle.std.proofs.Common.{◌++◌}
use Rattle.std.specs.Prelude.{codes}
use Rattle.wy_kernel.specs.View.{present}
use Rattle.wy_kernel.specs.Parts.{program_of}
use Rattle.wy_text.specs.Names.{method_name}
use Rattle.wy_static.proofs.Behind.{behind_on}
use Rattle.wy_telling.specs.Items.{call_text, calls_text}
use Rattle.wy_telling.proofs.item.put_call.Goals as goal

pub returns : goal.returns
unfolding call_text
returns c =
    let p = program_of c.args.program.now in
    let r = c.put_calls.result in
    let new = c.put_calls.new.out.items in
    let name = method_name p (present c.args.method) in
    let last = calls_text p c.args.made.now c.args.cause in
    behind_on r c.args.out.now.items c.put_text.new.out.items new (codes "call ") (name ++ (codes " not made: " ++ last)) c.in_ok-put_text.ensures
    (behind_on r c.put_text.new.out.items c.put_method_name.new.out.items new name (codes " not made: " ++ last) c.in_ok-put_method_name.ensures
    (behind_on r c.put_method_name.new.out.items c.put_text-2.new.out.items new (codes " not made: ") last c.in_ok-put_text-2.ensures c.put_calls.ensures))
