use Rattle.std.specs.Prelude.{◌≡◌, ◌++◌, OnOk}
use Rattle.std.proofs.Common.{ap, subst, sym}
use Rattle.wy_kernel.proofs.Views.{view_statement}
use Rattle.wy_ask.specs.Lines.{askable_of}
use Rattle.wy_ask.proofs.askable.put_statement.Goals as goal

pub returns : goal.returns
returns c =
    let same = sym (ap (askable_of c.args.lines.now) (view_statement c.args.s.now)) in
    subst (λ x. OnOk c.put_own.result (c.put_own.new.out.items ≡ c.args.out.now.items ++ x)) same c.put_own.ensures
