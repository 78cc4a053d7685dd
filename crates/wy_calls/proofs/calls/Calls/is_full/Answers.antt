use Rattle.std.proofs.Common.{◌≡◌, ◌∙◌, ap, sym, length, arith}
use Rattle.std.specs.Prelude.{nat_le}
use Rattle.wy_calls.specs.Calls.{CallStack}
use Rattle.wy_calls.proofs.Frames.{as_many}
use Rattle.wy_calls.proofs.calls.Calls.is_full.Goals as goal

pub returns : goal.returns
returns c =
    let many : c.len.result ≡ length c.self.inside.frames.items = omega arith in
    ap (nat_le 1000) (many ∙ sym (as_many c.self.inside.frames.items c.self.inside.locals.items) ∙ ap (λ (s : CallStack). length s.frames) c.self.view_is)
