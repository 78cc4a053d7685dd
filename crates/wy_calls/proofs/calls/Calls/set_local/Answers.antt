use Rattle.std.proofs.Common.{◌∙◌, ap}
use Rattle.wy_calls.specs.Calls.{with_local}
use Rattle.wy_calls.proofs.CallStacks.{set_is}
use Rattle.wy_calls.proofs.calls.Calls.set_local.Goals as goal

pub returns : goal.returns
returns c = set_is c.self.inside.frames.items c.self.inside.locals.items _ _ _ _ _ _ _ c.deref.ensures.value c.deref-2.ensures.value c.in-Some.ensures ∙ ap (with_local c.args.index c.args.value) c.self.view_is
