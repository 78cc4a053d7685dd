use Rattle.std.proofs.Common.{arith, ap, sym, refl, ◌∙◌, ◌+◌}
use Rattle.wy_frames.specs.Progress.{start}
use Rattle.wy_frames.proofs.Openings.{opening_is_long}
use Rattle.wy_frames.proofs.past.Past.start.Goals as goal

pub returns : goal.returns
unfolding start
returns c = record {
  counts = record { known = c.new.ensures.items; uses = refl; output = refl; at = ap (λ n. 13 + n) c.payload_length-length.ensures ∙ sym (opening_is_long c.args.version c.args.head.now); hashed = c.hashed.ensures };
  stage = refl;
}

pub overflow_cast-result : goal.overflow_cast-result
overflow_cast-result c = omega (arith, opening_is_long c.args.version c.args.head.now, c.requires, c.payload_length-length.ensures)
