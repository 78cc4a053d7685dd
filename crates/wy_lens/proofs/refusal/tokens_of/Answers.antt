use Rattle.wy_lens.proofs.refusal.tokens_of.Goals as goal

pub unreachable-requires : goal.unreachable-requires
unreachable-requires c = c.in_default.not-NoMemory (c.in-Err.ensures.tokens c.requires.read.0 c.requires.read.1)
