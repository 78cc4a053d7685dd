use Rattle.std.proofs.Common.{◌≡◌, ◌∙◌, true, subst, sym}
use Rattle.std.specs.List.{All}
use Rattle.wy_ask.specs.Listing.{never_began}
use Rattle.wy_kernel.specs.Parts.{program_of}
use Rattle.wy_expect.proofs.Unbegun.{never_begun}
use Rattle.wy_expect.proofs.missing.never_text.Goals as goal

pub each_never-requires-clause-never : goal.each_never-requires-clause-never
each_never-requires-clause-never c =
    let o = c.args.opened.now in
    subst (All (λ s. never_began o.coverage.now s ≡ true)) (sym (c.as_slice.ensures.value ∙ c.in_ok-never.ensures)) (never_begun (program_of o.program.now) o.program.now.lines.items o.coverage.now)
