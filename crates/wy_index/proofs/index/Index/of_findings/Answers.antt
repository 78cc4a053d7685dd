-- What was found in the records is the index's.
use Rattle.std.proofs.Common.{length, ap, ◌∙◌, subst, refl, get_or, arith}
use Rattle.std.specs.Prelude.{IsPermutation}
use Rattle.wy_kernel.specs.Parts.{program_of}
use Rattle.wy_index.proofs.Building.{few_postings, owner_kept}
use Rattle.wy_index.proofs.index.Index.of_findings.Goals as goal

pub new-requires : goal.new-requires
new-requires c =
    let v = c.requires in
    omega (arith, ap length v.has_found.writes, few_postings 0 v.records, v.few)

pub returns-clause-index : goal.returns-clause-index
returns-clause-index c = λ rs found few. record {
  few = few;
  postings = subst (λ l. IsPermutation l c.new.result) found.writes c.new.ensures.permutation;
  in_order = c.new.ensures.in_order;
  made = found.made;
  prints = found.prints;
  calls = found.calls;
  inits = found.inits;
  hits = found.hits;
}

pub returns-clause-owners : goal.returns-clause-owners
returns-clause-owners c = λ f. ap (λ l. get_or l f 0) c.in_ok-owners.ensures ∙ owner_kept (program_of c.args.program.now) c.args.program.now.fields.items f refl
