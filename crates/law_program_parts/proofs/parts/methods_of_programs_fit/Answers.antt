use Rattle.std.proofs.Common.{sym, subst}
use Rattle.law_well_formed.specs.Written.{HasNoKeyword}
use Rattle.law_program_parts.specs.Programs.{TablesHaveRows}
use Rattle.law_program_parts.specs.BodiesLaws.{MethodsOfTreesHaveBodies, NoneOfTheseIsAbstract, MethodsOfTreesFit}
use Rattle.law_program_parts.proofs.Fitting.{all_named}
use Rattle.law_program_parts.proofs.parts.methods_of_programs_fit.Goals as goal

of_trees : MethodsOfTreesHaveBodies → NoneOfTheseIsAbstract → TablesHaveRows → MethodsOfTreesFit
of_trees bodies concrete rows tree well words count p accepted =
    let named = all_named rows tree words count p accepted in
    record {
      bodies = bodies tree well count p accepted;
      never_abstract = concrete tree well count p accepted;
      constructors = λ k m found. (named k m found).0;
      units = λ k m found. (named k m found).1;
    }

pub returns-clause-trees : goal.returns-clause-trees
returns-clause-trees c = of_trees c.methods_of_programs_have_bodies.ensures c.constructors_and_static_methods_have_bodies.ensures.concrete c.the_table_of_a_text_says_what_the_text_says.ensures.rows

pub returns-clause-texts : goal.returns-clause-texts
returns-clause-texts c = λ text spans tree read well count p accepted.
    of_trees c.methods_of_programs_have_bodies.ensures c.constructors_and_static_methods_have_bodies.ensures.concrete c.the_table_of_a_text_says_what_the_text_says.ensures.rows
    tree well.0 (subst HasNoKeyword (sym well.1) (c.names_are_no_keywords.ensures text spans read)) count p accepted
