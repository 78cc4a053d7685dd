-- The main of a well-formed tree's program.
use Rattle.law_program_parts.specs.TableLaws.{TreesDeclareFew}
use Rattle.law_program_parts.specs.Mains.{TreesHaveMain}
use Rattle.law_program_parts.specs.FirstLaws.{TextsHaveMain}
use Rattle.law_program_parts.proofs.Alone.{mains_stand_alone}

pub texts_have_main : TreesHaveMain → TreesDeclareFew → TextsHaveMain
texts_have_main have_main declare_few tree well few count p h = have_main tree well (mains_stand_alone tree well few) (declare_few tree well few).classes count p h
