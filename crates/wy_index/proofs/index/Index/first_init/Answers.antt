use Rattle.std.specs.BTreeMap.{get}
use Rattle.std.specs.Ordering.{nat_cmp}
use Rattle.wy_index.specs.Found.{is_init_of}
use Rattle.wy_index.proofs.Creations.{first_as_kept}
use Rattle.wy_index.proofs.index.Index.first_init.Goals as goal

pub returns : goal.returns
returns c = λ rs is. first_as_kept (is_init_of c.args.class) rs (get nat_cmp c.args.self.now.inits c.args.class) c.unwrap_or.result is.few (is.inits c.args.class) (cc)
