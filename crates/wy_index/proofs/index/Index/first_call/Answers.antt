use Rattle.std.specs.BTreeMap.{get}
use Rattle.std.specs.Ordering.{nat_cmp}
use Rattle.wy_index.specs.Found.{is_call_of}
use Rattle.wy_index.proofs.Creations.{first_as_kept}
use Rattle.wy_index.proofs.index.Index.first_call.Goals as goal

pub returns : goal.returns
returns c = λ rs is. first_as_kept (is_call_of c.args.method) rs (get nat_cmp c.args.self.now.calls c.args.method) c.unwrap_or.result is.few (is.calls c.args.method) (cc)
