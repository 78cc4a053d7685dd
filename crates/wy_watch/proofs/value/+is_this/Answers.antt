use Rattle.std.proofs.Common.{sym}
use Rattle.wy_watch.proofs.Forms.{not_this}
use Rattle.wy_watch.proofs.value.+is_this.Goals as goal

pub returns-in_default : goal.returns-in_default
returns-in_default t c = sym (not_this c.args.e.now c.in_default.not-This c.in_default.not-Group)
