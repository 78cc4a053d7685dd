-- A head in memory is of bytes.
use Rattle.std.proofs.Common.{subst}
use Rattle.law_reading.specs.Spelled.{AreBytes}
use Rattle.wy_page.proofs.Bytes.{head_bytes}
use Rattle.wy_page.proofs.opening.is_of_bytes.Goals as goal

pub returns : goal.returns
returns c = head_bytes c.args.version c.args.head.now (subst AreBytes c.as_slice.ensures c.are_bytes.ensures) (subst AreBytes c.as_slice-2.ensures c.are_bytes-2.ensures)
