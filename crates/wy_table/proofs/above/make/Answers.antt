use Rattle.std.proofs.Common.{◌<◌, length, arith}
use Rattle.std.specs.Prelude.{map}
use Rattle.std.proofs.lemmas.List.{length-map}
use Rattle.wy_kernel.specs.View.{class_of}
use Rattle.wy_table.proofs.Rows.{set_in}
use Rattle.wy_table.proofs.above.make.Goals as goal

pub returns-in_ok-row : goal.returns-in_ok-row
returns-in_ok-row c =
    let classes = map class_of c.args.classes.now in
    let lt : c.args.c < length classes = (let h = c.requires.here in omega (arith, length-map c.args.classes.now class_of)) in
    record { made = set_in (λ row. row.items) classes c.args.numbers.now c.args.rows.now.items c.args.c c.in_ok-row.row lt c.requires.begun c.in_ok-row.ensures }
