-- A lineage as the table of its classes and methods.
use Rattle.std.specs.Prelude.{[], map}
use Rattle.wy_kernel.specs.Table.{Table}
use Rattle.wy_kernel.specs.View.{class_of, method_of}
use Rattle.wy_overloads.specs.declared.lineage.Lineage.{Lineage}

unfoldable pub lineage_of : Lineage → Table
lineage_of l = record { classes = map class_of l.classes.now; methods = map method_of l.methods.now; fields = []; constants = [] }
