use Rattle.std.proofs.Common.{◌≡◌, ◌++◌, take}
use Rattle.std.specs.List.{flat_map}
use Rattle.wy_static.specs.Seen.{forms_seen}
use Rattle.wy_static.proofs.Forms.{of_each}
use Rattle.wy_static.proofs.form.+forms.Given as goal

abbrev pub invariant-put_row-loop-e : goal.invariant-put_row-loop-e
invariant-put_row-loop-e l = forms_seen l.out.items ≡ forms_seen l.fn.out.items ++ flat_map (of_each l.owner) (take l.e-index l.row)
