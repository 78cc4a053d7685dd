-- What a refusal of a shelf is to those who look at a view.
use Rattle.wy_outside.specs.declared.shelf.ShelfError.{ShelfError}
use Rattle.wy_outside.specs.declared.shelf.ShelfError.TheVariants as shelf
use Rattle.wy_view.specs.declared.view.ViewError.{ViewError}
use Rattle.wy_view.specs.declared.view.ViewError.TheVariants as view

abbrev pub refused : ShelfError → ViewError
refused shelf.Failed = view.ReadFault
refused shelf.Absent = view.Gone
refused shelf.NoMemory = view.NoMemory
