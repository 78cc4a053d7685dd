use Rattle.std.proofs.Common.{◌≡◌, drop, map}
use Rattle.wy_explain.specs.Rows.{form_in}
use Rattle.wy_explain.specs.Views.{form_of, window_of}
use Rattle.wy_explain.proofs.feature.form_in.Given as goal

abbrev pub invariant-loop-form : goal.invariant-loop-form
invariant-loop-form l = form_in (map form_of l.forms) (window_of l.window) ≡ form_in (map form_of (drop l.form-index l.forms)) (window_of l.window)
