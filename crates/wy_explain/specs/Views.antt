-- What is in memory, as the definitions see it.
use Rattle.std.specs.Borrow.{Bor}
use Rattle.std.specs.Prelude.{ℕ, List, map}
use Rattle.wy_explain.specs.declared.table.Saying.{Saying}
use Rattle.wy_explain.specs.declared.table.Feature.{Feature}
use Rattle.wy_explain.specs.declared.table.Row.{Row}
use Rattle.wy_explain.specs.declared.table.Form.{Form}
use Rattle.wy_explain.specs.declared.window.Front.{Front}
use Rattle.wy_explain.specs.declared.window.Window.{Window}
use Rattle.wy_explain.specs.Rows as rows
use Rattle.wy_explain.specs.Windows as windows

abbrev pub words_of : List (Bor (List ℕ)) → List (List ℕ)
words_of words = map (λ w. w.now) words

abbrev pub saying_of : Saying → rows.Saying
saying_of s = record { rule = s.rule.now; says = s.says.now }

abbrev pub feature_of : Feature → rows.Feature
feature_of f = record { name = f.name.now; is_java = f.is_java; instead = f.instead.now }

abbrev pub row_of : Row → rows.Row
row_of r = record { words = words_of r.words.now; feature = feature_of r.feature }

abbrev pub form_of : Form → rows.Form
form_of f = record {
  here = words_of f.here.now;
  before = words_of f.before.now;
  within = words_of f.within.now;
  ahead = words_of f.ahead.now;
  feature = feature_of f.feature;
}

abbrev pub front_of : Front → windows.Front
front_of f = record { end = f.end; last = f.last.now; words = words_of f.words.items }

abbrev pub window_of : Window → rows.Window
window_of w = record { place = w.place; here = w.here.now; last = w.last.now; before = words_of w.before.items; ahead = words_of w.ahead.items }
