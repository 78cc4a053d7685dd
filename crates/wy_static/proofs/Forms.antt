-- The forms of an expression, one after another.
use Rattle.std.proofs.Common.{◌≡◌, ℕ, refl, sym, ap, ◌∙◌, ⊎_elim, ◌⊎◌, List, [], ◌++◌, ◌∷◌, map, Result, OnOk}
use Rattle.std.specs.List.{flat_map}
use Rattle.wy_kernel.specs.declared.form.Const.{Const}
use Rattle.wy_kernel.specs.declared.form.Expr.{Expr}
use Rattle.wy_kernel.specs.declared.form.Expr.TheVariants as form
use Rattle.wy_kernel.specs.declared.form.Place.{Place}
use Rattle.wy_kernel.specs.declared.form.Place.TheVariants as places
use Rattle.wy_kernel.specs.Form as plain
use Rattle.wy_kernel.specs.View.{expression, row_of}
use Rattle.wy_kernel.specs.View.{place as place_seen}
use Rattle.wy_static.specs.declared.way.Owner.{Owner}
use Rattle.wy_static.specs.Forms.{forms, forms_within, place_forms, row_forms}
use Rattle.wy_static.proofs.Behind.{at, behind_on, leaf}
use Rattle.wy_kernel.proofs.ExpressionViews.{view_const, view_str, view_local, view_static}

abbrev pub Found : Type 0
Found = List (Owner × plain.Expression)

-- a form itself, and then those within it, by what it says
pub with_itself : {U E : Type 0} (r : Result U E) (old mid new : Found) (o : Owner) (e : Expr) (f : plain.Expression) → expression e ≡ f → mid ≡ old ++ (o, expression e) ∷ []
    → OnOk r (new ≡ mid ++ forms_within o f) → OnOk r (new ≡ old ++ forms o (expression e))
with_itself r old mid new o e f is pushed h = behind_on r old mid new ((o, expression e) ∷ []) (forms_within o (expression e)) pushed (at (forms_within o) r mid new (expression e) f is h)

-- a form that has none within it
pub alone : (old mid : Found) (o : Owner) (e : Expr) → ((value : Const) × (e ≡ form.Const value)) ⊎ ((text : ℕ) × (e ≡ form.Str text)) → mid ≡ old ++ (o, expression e) ∷ [] → mid ≡ old ++ forms o (expression e)
alone old mid o e is pushed = pushed ∙ ap (λ l. old ++ (o, expression e) ∷ l) (⊎_elim
    (λ h. sym (ap (forms_within o) (ap expression h.1 ∙ view_const _)))
    (λ h. sym (ap (forms_within o) (ap expression h.1 ∙ view_str _)))
    is)

pub no_part : (old : Found) (o : Owner) (x : Place) → ((index : ℕ) × (x ≡ places.Local index)) ⊎ ((field : ℕ) × (site : ℕ) × (x ≡ places.Static field site)) → old ≡ old ++ place_forms o (place_seen x)
no_part old o x = ⊎_elim
    (λ h. leaf (place_forms o) old (place_seen x) _ (ap place_seen h.1 ∙ view_local _) refl)
    (λ h. leaf (place_forms o) old (place_seen x) _ (ap place_seen h.2 ∙ view_static _ _) refl)

abbrev pub of_each : Owner → Expr → Found
of_each o e = forms o (expression e)

pub of_row : (o : Owner) (row : List Expr) → flat_map (of_each o) row ≡ row_forms o (row_of (map expression row))
of_row o [] = refl
of_row o (e ∷ rest) = ap (λ l. of_each o e ++ l) (of_row o rest)
