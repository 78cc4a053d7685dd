use Rattle.std.proofs.Common.{Bor, map, ◌≡◌, refl}
use Rattle.wy_kernel.specs.View.{class_of, field_of, method_of}
use Rattle.wy_syntax.specs.declared.declaration.ClassSyntax.{ClassSyntax}
use Rattle.wy_syntax.specs.View.{class_of as class_syntax}
use Rattle.wy_members.specs.Least.{Among, Either}
use Rattle.wy_members.specs.Within.{ClassTwice, FieldTwice, MethodTwice, RepeatsInClass}
use Rattle.wy_members.proofs.Leasts.{either, again_in}
use Rattle.wy_members.proofs.broken.judging.least_duplicate.Goals as goal

pub returns : goal.returns
returns c =
    let rows = c.args.rows.now in
    let Classes = ClassTwice (map class_of rows.classes.items) in
    let Fields = FieldTwice (map field_of rows.fields.items) in
    let Methods = MethodTwice (map method_of c.args.known.now) in
    let Text = Among (map (λ (k : Bor ClassSyntax). class_syntax k.now) c.args.classes.now) (λ i k. RepeatsInClass k) in
    either (Either Classes Fields) (Either Methods Text) _ _ _
    (either Classes Fields _ _ _
    (again_in class_of (λ a b. a.name ≡ b.name) (λ b. b.site) rows.classes.items c.deref.result.now _ c.deref.ensures.value c.in_ok-in_classes.ensures)
    (again_in field_of (λ a b. (a.class ≡ b.class) × (a.name ≡ b.name)) (λ b. b.site) rows.fields.items c.deref-2.result.now _ c.deref-2.ensures.value c.in_ok-in_fields.ensures)
    c.lesser.ensures)
    (either Methods Text _ _ _
    (again_in method_of (λ a b. (a.class ≡ b.class) × (a.name ≡ b.name) × (a.params ≡ b.params)) (λ b. b.site) c.args.known.now c.args.known.now _ refl c.in_ok-in_methods.ensures)
    c.in_ok-in_text.ensures
    c.lesser-2.ensures)
    c.lesser-3.ensures
