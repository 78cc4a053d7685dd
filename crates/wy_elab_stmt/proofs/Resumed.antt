-- A body that is made from its beginning to its end, with the texts of the bodies before it.
use Rattle.std.proofs.Common.{◌≡◌, ap, sym, ◌∙◌, ℕ, List, [], Result, Ok, Err}
use Rattle.wy_kernel.specs.Form as kernel
use Rattle.wy_constant.specs.declared.rule.TypeError.{TypeError}
use Rattle.wy_constant.specs.declared.rule.TypeError.TheVariants as error
use Rattle.wy_constant.specs.Refusal.{Refusal, Fails, refused}
use Rattle.wy_constant.specs.Scope.{FixedText}
use Rattle.wy_elab_expr.specs.Meaning.{onward, give}
use Rattle.wy_elab_body.specs.declared.making.Making as memory
use Rattle.wy_elab_body.specs.Making.{Making, Makes, rejoined, resumed, with_texts}
use Rattle.wy_elab_body.specs.Bodies.{body_of}
use Rattle.wy_elab_stmt.specs.Classes.{whole}
use Rattle.wy_elab_body.specs.Views.{making_of}

made_with : (start : Making) (end : ℕ) (f : Makes kernel.Statement) (m : memory.Making) (texts : List FixedText) (r : Result (kernel.Statement × Making) Refusal) →
    making_of m [] ≡ start → f (making_of m texts) ≡ r → whole start end f texts ≡ onward (λ p. give (body_of p.0 p.1 end)) (rejoined r)
unfolding resumed
made_with start end f m texts r begins is =
    ap (λ n. onward (λ p. give (body_of p.0 p.1 end)) (rejoined (f (with_texts n texts)))) (sym begins) ∙ ap (λ z. onward (λ p. give (body_of p.0 p.1 end)) (rejoined z)) is

pub made : (start : Making) (end : ℕ) (f : Makes kernel.Statement) (m : memory.Making) (texts : List FixedText) (x : kernel.Statement) (after : Making) →
    making_of m [] ≡ start → f (making_of m texts) ≡ Ok (x, after) → whole start end f texts ≡ Ok (body_of x after end, after.texts)
made start end f m texts x after begins is = made_with start end f m texts (Ok (x, after)) begins is

pub refuses : (start : Making) (end : ℕ) (f : Makes kernel.Statement) (m : memory.Making) (texts : List FixedText) (e : TypeError) →
    making_of m [] ≡ start → Fails e (f (making_of m texts)) → Fails e (whole start end f texts)
refuses start end f m texts error.NoMemory begins is = tt
refuses start end f m texts (error.Broken rule token) begins is = made_with start end f m texts (Err (refused rule token)) begins is
