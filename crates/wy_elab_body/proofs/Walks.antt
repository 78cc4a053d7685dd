-- Something is done for each of a list, step by step.
use Rattle.std.proofs.Common.{◌≡◌, ap, sym, ◌∙◌, ℕ, suc, ◌+◌, ◌<◌, ◌≤◌, List, ◌∷◌, map, drop, length, get_or, add-one, drop-cons, Result, Ok, Err}
use Rattle.std.proofs.Math.ListN.{drop_of_length-le}
use Rattle.wy_syntax.specs.declared.declaration.Parameter.{Parameter}
use Rattle.wy_syntax.specs.Syntax as source
use Rattle.wy_syntax.specs.View.{parameter_of}
use Rattle.wy_constant.specs.declared.rule.TypeError.{TypeError}
use Rattle.wy_constant.specs.declared.rule.TypeError.TheVariants as error
use Rattle.wy_constant.specs.Refusal.{Refusal, Fails, refused}
use Rattle.wy_elab_body.specs.Making.{Making, onward}
use Rattle.wy_elab_body.specs.Statements.{Setting}
use Rattle.wy_elab_body.specs.Bodies.{parameter, parameters}

pub next_here : {Y : Type 0} (ys : List Y) (i : ℕ) (y : Y) → i < length ys → y ≡ get_or ys i y → drop i ys ≡ y ∷ drop (i + 1) ys
next_here ys i y less is = drop-cons ys i y less ∙ ap (λ z. z ∷ drop (suc i) ys) (sym is) ∙ ap (λ k. y ∷ drop k ys) (sym (add-one i))

-- ---- the parameters of a method

parameter_goes : (w : Setting) (p : source.Parameter) (rest : List source.Parameter) (k : ℕ) (m after : Making) → parameter w p m ≡ Ok (k, after) → parameters w (p ∷ rest) m ≡ parameters w rest after
unfolding parameters
parameter_goes w p rest k m after is = ap (onward (λ n. parameters w rest)) is

parameter_fails : (w : Setting) (p : source.Parameter) (rest : List source.Parameter) (e : Refusal) (m : Making) → parameter w p m ≡ Err e → parameters w (p ∷ rest) m ≡ Err e
unfolding parameters
parameter_fails w p rest e m is = ap (onward (λ n. parameters w rest)) is

pub next_parameter : (w : Setting) (ys : List Parameter) (i : ℕ) (y : Parameter) (k : ℕ) (m after : Making) (r : Result (Unit × Making) Refusal) → i < length ys → y ≡ get_or ys i y →
    parameter w (parameter_of y) m ≡ Ok (k, after) → parameters w (map parameter_of (drop i ys)) m ≡ r → parameters w (map parameter_of (drop (i + 1) ys)) after ≡ r
next_parameter w ys i y k m after r less at is known =
    sym (parameter_goes w (parameter_of y) (map parameter_of (drop (i + 1) ys)) k m after is)
    ∙ ap (λ z. parameters w (map parameter_of z) m) (sym (next_here ys i y less at)) ∙ known

pub parameter_stops : (w : Setting) (ys : List Parameter) (i : ℕ) (y : Parameter) (e : TypeError) (m : Making) (r : Result (Unit × Making) Refusal) → i < length ys → y ≡ get_or ys i y →
    Fails e (parameter w (parameter_of y) m) → parameters w (map parameter_of (drop i ys)) m ≡ r → Fails e r
parameter_stops w ys i y error.NoMemory m r less at is known = tt
parameter_stops w ys i y (error.Broken rule token) m r less at is known =
    sym known ∙ ap (λ z. parameters w (map parameter_of z) m) (next_here ys i y less at)
    ∙ parameter_fails w (parameter_of y) (map parameter_of (drop (i + 1) ys)) (refused rule token) m is

pub parameters_end : (w : Setting) (ys : List Parameter) (i : ℕ) (m : Making) (r : Result (Unit × Making) Refusal) → length ys ≤ i → parameters w (map parameter_of (drop i ys)) m ≡ r → r ≡ Ok (tt, m)
unfolding parameters
parameters_end w ys i m r less known = sym known ∙ ap (λ z. parameters w (map parameter_of z) m) (drop_of_length-le ys less)
