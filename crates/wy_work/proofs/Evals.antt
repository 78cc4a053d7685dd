-- What an expression does is its step, its operands, and the rest of it with what they are.
use Rattle.std.proofs.Common.{◌≡◌, ◌∙◌, ℕ, Bool, pos, suc, List, ◌∷◌, length, map, refl, ap, sym, Option}
use Rattle.wy_kernel.specs.Form.{Expression, Const, Str, Read, Set, Upd, Un, Bin, Conv, Cast, InstanceOf, Cond, New, NewArray, Call, Cat, Lib, Place, Local, Static, Field, Elem, Part, absent, the, Row, none, more}
use Rattle.wy_kernel.specs.declared.operator.BinOp.{BinOp}
use Rattle.wy_kernel.specs.declared.operator.UnOp.{UnOp}
use Rattle.wy_kernel.specs.declared.operator.Primitive.{Primitive}
use Rattle.wy_kernel.specs.declared.types.Ty.{Ty}
use Rattle.wy_kernel.specs.declared.form.CallForm.{CallForm}
use Rattle.wy_kernel.specs.declared.form.CallForm.TheVariants as forms
use Rattle.wy_kernel.specs.declared.form.LibOp.{LibOp}
use Rattle.wy_value.specs.declared.value.Value.TheVariants as val
use Rattle.wy_steps.specs.Sets.{nothing}
use Rattle.wy_steps.specs.State.{State, Carried, Run, Outcome, go_on, ◌>>=◌, ◌>>◌, return}
use Rattle.wy_steps.specs.Steps.{constant, tick}
use Rattle.wy_meaning.specs.World.{World, all_of}
use Rattle.wy_meaning.specs.Place.{AtLocal, AtStatic, AtField, AtElem, find, read_place, set_place}
use Rattle.wy_meaning.specs.Text.{cat}
use Rattle.wy_meaning.specs.Call.{call_on, call_static, create}
use Rattle.wy_meaning.specs.Array.{create_array, new_array}
use Rattle.wy_meaning.specs.Library.{library, library_form}
use Rattle.wy_meaning.specs.Expression.{binary, call, cast, conditional, constant_value, convert, eval, eval_part, eval_row, instance_of, locate, part_or, unary, update}
use Rattle.wy_operands.specs.Values.{Values, at, last_many, under_many}
use Rattle.wy_work.specs.declared.task.ExprStep.TheVariants as step
use Rattle.wy_work.specs.Expressions.{expr_step, put_all, put_on}
use Rattle.wy_work.specs.Operands.{Given, list_of, of_first, operands_of}
use Rattle.wy_operation.proofs.Runs.{go_on-go_on}
use Rattle.wy_work.proofs.Updates.{go_on_same, update_is}
use Rattle.wy_work.proofs.Finds.{all_evaluated, row_found}

module _ (w : World nothing) where
  -- an expression after its step
  abbrev pub body : Expression → Given
  body (Const v) = return (constant (constant_value v))
  body (Str n) = return (constant (val.Fixed n))
  body (Read place) = read_place w (locate w place)
  body (Set place value site) = set_place w (locate w place) (eval w value) site
  body (Upd place op value value_ty ty wide gives_old site) = update w (locate w place) op (part_or (val.Int (pos 1)) (eval_part w value)) ty wide gives_old site
  body (Un op operand) = unary op (eval w operand)
  body (Bin op left right site) = binary w op (eval w left) (eval w right) site
  body (Conv to operand) = convert to (eval w operand)
  body (Cast ty operand site) = cast w ty (eval w operand) site
  body (InstanceOf ty operand) = instance_of w ty (eval w operand)
  body (Cond form test if_true if_false site) = conditional (eval w test) (eval_part w if_true) (eval_part w if_false) site
  body (New c constructor args site) = create w c constructor (eval_row w args) site
  body (NewArray ty dims elements sites site) = new_array w ty (eval_row w dims) (eval_row w elements) sites site
  body (Call form m receiver ty args site) = call w form m (eval_part w receiver) (eval_row w args) site
  body (Cat left right left_ty right_ty site) = cat w (eval w left) (eval w right) site
  body (Lib op args site) = library_form w op (eval_row w args) site

  pub steps : (x : Expression) (s : State nothing) → eval w x s ≡ (tick >> body x) s
  unfolding eval
  steps (Const v) s = refl
  steps (Str n) s = refl
  steps (Read place) s = refl
  steps (Set place value site) s = refl
  steps (Upd place op value value_ty ty wide gives_old site) s = refl
  steps (Un op operand) s = refl
  steps (Bin op left right site) s = refl
  steps (Conv to operand) s = refl
  steps (Cast ty operand site) s = refl
  steps (InstanceOf ty operand) s = refl
  steps (Cond form test if_true if_false site) s = refl
  steps (New c constructor args site) s = refl
  steps (NewArray ty dims elements sites site) s = refl
  steps (Call form m receiver ty args site) s = refl
  steps (Cat left right left_ty right_ty site) s = refl
  steps (Lib op args site) s = refl

  -- the operands, and then the rest
  abbrev pub operated : Expression → Values → Run nothing Values
  operated x vs = λ s. go_on (put_all w (operands_of x) vs s) (expr_step w x step.Operate)

  module _ (vs : Values) (s : State nothing) where
    un_is : (x : Expression) (f : Given → Given) → ((m : Given) (s : State nothing) → f m s ≡ go_on (m s) (λ v. f (return v))) →
        go_on (f (eval w x) s) (λ v. return (v ∷ vs)) ≡ go_on (go_on (eval w x s) (λ v. return (v ∷ vs))) (λ us. put_on (under_many 1 us) (f (return (at 0 us))))
    unfolding go_on return
    un_is x f by = ap (λ o. go_on o (λ v. return (v ∷ vs))) (by (eval w x) s) ∙ go_on-go_on (eval w x s) _ _ ∙ sym (go_on-go_on (eval w x s) _ _)

    two_is : (x y : Expression) (f : Given → Given → Given) → ((a b : Given) (s : State nothing) → f a b s ≡ go_on (a s) (λ v s. go_on (b s) (λ u. f (return v) (return u)))) →
        go_on (f (eval w x) (eval w y) s) (λ v. return (v ∷ vs)) ≡ go_on (go_on (eval w x s) (λ v s. go_on (eval w y s) (λ u. return (u ∷ v ∷ vs)))) (λ us. put_on (under_many 2 us) (f (return (at 1 us)) (return (at 0 us))))
    unfolding go_on return
    two_is x y f by =
        ap (λ o. go_on o (λ v. return (v ∷ vs))) (by (eval w x) (eval w y) s) ∙ go_on-go_on (eval w x s) _ _ ∙ go_on_same (eval w x s) _ _ (λ v s. go_on-go_on (eval w y s) _ _ ∙ sym (go_on-go_on (eval w y s) _ _)) ∙ sym (go_on-go_on (eval w x s) _ _)

    pub of_one_operand : (op : UnOp) (x : Expression) → put_on vs (body (Un op x)) s ≡ operated (Un op x) vs s
    unfolding unary ◌>>=◌ go_on return
    of_one_operand op x = un_is x (unary op) (λ m s. refl)

    pub of_two_operands : (op : BinOp) (x y : Expression) (site : ℕ) → put_on vs (body (Bin op x y site)) s ≡ operated (Bin op x y site) vs s
    unfolding binary ◌>>=◌ go_on return
    of_two_operands op x y site = two_is x y (λ a b. binary w op a b site) (λ a b s. refl)

    pub of_a_row : (op : LibOp) (args : Row) (site : ℕ) → put_on vs (body (Lib op args site)) s ≡ operated (Lib op args site) vs s
    unfolding library_form ◌>>=◌ go_on return
    of_a_row op args site =
        go_on-go_on (all_of (eval_row w args) s) (library w op site) (λ v. return (v ∷ vs))
        ∙ sym (row_found w args vs (λ xs under_them. put_on under_them (library_form w op (map return xs) site)) s
        ∙ go_on_same (all_of (eval_row w args) s) _ _ (λ xs s. ap (λ (o : Outcome nothing Values). go_on (go_on o (library w op site)) (λ v. return (v ∷ vs))) (all_evaluated xs s)))

    three_is : (x y z : Expression) (f : Given → Given → Given → Given) → ((a b c : Given) (s : State nothing) → f a b c s ≡ go_on (a s) (λ v s. go_on (b s) (λ u s. go_on (c s) (λ t. f (return v) (return u) (return t))))) →
        go_on (f (eval w x) (eval w y) (eval w z) s) (λ v. return (v ∷ vs)) ≡ go_on (go_on (eval w x s) (λ v s. go_on (eval w y s) (λ u s. go_on (eval w z s) (λ t. return (t ∷ u ∷ v ∷ vs))))) (λ us. put_on (under_many 3 us) (f (return (at 2 us)) (return (at 1 us)) (return (at 0 us))))
    unfolding go_on return
    three_is x y z f by =
        ap (λ o. go_on o (λ v. return (v ∷ vs))) (by (eval w x) (eval w y) (eval w z) s) ∙ go_on-go_on (eval w x s) _ _
        ∙ go_on_same (eval w x s) _ _ (λ v s. go_on-go_on (eval w y s) _ _ ∙ go_on_same (eval w y s) _ _ (λ u s. go_on-go_on (eval w z s) _ _ ∙ sym (go_on-go_on (eval w z s) _ _)) ∙ sym (go_on-go_on (eval w y s) _ _))
        ∙ sym (go_on-go_on (eval w x s) _ _)

    row_is : (row : Row) (f : List Given → Given) (k : Values → Given) → ((ms : List Given) (s : State nothing) → f ms s ≡ go_on (all_of ms s) k) →
        go_on (f (eval_row w row) s) (λ v. return (v ∷ vs)) ≡ go_on (put_all w (list_of row) vs s) (λ us. put_on (under_many (length (list_of row)) us) (f (map return (last_many (length (list_of row)) us))))
    unfolding go_on return
    row_is row f k by =
        ap (λ o. go_on o (λ v. return (v ∷ vs))) (by (eval_row w row) s) ∙ go_on-go_on (all_of (eval_row w row) s) k (λ v. return (v ∷ vs))
        ∙ sym (row_found w row vs (λ xs under_them. put_on under_them (f (map return xs))) s
        ∙ go_on_same (all_of (eval_row w row) s) _ _ (λ xs s. ap (λ o. go_on o (λ v. return (v ∷ vs))) (by (map return xs) s) ∙ ap (λ (o : Outcome nothing Values). go_on (go_on o k) (λ v. return (v ∷ vs))) (all_evaluated xs s)))

    headed_is : (r : Expression) (row : Row) (f : Given → List Given → Given) (k : Carried nothing → Values → Given) → ((m : Given) (ms : List Given) (s : State nothing) → f m ms s ≡ go_on (m s) (λ v s. go_on (all_of ms s) (k v))) →
        go_on (f (eval w r) (eval_row w row) s) (λ v. return (v ∷ vs)) ≡ go_on (put_all w (r ∷ list_of row) vs s) (λ us. put_on (under_many (suc (length (list_of row))) us) (of_first w f (last_many (suc (length (list_of row))) us)))
    unfolding all_of eval_row ◌>>=◌ go_on return
    headed_is r row f k by =
        ap (λ o. go_on o (λ v. return (v ∷ vs))) (by (eval w r) (eval_row w row) s) ∙ go_on-go_on (eval w r s) _ _
        ∙ go_on_same (eval w r s) _ _ (λ v s. go_on-go_on (all_of (eval_row w row) s) (k v) (λ v. return (v ∷ vs)))
        ∙ sym (row_found w (more r row) vs (λ xs under_them. put_on under_them (of_first w f xs)) s
        ∙ go_on-go_on (eval w r s) _ _
        ∙ go_on_same (eval w r s) _ _ (λ v s. go_on-go_on (all_of (eval_row w row) s) _ _
        ∙ go_on_same (all_of (eval_row w row) s) _ _ (λ xs s. ap (λ o. go_on o (λ v. return (v ∷ vs))) (by (return v) (map return xs) s) ∙ ap (λ (o : Outcome nothing Values). go_on (go_on o (k v)) (λ v. return (v ∷ vs))) (all_evaluated xs s))))

    read_is : (place : Place) → put_on vs (body (Read place)) s ≡ operated (Read place) vs s
    unfolding read_place find locate ◌>>=◌ go_on return
    read_is (Local i) = refl
    read_is (Static f site) = refl
    read_is (Field object f site) = un_is object (λ m. read_place w (AtField m f site)) (λ m s. go_on-go_on (m s) _ _)
    read_is (Elem array index site) = two_is array index (λ a k. read_place w (AtElem a k site)) (λ a k s. go_on-go_on (a s) _ _ ∙ go_on_same (a s) _ _ (λ v s. go_on-go_on (k s) _ _))

    set_is : (place : Place) (value : Expression) (site : ℕ) → put_on vs (body (Set place value site)) s ≡ operated (Set place value site) vs s
    unfolding set_place locate ◌>>=◌ go_on return
    set_is (Local i) value site = un_is value (λ v. set_place w (AtLocal i) v site) (λ v s. refl)
    set_is (Static f at) value site = un_is value (λ v. set_place w (AtStatic f at) v site) (λ v s. refl)
    set_is (Field object f at) value site = two_is object value (λ o v. set_place w (AtField o f at) v site) (λ o v s. refl)
    set_is (Elem array index at) value site = three_is array index value (λ a k v. set_place w (AtElem a k at) v site) (λ a k v s. refl)

    array_is : (ty : Ty) (dims elements : Row) (sites : List ℕ) (site : ℕ) → put_on vs (body (NewArray ty dims elements sites site)) s ≡ operated (NewArray ty dims elements sites site) vs s
    unfolding new_array eval_row create_array ◌>>=◌ go_on return
    array_is ty none elements sites site = refl
    array_is ty (more d ds) elements sites site = row_is (more d ds) (λ dims. create_array w ty dims site) _ (λ dims s. refl)

    call_is : (f : CallForm) (m : ℕ) (receiver : Part) (ty : Ty) (args : Row) (site : ℕ) → put_on vs (body (Call f m receiver ty args site)) s ≡ operated (Call f m receiver ty args site) vs s
    unfolding call call_on call_static part_or eval_part ◌>>=◌ go_on return
    call_is forms.Static m absent ty args site = row_is args (λ ms. call_static w m ms site) _ (λ ms s. refl)
    call_is forms.Static m (the r) ty args site = row_is args (λ ms. call_static w m ms site) _ (λ ms s. refl)
    call_is forms.Direct m absent ty args site = row_is args (λ ms. call_on w forms.Direct m (return (constant val.Null)) ms site) _ (λ ms s. refl)
    call_is forms.Chosen m absent ty args site = row_is args (λ ms. call_on w forms.Chosen m (return (constant val.Null)) ms site) _ (λ ms s. refl)
    call_is forms.Direct m (the r) ty args site = headed_is r args (λ o ms. call_on w forms.Direct m o ms site) _ (λ o ms s. refl)
    call_is forms.Chosen m (the r) ty args site = headed_is r args (λ o ms. call_on w forms.Chosen m o ms site) _ (λ o ms s. refl)

    upd_is : (place : Place) (op : BinOp) (value : Part) (value_ty ty : Ty) (wide : Option Primitive) (gives_old : Bool) (site : ℕ) → put_on vs (body (Upd place op value value_ty ty wide gives_old site)) s ≡ operated (Upd place op value value_ty ty wide gives_old site) vs s
    unfolding find locate ◌>>=◌ go_on return
    upd_is (Local i) op value value_ty ty wide gives_old site = refl
    upd_is (Static f at) op value value_ty ty wide gives_old site = refl
    upd_is (Field object f at) op value value_ty ty wide gives_old site =
        let g = λ (m : Given). update w (AtField m f at) op (part_or (val.Int (pos 1)) (eval_part w value)) ty wide gives_old site in
        un_is object g (λ m s. update_is w (AtField m f at) op (part_or (val.Int (pos 1)) (eval_part w value)) ty wide gives_old site s ∙ go_on-go_on (m s) _ _
        ∙ sym (go_on_same (m s) _ _ (λ v s. update_is w (AtField (return v) f at) op (part_or (val.Int (pos 1)) (eval_part w value)) ty wide gives_old site s)))
    upd_is (Elem array index at) op value value_ty ty wide gives_old site =
        let g = λ (a k : Given). update w (AtElem a k at) op (part_or (val.Int (pos 1)) (eval_part w value)) ty wide gives_old site in
        two_is array index g (λ a k s. update_is w (AtElem a k at) op (part_or (val.Int (pos 1)) (eval_part w value)) ty wide gives_old site s ∙ go_on-go_on (a s) _ _ ∙ go_on_same (a s) _ _ (λ v s. go_on-go_on (k s) _ _)
        ∙ sym (go_on_same (a s) _ _ (λ v s. go_on_same (k s) _ _ (λ u s. update_is w (AtElem (return v) (return u) at) op (part_or (val.Int (pos 1)) (eval_part w value)) ty wide gives_old site s))))

    -- what comes after the step of an expression: its operands, and then the rest
    pub body_is : (x : Expression) → put_on vs (body x) s ≡ operated x vs s
    unfolding convert cast instance_of cat ◌>>=◌ go_on return
    body_is (Const v) = refl
    body_is (Str n) = refl
    body_is (Read place) = read_is place
    body_is (Set place value site) = set_is place value site
    body_is (Upd place op value value_ty ty wide gives_old site) = upd_is place op value value_ty ty wide gives_old site
    body_is (Un op operand) = of_one_operand op operand
    body_is (Bin op left right site) = of_two_operands op left right site
    body_is (Conv to operand) = un_is operand (convert to) (λ m s. refl)
    body_is (Cast ty operand site) = un_is operand (λ m. cast w ty m site) (λ m s. refl)
    body_is (InstanceOf ty operand) = un_is operand (instance_of w ty) (λ m s. refl)
    body_is (Cond form test if_true if_false site) = refl
    body_is (New c constructor args site) = refl
    body_is (NewArray ty dims elements sites site) = array_is ty dims elements sites site
    body_is (Call form m receiver ty args site) = call_is form m receiver ty args site
    body_is (Cat left right left_ty right_ty site) = two_is left right (λ a b. cat w a b site) (λ a b s. refl)
    body_is (Lib op args site) = of_a_row op args site

  -- a step, the operands, and the rest
  pub begins_is : (x : Expression) (vs : Values) (s : State nothing) → put_on vs (eval w x) s ≡ go_on (tick s) (λ u. operated x vs)
  unfolding ◌>>◌ ◌>>=◌
  begins_is x vs s = ap (λ o. go_on o (λ v. return (v ∷ vs))) (steps x s) ∙ go_on-go_on (tick s) (λ u. body x) (λ v. return (v ∷ vs)) ∙ go_on_same (tick s) _ _ (λ u s. body_is vs s x)
