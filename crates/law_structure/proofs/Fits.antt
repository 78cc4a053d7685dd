-- What stands around a statement while it is made: the numbers that jumps and tests in it may go to.
use Rattle.std.proofs.Common.{◌≡◌, refl, sym, subst, inl, inr, arith, cond, ℕ, Bool, true, false, List, [], ◌∷◌, ◌++◌}
use Rattle.std.specs.Prelude.{◌⊎◌, Option, Some, None, find, option_map, option_and_then, unwrap_or}
use Rattle.std.specs.List.{All}
use Rattle.std.proofs.lemmas.List.Elements.{All-head, All-tail, All-push, All-weaker}
use Rattle.wy_syntax.specs.Syntax.{Named}
use Rattle.wy_syntax.specs.Syntax as source
use Rattle.wy_elab_body.specs.Jumps.{Loop, Label, Around, inside, in_loop, under_label, label_named, break_target, continue_target, is_among, reach_of}
use Rattle.wy_elab_body.specs.Statements.{in_first_block}
use Rattle.law_structure.proofs.Sound.{Numbers, and_one, nowhere}

-- a label of a loop also names the loop's body, which is no statement around the loop itself: inner is its number
abbrev pub LabelFits : Numbers → Option ℕ → Label → Type 0
LabelFits J inner l = J l.number × ((n : ℕ) → l.loop_body ≡ Some n → J n ⊎ (inner ≡ Some n))

pub record Fits (J R : Numbers) (a : Around) (inner : Option ℕ) : Type 0 where
  pub enclosing : All R a.enclosing
  pub loop : (l : Loop) → a.innermost_loop ≡ Some l → J l.number × J l.body
  pub labels : All (LabelFits J inner) a.labels

more_label : (J : Numbers) (n : ℕ) (inner : Option ℕ) (l : Label) → LabelFits J None l → LabelFits (and_one J n) inner l
more_label J n inner l h = (inl h.0, λ k e. elim (h.1 k e) [ inl i ↦ inl (inl i) | inr x ↦ absurd cc ])

other_label : (J : Numbers) (inner : Option ℕ) (l : Label) → LabelFits J None l → LabelFits J inner l
other_label J inner l h = (h.0, λ k e. elim (h.1 k e) [ inl i ↦ inl i | inr x ↦ absurd cc ])

pub any_inner : (J R : Numbers) (a : Around) (inner : Option ℕ) → Fits J R a None → Fits J R a inner
any_inner J R a inner h = record { enclosing = h.enclosing; loop = h.loop; labels = All-weaker (LabelFits J None) (LabelFits J inner) (other_label J inner) a.labels h.labels }

more_enclosing : (R : Numbers) (n : ℕ) (xs : List ℕ) → All R xs → All (and_one R n) (xs ++ n ∷ [])
more_enclosing R n xs h = All-push (and_one R n) xs n (All-weaker R (and_one R n) (λ k i. inl i) xs h) (inr refl)

pub fits_inside : (J R : Numbers) (a : Around) (n : ℕ) → Fits J R a None → Fits J (and_one R n) (inside a n) None
fits_inside J R a n h = record { enclosing = more_enclosing R n a.enclosing h.enclosing; loop = h.loop; labels = h.labels }

pub fits_first_block : (J R : Numbers) (a : Around) (n : ℕ) (cs : source.Catches) → Fits J R a None → Fits J (and_one R n) (in_first_block a n cs) None
fits_first_block J R a n source.uncaught h = fits_inside J R a n h
fits_first_block J R a n (source.catch is_final class name block rest) h = record { enclosing = more_enclosing R n a.enclosing h.enclosing; loop = h.loop; labels = h.labels }

in_body : (J : Numbers) (n b : ℕ) (l : Label) → LabelFits J (Some b) l → LabelFits (and_one (and_one J n) b) None l
in_body J n b l h = (inl (inl h.0), λ k e. elim (h.1 k e) [ inl i ↦ inl (inl (inl i)) | inr x ↦ let same : k ≡ b = cc in inl (inr same) ])

its_loop : (J : Numbers) (n b : ℕ) (l : Loop) → Some (record { number = n; body = b }) ≡ Some l → and_one (and_one J n) b l.number × and_one (and_one J n) b l.body
its_loop J n b l e =
    let one : record { number = n; body = b } ≡ l = cc in
    let P : Loop → Type 0 = λ k. and_one (and_one J n) b k.number × and_one (and_one J n) b k.body in
    subst P one (inl (inr refl), inr refl)

pub fits_loop : (J R : Numbers) (a : Around) (n b : ℕ) → Fits J R a (Some b) → Fits (and_one (and_one J n) b) (and_one R n) (in_loop a n b) None
fits_loop J R a n b h = record {
  enclosing = more_enclosing R n a.enclosing h.enclosing;
  loop = its_loop J n b;
  labels = All-weaker (LabelFits J (Some b)) (LabelFits (and_one (and_one J n) b) None) (in_body J n b) a.labels h.labels;
}

pub fits_label : (J R : Numbers) (a : Around) (name : List ℕ) (n : ℕ) (loop_body : Option ℕ) → Fits J R a None → Fits (and_one J n) (and_one R n) (under_label a name n loop_body) loop_body
fits_label J R a name n loop_body h = record {
  enclosing = more_enclosing R n a.enclosing h.enclosing;
  loop = λ l e. let i = h.loop l e in (inl i.0, inl i.1);
  labels = All-push (LabelFits (and_one J n) loop_body) a.labels (record { name = name; number = n; loop_body = loop_body })
      (All-weaker (LabelFits J None) (LabelFits (and_one J n) loop_body) (more_label J n loop_body) a.labels h.labels)
      (inr refl, λ k e. inr e);
}

-- ---- what is found around

found_holds : {X : Type 0} (P : X → Type 0) (test : X → Bool) (xs : List X) → All P xs → (x : X) → find test xs ≡ Some x → P x
found_holds P test [] h x e = absurd cc
found_holds P test (y ∷ ys) h x e = elim (test y) as (λ b. cond b (Some y) (find test ys) ≡ Some x → P x) [
  | true ↦ λ i. let same : y ≡ x = cc in subst P same (All-head P y ys h)
  | false ↦ λ i. found_holds P test ys (All-tail P y ys h) x i
] e

mapped : {X Y : Type 0} (f : X → Y) (o : Option X) (y : Y) → option_map f o ≡ Some y → (x : X) × (o ≡ Some x) × (f x ≡ y)
mapped f None y e = absurd cc
mapped f (Some x) y e = (x, refl, cc)

gone_on : {X Y : Type 0} (f : X → Option Y) (o : Option X) (y : Y) → option_and_then f o ≡ Some y → (x : X) × (o ≡ Some x) × (f x ≡ Some y)
gone_on f None y e = absurd cc
gone_on f (Some x) y e = (x, refl, e)

pub break_fits : (J R : Numbers) (a : Around) → Fits J R a None → (label : Option Named) (n : ℕ) → break_target a label ≡ Some n → J n
unfolding break_target label_named
break_fits J R a h None n e = let l = mapped (λ (l : Loop). l.number) a.innermost_loop n e in subst J l.2 (h.loop l.0 l.1).0
break_fits J R a h (Some x) n e =
    let l = mapped (λ (l : Label). l.number) (label_named a x.name) n e in
    subst J l.2 (found_holds (LabelFits J None) _ a.labels h.labels l.0 l.1).0

of_label : (J : Numbers) (n : ℕ) (l : Label) → LabelFits J None l → l.loop_body ≡ Some n → J n
of_label J n l h e = elim (h.1 n e) [ inl i ↦ i | inr x ↦ absurd cc ]

pub continue_fits : (J R : Numbers) (a : Around) → Fits J R a None → (label : Option Named) (n : ℕ) → continue_target a label ≡ Some n → J n
unfolding continue_target label_named
continue_fits J R a h None n e = let l = mapped (λ (l : Loop). l.body) a.innermost_loop n e in subst J l.2 (h.loop l.0 l.1).1
continue_fits J R a h (Some x) n e =
    let l = gone_on (λ (l : Label). l.loop_body) (label_named a x.name) n e in
    of_label J n l.0 (found_holds (LabelFits J None) _ a.labels h.labels l.0 l.1) l.2

or_own : (R : Numbers) (n : ℕ) (o : Option ℕ) → ((k : ℕ) → o ≡ Some k → R k) → and_one R n (unwrap_or o n)
or_own R n None h = inr refl
or_own R n (Some k) h = inl (h k refl)

pub reach_fits : (J R : Numbers) (a : Around) (inner : Option ℕ) → Fits J R a inner → (n : ℕ) (targets : List ℕ) → and_one R n (reach_of a n targets)
unfolding reach_of
reach_fits J R a inner h n targets = or_own R n (find (is_among targets) a.enclosing) (λ k e. found_holds R (is_among targets) a.enclosing h.enclosing k e)

pub nothing_around : (a : Around) → a.enclosing ≡ [] → a.innermost_loop ≡ None → a.labels ≡ [] → Fits nowhere nowhere a None
nothing_around a e i l = record {
  enclosing = subst (All nowhere) (sym e) (λ k d less. absurd (omega arith));
  loop = λ x is. absurd cc;
  labels = subst (All (LabelFits nowhere None)) (sym l) (λ k d less. absurd (omega arith));
}
