-- A statement whose jumps go out and whose tests reach out, by what stands around it; so then do those of all statements in it.
use Rattle.std.proofs.Common.{◌≡◌, refl, sym, subst, inl, inr, ℕ, Bool, true, false, List, [], ◌++◌}
use Rattle.std.specs.Prelude.{◌⊎◌, Some}
use Rattle.std.specs.List.{Contains}
use Rattle.std.proofs.lemmas.List.Elements.{Contains-append_cases}
use Rattle.wy_kernel.specs.View.{NONE}
use Rattle.wy_kernel.specs.Form.{Part, absent, the, Statement, Stmt, Act, Block, Eval, Declare, If, While, Do, For, Labelled, Jump, Return, Throw, Try, Print, Other, nothing, this, Statements, done, first, Catches, uncaught, catch}
use Rattle.wy_kernel.specs.Statements.{number_of, statements, statements_within, statements_of_other, statements_of_all, statements_of_catches}
use Rattle.law_structure.specs.Within.{IsIn, HasEnclosing}
use Rattle.law_structure.specs.Jumps.{target_of_act, target_of, inner_of, IsLoop, is_labelled, GoesOut, JumpsGoOut}
use Rattle.law_structure.specs.Reaches.{is_there, is_testing_act, is_testing, statement_reach, Reaches}
use Rattle.law_structure.proofs.Members.{none_in, behind_head, head_or_behind, Among, itself, among_left, among_right}

-- a set of numbers, with one more
abbrev pub Numbers : Type 1
Numbers = ℕ → Type 0

abbrev pub and_one : Numbers → ℕ → Numbers
and_one N n = λ k. N k ⊎ (k ≡ n)

abbrev pub test_reaches : Numbers → ℕ → Part → Type 0
test_reaches R reach absent = reach ≡ NONE
test_reaches R reach (the e) = R reach

abbrev mutual
  -- J has the numbers that jumps in it may go to, and R those of the statements around it
  pub Sound : Numbers → Numbers → Statement → Type 0
  Sound J R (Stmt number site askable reach act) = SoundAct J (and_one R number) number reach act

  pub SoundAct : Numbers → Numbers → ℕ → ℕ → Act → Type 0
  SoundAct J R n reach (Block parts) = (reach ≡ NONE) × SoundAll J R parts
  SoundAct J R n reach (Eval value) = reach ≡ NONE
  SoundAct J R n reach (Declare local) = reach ≡ NONE
  SoundAct J R n reach (If test if_true if_false) = R reach × Sound J R if_true × SoundOther J R if_false
  SoundAct J R n reach (While test body) = R reach × Sound (and_one (and_one J n) (number_of body)) R body
  SoundAct J R n reach (Do body test) = R reach × Sound (and_one (and_one J n) (number_of body)) R body
  SoundAct J R n reach (For inits test updates body) = test_reaches R reach test × SoundAll J R inits × SoundAll J R updates × Sound (and_one (and_one J n) (number_of body)) R body
  SoundAct J R n reach (Labelled body) = (reach ≡ NONE) × Sound (and_one J n) R body
  SoundAct J R n reach (Jump target) = (reach ≡ NONE) × J target
  SoundAct J R n reach (Return value) = reach ≡ NONE
  SoundAct J R n reach (Throw value) = reach ≡ NONE
  SoundAct J R n reach (Try main catches last) = (reach ≡ NONE) × Sound J R main × SoundCatches J R catches × SoundOther J R last
  SoundAct J R n reach (Print operand ty ends_line site) = reach ≡ NONE

  pub SoundOther : Numbers → Numbers → Other → Type 0
  SoundOther J R nothing = Unit {0}
  SoundOther J R (this s) = Sound J R s

  pub SoundAll : Numbers → Numbers → Statements → Type 0
  SoundAll J R done = Unit {0}
  SoundAll J R (first s rest) = Sound J R s × SoundAll J R rest

  pub SoundCatches : Numbers → Numbers → Catches → Type 0
  SoundCatches J R uncaught = Unit {0}
  SoundCatches J R (catch class local site block rest) = Sound J R block × SoundCatches J R rest

-- ---- what then holds of each statement within

-- a statement of the list that has this number and is s or contains it
pub record Wraps (all : List Statement) (s : Statement) (n : ℕ) : Type 0 where
  pub outer : Statement
  pub numbered : number_of outer ≡ n
  pub stands : Contains all outer
  pub contains : IsIn s outer

abbrev pub IsBodyAmong : List Statement → Statement → Type 0
IsBodyAmong all s = (loop : Statement) × Contains all loop × (inner_of loop ≡ Some s)

abbrev pub IsTargetAmong : List Statement → Statement → Type 0
IsTargetAmong all s = IsLoop s ⊎ (is_labelled s ≡ true) ⊎ IsBodyAmong all s

pub record Leads (all : List Statement) (s : Statement) (n : ℕ) : Type 0 where
  pub around : Wraps all s n
  pub is_target : IsTargetAmong all around.outer

pub record HasSoundJumps (J R : Numbers) (all : List Statement) (s : Statement) : Type 0 where
  pub jump : (n : ℕ) → target_of s ≡ Some n → J n ⊎ Leads all s n
  pub testing : is_testing s ≡ true → R (statement_reach s) ⊎ Wraps all s (statement_reach s)
  pub others : is_testing s ≡ false → statement_reach s ≡ NONE

abbrev more_wraps : (xs ys : List Statement) (s : Statement) (n : ℕ) → Among xs ys → Wraps xs s n → Wraps ys s n
more_wraps xs ys s n i w = record { outer = w.outer; numbered = w.numbered; stands = i w.outer w.stands; contains = w.contains }

more_targets : (xs ys : List Statement) (s : Statement) → Among xs ys → IsTargetAmong xs s → IsTargetAmong ys s
more_targets xs ys s i (inl h) = inl h
more_targets xs ys s i (inr (inl h)) = inr (inl h)
more_targets xs ys s i (inr (inr h)) = inr (inr (h.0, i h.0 h.1, h.2))

more_leads : (xs ys : List Statement) (s : Statement) (n : ℕ) → Among xs ys → Leads xs s n → Leads ys s n
more_leads xs ys s n i l = record { around = more_wraps xs ys s n i l.around; is_target = more_targets xs ys l.around.outer i l.is_target }

lifted : (J R : Numbers) (xs ys : List Statement) (s : Statement) → Among xs ys → HasSoundJumps J R xs s → HasSoundJumps J R ys s
lifted J R xs ys s i p = record {
  jump = λ n e. elim (p.jump n e) [ inl h ↦ inl h | inr h ↦ inr (more_leads xs ys s n i h) ];
  testing = λ e. elim (p.testing e) [ inl h ↦ inl h | inr h ↦ inr (more_wraps xs ys s (statement_reach s) i h) ];
  others = p.others;
}

-- the statement itself is the one of its number that is around
of_own_number : (J R : Numbers) (k s : Statement) → IsIn s k → HasSoundJumps J (and_one R (number_of k)) (statements k) s → HasSoundJumps J R (statements k) s
of_own_number J R k s i p = record {
  jump = p.jump;
  testing = λ e. elim (p.testing e) [
    | inl h ↦ elim h [ inl r ↦ inl r | inr is ↦ inr (record { outer = k; numbered = sym is; stands = itself k; contains = i }) ]
    | inr h ↦ inr h
  ];
  others = p.others;
}

of_own_target : (J R : Numbers) (k s : Statement) → IsTargetAmong (statements k) k → IsIn s k → HasSoundJumps (and_one J (number_of k)) R (statements k) s → HasSoundJumps J R (statements k) s
of_own_target J R k s t i p = record {
  jump = λ n e. elim (p.jump n e) [
    | inl h ↦ elim h [ inl r ↦ inl r | inr is ↦ inr (record { around = record { outer = k; numbered = sym is; stands = itself k; contains = i }; is_target = t }) ]
    | inr h ↦ inr h
  ];
  testing = p.testing;
  others = p.others;
}

of_own_body : (J R : Numbers) (k body s : Statement) → inner_of k ≡ Some body → Among (statements body) (statements k) → IsIn s body → HasSoundJumps (and_one J (number_of body)) R (statements k) s → HasSoundJumps J R (statements k) s
of_own_body J R k body s b among i p = record {
  jump = λ n e. elim (p.jump n e) [
    | inl h ↦ elim h [
      | inl r ↦ inl r
      | inr is ↦ inr (record { around = record { outer = body; numbered = sym is; stands = among body (itself body); contains = i }; is_target = inr (inr (k, itself k, b)) })
    ]
    | inr h ↦ inr h
  ];
  testing = p.testing;
  others = p.others;
}

-- in the body of a loop
of_loop : (J R : Numbers) (k body s : Statement) → inner_of k ≡ Some body → Among (statements body) (statements k) → IsIn s body →
    HasSoundJumps (and_one (and_one J (number_of k)) (number_of body)) (and_one R (number_of k)) (statements body) s → HasSoundJumps J R (statements k) s
of_loop J R k body s b among i p =
    of_own_number J R k s (among s i) (of_own_target J (and_one R (number_of k)) k s (inl (body, b)) (among s i)
    (of_own_body (and_one J (number_of k)) (and_one R (number_of k)) k body s b among i
    (lifted (and_one (and_one J (number_of k)) (number_of body)) (and_one R (number_of k)) (statements body) (statements k) s among p)))

-- ---- the statement itself

reach_around : (R : Numbers) (k : Statement) (reach : ℕ) → (R reach ⊎ (reach ≡ number_of k)) → R reach ⊎ Wraps (statements k) k reach
reach_around R k reach (inl h) = inl h
reach_around R k reach (inr is) = inr (record { outer = k; numbered = sym is; stands = itself k; contains = itself k })

own_jump : (J R : Numbers) (n reach target : ℕ) (act : Act) → SoundAct J R n reach act → target_of_act act ≡ Some target → J target
own_jump J R n reach target (Jump t) h e = let same : t ≡ target = cc in subst J same h.1
own_jump J R n reach target (Block parts) h e = absurd cc
own_jump J R n reach target (Eval value) h e = absurd cc
own_jump J R n reach target (Declare local) h e = absurd cc
own_jump J R n reach target (If test x y) h e = absurd cc
own_jump J R n reach target (While test x) h e = absurd cc
own_jump J R n reach target (Do x test) h e = absurd cc
own_jump J R n reach target (For inits test updates x) h e = absurd cc
own_jump J R n reach target (Labelled x) h e = absurd cc
own_jump J R n reach target (Return value) h e = absurd cc
own_jump J R n reach target (Throw value) h e = absurd cc
own_jump J R n reach target (Try x catches y) h e = absurd cc
own_jump J R n reach target (Print operand ty ends_line site) h e = absurd cc

for_test : (R : Numbers) (reach : ℕ) (test : Part) → test_reaches R reach test → is_there test ≡ true → R reach
for_test R reach absent h e = absurd cc
for_test R reach (the c) h e = h

no_for_test : (R : Numbers) (reach : ℕ) (test : Part) → test_reaches R reach test → is_there test ≡ false → reach ≡ NONE
no_for_test R reach absent h e = h
no_for_test R reach (the c) h e = absurd cc

own_test : (J R : Numbers) (n reach : ℕ) (act : Act) → SoundAct J R n reach act → is_testing_act act ≡ true → R reach
own_test J R n reach (If test x y) h e = h.0
own_test J R n reach (While test x) h e = h.0
own_test J R n reach (Do x test) h e = h.0
own_test J R n reach (For inits test updates x) h e = for_test R reach test h.0 e
own_test J R n reach (Jump t) h e = absurd cc
own_test J R n reach (Block parts) h e = absurd cc
own_test J R n reach (Eval value) h e = absurd cc
own_test J R n reach (Declare local) h e = absurd cc
own_test J R n reach (Labelled x) h e = absurd cc
own_test J R n reach (Return value) h e = absurd cc
own_test J R n reach (Throw value) h e = absurd cc
own_test J R n reach (Try x catches y) h e = absurd cc
own_test J R n reach (Print operand ty ends_line site) h e = absurd cc

own_reach : (J R : Numbers) (n reach : ℕ) (act : Act) → SoundAct J R n reach act → is_testing_act act ≡ false → reach ≡ NONE
own_reach J R n reach (If test x y) h e = absurd cc
own_reach J R n reach (While test x) h e = absurd cc
own_reach J R n reach (Do x test) h e = absurd cc
own_reach J R n reach (For inits test updates x) h e = no_for_test R reach test h.0 e
own_reach J R n reach (Jump t) h e = h.0
own_reach J R n reach (Block parts) h e = h.0
own_reach J R n reach (Eval value) h e = h
own_reach J R n reach (Declare local) h e = h
own_reach J R n reach (Labelled x) h e = h.0
own_reach J R n reach (Return value) h e = h
own_reach J R n reach (Throw value) h e = h
own_reach J R n reach (Try x catches y) h e = h.0
own_reach J R n reach (Print operand ty ends_line site) h e = h

own_placed : (J R : Numbers) (k : Statement) → Sound J R k → HasSoundJumps J R (statements k) k
own_placed J R (Stmt n site askable reach act) h = record {
  jump = λ t e. inl (own_jump J (and_one R n) n reach t act h e);
  testing = λ e. reach_around R (Stmt n site askable reach act) reach (own_test J (and_one R n) n reach act h e);
  others = λ e. own_reach J (and_one R n) n reach act h e;
}

-- ---- all statements within

abbrev AllHaveSoundJumps : Numbers → Numbers → List Statement → Type 0
AllHaveSoundJumps J R xs = (s : Statement) → Contains xs s → HasSoundJumps J R xs s

both_placed : (J R : Numbers) (xs ys : List Statement) → AllHaveSoundJumps J R xs → AllHaveSoundJumps J R ys → AllHaveSoundJumps J R (xs ++ ys)
both_placed J R xs ys h i s c = elim (Contains-append_cases xs ys s c) [
  | inl l ↦ lifted J R xs (xs ++ ys) s (among_left xs ys) (h s l)
  | inr r ↦ lifted J R ys (xs ++ ys) s (among_right xs ys) (i s r)
]

none_placed : (J R : Numbers) → AllHaveSoundJumps J R []
none_placed J R s c = absurd (none_in s c)

within_placed : (J R : Numbers) (k : Statement) (xs : List Statement) → Among xs (statements k) → AllHaveSoundJumps J (and_one R (number_of k)) xs → (s : Statement) → Contains xs s → HasSoundJumps J R (statements k) s
within_placed J R k xs among h s c = of_own_number J R k s (among s c) (lifted J (and_one R (number_of k)) xs (statements k) s among (h s c))

loop_placed : (J R : Numbers) (k body : Statement) → inner_of k ≡ Some body → Among (statements body) (statements k) →
    AllHaveSoundJumps (and_one (and_one J (number_of k)) (number_of body)) (and_one R (number_of k)) (statements body) → (s : Statement) → IsIn s body → HasSoundJumps J R (statements k) s
loop_placed J R k body b among h s c = of_loop J R k body s b among c (h s c)

labelled_placed : (J R : Numbers) (k body : Statement) → is_labelled k ≡ true → Among (statements body) (statements k) →
    AllHaveSoundJumps (and_one J (number_of k)) (and_one R (number_of k)) (statements body) → (s : Statement) → IsIn s body → HasSoundJumps J R (statements k) s
labelled_placed J R k body l among h s c =
    of_own_number J R k s (among s c) (of_own_target J (and_one R (number_of k)) k s (inr (inl l)) (among s c)
    (lifted (and_one J (number_of k)) (and_one R (number_of k)) (statements body) (statements k) s among (h s c)))

under : (k : Statement) (n site : ℕ) (askable : Bool) (reach : ℕ) (act : Act) → Among (statements_within act) (statements (Stmt n site askable reach act))
under k n site askable reach act s c = behind_head (Stmt n site askable reach act) (statements_within act) s c

for_placed : (J R : Numbers) (n site : ℕ) (askable : Bool) (reach : ℕ) (test : Part) (inits updates : Statements) (body : Statement) →
    AllHaveSoundJumps J (and_one R n) (statements_of_all inits) → AllHaveSoundJumps J (and_one R n) (statements_of_all updates) →
    AllHaveSoundJumps (and_one (and_one J n) (number_of body)) (and_one R n) (statements body) →
    (s : Statement) → Contains (statements_of_all inits ++ (statements_of_all updates ++ statements body)) s → HasSoundJumps J R (statements (Stmt n site askable reach (For inits test updates body))) s
for_placed J R n site askable reach test inits updates body h i b s c =
    let k = Stmt n site askable reach (For inits test updates body) in
    let xs = statements_of_all inits in
    let ys = statements_of_all updates in
    let zs = statements body in
    elim (Contains-append_cases xs (ys ++ zs) s c) [
      | inl l ↦ within_placed J R k xs (λ t d. under k n site askable reach (For inits test updates body) t (among_left xs (ys ++ zs) t d)) h s l
      | inr r ↦ elim (Contains-append_cases ys zs s r) [
        | inl l ↦ within_placed J R k ys (λ t d. under k n site askable reach (For inits test updates body) t (among_right xs (ys ++ zs) t (among_left ys zs t d))) i s l
        | inr q ↦ loop_placed J R k body refl (λ t d. under k n site askable reach (For inits test updates body) t (among_right xs (ys ++ zs) t (among_right ys zs t d))) b s q
      ]
    ]

mutual
  pub placed : (J R : Numbers) (k : Statement) → Sound J R k → (s : Statement) → IsIn s k → HasSoundJumps J R (statements k) s
  placed J R (Stmt n site askable reach act) h s c = elim (head_or_behind (Stmt n site askable reach act) (statements_within act) s c) [
    | inl e ↦ subst (HasSoundJumps J R (statements (Stmt n site askable reach act))) e (own_placed J R (Stmt n site askable reach act) h)
    | inr d ↦ act_placed J R n site askable reach act h s d
  ]

  act_placed : (J R : Numbers) (n site : ℕ) (askable : Bool) (reach : ℕ) (act : Act) → SoundAct J (and_one R n) n reach act →
      (s : Statement) → Contains (statements_within act) s → HasSoundJumps J R (statements (Stmt n site askable reach act)) s
  act_placed J R n site askable reach (Block parts) h s c =
      within_placed J R (Stmt n site askable reach (Block parts)) (statements_of_all parts) (under (Stmt n site askable reach (Block parts)) n site askable reach (Block parts)) (all_placed J (and_one R n) parts h.1) s c
  act_placed J R n site askable reach (Eval value) h s c = absurd (none_in s c)
  act_placed J R n site askable reach (Declare local) h s c = absurd (none_in s c)
  act_placed J R n site askable reach (If test x y) h s c =
      within_placed J R (Stmt n site askable reach (If test x y)) (statements x ++ statements_of_other y) (under (Stmt n site askable reach (If test x y)) n site askable reach (If test x y))
      (both_placed J (and_one R n) (statements x) (statements_of_other y) (placed J (and_one R n) x h.1) (other_placed J (and_one R n) y h.2)) s c
  act_placed J R n site askable reach (While test x) h s c =
      loop_placed J R (Stmt n site askable reach (While test x)) x refl (under (Stmt n site askable reach (While test x)) n site askable reach (While test x)) (placed (and_one (and_one J n) (number_of x)) (and_one R n) x h.1) s c
  act_placed J R n site askable reach (Do x test) h s c =
      loop_placed J R (Stmt n site askable reach (Do x test)) x refl (under (Stmt n site askable reach (Do x test)) n site askable reach (Do x test)) (placed (and_one (and_one J n) (number_of x)) (and_one R n) x h.1) s c
  act_placed J R n site askable reach (For inits test updates x) h s c =
      for_placed J R n site askable reach test inits updates x (all_placed J (and_one R n) inits h.1) (all_placed J (and_one R n) updates h.2)
      (placed (and_one (and_one J n) (number_of x)) (and_one R n) x h.3) s c
  act_placed J R n site askable reach (Labelled x) h s c =
      labelled_placed J R (Stmt n site askable reach (Labelled x)) x refl (under (Stmt n site askable reach (Labelled x)) n site askable reach (Labelled x)) (placed (and_one J n) (and_one R n) x h.1) s c
  act_placed J R n site askable reach (Jump target) h s c = absurd (none_in s c)
  act_placed J R n site askable reach (Return value) h s c = absurd (none_in s c)
  act_placed J R n site askable reach (Throw value) h s c = absurd (none_in s c)
  act_placed J R n site askable reach (Try x catches y) h s c =
      within_placed J R (Stmt n site askable reach (Try x catches y)) (statements x ++ (statements_of_catches catches ++ statements_of_other y)) (under (Stmt n site askable reach (Try x catches y)) n site askable reach (Try x catches y))
      (both_placed J (and_one R n) (statements x) (statements_of_catches catches ++ statements_of_other y) (placed J (and_one R n) x h.1)
      (both_placed J (and_one R n) (statements_of_catches catches) (statements_of_other y) (catches_placed J (and_one R n) catches h.2) (other_placed J (and_one R n) y h.3))) s c
  act_placed J R n site askable reach (Print operand ty ends_line at) h s c = absurd (none_in s c)

  other_placed : (J R : Numbers) (x : Other) → SoundOther J R x → AllHaveSoundJumps J R (statements_of_other x)
  other_placed J R nothing h = none_placed J R
  other_placed J R (this s) h = placed J R s h

  all_placed : (J R : Numbers) (x : Statements) → SoundAll J R x → AllHaveSoundJumps J R (statements_of_all x)
  all_placed J R done h = none_placed J R
  all_placed J R (first s rest) h = both_placed J R (statements s) (statements_of_all rest) (placed J R s h.0) (all_placed J R rest h.1)

  catches_placed : (J R : Numbers) (x : Catches) → SoundCatches J R x → AllHaveSoundJumps J R (statements_of_catches x)
  catches_placed J R uncaught h = none_placed J R
  catches_placed J R (catch class local site block rest) h = both_placed J R (statements block) (statements_of_catches rest) (placed J R block h.0) (catches_placed J R rest h.1)

-- ---- a whole body

-- no number
abbrev pub nowhere : Numbers
nowhere = λ n. ⊥

same_target : (block : Statement) (s : Statement) (n : ℕ) → Leads (statements block) s n → GoesOut block s n
same_target block s n l = record {
  around = record { outer = l.around.outer; numbered = l.around.numbered; stands = l.around.stands; contains = l.around.contains };
  is_target = l.is_target;
}

pub jumps_of_sound : (block : Statement) → Sound nowhere nowhere block → JumpsGoOut block
jumps_of_sound block h s n c e = elim ((placed nowhere nowhere block h s c).jump n e) [ inl f ↦ absurd f | inr l ↦ same_target block s n l ]

same_around : (block : Statement) (s : Statement) (n : ℕ) → Wraps (statements block) s n → HasEnclosing block s n
same_around block s n w = record { outer = w.outer; numbered = w.numbered; stands = w.stands; contains = w.contains }

pub reaches_of_sound : (block : Statement) → Sound nowhere nowhere block → Reaches block
reaches_of_sound block h = record {
  testing = λ s c e. elim ((placed nowhere nowhere block h s c).testing e) [ inl f ↦ absurd f | inr w ↦ same_around block s (statement_reach s) w ];
  others = λ s c e. (placed nowhere nowhere block h s c).others e;
}
