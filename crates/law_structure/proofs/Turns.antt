-- Of the places at one site those of lesser roles come first.
use Rattle.std.proofs.Common.{◌≡◌, ◌∙◌, refl, sym, ap, subst, inl, inr, arith, cond, ◌==◌, ℕ, ◌+◌, ◌*◌, ◌<◌, ◌≤◌, Bool, true, false, if◌then◌else◌, List, [], ◌∷◌, ◌++◌}
use Rattle.std.specs.Prelude.{◌⊎◌, Option, Some, None, is_some}
use Rattle.std.proofs.lemmas.Bool.{cases_lt}
use Rattle.wy_kernel.specs.Table.{Table}
use Rattle.wy_syntax.specs.Syntax.{Declarator, Effect, ForInit, Statement, Block, Empty, Declare, Perform, If, While, Do, For, Labelled, Break, Continue, Return, Throw, Try, Unknown, Braced, braced, Statements, done, first, Other, absent, present, Last, nowhere, finally, Catches, uncaught, catch, OwnCall, Member, ClassSyntax}
use Rattle.wy_syntax.specs.Syntax as source
use Rattle.wy_elab_body.specs.declared.place.Place.{Place}
use Rattle.wy_elab_body.specs.declared.place.Role.{Role}
use Rattle.wy_elab_body.specs.declared.place.Role.TheVariants.{SuperCall, FieldsCall, Written}
use Rattle.wy_elab_body.specs.Places.{at, written, key_of, order_of, declarator_places, effect_places, init_places, places, block_places, all_places, other_places, last_places, catch_places, calls_superclass, has_fields_unit, place_if, implied_calls, first_calls, initialized_places}
use Rattle.law_structure.proofs.Spread.{times, times_both, has_key, Once, fewer_once, Spread, few_orders}
use Rattle.law_structure.proofs.Dense.{tally, In}
use Rattle.law_structure.proofs.Tallies.{tally_is}
use Rattle.law_structure.proofs.Numbered.{tally_in, is_itself}
use Rattle.law_structure.proofs.Deciding.{EachIn, both_in, head_in, none_in_it}
use Rattle.law_structure.proofs.ClassMarks.{initialized_first}
use Rattle.law_structure.proofs.ClassTrees.{own_front}

-- where a place of the first list has the site of one of the second, it comes before it
abbrev pub Cross : List Place → List Place → Type 0
Cross xs ys = (q r : Place) → In q xs → In r ys → q.site ≡ r.site → key_of q < key_of r

abbrev pub Neat : List Place → Type 0
Neat [] = Unit {0}
Neat (q ∷ qs) = ((r : Place) → In r qs → q.site ≡ r.site → key_of q < key_of r) × Neat qs

-- all sites are in this stretch
abbrev pub Within : ℕ → ℕ → List Place → Type 0
Within low high qs = (q : Place) → In q qs → (low ≤ q.site) × (q.site < high)

pub in_both : {X : Type 0} (xs ys : List X) (x : X) → In x (xs ++ ys) → In x xs ⊎ In x ys
in_both [] ys x m = inr m
in_both (y ∷ xs) ys x (inl e) = inl (inl e)
in_both (y ∷ xs) ys x (inr m) = elim (in_both xs ys x m) [ inl h ↦ inl (inr h) | inr h ↦ inr h ]

pub in_left : {X : Type 0} (xs ys : List X) (x : X) → In x xs → In x (xs ++ ys)
in_left [] ys x m = absurd m
in_left (y ∷ xs) ys x (inl e) = inl e
in_left (y ∷ xs) ys x (inr m) = inr (in_left xs ys x m)

pub neat_both : (xs ys : List Place) → Neat xs → Neat ys → Cross xs ys → Neat (xs ++ ys)
neat_both [] ys h i c = i
neat_both (q ∷ xs) ys h i c = (
  λ r m e. elim (in_both xs ys r m) [ inl l ↦ h.0 r l e | inr n ↦ c q r (inl refl) n e ],
  neat_both xs ys h.1 i (λ p r m n e. c p r (inr m) n e),
)

pub cross_left : (xs ys zs : List Place) → Cross xs zs → Cross ys zs → Cross (xs ++ ys) zs
cross_left xs ys zs h i q r m n e = elim (in_both xs ys q m) [ inl l ↦ h q r l n e | inr k ↦ i q r k n e ]

pub cross_right : (xs ys zs : List Place) → Cross xs ys → Cross xs zs → Cross xs (ys ++ zs)
cross_right xs ys zs h i q r m n e = elim (in_both ys zs r n) [ inl l ↦ h q r m l e | inr k ↦ i q r m k e ]

-- lists in stretches that do not meet
pub cross_apart : (low middle high : ℕ) (xs ys : List Place) → Within low middle xs → Within middle high ys → Cross xs ys
cross_apart low middle high xs ys h i q r m n e =
    let less : q.site < middle = (h q m).1 in
    let more : middle ≤ r.site = (i r n).0 in absurd (omega arith)

pub cross_behind : (low middle high : ℕ) (xs ys : List Place) → Within middle high xs → Within low middle ys → Cross xs ys
cross_behind low middle high xs ys h i q r m n e =
    let more : middle ≤ q.site = (h q m).0 in
    let less : r.site < middle = (i r n).1 in absurd (omega arith)

pub within_both : (low high : ℕ) (xs ys : List Place) → Within low high xs → Within low high ys → Within low high (xs ++ ys)
within_both low high xs ys h i q m = elim (in_both xs ys q m) [ inl l ↦ h q l | inr n ↦ i q n ]

pub within_wider : (low high less more : ℕ) (qs : List Place) → less ≤ low → high ≤ more → Within low high qs → Within less more qs
within_wider low high less more qs a b h q m =
    let first : low ≤ q.site = (h q m).0 in
    let last : q.site < high = (h q m).1 in (omega arith, omega arith)

pub within_none : (low high : ℕ) → Within low high []
within_none low high q m = absurd m

one_time : (qs : List Place) (q : Place) → In q qs → 1 ≤ times (key_of q) qs
one_time qs q m = subst (λ n. 1 ≤ n) (tally_is (has_key (key_of q)) qs) (tally_in (has_key (key_of q)) qs q m (is_itself (key_of q)))

-- those that are counted among places in a stretch are in it
pub within_of : (low high : ℕ) (xs ys : List Place) → ((n : ℕ) → times n xs ≤ times n ys) → Spread low high ys → Within low high xs
within_of low high xs ys few h q m =
    let some : 1 ≤ times (key_of q) xs = one_time xs q m in
    let more : times (key_of q) xs ≤ times (key_of q) ys = few (key_of q) in
    let order : order_of q.role < 8 = few_orders q.role in
    let key : key_of q ≡ q.site * 8 + order_of q.role = refl in (
      elim (cases_lt q.site low) [ inl less ↦ absurd (let none : times (key_of q) ys ≡ 0 = h.below (key_of q) (omega arith) in omega arith) | inr e ↦ e ],
      elim (cases_lt q.site high) [ inl less ↦ less | inr e ↦ absurd (let none : times (key_of q) ys ≡ 0 = h.above (key_of q) (omega arith) in omega arith) ],
    )

pub within_spread : (low high : ℕ) (qs : List Place) → Spread low high qs → Within low high qs
within_spread low high qs h = within_of low high qs qs (λ n. omega arith) h

-- ---- places that are written

abbrev HasWrittenRole : Place → Type 0
HasWrittenRole q = q.role ≡ Written

abbrev pub AllHaveWrittenRole : List Place → Type 0
AllHaveWrittenRole qs = EachIn HasWrittenRole qs

same_place : (q r : Place) → HasWrittenRole q → HasWrittenRole r → q.site ≡ r.site → key_of q ≡ key_of r
same_place q r h i e = λ x. e x * 8 + order_of ((h ∙ sym i) x)

abbrev one_if : Bool → ℕ
one_if b = cond b 1 0

abbrev has_key_of : ℕ → ℕ → Bool
has_key_of n k = k == n

fewer_behind : (n : ℕ) (q : Place) (qs : List Place) → times n (q ∷ qs) ≤ 1 → times n qs ≤ 1
fewer_behind n q qs h =
    let counted : tally (has_key n) (q ∷ qs) ≡ times n (q ∷ qs) = tally_is (has_key n) (q ∷ qs) in
    let rest : tally (has_key n) qs ≡ times n qs = tally_is (has_key n) qs in
    let sum : tally (has_key n) (q ∷ qs) ≡ one_if (has_key n q) + tally (has_key n) qs = refl in
    omega arith

twice : (n : ℕ) (q : Place) (qs : List Place) → key_of q ≡ n → 1 ≤ times n qs → times n (q ∷ qs) ≤ 1 → ⊥
twice n q qs e h i =
    let counted : tally (has_key n) (q ∷ qs) ≡ times n (q ∷ qs) = tally_is (has_key n) (q ∷ qs) in
    let rest : tally (has_key n) qs ≡ times n qs = tally_is (has_key n) qs in
    let itself : has_key n q ≡ true = ap (has_key_of n) e ∙ is_itself n in
    let sum : tally (has_key n) (q ∷ qs) ≡ 1 + tally (has_key n) qs = ap (λ b. one_if b + tally (has_key n) qs) itself in
    omega arith

pub written_neat : (low high : ℕ) (qs : List Place) → AllHaveWrittenRole qs → Once low high qs → Neat qs
written_neat low high qs w h = by qs w h.most
  where
    by : (qs : List Place) → AllHaveWrittenRole qs → ((n : ℕ) → times n qs ≤ 1) → Neat qs
    by [] w h = tt
    by (q ∷ qs) w h = (
      λ r m e. absurd (twice (key_of r) q qs (same_place q r (w q (inl refl)) (w r (inr m)) e) (one_time qs r m) (h (key_of r))),
      by qs (λ r m. w r (inr m)) (λ n. fewer_behind n q qs (h n)),
    )

declarators_written : (all : List Declarator) → AllHaveWrittenRole (declarator_places all)
declarators_written [] = none_in_it HasWrittenRole
declarators_written (d ∷ rest) = head_in HasWrittenRole (written d.name.token) (declarator_places rest) refl (declarators_written rest)

effects_written : (all : List Effect) → AllHaveWrittenRole (effect_places all)
effects_written [] = none_in_it HasWrittenRole
effects_written (e ∷ rest) = head_in HasWrittenRole (written e.token) (effect_places rest) refl (effects_written rest)

init_written : (i : ForInit) → AllHaveWrittenRole (init_places i)
init_written source.ForInit.Nothing = none_in_it HasWrittenRole
init_written (source.ForInit.Declared is_final ty all) = declarators_written all
init_written (source.ForInit.Effects all) = effects_written all

behind_word : (token : ℕ) (qs : List Place) → AllHaveWrittenRole qs → AllHaveWrittenRole (written token ∷ qs)
behind_word token qs h = head_in HasWrittenRole (written token) qs refl h

two_written : (xs ys : List Place) → AllHaveWrittenRole xs → AllHaveWrittenRole ys → AllHaveWrittenRole (xs ++ ys)
two_written xs ys h i = both_in HasWrittenRole xs ys h i

mutual
  unfolding places block_places all_places other_places last_places catch_places

  places_written : (s : Statement) → AllHaveWrittenRole (places s)
  places_written (Block b) = block_written b
  places_written (Empty token) = behind_word token [] (none_in_it HasWrittenRole)
  places_written (Declare is_final ty all) = declarators_written all
  places_written (Perform e) = behind_word e.token [] (none_in_it HasWrittenRole)
  places_written (If test main other token) = behind_word token (places main ++ other_places other) (two_written (places main) (other_places other) (places_written main) (other_written other))
  places_written (While test body token) = behind_word token (places body) (places_written body)
  places_written (Do body test token) = behind_word token (places body) (places_written body)
  places_written (For init test updates body token) =
      behind_word token (init_places init ++ effect_places updates ++ places body)
      (two_written (init_places init ++ effect_places updates) (places body) (two_written (init_places init) (effect_places updates) (init_written init) (effects_written updates)) (places_written body))
  places_written (Labelled name body) = behind_word name.token (places body) (places_written body)
  places_written (Break label token) = behind_word token [] (none_in_it HasWrittenRole)
  places_written (Continue label token) = behind_word token [] (none_in_it HasWrittenRole)
  places_written (Return value token) = behind_word token [] (none_in_it HasWrittenRole)
  places_written (Throw value token) = behind_word token [] (none_in_it HasWrittenRole)
  places_written (Try main catches last token) =
      behind_word token (block_places main ++ catch_places catches ++ last_places last)
      (two_written (block_places main ++ catch_places catches) (last_places last) (two_written (block_places main) (catch_places catches) (block_written main) (catches_written catches)) (last_written last))
  places_written Unknown = none_in_it HasWrittenRole

  pub block_written : (b : Braced) → AllHaveWrittenRole (block_places b)
  block_written (braced brace parts end) = behind_word brace (all_places parts) (all_written parts)

  pub all_written : (s : Statements) → AllHaveWrittenRole (all_places s)
  all_written done = none_in_it HasWrittenRole
  all_written (first s rest) = two_written (places s) (all_places rest) (places_written s) (all_written rest)

  other_written : (s : Other) → AllHaveWrittenRole (other_places s)
  other_written absent = none_in_it HasWrittenRole
  other_written (present s) = places_written s

  last_written : (s : Last) → AllHaveWrittenRole (last_places s)
  last_written nowhere = none_in_it HasWrittenRole
  last_written (finally b) = block_written b

  catches_written : (s : Catches) → AllHaveWrittenRole (catch_places s)
  catches_written uncaught = none_in_it HasWrittenRole
  catches_written (catch is_final class name b rest) = two_written (block_places b) (catch_places rest) (block_written b) (catches_written rest)

pub initialized_written : (all : List Declarator) → AllHaveWrittenRole (initialized_places all)
initialized_written [] = none_in_it HasWrittenRole
initialized_written (d ∷ rest) =
    subst AllHaveWrittenRole (sym (initialized_first d rest)) (two_written (place_if (is_some d.initial) d.name.token Written) (initialized_places rest) (by (is_some d.initial)) (initialized_written rest))
  where
    by : (b : Bool) → AllHaveWrittenRole (place_if b d.name.token Written)
    by true = behind_word d.name.token [] (none_in_it HasWrittenRole)
    by false = none_in_it HasWrittenRole

pub in_right : {X : Type 0} (xs ys : List X) (x : X) → In x ys → In x (xs ++ ys)
in_right [] ys x m = m
in_right (y ∷ xs) ys x m = inr (in_right xs ys x m)

neat_left : (xs ys : List Place) → Neat (xs ++ ys) → Neat xs
neat_left [] ys h = tt
neat_left (q ∷ xs) ys h = (λ r m e. h.0 r (in_left xs ys r m) e, neat_left xs ys h.1)

neat_right : (xs ys : List Place) → Neat (xs ++ ys) → Neat ys
neat_right [] ys h = h
neat_right (q ∷ xs) ys h = neat_right xs ys h.1

neat_cross : (xs ys : List Place) → Neat (xs ++ ys) → Cross xs ys
neat_cross [] ys h q r m n e = absurd m
neat_cross (p ∷ xs) ys h q r (inl i) n e =
    let same : key_of q ≡ key_of p = ap key_of i in
    let less : key_of p < key_of r = h.0 r (in_right xs ys r n) (sym (ap (λ (x : Place). x.site) i) ∙ e) in omega arith
neat_cross (p ∷ xs) ys h q r (inr m) n e = neat_cross xs ys h.1 q r m n e

-- ---- a constructor

-- all that is written in a constructor stands behind its name
abbrev pub StandsBehind : ℕ → Member → Type 0
StandsBehind high (source.Constructor h own brace parts end) = Spread (h.name.token + 1) high (written brace ∷ (own_front own ++ all_places parts))
StandsBehind high _ = Unit {0}

-- implied calls at one site
pub calls_neat : (a b : Bool) (n : ℕ) → Neat (place_if a n SuperCall ++ place_if b n FieldsCall)
unfolding order_of
calls_neat true true n = (λ r m e. elim m [ inl i ↦ (let key : key_of r ≡ key_of (at n FieldsCall) = ap key_of i in omega arith) | inr f ↦ absurd f ], (λ r m e. absurd m, tt))
calls_neat true false n = (λ r m e. absurd m, tt)
calls_neat false true n = (λ r m e. absurd m, tt)
calls_neat false false n = tt

lone_neat : (b : Bool) (n : ℕ) (role : Role) → Neat (place_if b n role)
lone_neat true n role = (λ r m e. absurd m, tt)
lone_neat false n role = tt

pub place_within : (low high : ℕ) (b : Bool) (n : ℕ) (role : Role) → low ≤ n → n < high → Within low high (place_if b n role)
place_within low high true n role h i q (inl e) = let site : q.site ≡ n = ap (λ (p : Place). p.site) e in (omega arith, omega arith)
place_within low high true n role h i q (inr f) = absurd f
place_within low high false n role h i q m = absurd m

-- the calls at the name, and what is written behind it
around_calls : (n high brace : ℕ) (calls call parts : List Place) → Neat calls → Within n (n + 1) calls → AllHaveWrittenRole call → AllHaveWrittenRole parts → Spread (n + 1) high (written brace ∷ (call ++ parts)) → Neat (written brace ∷ ((call ++ calls) ++ parts))
around_calls n high brace calls call parts c w u v h =
    let all = within_spread (n + 1) high (written brace ∷ (call ++ parts)) h in
    let all_neat = written_neat (8 * (n + 1)) (8 * high) (written brace ∷ (call ++ parts)) (behind_word brace (call ++ parts) (two_written call parts u v)) h in
    let calls_apart : Cross calls (call ++ parts) = cross_apart n (n + 1) high calls (call ++ parts) w (λ q m. all q (inr m)) in
    let after_calls : Cross (call ++ parts) calls = cross_behind n (n + 1) high (call ++ parts) calls (λ q m. all q (inr m)) w in (
      λ r m e. elim (in_both (call ++ calls) parts r m) [
        | inl l ↦ elim (in_both call calls r l) [
          | inl x ↦ all_neat.0 r (in_left call parts r x) e
          | inr y ↦ cross_behind n (n + 1) high (written brace ∷ []) calls (λ q k. elim k [ inl i ↦ all q (inl i) | inr f ↦ absurd f ]) w (written brace) r (inl refl) y e
        ]
        | inr k ↦ all_neat.0 r (in_right call parts r k) e
      ],
      neat_both (call ++ calls) parts
          (neat_both call calls (neat_left call parts all_neat.1) c (λ q r m k e. after_calls q r (in_left call parts q m) k e))
          (neat_right call parts all_neat.1)
          (cross_left call calls parts (neat_cross call parts all_neat.1) (λ q r m k e. calls_apart q r m (in_right call parts r k) e)),
    )

left_out : (a b c all some rest : ℕ) → all ≡ a + rest → rest ≡ b + c → some ≡ a + c → some ≤ all
left_out a b c all some rest d e f = omega arith

without : (m : ℕ) (front call qs : List Place) → times m (front ++ qs) ≤ times m (front ++ (call ++ qs))
without m front call qs = left_out (times m front) (times m call) (times m qs) _ _ _ (times_both m front (call ++ qs)) (times_both m call qs) (times_both m front qs)

pub constructor_neat : (t : Table) (c : ℕ) (k : ClassSyntax) (n high brace : ℕ) (own : Option OwnCall) (parts : Statements) → Spread (n + 1) high (written brace ∷ (own_front own ++ all_places parts)) → Neat (written brace ∷ (first_calls t c k n own ++ all_places parts))
constructor_neat t c k n high brace None parts h =
    around_calls n high brace (implied_calls t c k n) [] (all_places parts) (calls_neat (calls_superclass t c) (has_fields_unit k) n)
    (within_both n (n + 1) (place_if (calls_superclass t c) n SuperCall) (place_if (has_fields_unit k) n FieldsCall) (place_within n (n + 1) (calls_superclass t c) n SuperCall (omega arith) (omega arith)) (place_within n (n + 1) (has_fields_unit k) n FieldsCall (omega arith) (omega arith)))
    (none_in_it HasWrittenRole) (all_written parts) h
constructor_neat t c k n high brace (Some call) parts h = by call.is_super (calls_superclass t c)
  where
    by : (s b : Bool) → Neat (written brace ∷ ((if s then place_if b call.token Written ++ place_if (has_fields_unit k) n FieldsCall else written call.token ∷ []) ++ all_places parts))
    by true true =
        around_calls n high brace (place_if (has_fields_unit k) n FieldsCall) (written call.token ∷ []) (all_places parts) (lone_neat (has_fields_unit k) n FieldsCall) (place_within n (n + 1) (has_fields_unit k) n FieldsCall (omega arith) (omega arith))
        (behind_word call.token [] (none_in_it HasWrittenRole)) (all_written parts) h
    by true false =
        around_calls n high brace (place_if (has_fields_unit k) n FieldsCall) [] (all_places parts) (lone_neat (has_fields_unit k) n FieldsCall) (place_within n (n + 1) (has_fields_unit k) n FieldsCall (omega arith) (omega arith))
        (none_in_it HasWrittenRole) (all_written parts)
        (fewer_once (8 * (n + 1)) (8 * high) (written brace ∷ all_places parts) (written brace ∷ (written call.token ∷ all_places parts)) (λ m. without m (written brace ∷ []) (written call.token ∷ []) (all_places parts)) h)
    by false b = written_neat (8 * (n + 1)) (8 * high) (written brace ∷ (written call.token ∷ all_places parts)) (behind_word brace (written call.token ∷ all_places parts) (behind_word call.token (all_places parts) (all_written parts))) h
