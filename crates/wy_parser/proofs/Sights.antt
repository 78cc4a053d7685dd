-- A choice depends on no token behind the last one that it looks at.
use Rattle.std.proofs.Common.{Bool, true, false, not, ◌&&◌, ◌||◌, if◌then◌else◌, ◌≡◌, ◌<◌, ◌≤◌, ℕ, suc, List, [], ◌∷◌, ◌++◌, length, refl, sym, ◌∙◌, ap, arith}
use Rattle.wy_tree.specs.Seen.{Tok}
use Rattle.wy_tree.specs.Kinds.{kind_of, same}
use Rattle.wy_tree.specs.Conditions.{is_name}
use Rattle.wy_tree.specs.Grammar.{is_own, is_modifying, is_prefixing}
use Rattle.wy_tree.specs.declared.kind.Kind.{Kind}
use Rattle.wy_tree.specs.declared.kind.Kind.TheVariants as kinds
use Rattle.wy_tree.specs.declared.grammar.Row.{Row}
use Rattle.wy_tree.specs.declared.grammar.Row.TheVariants as rows
use Rattle.wy_tree.specs.declared.grammar.Item.{Item}
use Rattle.wy_parser.specs.Prediction.{first_kind, rest, second, third, past_modifiers, past_pairs, is_element, names_method, heads_method, heads_interface, declares, begins_operand, casts, casts_to_name, predict, predict_list, predict_method, predict_declared, predict_declaration, predict_member_form, predict_member_tail, predict_member, predict_elements, predict_initial, predict_leaving, predict_looping, predict_statement_form, predict_statement, predict_unary, predict_operator, predict_primary, predict_new, predict_dimension}
use Rattle.wy_parser.specs.Looks.{reach, reach_modifiers, reach_named, reach_declared, reach_member_tail, reach_local, reach_cast, reach_new, second_if}
use Rattle.wy_parser.proofs.Members.{stays, past_here}

-- numbers
pub less_not : (n x : ℕ) → n < x → x ≤ n → ⊥
less_not n x h le = omega (arith, h, le)

pub le_same : (n : ℕ) → n ≤ n
le_same n = omega arith

pub le_up : (n m : ℕ) → n ≤ m → n ≤ suc m
le_up n m le = omega (arith, le)

pub le_then : (n m k : ℕ) → n ≤ m → m ≤ k → n ≤ k
le_then n m k le le' = omega (arith, le, le')

pub less_then : (n m k : ℕ) → n < m → m ≤ k → n < k
less_then n m k h le = omega (arith, h, le)

-- which way a number that is reached was taken
not_this : (b : Bool) (n x y : ℕ) → n < (if b then x else y) → x ≤ n → b ≡ false
not_this true n x y h le = absurd (less_not n x h le)
not_this false n x y h le = refl

this_one : (b : Bool) (n x y : ℕ) → n < (if b then x else y) → b ≡ true → n < x
this_one true n x y h e = h
this_one false n x y h e = absurd (cc)

that_one : (b : Bool) (n x y : ℕ) → n < (if b then x else y) → b ≡ false → n < y
that_one true n x y h e = absurd (cc)
that_one false n x y h e = h

-- truth values and choices that are the same
blind : (b c c' : Bool) → b ≡ false → (b && c) ≡ (b && c')
blind true c c' e = absurd (cc)
blind false c c' e = refl

seeing : (b c c' : Bool) → (b ≡ true → c ≡ c') → (b && c) ≡ (b && c')
seeing true c c' f = f refl
seeing false c c' f = refl

else_same : {A : Type 0} (b : Bool) (x y y' : A) → (b ≡ false → y ≡ y') → (if b then x else y) ≡ (if b then x else y')
else_same true x y y' f = refl
else_same false x y y' f = f refl

if_same : {A : Type 0} (b b' : Bool) (x y : A) → b ≡ b' → (if b then x else y) ≡ (if b' then x else y)
if_same b b' x y e = ap (λ z. if z then x else y) e

other : {A : Type 0} (b : Bool) (x x' y : A) → b ≡ false → (if b then x else y) ≡ (if b then x' else y)
other true x x' y e = absurd (cc)
other false x x' y e = refl

neither_of : (b c : Bool) → (b || c) ≡ false → (b ≡ false) × (c ≡ false)
neither_of true c e = absurd (cc)
neither_of false c e = (refl, e)

behind_less : (s : List Tok) → length (rest s) ≤ length s
behind_less [] = le_same 0
behind_less (o ∷ s) = le_up (length s) (length s) (le_same (length s))

one_within : (b : Bool) → (if b then 0 else 1) ≤ 1
one_within true = le_up 0 0 (le_same 0)
one_within false = le_same 1

-- past modifiers
reach_modifiers_within : (s : List Tok) → reach_modifiers s ≤ length s
unfolding reach_modifiers
reach_modifiers_within [] = le_same 0
reach_modifiers_within (o ∷ []) = one_within (is_modifying (kind_of o) || same (kind_of o) kinds.At)
reach_modifiers_within (o ∷ (o' ∷ s)) =
    by (is_modifying (kind_of o)) (same (kind_of o) kinds.At) (same (kind_of o') kinds.Override) (reach_modifiers_within (o' ∷ s)) (reach_modifiers_within s)
  where
    by : (m a r : Bool) → reach_modifiers (o' ∷ s) ≤ suc (length s) → reach_modifiers s ≤ length s
        → (if m then reach_modifiers (o' ∷ s) else (if a then (if r then reach_modifiers s else suc (length s)) else suc (suc (length s)))) ≤ suc (suc (length s))
    by true a r h g = le_up _ _ h
    by false true true h g = le_up _ _ (le_up _ _ g)
    by false true false h g = le_up _ _ (le_same (suc (length s)))
    by false false r h g = le_same (suc (suc (length s)))

-- a lone token that is not passed
stays_of : (m a : Bool) → (m || a) ≡ false → (not m && not a) ≡ true
stays_of true a e = absurd (cc)
stays_of false true e = absurd (cc)
stays_of false false e = refl

lone_stays : (o : Tok) (u : List Tok) → length u < reach_modifiers (o ∷ u) → stays (kind_of o) ≡ true
unfolding reach_modifiers
lone_stays o [] h = stays_of (is_modifying (kind_of o)) (same (kind_of o) kinds.At) (not_this (is_modifying (kind_of o) || same (kind_of o) kinds.At) 0 0 1 h (le_same 0))
lone_stays o (o' ∷ s) h =
    by (is_modifying (kind_of o)) (same (kind_of o) kinds.At) (same (kind_of o') kinds.Override) (reach_modifiers_within (o' ∷ s)) (reach_modifiers_within s) h
  where
    by : (m a r : Bool) → reach_modifiers (o' ∷ s) ≤ suc (length s) → reach_modifiers s ≤ length s
        → suc (length s) < (if m then reach_modifiers (o' ∷ s) else (if a then (if r then reach_modifiers s else suc (length s)) else suc (suc (length s)))) → (not m && not a) ≡ true
    by true a r g g' h = absurd (less_not _ _ h g)
    by false true true g g' h = absurd (less_not _ _ h (le_up _ _ g'))
    by false true false g g' h = absurd (less_not _ _ h (le_same (suc (length s))))
    by false false r g g' h = refl

same_past : (p u v : List Tok) → length u < reach_modifiers (p ++ u) → first_kind (past_modifiers (p ++ u)) ≡ first_kind (past_modifiers (p ++ v))
unfolding reach_modifiers past_modifiers
same_past [] u v h = absurd (less_not (length u) _ h (reach_modifiers_within u))
same_past (o ∷ []) u v h =
    let e = lone_stays o u h in
    ap first_kind (past_here o u e) ∙ sym (ap first_kind (past_here o v e))
same_past (o ∷ (o' ∷ p)) u v h = by (is_modifying (kind_of o)) (same (kind_of o) kinds.At) (same (kind_of o') kinds.Override) (same_past (o' ∷ p) u v) (same_past p u v) h
  where
    by : (m a r : Bool) → (length u < reach_modifiers (o' ∷ (p ++ u)) → first_kind (past_modifiers (o' ∷ (p ++ u))) ≡ first_kind (past_modifiers (o' ∷ (p ++ v))))
        → (length u < reach_modifiers (p ++ u) → first_kind (past_modifiers (p ++ u)) ≡ first_kind (past_modifiers (p ++ v)))
        → length u < (if m then reach_modifiers (o' ∷ (p ++ u)) else (if a then (if r then reach_modifiers (p ++ u) else suc (length (p ++ u))) else suc (suc (length (p ++ u)))))
        → first_kind (if m then past_modifiers (o' ∷ (p ++ u)) else (if a && r then past_modifiers (p ++ u) else o ∷ (o' ∷ (p ++ u))))
        ≡ first_kind (if m then past_modifiers (o' ∷ (p ++ v)) else (if a && r then past_modifiers (p ++ v) else o ∷ (o' ∷ (p ++ v))))
    by true a r f g h = f h
    by false true true f g h = g h
    by false true false f g h = refl
    by false false r f g h = refl

-- past pairs of brackets
reach_named_within : (s : List Tok) → reach_named s ≤ length s
unfolding reach_named
reach_named_within [] = le_same 0
reach_named_within (o ∷ []) = one_within (same (kind_of o) kinds.OpenBracket || is_name (kind_of o))
reach_named_within (o ∷ (o' ∷ s)) = by (same (kind_of o) kinds.OpenBracket) (same (kind_of o') kinds.CloseBracket) (is_name (kind_of o)) (reach_named_within s)
  where
    by : (b c n : Bool) → reach_named s ≤ length s
        → (if b then (if c then reach_named s else suc (length s)) else (if n then suc (length s) else suc (suc (length s)))) ≤ suc (suc (length s))
    by true true n g = le_up _ _ (le_up _ _ g)
    by true false n g = le_up _ _ (le_same (suc (length s)))
    by false c true g = le_up _ _ (le_same (suc (length s)))
    by false c false g = le_same (suc (suc (length s)))

lone_unnamed : (o : Tok) (u : List Tok) → length u < reach_named (o ∷ u) → (same (kind_of o) kinds.OpenBracket ≡ false) × (is_name (kind_of o) ≡ false)
unfolding reach_named
lone_unnamed o [] h = neither_of (same (kind_of o) kinds.OpenBracket) (is_name (kind_of o)) (not_this (same (kind_of o) kinds.OpenBracket || is_name (kind_of o)) 0 0 1 h (le_same 0))
lone_unnamed o (o' ∷ s) h = by (same (kind_of o) kinds.OpenBracket) (same (kind_of o') kinds.CloseBracket) (is_name (kind_of o)) (reach_named_within s) h
  where
    by : (b c n : Bool) → reach_named s ≤ length s
        → suc (length s) < (if b then (if c then reach_named s else suc (length s)) else (if n then suc (length s) else suc (suc (length s)))) → (b ≡ false) × (n ≡ false)
    by true true n g h = absurd (less_not _ _ h (le_up _ _ g))
    by true false n g h = absurd (less_not _ _ h (le_same (suc (length s))))
    by false c true g h = absurd (less_not _ _ h (le_same (suc (length s))))
    by false c false g h = (refl, refl)

unnamed : (o : Tok) (u : List Tok) → same (kind_of o) kinds.OpenBracket ≡ false → is_name (kind_of o) ≡ false → names_method (past_pairs (o ∷ u)) ≡ false
unfolding past_pairs
unnamed o [] e f = ap (λ z. z && false) f
unnamed o (o' ∷ u) e f =
    ap (λ z. names_method (if z && same (kind_of o') kinds.CloseBracket then past_pairs u else o ∷ (o' ∷ u))) e ∙ ap (λ z. z && same (kind_of o') kinds.OpenParen) f

same_named : (p u v : List Tok) → length u < reach_named (p ++ u) → names_method (past_pairs (p ++ u)) ≡ names_method (past_pairs (p ++ v))
unfolding reach_named past_pairs
same_named [] u v h = absurd (less_not (length u) _ h (reach_named_within u))
same_named (o ∷ []) u v h = let e = lone_unnamed o u h in unnamed o u e.0 e.1 ∙ sym (unnamed o v e.0 e.1)
same_named (o ∷ (o' ∷ p)) u v h = by (same (kind_of o) kinds.OpenBracket) (same (kind_of o') kinds.CloseBracket) (same_named p u v) h
  where
    by : (b c : Bool) → (length u < reach_named (p ++ u) → names_method (past_pairs (p ++ u)) ≡ names_method (past_pairs (p ++ v)))
        → length u < (if b then (if c then reach_named (p ++ u) else suc (length (p ++ u))) else (if is_name (kind_of o) then suc (length (p ++ u)) else suc (suc (length (p ++ u)))))
        → names_method (if b && c then past_pairs (p ++ u) else o ∷ (o' ∷ (p ++ u))) ≡ names_method (if b && c then past_pairs (p ++ v) else o ∷ (o' ∷ (p ++ v)))
    by true true f h = f h
    by true false f h = refl
    by false c f h = refl

-- the first token alone
by_first : (P : List Tok → List Item) → ((o : Tok) (s s' : List Tok) → P (o ∷ s) ≡ P (o ∷ s')) → (p u v : List Tok) → length u < length (p ++ u) → P (p ++ u) ≡ P (p ++ v)
by_first P f [] u v h = absurd (less_not (length u) (length u) h (le_same (length u)))
by_first P f (o ∷ p) u v h = f o (p ++ u) (p ++ v)

-- the second too, where the first is so
by_second : (f : Kind → Bool) (P : List Tok → List Item) → ((o : Tok) (s s' : List Tok) → f (kind_of o) ≡ false → P (o ∷ s) ≡ P (o ∷ s')) → ((o o' : Tok) (s s' : List Tok) → P (o ∷ (o' ∷ s)) ≡ P (o ∷ (o' ∷ s')))
    → (p u v : List Tok) → length u < second_if (f (first_kind (p ++ u))) (p ++ u) → P (p ++ u) ≡ P (p ++ v)
by_second f P g k [] u v h = absurd (by (f (first_kind u)) h)
  where
    by : (b : Bool) → length u < (if b then length (rest u) else length u) → ⊥
    by true h = less_not _ _ h (behind_less u)
    by false h = less_not _ _ h (le_same (length u))
by_second f P g k (o ∷ []) u v h = g o u v (not_this (f (kind_of o)) (length u) _ _ h (le_same (length u)))
by_second f P g k (o ∷ (o' ∷ p)) u v h = k o o' (p ++ u) (p ++ v)

-- a declaration
reach_declared_within : (s : List Tok) → reach_declared s ≤ length s
unfolding reach_declared
reach_declared_within s = by (same (first_kind s) kinds.Semicolon) (reach_modifiers_within s)
  where
    by : (b : Bool) → reach_modifiers s ≤ length s → (if b then length s else reach_modifiers s) ≤ length s
    by true g = le_same (length s)
    by false g = g

abbrev heads_interface_of : List Tok → Bool
heads_interface_of s = same (first_kind (past_modifiers s)) kinds.Interface

same_declared : (p u v : List Tok) → length u < reach_declared (p ++ u) → predict_declared (p ++ u) ≡ predict_declared (p ++ v)
unfolding reach_declared predict_declared heads_interface
same_declared [] u v h = absurd (less_not (length u) _ h (reach_declared_within u))
same_declared (o ∷ p) u v h =
    else_same (same (kind_of o) kinds.Semicolon) _ _ _
    (λ e. if_same (heads_interface_of (o ∷ (p ++ u))) (heads_interface_of (o ∷ (p ++ v))) _ _ (ap (λ k. same k kinds.Interface) (same_past (o ∷ p) u v (that_one (same (kind_of o) kinds.Semicolon) (length u) _ _ h e))))

-- a member behind its modifiers
reach_tail_within : (s : List Tok) → reach_member_tail s ≤ length s
unfolding reach_member_tail
reach_tail_within s = by (is_name (first_kind s) && same (second s) kinds.OpenParen) (is_element (first_kind s)) (behind_less s) (reach_named_within (rest s))
  where
    by : (b c : Bool) → length (rest s) ≤ length s → reach_named (rest s) ≤ length (rest s) → (if b then length (rest s) else (if c then reach_named (rest s) else length s)) ≤ length s
    by true c g i = g
    by false true g i = le_then _ _ _ i g
    by false false g i = le_same (length s)

abbrev heads_method_of : List Tok → Bool
heads_method_of s = same (first_kind s) kinds.Void || (is_element (first_kind s) && names_method (past_pairs (rest s)))

same_tail : (p u v : List Tok) → length u < reach_member_tail (p ++ u) → predict_member_tail (p ++ u) ≡ predict_member_tail (p ++ v)
unfolding reach_member_tail predict_member_tail heads_method
same_tail [] u v h = absurd (less_not (length u) _ h (reach_tail_within u))
same_tail (o ∷ []) u v h =
    let b = is_name (kind_of o) && same (first_kind u) kinds.OpenParen in
    let c = not_this b (length u) _ _ h (le_same (length u)) in
    let d = not_this (is_element (kind_of o)) (length u) _ _ (that_one b (length u) _ _ h c) (reach_named_within u) in
    let e = (neither_of (is_name (kind_of o)) (same (kind_of o) kinds.Prim) d).0 in
    if_same b (is_name (kind_of o) && same (first_kind v) kinds.OpenParen) _ _ (blind (is_name (kind_of o)) (same (first_kind u) kinds.OpenParen) (same (first_kind v) kinds.OpenParen) e)
    ∙ else_same (is_name (kind_of o) && same (first_kind v) kinds.OpenParen) _ _ _
    (λ f. if_same (heads_method_of (o ∷ u)) (heads_method_of (o ∷ v)) _ _
    (ap (λ z. same (kind_of o) kinds.Void || z) (blind (is_element (kind_of o)) (names_method (past_pairs u)) (names_method (past_pairs v)) d)))
same_tail (o ∷ (o' ∷ p)) u v h =
    let b = is_name (kind_of o) && same (kind_of o') kinds.OpenParen in
    else_same b _ _ _
    (λ c. if_same (heads_method_of (o ∷ (o' ∷ (p ++ u)))) (heads_method_of (o ∷ (o' ∷ (p ++ v)))) _ _ (ap (λ z. same (kind_of o) kinds.Void || z)
    (seeing (is_element (kind_of o)) (names_method (past_pairs (o' ∷ (p ++ u)))) (names_method (past_pairs (o' ∷ (p ++ v))))
    (λ d. same_named (o' ∷ p) u v (this_one (is_element (kind_of o)) (length u) _ _ (that_one b (length u) _ _ h c) d)))))

-- a declaration in a block
reach_local_within : (s : List Tok) → reach_local s ≤ length s
unfolding reach_local
reach_local_within s = by (is_name (first_kind s)) (same (second s) kinds.OpenBracket) (behind_less s) (behind_less (rest s))
  where
    by : (b c : Bool) → length (rest s) ≤ length s → length (rest (rest s)) ≤ length (rest s) → (if b then (if c then length (rest (rest s)) else length (rest s)) else length s) ≤ length s
    by true true g i = le_then _ _ _ i g
    by true false g i = g
    by false c g i = le_same (length s)

behind_within : (b : Bool) (u : List Tok) → (if b then length (rest u) else length u) ≤ length u
behind_within true u = behind_less u
behind_within false u = le_same (length u)

same_declares : (p u v : List Tok) → length u < reach_local (p ++ u) → declares (p ++ u) ≡ declares (p ++ v)
unfolding reach_local declares
same_declares [] u v h = absurd (less_not (length u) _ h (reach_local_within u))
same_declares (o ∷ []) u v h =
    ap (λ z. (same (kind_of o) kinds.Final || same (kind_of o) kinds.Prim) || z)
    (blind (is_name (kind_of o)) _ _ (not_this (is_name (kind_of o)) (length u) _ _ h (behind_within (same (first_kind u) kinds.OpenBracket) u)))
same_declares (o ∷ (o' ∷ [])) u v h =
    ap (λ z. (same (kind_of o) kinds.Final || same (kind_of o) kinds.Prim) || z)
    (seeing (is_name (kind_of o)) _ _ (λ e. ap (λ z. is_name (kind_of o') || z)
    (blind (same (kind_of o') kinds.OpenBracket) _ _ (not_this (same (kind_of o') kinds.OpenBracket) (length u) _ _ (this_one (is_name (kind_of o)) (length u) _ _ h e) (le_same (length u))))))
same_declares (o ∷ (o' ∷ (o'' ∷ p))) u v h = refl

-- a cast
reach_cast_within : (s : List Tok) → reach_cast s ≤ length s
unfolding reach_cast
reach_cast_within s =
    by (same (first_kind s) kinds.OpenParen) (is_name (second s)) (same (third s) kinds.OpenBracket || same (third s) kinds.CloseParen) (behind_less s) (behind_less (rest s)) (behind_less (rest (rest s)))
  where
    by : (b c d : Bool) → length (rest s) ≤ length s → length (rest (rest s)) ≤ length (rest s) → length (rest (rest (rest s))) ≤ length (rest (rest s))
        → (if b then (if c then (if d then length (rest (rest (rest s))) else length (rest (rest s))) else length (rest s)) else length s) ≤ length s
    by true true true g i j = le_then _ _ _ j (le_then _ _ _ i g)
    by true true false g i j = le_then _ _ _ i g
    by true false d g i j = g
    by false c d g i j = le_same (length s)

inside_within : (c d : Bool) (u : List Tok) → (if c then (if d then length (rest (rest u)) else length (rest u)) else length u) ≤ length u
inside_within true true u = le_then _ _ _ (behind_less (rest u)) (behind_less u)
inside_within true false u = behind_less u
inside_within false d u = le_same (length u)

same_casts : (p u v : List Tok) → length u < reach_cast (p ++ u) → casts (p ++ u) ≡ casts (p ++ v)
unfolding reach_cast casts casts_to_name
same_casts [] u v h = absurd (less_not (length u) _ h (reach_cast_within u))
same_casts (o ∷ []) u v h =
    blind (same (kind_of o) kinds.OpenParen) _ _
    (not_this (same (kind_of o) kinds.OpenParen) (length u) _ _ h (inside_within (is_name (first_kind u)) (same (second u) kinds.OpenBracket || same (second u) kinds.CloseParen) u))
same_casts (o ∷ (o' ∷ [])) u v h =
    seeing (same (kind_of o) kinds.OpenParen) _ _ (λ e. ap (λ z. same (kind_of o') kinds.Prim || z)
    (blind (is_name (kind_of o')) _ _
    (not_this (is_name (kind_of o')) (length u) _ _ (this_one (same (kind_of o) kinds.OpenParen) (length u) _ _ h e)
    (behind_within (same (first_kind u) kinds.OpenBracket || same (first_kind u) kinds.CloseParen) u))))
same_casts (o ∷ (o' ∷ (o'' ∷ []))) u v h =
    seeing (same (kind_of o) kinds.OpenParen) _ _ (λ e. ap (λ z. same (kind_of o') kinds.Prim || z)
    (seeing (is_name (kind_of o')) _ _ (λ f.
    let i = this_one (is_name (kind_of o')) (length u) _ _ (this_one (same (kind_of o) kinds.OpenParen) (length u) _ _ h e) f in
    let j = neither_of (same (kind_of o'') kinds.OpenBracket) (same (kind_of o'') kinds.CloseParen) (not_this (same (kind_of o'') kinds.OpenBracket || same (kind_of o'') kinds.CloseParen) (length u) _ _ i (le_same (length u))) in
    ap (λ z. z || (same (kind_of o'') kinds.CloseParen && begins_operand (first_kind u))) (blind (same (kind_of o'') kinds.OpenBracket) (same (first_kind u) kinds.CloseBracket) (same (first_kind v) kinds.CloseBracket) j.0)
    ∙ ap (λ z. (same (kind_of o'') kinds.OpenBracket && same (first_kind v) kinds.CloseBracket) || z) (blind (same (kind_of o'') kinds.CloseParen) (begins_operand (first_kind u)) (begins_operand (first_kind v)) j.1))))
same_casts (o ∷ (o' ∷ (o'' ∷ (o3 ∷ p)))) u v h = refl

same_unary : (p u v : List Tok) → length u < reach_cast (p ++ u) → predict_unary (p ++ u) ≡ predict_unary (p ++ v)
unfolding predict_unary
same_unary [] u v h = absurd (less_not (length u) _ h (reach_cast_within u))
same_unary (o ∷ p) u v h =
    else_same (same (kind_of o) kinds.Minus) _ _ _ (λ e. else_same (is_prefixing (kind_of o)) _ _ _ (λ f. if_same (casts (o ∷ (p ++ u))) (casts (o ∷ (p ++ v))) _ _ (same_casts (o ∷ p) u v h)))

-- a creation
reach_new_within : (s : List Tok) → reach_new s ≤ length s
unfolding reach_new
reach_new_within s = by (is_element (first_kind s)) (same (second s) kinds.OpenBracket) (behind_less s) (behind_less (rest s))
  where
    by : (b c : Bool) → length (rest s) ≤ length s → length (rest (rest s)) ≤ length (rest s) → (if b then (if c then length (rest (rest s)) else length (rest s)) else length s) ≤ length s
    by true true g i = le_then _ _ _ i g
    by true false g i = g
    by false c g i = le_same (length s)

same_new : (p u v : List Tok) → length u < reach_new (p ++ u) → predict_new (p ++ u) ≡ predict_new (p ++ v)
unfolding reach_new predict_new
same_new [] u v h = absurd (less_not (length u) _ h (reach_new_within u))
same_new (o ∷ []) u v h =
    let d = not_this (is_element (kind_of o)) (length u) _ _ h (behind_within (same (first_kind u) kinds.OpenBracket) u) in
    let e = is_element (kind_of o) in
    if_same (e && same (first_kind u) kinds.OpenParen) (e && same (first_kind v) kinds.OpenParen) _ _ (blind e (same (first_kind u) kinds.OpenParen) (same (first_kind v) kinds.OpenParen) d)
    ∙ else_same (e && same (first_kind v) kinds.OpenParen) _ _ _
    (λ f. if_same (e && (same (first_kind u) kinds.OpenBracket && same (second u) kinds.CloseBracket)) (e && (same (first_kind v) kinds.OpenBracket && same (second v) kinds.CloseBracket)) _ _
    (blind e (same (first_kind u) kinds.OpenBracket && same (second u) kinds.CloseBracket) (same (first_kind v) kinds.OpenBracket && same (second v) kinds.CloseBracket) d))
same_new (o ∷ (o' ∷ [])) u v h =
    let e = is_element (kind_of o) in
    else_same (e && same (kind_of o') kinds.OpenParen) _ _ _
    (λ f. if_same (e && (same (kind_of o') kinds.OpenBracket && same (first_kind u) kinds.CloseBracket)) (e && (same (kind_of o') kinds.OpenBracket && same (first_kind v) kinds.CloseBracket)) _ _
    (seeing e (same (kind_of o') kinds.OpenBracket && same (first_kind u) kinds.CloseBracket) (same (kind_of o') kinds.OpenBracket && same (first_kind v) kinds.CloseBracket) (λ g.
    blind (same (kind_of o') kinds.OpenBracket) (same (first_kind u) kinds.CloseBracket) (same (first_kind v) kinds.CloseBracket)
    (not_this (same (kind_of o') kinds.OpenBracket) (length u) _ _ (this_one e (length u) _ _ h g) (le_same (length u))))))
same_new (o ∷ (o' ∷ (o'' ∷ p))) u v h = refl

-- the rows that look at the second token where the first one asks for it
member_form_first : (o : Tok) (s s' : List Tok) → same (kind_of o) kinds.Static ≡ false → predict_member_form (o ∷ s) ≡ predict_member_form (o ∷ s')
unfolding predict_member_form
member_form_first o s s' e =
    else_same (same (kind_of o) kinds.Semicolon) _ _ _ (λ f. else_same (same (kind_of o) kinds.OpenBrace) _ _ _
    (λ g. if_same (same (kind_of o) kinds.Static && same (first_kind s) kinds.OpenBrace) (same (kind_of o) kinds.Static && same (first_kind s') kinds.OpenBrace) _ _ (blind (same (kind_of o) kinds.Static) (same (first_kind s) kinds.OpenBrace) (same (first_kind s') kinds.OpenBrace) e)))

leaving_first : (o : Tok) (s s' : List Tok) → is_name (kind_of o) ≡ false → predict_leaving (o ∷ s) ≡ predict_leaving (o ∷ s')
unfolding predict_leaving
leaving_first o s s' e =
    else_same (same (kind_of o) kinds.Break) _ _ _ (λ f. else_same (same (kind_of o) kinds.Continue) _ _ _
    (λ f. else_same (same (kind_of o) kinds.Return) _ _ _ (λ f. else_same (same (kind_of o) kinds.Throw) _ _ _ (λ g.
    if_same (is_name (kind_of o) && same (first_kind s) kinds.Colon) (is_name (kind_of o) && same (first_kind s') kinds.Colon) _ _ (blind (is_name (kind_of o)) (same (first_kind s) kinds.Colon) (same (first_kind s') kinds.Colon) e)))))

statement_first : (o : Tok) (s s' : List Tok) → is_name (kind_of o) ≡ false → predict_statement_form (o ∷ s) ≡ predict_statement_form (o ∷ s')
unfolding predict_statement_form predict_looping
statement_first o s s' e =
    else_same (same (kind_of o) kinds.OpenBrace) _ _ _ (λ f. else_same (same (kind_of o) kinds.Semicolon) _ _ _
    (λ f. else_same (same (kind_of o) kinds.If) _ _ _ (λ f. else_same (same (kind_of o) kinds.Try) _ _ _ (λ f. else_same (same (kind_of o) kinds.While) _ _ _
    (λ f. else_same (same (kind_of o) kinds.Do) _ _ _ (λ f. else_same (same (kind_of o) kinds.For) _ _ _ (λ f. leaving_first o s s' e)))))))

dimension_first : (o : Tok) (s s' : List Tok) → same (kind_of o) kinds.OpenBracket ≡ false → predict_dimension (o ∷ s) ≡ predict_dimension (o ∷ s')
unfolding predict_dimension
dimension_first o s s' e = other (same (kind_of o) kinds.OpenBracket) _ _ _ e

-- A choice is the same over lists that agree through the last token that it looks at.
pub same_way : (row : Row) (p u v : List Tok) → length u < reach row (p ++ u) → predict row (p ++ u) ≡ predict row (p ++ v)
unfolding reach predict_list predict_declaration predict_method predict_member predict_initial predict_elements predict_statement predict_operator predict_primary predict_member_form predict_leaving predict_looping predict_statement_form predict_dimension
same_way rows.Declared p u v h = same_declared p u v h
same_way rows.MemberForm p u v h = by_second (λ k. same k kinds.Static) predict_member_form member_form_first (λ o o' s s'. refl) p u v h
same_way rows.MemberTail p u v h = same_tail p u v h
same_way rows.OwnCall p u v h = by_second is_own (predict rows.OwnCall) (λ o s s' e. if_same (is_own (kind_of o) && same (first_kind s) kinds.OpenParen) (is_own (kind_of o) && same (first_kind s') kinds.OpenParen) _ _ (blind (is_own (kind_of o)) (same (first_kind s) kinds.OpenParen) (same (first_kind s') kinds.OpenParen) e)) (λ o o' s s'. refl) p u v h
same_way rows.LocalForm p u v h = if_same (declares (p ++ u)) (declares (p ++ v)) _ _ (same_declares p u v h)
same_way rows.StmtForm p u v h = by_second is_name predict_statement_form statement_first (λ o o' s s'. refl) p u v h
same_way rows.ForInitForm p u v h = if_same (declares (p ++ u)) (declares (p ++ v)) _ _ (same_declares p u v h)
same_way rows.UnaryForm p u v h = same_unary p u v h
same_way rows.CastForm p u v h =
    by_second (λ k. same k kinds.Prim) (predict rows.CastForm) (λ o s s' e. if_same (same (kind_of o) kinds.Prim && same (first_kind s) kinds.CloseParen) (same (kind_of o) kinds.Prim && same (first_kind s') kinds.CloseParen) _ _ (blind (same (kind_of o) kinds.Prim) (same (first_kind s) kinds.CloseParen) (same (first_kind s') kinds.CloseParen) e)) (λ o o' s s'. refl) p u v h
same_way rows.NewForm p u v h = same_new p u v h
same_way rows.Dimensions p u v h = by_second (λ k. same k kinds.OpenBracket) predict_dimension dimension_first (λ o o' s s'. refl) p u v h
same_way (rows.Any x) p u v h = by_first (predict (rows.Any x)) (λ o s s'. refl) p u v h
same_way (rows.Maybe x) p u v h = by_first (predict (rows.Maybe x)) (λ o s s'. refl) p u v h
same_way (rows.Series x) p u v h = by_first (predict (rows.Series x)) (λ o s s'. refl) p u v h
same_way (rows.Further x) p u v h = by_first (predict (rows.Further x)) (λ o s s'. refl) p u v h
same_way rows.Superclass p u v h = by_first (predict rows.Superclass) (λ o s s'. refl) p u v h
same_way rows.Interfaces p u v h = by_first (predict rows.Interfaces) (λ o s s'. refl) p u v h
same_way rows.Supers p u v h = by_first (predict rows.Supers) (λ o s s'. refl) p u v h
same_way rows.Methods p u v h = by_first (predict rows.Methods) (λ o s s'. refl) p u v h
same_way rows.ModForm p u v h = by_first (predict rows.ModForm) (λ o s s'. refl) p u v h
same_way rows.MethodBody p u v h = by_first (predict rows.MethodBody) (λ o s s'. refl) p u v h
same_way rows.ResultForm p u v h = by_first (predict rows.ResultForm) (λ o s s'. refl) p u v h
same_way rows.Initial p u v h = by_first (predict rows.Initial) (λ o s s'. refl) p u v h
same_way rows.InitForm p u v h = by_first (predict rows.InitForm) (λ o s s'. refl) p u v h
same_way rows.Elements p u v h = by_first (predict rows.Elements) (λ o s s'. refl) p u v h
same_way rows.MoreElements p u v h = by_first (predict rows.MoreElements) (λ o s s'. refl) p u v h
same_way rows.AfterComma p u v h = by_first (predict rows.AfterComma) (λ o s s'. refl) p u v h
same_way rows.Otherwise p u v h = by_first (predict rows.Otherwise) (λ o s s'. refl) p u v h
same_way rows.Label p u v h = by_first (predict rows.Label) (λ o s s'. refl) p u v h
same_way rows.Handlers p u v h = by_first (predict rows.Handlers) (λ o s s'. refl) p u v h
same_way rows.Finally p u v h = by_first (predict rows.Finally) (λ o s s'. refl) p u v h
same_way rows.Assigned p u v h = by_first (predict rows.Assigned) (λ o s s'. refl) p u v h
same_way rows.Choice p u v h = by_first (predict rows.Choice) (λ o s s'. refl) p u v h
same_way rows.Negated p u v h = by_first (predict rows.Negated) (λ o s s'. refl) p u v h
same_way rows.Steps p u v h = by_first (predict rows.Steps) (λ o s s'. refl) p u v h
same_way rows.PrimaryForm p u v h = by_first (predict rows.PrimaryForm) (λ o s s'. refl) p u v h
same_way rows.Names p u v h = by_first (predict rows.Names) (λ o s s'. refl) p u v h
same_way rows.Brackets p u v h = by_first (predict rows.Brackets) (λ o s s'. refl) p u v h
same_way rows.MaybeFinal p u v h = by_first (predict rows.MaybeFinal) (λ o s s'. refl) p u v h
