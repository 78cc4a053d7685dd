-- How far reading looks. Each number says how many tokens stand at and behind one that is looked at: 0 is the end.
use Rattle.std.specs.Prelude.{ℕ, zero, suc, min, Bool, true, false, ◌&&◌, ◌||◌, if◌then◌else◌, List, [], ◌∷◌, ◌++◌, length, Option, Some, None}
use Rattle.wy_tree.specs.Seen.{Tok}
use Rattle.wy_tree.specs.Kinds.{kind_of, same}
use Rattle.wy_tree.specs.Ast.{Ast}
use Rattle.wy_tree.specs.Conditions.{is_name, is_sign, is_array_creation}
use Rattle.wy_tree.specs.Grammar.{rule, is_own, is_modifying}
use Rattle.wy_tree.specs.declared.kind.Kind.{Kind}
use Rattle.wy_tree.specs.declared.kind.Kind.TheVariants as kinds
use Rattle.wy_tree.specs.declared.grammar.Sort.{Sort}
use Rattle.wy_tree.specs.declared.grammar.Sort.TheVariants as sorts
use Rattle.wy_tree.specs.declared.grammar.Row.{Row}
use Rattle.wy_tree.specs.declared.grammar.Row.TheVariants as rows
use Rattle.wy_tree.specs.declared.grammar.Item.{Item}
use Rattle.wy_tree.specs.declared.grammar.Item.TheVariants.{One, Part, Parts}
use Rattle.wy_parser.specs.Prediction.{first_kind, rest, second, third, is_element, predict, continued}
use Rattle.wy_parser.specs.Reading.{Reader, Grown, Stay, Wrong, Onto, taken, steps, base, grow, ranked, reader, run}

-- the tokens from the first, the second, the third and the fourth one on
abbrev pub at_first : List Tok → ℕ
at_first s = length s

abbrev pub at_second : List Tok → ℕ
at_second s = length (rest s)

abbrev pub at_third : List Tok → ℕ
at_third s = length (rest (rest s))

abbrev pub at_fourth : List Tok → ℕ
at_fourth s = length (rest (rest (rest s)))

-- past modifiers, to the first token that is none
unfoldable pub reach_modifiers : List Tok → ℕ
reach_modifiers [] = 0
reach_modifiers (o ∷ []) = if is_modifying (kind_of o) || same (kind_of o) kinds.At then 0 else 1
reach_modifiers (o ∷ (o' ∷ s)) =
    if is_modifying (kind_of o) then reach_modifiers (o' ∷ s) else
    (if same (kind_of o) kinds.At then (if same (kind_of o') kinds.Override then reach_modifiers s else length (o' ∷ s)) else length (o ∷ (o' ∷ s)))

-- past pairs of brackets, and a name, to what stands behind it
unfoldable pub reach_named : List Tok → ℕ
reach_named [] = 0
reach_named (o ∷ []) = if same (kind_of o) kinds.OpenBracket || is_name (kind_of o) then 0 else 1
reach_named (o ∷ (o' ∷ s)) =
    if same (kind_of o) kinds.OpenBracket then (if same (kind_of o') kinds.CloseBracket then reach_named s else length (o' ∷ s)) else
    (if is_name (kind_of o) then length (o' ∷ s) else length (o ∷ (o' ∷ s)))

unfoldable pub reach_declared : List Tok → ℕ
reach_declared s = if same (first_kind s) kinds.Semicolon then at_first s else reach_modifiers s

unfoldable pub reach_member_tail : List Tok → ℕ
reach_member_tail s =
    if is_name (first_kind s) && same (second s) kinds.OpenParen then at_second s else
    (if is_element (first_kind s) then reach_named (rest s) else at_first s)

unfoldable pub reach_local : List Tok → ℕ
reach_local s =
    if is_name (first_kind s) then (if same (second s) kinds.OpenBracket then at_third s else at_second s) else at_first s

-- to what may be the operand of a cast
unfoldable pub reach_cast : List Tok → ℕ
reach_cast s =
    if same (first_kind s) kinds.OpenParen then
    (if is_name (second s) then (if same (third s) kinds.OpenBracket || same (third s) kinds.CloseParen then at_fourth s else at_third s) else at_second s)
    else at_first s

unfoldable pub reach_new : List Tok → ℕ
reach_new s = if is_element (first_kind s) then (if same (second s) kinds.OpenBracket then at_third s else at_second s) else at_first s

-- the second token, if this is so
abbrev pub second_if : Bool → List Tok → ℕ
second_if b s = if b then at_second s else at_first s

-- the last token that a choice looks at
unfoldable pub reach : Row → List Tok → ℕ
reach rows.Declared s = reach_declared s
reach rows.MemberForm s = second_if (same (first_kind s) kinds.Static) s
reach rows.MemberTail s = reach_member_tail s
reach rows.OwnCall s = second_if (is_own (first_kind s)) s
reach rows.LocalForm s = reach_local s
reach rows.StmtForm s = second_if (is_name (first_kind s)) s
reach rows.ForInitForm s = reach_local s
reach rows.UnaryForm s = reach_cast s
reach rows.CastForm s = second_if (same (first_kind s) kinds.Prim) s
reach rows.NewForm s = reach_new s
reach rows.Dimensions s = second_if (same (first_kind s) kinds.OpenBracket) s
reach _ s = at_first s

-- no tree of this sort begins with this kind
abbrev pub refuses_sign : Sort → Kind → Bool
refuses_sign sorts.Operand k = is_sign k
refuses_sign _ k = false

-- nothing that begins with this kind stands behind this tree
abbrev pub refuses_element : Ast → Kind → Bool
refuses_element l k = is_array_creation l && same k kinds.OpenBracket

-- the last token that reading looks at, where n is that of what was read before
abbrev pub Looker : Type 0
Looker = Sort → List Tok → ℕ → ℕ

abbrev pub later : {A : Type 0} → Option (A × List Tok) → ℕ → (A → List Tok → ℕ → ℕ) → ℕ
later None n go = n
later (Some x) n go = go x.0 x.1 n

-- Where the steps don't suffice, nothing is said of what was looked at: it is all.
unfoldable pub looked_parts : Reader → Reader → Looker → Looker → ℕ → List Item → List Tok → ℕ → ℕ
looked_parts first next sees see zero items s n = 0
looked_parts first next sees see (suc k) [] s n = n
looked_parts first next sees see (suc k) (One c ∷ items) s n = later (taken c s) (min n (length s)) (λ o r. looked_parts next next see see k items r)
looked_parts first next sees see (suc k) (Part x ∷ items) s n = later (first x s) (sees x s n) (λ t r. looked_parts next next see see k items r)
looked_parts first next sees see (suc k) (Parts row ∷ items) s n = looked_parts first next sees see k (predict row s ++ items) s (min n (reach row s))

abbrev pub grown_later : Grown → ℕ → (Ast → List Tok → ℕ → ℕ) → ℕ
grown_later Stay n go = n
grown_later Wrong n go = n
grown_later (Onto t s) n go = go t s n

unfoldable pub looked_growing : (Ast → List Tok → Grown) → (Ast → List Tok → ℕ → ℕ) → ℕ → Ast → List Tok → ℕ → ℕ
looked_growing grow look zero l s n = 0
looked_growing grow look (suc k) l s n = grown_later (grow l s) (look l s n) (looked_growing grow look k)

abbrev pub looked_grow_by : Reader → Looker → Bool → Option (List Item) → List Tok → ℕ → ℕ
looked_grow_by next see refused None s n = n
looked_grow_by next see true (Some items) s n = n
looked_grow_by next see false (Some items) s n = looked_parts next next see see (steps s) items s n

unfoldable pub looked_grow : Reader → Looker → Sort → Ast → List Tok → ℕ → ℕ
looked_grow next see x l s n = looked_grow_by next see (refuses_element l (first_kind s)) (continued x s) s (min n (length s))

unfoldable pub looked_base : Reader → Reader → Looker → Looker → Sort → List Tok → ℕ → ℕ
looked_base first next sees see x s n =
    if refuses_sign x (first_kind s) then min n (length s) else looked_parts first next sees see (steps s) (rule x) s n

abbrev pub looked_step : Reader → Reader → Looker → Looker → ℕ → Looker
looked_step first next sees see d x s n =
    later (base first next d x s) (looked_base first next sees see x s n) (looked_growing (grow next d x) (looked_grow next see x) (suc (suc d)))

unfoldable pub looked_ranked : Reader → Looker → ℕ → ℕ → Looker
looked_ranked next see d zero x s n = n
looked_ranked next see d (suc rank) x s n = looked_step (ranked next d rank) next (looked_ranked next see d rank) see d x s n

unfoldable pub looked : ℕ → ℕ → Looker
looked zero rank x s n = n
looked (suc d) rank x s n = looked_ranked (reader d 24) (looked d 24) d rank x s n

-- the last token that reading a text looks at, and then what stands behind the tree
unfoldable pub looked_whole : List Tok → ℕ
looked_whole s = later (run 300 sorts.Unit s) (looked 300 24 sorts.Unit s (length s)) (λ t r n. min n (length r))
