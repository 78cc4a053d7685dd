-- The loops of the parser.
use Rattle.std.proofs.Common.{ℕ, zero, suc, ◌≡◌, ◌≤◌, ◌+◌, ◌*◌, List, Option, Some, None, length, refl, sym, ◌∙◌, ap, subst, arith}
use Rattle.std.proofs.lemmas.List.{length-map}
use Rattle.std.specs.Borrow.{Bor}
use Rattle.wy_tree.specs.Seen.{Tok}
use Rattle.wy_tree.specs.Ast.{Ast, view}
use Rattle.wy_parser.specs.Symbols.{symbols_seen}
use Rattle.wy_parser.specs.Reading.{Read, ReadAll, Reader, steps, parts, Grown, Stay, Wrong, Onto, grown_by, growing}
use Rattle.wy_parser.specs.Looks.{Looker, grown_later, looked_growing, looked_parts}
use Rattle.wy_parser.specs.Parsed.{Fails, FailsGrown, LooksAt, Grown_as, Deepens, Shortens}
use Rattle.wy_tree.specs.declared.grammar.Item.{Item}
use Rattle.wy_parser.specs.declared.symbol.Symbol.{Symbol}
use Rattle.wy_parser.specs.declared.part.Sub.{Sub}
use Rattle.wy_parser.specs.declared.stop.Stop.{Stop}
use Rattle.wy_parser.specs.declared.stop.Stop.TheVariants as stops
use Rattle.wy_parser.specs.declared.stop.Growth.{Growth}
use Rattle.wy_parser.specs.declared.stop.Growth.TheVariants as growths

-- an error is handed on
passes_on : {A B : Type 0} (e : Stop) (r : Option A) (q : Option B) → Fails e r → (r ≡ None → q ≡ None) → Fails e q
passes_on stops.NoTree r q fails go = go fails
passes_on stops.Memory r q fails go = tt

pub passes : {A B : Type 0} (e f : Stop) (r : Option A) (q : Option B) → f ≡ e → Fails e r → (r ≡ None → q ≡ None) → Fails f q
passes e f r q same_one fails go = subst (λ z. Fails z q) (sym same_one) (passes_on e r q fails go)

passes_grown_on : {B : Type 0} (e : Stop) (g : Grown) (q : Option B) → FailsGrown e g → (g ≡ Wrong → q ≡ None) → Fails e q
passes_grown_on stops.NoTree g q fails go = go fails
passes_grown_on stops.Memory g q fails go = tt

pub passes_grown : {B : Type 0} (e f : Stop) (g : Grown) (q : Option B) → f ≡ e → FailsGrown e g → (g ≡ Wrong → q ≡ None) → Fails f q
passes_grown e f g q same_one fails go = subst (λ z. Fails z q) (sym same_one) (passes_grown_on e g q fails go)

-- an error is handed on with what was looked at
looks_on : (e : Stop) (m n k : ℕ) → LooksAt e m n → (e ≡ stops.NoTree → n ≡ k) → LooksAt e m k
looks_on stops.NoTree m n k is go = is ∙ go refl
looks_on stops.Memory m n k is go = tt

unread : {A : Type 0} (e : Stop) (r : Option A) → Fails e r → e ≡ stops.NoTree → r ≡ None
unread e r fails is = subst (λ z. Fails z r) is fails

ungrown : (e : Stop) (g : Grown) → FailsGrown e g → e ≡ stops.NoTree → g ≡ Wrong
ungrown e g fails is = subst (λ z. FailsGrown z g) is fails

pub passes_looks : {A : Type 0} (e f : Stop) (r : Option A) (m n k : ℕ) → f ≡ e → Fails e r → LooksAt e m n → (r ≡ None → n ≡ k) → LooksAt f m k
passes_looks e f r m n k same_one fails is go = subst (λ z. LooksAt z m k) (sym same_one) (looks_on e m n k is (λ i. go (unread e r fails i)))

pub passes_grown_looks : (e f : Stop) (g : Grown) (m n k : ℕ) → f ≡ e → FailsGrown e g → LooksAt e m n → (g ≡ Wrong → n ≡ k) → LooksAt f m k
passes_grown_looks e f g m n k same_one fails is go = subst (λ z. LooksAt z m k) (sym same_one) (looks_on e m n k is (λ i. go (ungrown e g fails i)))

-- a tree that has grown so far, and what is left of its growing and looking
pub record IsOnWay (grow : Ast → List Tok → Grown) (look : Ast → List Tok → ℕ → ℕ) (d : ℕ) (whole : Read) (sight : ℕ) (l : Ast) (s : List Tok) (n : ℕ) (depth : ℕ) : Type 0 where
  pub fuel : ℕ
  pub enough : suc (suc d) ≤ fuel + depth
  pub short : depth ≤ d + 1
  pub same : whole ≡ growing grow fuel l s
  pub looks : sight ≡ looked_growing grow look fuel l s n

pub sets_out : (grow : Ast → List Tok → Grown) (look : Ast → List Tok → ℕ → ℕ) (d : ℕ) (l : Ast) (s : List Tok) (n : ℕ) (depth : ℕ) → depth ≤ d + 1
    → IsOnWay grow look d (growing grow (suc (suc d)) l s) (looked_growing grow look (suc (suc d)) l s n) l s n depth
sets_out grow look d l s n depth le = record { fuel = suc (suc d); enough = omega arith; short = le; same = refl; looks = refl }

grows : (grow : Ast → List Tok → Grown) (k : ℕ) (l : Ast) (s : List Tok) (g : Grown) → grow l s ≡ g → growing grow (suc k) l s ≡ grown_by g (growing grow k) (Some (l, s))
unfolding growing
grows grow k l s g e = ap (λ z. grown_by z (growing grow k) (Some (l, s))) e

looks_grown : (grow : Ast → List Tok → Grown) (look : Ast → List Tok → ℕ → ℕ) (k : ℕ) (l : Ast) (s : List Tok) (n : ℕ) (g : Grown) → grow l s ≡ g
    → looked_growing grow look (suc k) l s n ≡ grown_later g (look l s n) (looked_growing grow look k)
unfolding looked_growing
looks_grown grow look k l s n g e = ap (λ z. grown_later z (look l s n) (looked_growing grow look k)) e

way_by : {A : Type 0} (grow : Ast → List Tok → Grown) (look : Ast → List Tok → ℕ → ℕ) (d : ℕ) (whole : Read) (sight : ℕ) (l : Ast) (s : List Tok) (n : ℕ) (depth : ℕ) → IsOnWay grow look d whole sight l s n depth
    → ((k : ℕ) → suc (suc d) ≤ suc k + depth → whole ≡ growing grow (suc k) l s → sight ≡ looked_growing grow look (suc k) l s n → A) → A
way_by {A} grow look d whole sight l s n depth w go =
    let by : (k : ℕ) → suc (suc d) ≤ k + depth → whole ≡ growing grow k l s → sight ≡ looked_growing grow look k l s n → A =
    elim [ zero ↦ λ le e f. absurd (let h = w.short in omega (arith, h)) | suc k ↦ λ le e f. go k le e f ] in
    by w.fuel w.enough w.same w.looks

pub way_stays : (grow : Ast → List Tok → Grown) (look : Ast → List Tok → ℕ → ℕ) (d : ℕ) (whole : Read) (sight : ℕ) (l : Ast) (s : List Tok) (n : ℕ) (depth : ℕ) (x : Growth) (t : Sub)
    → IsOnWay grow look d whole sight l s n depth → x ≡ growths.Stayed t → Grown_as x l (grow l s) → whole ≡ Some (view t.tree, s)
way_stays grow look d whole sight l s n depth x t w e g =
    let h = subst (λ z. Grown_as z l (grow l s)) e g in
    way_by grow look d whole sight l s n depth w (λ k le f i. f ∙ grows grow k l s Stay h.0 ∙ ap (λ z. Some (z, s)) (sym h.1))

pub way_stays_looks : (grow : Ast → List Tok → Grown) (look : Ast → List Tok → ℕ → ℕ) (d : ℕ) (whole : Read) (sight : ℕ) (l : Ast) (s : List Tok) (n : ℕ) (depth : ℕ) (x : Growth) (t : Sub)
    → IsOnWay grow look d whole sight l s n depth → x ≡ growths.Stayed t → Grown_as x l (grow l s) → (m : ℕ) → m ≡ look l s n → m ≡ sight
way_stays_looks grow look d whole sight l s n depth x t w e g m is =
    let h = subst (λ z. Grown_as z l (grow l s)) e g in
    way_by grow look d whole sight l s n depth w (λ k le f i. is ∙ sym (i ∙ looks_grown grow look k l s n Stay h.0))

pub way_fails : (grow : Ast → List Tok → Grown) (look : Ast → List Tok → ℕ → ℕ) (d : ℕ) (whole : Read) (sight : ℕ) (l : Ast) (s : List Tok) (n : ℕ) (depth : ℕ)
    → IsOnWay grow look d whole sight l s n depth → grow l s ≡ Wrong → whole ≡ None
way_fails grow look d whole sight l s n depth w g = way_by grow look d whole sight l s n depth w (λ k le f i. f ∙ grows grow k l s Wrong g)

pub way_fails_looks : (grow : Ast → List Tok → Grown) (look : Ast → List Tok → ℕ → ℕ) (d : ℕ) (whole : Read) (sight : ℕ) (l : Ast) (s : List Tok) (n : ℕ) (depth : ℕ)
    → IsOnWay grow look d whole sight l s n depth → grow l s ≡ Wrong → look l s n ≡ sight
way_fails_looks grow look d whole sight l s n depth w g = way_by grow look d whole sight l s n depth w (λ k le f i. sym (i ∙ looks_grown grow look k l s n Wrong g))

pub way_grew : (grow : Ast → List Tok → Grown) (look : Ast → List Tok → ℕ → ℕ) (d : ℕ) (whole : Read) (sight : ℕ) (l : Ast) (s : List Tok) (n : ℕ) (depth : ℕ) (x : Growth) (t : Sub) (r : Bor (List Symbol)) (m : ℕ)
    → IsOnWay grow look d whole sight l s n depth → x ≡ growths.Grew t r → Grown_as x l (grow l s) → Deepens x depth d → m ≡ look l s n
    → IsOnWay grow look d whole sight (view t.tree) (symbols_seen r.now) m t.depth
way_grew grow look d whole sight l s n depth x t r m w e g f is =
    let h = subst (λ z. Grown_as z l (grow l s)) e g in
    let j = subst (λ z. Deepens z depth d) e f in
    way_by grow look d whole sight l s n depth w (λ k le q i. record {
      fuel = k;
      enough = let a = j.0 in omega (arith, a);
      short = j.1;
      same = q ∙ grows grow k l s (Onto (view t.tree) (symbols_seen r.now)) h;
      looks = i ∙ looks_grown grow look k l s n (Onto (view t.tree) (symbols_seen r.now)) h ∙ ap (looked_growing grow look k (view t.tree) (symbols_seen r.now)) (sym is);
    })

pub shortens : (x : Growth) (t : Sub) (r : Bor (List Symbol)) (n m : ℕ) → x ≡ growths.Grew t r → Shortens x n → n ≤ m → length r.now ≤ m
shortens x t r n m e f le = let g = subst (λ z. Shortens z n) e f in omega (arith, g, le)

pub steps_same : (s : List Symbol) → steps (symbols_seen s) ≡ 4 * length s + 8
steps_same s = ap (λ z. 4 * z + 8) (simp length-map refl)

pub whole_same : (first next : Reader) (items : List Item) (s : List Symbol) (r : ReadAll) → parts first next (4 * length s + 8) items (symbols_seen s) ≡ r → parts first next (steps (symbols_seen s)) items (symbols_seen s) ≡ r
whole_same first next items s r e = ap (λ z. parts first next z items (symbols_seen s)) (steps_same s) ∙ e

pub whole_looked : (first next : Reader) (sees see : Looker) (items : List Item) (s : List Symbol) (n m : ℕ) → m ≡ looked_parts first next sees see (4 * length s + 8) items (symbols_seen s) n
    → m ≡ looked_parts first next sees see (steps (symbols_seen s)) items (symbols_seen s) n
whole_looked first next sees see items s n m e = e ∙ sym (ap (λ z. looked_parts first next sees see z items (symbols_seen s) n) (steps_same s))
