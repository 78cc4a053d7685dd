-- Where no main is found, no class of the text has one.
use Rattle.std.proofs.Common.{◌≡◌, ◌∙◌, ap, refl, arith, ℕ, zero, suc, ◌+◌, ◌<◌, Bool, true, false, cond, List, [], ◌∷◌, ◌++◌, length, Option, Some}
use Rattle.std.specs.Prelude.{slice_get, flat_map, filter_map, option_and_then, if◌then◌else◌}
use Rattle.std.specs.Prelude.{None as Absent}
use Rattle.std.specs.List.{Contains, position_from, enumerate_from, cons_option}
use Rattle.std.proofs.lemmas.Bool.Decides.{Decides-eqb}
use Rattle.std.proofs.lemmas.List.Elements.{Contains-append_right}
use Rattle.wy_kernel.specs.Builtin as builtin
use Rattle.wy_kernel.specs.Program.{Method, first_source_class}
use Rattle.wy_kernel.specs.Table.{Table}
use Rattle.wy_syntax.specs.Syntax.{WrittenType, Braced, Header, Member, ClassSyntax}
use Rattle.wy_syntax.specs.Syntax as source
use Rattle.wy_members.specs.Declarations.{CompilationUnit, classes_of, table, class_by_class, methods_of, methods_in, method_in, fields_unit, implied_constructor}
use Rattle.wy_members.proofs.Contained.{placed, in_flat, of_flat, in_numbered}
use Rattle.wy_elab_stmt.specs.Program.{is_main, main_in, first_of, main_token, stands_at, main_of}
use Rattle.law_refusals.specs.Units.{IsMain, main, HasNoMain}

-- ---- what a search finds

not_found : {X : Type 0} (p : X → Bool) (xs : List X) (i n : ℕ) (x : X) → position_from p i xs ≡ Absent → slice_get xs n ≡ Some x → p x ≡ true → ⊥
not_found p [] i n x e at h = cc
not_found {X} p (y ∷ xs) i zero x e at h =
    let same : y ≡ x = cc in
    let yes_it : p y ≡ true = ap p same ∙ h in
    passed (p y) yes_it e
  where
    passed : (b : Bool) → b ≡ true → cond b (Some i) (position_from p (i + 1) xs) ≡ Absent → ⊥
    passed true t f = cc
    passed false t f = cc
not_found {X} p (y ∷ xs) i (suc n) x e at h = not_found p xs (i + 1) n x (rest (p y) e) at h
  where
    rest : (b : Bool) → cond b (Some i) (position_from p (i + 1) xs) ≡ Absent → position_from p (i + 1) xs ≡ Absent
    rest true f = absurd (cc)
    rest false f = f

first_none : (xs : List ℕ) (n : ℕ) → first_of xs ≡ Absent → Contains xs n → ⊥
first_none [] n e h = let lt : h.0 < 0 = h.1 in omega arith
first_none (x ∷ xs) n e h = cc

first_stands : (xs : List ℕ) (n : ℕ) → first_of xs ≡ Some n → Contains xs n
first_stands [] n e = absurd (cc)
first_stands (x ∷ xs) n e = let same : x ≡ n = cc in (0, omega arith, same)

kept_first : {Y : Type 0} (o : Option Y) (y : Y) (rest : List Y) → o ≡ Some y → Contains (cons_option o rest) y
kept_first (Some z) y rest e = let same : z ≡ y = cc in (0, omega arith, same)
kept_first Absent y rest e = absurd (cc)

kept_later : {Y : Type 0} (o : Option Y) (y : Y) (rest : List Y) → Contains rest y → Contains (cons_option o rest) y
kept_later (Some z) y rest h = (suc h.0, (let lt : h.0 < length rest = h.1 in omega arith), h.2)
kept_later Absent y rest h = h

filtered : {X Y : Type 0} (f : X → Option Y) (xs : List X) (i : ℕ) (x : X) (y : Y) → slice_get xs i ≡ Some x → f x ≡ Some y → Contains (filter_map f xs) y
filtered f [] i x y e h = absurd (cc)
filtered f (z ∷ xs) zero x y e h = let same : z ≡ x = cc in kept_first (f z) y (filter_map f xs) (ap f same ∙ h)
filtered f (z ∷ xs) (suc i) x y e h = kept_later (f z) y (filter_map f xs) (filtered f xs i x y e h)

-- ---- mains by their tokens

none_in : {Y : Type 0} (n : ℕ) → Contains [] n → Y
none_in n h = let lt : h.0 < 0 = h.1 in absurd (omega arith)

only_in : (x n : ℕ) → Contains (x ∷ []) n → x ≡ n
only_in x n (zero, lt, e) = e
only_in x n (suc k, lt, e) = absurd (omega arith)

token_if : (b : Bool) (n : ℕ) → b ≡ true → Contains (if b then n ∷ [] else []) n
token_if true n e = (0, omega arith, refl)
token_if false n e = absurd (cc)

-- the row of a main, by its token
record HasRow (unit : CompilationUnit) (c : ℕ) (k : ClassSyntax) (m : Member) (n : ℕ) : Type 0 where
  row : Method
  is : method_in unit c k m ≡ Some row
  site : row.site ≡ n

row_if : (unit : CompilationUnit) (c : ℕ) (k : ClassSyntax) (h : Header) (b : Braced) (n : ℕ) (x : Bool) → Contains (if x then h.name.token ∷ [] else []) n → HasRow unit c k (source.Method h Absent (Some b)) n
row_if unit c k h b n true stands = record { row = _; is = refl; site = only_in h.name.token n stands }
row_if unit c k h b n false stands = none_in n stands

row_of_main : (unit : CompilationUnit) (c : ℕ) (k : ClassSyntax) (m : Member) (n : ℕ) → Contains (main_in unit m) n → HasRow unit c k m n
row_of_main unit c k (source.Method h Absent (Some b)) n stands = row_if unit c k h b n (is_main unit h) stands
row_of_main unit c k (source.Method h Absent Absent) n stands = none_in n stands
row_of_main unit c k (source.Method h (Some ty) b) n stands = none_in n stands
row_of_main unit c k (source.Constructor h own brace parts end) n stands = none_in n stands
row_of_main unit c k (source.Fields ms ty all) n stands = none_in n stands
row_of_main unit c k (source.Initializer is_static b) n stands = none_in n stands
row_of_main unit c k source.Member.Nothing n stands = none_in n stands
row_of_main unit c k source.Member.Unknown n stands = none_in n stands

-- it is a method of the table
in_class : (unit : CompilationUnit) (c : ℕ) (k : ClassSyntax) (i : ℕ) (m : Member) (n : ℕ) → slice_get k.members i ≡ Some m → (r : HasRow unit c k m n) → Contains (methods_of unit c k) r.row
in_class unit c k i m n stands r =
    Contains-append_right (fields_unit c k ++ implied_constructor c k) (methods_in unit c k k.members) r.row (filtered (method_in unit c k) k.members i m r.row stands r.is)

in_table : (unit : CompilationUnit) (i : ℕ) (k : ClassSyntax) (row : Method) → slice_get (classes_of unit) i ≡ Some k → Contains (methods_of unit (first_source_class + i) k) row → Contains (table unit).methods row
unfolding table
in_table unit i k row stands h =
    let numbered = placed (enumerate_from first_source_class (classes_of unit)) (first_source_class + i, k) (in_numbered first_source_class (classes_of unit) i k stands) in
    Contains-append_right builtin.methods (class_by_class (methods_of unit) unit) row
    (in_flat (λ p. methods_of unit p.0 p.1) (enumerate_from first_source_class (classes_of unit)) numbered.0 (first_source_class + i, k) row numbered.1 h)

all_mains : CompilationUnit → List ℕ
all_mains unit = flat_map (λ (k : ClassSyntax). flat_map (main_in unit) k.members) (classes_of unit)

-- each token among those of mains is the site of a method
method_of_main : (unit : CompilationUnit) (n : ℕ) → Contains (all_mains unit) n → (row : Method) × Contains (table unit).methods row × (row.site ≡ n)
unfolding all_mains
method_of_main unit n h =
    let in_k = of_flat (λ (k : ClassSyntax). flat_map (main_in unit) k.members) (classes_of unit) n h in
    let in_m = of_flat (main_in unit) in_k.1.members n in_k.3 in
    let r = row_of_main unit (first_source_class + in_k.0) in_k.1 in_m.1 n in_m.3 in
    (r.row, in_table unit in_k.0 in_k.1 r.row in_k.2 (in_class unit (first_source_class + in_k.0) in_k.1 in_m.0 in_m.1 n in_m.2 r), r.site)

main_stands : (unit : CompilationUnit) (m : Member) → IsMain unit m → (n : ℕ) × Contains (main_in unit m) n
main_stands unit m (main {h = h} e) = (h.name.token, token_if (is_main unit h) h.name.token e)

among_mains : (unit : CompilationUnit) (k : ClassSyntax) (m : Member) → Contains (classes_of unit) k → Contains k.members m → IsMain unit m → (n : ℕ) × Contains (all_mains unit) n
unfolding all_mains
among_mains unit k m in_unit in_k is =
    let n = main_stands unit m is in
    let at_k = placed (classes_of unit) k in_unit in
    let at_m = placed k.members m in_k in
    (n.0, in_flat (λ (x : ClassSyntax). flat_map (main_in unit) x.members) (classes_of unit) at_k.0 k n.0 at_k.1 (in_flat (main_in unit) k.members at_m.0 m n.0 at_m.1 n.1))

main_by : (t : Table) (unit : CompilationUnit) → t.methods ≡ (table unit).methods → (o : Option ℕ) → first_of (all_mains unit) ≡ o → option_and_then (λ token. position_from (stands_at token) 0 t.methods) o ≡ Absent → HasNoMain unit
main_by t unit same Absent e none k m in_unit in_k is = let n = among_mains unit k m in_unit in_k is in first_none (all_mains unit) n.0 e n.1
main_by t unit same (Some n) e none k m in_unit in_k is =
    let r = method_of_main unit n (first_stands (all_mains unit) n e) in
    let at_r = placed (table unit).methods r.0 r.1 in
    not_found (stands_at n) t.methods 0 at_r.0 r.0 none (ap (λ z. slice_get z at_r.0) same ∙ at_r.1) ((Decides-eqb r.0.site n).1 r.2)

pub no_main_found : (t : Table) (unit : CompilationUnit) → t.methods ≡ (table unit).methods → main_of t unit ≡ Absent → HasNoMain unit
unfolding main_of all_mains
no_main_found t unit same none = main_by t unit same (main_token unit) refl none
