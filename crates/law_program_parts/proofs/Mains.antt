-- The main of a program is written in its text.
use Rattle.std.proofs.Common.{◌≡◌, ℕ, suc, ◌+◌, Bool, true, false, cond, refl, sym, ◌∙◌, ap, subst, List, [], ◌∷◌, ◌++◌, Option, Some, None, arith, if◌then◌else◌}
use Rattle.std.specs.Prelude.{◌==◌, slice_get, flat_map, option_and_then}
use Rattle.std.specs.List.{Contains, position_from}
use Rattle.std.proofs.lemmas.Bool.Decides.{nat_tests}
use Rattle.wy_kernel.specs.Program.{Program, Method}
use Rattle.wy_kernel.specs.Table.{Table}
use Rattle.wy_syntax.specs.Syntax.{Braced, Header, Member, ClassSyntax}
use Rattle.wy_syntax.specs.Syntax as source
use Rattle.wy_members.specs.Declarations.{CompilationUnit, classes_of}
use Rattle.wy_members.proofs.Contained.{contained}
use Rattle.wy_elab_stmt.specs.Program.{is_main, main_in, first_of, main_token, main_of, stands_at}
use Rattle.law_program_parts.specs.Mains.{FindsMain, MainsAreFound}
use Rattle.law_program_parts.proofs.TypedMade.{comes}

-- the first that passes a test
record Passes {X : Type 0} (test : X → Bool) (xs : List X) (i k : ℕ) : Type 0 where
  pub n : ℕ
  pub number : k ≡ i + n
  pub x : X
  pub there : slice_get xs n ≡ Some x
  pub passes : test x ≡ true

passing : {X : Type 0} (test : X → Bool) (xs : List X) (i k : ℕ) → position_from test i xs ≡ Some k → Passes test xs i k
passing test [] i k e = absurd (cc)
passing test (x ∷ xs) i k e = by (test x) refl e (passing test xs (i + 1) k)
  where
    same : (a b : ℕ) → Some a ≡ Some b → b ≡ a
    same a b e = cc

    by : (b : Bool) → test x ≡ b → cond b (Some i) (position_from test (i + 1) xs) ≡ Some k → (position_from test (i + 1) xs ≡ Some k → Passes test xs (i + 1) k) → Passes test (x ∷ xs) i k
    by true f e r = let is = same i k e in record { n = 0; number = omega (arith, is); x = x; there = refl; passes = f }
    by false f e r = let d = r e in record { n = suc d.n; number = omega (arith, d.number); x = d.x; there = d.there; passes = d.passes }

-- the first of what all give is what one gives
record Gives {X : Type 0} (f : X → List ℕ) (xs : List X) (token : ℕ) : Type 0 where
  pub n : ℕ
  pub x : X
  pub there : slice_get xs n ≡ Some x
  pub gives : first_of (f x) ≡ Some token

giving : {X : Type 0} (f : X → List ℕ) (xs : List X) (token : ℕ) → first_of (flat_map f xs) ≡ Some token → Gives f xs token
giving f [] token e = absurd (cc)
giving f (x ∷ xs) token e = by (f x) refl e (giving f xs token)
  where
    by : (l : List ℕ) → f x ≡ l → first_of (l ++ flat_map f xs) ≡ Some token → (first_of (flat_map f xs) ≡ Some token → Gives f xs token) → Gives f (x ∷ xs) token
    by [] g e r = let d = r e in record { n = suc d.n; x = d.x; there = d.there; gives = d.gives }
    by (y ∷ ys) g e r = record { n = 0; x = x; there = refl; gives = ap first_of g ∙ e }

-- a member that is a main
record MainAt (unit : CompilationUnit) (m : Member) (token : ℕ) : Type 0 where
  pub header : Header
  pub block : Braced
  pub is : m ≡ source.Method header None (Some block)
  pub written : is_main unit header ≡ true
  pub at_name : header.name.token ≡ token

main_at : (unit : CompilationUnit) (m : Member) (token : ℕ) → first_of (main_in unit m) ≡ Some token → MainAt unit m token
main_at unit (source.Method h None (Some b)) token e = by (is_main unit h) refl e
  where
    same : (a b : ℕ) → Some a ≡ Some b → a ≡ b
    same a b e = cc

    by : (x : Bool) → is_main unit h ≡ x → first_of (if x then h.name.token ∷ [] else []) ≡ Some token → MainAt unit (source.Method h None (Some b)) token
    by true f e = record { header = h; block = b; is = refl; written = f; at_name = same h.name.token token e }
    by false f e = absurd (cc)
main_at unit (source.Method h None None) token e = absurd (cc)
main_at unit (source.Method h (Some ty) (Some b)) token e = absurd (cc)
main_at unit (source.Method h (Some ty) None) token e = absurd (cc)
main_at unit source.Member.Nothing token e = absurd (cc)
main_at unit (source.Initializer is_static block) token e = absurd (cc)
main_at unit (source.Fields ms ty all) token e = absurd (cc)
main_at unit (source.Constructor h own_call brace parts end) token e = absurd (cc)
main_at unit source.Member.Unknown token e = absurd (cc)

at_token : (token : ℕ) (m : Method) → stands_at token m ≡ true → m.site ≡ token
at_token token m e = by m.site e
  where
    by : (n : ℕ) → (n == token) ≡ true → n ≡ token
    by n h = grind (arith, nat_tests)

finds : (unit : CompilationUnit) (p : Program) (token : ℕ) → main_token unit ≡ Some token → position_from (stands_at token) 0 p.methods ≡ Some p.main → FindsMain unit p
finds unit p token e f =
    let k = giving (λ (k : ClassSyntax). flat_map (main_in unit) k.members) (classes_of unit) token e in
    let m = giving (main_in unit) k.x.members token k.gives in
    let a = main_at unit m.x token m.gives in
    let d = passing (stands_at token) p.methods 0 p.main f in
    let number : d.n ≡ p.main = (let is = d.number in omega (arith, is)) in
    record {
      class = k.x;
      header = a.header;
      block = a.block;
      in_text = contained (classes_of unit) k.n k.x k.there;
      in_class = subst (Contains k.x.members) a.is (contained k.x.members m.n m.x m.there);
      written = a.written;
      method = d.x;
      found = ap (slice_get p.methods) (sym number) ∙ d.there;
      at_name = at_token token d.x d.passes ∙ sym a.at_name;
    }

by_token : (unit : CompilationUnit) (p : Program) (o : Option ℕ) → main_token unit ≡ o → option_and_then (λ token. position_from (stands_at token) 0 p.methods) o ≡ Some p.main → FindsMain unit p
by_token unit p (Some token) e f = finds unit p token e f
by_token unit p None e f = absurd (cc)

of_main : (unit : CompilationUnit) (t : Table) (p : Program) → t.methods ≡ p.methods → main_of t unit ≡ Some p.main → FindsMain unit p
unfolding main_of
of_main unit t p same e = by_token unit p (main_token unit) refl (ap (λ (l : List Method). option_and_then (λ token. position_from (stands_at token) 0 l) (main_token unit)) (sym same) ∙ e)

pub mains_are_found : MainsAreFound
mains_are_found unit tokens p h =
    let c = comes unit tokens p h in
    of_main unit c.t p (ap (λ (x : Program). x.methods) c.made.is) (c.made.main_there ∙ ap (λ (x : Program). Some x.main) c.made.is)
