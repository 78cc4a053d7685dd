-- What is due for one source is one, but for the token of Syntax.
use Rattle.std.proofs.Common.{◌≡◌, ◌∙◌, sym, ap, subst, refl, inl, inr, ◌⊎◌, ℕ, List, length, map, Result, Ok, Err}
use Rattle.wy_kernel.specs.Program.{Program}
use Rattle.wy_kernel.specs.declared.program.Program as memory
use Rattle.wy_kernel.specs.Parts.{program_of}
use Rattle.wy_constant.specs.Refusal as typing
use Rattle.wy_tree.specs.Ast.{Ast}
use Rattle.wy_tree.specs.Lines.{line_of}
use Rattle.wy_tree.specs.Tokens.{SpannedToken, Tokens}
use Rattle.wy_tree.specs.TokenLaws.{OneTokenList, TokensOrRefusal, OneRefusal, NotUtf8Alone}
use Rattle.wy_tree.specs.Trees.{OneTree}
use Rattle.wy_syntax.specs.Declarations.{unit}
use Rattle.wy_elab_stmt.specs.Elaborates.{Elaborates, OneElaboration}
use Rattle.wy_top.specs.Causes.{IsNoProgram, IsSyntaxLine, not_utf8_line, fault_line, rule_line, not_utf8, refused, syntax, broken}
use Rattle.wy_top.specs.Due.{DueFor, no_program, program}
use Rattle.wy_program.specs.Programs.{Becomes, HasTree, IsProgramOf, unplaced}

-- what is known of texts, tokens and programs
pub record Known : Type 0 where
  pub lists : OneTokenList
  pub tokens : TokensOrRefusal
  pub one : OneRefusal
  pub utf8 : NotUtf8Alone
  pub trees : OneTree
  pub programs : OneElaboration

-- the two texts are one, or both are lines of Syntax for the tokens of the source
abbrev pub SameLines : List ℕ → List ℕ → List ℕ → Type 0
SameLines source x y = (x ≡ y) ⊎ ((spans : List SpannedToken) × Tokens source spans × IsSyntaxLine spans x × IsSyntaxLine spans y)

-- what the tokens of one source become is one
one_outcome : Known → (source : List ℕ) (p q : List SpannedToken) (a b : Result Program typing.Refusal) → Tokens source p → Tokens source q → Becomes p a → Becomes q b → a ≡ b
one_outcome known source p q a b us ts x y =
    let e : q ≡ p = known.lists source q p ts us in
    let z : Becomes p b = subst (λ (r : List SpannedToken). Becomes r b) e y in
    let t : x.tree ≡ z.tree = known.trees x.tree z.tree x.reads.0 z.reads.0 (x.reads.1 ∙ sym z.reads.1) in
    known.programs (unit 0 z.tree) (length p) a b (subst (λ (r : Ast). Elaborates (unit 0 r) (length p) a) t x.elaborated) z.elaborated

-- tokens that become something have a tree
becoming : (p : List SpannedToken) (a : Result Program typing.Refusal) → Becomes p a → HasTree (unplaced p)
becoming p a x = (x.tree, x.reads.0, x.reads.1)

treeless : Known → (source : List ℕ) (p q : List SpannedToken) (a : Result Program typing.Refusal) → Tokens source p → Tokens source q → ¬ HasTree (unplaced p) → Becomes q a → ⊥
treeless known source p q a us ts none x = none (subst (λ (z : List SpannedToken). HasTree (unplaced z)) (known.lists source q p ts us) (becoming q a x))

one_line : Known → (source : List ℕ) (p q : List SpannedToken) (e f : typing.Refusal) → Tokens source p → Tokens source q → Becomes p (Err e) → Becomes q (Err f) →
    rule_line e.rule (line_of p e.token) e.token ≡ rule_line f.rule (line_of q f.token) f.token
one_line known source p q e f us ts x y =
    let both : Err e ≡ Err f = one_outcome known source p q (Err e) (Err f) us ts x y in
    let same : e ≡ f = cc in
    let spans : p ≡ q = known.lists source p q us ts in
    λ i. rule_line (same i).rule (line_of (spans i) (same i).token) (same i).token

one_told : Known → (source : List ℕ) (told : Program → List ℕ → List ℕ) (p q : List SpannedToken) (v w : Program) → Tokens source p → Tokens source q → Becomes p (Ok v) → Becomes q (Ok w) →
    told v (map (λ t. t.line) p) ≡ told w (map (λ t. t.line) q)
one_told known source told p q v w us ts a b =
    let both : Ok v ≡ Ok w = one_outcome known source p q (Ok v) (Ok w) us ts a b in
    let same : v ≡ w = cc in
    let spans : p ≡ q = known.lists source p q us ts in
    λ i. told (same i) (map (λ t. t.line) (spans i))

not_both_ways : Known → (source : List ℕ) (p q : List SpannedToken) (v : Program) (e : typing.Refusal) → Tokens source p → Tokens source q → Becomes p (Ok v) → Becomes q (Err e) → ⊥
not_both_ways known source p q v e us ts a b = let both : Ok v ≡ Err e = one_outcome known source p q (Ok v) (Err e) us ts a b in cc

pub one_cause : Known → (source x y : List ℕ) → IsNoProgram source x → IsNoProgram source y → SameLines source x y
one_cause known source _ _ (not_utf8 b at) (not_utf8 c also) = inl (ap not_utf8_line ((known.utf8 source b at).2 c also))
one_cause known source _ _ (not_utf8 b at) (refused g also) = absurd ((known.utf8 source b at).1 g also)
one_cause known source _ _ (not_utf8 b at) (syntax q l ts none is) = absurd ((known.utf8 source b at).0 q ts)
one_cause known source _ _ (not_utf8 b at) (broken q f ts y) = absurd ((known.utf8 source b at).0 q ts)
one_cause known source _ _ (refused f at) (not_utf8 c also) = absurd ((known.utf8 source c also).1 f at)
one_cause known source _ _ (refused f at) (refused g also) = inl (ap fault_line (known.one source f g at also))
one_cause known source _ _ (refused f at) (syntax q l ts none is) = absurd (known.tokens source q f ts at)
one_cause known source _ _ (refused f at) (broken q g ts y) = absurd (known.tokens source q f ts at)
one_cause known source _ _ (syntax p k us lacks at) (not_utf8 c also) = absurd ((known.utf8 source c also).0 p us)
one_cause known source _ _ (syntax p k us lacks at) (refused g also) = absurd (known.tokens source p g us also)
one_cause known source _ _ (syntax p k us lacks at) (syntax q l ts none is) =
    let e : q ≡ p = known.lists source q p ts us in
    inr (p, us, at, subst (λ (z : List SpannedToken). IsSyntaxLine z l) e is)
one_cause known source _ _ (syntax p k us lacks at) (broken q f ts y) = absurd (treeless known source p q (Err f) us ts lacks y)
one_cause known source _ _ (broken p e us x) (not_utf8 c also) = absurd ((known.utf8 source c also).0 p us)
one_cause known source _ _ (broken p e us x) (refused g also) = absurd (known.tokens source p g us also)
one_cause known source _ _ (broken p e us x) (syntax q l ts none is) = absurd (treeless known source q p (Err e) ts us none x)
one_cause known source _ _ (broken p e us x) (broken q f ts y) = inl (one_line known source p q e f us ts x y)

pub program_or_cause : Known → (source : List ℕ) (q : List SpannedToken) (w : Program) (x : List ℕ) → Tokens source q → Becomes q (Ok w) → IsNoProgram source x → ⊥
program_or_cause known source q w _ ts becomes (not_utf8 b at) = (known.utf8 source b at).0 q ts
program_or_cause known source q w _ ts becomes (refused f at) = known.tokens source q f ts at
program_or_cause known source q w _ ts becomes (syntax p k us lacks at) = treeless known source p q (Ok w) us ts lacks becomes
program_or_cause known source q w _ ts becomes (broken p e us x) = not_both_ways known source q p w e ts us becomes x

pub one_for : Known → (source : List ℕ) (told : Program → List ℕ → List ℕ) (s t : ℕ) (x y : List ℕ) → DueFor source told s x → DueFor source told t y → (s ≡ t) × SameLines source x y
one_for known source told _ _ _ _ (no_program k none) (no_program l also) = (refl, one_cause known source k l none also)
one_for known source told _ _ _ _ (no_program k none) (program q w ts becomes) = absurd (program_or_cause known source q w k ts becomes none)
one_for known source told _ _ _ _ (program p v us became) (no_program l also) = absurd (program_or_cause known source p v l us became also)
one_for known source told _ _ _ _ (program p v us became) (program q w ts becomes) = (refl, inl (one_told known source told p q v w us ts became becomes))

-- two programs in memory of one source have the same parts, on the same lines
pub one_program : Known → (source : List ℕ) (p q : memory.Program) → IsProgramOf source p → IsProgramOf source q → (program_of p ≡ program_of q) × (p.lines.items ≡ q.lines.items)
one_program known source p q a b =
    let both : Ok (program_of p) ≡ Ok (program_of q) = one_outcome known source a.spans b.spans (Ok (program_of p)) (Ok (program_of q)) a.read b.read a.becomes b.becomes in
    let spans : a.spans ≡ b.spans = known.lists source a.spans b.spans a.read b.read in
    (cc, a.lines ∙ ap (map (λ t. t.line)) spans ∙ sym b.lines)
