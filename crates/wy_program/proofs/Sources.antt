-- What is due for a source, by how it is read.
use Rattle.std.proofs.Common.{◌≡◌, ◌∙◌, sym, ap, subst, refl, ℕ, suc, ◌+◌, ◌≤◌, List, [], ◌∷◌, length, map, arith, Result, Ok, Err, IfOk}
use Rattle.std.specs.Prelude.{IfErr}
use Rattle.wy_kernel.specs.declared.program.Program as memory
use Rattle.wy_kernel.specs.Parts.{program_of}
use Rattle.wy_constant.specs.declared.rule.Rule.{Rule}
use Rattle.wy_constant.specs.Refusal.{refused}
use Rattle.wy_tree.specs.Ast.{Ast, view}
use Rattle.wy_tree.specs.Lines.{line_of}
use Rattle.wy_tree.specs.Tokens.{SpannedToken, spanned_token, Tokens}
use Rattle.wy_tree.specs.TokenLaws.{InOrder, TokensInOrder}
use Rattle.wy_tree.specs.declared.token.Spanned.{Spanned}
use Rattle.wy_tree.specs.declared.tree.Tree.{Tree}
use Rattle.wy_parser.specs.Symbols.{spanned_seen}
use Rattle.wy_parser.specs.Causes.{AllowsSyntax}
use Rattle.wy_tree.specs.Seen.{Tok}
use Rattle.wy_tree.specs.Trees.{HasNoTree, IsTreeOf}
use Rattle.wy_syntax.specs.Declarations.{unit}
use Rattle.wy_elab_stmt.specs.Elaborates.{Elaborates}
use Rattle.wy_program.specs.declared.typed.TypedProgram.{TypedProgram}
use Rattle.wy_program.specs.Texts.{Reads}
use Rattle.wy_program.specs.declared.source.SourceError.{SourceError}
use Rattle.wy_program.specs.declared.source.SourceError.TheVariants.{Refused, NoMemory}
use Rattle.wy_constant.specs.declared.source_refusal.SourceRefusal.TheVariants.{NoTokens, NoTree, Broken}
use Rattle.wy_program.specs.Programs.{HasTree, IsProgramOf, unplaced}
use Rattle.wy_kernel.specs.Limits.{source_limit}
use Rattle.wy_program.specs.Sources.{IsCauseOf, IsTypedAs, LacksTree, LacksTypes}

-- tokens in order are at most as many as the bytes
few : (place line size : ℕ) (spans : List SpannedToken) → place ≤ size → InOrder place line size spans → place + length spans ≤ size
few place line size [] le o = omega arith
few place line size (t ∷ spans) le o =
    let i : t.end + length spans ≤ size = few t.end t.line size spans o.2 o.4 in
    let after = o.0 in
    let some = o.1 in
    omega arith

pub few_tokens : TokensInOrder → (source : List ℕ) (spans : List SpannedToken) → Tokens source spans → length spans ≤ length source
few_tokens ordered source spans ts = let i = few 0 1 (length source) spans (omega arith) (ordered source spans ts) in omega arith

pub unplaced_placed : (ts : List Spanned) → unplaced (map spanned_token ts) ≡ map spanned_seen ts
unplaced_placed [] = refl
unplaced_placed (t ∷ ts) = ap (λ z. spanned_seen t ∷ z) (unplaced_placed ts)

pub length_placed : (ts : List Spanned) → length (map spanned_token ts) ≡ length ts
length_placed [] = refl
length_placed (t ∷ ts) = ap suc (length_placed ts)

pub few_items : TokensInOrder → (source : List ℕ) (ts : List Spanned) → length source ≤ source_limit → Tokens source (map spanned_token ts) → length ts ≤ source_limit
few_items ordered source ts short read = let i = few_tokens ordered source (map spanned_token ts) read in let e = length_placed ts in omega arith

no_tree : (ts : List Spanned) → HasNoTree (map spanned_seen ts) → ¬ HasTree (unplaced (map spanned_token ts))
no_tree ts none (t, w, is) = none t (w, is ∙ unplaced_placed ts)

-- the tokens of a tree that was found
pub has_tree : (t : Tree) (ts : List Spanned) → IsTreeOf (map spanned_seen ts) (view t) → IsTreeOf (unplaced (map spanned_token ts)) (view t)
has_tree t ts (w, is) = (w, is ∙ sym (unplaced_placed ts))

pub lacks_tree : (ts : List Spanned) (line token : ℕ) → HasNoTree (map spanned_seen ts) → AllowsSyntax (map spanned_seen ts) token → line ≡ line_of (map spanned_token ts) token → LacksTree (map spanned_token ts) (Refused (NoTree line token))
lacks_tree ts line token none allowed is = (no_tree ts none, subst (λ (z : List Tok). AllowsSyntax z token) (sym (unplaced_placed ts)) allowed, is)

lines_placed : (ts : List Spanned) → map (λ (t : SpannedToken). t.line) (map spanned_token ts) ≡ map (λ (t : Spanned). t.line) ts
lines_placed [] = refl
lines_placed (t ∷ ts) = ap (λ z. t.line ∷ z) (lines_placed ts)

-- what a tree becomes, by the number of its tokens
pub typed_as : (ts : List Spanned) (t : Ast) (p : memory.Program) → Elaborates (unit 0 t) (length ts) (Ok (program_of p)) → p.lines.items ≡ map (λ (s : Spanned). s.line) ts → IsTypedAs (map spanned_token ts) t p
typed_as ts t p made lines =
    (subst (λ n. Elaborates (unit 0 t) n (Ok (program_of p))) (sym (length_placed ts)) made, lines ∙ sym (lines_placed ts))

pub lacks_types : (ts : List Spanned) (t : Ast) (rule : Rule) (line token : ℕ) → Elaborates (unit 0 t) (length ts) (Err (refused rule token)) → line ≡ line_of (map spanned_token ts) token →
    LacksTypes (map spanned_token ts) t (Refused (Broken rule line token))
lacks_types ts t rule line token made is = (subst (λ n. Elaborates (unit 0 t) n (Err (refused rule token))) (sym (length_placed ts)) made, is)

-- ---- the whole way

syntax_cause : (source : List ℕ) (ts : List Spanned) (e : SourceError) → Tokens source (map spanned_token ts) → LacksTree (map spanned_token ts) e → IsCauseOf source e
syntax_cause source ts (Refused (NoTokens fault byte)) read lacks = absurd lacks
syntax_cause source ts (Refused (NoTree line token)) read (none, allowed, is) = record { spans = map spanned_token ts; read = read; none = none; allowed = allowed; at = is }
syntax_cause source ts (Refused (Broken rule line token)) read lacks = absurd lacks
syntax_cause source ts NoMemory read lacks = tt

pub syntax_passes : (source : List ℕ) (ts slice : List Spanned) (e f : SourceError) → f ≡ e → slice ≡ ts → Tokens source (map spanned_token ts) → LacksTree (map spanned_token slice) e → IsCauseOf source f
syntax_passes source ts slice e f same is read lacks =
    subst (IsCauseOf source) (sym same) (syntax_cause source ts e read (subst (λ (z : List Spanned). LacksTree (map spanned_token z) e) is lacks))

types_cause : (source : List ℕ) (ts : List Spanned) (t : Ast) (e : SourceError) → Tokens source (map spanned_token ts) → IsTreeOf (unplaced (map spanned_token ts)) t → LacksTypes (map spanned_token ts) t e → IsCauseOf source e
types_cause source ts t (Refused (NoTokens fault byte)) read reads lacks = absurd lacks
types_cause source ts t (Refused (NoTree line token)) read reads lacks = absurd lacks
types_cause source ts t (Refused (Broken rule line token)) read reads (made, is) = (map spanned_token ts, read, record { tree = t; reads = reads; elaborated = made }, is)
types_cause source ts t NoMemory read reads lacks = tt

pub types_pass : (source : List ℕ) (ts first second : List Spanned) (t : Ast) (e : SourceError) → first ≡ ts → second ≡ ts → Tokens source (map spanned_token ts) → IsTreeOf (unplaced (map spanned_token first)) t →
    LacksTypes (map spanned_token second) t e → IsCauseOf source e
types_pass source ts first second t e is same read reads lacks =
    types_cause source ts t e read (subst (λ (z : List Spanned). IsTreeOf (unplaced (map spanned_token z)) t) is reads) (subst (λ (z : List Spanned). LacksTypes (map spanned_token z) t e) same lacks)

pub program_read : (source : List ℕ) (ts first second : List Spanned) (t : Ast) (p : memory.Program) → first ≡ ts → second ≡ ts → Tokens source (map spanned_token ts) → IsTreeOf (unplaced (map spanned_token first)) t →
    IsTypedAs (map spanned_token second) t p → IsProgramOf source p
program_read source ts first second t p is same read reads typed =
    let there : IsTypedAs (map spanned_token ts) t p = subst (λ (z : List Spanned). IsTypedAs (map spanned_token z) t p) same typed in
    record {
      spans = map spanned_token ts;
      read = read;
      becomes = record { tree = t; reads = subst (λ (z : List Spanned). IsTreeOf (unplaced (map spanned_token z)) t) is reads; elaborated = there.0 };
      lines = there.1;
    }

-- the tree of a text's tokens
pub is_read : (source : List ℕ) (ts first second : List Spanned) (t : Ast) → first ≡ ts → second ≡ ts → Tokens source (map spanned_token ts) → IsTreeOf (unplaced (map spanned_token first)) t → Reads (map spanned_token second) t
is_read source ts first second t is same read reads =
    subst (λ (z : List Spanned). Reads (map spanned_token z) t) (sym same) (record { text = source; tokens = read; reads = subst (λ (z : List Spanned). IsTreeOf (unplaced (map spanned_token z)) t) is reads })

pub program_goes_on : (source : List ℕ) (ts first second : List Spanned) (t : Ast) (r : Result TypedProgram SourceError) → first ≡ ts → second ≡ ts → Tokens source (map spanned_token ts) →
    IsTreeOf (unplaced (map spanned_token first)) t → IfOk r (λ p. IsTypedAs (map spanned_token second) t p.program) → IfOk r (λ p. IsProgramOf source p.program)
program_goes_on source ts first second t (Ok p) is same read reads typed = program_read source ts first second t p.program is same read reads typed
program_goes_on source ts first second t (Err e) is same read reads typed = tt

pub types_go_on : (source : List ℕ) (ts first second : List Spanned) (t : Ast) (r : Result TypedProgram SourceError) → first ≡ ts → second ≡ ts → Tokens source (map spanned_token ts) →
    IsTreeOf (unplaced (map spanned_token first)) t → IfErr r (λ e. LacksTypes (map spanned_token second) t e) → IfErr r (λ e. IsCauseOf source e)
types_go_on source ts first second t (Ok p) is same read reads lacks = tt
types_go_on source ts first second t (Err e) is same read reads lacks = types_pass source ts first second t e is same read reads lacks
