-- The tokens in memory, and the facts that a program of theirs keeps.
use Rattle.std.proofs.Common.{◌≡◌, ◌∙◌, sym, ap, subst, refl, arith, ℕ, suc, ◌<◌, ◌≤◌, List, [], ◌∷◌, length, map, Ok}
use Rattle.std.proofs.lemmas.List.{length-map}
use Rattle.wy_tree.specs.Ast.{Ast, tokens}
use Rattle.wy_tree.specs.Seen.{seen}
use Rattle.wy_tree.specs.Tokens.{SpannedToken, spanned_token}
use Rattle.wy_tree.specs.declared.token.Spanned.{Spanned}
use Rattle.wy_kernel.specs.Program.{Program}
use Rattle.wy_syntax.specs.Declarations.{unit}
use Rattle.wy_elab_stmt.specs.Elaborates.{Elaborates}
use Rattle.wy_typing.specs.Programs.{IsProgram}
use Rattle.wy_program.specs.Texts.{Reads}
use Rattle.wy_program.specs.Laws.{TextsArePrograms}
use Rattle.wy_program.proofs.Programs.{DeclaresFew, few_parts}
use Rattle.law_sites.specs.Laws.{SitesAreTokens}
use Rattle.wy_typing.specs.Sites.{HasSites}
use Rattle.law_program_parts.specs.TableLaws.{TreesDeclareFew}

unplaced : (ts : List Spanned) → map (λ (s : SpannedToken). s.token) (map spanned_token ts) ≡ map (λ (s : Spanned). seen s.token) ts
unplaced [] = refl
unplaced (t ∷ ts) = ap (λ z. seen t.token ∷ z) (unplaced ts)

as_many : (ts : List Spanned) → length (map spanned_token ts) ≡ length ts
as_many [] = refl
as_many (t ∷ ts) = ap suc (as_many ts)

pub leaves : (ts : List Spanned) (tree : Ast) → Reads (map spanned_token ts) tree → tokens tree ≡ map (λ (s : Spanned). seen s.token) ts
leaves ts tree r = r.reads.1 ∙ unplaced ts

pub fits : TextsArePrograms → (ts : List Spanned) (tree : Ast) (p : Program) → length ts ≤ 1048576 → Reads (map spanned_token ts) tree → Elaborates (unit 0 tree) (length ts) (Ok p) → ∥ IsProgram p ∥₁
fits law ts tree p few r h = ∣ law r.text (map spanned_token ts) tree r.tokens r.reads (subst (λ n. n ≤ 1048576) (sym (as_many ts)) few) (length ts) p h ∣₁

-- each token has a line
lines_of : (ts : List Spanned) (lines : List ℕ) → lines ≡ map (λ (s : Spanned). s.line) ts → length lines ≡ length ts
lines_of ts lines e = ap length e ∙ length-map ts (λ (s : Spanned). s.line)

leaves_of : (ts : List Spanned) (tree : Ast) → Reads (map spanned_token ts) tree → length (tokens tree) ≡ length ts
leaves_of ts tree r = ap length (leaves ts tree r) ∙ length-map ts (λ (s : Spanned). seen s.token)

pub stands : SitesAreTokens → (ts : List Spanned) (tree : Ast) (p : Program) (lines : List ℕ) → Reads (map spanned_token ts) tree → lines ≡ map (λ (s : Spanned). s.line) ts → Elaborates (unit 0 tree) (length ts) (Ok p) → ∥ HasSites (length lines) p ∥₁
stands law ts tree p lines r e h = ∣ subst (λ n. HasSites n p) (leaves_of ts tree r ∙ sym (lines_of ts lines e)) (law tree r.reads.0 (length ts) p h) ∣₁

-- what the program declares, by the tokens
pub declares : TreesDeclareFew → (ts : List Spanned) (tree : Ast) (p : Program) → length ts ≤ 1048576 → Reads (map spanned_token ts) tree → Elaborates (unit 0 tree) (length ts) (Ok p) → DeclaresFew p
declares law ts tree p few r h = few_parts (unit 0 tree) (length ts) p h (law tree r.reads.0 (subst (λ n. n ≤ 1048576) (sym (leaves_of ts tree r)) few))

pub few_lines : (ts : List Spanned) (lines : List ℕ) → lines ≡ map (λ (s : Spanned). s.line) ts → length ts ≤ 1048576 → length lines ≤ 1048576
few_lines ts lines e few = subst (λ n. n ≤ 1048576) (sym (lines_of ts lines e)) few

-- as many in memory
pub counted : {X Y : Type 0} (f : X → Y) (xs : List X) (most : ℕ) → length (map f xs) ≤ most → most < 4294967296 → length xs < 4294967296
counted f xs most h less = let same = length-map xs f in omega (arith, same)
