-- A text's tokens are found, and its fault is named, since it has at most one of them.
use Rattle.std.proofs.Common.{ℕ, ◌≡◌, ◌⊎◌, inl, inr, List, Result, Ok, Err, IfOk, IfErr, refl, ap}
use Rattle.wy_lexer.specs.declared.error.LexError.{LexError}
use Rattle.wy_lexer.specs.declared.error.LexError.TheVariants as errors
use Rattle.wy_lexer.specs.Lexing.{IsCause, refused, Finds, Fails}
use Rattle.wy_tree.specs.Tokens.{SpannedToken, Refusal, BadToken, BadLiteral, Tokens, Refuses, IsNotUtf8}
use Rattle.wy_tree.proofs.Once.{one_token_list, tokens_or_refusal, one_refusal, not_utf8_alone}

pub found_only : {X : Type 0} (view : X → List SpannedToken) (text : List ℕ) (spans : List SpannedToken) (r : Result X LexError) → IfOk r (λ v. Tokens text (view v)) → IfErr r (λ e. IsCause text e) → Tokens text spans → Finds view spans r
found_only view text spans (Ok v) f g t = one_token_list text (view v) spans f t
found_only view text spans (Err (errors.NotUtf8 byte)) f g t = absurd ((not_utf8_alone text byte g).0 spans t)
found_only view text spans (Err (errors.BadToken byte)) f g t = absurd (tokens_or_refusal text spans (BadToken byte) t g)
found_only view text spans (Err (errors.BadLiteral byte)) f g t = absurd (tokens_or_refusal text spans (BadLiteral byte) t g)
found_only view text spans (Err errors.NoMemory) f g t = refl

pub failed_only : {X : Type 0} (view : X → List SpannedToken) (text : List ℕ) (fault : Refusal) (r : Result X LexError) → IfOk r (λ v. Tokens text (view v)) → IfErr r (λ e. IsCause text e) → Refuses text fault → Fails (refused fault) r
failed_only view text fault (Ok v) f g t = tokens_or_refusal text (view v) fault f t
failed_only view text fault (Err (errors.NotUtf8 byte)) f g t = absurd ((not_utf8_alone text byte g).1 fault t)
failed_only view text fault (Err (errors.BadToken byte)) f g t = inl (ap refused (one_refusal text (BadToken byte) fault g t))
failed_only view text fault (Err (errors.BadLiteral byte)) f g t = inl (ap refused (one_refusal text (BadLiteral byte) fault g t))
failed_only view text fault (Err errors.NoMemory) f g t = inr refl

pub not_utf8_only : (text : List ℕ) (byte other : ℕ) → IsNotUtf8 text byte → IsNotUtf8 text other → (errors.NotUtf8 byte ≡ errors.NotUtf8 other) ⊎ (errors.NotUtf8 byte ≡ errors.NoMemory)
not_utf8_only text byte other f g = inl (ap errors.NotUtf8 ((not_utf8_alone text byte f).2 other g))
