use Rattle.std.proofs.Common.{◌∙◌, map, ap, subst, sym, arith}
use Rattle.std.proofs.lemmas.List.{map-append}
use Rattle.wy_lexer.specs.Lexing.{IsCause}
use Rattle.wy_lexer.specs.Reading.{piece_seen}
use Rattle.wy_tree.specs.Bytes.{line_ends}
use Rattle.wy_tree.specs.Seen.{seen}
use Rattle.wy_tree.specs.Tokens.{spanned_token}
use Rattle.wy_lexer.proofs.Readings.{at_first, right_at, goes_between, goes_lexeme, shorter, over_blank, over_token, all_read, is_refused}
use Rattle.wy_lexer.proofs.lexer.tokens.Goals.{in-Between, in-Lexeme+in_ok-push-in-Lexeme}
use Rattle.wy_lexer.proofs.lexer.tokens.Goals as goal

pub loop-first-init : goal.loop-first-init
loop-first-init c = at_first _ _ (ap (map spanned_token) c.new-tokens.ensures.items)

pub returns-in-Fault-clause-cause : goal.returns-in-Fault-clause-cause
returns-in-Fault-clause-cause c =
    subst (IsCause c.args.text.now) (sym c.refusal.ensures)
    (is_refused _ _ _ _ _ _ _ (piece_seen c.in_ok-piece.field-0.piece) c.in_ok-piece.field-0.length c.loop-first.invariant c.requires.utf8 c.in-Some.ensures.cases.0 (ap piece_seen c.in-Fault.is)
    (right_at _ _ _ _ _ c.in-Some.ensures.cases.0 c.in_ok-piece.ensures.same))

pub loop-first-smaller : goal.loop-first-smaller
loop-first-smaller c = elim c.match-piece.branch [
  | in-Between w ↦ shorter _ _ _ _ (goes_between _ _ _ (ap piece_seen w.in-Between.is) (right_at _ _ _ _ _ c.in-Some.ensures.cases.0 c.in_ok-piece.ensures.same)) c.split_at.ensures.back
  | in-Lexeme+in_ok-push-in-Lexeme w ↦ shorter _ _ _ _ (goes_lexeme _ _ _ _ (ap piece_seen w.in-Lexeme.is) (right_at _ _ _ _ _ c.in-Some.ensures.cases.0 c.in_ok-piece.ensures.same)) c.split_at.ensures.back
]

pub loop-first-preserved : goal.loop-first-preserved
loop-first-preserved c = elim c.match-piece.branch [
  | in-Between w ↦ over_blank _ _ _ _ _ _ c.loop-first.invariant _ _ _ (goes_between _ _ _ (ap piece_seen w.in-Between.is) (right_at _ _ _ _ _ c.in-Some.ensures.cases.0 c.in_ok-piece.ensures.same))
      (ap (λ v. map spanned_token v.items) w.tokens-is) c.split_at.ensures.back (c.line_ends.ensures.same ∙ ap line_ends c.split_at.ensures.front) (omega (arith, c.line_ends.ensures.within, c.split_at.ensures.front_len))
  | in-Lexeme+in_ok-push-in-Lexeme w ↦ over_token _ _ _ _ _ _ c.loop-first.invariant _ _ _ (seen w.in-Lexeme.token) (goes_lexeme _ _ _ _ (ap piece_seen w.in-Lexeme.is) (right_at _ _ _ _ _ c.in-Some.ensures.cases.0 c.in_ok-piece.ensures.same))
      (ap (λ v. map spanned_token v.items) w.tokens-is ∙ ap (map spanned_token) w.in_ok-push-in-Lexeme.ensures.items ∙ map-append spanned_token _ _) c.split_at.ensures.back (c.line_ends.ensures.same ∙ ap line_ends c.split_at.ensures.front) (omega (arith, c.line_ends.ensures.within, c.split_at.ensures.front_len))
]

pub returns-clause-found : goal.returns-clause-found
returns-clause-found c = all_read _ _ _ _ _ c.loop-first.invariant c.requires.utf8 c.in_default.ensures.cases
