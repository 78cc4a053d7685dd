use Rattle.std.proofs.Common.{sym, subst}
use Rattle.std.proofs.lemmas.Str.{IsUtf8-from_ascii}
use Rattle.std.specs.Str.{IsUtf8}
use Rattle.wy_lexer.proofs.piece.ascii.Goals as goal

pub unwrap-requires : goal.unwrap-requires
unwrap-requires c = c.from_utf8-text.ensures.succeeds (subst IsUtf8 (sym (c.in_ok-to_vec.ensures.items_if_clones_equal (λ x y e. e))) (IsUtf8-from_ascii _ c.requires))
