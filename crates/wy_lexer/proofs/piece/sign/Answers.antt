use Rattle.std.proofs.Common.{◌≡◌, sym, subst, arith, take, true}
use Rattle.wy_tree.specs.Words.{is_sign}
use Rattle.std.specs.Str.{IsAscii}
use Rattle.wy_lexer.proofs.Ascii.{sign_is_ascii}
use Rattle.wy_lexer.proofs.Signs.{sign_length_right}
use Rattle.wy_lexer.proofs.piece.sign.Goals as goal

pub ascii-requires : goal.ascii-requires
ascii-requires c = subst IsAscii (sym c.split_at.ensures.front) (sign_is_ascii (take c.sign_length-length.result c.args.text.now) (subst (λ n. is_sign (take n c.args.text.now) ≡ true) (sym c.sign_length-length.ensures.same) ((sign_length_right c.args.text.now).sign (omega arith))))
