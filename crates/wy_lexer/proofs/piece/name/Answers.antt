use Rattle.std.proofs.Common.{◌∙◌, sym, ap, subst, take}
use Rattle.std.specs.List.{prefix_len}
use Rattle.std.specs.Str.{IsAscii}
use Rattle.wy_tree.specs.Bytes.{goes_on_word}
use Rattle.wy_lexer.proofs.Ascii.{run_is_ascii}
use Rattle.wy_lexer.proofs.Fronts.{front_passes}
use Rattle.wy_lexer.proofs.piece.name.Goals as goal

pub ascii-requires : goal.ascii-requires
ascii-requires c = subst IsAscii (ap (λ n. take n c.args.text.now) (sym c.word_length-length.ensures.same) ∙ sym c.split_at.ensures.front) (run_is_ascii (take (prefix_len goes_on_word c.args.text.now) c.args.text.now) (front_passes goes_on_word c.args.text.now))

pub ascii-requires-else-is_key : goal.ascii-requires-else-is_key
ascii-requires-else-is_key c = subst IsAscii (ap (λ n. take n c.args.text.now) (sym c.word_length-length.ensures.same) ∙ sym c.split_at.ensures.front) (run_is_ascii (take (prefix_len goes_on_word c.args.text.now) c.args.text.now) (front_passes goes_on_word c.args.text.now))
