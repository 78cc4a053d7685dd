-- A certificate of a small program, line by line: `x = 2` at event 4, a test of x at 6, `y = x + 3` under it at 7, and a print
-- of y at 8, all in main's call, event 2.
use Rattle.std.proofs.Common.{◌≡◌, List, ℕ, [], ◌∷◌, ◌++◌, replicate, refl}
use Rattle.std.specs.Prelude.{codes}
use Rattle.std.specs.Fmt.{digits}
use Rattle.wy_why.specs.declared.source.Role.TheVariants.{Data, Control}
use Rattle.wy_why.specs.declared.source.Source.{Source}
use Rattle.wy_cert.specs.declared.certificate.Certificate.{Certificate}
use Rattle.wy_cert.specs.declared.certificate.Listed.{Listed}
use Rattle.wy_cert.specs.Spelling.{line_feed, spelled}

data_from : ℕ → Source
data_from n = record { event = n; role = Data }

controlled_by : ℕ → Source
controlled_by n = record { event = n; role = Control }

line : ℕ → List Source → Listed
line n sources = record { event = n; sources = sources }

-- with a seal of thirty-two bytes 0xaa
printed : Certificate
printed = record {
  hex = replicate 64 97;
  event = 8;
  listed = line 2 [] ∷ line 4 (controlled_by 2 ∷ []) ∷ line 6 (controlled_by 2 ∷ data_from 4 ∷ []) ∷ line 7 (data_from 4 ∷ controlled_by 6 ∷ []) ∷ line 8 (controlled_by 2 ∷ data_from 7 ∷ []) ∷ [];
}

printed_spelled : spelled printed ≡ codes "whycert 1 aaaaaaaaaaaaaaaaaaaaaaaaaaaaaaaaaaaaaaaaaaaaaaaaaaaaaaaaaaaaaaaa 8 5" ++ line_feed ∷ (codes "2" ++ line_feed ∷ (codes "4 c:2" ++ line_feed ∷
    (codes "6 c:2 d:4" ++ line_feed ∷ (codes "7 d:4 c:6" ++ line_feed ∷ (codes "8 c:2 d:7" ++ line_feed ∷ [])))))
unfolding printed line data_from controlled_by digits
printed_spelled = refl
