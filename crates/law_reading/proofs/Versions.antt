-- The version that bytes have which begin with the magic of one.
use Rattle.std.proofs.Common.{◌≡◌, ℕ, zero, suc, ◌<◌, List, [], ◌∷◌, ◌++◌, take, refl, ap, ◌∙◌, arith}
use Rattle.std.specs.Prelude.{codes}
use Rattle.wy_event.specs.declared.record.Version.{Version}
use Rattle.wy_event.specs.declared.record.Version.TheVariants as version
use Rattle.wy_spelling.specs.Spelling.{magic}
use Rattle.wy_frames.specs.Heads.{agreeing, magic_length, version_of}

pub version_spelled : (v : Version) (rest : List ℕ) → version_of (magic v ++ rest) ≡ v
unfolding version_of agreeing
version_spelled version.One rest = refl
version_spelled version.Two rest = refl

-- the magics differ in their last byte alone
digit : Version → ℕ
digit version.One = 49
digit version.Two = 50

magic_parts : (v : Version) → magic v ≡ codes "WHYTRAC" ++ digit v ∷ []
unfolding digit
magic_parts version.One = refl
magic_parts version.Two = refl

seven_agree : (x y n : ℕ) → n < magic_length → agreeing (codes "WHYTRAC" ++ x ∷ []) (take n (codes "WHYTRAC" ++ y ∷ [])) ≡ n
unfolding agreeing
seven_agree x y zero less = refl
seven_agree x y (suc zero) less = refl
seven_agree x y (suc (suc zero)) less = refl
seven_agree x y (suc (suc (suc zero))) less = refl
seven_agree x y (suc (suc (suc (suc zero)))) less = refl
seven_agree x y (suc (suc (suc (suc (suc zero))))) less = refl
seven_agree x y (suc (suc (suc (suc (suc (suc zero)))))) less = refl
seven_agree x y (suc (suc (suc (suc (suc (suc (suc zero))))))) less = refl
seven_agree x y (suc (suc (suc (suc (suc (suc (suc (suc n)))))))) less = absurd (omega (arith, less))

-- what is cut within a magic agrees with both
pub cut_agrees : (v w : Version) (n : ℕ) → n < magic_length → agreeing (magic w) (take n (magic v)) ≡ n
cut_agrees v w n less = ap (λ (l : List ℕ). agreeing l (take n (magic v))) (magic_parts w) ∙ ap (λ (l : List ℕ). agreeing (codes "WHYTRAC" ++ digit w ∷ []) (take n l)) (magic_parts v) ∙ seven_agree (digit w) (digit v) n less
