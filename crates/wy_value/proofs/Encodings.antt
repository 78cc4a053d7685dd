-- The characters of a text, from its first units.
use Rattle.std.proofs.Common.{◌≡◌, ℕ, Bool, true, false, List, [], ◌∷◌, map, Some, None, refl, sym, ap, ◌∙◌}
use Rattle.std.specs.Prelude.{unwrap_or, cond, ◌&&◌}
use Rattle.std.specs.Char.Utf16.{utf16_chars, is_high_surrogate, is_low_surrogate, surrogate_pair_char, lone_unit_char}
use Rattle.wy_value.specs.Encoding.{pair_of, code_points, utf8_of}

pub code_points-nil : code_points [] ≡ []
unfolding utf16_chars
code_points-nil = refl

found_pair : (u v c : ℕ) (rest : List ℕ) (t : Bool) → cond t (Some (surrogate_pair_char u v)) None ≡ Some c → map (λ found. unwrap_or found 63) (cond t (Some (surrogate_pair_char u v) ∷ utf16_chars rest) (lone_unit_char u ∷ utf16_chars (v ∷ rest))) ≡ c ∷ code_points rest
found_pair u v c rest true e = let same : surrogate_pair_char u v ≡ c = cc in ap (λ x. x ∷ code_points rest) same
found_pair u v c rest false e = cc

pub code_points_pair : (u v c : ℕ) (us rest : List ℕ) → us ≡ v ∷ rest → pair_of u v ≡ Some c → code_points (u ∷ us) ≡ c ∷ code_points rest
unfolding utf16_chars
code_points_pair u v c us rest are e = ap (λ xs. code_points (u ∷ xs)) are ∙ found_pair u v c rest (is_high_surrogate u && is_low_surrogate v) e

no_pair : (u v : ℕ) (rest : List ℕ) (t : Bool) → cond t (Some (surrogate_pair_char u v)) None ≡ None → map (λ found. unwrap_or found 63) (cond t (Some (surrogate_pair_char u v) ∷ utf16_chars rest) (lone_unit_char u ∷ utf16_chars (v ∷ rest))) ≡ unwrap_or (lone_unit_char u) 63 ∷ code_points (v ∷ rest)
no_pair u v rest true e = cc
no_pair u v rest false e = refl

pub code_points_alone : (u v : ℕ) (us rest : List ℕ) → us ≡ v ∷ rest → pair_of u v ≡ None → code_points (u ∷ us) ≡ unwrap_or (lone_unit_char u) 63 ∷ code_points us
unfolding utf16_chars
code_points_alone u v us rest are e =
    ap (λ xs. code_points (u ∷ xs)) are ∙ no_pair u v rest (is_high_surrogate u && is_low_surrogate v) e
    ∙ ap (λ xs. unwrap_or (lone_unit_char u) 63 ∷ code_points xs) (sym are)

pub code_points_last : (u : ℕ) (us : List ℕ) → us ≡ [] → code_points (u ∷ us) ≡ unwrap_or (lone_unit_char u) 63 ∷ code_points us
unfolding utf16_chars
code_points_last u us none = ap (λ xs. code_points (u ∷ xs)) none ∙ ap (λ xs. unwrap_or (lone_unit_char u) 63 ∷ code_points xs) (sym none)

pub utf8_of-nil : utf8_of [] ≡ []
unfolding utf16_chars
utf8_of-nil = refl
