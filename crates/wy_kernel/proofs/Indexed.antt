-- The item at an index of a mapped list, and an option that was borrowed.
use Rattle.std.proofs.Common.{◌≡◌, ℕ, zero, suc, ◌<◌, List, [], ◌∷◌, length, slice_get, refl, sym, ◌∙◌, ap, get_or, arith}
use Rattle.std.specs.Prelude.{map, slice_index_or, option_map, Option, Some, None}
use Rattle.std.specs.Borrow.{Bor}
use Rattle.std.specs.Option.{option_copied}
use Rattle.std.proofs.lemmas.Option.{slice_get-map, slice_get-get_or}
use Rattle.wy_kernel.specs.declared.form.Body.{Body}
use Rattle.wy_kernel.specs.declared.form.Const.{Const}
use Rattle.wy_kernel.specs.View.{body_of}
use Rattle.wy_kernel.specs.Table.{ConstantValue, constant_value}

pub indexed : {X Y : Type 0} (f : X → Y) (xs : List X) (n : ℕ) (d : Y) (x : X) → n < length xs → x ≡ get_or xs n x → f x ≡ slice_index_or (map f xs) n d
indexed f [] n d x within e = absurd (omega arith)
indexed f (y ∷ ys) zero d x within e = ap f e
indexed f (y ∷ ys) (suc n) d x within e = indexed f ys n d x (omega arith) e

-- what a borrowed option says is what the option says
pub seen_through : (o : Option (Bor Body)) → option_map (λ (b : Bor Body). body_of b.now) o ≡ option_map body_of (option_copied o)
seen_through None = refl
seen_through (Some b) = refl

pub mapped : {X Y : Type 0} (f : X → Y) (xs : List X) (n : ℕ) (x : X) → n < length xs → x ≡ get_or xs n x → slice_get (map f xs) n ≡ Some (f x)
mapped f xs n x within e = slice_get-map f xs n ∙ ap (option_map f) (slice_get-get_or xs n x within ∙ ap Some (sym e))

pub constant_seen : (o : Option (Bor Const)) → option_map (λ (c : Bor Const). constant_value c.now) o ≡ option_map constant_value (option_copied o)
constant_seen None = refl
constant_seen (Some c) = refl

pub beside : {X : Type 0} {x y : X} {xs ys : List X} → x ≡ y → xs ≡ ys → x ∷ xs ≡ y ∷ ys
beside {y} {xs} e f = ap (λ z. z ∷ xs) e ∙ ap (λ zs. y ∷ zs) f
