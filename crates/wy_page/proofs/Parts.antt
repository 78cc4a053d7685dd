-- A part of a file by other words for the same.
use Rattle.std.proofs.Common.{◌≡◌, ℕ, List, Option, Result, subst}
use Rattle.std.specs.Prelude.{Vec}
use Rattle.std.specs.declared.alloc.Global.{Global}
use Rattle.wy_outside.specs.Shelf.{Files, ReadsPart}
use Rattle.wy_outside.specs.declared.shelf.ShelfError.{ShelfError}

pub same_part : (held : Option Files) (name other : List ℕ) (from at len size : ℕ) (r : Result (Vec ℕ Global) ShelfError) → name ≡ other → from ≡ at → len ≡ size → ReadsPart held name from len r → ReadsPart held other at size r
same_part held name other from at len size r p q s read = subst (λ (n : List ℕ). ReadsPart held n at size r) p (subst (λ (k : ℕ). ReadsPart held name k size r) q (subst (λ (k : ℕ). ReadsPart held name from k r) s read))
