-- The local that was written last, local by local.
use Rattle.std.proofs.Common.{◌≡◌, ◌∙◌, ℕ, ◌+◌, ◌<◌, ◌≤◌, List, length, drop, get_or, Option, Some, None, refl, sym, ap, cond, add-one, drop-cons, ⊎_elim, arith}
use Rattle.std.proofs.Math.ListN.{drop_of_length-le}
use Rattle.std.specs.Str.{bytes_eq}
use Rattle.std.proofs.lemmas.Bool.{cases_lt, le-ltb, lt-ltb}
use Rattle.wy_kernel.specs.Program.{Local}
use Rattle.wy_watch.specs.declared.names.Written.{Written}
use Rattle.wy_watch.specs.Sight.{Sight}
use Rattle.wy_watch.specs.Names.{last_named, later, write_if, write_of}

-- ---- the later of two

second : (a b : Written) → a.event < b.event → later (Some a) (Some b) ≡ Some b
second a b less = ap (λ t. cond t (Some b) (Some a)) (lt-ltb a.event b.event less)

first : (a b : Written) → b.event ≤ a.event → later (Some a) (Some b) ≡ Some a
first a b le = ap (λ t. cond t (Some b) (Some a)) (le-ltb a.event b.event le)

pub later_none : (a : Option Written) → later a None ≡ a
later_none (Some a) = refl
later_none None = refl

-- the later of a, b and c, where b is before c, and where it isn't
rising : (a b c : Written) → b.event < c.event → later (Some a) (Some c) ≡ later (later (Some a) (Some b)) (Some c)
rising a b c up = ⊎_elim
    (λ (less : a.event < b.event). second a c (omega (arith, less, up)) ∙ sym (ap (λ o. later o (Some c)) (second a b less) ∙ second b c up))
    (λ (le : b.event ≤ a.event). sym (ap (λ o. later o (Some c)) (first a b le)))
    (cases_lt a.event b.event)

falling : (a b c : Written) → c.event ≤ b.event → later (Some a) (Some b) ≡ later (later (Some a) (Some b)) (Some c)
falling a b c down = ⊎_elim
    (λ (less : a.event < b.event). second a b less ∙ sym (ap (λ o. later o (Some c)) (second a b less) ∙ first b c down))
    (λ (le : b.event ≤ a.event). first a b le ∙ sym (ap (λ o. later o (Some c)) (first a b le) ∙ first a c (omega (arith, le, down))))
    (cases_lt a.event b.event)

pub later_on : (a b c : Option Written) → later a (later b c) ≡ later (later a b) c
later_on None b c = refl
later_on (Some a) None None = refl
later_on (Some a) None (Some c) = refl
later_on (Some a) (Some b) None = sym (later_none (later (Some a) (Some b)))
later_on (Some a) (Some b) (Some c) = ⊎_elim
    (λ (less : b.event < c.event). ap (later (Some a)) (second b c less) ∙ rising a b c less)
    (λ (le : c.event ≤ b.event). ap (later (Some a)) (first b c le) ∙ falling a b c le)
    (cases_lt b.event c.event)

-- ---- local by local

module _ (s : Sight) (f : ℕ) (name : List ℕ) (all : List Local) (i : ℕ) (d : Local) where
  here : i < length all → last_named s f name i (drop i all)
      ≡ later (write_if (bytes_eq (get_or all i d).name name) (write_of s f i)) (last_named s f name (i + 1) (drop (i + 1) all))
  unfolding last_named
  here less =
      ap (last_named s f name i) (drop-cons all i d less)
      ∙ ap (λ j. later (write_if (bytes_eq (get_or all i d).name name) (write_of s f i)) (last_named s f name j (drop j all))) (sym (add-one i))

  -- what is behind it
  abbrev pub rest_of : Option Written
  rest_of = last_named s f name (i + 1) (drop (i + 1) all)

  pub one_more : (less : i < length all) (found whole : Option Written) → whole ≡ later found (last_named s f name i (drop i all))
      → (w : Option Written) → w ≡ write_if (bytes_eq (get_or all i d).name name) (write_of s f i) → whole ≡ later (later found w) rest_of
  one_more less found whole so_far w same = so_far ∙ ap (later found) (here less ∙ ap (λ o. later o rest_of) (sym same)) ∙ later_on found w rest_of

pub none_left : (s : Sight) (f : ℕ) (name : List ℕ) (all : List Local) (i : ℕ) (found whole : Option Written) → length all ≤ i
    → whole ≡ later found (last_named s f name i (drop i all)) → found ≡ whole
unfolding last_named
none_left s f name all i found whole done so_far =
    sym (so_far ∙ ap (λ l. later found (last_named s f name i l)) (drop_of_length-le all done) ∙ later_none found)
