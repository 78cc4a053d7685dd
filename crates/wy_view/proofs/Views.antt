-- One call of a view after another.
use Rattle.std.proofs.Common.{◌≡◌, ◌+◌, ◌<◌, ◌≤◌, ℕ, Option, Some, None, inl, inr, ⊎_elim, sym, refl, subst, arith, ◌∙◌}
use Rattle.std.specs.Prelude.{option_map}
use Rattle.std.proofs.lemmas.Bool.{cases_lt}
use Rattle.wy_view.specs.declared.view.ViewError.{ViewError}
use Rattle.wy_view.specs.declared.view.ViewError.TheVariants.{ReadFault, Gone, Changed, NoMemory}
use Rattle.wy_view.specs.Counts.{last_count, count_after, Rose, RoseAtMost}
use Rattle.wy_view.specs.View.{Told, Keeps, RefusedFor}

pub keeps_itself : (a : Told) → Keeps a a
keeps_itself a = record { records = refl; count = refl; faults = omega arith; misses = omega arith; changes = omega arith; lender = refl }

pub keeps_on : (a b c : Told) → Keeps a b → Keeps b c → Keeps a c
keeps_on a b c first second = record {
  records = second.records ∙ first.records;
  count = second.count ∙ first.count;
  faults = omega arith;
  misses = omega arith;
  changes = omega arith;
  lender = second.lender ∙ first.lender;
}

-- ---- counts

-- a count that rose at the end rose from the start
pub rose_since : (a b c : ℕ) → a ≤ b → b ≤ c → Rose b c → Rose a c
rose_since a b c first second (inl lt) = inl (omega arith)
rose_since a b c first second (inr last) = ⊎_elim (λ (lt : a < last_count). inl (omega (arith, lt, last))) (λ (ge : last_count ≤ a). inr (omega (arith, ge, last))) (cases_lt a last_count)

-- ---- reads

pub no_reads : (a : Option ℕ) → RoseAtMost 0 a a
no_reads None = tt
no_reads (Some n) = omega arith

pub one_read : (a b : Option ℕ) → b ≡ option_map (λ n. count_after n 1) a → RoseAtMost 1 a b
one_read None b is = subst (RoseAtMost 1 None) (sym is) tt
one_read (Some n) b is = subst (RoseAtMost 1 (Some n)) (sym is) (omega arith)

pub more_reads : (m n : ℕ) (a b c : Option ℕ) → RoseAtMost m a b → RoseAtMost n b c → RoseAtMost (m + n) a c
more_reads m n None None None first second = tt
more_reads m n None None (Some c) first second = absurd second
more_reads m n None (Some b) c first second = absurd first
more_reads m n (Some a) None c first second = absurd first
more_reads m n (Some a) (Some b) None first second = absurd second
more_reads m n (Some a) (Some b) (Some c) first second = omega (arith, first, second)

pub at_most : (m n : ℕ) (a b : Option ℕ) → m ≤ n → RoseAtMost m a b → RoseAtMost n a b
at_most m n None None le h = tt
at_most m n None (Some b) le h = absurd h
at_most m n (Some a) None le h = absurd h
at_most m n (Some a) (Some b) le h = omega (arith, le, h)

-- ---- answers

-- a refusal after calls that went well
pub refused_since : (e : ViewError) (a b c : Told) → Keeps a b → b.faults ≡ a.faults → Keeps b c → RefusedFor e b c → RefusedFor e a c
refused_since ReadFault a b c first same second h = rose_since a.faults b.faults c.faults first.faults second.faults h
refused_since Gone a b c first same second h = (rose_since a.misses b.misses c.misses first.misses second.misses h.0, h.1 ∙ same, sym first.records ∙ h.2)
refused_since (Changed block kept found) a b c first same second h = (rose_since a.changes b.changes c.changes first.changes second.changes h.0, h.1, h.2 ∙ same, sym first.records ∙ h.3)
refused_since NoMemory a b c first same second h = h ∙ same
