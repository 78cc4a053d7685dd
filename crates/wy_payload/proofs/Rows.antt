-- Reading rows one after another, as a loop does.
use Rattle.std.proofs.Common.{◌≡◌, ℕ, suc, ◌-◌, ◌+◌, ◌≤◌, ◌<◌, List, [], ◌∷◌, ◌++◌, Ok, Err, refl, sym, ap, ◌∙◌, append_assoc, arith}
use Rattle.std.proofs.lemmas.List.{append-nil}
use Rattle.wy_payload.specs.declared.fault.Fault.{Fault}
use Rattle.wy_payload.specs.declared.fault.Fault.TheVariants as fault
use Rattle.wy_payload.specs.Reading.{◌>>=◌, Read, Fails, rows_from}

-- what was read before, and what is still read
abbrev pub with_front : {X : Type 0} → List X → Read (List X) → Read (List X)
with_front front read = read >>= λ x. Ok (front ++ x.0, x.1)

module _ {X : Type 0} (read : List ℕ → Read X) where
  regroup : (front : List X) (x : X) (others : Read (List X)) → with_front front (others >>= λ o. Ok (x ∷ o.0, o.1)) ≡ with_front (front ++ x ∷ []) others
  regroup front x (Ok o) = ap (λ (xs : List X). Ok (xs, o.1)) (simp append_assoc)
  regroup front x (Err r) = refl

  pub goes_on : (front : List X) (count i : ℕ) (bytes : List ℕ) (x : X) (after : List ℕ) (total : Read (List X)) → i < count → read bytes ≡ Ok (x, after)
      → with_front front (rows_from read (count - i) bytes) ≡ total → with_front (front ++ x ∷ []) (rows_from read (count - (i + 1)) after) ≡ total
  unfolding rows_from
  goes_on front count i bytes x after total lt h so_far =
      let k : count - i ≡ suc (count - (i + 1)) = omega arith in
      let one : with_front front (rows_from read (count - i) bytes) ≡ with_front (front ++ x ∷ []) (rows_from read (count - (i + 1)) after) = rw (k, h) (regroup front x (rows_from read (count - (i + 1)) after)) in
      sym one ∙ so_far

  pub ends : (e : Fault) (front : List X) (count i : ℕ) (bytes : List ℕ) (total : Read (List X)) → i < count → Fails e (read bytes)
      → with_front front (rows_from read (count - i) bytes) ≡ total → Fails e total
  unfolding rows_from
  ends fault.NoMemory front count i bytes total lt h so_far = tt
  ends (fault.Broken r) front count i bytes total lt h so_far =
      let k : count - i ≡ suc (count - (i + 1)) = omega arith in
      let one : with_front front (rows_from read (count - i) bytes) ≡ Err r = rw (k, h) refl in
      sym so_far ∙ one

  pub is_done : (front : List X) (count i : ℕ) (bytes : List ℕ) (total : Read (List X)) → count ≤ i → with_front front (rows_from read (count - i) bytes) ≡ total → total ≡ Ok (front, bytes)
  unfolding rows_from
  is_done front count i bytes total le so_far =
      let k : count - i ≡ 0 = omega arith in
      let one : with_front front (rows_from read (count - i) bytes) ≡ Ok (front, bytes) = rw k (ap (λ (xs : List X). Ok (xs, bytes)) (append-nil front)) in
      sym so_far ∙ one
