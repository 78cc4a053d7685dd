-- One more local of a frame.
use Rattle.std.proofs.Common.{add-one, ◌≡◌, ◌∙◌, ◌+◌, ℕ, zero, suc, Bool, cond, List, [], ◌∷◌, ◌++◌, Option, Some, refl, sym, ap, arith}
use Rattle.std.proofs.lemmas.List.{map-append}
use Rattle.std.proofs.lemmas.List.Elements.{All-append, All-cons, All-nil, filter-append}
use Rattle.std.specs.Prelude.{None as Absent}
use Rattle.std.specs.Prelude.{All, IfSome, filter, is_some, map, option_map, option_to_list}
use Rattle.std.specs.List.{range_with_len}
use Rattle.wy_kernel.specs.Program.{Program}
use Rattle.wy_value.specs.declared.value.Value.{Value}
use Rattle.wy_event.specs.declared.record.Slot.TheVariants.{Local}
use Rattle.wy_event.specs.Record.{Recorded}
use Rattle.wy_event.specs.Sources.{last_write}
use Rattle.wy_steps.specs.Steps.{owner_in}
use Rattle.wy_view.specs.References.{ValueBelow}
use Rattle.wy_travel.specs.Held.{given_at, held}
use Rattle.wy_travel.specs.Locals.{is_written, written_among}

range_more : (low len : ℕ) → range_with_len low (suc len) ≡ range_with_len low len ++ (low + len) ∷ []
range_more low zero = ap (λ n. n ∷ []) (let same : low ≡ low + 0 = omega arith in same)
range_more low (suc len) = ap (λ l. low ∷ l) (range_more (low + 1) len ∙ ap (λ n. range_with_len (low + 1) len ++ n ∷ []) (let same : (low + 1) + len ≡ low + suc len = omega arith in same))

pub none_among : (p : Program) (rs : List Recorded) (f m : ℕ) → [] ≡ written_among p rs f m 0
unfolding written_among
none_among p rs f m = refl

-- what the locals hold refers to earlier events
pub below_more : (m n : ℕ) (found : Option Value) (before : List (ℕ × Value)) → All (λ (l : ℕ × Value). ValueBelow m l.1) before → IfSome found (λ v. ValueBelow m v)
    → All (λ (l : ℕ × Value). ValueBelow m l.1) (before ++ option_to_list (option_map (λ v. (n, v)) found))
below_more m n found before below one = All-append (λ (l : ℕ × Value). ValueBelow m l.1) before (option_to_list (option_map (λ v. (n, v)) found)) below (go found one)
  where
    go : (o : Option Value) → IfSome o (λ v. ValueBelow m v) → All (λ (l : ℕ × Value). ValueBelow m l.1) (option_to_list (option_map (λ v. (n, v)) o))
    go Absent h = All-nil (λ (l : ℕ × Value). ValueBelow m l.1)
    go (Some v) h = All-cons (λ (l : ℕ × Value). ValueBelow m l.1) (n, v) [] h (All-nil (λ (l : ℕ × Value). ValueBelow m l.1))

-- local n stands behind those before it, if it was written
pub one_more : (p : Program) (rs : List Recorded) (f m n : ℕ) (found : Option Value)
    → found ≡ option_map (λ k. given_at p rs (Local f n) (Some k)) (last_write (owner_in p) rs (Local f n) m)
    → written_among p rs f m n ++ option_to_list (option_map (λ v. (n, v)) found) ≡ written_among p rs f m (n + 1)
unfolding written_among is_written held
one_more p rs f m n found is =
    ap (λ o. written_among p rs f m n ++ option_to_list (option_map (λ v. (n, v)) o)) is
    ∙ ap (λ l. written_among p rs f m n ++ l) (go (last_write (owner_in p) rs (Local f n) m) refl)
    ∙ sym (map-append entry (filter written (range_with_len 0 n)) (filter written (n ∷ [])))
    ∙ ap (map entry) (sym (filter-append written (range_with_len 0 n) (n ∷ [])))
    ∙ ap (λ l. map entry (filter written l)) (sym (range_more 0 n ∙ ap (λ k. range_with_len 0 n ++ k ∷ []) (let same : 0 + n ≡ n = omega arith in same)))
    ∙ ap (written_among p rs f m) (sym (add-one n))
  where
    entry : ℕ → ℕ × Value
    entry i = (i, held p rs (Local f i) m)

    written : ℕ → Bool
    written = is_written p rs f m

    go : (w : Option ℕ) → last_write (owner_in p) rs (Local f n) m ≡ w
        → option_to_list (option_map (λ v. (n, v)) (option_map (λ k. given_at p rs (Local f n) (Some k)) w)) ≡ map entry (filter written (n ∷ []))
    go Absent at = ap (λ b. map entry (cond b (n ∷ []) [])) (sym (ap is_some at))
    go (Some k) at = ap (λ w. (n, given_at p rs (Local f n) w) ∷ []) (sym at) ∙ ap (λ b. map entry (cond b (n ∷ []) [])) (sym (ap is_some at))
