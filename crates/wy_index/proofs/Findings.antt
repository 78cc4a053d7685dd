-- What is found in one record more.
use Rattle.std.proofs.Common.{◌≡◌, ℕ, ◌+◌, List, [], ◌∷◌, ◌++◌, length, Option, Some, None, ◌≤◌, sym, ap, ap₂, ◌∙◌, subst, zero-add, ⊎_elim, arith}
use Rattle.std.specs.Prelude.{if◌then◌else◌, slice_get}
use Rattle.std.specs.BTreeMap.{get}
use Rattle.std.specs.Ordering.{nat_cmp}
use Rattle.std.proofs.lemmas.List.{map-append}
use Rattle.std.proofs.lemmas.Option.{slice_get_within}
use Rattle.wy_event.specs.Record.{Recorded}
use Rattle.wy_event.specs.Sources.{or_else}
use Rattle.wy_view.specs.References.{RefersBelow, OptionBelow}
use Rattle.wy_index.specs.declared.build.Findings.{Findings}
use Rattle.wy_index.specs.Found.{gathered, posting_of, made_by, print_of, is_call_of, is_init_of, hit_from, hit_at, hits_in, body_of, body_at, caller_in}
use Rattle.wy_index.specs.Kept.{kept_under}
use Rattle.wy_index.specs.Findings.{HasFound}
use Rattle.wy_index.proofs.Gathering.{slice_get_more, gathered_more, gathered_same, first_more, caller_kept, caller_found}

-- an option below a number is below a greater one
below_more : (m n : ℕ) (o : Option ℕ) → m ≤ n → OptionBelow m o → OptionBelow n o
below_more m n None le h = tt
below_more m n (Some k) le h = omega (arith, le, h)

gathered_at : {X : Type 0} (f : ℕ → Recorded → List X) (n : ℕ) (rs : List Recorded) (r : Recorded) → length rs ≡ n → gathered f 0 (rs ++ r ∷ []) ≡ gathered f 0 rs ++ f n r
gathered_at f n rs r is = gathered_more f 0 rs r ∙ ap (λ k. gathered f 0 rs ++ f k r) (zero-add (length rs) ∙ is)

hits_more : (n : ℕ) (rs : List Recorded) (r : Recorded) (site : ℕ) → length rs ≡ n → ((k : ℕ) (s : Recorded) → slice_get rs k ≡ Some s → RefersBelow k s) → RefersBelow n r
    → hits_in (rs ++ r ∷ []) site ≡ hits_in rs site ++ hit_from (caller_in rs r.frame) site n r
hits_more n rs r site is all refers =
    gathered_at (hit_at (rs ++ r ∷ []) site) n rs r is
    ∙ ap₂ (λ a b. a ++ hit_from b site n r)
    (gathered_same (hit_at (rs ++ r ∷ []) site) (hit_at rs site) 0 rs (λ k s at.
    ap (λ caller. hit_from caller site (0 + k) s) (caller_kept rs (r ∷ []) s.frame (below_more k (length rs) s.frame (omega (arith, slice_get_within rs k s at)) (all k s at).frame))))
    (caller_kept rs (r ∷ []) r.frame (subst (λ k. OptionBelow k r.frame) (sym is) refers.frame))

pub found_more : (old new : Findings) (rs : List Recorded) (r : Recorded) (n caller : ℕ) → HasFound old rs → length rs ≡ n → RefersBelow n r
    → new.writes.items ≡ old.writes.items ++ posting_of n r
    → new.made.items ≡ old.made.items ++ made_by r ∷ []
    → new.prints.items ≡ old.prints.items ++ print_of n r
    → ((q : ℕ) → get nat_cmp new.calls q ≡ or_else (get nat_cmp old.calls q) (if is_call_of q r then Some n else None))
    → ((q : ℕ) → get nat_cmp new.inits q ≡ or_else (get nat_cmp old.inits q) (if is_init_of q r then Some n else None))
    → caller ≡ body_at old.bodies.items r.frame
    → ((q : ℕ) → kept_under new.hits q ≡ kept_under old.hits q ++ hit_from caller q n r)
    → new.bodies.items ≡ old.bodies.items ++ body_of (Some r) ∷ []
    → HasFound new (rs ++ r ∷ [])
found_more old new rs r n caller found is refers writes made prints calls inits in_frame hits bodies = record {
  refer_below = λ k s at. ⊎_elim
      (λ before. found.refer_below k s before)
      (λ last. subst (λ m. RefersBelow m s) (sym (last.0 ∙ is)) (subst (RefersBelow n) last.1 refers))
      (slice_get_more rs r k s at);
  writes = writes ∙ ap (λ l. l ++ posting_of n r) found.writes ∙ sym (gathered_at posting_of n rs r is);
  made = made ∙ ap (λ l. l ++ made_by r ∷ []) found.made ∙ sym (map-append made_by rs (r ∷ []));
  prints = prints ∙ ap (λ l. l ++ print_of n r) found.prints ∙ sym (gathered_at print_of n rs r is);
  calls = λ q. calls q ∙ ap₂ (λ o k. or_else o (if is_call_of q r then Some k else None)) (found.calls q) (sym (zero-add (length rs) ∙ is)) ∙ sym (first_more (is_call_of q) 0 rs r);
  inits = λ q. inits q ∙ ap₂ (λ o k. or_else o (if is_init_of q r then Some k else None)) (found.inits q) (sym (zero-add (length rs) ∙ is)) ∙ sym (first_more (is_init_of q) 0 rs r);
  hits = λ q.
      let body : caller ≡ caller_in rs r.frame = in_frame ∙ ap (λ l. body_at l r.frame) found.bodies ∙ caller_found rs r.frame in
      hits q ∙ ap₂ (λ a b. a ++ hit_from b q n r) (found.hits q) body ∙ sym (hits_more n rs r q is found.refer_below refers);
  bodies = bodies ∙ ap (λ l. l ++ body_of (Some r) ∷ []) found.bodies ∙ sym (map-append (λ s. body_of (Some s)) rs (r ∷ []));
}
