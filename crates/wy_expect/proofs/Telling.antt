-- What is said of statements that never ran.
use Rattle.std.proofs.Common.{◌≡◌, ◌∙◌, ◌<◌, ◌+◌, ℕ, List, [], ◌∷◌, ◌++◌, ap, get_or, length, refl, sym, subst, take}
use Rattle.std.proofs.lemmas.List.{append_assoc, append-nil, take_more}
use Rattle.wy_kernel.specs.Program.{Program}
use Rattle.wy_event.specs.declared.record.Cover.{Cover}
use Rattle.wy_event.specs.Record.{Recorded}
use Rattle.wy_ask.specs.declared.never.PlacedStatement.{PlacedStatement}
use Rattle.wy_telling.specs.Items.{items_text}
use Rattle.wy_telling.specs.Questions.{never_line}
use Rattle.wy_whynot.specs.Evidence.{Evidence}
use Rattle.wy_whynot.specs.Items.{AreItems}
use Rattle.wy_expect.specs.Texts.{NeverPrinted}

module _ (p : Program) (lines : List ℕ) (rs : List Recorded) (covers : List Cover) where
  -- the words that ask why a statement never ran, and the answer
  abbrev pub told : PlacedStatement → List Evidence → List ℕ
  told s items = never_line s.statement.line s.place ++ items_text p lines items

  -- one statement more
  one_more : (ss : List PlacedStatement) (text : List ℕ) (s : PlacedStatement) (items : List Evidence) → NeverPrinted p lines rs covers ss text → AreItems p rs covers s.statement.number items
      → NeverPrinted p lines rs covers (ss ++ s ∷ []) (text ++ told s items)
  one_more [] text s items so_far are = (items, [], are, refl, ap (λ xs. xs ++ told s items) so_far ∙ sym (append-nil (told s items)))
  one_more (t ∷ ss) text s items (found, rest, are_found, later, is) are =
      (found, rest ++ told s items, are_found, one_more ss rest s items later are, ap (λ xs. xs ++ told s items) is ∙ append_assoc (told t found) rest (told s items))

  pub turn : (ss : List PlacedStatement) (i : ℕ) (d : PlacedStatement) (old new : List ℕ) → i < length ss → NeverPrinted p lines rs covers (take i ss) old
      → ((items : List Evidence) × AreItems p rs covers (get_or ss i d).statement.number items × (new ≡ old ++ told (get_or ss i d) items))
      → NeverPrinted p lines rs covers (take (i + 1) ss) new
  turn ss i d old new lt so_far (items, are, is) =
      subst (λ all. NeverPrinted p lines rs covers all new) (sym (take_more ss i d lt))
      (subst (NeverPrinted p lines rs covers (take i ss ++ get_or ss i d ∷ [])) (sym is) (one_more (take i ss) old (get_or ss i d) items so_far are))
