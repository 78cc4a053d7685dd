-- The words of a statement are walked one after another.
use Rattle.std.proofs.Common.{◌≡◌, ◌∙◌, ℕ, ◌+◌, ◌<◌, ◌≤◌, length, true, false, ◌||◌, List, [], ◌∷◌, drop, ap, arith}
use Rattle.std.specs.Borrow.{Bor}
use Rattle.std.proofs.lemmas.List.{drop-drop, drop_all, length-drop}
use Rattle.wy_explain.specs.Rows.{Text, begin_so, stand_so}
use Rattle.wy_explain.specs.Views.{words_of}

-- signs are left, and no word
pub no_word_left : (words signs : List (Bor Text)) (k : ℕ) → length words ≤ k → k < length signs → begin_so (words_of (drop k words)) (words_of (drop k signs)) ≡ false
no_word_left words signs k end more = go (drop k words) (drop k signs) (drop_all k words end) (omega (arith, length-drop k signs))
  where
    go : (ws ss : List (Bor Text)) → ws ≡ [] → 0 < length ss → begin_so (words_of ws) (words_of ss) ≡ false
    go ws [] none some = absurd (omega arith)
    go ws (s ∷ ss) none some = ap (λ x. begin_so (words_of x) (words_of (s ∷ ss))) none

-- what does not begin here stands further on, if it does
pub further_on : (words signs : List (Bor Text)) (k : ℕ) → k < length words → begin_so (words_of (drop k words)) (words_of signs) ≡ false
    → stand_so (words_of (drop k words)) (words_of signs) ≡ stand_so (words_of (drop (k + 1) words)) (words_of signs)
further_on words signs k less differs =
    go (drop k words) (omega (arith, length-drop k words)) differs ∙ ap (λ ws. stand_so (words_of ws) (words_of signs)) (drop-drop 1 k words)
  where
    go : (ws : List (Bor Text)) → 0 < length ws → begin_so (words_of ws) (words_of signs) ≡ false
        → stand_so (words_of ws) (words_of signs) ≡ stand_so (words_of (drop 1 ws)) (words_of signs)
    go [] some differs = absurd (omega arith)
    go (w ∷ ws) some differs = ap (λ b. b || stand_so (words_of ws) (words_of signs)) differs

-- at the end only what is nothing stands
pub none_left : (words signs : List (Bor Text)) (k : ℕ) → length words ≤ k → stand_so (words_of (drop k words)) (words_of signs) ≡ begin_so [] (words_of signs)
none_left words signs k end = ap (λ ws. stand_so (words_of ws) (words_of signs)) (drop_all k words end)

-- what begins here stands here
pub begins_here : (words signs : List (Bor Text)) (k : ℕ) → k < length words → begin_so (words_of (drop k words)) (words_of signs) ≡ true
    → stand_so (words_of (drop k words)) (words_of signs) ≡ true
begins_here words signs k less begins = go (drop k words) (omega (arith, length-drop k words)) begins
  where
    go : (ws : List (Bor Text)) → 0 < length ws → begin_so (words_of ws) (words_of signs) ≡ true → stand_so (words_of ws) (words_of signs) ≡ true
    go [] some begins = absurd (omega arith)
    go (w ∷ ws) some begins = ap (λ b. b || stand_so (words_of ws) (words_of signs)) begins
