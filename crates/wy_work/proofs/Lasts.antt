-- The last values on the stack.
use Rattle.std.proofs.Common.{◌≡◌, ◌∙◌, ℕ, zero, suc, List, [], ◌∷◌, ◌++◌, map, refl, ap, sym}
use Rattle.wy_operands.specs.Values.{Values, top, under, at, last_many}
use Rattle.wy_operation.specs.declared.operand.Part.{Part}
use Rattle.wy_operation.specs.Operands.{carried}
use Rattle.wy_work.proofs.Single.{carried_is}

pub last_many_next : (k : ℕ) (vs : Values) → last_many (suc k) vs ≡ at k vs ∷ last_many k vs
last_many_next zero vs = refl
last_many_next (suc k) vs = ap (λ rest. rest ++ top vs ∷ []) (last_many_next k (under vs))

-- a row that grows by the next of them
grown : (items : List Part) (part : Part) (rest : Values) → map carried (items ++ part ∷ []) ++ rest ≡ map carried items ++ carried part ∷ rest
grown [] part rest = refl
grown (x ∷ xs) part rest = ap (λ all. carried x ∷ all) (grown xs part rest)

pub grows : (items new : List Part) (part : Part) (left k : ℕ) (vs all : Values) → left ≡ suc k → new ≡ items ++ part ∷ [] → part.value ≡ (at k vs).value → part.uses.now ≡ (at k vs).uses → map carried items ++ last_many left vs ≡ all → map carried new ++ last_many k vs ≡ all
grows items new part left k vs all is pushed l u before =
    ap (λ row. map carried row ++ last_many k vs) pushed ∙ grown items part (last_many k vs)
    ∙ ap (λ c. map carried items ++ c ∷ last_many k vs) (sym (carried_is (at k vs) part.value part.uses.now l u))
    ∙ ap (λ row. map carried items ++ row) (sym (last_many_next k vs)) ∙ sym (ap (λ n. map carried items ++ last_many n vs) is) ∙ before
