-- The bodies of a class, member by member.
use Rattle.std.proofs.Common.{◌≡◌, ℕ, ◌≤◌, Bool, refl, sym, ◌∙◌, ap, subst, List, [], ◌++◌, length, Option, Result, Ok, Err, arith}
use Rattle.std.specs.List.{All}
use Rattle.wy_kernel.specs.declared.types.Ty.{Ty}
use Rattle.wy_kernel.specs.Form as kernel
use Rattle.wy_kernel.specs.Program.{Program}
use Rattle.wy_kernel.specs.Table.{BeginsWith, ConstantValue}
use Rattle.wy_constant.specs.Refusal.{Refusal}
use Rattle.wy_constant.specs.Scope.{FixedText}
use Rattle.wy_elab_expr.specs.Operators.{Judgement}
use Rattle.wy_elab_expr.specs.Meaning.{Gets, onward}
use Rattle.wy_elab_expr.specs.Meaning as meaning
use Rattle.wy_elab_body.specs.declared.place.Place.{Place}
use Rattle.wy_elab_body.specs.Making.{Making, Makes, resumed, rejoined, with_texts}
use Rattle.wy_elab_body.specs.Bodies.{Growing}
use Rattle.wy_elab_stmt.specs.Classes.{grown}
use Rattle.wy_typing.specs.Programs.{IsTypeIn}
use Rattle.law_typed.specs.StatementsTyped.{Makes as MakesProgram, types}
use Rattle.law_typed.specs.Bodies.{this_of}
use Rattle.law_typed.proofs.Steps as steps
use Rattle.law_typed.proofs.Steps.{Sure}
use Rattle.law_typed.proofs.Constructing.{all_joined}
use Rattle.law_typed.proofs.Initializing as initializing
use Rattle.law_typed.proofs.Blocking.{grown_at_end}

-- what was found last, and what was found before it
pub found_on : {A B : Type 0} (k : A → Gets B) (r : Result (A × List FixedText) Refusal) (z : B × List FixedText) → onward k r ≡ Ok z → (q : A × List FixedText) × (r ≡ Ok q) × (k q.0 q.1 ≡ Ok z)
found_on k (Ok q) z e = (q, refl, e)
found_on k (Err x) z e = absurd (cc)

pub one_found : {A : Type 0} (a b : A × List FixedText) (r : Result (A × List FixedText) Refusal) → r ≡ Ok a → r ≡ Ok b → a ≡ b
one_found a b r e f = cc

joined_again : {A : Type 0} (r : Result (A × Making) Refusal) (q : (A × Making) × List FixedText) → rejoined r ≡ Ok q → (r ≡ Ok q.0) × (q.1 ≡ q.0.1.texts)
joined_again (Ok p) q e = let is = one_found (p, p.1.texts) q _ refl e in (ap (λ (x : _ × List FixedText). Ok x.0) is, sym (ap (λ (x : _ × List FixedText). x.1) is) ∙ ap (λ (x : _ × List FixedText). x.0.1.texts) is)
joined_again (Err x) q e = absurd (cc)

-- a body that goes on
pub resumed_on : {A : Type 0} (m : Making) (f : Makes A) (texts : List FixedText) (q : (A × Making) × List FixedText) → resumed m f texts ≡ Ok q → (f (with_texts m texts) ≡ Ok q.0) × (q.1 ≡ q.0.1.texts)
unfolding resumed
resumed_on m f texts q e = joined_again (f (with_texts m texts)) q e

module _ (p : Program) (constants : List (Option ConstantValue)) (j : Judgement) (all : List Place) (c : ℕ) (made : MakesProgram p constants j all) where
  abbrev n : ℕ
  n = length p.fixed_texts

  abbrev AllSo : Bool → List Ty → List kernel.Statement → Type 0
  AllSo b L xs = initializing.AllSo p constants j all L c b made xs

  -- a body so far, when there are so many texts
  pub record GrowingFits (b : Bool) (g : Growing) (many : ℕ) : Type 0 where
    pub inv : (L : List Ty) → steps.Inv p constants j L c b g.making
    pub begins : BeginsWith (types g.making.locals) (this_of b c)
    pub parts : (L : List Ty) → BeginsWith L (types g.making.locals) → All (IsTypeIn p) L → many ≤ n → AllSo b L g.parts

  with_texts_inv : (b : Bool) (L : List Ty) (m : Making) (texts : List FixedText) → steps.Inv p constants j L c b m → steps.Inv p constants j L c b (with_texts m texts)
  with_texts_inv b L m texts i = record { variables = i.variables; own = i.own; next = i.next; known = i.known; of_class = i.of_class; with_this = i.with_this }

  pub later : (b : Bool) (g : Growing) (few many : ℕ) → few ≤ many → GrowingFits b g few → GrowingFits b g many
  later b g few many le h = record { inv = h.inv; begins = h.begins; parts = λ L front known lt. h.parts L front known (omega (arith, le, lt)) }

  made_later : (b : Bool) (g : Growing) (f : Makes (List kernel.Statement)) (texts : List FixedText) (xs : List kernel.Statement) (m : Making) → ((L : List Ty) → Sure p constants j L c b Unit (λ y. Unit {0}) Unit (AllSo b L) f) → GrowingFits b g (length texts) →
      f (with_texts g.making texts) ≡ Ok (xs, m) → GrowingFits b (record { making = m; parts = g.parts ++ xs }) (length m.texts) × length texts ≤ length m.texts
  made_later b g f texts xs m h i e =
      let start : (L : List Ty) → steps.Inv p constants j L c b (with_texts g.making texts) = λ L. with_texts_inv b L g.making texts (i.inv L) in
      let grown_texts = grown_at_end p constants j c b (AllSo b) f (with_texts g.making texts) m xs h start e in
      let kept : (L : List Ty) → steps.After p constants j L c b (λ y. Unit {0}) (with_texts g.making texts) (Ok (xs, m)) = λ L. (let P : Result (List kernel.Statement × Making) Refusal → Type 0 = λ r. steps.After p constants j L c b (λ y. Unit {0}) (with_texts g.making texts) r in subst P e ((h L).keeps tt (with_texts g.making texts) (start L))) in
      let new : (L : List Ty) → BeginsWith L (types m.locals) → All (IsTypeIn p) L → length m.texts ≤ n → AllSo b L xs = λ L front known lt. (let P : Result (List kernel.Statement × Making) Refusal → Type 0 = λ r. steps.HasAt p constants j L c b (AllSo b L) r in subst P e ((h L).finds tt tt (with_texts g.making texts) (start L)) (record { front = front; known = known }) lt) in (
        record {
          inv = λ L. (kept L).0;
          begins = steps.begins_again (this_of b c) (types g.making.locals) (types m.locals) i.begins (kept []).1;
          parts = λ L front known lt. all_joined _ g.parts xs (i.parts L (steps.begins_again (types g.making.locals) (types m.locals) L (kept L).1 front) known (omega (arith, grown_texts, lt))) (new L front known lt);
        },
        grown_texts,
      )

  -- what is made goes behind what stands in a body so far
  pub grown_fits : (b : Bool) (g next : Growing) (f : Makes (List kernel.Statement)) (texts after : List FixedText) → ((L : List Ty) → Sure p constants j L c b Unit (λ y. Unit {0}) Unit (AllSo b L) f) → GrowingFits b g (length texts) →
      grown g f texts ≡ Ok (next, after) → GrowingFits b next (length after) × length texts ≤ length after
  grown_fits b g next f texts after h i e =
      let a = found_on (λ q. meaning.give (record { making = q.1; parts = g.parts ++ q.0 })) (resumed g.making f texts) (next, after) e in
      let d = resumed_on g.making f texts a.0 a.1 in
      let k = made_later b g f texts a.0.0.0 a.0.0.1 h i d.0 in
      let same = one_found (record { making = a.0.0.1; parts = g.parts ++ a.0.0.0 }, a.0.1) (next, after) _ refl a.2 in
      let P : Growing × List FixedText → Type 0 = λ z. GrowingFits b z.0 (length z.1) × length texts ≤ length z.1 in
      let Q : List FixedText → Type 0 = λ t. GrowingFits b (record { making = a.0.0.1; parts = g.parts ++ a.0.0.0 }) (length t) × length texts ≤ length t in
      subst P same (subst Q (sym d.1) k)
