-- Blocks stay apart: where nothing is made, and where a block is put behind all values and units.
use Rattle.std.proofs.Common.{◌≡◌, ◌≢◌, ◌<◌, ◌≤◌, ◌+◌, ◌^◌, ℕ, Bool, true, false, List, length, refl, sym, ap, ◌∙◌, subst, arith, nat_eq, set, get_or-set_same, get_or-set_other}
use Rattle.std.specs.Prelude.{Option}
use Rattle.std.proofs.lemmas.Bool.{eq-eqb, eqb-true}
use Rattle.wy_value.specs.declared.value.Value.{Value}
use Rattle.wy_heap.specs.declared.block.Block.{Block}
use Rattle.wy_heap.specs.declared.block.Block.TheVariants.{Nothing, Object, Array, Text}
use Rattle.wy_heap.specs.declared.layout.Row.{Row}
use Rattle.wy_heap.specs.Plan.{Plan, fields_of}
use Rattle.wy_heap.specs.Layout.{is_known}
use Rattle.wy_heap.specs.Block.{AreApart, AreFirst, Covers, block_at, begin_of, length_of}

-- rows that were worked out still are
pub record StayKnown (old new : List (Option Row)) : Type 0 where
  pub each : (c : ℕ) → is_known old c ≡ true → is_known new c ≡ true

-- a block that begins behind so many values, or units, and ends with as many as there are then
pub record IsBehind (p : Plan) (rows : List (Option Row)) (b : Block) (values more_values more_units : ℕ) : Type 0 where
  pub from : (q : ℕ) → Covers b q → values ≤ q
  pub below : (q : ℕ) → Covers b q → q < more_values
  pub known : (c g l : ℕ) → b ≡ Object c g l → is_known rows c ≡ true
  pub lengths : (c g l : ℕ) → b ≡ Object c g l → l ≡ length (fields_of p c)
  pub codes : (c g l : ℕ) → b ≡ Object c g l → c + 16 < 2 ^ 32
  pub texts : (g l : ℕ) → b ≡ Text g l → g + l ≤ more_units

-- the blocks of all numbers but one are as before
pub record AreOthers (n : ℕ) (old new : List Block) : Type 0 where
  pub each : (m : ℕ) → m ≢ n → block_at new m ≡ block_at old m

pub same_apart : (p p' : Plan) (rows rows' : List (Option Row)) (blocks blocks' : List Block) (values units : ℕ) → AreApart p rows blocks values units → p' ≡ p → StayKnown rows rows' → ((n : ℕ) → block_at blocks' n ≡ block_at blocks n) → AreApart p' rows' blocks' values units
same_apart p p' rows rows' blocks blocks' values units a plan known same = record {
  inside = λ n q c. a.inside n q (was n q c);
  apart = λ m n q c d. a.apart m n q (was m q c) (was n q d);
  known = λ n c b l e. known.each c (a.known n c b l (sym (same n) ∙ e));
  lengths = λ n c b l e. a.lengths n c b l (sym (same n) ∙ e) ∙ ap (λ x. length (fields_of x c)) (sym plan);
  codes = λ n c b l e. a.codes n c b l (sym (same n) ∙ e);
  texts = λ n b l e. a.texts n b l (sym (same n) ∙ e);
}
  where
    was : (n q : ℕ) → Covers (block_at blocks' n) q → Covers (block_at blocks n) q
    was n q c = subst (λ (b : Block). Covers b q) (same n) c

-- the number is this one or another
by_number : {X : Type 0} (n m : ℕ) → (m ≡ n → X) → (m ≢ n → X) → X
by_number {X = X} n m here other = by (nat_eq m n) (eqb-true m n) (eq-eqb m n)
  where
    by : (t : Bool) → (t ≡ true → m ≡ n) → (m ≡ n → t ≡ true) → X
    by true same back = here (same refl)
    by false same back = other (λ e. let no : false ≡ true = back e in absurd (cc no))

pub one_more_apart : (p p' : Plan) (rows rows' : List (Option Row)) (blocks blocks' : List Block) (values values' units units' n : ℕ) (b : Block) → AreApart p rows blocks values units → p' ≡ p → StayKnown rows rows' → AreOthers n blocks blocks' → block_at blocks' n ≡ b → values ≤ values' → units ≤ units' → IsBehind p rows' b values values' units' → AreApart p' rows' blocks' values' units'
one_more_apart p p' rows rows' blocks blocks' values values' units units' n b a plan known others is more more_units behind = record {
  inside = inside;
  apart = apart;
  known = λ m c g l e. by_number n m (λ here. behind.known c g l (sym (now m here) ∙ e)) (λ other. known.each c (a.known m c g l (sym (others.each m other) ∙ e)));
  lengths = λ m c g l e. by_number n m (λ here. behind.lengths c g l (sym (now m here) ∙ e)) (λ other. a.lengths m c g l (sym (others.each m other) ∙ e)) ∙ ap (λ x. length (fields_of x c)) (sym plan);
  codes = λ m c g l e. by_number n m (λ here. behind.codes c g l (sym (now m here) ∙ e)) (λ other. a.codes m c g l (sym (others.each m other) ∙ e));
  texts = λ m g l e. by_number n m (λ here. behind.texts g l (sym (now m here) ∙ e)) (λ other. let h : g + l ≤ units = a.texts m g l (sym (others.each m other) ∙ e) in omega arith);
}
  where
    now : (m : ℕ) → m ≡ n → block_at blocks' m ≡ b
    now m here = ap (block_at blocks') here ∙ is

    new : (m q : ℕ) → m ≡ n → Covers (block_at blocks' m) q → Covers b q
    new m q here c = subst (λ (x : Block). Covers x q) (now m here) c

    old : (m q : ℕ) → m ≢ n → Covers (block_at blocks' m) q → Covers (block_at blocks m) q
    old m q other c = subst (λ (x : Block). Covers x q) (others.each m other) c

    inside : (m q : ℕ) → Covers (block_at blocks' m) q → q < values'
    inside m q c = by_number n m (λ here. behind.below q (new m q here c)) (λ other. let h : q < values = a.inside m q (old m q other c) in omega arith)

    never : (k m q : ℕ) → k ≡ n → m ≢ n → Covers (block_at blocks' k) q → Covers (block_at blocks' m) q → ⊥
    never k m q here other c d =
        let h : values ≤ q = behind.from q (new k q here c) in
        let l : q < values = a.inside m q (old m q other d) in
        omega arith

    apart : (k m q : ℕ) → Covers (block_at blocks' k) q → Covers (block_at blocks' m) q → k ≡ m
    apart k m q c d = by_number n k
        (λ here. by_number n m (λ there. here ∙ sym there) (λ other. absurd (never k m q here other c d)))
        (λ other. by_number n m (λ there. absurd (never m k q there other d c)) (λ other'. a.apart k m q (old k q other c) (old m q other' d)))

pub same_first : (p p' : Plan) (begun : List Bool) (statics : List Value) → AreFirst p begun statics → p' ≡ p → AreFirst p' begun statics
same_first p p' begun statics a e = subst (λ (x : Plan). AreFirst x begun statics) (sym e) a

-- ---- the blocks that are made

pub array_behind : (p : Plan) (rows : List (Option Row)) (k n values more units : ℕ) → more ≡ values + n → IsBehind p rows (Array k values n) values more units
unfolding begin_of length_of
array_behind p rows k n values more units e = record {
  from = λ q c. c.from;
  below = λ q c. omega (arith, c.below);
  known = λ c g l e. absurd (cc e);
  lengths = λ c g l e. absurd (cc e);
  codes = λ c g l e. absurd (cc e);
  texts = λ g l e. absurd (cc e);
}

pub text_behind : (p : Plan) (rows : List (Option Row)) (n values units more : ℕ) → more ≡ units + n → IsBehind p rows (Text units n) values values more
unfolding begin_of length_of
text_behind p rows n values units more e = record {
  from = λ q c. absurd (omega (arith, c.below));
  below = λ q c. absurd (omega (arith, c.below));
  known = λ c g l e. absurd (cc e);
  lengths = λ c g l e. absurd (cc e);
  codes = λ c g l e. absurd (cc e);
  texts = λ g l same. let h : (units ≡ g) × (n ≡ l) = (cc same, cc same) in omega (arith, h.0, h.1);
}

pub object_behind : (p : Plan) (rows : List (Option Row)) (c n values more units : ℕ) → more ≡ values + n → is_known rows c ≡ true → n ≡ length (fields_of p c) → c + 16 < 2 ^ 32 → IsBehind p rows (Object c values n) values more units
unfolding begin_of length_of
object_behind p rows c n values more units e known many code = record {
  from = λ q d. d.from;
  below = λ q d. omega (arith, d.below);
  known = λ d g l same. let h : c ≡ d = cc same in ap (is_known rows) (sym h) ∙ known;
  lengths = λ d g l same. let h : c ≡ d = cc same in let k : n ≡ l = cc same in sym k ∙ many ∙ ap (λ x. length (fields_of p x)) h;
  codes = λ d g l same. let h : c ≡ d = cc same in omega arith;
  texts = λ g l same. absurd (cc same);
}

-- ---- a block in its place

pub block_there : (blocks : List Block) (n : ℕ) (a b : Block) → n < length blocks → a ≡ b → block_at (set blocks n a) n ≡ b
block_there blocks n a b inside e = get_or-set_same blocks n a Nothing inside ∙ e

pub set_others : (blocks blocks' : List Block) (n : ℕ) (b : Block) → ((m : ℕ) → block_at blocks' m ≡ block_at blocks m) → AreOthers n blocks (set blocks' n b)
set_others blocks blocks' n b same = record { each = λ m other. get_or-set_other blocks' n m b Nothing other ∙ same m }
