-- Arguments one after another.
use Rattle.std.proofs.Common.{◌≡◌, ◌∙◌, ap, sym, ℕ, ◌+◌, ◌<◌, ◌≤◌, Bool, List, [], ◌∷◌, ◌++◌, length, map, drop, get_or, reverse, refl, true, false, if◌then◌else◌, Result, Ok, Err, add-one, drop-cons}
use Rattle.std.proofs.Math.ListN.{drop_of_length-le}
use Rattle.std.proofs.lemmas.List.{map-append, length-map, reverse-append, reverse-reverse}
use Rattle.wy_kernel.specs.declared.form.Expr.{Expr}
use Rattle.wy_kernel.specs.declared.types.Ty.{Ty}
use Rattle.wy_kernel.specs.Form.{Expression, Row, none, more}
use Rattle.wy_kernel.specs.View.{expression, row_of}
use Rattle.wy_constant.specs.declared.rule.Rule.TheVariants.{BadOperand}
use Rattle.wy_constant.specs.declared.rule.TypeError.{TypeError}
use Rattle.wy_constant.specs.declared.rule.TypeError.TheVariants as error
use Rattle.wy_constant.specs.Refusal.{Refusal, Fails, refused}
use Rattle.wy_constant.specs.Scope.{FixedText}
use Rattle.wy_elab_expr.specs.declared.meaning.Meaning as memory
use Rattle.wy_elab_expr.specs.Meaning.{Meaning, type_of, give, refuse, ◌>>=◌, onward, brought}
use Rattle.wy_elab_expr.specs.Elaboration.{is_index, sizes_of}
use Rattle.wy_elab_expr.specs.Members.{brought_all, int_type, types_of}
use Rattle.wy_elab_expr.specs.Views.{behind, in_front, meaning_of, size_of}

pub types_seen : (ms : List memory.Meaning) → types_of (map meaning_of ms) ≡ map (λ m. type_of (meaning_of m)) ms
types_seen [] = refl
types_seen (m ∷ ms) = ap (λ z. type_of (meaning_of m) ∷ z) (types_seen ms)

pub row_in_front : (front : List Expression) → in_front front none ≡ row_of front
row_in_front [] = refl
row_in_front (e ∷ front) = ap (λ z. more e z) (row_in_front front)

pub one_more : (front : List Expression) (e : Expression) (rest : Row) → in_front front (more e rest) ≡ in_front (front ++ e ∷ []) rest
one_more [] e rest = refl
one_more (f ∷ front) e rest = ap (λ z. more f z) (one_more front e rest)

-- what was given behind some forms, given behind one form more
along : (front : List Expression) (e : Expression) (r : Result (Row × List FixedText) Refusal) →
    behind front (onward (λ es texts. Ok (more e es, texts)) r) ≡ behind (front ++ e ∷ []) r
along front e (Ok p) = ap (λ z. Ok (z, p.1)) (one_more front e p.0)
along front e (Err f) = refl

pub goes : (front : List Expression) (p : Ty) (ps : List Ty) (m : Meaning) (ms : List Meaning) (e : Expression) (texts after : List FixedText) →
    brought p m texts ≡ Ok (e, after) → behind front (brought_all (p ∷ ps) (m ∷ ms) texts) ≡ behind (front ++ e ∷ []) (brought_all ps ms after)
unfolding brought_all
goes front p ps m ms e texts after is =
    ap (λ r. behind front (onward (λ x after'. onward (λ es t. Ok (more x es, t)) (brought_all ps ms after')) r)) is
    ∙ along front e (brought_all ps ms after)

pub fails : (front : List Expression) (p : Ty) (ps : List Ty) (m : Meaning) (ms : List Meaning) (f : Refusal) (texts : List FixedText) →
    brought p m texts ≡ Err f → behind front (brought_all (p ∷ ps) (m ∷ ms) texts) ≡ Err f
unfolding brought_all
fails front p ps m ms f texts is =
    ap (λ r. behind front (onward (λ x after'. onward (λ es t. Ok (more x es, t)) (brought_all ps ms after')) r)) is

turned : (waiting left : List memory.Meaning) (m : memory.Meaning) → waiting ≡ left ++ m ∷ [] → map meaning_of (reverse waiting) ≡ meaning_of m ∷ map meaning_of (reverse left)
turned waiting left m e = ap (λ z. map meaning_of (reverse z)) e ∙ ap (map meaning_of) (reverse-append left (m ∷ []))

from_here : (params : List Ty) (i : ℕ) (d : Ty) → i < length params → drop i params ≡ get_or params i d ∷ drop (i + 1) params
from_here params i d less = drop-cons params i d less ∙ ap (λ k. get_or params i d ∷ drop k params) (sym (add-one i))

pub goes_on : (params : List Ty) (i : ℕ) (d : Ty) (front new : List Expr) (e : Expr) (waiting left : List memory.Meaning) (m : memory.Meaning) (texts after : List FixedText)
    (r : Result (Row × List FixedText) Refusal) → i < length params → brought (get_or params i d) (meaning_of m) texts ≡ Ok (expression e, after) →
    waiting ≡ left ++ m ∷ [] → new ≡ front ++ e ∷ [] → behind (map expression front) (brought_all (drop i params) (map meaning_of (reverse waiting)) texts) ≡ r →
    behind (map expression new) (brought_all (drop (i + 1) params) (map meaning_of (reverse left)) after) ≡ r
goes_on params i d front new e waiting left m texts after r less is pops pushes known =
    ap (λ z. behind (map expression z) (brought_all (drop (i + 1) params) (map meaning_of (reverse left)) after)) pushes
    ∙ ap (λ z. behind z (brought_all (drop (i + 1) params) (map meaning_of (reverse left)) after)) (map-append expression front (e ∷ []))
    ∙ sym (goes (map expression front) (get_or params i d) (drop (i + 1) params) (meaning_of m) (map meaning_of (reverse left)) (expression e) texts after is)
    ∙ sym (ap (λ z. behind (map expression front) (brought_all z (meaning_of m ∷ map meaning_of (reverse left)) texts)) (from_here params i d less))
    ∙ sym (ap (λ z. behind (map expression front) (brought_all (drop i params) z texts)) (turned waiting left m pops))
    ∙ known

pub stops : (params : List Ty) (i : ℕ) (d : Ty) (front : List Expr) (waiting left : List memory.Meaning) (m : memory.Meaning) (texts : List FixedText) (e : TypeError)
    (r : Result (Row × List FixedText) Refusal) → i < length params → Fails e (brought (get_or params i d) (meaning_of m) texts) →
    waiting ≡ left ++ m ∷ [] → behind (map expression front) (brought_all (drop i params) (map meaning_of (reverse waiting)) texts) ≡ r → Fails e r
stops params i d front waiting left m texts error.NoMemory r less is pops known = tt
stops params i d front waiting left m texts (error.Broken rule token) r less is pops known =
    sym known
    ∙ ap (λ z. behind (map expression front) (brought_all (drop i params) z texts)) (turned waiting left m pops)
    ∙ ap (λ z. behind (map expression front) (brought_all z (meaning_of m ∷ map meaning_of (reverse left)) texts)) (from_here params i d less)
    ∙ fails (map expression front) (get_or params i d) (drop (i + 1) params) (meaning_of m) (map meaning_of (reverse left)) (refused rule token) texts is

-- no parameter is left, or no argument
pub none_left : (params : List Ty) (i : ℕ) (front : List Expr) (ms : List Meaning) (texts : List FixedText) (r : Result (Row × List FixedText) Refusal) → length params ≤ i →
    behind (map expression front) (brought_all (drop i params) ms texts) ≡ r → r ≡ Ok (row_of (map expression front), texts)
unfolding brought_all
none_left params i front ms texts r all known =
    sym known ∙ ap (λ z. behind (map expression front) (brought_all z ms texts)) (drop_of_length-le params all) ∙ ap (λ z. Ok (z, texts)) (row_in_front (map expression front))

no_argument : (ps : List Ty) (front : List Expression) (texts : List FixedText) → behind front (brought_all ps [] texts) ≡ Ok (row_of front, texts)
unfolding brought_all
no_argument [] front texts = ap (λ z. Ok (z, texts)) (row_in_front front)
no_argument (p ∷ ps) front texts = ap (λ z. Ok (z, texts)) (row_in_front front)

pub none_waits : (params : List Ty) (i : ℕ) (front : List Expr) (waiting : List memory.Meaning) (texts : List FixedText) (r : Result (Row × List FixedText) Refusal) →
    waiting ≡ [] → behind (map expression front) (brought_all (drop i params) (map meaning_of (reverse waiting)) texts) ≡ r → r ≡ Ok (row_of (map expression front), texts)
none_waits params i front waiting texts r empty known =
    sym known ∙ ap (λ z. behind (map expression front) (brought_all (drop i params) (map meaning_of (reverse z)) texts)) empty ∙ no_argument (drop i params) (map expression front) texts

-- arguments that were turned are turned back
pub turned_back : (params : List Ty) (front : List Expr) (args waiting : List memory.Meaning) (texts : List FixedText) (r : Result (Row × List FixedText) Refusal) →
    waiting ≡ reverse args → r ≡ behind (map expression front) (brought_all params (map meaning_of (reverse waiting)) texts) →
    r ≡ behind (map expression front) (brought_all params (map meaning_of args) texts)
turned_back params front args waiting texts r is known =
    known ∙ ap (λ z. behind (map expression front) (brought_all params (map meaning_of z) texts)) (ap reverse is ∙ reverse-reverse args)

-- ---- sizes of arrays

sized : (b : Bool) (m : Meaning) (ms : List Meaning) (token : ℕ) (texts : List FixedText) →
    (if b then (brought int_type m >>= λ e. sizes_of ms token >>= λ es. give (more e es)) else refuse BadOperand token) texts
    ≡ onward (λ e after. onward (λ es t. Ok (more e es, t)) (sizes_of ms token after)) ((if b then brought int_type m else refuse BadOperand token) texts)
sized true m ms token texts = refl
sized false m ms token texts = refl

by_size : (m : Meaning) (ms : List Meaning) (token : ℕ) (texts : List FixedText) →
    sizes_of (m ∷ ms) token texts ≡ onward (λ e after. onward (λ es t. Ok (more e es, t)) (sizes_of ms token after)) (size_of m token texts)
unfolding sizes_of
by_size m ms token texts = sized (is_index (type_of m)) m ms token texts

pub sizes_go : (front new : List Expr) (e : Expr) (waiting left : List memory.Meaning) (m : memory.Meaning) (token : ℕ) (texts after : List FixedText)
    (r : Result (Row × List FixedText) Refusal) → size_of (meaning_of m) token texts ≡ Ok (expression e, after) →
    waiting ≡ left ++ m ∷ [] → new ≡ front ++ e ∷ [] → behind (map expression front) (sizes_of (map meaning_of (reverse waiting)) token texts) ≡ r →
    behind (map expression new) (sizes_of (map meaning_of (reverse left)) token after) ≡ r
sizes_go front new e waiting left m token texts after r is pops pushes known =
    ap (λ z. behind (map expression z) (sizes_of (map meaning_of (reverse left)) token after)) pushes
    ∙ ap (λ z. behind z (sizes_of (map meaning_of (reverse left)) token after)) (map-append expression front (e ∷ []))
    ∙ sym (along (map expression front) (expression e) (sizes_of (map meaning_of (reverse left)) token after))
    ∙ sym (ap (λ z. behind (map expression front) (onward (λ x t. onward (λ es u. Ok (more x es, u)) (sizes_of (map meaning_of (reverse left)) token t)) z)) is)
    ∙ sym (ap (behind (map expression front)) (by_size (meaning_of m) (map meaning_of (reverse left)) token texts))
    ∙ sym (ap (λ z. behind (map expression front) (sizes_of z token texts)) (turned waiting left m pops))
    ∙ known

pub sizes_stop : (front : List Expr) (waiting left : List memory.Meaning) (m : memory.Meaning) (token : ℕ) (texts : List FixedText) (e : TypeError)
    (r : Result (Row × List FixedText) Refusal) → Fails e (size_of (meaning_of m) token texts) →
    waiting ≡ left ++ m ∷ [] → behind (map expression front) (sizes_of (map meaning_of (reverse waiting)) token texts) ≡ r → Fails e r
sizes_stop front waiting left m token texts error.NoMemory r is pops known = tt
sizes_stop front waiting left m token texts (error.Broken rule at) r is pops known =
    sym known
    ∙ ap (λ z. behind (map expression front) (sizes_of z token texts)) (turned waiting left m pops)
    ∙ ap (behind (map expression front)) (by_size (meaning_of m) (map meaning_of (reverse left)) token texts)
    ∙ ap (λ z. behind (map expression front) (onward (λ x t. onward (λ es u. Ok (more x es, u)) (sizes_of (map meaning_of (reverse left)) token t)) z)) is

pub no_size : (front : List Expr) (waiting : List memory.Meaning) (token : ℕ) (texts : List FixedText) (r : Result (Row × List FixedText) Refusal) →
    waiting ≡ [] → behind (map expression front) (sizes_of (map meaning_of (reverse waiting)) token texts) ≡ r → r ≡ Ok (row_of (map expression front), texts)
unfolding sizes_of
no_size front waiting token texts r empty known =
    sym known ∙ ap (λ z. behind (map expression front) (sizes_of (map meaning_of (reverse z)) token texts)) empty ∙ ap (λ z. Ok (z, texts)) (row_in_front (map expression front))

pub sizes_back : (sizes waiting : List memory.Meaning) (token : ℕ) (texts : List FixedText) (r : Result (Row × List FixedText) Refusal) →
    waiting ≡ reverse sizes → r ≡ sizes_of (map meaning_of (reverse waiting)) token texts → r ≡ sizes_of (map meaning_of sizes) token texts
sizes_back sizes waiting token texts r is known = known ∙ ap (λ z. sizes_of (map meaning_of z) token texts) (ap reverse is ∙ reverse-reverse sizes)

pub as_many : (ms : List memory.Meaning) → length (map meaning_of ms) ≡ length ms
as_many ms = length-map ms meaning_of
