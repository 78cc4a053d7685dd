-- A word is read as the question that it spells.
use Rattle.std.proofs.Common.{◌≡◌, ◌∙◌, ℕ, zero, Bool, true, false, ◌&&◌, not, nat_eq, List, [], ◌∷◌, ◌++◌, Some, None, option_map, Result, Ok, Err, refl, sym, ap, subst, arith, ne_eqb}
use Rattle.std.specs.Prelude.{Option, if◌then◌else◌, IsTrue, codes}
use Rattle.std.specs.List.{list_all}
use Rattle.std.proofs.lemmas.Bool.{and_parts, and_from}
use Rattle.std.proofs.lemmas.Option.{none-some, same_Some, some_pair_parts, cond_some}
use Rattle.wy_tree.specs.Bytes.{begins_with, begins_word, is_digit, goes_on_word}
use Rattle.wy_tree.specs.Words.{is_key}
use Rattle.wy_ask.specs.declared.question.Question.{Question}
use Rattle.wy_ask.specs.declared.question.AskError.{AskError}
use Rattle.wy_ask.specs.declared.question.AskError.TheVariants as errors
use Rattle.wy_ask.specs.Words.{is_name, is_number, number_of, value_of, library, IsClassWord, of_source, of_library}
use Rattle.wy_ask.specs.Questions.{Asked, Print, Event, Static, Field, Elem, Local, asked, IsNumber, Spells, print, event, static_field, object_field, element, local, field_word, at, Asks, IsUnread, IsReading}
use Rattle.wy_ask.specs.Questions as written
use Rattle.wy_ask.specs.Reading.{and_then, behind, cut, by_front, named_as, named_in, class_word, at_moment, within, numbered_in, static_in, field_in, elem_in, local_in, event_in, numbered_or_event_in, question_in, Reads}
use Rattle.wy_ask.proofs.Fronts.{Lacks, lacks_append, lacks_all, behind_only, cut_there, cut_only}
use Rattle.wy_ask.proofs.Numerals.{has_digits}

-- ---- what no word has

pub number_lacks : (sign : ℕ) → is_digit sign ≡ false → (n : ℕ) (w : List ℕ) → IsNumber n w → Lacks sign w
number_lacks sign out n w e = lacks_all is_digit sign w out (has_digits w (cond_some (is_number w) (value_of w) n e).0)

letters : (w : List ℕ) → is_name w ≡ true → list_all goes_on_word w ≡ true
unfolding is_name
letters w e = (and_parts (list_all goes_on_word w) (not (is_key w)) (and_parts (begins_with begins_word w) _ e).1).0

name_lacks : (sign : ℕ) → goes_on_word sign ≡ false → (w : List ℕ) → IsTrue (is_name w) → Lacks sign w
name_lacks sign out w e = lacks_all goes_on_word sign w out (letters w e)

class_lacks : (sign : ℕ) → goes_on_word sign ≡ false → Lacks sign library → (c : List ℕ) → IsClassWord c → Lacks sign c
class_lacks sign out far _ (of_source name e) = name_lacks sign out name e
class_lacks sign out far _ (of_library name e) = lacks_append sign library name far (name_lacks sign out name e)

field_word_lacks : (sign : ℕ) → goes_on_word sign ≡ false → Lacks sign library → Lacks sign (codes ".") → (c f : List ℕ) → IsClassWord c → IsTrue (is_name f) → Lacks sign (field_word c f)
field_word_lacks sign out far dot c f is e = lacks_append sign c (codes "." ++ f) (class_lacks sign out far c is) (lacks_append sign (codes ".") f dot (name_lacks sign out f e))

library_lacks_at : Lacks 64 library
library_lacks_at = lacks_all (λ b. not (nat_eq b 64)) 64 library refl refl

dot_lacks_at : Lacks 64 (codes ".")
dot_lacks_at = lacks_all (λ b. not (nat_eq b 64)) 64 (codes ".") refl refl

colon_lacks_at : Lacks 64 (codes ":")
colon_lacks_at = lacks_all (λ b. not (nat_eq b 64)) 64 (codes ":") refl refl

-- ---- parts that are there

at_moment_there : (place w : List ℕ) (m : ℕ) → Lacks 64 place → IsNumber m w → at_moment (at place w) ≡ Some (place, m)
at_moment_there place w m h e =
    ap (λ o. and_then o (λ x. option_map (λ m. (x.0, m)) (number_of x.1))) (cut_there 64 place w h) ∙ ap (option_map (λ m. (place, m))) e

within_there : (v part : List ℕ) (n : ℕ) → IsNumber n v → within (written.within v part) ≡ Some (n, part)
within_there v part n e =
    ap (λ o. and_then o (λ x. option_map (λ n. (n, x.1)) (number_of x.0))) (cut_there 58 v part (number_lacks 58 refl n v e)) ∙ ap (option_map (λ n. (n, part))) e

named_as_there : (b : Bool) (name f : List ℕ) → IsTrue (is_name name) → IsTrue (is_name f) → named_as b (cut 46 (name ++ (46 ∷ f))) ≡ Some (class_word b name, f)
named_as_there b name f is e =
    ap (named_as b) (cut_there 46 name f (name_lacks 46 refl name is)) ∙ ap (λ v. if v then Some (class_word b name, f) else None) (and_from (is_name name) (is_name f) is e)

-- a name and a field don't begin as a class of the library
no_library : (name f rest : List ℕ) → IsTrue (is_name name) → IsTrue (is_name f) → name ++ (46 ∷ f) ≡ library ++ rest → ⊥
no_library name f rest is e same =
    let there : Some (name, f) ≡ Some (codes "java", codes "lang." ++ rest) = sym (cut_there 46 name f (name_lacks 46 refl name is)) ∙ ap (cut 46) same in
    let p = some_pair_parts name (codes "java") f (codes "lang." ++ rest) there in
    let lacking = subst (Lacks 46) p.1 (name_lacks 46 refl f e) in
    lacking 4 (omega arith) refl

named_there : (c f : List ℕ) → IsClassWord c → IsTrue (is_name f) → named_in (field_word c f) ≡ Some (c, f)
named_there _ f (of_source c is) e =
    ap (λ o. by_front o (λ rest. named_as true (cut 46 rest)) (named_as false (cut 46 (c ++ (46 ∷ f))))) (go (behind library (c ++ (46 ∷ f))) refl) ∙ named_as_there false c f is e
  where
    go : (o : Option (List ℕ)) → behind library (c ++ (46 ∷ f)) ≡ o → o ≡ None
    go None k = refl
    go (Some rest) k = absurd (no_library c f rest is e (behind_only library (c ++ (46 ∷ f)) rest k))
named_there _ f (of_library name is) e = named_as_there true name f is e

numbered_there : (n i m : ℕ) (v u w : List ℕ) → IsNumber n v → IsNumber i u → IsNumber m w → numbered_in (at (written.within v u) w) ≡ Some (n, i, m)
numbered_there n i m v u w en ei em =
    ap (λ o. and_then o (λ x. and_then (within x.0) (λ y. option_map (λ i. (y.0, i, x.1)) (number_of y.1))))
    (at_moment_there (written.within v u) w m (lacks_append 64 v (codes ":" ++ u) (number_lacks 64 refl n v en) (lacks_append 64 (codes ":") u colon_lacks_at (number_lacks 64 refl i u ei))) em)
    ∙ ap (λ o. and_then o (λ y. option_map (λ i. (y.0, i, m)) (number_of y.1))) (within_there v u n en)
    ∙ ap (option_map (λ i. (n, i, m))) ei

-- ---- what a question's words are read as

event_read : (n : ℕ) (w : List ℕ) → IsNumber n w → question_in (codes "e" ++ w) ≡ Some (Event n)
event_read n [] e = ap (option_map Event) e
event_read n (b ∷ w) e =
    ap (λ v. by_front (if v then behind (codes "em:") w else None) elem_in (option_map Event (number_of (b ∷ w)))) (ne_eqb 108 b (λ is. number_lacks 108 refl n (b ∷ w) e zero (omega arith) (sym is)))
    ∙ ap (option_map Event) e

pub read : (q : Asked) (text : List ℕ) → Spells q text → question_in text ≡ Some q
read _ _ (print k w e) = ap (option_map Print) e
read _ _ (event n w e) = event_read n w e
read _ _ (static_field c f m w is e em) =
    ap (λ o. and_then o (λ x. option_map (λ f. Static f.0 f.1 x.1) (named_in x.0))) (at_moment_there (field_word c f) w m (field_word_lacks 64 refl library_lacks_at dot_lacks_at c f is e) em)
    ∙ ap (option_map (λ f. Static f.0 f.1 m)) (named_there c f is e)
read _ _ (object_field n c f m v w en is e em) =
    ap (λ o. and_then o (λ x. and_then (within x.0) (λ y. option_map (λ f. Field y.0 f.0 f.1 x.1) (named_in y.1))))
    (at_moment_there (written.within v (field_word c f)) w m
    (lacks_append 64 v (codes ":" ++ field_word c f) (number_lacks 64 refl n v en) (lacks_append 64 (codes ":") (field_word c f) colon_lacks_at (field_word_lacks 64 refl library_lacks_at dot_lacks_at c f is e))) em)
    ∙ ap (λ o. and_then o (λ y. option_map (λ f. Field y.0 f.0 f.1 m) (named_in y.1))) (within_there v (field_word c f) n en)
    ∙ ap (option_map (λ f. Field n f.0 f.1 m)) (named_there c f is e)
read _ _ (element n i m v u w en ei em) = ap (option_map (λ x. Elem x.0 x.1 x.2)) (numbered_there n i m v u w en ei em)
read _ _ (local n i m v u w en ei em) = ap (option_map (λ x. Local x.0 x.1 x.2)) (numbered_there n i m v u w en ei em)

-- ---- what is read is spelled

front_cases : {X Y P : Type 0} (o : Option X) (f : X → Option Y) (other : Option Y) (y : Y) → by_front o f other ≡ Some y → ((x : X) → o ≡ Some x → f x ≡ Some y → P) → (other ≡ Some y → P) → P
front_cases None f other y e there absent = absent e
front_cases (Some x) f other y e there absent = there x refl e

pub then_some : {X Y P : Type 0} (o : Option X) (f : X → Option Y) (y : Y) → and_then o f ≡ Some y → ((x : X) → o ≡ Some x → f x ≡ Some y → P) → P
then_some None f y e there = absurd (none-some y e)
then_some (Some x) f y e there = there x refl e

map_some : {X Y P : Type 0} (o : Option X) (f : X → Y) (y : Y) → option_map f o ≡ Some y → ((x : X) → o ≡ Some x → f x ≡ y → P) → P
map_some None f y e there = absurd (none-some y e)
map_some (Some x) f y e there = there x refl (same_Some (f x) y e)

at_moment_only : (text : List ℕ) (x : List ℕ × ℕ) → at_moment text ≡ Some x → (w : List ℕ) × (text ≡ at x.0 w) × IsNumber x.1 w
at_moment_only text x e =
    then_some (cut 64 text) (λ x. option_map (λ m. (x.0, m)) (number_of x.1)) x e
    (λ y is f. map_some (number_of y.1) (λ m. (y.0, m)) x f (λ m em g. (y.1, subst (λ z. text ≡ at z.0 y.1) g (cut_only 64 text y.0 y.1 is), subst (λ z. IsNumber z.1 y.1) g em)))

within_only : (place : List ℕ) (x : ℕ × List ℕ) → within place ≡ Some x → (v : List ℕ) × (place ≡ written.within v x.1) × IsNumber x.0 v
within_only place x e =
    then_some (cut 58 place) (λ x. option_map (λ n. (n, x.1)) (number_of x.0)) x e
    (λ y is f. map_some (number_of y.0) (λ n. (n, y.1)) x f (λ n en g. (y.0, subst (λ z. place ≡ written.within y.0 z.1) g (cut_only 58 place y.0 y.1 is), subst (λ z. IsNumber z.0 y.0) g en)))

-- a field by its words
abbrev IsFieldWord : List ℕ → List ℕ × List ℕ → Type 0
IsFieldWord text x = (text ≡ field_word x.0 x.1) × IsClassWord x.0 × IsTrue (is_name x.1)

class_of : (b : Bool) (name : List ℕ) → IsTrue (is_name name) → IsClassWord (class_word b name)
class_of true name is = of_library name is
class_of false name is = of_source name is

named_as_only : (b : Bool) (text : List ℕ) (x : List ℕ × List ℕ) → named_as b (cut 46 text) ≡ Some x → IsFieldWord (class_word b text) x
named_as_only b text x e = go (cut 46 text) refl e
  where
    moved : (b : Bool) (name f : List ℕ) → class_word b (name ++ (46 ∷ f)) ≡ field_word (class_word b name) f
    moved true name f = refl
    moved false name f = refl

    go : (o : Option (List ℕ × List ℕ)) → cut 46 text ≡ o → named_as b o ≡ Some x → IsFieldWord (class_word b text) x
    go None is f = absurd (none-some x f)
    go (Some y) is f =
        let g = cond_some (is_name y.0 && is_name y.1) (class_word b y.0, y.1) x f in
        let both = and_parts (is_name y.0) (is_name y.1) g.0 in
        let here : IsFieldWord (class_word b text) (class_word b y.0, y.1) = (ap (class_word b) (cut_only 46 text y.0 y.1 is) ∙ moved b y.0 y.1, class_of b y.0 both.0, both.1) in
        subst (IsFieldWord (class_word b text)) g.1 here

named_only : (text : List ℕ) (x : List ℕ × List ℕ) → named_in text ≡ Some x → IsFieldWord text x
named_only text x e =
    front_cases (behind library text) (λ rest. named_as true (cut 46 rest)) (named_as false (cut 46 text)) x e
    (λ rest is f. subst (λ t. IsFieldWord t x) (sym (behind_only library text rest is)) (named_as_only true rest x f))
    (λ f. named_as_only false text x f)

-- a holder, an index and a moment by their words
abbrev AreNumbers : List ℕ → ℕ × ℕ × ℕ → Type 0
AreNumbers text x = (v : List ℕ) × (u : List ℕ) × (w : List ℕ) × (text ≡ at (written.within v u) w) × IsNumber x.0 v × IsNumber x.1 u × IsNumber x.2 w

numbered_only : (text : List ℕ) (x : ℕ × ℕ × ℕ) → numbered_in text ≡ Some x → AreNumbers text x
numbered_only text x e =
    then_some (at_moment text) (λ x. and_then (within x.0) (λ y. option_map (λ i. (y.0, i, x.1)) (number_of y.1))) x e
    (λ p is f. then_some (within p.0) (λ y. option_map (λ i. (y.0, i, p.1)) (number_of y.1)) x f
    (λ y inside g. map_some (number_of y.1) (λ i. (y.0, i, p.1)) x g (λ i ei h.
    let m = at_moment_only text p is in
    let n = within_only p.0 y inside in
    subst (AreNumbers text) h (n.0, y.1, m.0, m.1 ∙ ap (λ z. at z m.0) n.1, n.2, ei, m.2))))

static_only : (text : List ℕ) (q : Asked) → static_in text ≡ Some q → Spells q (codes "static:" ++ text)
static_only text q e =
    then_some (at_moment text) (λ x. option_map (λ f. Static f.0 f.1 x.1) (named_in x.0)) q e
    (λ p is f. map_some (named_in p.0) (λ f. Static f.0 f.1 p.1) q f (λ x named h.
    let m = at_moment_only text p is in
    let k = named_only p.0 x named in
    let spelled : text ≡ at (field_word x.0 x.1) m.0 = m.1 ∙ ap (λ z. at z m.0) k.0 in
    subst (λ q. Spells q (codes "static:" ++ text)) h
    (subst (λ t. Spells (Static x.0 x.1 p.1) (codes "static:" ++ t)) (sym spelled) (static_field x.0 x.1 p.1 m.0 k.1 k.2 m.2))))

field_only : (text : List ℕ) (q : Asked) → field_in text ≡ Some q → Spells q (codes "field:" ++ text)
field_only text q e =
    then_some (at_moment text) (λ x. and_then (within x.0) (λ y. option_map (λ f. Field y.0 f.0 f.1 x.1) (named_in y.1))) q e
    (λ p is f. then_some (within p.0) (λ y. option_map (λ f. Field y.0 f.0 f.1 p.1) (named_in y.1)) q f
    (λ y inside g. map_some (named_in y.1) (λ f. Field y.0 f.0 f.1 p.1) q g (λ x named h.
    let m = at_moment_only text p is in
    let n = within_only p.0 y inside in
    let k = named_only y.1 x named in
    let spelled : text ≡ at (written.within n.0 (field_word x.0 x.1)) m.0 = m.1 ∙ ap (λ z. at z m.0) (n.1 ∙ ap (written.within n.0) k.0) in
    subst (λ q. Spells q (codes "field:" ++ text)) h
    (subst (λ t. Spells (Field y.0 x.0 x.1 p.1) (codes "field:" ++ t)) (sym spelled) (object_field y.0 x.0 x.1 p.1 n.0 m.0 n.2 k.1 k.2 m.2)))))

elem_only : (text : List ℕ) (q : Asked) → elem_in text ≡ Some q → Spells q (codes "elem:" ++ text)
elem_only text q e =
    map_some (numbered_in text) (λ x. Elem x.0 x.1 x.2) q e (λ x is h.
    let k = numbered_only text x is in
    subst (λ q. Spells q (codes "elem:" ++ text)) h (subst (λ t. Spells (Elem x.0 x.1 x.2) (codes "elem:" ++ t)) (sym k.3) (element x.0 x.1 x.2 k.0 k.1 k.2 k.4 k.5 k.6)))

local_only : (text : List ℕ) (q : Asked) → local_in text ≡ Some q → Spells q (codes "local:" ++ text)
local_only text q e =
    map_some (numbered_in text) (λ x. Local x.0 x.1 x.2) q e (λ x is h.
    let k = numbered_only text x is in
    subst (λ q. Spells q (codes "local:" ++ text)) h (subst (λ t. Spells (Local x.0 x.1 x.2) (codes "local:" ++ t)) (sym k.3) (local x.0 x.1 x.2 k.0 k.1 k.2 k.4 k.5 k.6)))

event_only : (text : List ℕ) (q : Asked) → event_in text ≡ Some q → Spells q text
event_only text q e =
    front_cases (behind (codes "p") text) (λ w. option_map Print (number_of w)) (by_front (behind (codes "e") text) (λ w. option_map Event (number_of w)) None) q e
    (λ w is f. map_some (number_of w) Print q f (λ k ek h. subst (λ q. Spells q text) h (subst (Spells (Print k)) (sym (behind_only (codes "p") text w is)) (print k w ek))))
    (λ f. front_cases (behind (codes "e") text) (λ w. option_map Event (number_of w)) None q f
    (λ w is g. map_some (number_of w) Event q g (λ n en h. subst (λ q. Spells q text) h (subst (Spells (Event n)) (sym (behind_only (codes "e") text w is)) (event n w en))))
    (λ g. absurd (none-some q g)))

numbered_or_event_only : (text : List ℕ) (q : Asked) → numbered_or_event_in text ≡ Some q → Spells q text
numbered_or_event_only text q e =
    front_cases (behind (codes "elem:") text) elem_in (by_front (behind (codes "local:") text) local_in (event_in text)) q e
    (λ rest is f. subst (Spells q) (sym (behind_only (codes "elem:") text rest is)) (elem_only rest q f))
    (λ f. front_cases (behind (codes "local:") text) local_in (event_in text) q f
    (λ rest is g. subst (Spells q) (sym (behind_only (codes "local:") text rest is)) (local_only rest q g))
    (λ g. event_only text q g))

spelled : (text : List ℕ) (q : Asked) → question_in text ≡ Some q → Spells q text
spelled text q e =
    front_cases (behind (codes "static:") text) static_in (by_front (behind (codes "field:") text) field_in (numbered_or_event_in text)) q e
    (λ rest is f. subst (Spells q) (sym (behind_only (codes "static:") text rest is)) (static_only rest q f))
    (λ f. front_cases (behind (codes "field:") text) field_in (numbered_or_event_in text) q f
    (λ rest is g. subst (Spells q) (sym (behind_only (codes "field:") text rest is)) (field_only rest q g))
    (λ g. numbered_or_event_only text q g))

pub answered : (text : List ℕ) (r : Result Question AskError) → Reads r (question_in text) → IsReading text r
answered text (Ok q) e = record { spelled = spelled text (asked q) e; only = λ other s. same_Some other (asked q) (sym (read other text s) ∙ e) }
answered text (Err errors.BadQuestion) e = λ q s. none-some q (sym e ∙ read q text s)
answered text (Err (errors.NoSuch n)) e = e
answered text (Err errors.NoMemory) e = tt
