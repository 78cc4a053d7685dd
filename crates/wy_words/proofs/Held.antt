-- What is named behind parts is what the parts hold.
use Rattle.std.proofs.Common.{◌≡◌, ◌∙◌, ℕ, zero, suc, ◌+◌, ◌≤◌, length, true, nat_lt, List, [], ◌∷◌, ◌++◌, Option, Some, None, refl, sym, ap, subst, arith}
use Rattle.std.specs.Prelude.{if◌then◌else◌, option_and_then, filter_map}
use Rattle.std.specs.Option.{option_to_list}
use Rattle.std.proofs.lemmas.Bool.{lt-ltb}
use Rattle.std.proofs.lemmas.List.{append-nil, append_assoc, length-append}
use Rattle.std.proofs.lemmas.Option.{none-some, same_Some, cond_some, option_and_then_some}
use Rattle.wy_words.specs.Awaited as awaited
use Rattle.wy_words.specs.Words.{Part, Operand, Input, Trace, Steps, operand_of, input_of, trace_of, steps_of, Holds}
use Rattle.wy_words.specs.Reading.{Asking, nothing, with_part}
use Rattle.wy_words.proofs.Spelled.{with_parts}

-- what is named, where the next word is an operand or an option
abbrev pub naming : List (List ℕ) → Option (List ℕ) → Option (List ℕ) → Option ℕ → Asking
naming operands input trace steps = record { awaited = awaited.Word; operands = operands; input = input; trace = trace; steps = steps }

-- the parts lead from what is named to this
record Leads (operands : List (List ℕ)) (input trace : Option (List ℕ)) (steps : Option ℕ) (parts : List Part) (b : Asking) : Type 0 where
  to_operands : operands ++ filter_map operand_of parts ≡ b.operands
  to_input : option_to_list input ++ filter_map input_of parts ≡ option_to_list b.input
  to_trace : option_to_list trace ++ filter_map trace_of parts ≡ option_to_list b.trace
  to_steps : option_to_list steps ++ filter_map steps_of parts ≡ option_to_list b.steps

-- ---- what the parts hold is named

-- an option that stands twice is no option's list
twice : {X : Type 0} (x y : X) (rest : List X) (o : Option X) → x ∷ (y ∷ rest) ≡ option_to_list o → ⊥
twice x y rest None is = let long : suc (suc (length rest)) ≡ zero = ap length is in omega (arith, long)
twice x y rest (Some z) is = let long : suc (suc (length rest)) ≡ suc zero = ap length is in omega (arith, long)

abbrev first_or : {X : Type 0} → X → List X → X
first_or x [] = x
first_or x (y ∷ ys) = y

same_option : {X : Type 0} (a b : Option X) → option_to_list a ++ [] ≡ option_to_list b → a ≡ b
same_option None None is = refl
same_option None (Some y) is = let long : zero ≡ suc zero = ap length is in absurd (omega (arith, long))
same_option (Some x) None is = let long : suc zero ≡ zero = ap length is in absurd (omega (arith, long))
same_option (Some x) (Some y) is = ap (λ xs. Some (first_or x xs)) is

-- one more operand makes at most three
has_room : (xs rest all : List (List ℕ)) (word : List ℕ) → xs ++ (word ∷ rest) ≡ all → length all ≤ 3 → nat_lt (length xs) 3 ≡ true
has_room xs rest all word is few =
    let long : length xs + suc (length rest) ≡ length all = sym (length-append xs (word ∷ rest)) ∙ ap length is in
    lt-ltb _ _ (omega (arith, long, few))

-- an operand with room for it leads on
operand_taken : (xs : List (List ℕ)) (i t : Option (List ℕ)) (n : Option ℕ) (word : List ℕ) → nat_lt (length xs) 3 ≡ true
    → with_part (naming xs i t n) (Operand word) ≡ Some (naming (xs ++ (word ∷ [])) i t n)
unfolding with_part
operand_taken xs i t n word room = ap (λ v. if v then Some (naming (xs ++ (word ∷ [])) i t n) else None) room

input_taken : (xs : List (List ℕ)) (t : Option (List ℕ)) (n : Option ℕ) (name : List ℕ) → with_part (naming xs None t n) (Input name) ≡ Some (naming xs (Some name) t n)
unfolding with_part
input_taken xs t n name = refl

trace_taken : (xs : List (List ℕ)) (i : Option (List ℕ)) (n : Option ℕ) (name : List ℕ) → with_part (naming xs i None n) (Trace name) ≡ Some (naming xs i (Some name) n)
unfolding with_part
trace_taken xs i n name = refl

steps_taken : (xs : List (List ℕ)) (i t : Option (List ℕ)) (n : ℕ) → with_part (naming xs i t None) (Steps n) ≡ Some (naming xs i t (Some n))
unfolding with_part
steps_taken xs i t n = refl

abbrev then_parts : List Part → Option Asking → Option Asking
then_parts parts o = option_and_then (λ b. with_parts b parts) o

led : (parts : List Part) (xs : List (List ℕ)) (i t : Option (List ℕ)) (n : Option ℕ) (ys : List (List ℕ)) (j u : Option (List ℕ)) (m : Option ℕ)
    → length ys ≤ 3 → Leads xs i t n parts (naming ys j u m) → with_parts (naming xs i t n) parts ≡ Some (naming ys j u m)
led [] xs i t n ys j u m few h =
    let a : xs ≡ ys = sym (append-nil xs) ∙ h.to_operands in
    let b : i ≡ j = same_option i j h.to_input in
    let c : t ≡ u = same_option t u h.to_trace in
    let d : n ≡ m = same_option n m h.to_steps in
    rw (a, b, c, d) refl
led (Operand word ∷ parts) xs i t n ys j u m few h =
    ap (then_parts parts) (operand_taken xs i t n word (has_room xs (filter_map operand_of parts) ys word h.to_operands few))
    ∙ led parts (xs ++ (word ∷ [])) i t n ys j u m few
    (record { to_operands = append_assoc xs (word ∷ []) (filter_map operand_of parts) ∙ h.to_operands; to_input = h.to_input; to_trace = h.to_trace; to_steps = h.to_steps })
led (Input name ∷ parts) xs None t n ys j u m few h =
    ap (then_parts parts) (input_taken xs t n name)
    ∙ led parts xs (Some name) t n ys j u m few (record { to_operands = h.to_operands; to_input = h.to_input; to_trace = h.to_trace; to_steps = h.to_steps })
led (Input name ∷ parts) xs (Some first) t n ys j u m few h = absurd (twice first name (filter_map input_of parts) j h.to_input)
led (Trace name ∷ parts) xs i None n ys j u m few h =
    ap (then_parts parts) (trace_taken xs i n name)
    ∙ led parts xs i (Some name) n ys j u m few (record { to_operands = h.to_operands; to_input = h.to_input; to_trace = h.to_trace; to_steps = h.to_steps })
led (Trace name ∷ parts) xs i (Some first) n ys j u m few h = absurd (twice first name (filter_map trace_of parts) u h.to_trace)
led (Steps k ∷ parts) xs i t None ys j u m few h =
    ap (then_parts parts) (steps_taken xs i t k)
    ∙ led parts xs i t (Some k) ys j u m few (record { to_operands = h.to_operands; to_input = h.to_input; to_trace = h.to_trace; to_steps = h.to_steps })
led (Steps k ∷ parts) xs i t (Some first) ys j u m few h = absurd (twice first k (filter_map steps_of parts) m h.to_steps)

pub held : (parts : List Part) (operands : List (List ℕ)) (input trace : Option (List ℕ)) (steps : Option ℕ) → length operands ≤ 3
    → Holds parts operands input trace steps → with_parts nothing parts ≡ Some (naming operands input trace steps)
held parts operands input trace steps few h =
    led parts [] None None None operands input trace steps few
    (record { to_operands = h.has_operands; to_input = h.has_input; to_trace = h.has_trace; to_steps = h.has_steps })

-- ---- what is named is held

operand_only : (xs : List (List ℕ)) (i t : Option (List ℕ)) (n : Option ℕ) (word : List ℕ) (c : Asking)
    → with_part (naming xs i t n) (Operand word) ≡ Some c → naming (xs ++ (word ∷ [])) i t n ≡ c
unfolding with_part
operand_only xs i t n word c is = (cond_some (nat_lt (length xs) 3) (naming (xs ++ (word ∷ [])) i t n) c is).1

input_twice : (xs : List (List ℕ)) (first : List ℕ) (t : Option (List ℕ)) (n : Option ℕ) (name : List ℕ) → with_part (naming xs (Some first) t n) (Input name) ≡ None
unfolding with_part
input_twice xs first t n name = refl

trace_twice : (xs : List (List ℕ)) (i : Option (List ℕ)) (first : List ℕ) (n : Option ℕ) (name : List ℕ) → with_part (naming xs i (Some first) n) (Trace name) ≡ None
unfolding with_part
trace_twice xs i first n name = refl

steps_twice : (xs : List (List ℕ)) (i t : Option (List ℕ)) (first n : ℕ) → with_part (naming xs i t (Some first)) (Steps n) ≡ None
unfolding with_part
steps_twice xs i t first n = refl

-- what is named behind a part that isn't taken
not_taken : {P : Type 0} (parts : List Part) (o : Option Asking) (b : Asking) → o ≡ None → then_parts parts o ≡ Some b → P
not_taken parts o b none is = absurd (none-some b (sym (ap (then_parts parts) none) ∙ is))

leads : (parts : List Part) (xs : List (List ℕ)) (i t : Option (List ℕ)) (n : Option ℕ) (b : Asking) → with_parts (naming xs i t n) parts ≡ Some b → Leads xs i t n parts b
leads [] xs i t n b is =
    let same : naming xs i t n ≡ b = same_Some (naming xs i t n) b is in
    record {
      to_operands = append-nil xs ∙ ap (λ a. a.operands) same;
      to_input = append-nil (option_to_list i) ∙ ap (λ a. option_to_list a.input) same;
      to_trace = append-nil (option_to_list t) ∙ ap (λ a. option_to_list a.trace) same;
      to_steps = append-nil (option_to_list n) ∙ ap (λ a. option_to_list a.steps) same;
    }
leads (Operand word ∷ parts) xs i t n b is =
    option_and_then_some (λ c. with_parts c parts) (with_part (naming xs i t n) (Operand word)) b is (λ c taken more.
    let h = leads parts (xs ++ (word ∷ [])) i t n b (subst (λ a. with_parts a parts ≡ Some b) (sym (operand_only xs i t n word c taken)) more) in
    record { to_operands = sym (append_assoc xs (word ∷ []) (filter_map operand_of parts)) ∙ h.to_operands; to_input = h.to_input; to_trace = h.to_trace; to_steps = h.to_steps })
leads (Input name ∷ parts) xs None t n b is =
    let h = leads parts xs (Some name) t n b (sym (ap (then_parts parts) (input_taken xs t n name)) ∙ is) in
    record { to_operands = h.to_operands; to_input = h.to_input; to_trace = h.to_trace; to_steps = h.to_steps }
leads (Input name ∷ parts) xs (Some first) t n b is = not_taken parts _ b (input_twice xs first t n name) is
leads (Trace name ∷ parts) xs i None n b is =
    let h = leads parts xs i (Some name) n b (sym (ap (then_parts parts) (trace_taken xs i n name)) ∙ is) in
    record { to_operands = h.to_operands; to_input = h.to_input; to_trace = h.to_trace; to_steps = h.to_steps }
leads (Trace name ∷ parts) xs i (Some first) n b is = not_taken parts _ b (trace_twice xs i first n name) is
leads (Steps k ∷ parts) xs i t None b is =
    let h = leads parts xs i t (Some k) b (sym (ap (then_parts parts) (steps_taken xs i t k)) ∙ is) in
    record { to_operands = h.to_operands; to_input = h.to_input; to_trace = h.to_trace; to_steps = h.to_steps }
leads (Steps k ∷ parts) xs i t (Some first) b is = not_taken parts _ b (steps_twice xs i t first k) is

pub holds : (parts : List Part) (b : Asking) → with_parts nothing parts ≡ Some b → Holds parts b.operands b.input b.trace b.steps
holds parts b is =
    let h = leads parts [] None None None b is in
    record { has_operands = h.to_operands; has_input = h.to_input; has_trace = h.to_trace; has_steps = h.to_steps }
