-- The names of members that the program hasn't, and of types with their brackets.
use Rattle.std.proofs.Common.{◌≡◌, ◌≤◌, ◌∙◌, ℕ, suc, ◌+◌, List, [], ◌++◌, length, map, sym, ap, arith, append_assoc, append-nil, eq-eqb, ne_eqb}
use Rattle.std.specs.Prelude.{codes, Some, None, option_map, if◌then◌else◌}
use Rattle.std.proofs.lemmas.List.{get_or_past, length-map}
use Rattle.wy_kernel.specs.declared.program.Program.{Program}
use Rattle.wy_kernel.specs.Parts.{program_of}
use Rattle.wy_kernel.specs.Program.{body, field, fixed_text, init_body, method}
use Rattle.wy_kernel.specs.View.{body_of, field_of, method_of, NONE, present}
use Rattle.wy_meaning.specs.Library.{brackets_text}
use Rattle.wy_text.specs.Names.{field_name, member_name, method_name}

pub is_present : (n : ℕ) → (n ≡ NONE → ⊥) → present n ≡ Some n
unfolding present
is_present n apart = ap (λ b. if b then None else Some n) (ne_eqb n NONE apart)

pub is_absent : (n : ℕ) → n ≡ NONE → present n ≡ None
unfolding present
is_absent n is = ap (λ b. if b then None else Some n) (eq-eqb n NONE is)

pub no_field : (p : Program) (f : ℕ) → length p.fields.items ≤ f → member_name (program_of p) 0 [] ≡ field_name (program_of p) f
unfolding field_name field
no_field p f le = sym (ap (λ x. member_name (program_of p) x.class x.name) (get_or_past (map field_of p.fields.items) f _ (let long : length (map field_of p.fields.items) ≡ length p.fields.items = simp length-map in omega (arith, long))))

pub no_method : (p : Program) (m : ℕ) → length p.methods.items ≤ m → member_name (program_of p) 0 [] ≡ method_name (program_of p) (Some m)
unfolding method_name method
no_method p m le = sym (ap (λ x. member_name (program_of p) x.class x.name) (get_or_past (map method_of p.methods.items) m _ (let long : length (map method_of p.methods.items) ≡ length p.methods.items = simp length-map in omega (arith, long))))

pub no_body : (p : Program) (m : ℕ) → length p.bodies.items ≤ m → None ≡ body (program_of p) m
unfolding body
no_body p m le = sym (get_or_past (map (option_map body_of) p.bodies.items) m _ (let long : length (map (option_map body_of) p.bodies.items) ≡ length p.bodies.items = simp length-map in omega (arith, long)))

pub no_init_body : (p : Program) (c : ℕ) → length p.init_bodies.items ≤ c → None ≡ init_body (program_of p) c
unfolding init_body
no_init_body p c le = sym (get_or_past (map (option_map body_of) p.init_bodies.items) c _ (let long : length (map (option_map body_of) p.init_bodies.items) ≡ length p.init_bodies.items = simp length-map in omega (arith, long)))

pub no_text : (p : Program) (n : ℕ) → length p.fixed_texts.items ≤ n → [] ≡ fixed_text (program_of p) n
unfolding fixed_text
no_text p n le = sym (get_or_past (map (λ v. v.items) p.fixed_texts.items) n _ (let long : length (map (λ v. v.items) p.fixed_texts.items) ≡ length p.fixed_texts.items = simp length-map in omega (arith, long)))

one_pair : (n m : ℕ) → n ≡ suc m → brackets_text n ≡ codes "[]" ++ brackets_text m
unfolding brackets_text
one_pair n m is = ap brackets_text is

pub one_more_pair : (xs more text : List ℕ) (n m : ℕ) → n ≡ m + 1 → more ≡ xs ++ codes "[]" → xs ++ brackets_text n ≡ text → more ++ brackets_text m ≡ text
one_more_pair xs more text n m one is all =
    let next : n ≡ suc m = omega (arith, one) in
    ap (λ ys. ys ++ brackets_text m) is ∙ append_assoc xs (codes "[]") (brackets_text m) ∙ ap (λ ys. xs ++ ys) (sym (one_pair n m next)) ∙ all

pub all_pairs : (xs text : List ℕ) (n : ℕ) → n ≡ 0 → xs ++ brackets_text n ≡ text → xs ≡ text
unfolding brackets_text
all_pairs xs text n none all = sym (append-nil xs) ∙ ap (λ m. xs ++ brackets_text m) (sym none) ∙ all
