use Rattle.std.proofs.Common.{◌≡◌, ◌∙◌, List, ℕ, ◌++◌, map, ap, string_bytes, rules}
use Rattle.wy_gen.specs.Generated.{opening, loop_head, closing, ended, method, call, below}
use Rattle.wy_gen.proofs.Lines.{five_parts}
use Rattle.wy_gen.proofs.program.Goals as goal

pub returns : goal.returns
returns c =
    let methods : List ℕ = ended (map (method c.args.n) (below c.args.n)) in
    let calls : List ℕ = ended (map call (below c.args.n)) in
    let one : string_bytes c.push_str.new.self ≡ ended opening = search rules in
    let two : string_bytes c.put_methods.new.text ≡ ended opening ++ methods = c.in_ok-put_methods.ensures ∙ ap (λ v. v ++ methods) one in
    let three : string_bytes c.push_str-2.new.self ≡ (ended opening ++ methods) ++ ended loop_head = c.in_ok-push_str-2.ensures.bytes ∙ ap (λ v. v ++ ended loop_head) two in
    let four : string_bytes c.put_calls.new.text ≡ ((ended opening ++ methods) ++ ended loop_head) ++ calls = c.in_ok-put_calls.ensures ∙ ap (λ v. v ++ calls) three in
    let five : string_bytes c.push_str-3.new.self ≡ (((ended opening ++ methods) ++ ended loop_head) ++ calls) ++ ended closing = c.in_ok-push_str-3.ensures.bytes ∙ ap (λ v. v ++ ended closing) four in
    ap (λ v. v.items) c.into_bytes.ensures.value ∙ (five ∙ five_parts c.args.n)
