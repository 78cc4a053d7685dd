use Rattle.std.proofs.Common.{ap, sym, ◌∙◌, subst, List, ℕ, ◌++◌, ◌∷◌, []}
use Rattle.sha2.specs.Hashers.{Holds256}
use Rattle.wy_spelling.specs.Spelling.{magic, number, head_payload}
use Rattle.wy_frames.proofs.Openings.{opening_is}
use Rattle.wy_frames.proofs.open.hashed.Goals as goal

pub returns : goal.returns
returns c =
    let all = c.add_head.ensures _ (c.add_number.ensures _ (c.add_bytes-2.ensures _ (c.add_bytes.ensures _ c.new-hasher.ensures))) in
    let h = c.args.head.now in
    subst (λ (l : List ℕ). Holds256 c.add_head.new.hasher l) (ap (λ (m : List ℕ). ((m ++ 72 ∷ []) ++ number c.payload_length.result) ++ head_payload h) c.magic_of.ensures ∙ ap (λ n. ((magic c.args.version ++ 72 ∷ []) ++ number n) ++ head_payload h) c.payload_length.ensures ∙ sym (opening_is c.args.version h)) all
