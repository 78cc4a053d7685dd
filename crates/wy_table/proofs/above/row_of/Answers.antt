use Rattle.std.proofs.Common.{◌<◌, ℕ, List, [], length, get_or, sym, subst, ◌∙◌, arith}
use Rattle.std.specs.Prelude.{map, ◌≢◌}
use Rattle.std.specs.List.{All}
use Rattle.std.proofs.lemmas.List.{length-map}
use Rattle.std.proofs.lemmas.Result.{IfOk-weaker}
use Rattle.wy_kernel.specs.View.{class_of}
use Rattle.wy_table.specs.Above.{IsRow}
use Rattle.wy_table.proofs.Rows.{named_at, all_among, from_above, numbered_as}
use Rattle.wy_table.proofs.above.row_of.Goals as goal

pub are_made-requires : goal.are_made-requires
are_made-requires c =
    let classes = map class_of c.args.classes.now in
    all_among classes c.args.c (length c.args.rows.now) c.as_slice.result.now c.requires.among
    (named_at class_of c.args.classes.now c.args.c _ _ c.requires.here c.index-classes-c.is (c.as_slice.ensures.value ∙ c.in_ok-above.ensures))
    (sym c.requires.begun.long ∙ length-map c.args.rows.now (λ row. row.items))

pub returns-then-are_made : goal.returns-then-are_made
returns-then-are_made c =
    let classes = map class_of c.args.classes.now in
    let numbers = c.args.numbers.now in
    let rows = map (λ row. row.items) c.args.rows.now in
    let above = c.as_slice-then-are_made.result.now in
    let lt : c.args.c < length classes = (let h = c.requires.here in omega (arith, length-map c.args.classes.now class_of)) in
    let Q : List ℕ → Type 0 = λ ds. All (λ d. get_or rows d [] ≢ []) ds in
    let made : Q above = subst Q (c.as_slice.ensures.value ∙ sym c.as_slice-then-are_made.ensures.value) (c.are_made.ensures c.if-are_made.true) in
    IfOk-weaker c.together.result _ (λ row. IsRow classes numbers c.args.c row.items)
    (λ row covers. from_above classes numbers rows c.args.c above row.items c.requires.among (numbered_as class_of c.args.classes.now numbers c.requires.numbered) c.requires.begun lt
    (named_at class_of c.args.classes.now c.args.c _ _ c.requires.here c.index-classes-c.is (c.as_slice-then-are_made.ensures.value ∙ c.in_ok-above.ensures)) made covers)
    c.together.ensures
