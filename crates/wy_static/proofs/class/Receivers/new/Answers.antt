use Rattle.std.proofs.Common.{◌≡◌, ℕ, ◌+◌, ◌<◌, ◌≤◌, ◌++◌, ◌∷◌, [], List, Vec, length, map, slice_get, Some, sym, ap, ◌∙◌, subst, arith}
use Rattle.std.specs.declared.alloc.Global.{Global}
use Rattle.std.proofs.lemmas.List.{length-map}
use Rattle.wy_kernel.specs.Parts.{program_of}
use Rattle.wy_kernel.specs.Table.{HasSupertypes, NamesAmong}
use Rattle.wy_kernel.specs.View.{class_of}
use Rattle.wy_kernel.specs.declared.types.Class.{Class}
use Rattle.wy_kernel.proofs.Indexed.{mapped}
use Rattle.wy_static.specs.Links.{MayReceive}
use Rattle.wy_static.specs.Rows.{Rows, kept_under}
use Rattle.wy_static.proofs.Receiving.{SoFar, one_more, left_out, all_found, all_under}
use Rattle.wy_static.proofs.class.Receivers.new.Goals.{then-may_receive+in_ok-push+in_ok-keep_each, else-may_receive}
use Rattle.wy_static.proofs.class.Receivers.new.Goals as goal

pub supertypes-requires-clause-among : goal.supertypes-requires-clause-among
supertypes-requires-clause-among c = subst (λ (ks : List Class). NamesAmong (map class_of ks)) (c.deref.ensures.value ∙ sym c.deref-2.ensures.value) (c.names_among.ensures c.if-not-names_among.false)

pub loop-class-preserved : goal.loop-class-preserved
loop-class-preserved c =
    let p = program_of c.args.program.now in
    let n = c.loop-class.class in
    let rows = c.in_ok-rows.rows.items in
    let same : List Class → Type 0 = λ ks. length rows ≡ length ks in
    let many : length rows ≡ length c.args.program.now.classes.items = subst same c.deref-2.ensures.value (sym (length-map rows (λ (v : Vec ℕ Global). v.items)) ∙ c.in_ok-rows.ensures.a_row_a_class ∙ length-map c.deref-2.result.now class_of) in
    let here : n < length rows = omega arith in
    elim c.if-may_receive.branch [
      | then-may_receive+in_ok-push+in_ok-keep_each w ↦
          (let row = w.deref-then-may_receive.result.now in
          let at : slice_get (map (λ (v : Vec ℕ Global). v.items) rows) n ≡ Some row = mapped (λ (v : Vec ℕ Global). v.items) rows n w.index.result.now here w.index.ensures ∙ ap Some (sym w.deref-then-may_receive.ensures.value) in
          let has : HasSupertypes p.classes n row = subst (λ (ks : List Class). HasSupertypes (map class_of ks) n row) c.deref-2.ensures.value (c.in_ok-rows.ensures.each n row at) in
          let grown : c.if-may_receive.all.items ≡ c.loop-class.all.items ++ n ∷ [] = ap (λ (v : Vec ℕ Global). v.items) w.all-is ∙ w.in_ok-push.ensures.items in
          one_more p n c.loop-class.all.items c.if-may_receive.all.items (kept_under c.loop-class.below) (kept_under c.if-may_receive.below) row c.loop-class.invariant (c.may_receive.ensures.0 w.if-may_receive.true) has grown (λ q. ap (λ (b : Rows). kept_under b q) w.below-is ∙ w.in_ok-keep_each.ensures q))
      | else-may_receive w ↦
          (let not : MayReceive p n → ⊥ = λ m. (let yes = c.may_receive.ensures.1 m in let no = w.if-may_receive.false in cc) in
          subst (λ (v : Vec ℕ Global). SoFar p (n + 1) v.items (kept_under c.if-may_receive.below)) (sym w.all-is) (subst (λ (b : Rows). SoFar p (n + 1) c.loop-class.all.items (kept_under b)) (sym w.below-is) (left_out p n c.loop-class.all.items (kept_under c.loop-class.below) c.loop-class.invariant not)))
    ]

pub returns : goal.returns
returns c =
    let p = program_of c.args.program.now in
    let n = c.loop-class.class in
    let classes = c.args.program.now.classes.items in
    let past : length p.classes ≤ n = subst (λ k. k ≤ n) (sym (length-map classes class_of)) (omega arith) in
    record {
      all = all_found p n c.loop-class.all.items (kept_under c.loop-class.below) c.loop-class.invariant past;
      below = all_under p n c.loop-class.all.items (kept_under c.loop-class.below) c.loop-class.invariant past;
    }
