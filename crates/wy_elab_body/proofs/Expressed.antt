-- What code finds of an expression in a scope, as what is found of it in a body that is being made.
use Rattle.std.proofs.Common.{ap, sym, subst, List, Result, Ok, Err}
use Rattle.wy_table.specs.ClassTable.{table_of}
use Rattle.wy_kernel.specs.Table.{Table}
use Rattle.wy_constant.specs.declared.rule.TypeError.{TypeError}
use Rattle.wy_constant.specs.declared.rule.TypeError.TheVariants as error
use Rattle.wy_constant.specs.Refusal.{Refusal}
use Rattle.wy_constant.specs.Scope.{Scope, FixedText}
use Rattle.wy_elab_expr.specs.Meaning.{Gets}
use Rattle.wy_elab_expr.specs.Operators.{Judgement, Settles}
use Rattle.wy_elab_expr.specs.Views.{GetsTo}
use Rattle.wy_elab_body.specs.declared.making.Making as memory
use Rattle.wy_elab_body.specs.declared.setting.Setting as memory_setting
use Rattle.wy_elab_body.specs.Making.{after_texts, expressed}
use Rattle.wy_elab_body.specs.Statements.{Setting}
use Rattle.wy_elab_body.specs.Views.{IsSetting, MakesTo, making_of}

texts_then : {A X : Type 0} (see : X → A) (r : Result X TypeError) (m : memory.Making) (before after : List FixedText) (given : Result (A × List FixedText) Refusal) →
    GetsTo see r after given → MakesTo see r (making_of m after) (after_texts (making_of m before) given)
texts_then see (Ok x) m before after given is = ap (after_texts (making_of m before)) is
texts_then see (Err error.NoMemory) m before after given is = tt
texts_then see (Err (error.Broken rule token)) m before after given is = ap (after_texts (making_of m before)) is

pub expressed_in : {A X : Type 0} (f : Judgement → Table → Scope → Gets A) (setting : memory_setting.Setting) (w : Setting) → IsSetting setting w →
    (see : X → A) (r : Result X TypeError) (m : memory.Making) (before after : List FixedText) →
    ((j : Judgement) → Settles (table_of setting.table.now) j → GetsTo see r after (f j (table_of setting.table.now) m.scope before)) →
    MakesTo see r (making_of m after) (expressed (f w.judgement w.table) (making_of m before))
unfolding expressed
expressed_in f setting w s see r m before after found =
    let settled : Table → Type 0 = λ t. Settles t w.judgement in
    let gets : Table → Type 0 = λ t. GetsTo see r after (f w.judgement t m.scope before) in
    let there = found w.judgement (subst settled s.table s.settled) in
    texts_then see r m before after (f w.judgement w.table m.scope before) (subst gets (sym s.table) there)
