-- What a view counted while a session went on.
use Rattle.std.proofs.Common.{◌≡◌, ◌∙◌, sym, subst, inl, inr, ℕ, List, Option, Result, Ok, Err}
use Rattle.wy_view.specs.View.{Keeps, RefusedFor, Told}
use Rattle.wy_view.specs.declared.view.ViewError.{ViewError}
use Rattle.wy_view.specs.declared.view.ViewError.TheVariants as view
use Rattle.wy_view.proofs.Views.{refused_since}
use Rattle.wy_session.specs.Closings.{EndsWith, IsBroken, Puts}
use Rattle.wy_session.specs.Views.{CountsFor, CountsOf, ending_of}
use Rattle.wy_session.specs.declared.ending.Ending.{Ending}
use Rattle.wy_session.specs.declared.ending.Ending.TheVariants.{Done, LongLine, LongInput, KeysFailed, OutFailed, View, NoMemory}

-- a view refused
pub refused_counts : (e : ViewError) (a b : Told) → RefusedFor e a b → CountsFor (ending_of e) a b
refused_counts view.ReadFault a b h = h
refused_counts view.Gone a b h = h
refused_counts (view.Changed block kept found) a b h = h
refused_counts view.NoMemory a b h = h

-- the output or its memory did
broken_counts : (e : Ending) (a b : Told) → IsBroken e → b.faults ≡ a.faults → CountsFor e a b
broken_counts OutFailed a b broken same = same
broken_counts NoMemory a b broken same = same
broken_counts Done a b broken same = absurd broken
broken_counts LongLine a b broken same = absurd broken
broken_counts LongInput a b broken same = absurd broken
broken_counts KeysFailed a b broken same = absurd broken
broken_counts (View e) a b broken same = absurd broken

pub put_counts : (text : List ℕ) (old new : Option (List ℕ)) (n m : ℕ) (r : Result Unit Ending) (a b : Told) → Puts text old new n m r → b.faults ≡ a.faults → CountsOf r a b
put_counts text old new n m (Ok u) a b puts same = same
put_counts text old new n m (Err e) a b puts same = broken_counts e a b puts.0 same

pub ended_counts : (text : List ℕ) (wanted : Ending) (old new : Option (List ℕ)) (n m : ℕ) (e : Ending) (a b : Told) → EndsWith text wanted old new n m e → CountsFor wanted a b → b.faults ≡ a.faults → CountsFor e a b
ended_counts text wanted old new n m e a b (inl (is, written, kept)) counts same = subst (λ (z : Ending). CountsFor z a b) (sym is) counts
ended_counts text wanted old new n m e a b (inr (broken, out, part)) counts same = broken_counts e a b broken same

-- an ending after calls that went well
pub counts_since : (e : Ending) (a b c : Told) → Keeps a b → b.faults ≡ a.faults → Keeps b c → CountsFor e b c → CountsFor e a c
counts_since Done a b c first same second h = h ∙ same
counts_since LongLine a b c first same second h = h ∙ same
counts_since LongInput a b c first same second h = h ∙ same
counts_since KeysFailed a b c first same second h = h ∙ same
counts_since OutFailed a b c first same second h = h ∙ same
counts_since NoMemory a b c first same second h = h ∙ same
counts_since (View view.ReadFault) a b c first same second h = refused_since view.ReadFault a b c first same second h
counts_since (View view.Gone) a b c first same second h = refused_since view.Gone a b c first same second h
counts_since (View (view.Changed block kept found)) a b c first same second h = refused_since (view.Changed block kept found) a b c first same second h
counts_since (View view.NoMemory) a b c first same second h = absurd h

pub counts_err : (r : Result Unit Ending) (e : Ending) (a b : Told) → r ≡ Err e → CountsFor e a b → CountsOf r a b
counts_err r e a b is h = subst (λ (z : Result Unit Ending). CountsOf z a b) (sym is) h
