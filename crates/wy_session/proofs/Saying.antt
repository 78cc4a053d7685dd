-- A line has one answer, and a session ends by a quit.
use Rattle.std.proofs.Common.{◌≡◌, sym, ap, subst, refl, ℕ, List, Some, None}
use Rattle.wy_explore.specs.Session.{Command, Does, End, OneReply, Quit, Replies, Reply, Says, Session}
use Rattle.wy_explore.specs.Session as session
use Rattle.wy_kernel.specs.Program.{Program}
use Rattle.wy_event.specs.declared.record.Cover.{Cover}
use Rattle.wy_event.specs.Record.{Recorded}
use Rattle.wy_session.specs.Scene.{Said, Scene, reply_text, replied, over}
use Rattle.wy_session.specs.Laws.{OneSaid}

pub one_said : OneReply → (x : Scene) → OneSaid x
one_said one x s line _ _ _ _ (replied t r first some) (replied u q second any) =
    let e = one x.program x.lines x.records x.covers s line t u r q first second in
    (e.0, ap (λ (z : Reply). Some (reply_text x z)) e.1)
one_said one x s line _ _ _ _ (replied t r first some) (over u second) = absurd (some (one x.program x.lines x.records x.covers s line t u r End first second).1)
one_said one x s line _ _ _ _ (over t first) (replied u q second any) = absurd (any (sym (one x.program x.lines x.records x.covers s line t u End q first second).1))
one_said one x s line _ _ _ _ (over t first) (over u second) = ((one x.program x.lines x.records x.covers s line t u End End first second).0, refl)

-- a session ends by a quit alone
end_is_quit : (p : Program) (lines : List ℕ) (rs : List Recorded) (covers : List Cover) (s : Session) (c : Command) (t : Session) → Does p lines rs covers s c t End → Quit ≡ c
end_is_quit p lines rs covers s _ _ session.quit = refl

ends_by_quit : (p : Program) (lines : List ℕ) (rs : List Recorded) (covers : List Cover) (s : Session) (line : List ℕ) (t : Session) (r : Reply) → Replies p lines rs covers s line t r → r ≡ End → Says line Quit
ends_by_quit p lines rs covers s line _ _ (session.served t r serves) is =
    let does : Does p lines rs covers s serves.command t End = subst (Does p lines rs covers s serves.command t) is serves.does in
    subst (Says line) (sym (end_is_quit p lines rs covers s serves.command t does)) serves.meant
ends_by_quit p lines rs covers s line _ _ (session.no_such none) is = absurd cc

pub says_quit : (x : Scene) (s : Session) (line : List ℕ) (t : Session) → Said x s line t None → Says line Quit
says_quit x s line _ (over t replies) = ends_by_quit x.program x.lines x.records x.covers s line t End replies refl
