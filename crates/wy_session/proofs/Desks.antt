-- A desk once a line was answered.
use Rattle.std.proofs.Common.{◌≡◌, ◌≢◌, ◌∙◌, sym, ap, refl, subst, ℕ, List, Some, None}
use Rattle.wy_event.specs.declared.record.Cover.{Cover}
use Rattle.wy_event.specs.Record.{Recorded}
use Rattle.wy_static.specs.declared.answer.Links.{Links}
use Rattle.wy_ask.specs.declared.opened.Opened.{Opened}
use Rattle.wy_ask.specs.Opened.{StaysOpened}
use Rattle.wy_ask.proofs.Opening.{still_opened}
use Rattle.wy_kernel.specs.Program.{Program}
use Rattle.wy_kernel.specs.Parts.{program_of}
use Rattle.wy_explore.specs.Session.{Command, Does, Replies, RepliesTo, Session, ask, listing, up, down, go, sources, whynot, frames, show, undo, nothing, quit, served, no_such}
use Rattle.wy_explore.specs.Session as session
use Rattle.wy_explore.specs.declared.explorer.Explorer.{Explorer}
use Rattle.wy_explore.specs.declared.reply.Reply.{Reply}
use Rattle.wy_explore.specs.declared.reply.Reply.TheVariants as reply
use Rattle.wy_explore.specs.Explorer.{AllAnswered, AllWithin, reply_of, session_of}
use Rattle.wy_view.specs.View.{Keeps, Told}
use Rattle.wy_kernel.specs.declared.program.Program as memory
use Rattle.wy_session.specs.Desk.{IsAsked, IsDesk, IsReady, IsSceneIn, IsSceneOf}
use Rattle.wy_session.specs.Scene.{Said, Scene, over, replied, reply_text}

-- ---- a view that was read

-- of one scene while the view keeps its records
pub scene_kept : (p : memory.Program) (covers : List Cover) (old new : Told) (x : Scene) → Keeps old new → IsSceneOf p covers old x → IsSceneOf p covers new x
scene_kept p covers old new x keeps is = record { program = is.program; lines = is.lines; records = keeps.records ∙ is.records; covers = is.covers }

scene_on : {V : Type 0} (tells : V → Told) (x : Scene) (old new : Opened V) → StaysOpened tells old new → IsSceneIn (tells old.view) old x → IsSceneIn (tells new.view) new x
scene_on tells x old new stays is = record {
  program = rw (stays.program) is.program;
  lines = rw (stays.program) is.lines;
  records = stays.keeps.records ∙ is.records;
  covers = rw (stays.coverage) is.covers;
}

-- it can still be asked
pub ready_on : {V : Type 0} (tells : V → Told) (links : Links) (e next : Explorer) (old new : Opened V) → IsReady (tells old.view) old links e → StaysOpened tells old new → AllWithin (tells old.view).count next → IsReady (tells new.view) new links next
ready_on tells links e next old new ready stays within = record {
  is_opened = still_opened tells old new stays ready.is_opened;
  are_links = rw (stays.program) ready.are_links;
  within = subst (λ (n : ℕ). AllWithin n next) (sym stays.keeps.count) within;
}

-- the desk stands where the explorer does
pub desk_on : {V : Type 0} (tells : V → Told) (x : Scene) (s : Session) (e next : Explorer) (old new : Opened V) → IsDesk (tells old.view) old e x s → StaysOpened tells old new
    → AllAnswered (program_of old.program.now) x.records next → IsDesk (tells new.view) new next x (session_of next)
desk_on tells x s e next old new desk stays answered = record {
  scene = scene_on tells x old new stays desk.scene;
  session = refl;
  answered = subst (λ (p : Program). AllAnswered p x.records next) (sym desk.scene.program) answered;
}

pub answered_here : {V : Type 0} (told : Told) (o : Opened V) (x : Scene) (s : Session) (e : Explorer) → IsDesk told o e x s → AllAnswered (program_of o.program.now) x.records e
answered_here told o x s e desk = subst (λ (p : Program). AllAnswered p x.records e) desk.scene.program desk.answered

-- ---- what was said

abbrev RepliesAt : {V : Type 0} → Opened V → Scene → Explorer → List ℕ → Session → session.Reply → Type 0
RepliesAt o x e line t r = Replies (program_of o.program.now) o.program.now.lines.items x.records o.coverage.now (session_of e) line t r

said_of : {V : Type 0} (told : Told) (o : Opened V) (x : Scene) (s : Session) (e : Explorer) (line : List ℕ) (t : Session) (r : session.Reply) → IsDesk told o e x s → RepliesAt o x e line t r
    → Replies x.program x.lines x.records x.covers s line t r
said_of told o x s e line t r desk is =
    subst (λ (z : Session). Replies x.program x.lines x.records x.covers z line t r) (sym desk.session)
    (subst (λ (c : List Cover). Replies x.program x.lines x.records c (session_of e) line t r) (sym desk.scene.covers)
    (subst (λ (l : List ℕ). Replies x.program l x.records o.coverage.now (session_of e) line t r) (sym desk.scene.lines)
    (subst (λ (p : Program). Replies p o.program.now.lines.items x.records o.coverage.now (session_of e) line t r) (sym desk.scene.program) is)))

pub said_over : {V : Type 0} (told : Told) (o : Opened V) (x : Scene) (s : Session) (e next : Explorer) (line : List ℕ) (r : Reply) → IsDesk told o e x s → RepliesAt o x e line (session_of next) (reply_of r)
    → r ≡ reply.End → Said x s line (session_of next) None
said_over told o x s e next line r desk is ends = over (session_of next) (said_of told o x s e line (session_of next) session.End desk (subst (λ (z : Reply). RepliesAt o x e line (session_of next) (reply_of z)) ends is))

not_end : (r : Reply) → (r ≡ reply.End → ⊥) → reply_of r ≢ session.End
not_end (reply.At event) other is = cc
not_end (reply.Answer event) other is = cc
not_end (reply.From found) other is = cc
not_end (reply.Items items) other is = cc
not_end (reply.Frames state) other is = cc
not_end (reply.Shown value) other is = cc
not_end reply.NoSuch other is = cc
not_end reply.NothingToUndo other is = cc
not_end reply.End other is = other refl

pub said_replied : {V : Type 0} (told : Told) (o : Opened V) (x : Scene) (s : Session) (e next : Explorer) (line text : List ℕ) (r : Reply) → IsDesk told o e x s → RepliesAt o x e line (session_of next) (reply_of r)
    → (r ≡ reply.End → ⊥) → text ≡ reply_text x (reply_of r) → Said x s line (session_of next) (Some text)
said_replied told o x s e next line text r desk is some written =
    subst (λ (z : List ℕ). Said x s line (session_of next) (Some z)) (sym written) (replied (session_of next) (reply_of r) (said_of told o x s e line (session_of next) (reply_of r) desk is) (not_end r some))

-- ---- an answer is that of the last question

asked_by : (p : Program) (lines : List ℕ) (rs : List Recorded) (covers : List Cover) (s : Session) (c : Command) (t : Session) (r : session.Reply) (n : ℕ) → Does p lines rs covers s c t r → r ≡ session.Answer n → t.at.asked ≡ Some n
asked_by p lines rs covers s _ _ _ n (ask q e is) same = absurd cc
asked_by p lines rs covers s _ _ _ n (listing e is) same = is ∙ (let z : e ≡ n = cc in ap Some z)
asked_by p lines rs covers s _ _ _ n (up e k m is at leads) same = absurd cc
asked_by p lines rs covers s _ _ _ n (down e k m is at leads) same = absurd cc
asked_by p lines rs covers s _ _ _ n (go k less) same = absurd cc
asked_by p lines rs covers s _ _ _ n (sources k found is are) same = absurd cc
asked_by p lines rs covers s _ _ _ n (whynot line place k items is never are) same = absurd cc
asked_by p lines rs covers s _ _ _ n (frames k at) same = absurd cc
asked_by p lines rs covers s _ _ _ n (show k text value at worth) same = absurd cc
asked_by p lines rs covers s _ _ _ n (undo position past is) same = absurd cc
asked_by p lines rs covers s _ _ _ n (nothing is) same = absurd cc
asked_by p lines rs covers s _ _ _ n quit same = absurd cc

asked_in : (p : Program) (lines : List ℕ) (rs : List Recorded) (covers : List Cover) (s : Session) (line : List ℕ) (t : Session) (r : session.Reply) (n : ℕ) → Replies p lines rs covers s line t r → r ≡ session.Answer n → t.at.asked ≡ Some n
asked_in p lines rs covers s line _ _ n (served t r serves) same = asked_by p lines rs covers s serves.command t r n serves.does same
asked_in p lines rs covers s line _ _ n (no_such none) same = absurd cc

pub is_asked : {V : Type 0} (o : Opened V) (x : Scene) (e next : Explorer) (line : List ℕ) (r : Reply) → RepliesAt o x e line (session_of next) (reply_of r) → IsAsked next r
is_asked o x e next line (reply.At event) is = tt
is_asked o x e next line (reply.Answer event) is = asked_in (program_of o.program.now) o.program.now.lines.items x.records o.coverage.now (session_of e) line (session_of next) (session.Answer event) event is refl
is_asked o x e next line (reply.From found) is = tt
is_asked o x e next line (reply.Items items) is = tt
is_asked o x e next line (reply.Frames state) is = tt
is_asked o x e next line (reply.Shown value) is = tt
is_asked o x e next line reply.NoSuch is = tt
is_asked o x e next line reply.NothingToUndo is = tt
is_asked o x e next line reply.End is = tt

-- ---- a desk that is opened

pub opened_desk : {V : Type 0} (told : Told) (o : Opened V) (e : Explorer) (x : Scene) → session_of e ≡ session.begun → AllAnswered x.program x.records e → IsSceneIn told o x → IsDesk told o e x session.begun
opened_desk told o e x is answered scene = record { scene = scene; session = sym is; answered = answered }
