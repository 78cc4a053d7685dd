-- What an explorer does and answers, as what a session does and is answered.
use Rattle.std.proofs.Common.{◌≡◌, ◌∙◌, ℕ, ◌-◌, ◌<◌, ◌≤◌, List, [], ◌∷◌, length, refl, sym, ap, subst, arith}
use Rattle.std.specs.Prelude.{Some}
use Rattle.std.specs.Prelude.{None as Absent}
use Rattle.std.proofs.lemmas.List.Sorted.{length_permutation}
use Rattle.std.proofs.lemmas.Option.{none-some, same_Some, slice_get_within}
use Rattle.wy_kernel.specs.Program.{Program}
use Rattle.wy_kernel.specs.Statements.{statements_of}
use Rattle.wy_event.specs.declared.record.Cover.{Cover}
use Rattle.wy_event.specs.Record.{Recorded}
use Rattle.wy_ask.specs.Lines.{numbers_on}
use Rattle.wy_ask.specs.Statements.{IsPlaced, Names, SpellsStatement}
use Rattle.wy_ask.specs.Words.{number_of}
use Rattle.wy_ask.proofs.Rising.{one_place}
use Rattle.wy_value.specs.declared.value.Value.{Value}
use Rattle.wy_travel.specs.Backtrace.{backtrace}
use Rattle.wy_watch.specs.Watch.{HasNoValue, IsValueOf}
use Rattle.wy_watch.specs.Watched.{watch_limit}
use Rattle.wy_why.specs.declared.source.Source.{Source}
use Rattle.wy_whynot.specs.Evidence.{Evidence}
use Rattle.wy_whynot.specs.Executed.{cover_of}
use Rattle.wy_whynot.specs.Items.{AreItems}
use Rattle.wy_explore.specs.declared.command.Command as read
use Rattle.wy_explore.specs.Commands.{Ask, AsksAbout, Down, Frames, Go, IsMeant, Listing, Quit, Reads, Show, Sources, Undo, Up, WhyNot, Worded, worded}
use Rattle.wy_explore.specs.Session.{AreSources, Command, Does, IsGreatestBelow, IsLeastAbove, Position, Replies, RepliesTo, Reply, Says, Serves, Session, answer_to, asking, looking_at}
use Rattle.wy_explore.specs.Session as session
use Rattle.wy_explore.proofs.Doing.{Denies, DoesAs, Shows, Steps, does_as}

module _ (p : Program) (lines : List ℕ) (rs : List Recorded) (covers : List Cover) (s : Session) where
  -- other words for the same commands
  pub meant_also : (A B : Command → Type 0) → ((c : Command) → A c → B c) → ((c : Command) → B c → A c) → (t : Session) (r : Reply)
      → RepliesTo p lines rs covers s A t r → RepliesTo p lines rs covers s B t r
  meant_also A B to back _ _ (session.served t r serves) = session.served t r (record { command = serves.command; meant = to serves.command serves.meant; does = serves.does })
  meant_also A B to back _ _ (session.no_such none) = session.no_such (λ t r serves. none t r (record { command = serves.command; meant = back serves.command serves.meant; does = serves.does }))

  pub reply_to_line : (line : List ℕ) (command : read.Command) (t : Session) (r : Reply) → Reads line (Some command)
      → RepliesTo p lines rs covers s (IsMeant (worded command)) t r → Replies p lines rs covers s line t r
  reply_to_line line command t r reads replies = meant_also (IsMeant (worded command)) (Says line) (λ c. (reads c).1) (λ c. (reads c).0) t r replies

  pub reply_to_none : (line : List ℕ) → Reads line Absent → Replies p lines rs covers s line s session.NoSuch
  reply_to_none line none = session.no_such (λ t r serves. none serves.command serves.meant)

  abbrev Told : Worded → Session → Reply → Type 0
  Told c t r = RepliesTo p lines rs covers s (IsMeant c) t r

  done : (c : Worded) (d : Command) (t : Session) (r : Reply) → IsMeant c d → Does p lines rs covers s d t r → Told c t r
  done c d t r meant does = session.served t r (record { command = d; meant = meant; does = does })

  undone : (c : Worded) → ((d : Command) (t : Session) (r : Reply) → IsMeant c d → DoesAs p lines rs covers s d t r → ⊥) → Told c s session.NoSuch
  undone c none = session.no_such (λ t r serves. none serves.command t r serves.meant (does_as p lines rs covers s serves.command t r serves.does))

  -- a command that is said without other words
  undone_one : (c : Worded) (d : Command) → ((e : Command) → IsMeant c e → e ≡ d) → ((t : Session) (r : Reply) → DoesAs p lines rs covers s d t r → ⊥) → Told c s session.NoSuch
  undone_one c d only none = undone c (λ e t r meant does. none t r (subst (λ e. DoesAs p lines rs covers s e t r) (only e meant) does))

  -- ---- ask

  pub asked : (word : List ℕ) (event : ℕ) (t : Session) → AsksAbout p rs word (Some event) → t ≡ asking s event → Told (Ask word) t (session.At (Some event))
  asked word event t (q, spells, is) at = subst (λ u. Told (Ask word) u (session.At (Some event))) (sym at) (done (Ask word) (session.Ask q) (asking s event) (session.At (Some event)) (q, spells, refl) (session.ask q event is))

  pub not_asked : (word : List ℕ) → AsksAbout p rs word Absent → Told (Ask word) s session.NoSuch
  not_asked word none = undone (Ask word) (λ d t r (q, spells, is) does.
      let deed = subst (λ e. DoesAs p lines rs covers s e t r) is does in
      none q deed.0 spells deed.1)

  -- ---- list

  pub listed : (event : ℕ) → s.at.asked ≡ Some event → Told Listing s (session.Answer event)
  listed event is = done Listing session.Listing s (session.Answer event) refl (session.listing event is)

  pub not_listed : s.at.asked ≡ Absent → Told Listing s session.NoSuch
  not_listed none = undone_one Listing session.Listing (λ e m. m) (λ t r (event, is, at, says). none-some event (sym none ∙ is))

  -- ---- up and down

  pub went_up : (event from target : ℕ) (t : Session) → s.at.asked ≡ Some event → s.at.cursor ≡ Some from → IsGreatestBelow (answer_to p rs event) from target
      → t ≡ looking_at s target → Told Up t (session.At t.at.cursor)
  went_up event from target t asked cursor leads at =
      subst (λ u. Told Up u (session.At u.at.cursor)) (sym at) (done Up session.Up (looking_at s target) (session.At (Some target)) refl (session.up event from target asked cursor leads))

  pub not_up : ((t : Session) (r : Reply) → Steps p lines rs covers s IsGreatestBelow t r → ⊥) → Told Up s session.NoSuch
  not_up none = undone_one Up session.Up (λ e m. m) none

  pub went_down : (event from target : ℕ) (t : Session) → s.at.asked ≡ Some event → s.at.cursor ≡ Some from → IsLeastAbove (answer_to p rs event) from target
      → t ≡ looking_at s target → Told Down t (session.At t.at.cursor)
  went_down event from target t asked cursor leads at =
      subst (λ u. Told Down u (session.At u.at.cursor)) (sym at) (done Down session.Down (looking_at s target) (session.At (Some target)) refl (session.down event from target asked cursor leads))

  pub not_down : ((t : Session) (r : Reply) → Steps p lines rs covers s IsLeastAbove t r → ⊥) → Told Down s session.NoSuch
  not_down none = undone_one Down session.Down (λ e m. m) none

  -- ---- go

  pub went : (word : List ℕ) (n : ℕ) (t : Session) → number_of word ≡ Some n → n < length rs → t ≡ looking_at s n → Told (Go word) t (session.At (Some n))
  went word n t is lt at = subst (λ u. Told (Go word) u (session.At (Some n))) (sym at) (done (Go word) (session.Go n) (looking_at s n) (session.At (Some n)) (n, is, refl) (session.go n lt))

  pub too_far : (word : List ℕ) (n : ℕ) → number_of word ≡ Some n → length rs ≤ n → Told (Go word) s session.NoSuch
  too_far word n is le = undone (Go word) (λ d t r (m, number, at) does.
      let deed = subst (λ e. DoesAs p lines rs covers s e t r) at does in
      omega (arith, deed.0, le, same_Some m n (sym number ∙ is)))

  pub no_number : (word : List ℕ) → number_of word ≡ Absent → Told (Go word) s session.NoSuch
  no_number word none = undone (Go word) (λ d t r (m, number, at) does. none-some m (sym none ∙ number))

  -- ---- sources

  pub found : (event : ℕ) (sources : List Source) → s.at.cursor ≡ Some event → AreSources p rs event sources → Told Sources s (session.From sources)
  found event sources cursor are = done Sources session.Sources s (session.From sources) refl (session.sources event sources cursor are)

  pub not_found : s.at.cursor ≡ Absent → Told Sources s session.NoSuch
  not_found none = undone_one Sources session.Sources (λ e m. m) (λ t r finds. none-some finds.event (sym none ∙ finds.cursor))

  -- ---- why not

  abbrev IsNamed : List ℕ → ℕ → ℕ → ℕ → Type 0
  IsNamed word line place n = Names word line place × IsPlaced (numbers_on lines line (statements_of p)) place n

  pub denied : (word : List ℕ) (line place n : ℕ) (items : List Evidence) → IsNamed word line place n → (cover_of covers n).begins ≡ 0 → AreItems p rs covers n items
      → Told (WhyNot word) s (session.Items items)
  denied word line place n items (names, placed) never are =
      done (WhyNot word) (session.WhyNot line place) s (session.Items items) (line, place, names.spelled, refl) (session.whynot line place n items placed never are)

  -- what is denied is denied of the statement of the word's line and place
  denies_named : (word : List ℕ) (line place : ℕ) → Names word line place → (d : Command) (t : Session) (r : Reply) → IsMeant (WhyNot word) d → DoesAs p lines rs covers s d t r
      → Denies p lines rs covers s line place t r
  denies_named word line place names d t r (l, k, spells, is) does =
      let same = names.only l k spells in
      let here : Denies p lines rs covers s l k t r = subst (λ e. DoesAs p lines rs covers s e t r) is does in
      subst (λ m. Denies p lines rs covers s line m t r) same.1 (subst (λ m. Denies p lines rs covers s m k t r) same.0 here)

  pub ran : (word : List ℕ) (line place n : ℕ) → IsNamed word line place n → ((cover_of covers n).begins ≡ 0 → ⊥) → Told (WhyNot word) s session.NoSuch
  ran word line place n (names, placed) began = undone (WhyNot word) (λ d t r meant does.
      let denies = denies_named word line place names d t r meant does in
      let same : denies.statement ≡ n = one_place (numbers_on lines line (statements_of p)) place n denies.statement placed denies.placed in
      began (ap (λ m. (cover_of covers m).begins) (sym same) ∙ denies.never))

  pub not_there : (word : List ℕ) (line place : ℕ) → Names word line place → length (numbers_on lines line (statements_of p)) < place → Told (WhyNot word) s session.NoSuch
  not_there word line place names short = undone (WhyNot word) (λ d t r meant does.
      let denies = denies_named word line place names d t r meant does in
      let placed = denies.placed in
      omega (
        arith,
        short,
        slice_get_within placed.rising (place - 1) denies.statement placed.there,
        length_permutation (numbers_on lines line (statements_of p)) placed.rising placed.rises.same,
      ))

  pub not_named : (word : List ℕ) → ((line place : ℕ) → SpellsStatement line place word → ⊥) → Told (WhyNot word) s session.NoSuch
  not_named word none = undone (WhyNot word) (λ d t r (line, place, spells, is) does. none line place spells)

  -- ---- frames

  pub framed : (event : ℕ) → s.at.cursor ≡ Some event → Told Frames s (session.Backtrace (backtrace p rs event))
  framed event cursor = done Frames session.Frames s (session.Backtrace (backtrace p rs event)) refl (session.frames event cursor)

  pub not_framed : s.at.cursor ≡ Absent → Told Frames s session.NoSuch
  not_framed none = undone_one Frames session.Frames (λ e m. m) (λ t r (event, is, at, says). none-some event (sym none ∙ is))

  -- ---- show

  pub shown : (text : List ℕ) (event : ℕ) (v : Value) → length text ≤ watch_limit → s.at.cursor ≡ Some event → IsValueOf p rs event text v → Told (Show text) s (session.Shown v)
  shown text event v short cursor worth = done (Show text) (session.Show text) s (session.Shown v) (short, refl) (session.show event text v cursor worth)

  -- what is shown is shown of this text
  not_shown : (text : List ℕ) → ((t : Session) (r : Reply) → length text ≤ watch_limit → Shows p lines rs covers s text t r → ⊥) → Told (Show text) s session.NoSuch
  not_shown text none = undone (Show text) (λ d t r (short, is) does. none t r short (subst (λ e. DoesAs p lines rs covers s e t r) is does))

  pub not_looked : (text : List ℕ) → s.at.cursor ≡ Absent → Told (Show text) s session.NoSuch
  not_looked text none = not_shown text (λ t r short shows. none-some shows.event (sym none ∙ shows.cursor))

  pub too_long : (text : List ℕ) → watch_limit < length text → Told (Show text) s session.NoSuch
  too_long text long = not_shown text (λ t r short shows. omega (arith, long, short))

  pub worthless : (text : List ℕ) (event : ℕ) → s.at.cursor ≡ Some event → HasNoValue p rs event text → Told (Show text) s session.NoSuch
  worthless text event cursor none = not_shown text (λ t r short shows.
      none shows.value (subst (λ n. IsValueOf p rs n text shows.value) (same_Some shows.event event (sym shows.cursor ∙ cursor)) shows.worth))

  -- ---- undo and quit

  pub went_back : (position : Position) (past : List Position) (t : Session) → s.past ≡ position ∷ past → t ≡ record { at = position; past = past } → Told Undo t (session.At t.at.cursor)
  went_back position past t is at =
      subst (λ u. Told Undo u (session.At u.at.cursor)) (sym at) (done Undo session.Undo (record { at = position; past = past }) (session.At position.cursor) refl (session.undo position past is))

  pub nothing : s.past ≡ [] → Told Undo s session.NothingToUndo
  nothing is = done Undo session.Undo s session.NothingToUndo refl (session.nothing is)

  pub over : Told Quit s session.End
  over = done Quit session.Quit s session.End refl session.quit
