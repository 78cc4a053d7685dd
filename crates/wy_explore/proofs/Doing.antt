-- A command can be done in one way.
use Rattle.std.proofs.Common.{◌≡◌, ◌⊎◌, ◌∙◌, ℕ, ◌<◌, List, [], ◌∷◌, length, map, inl, inr, refl, sym, ap, ap₂, subst, arith, Some}
use Rattle.std.specs.List.{Contains}
use Rattle.std.proofs.lemmas.Option.{same_Some}
use Rattle.wy_kernel.specs.Program.{Program}
use Rattle.wy_kernel.specs.Statements.{statements_of}
use Rattle.wy_event.specs.declared.record.Cover.{Cover}
use Rattle.wy_event.specs.Record.{Recorded}
use Rattle.wy_event.specs.Sources as records
use Rattle.wy_ask.specs.Asked.{event_of}
use Rattle.wy_ask.specs.Lines.{numbers_on}
use Rattle.wy_ask.specs.Statements.{IsPlaced}
use Rattle.wy_ask.proofs.Rising.{one_place}
use Rattle.wy_value.specs.declared.value.Value.{Value}
use Rattle.wy_travel.specs.Backtrace.{backtrace}
use Rattle.wy_watch.specs.Watch.{IsValueOf, OneValue}
use Rattle.wy_why.specs.declared.source.Role.{Role}
use Rattle.wy_why.specs.declared.source.Role.TheVariants as role
use Rattle.wy_why.specs.declared.source.Source.{Source}
use Rattle.wy_why.specs.Sources.{role_of, source_of}
use Rattle.wy_why.proofs.Listing.{member_listed}
use Rattle.wy_why.proofs.Ordered.{sources_total}
use Rattle.wy_whynot.specs.Evidence.{Evidence}
use Rattle.wy_whynot.specs.Executed.{cover_of}
use Rattle.wy_whynot.specs.Items.{AreItems}
use Rattle.wy_whynot.specs.Laws.{ItemsAreOne}
use Rattle.wy_paths.proofs.Sorting.{sorted_same}
use Rattle.wy_explore.specs.Session.{AreSources, Command, Does, IsGreatestBelow, IsLeastAbove, OneReply, Position, Replies, RepliesTo, Reply, Says, Serves, Session, answer_to, asking, looking_at}
use Rattle.wy_explore.specs.Session as session
use Rattle.wy_explore.proofs.Lines.{one_command}

-- ---- what is found is one

one_greatest : (events : List ℕ) (n m k : ℕ) → IsGreatestBelow events n m → IsGreatestBelow events n k → m ≡ k
one_greatest events n m k a b = omega (arith, a.greatest k b.there b.below, b.greatest m a.there a.below)

one_least : (events : List ℕ) (n m k : ℕ) → IsLeastAbove events n m → IsLeastAbove events n k → m ≡ k
one_least events n m k a b = omega (arith, a.least k b.there b.above, b.least m a.there a.above)

abbrev role_back : records.Role → Role
role_back records.Data = role.Data
role_back records.Choosing = role.Choice
role_back records.Control = role.Control

abbrev back : records.Source → Source
back s = record { event = s.event; role = role_back s.role }

same_cons : {X : Type 0} (x y : X) (xs ys : List X) → x ∷ xs ≡ y ∷ ys → (x ≡ y) × (xs ≡ ys)
same_cons {X} x y xs ys e = (ap (first x) e, ap rest e)
  where
    first : X → List X → X
    first d [] = d
    first d (z ∷ zs) = z

    rest : List X → List X
    rest [] = []
    rest (z ∷ zs) = zs

nil_cons : {X : Type 0} (x : X) (xs : List X) → [] ≡ x ∷ xs → ⊥
nil_cons x xs e = cc

back_of : (s : Source) → back (source_of s) ≡ s
back_of s = ap (λ r. record { event = s.event; role = r }) (go s.role)
  where
    go : (r : Role) → role_back (role_of r) ≡ r
    go role.Data = refl
    go role.Choice = refl
    go role.Control = refl

all_back : (found : List Source) → map back (map source_of found) ≡ found
all_back [] = refl
all_back (s ∷ found) = ap₂ (λ x xs. x ∷ xs) (back_of s) (all_back found)

module _ (p : Program) (rs : List Recorded) (n : ℕ) where
  also_found : (xs ys : List Source) → AreSources p rs n xs → AreSources p rs n ys → (s : Source) → Contains xs s → Contains ys s
  also_found xs ys a b s has =
      let there : Contains (map source_of ys) (source_of s) = (b.exact (source_of s)).1 ((a.exact (source_of s)).0 (member_listed source_of xs (map source_of xs) s refl has)) in
      subst (Contains ys) (back_of s) (member_listed back (map source_of ys) ys (source_of s) (all_back ys) there)

  one_list : (xs ys : List Source) → AreSources p rs n xs → AreSources p rs n ys → xs ≡ ys
  one_list xs ys a b = sorted_same sources_total xs ys a.in_order b.in_order (also_found xs ys a b) (also_found ys xs b a)

-- ---- what is done is one

module _ (p : Program) (lines : List ℕ) (rs : List Recorded) (covers : List Cover) (s : Session) where
  -- a step to another event of the answer
  pub record Steps (to : List ℕ → ℕ → ℕ → Type 0) (t : Session) (r : Reply) : Type 0 where
    pub event : ℕ
    pub from : ℕ
    pub target : ℕ
    pub asked : s.at.asked ≡ Some event
    pub cursor : s.at.cursor ≡ Some from
    pub leads : to (answer_to p rs event) from target
    pub stands : t ≡ looking_at s target
    pub replies : r ≡ session.At (Some target)

  pub record Finds (t : Session) (r : Reply) : Type 0 where
    pub event : ℕ
    pub found : List Source
    pub cursor : s.at.cursor ≡ Some event
    pub sources : AreSources p rs event found
    pub stands : t ≡ s
    pub replies : r ≡ session.From found

  pub record Denies (line place : ℕ) (t : Session) (r : Reply) : Type 0 where
    pub statement : ℕ
    pub items : List Evidence
    pub placed : IsPlaced (numbers_on lines line (statements_of p)) place statement
    pub never : (cover_of covers statement).begins ≡ 0
    pub are : AreItems p rs covers statement items
    pub stands : t ≡ s
    pub replies : r ≡ session.Items items

  pub record Returns (t : Session) (r : Reply) : Type 0 where
    pub position : Position
    pub past : List Position
    pub is : s.past ≡ position ∷ past
    pub stands : t ≡ record { at = position; past = past }
    pub replies : r ≡ session.At position.cursor

  -- what a text is worth at the event that is looked at
  pub record Shows (text : List ℕ) (t : Session) (r : Reply) : Type 0 where
    pub event : ℕ
    pub value : Value
    pub cursor : s.at.cursor ≡ Some event
    pub worth : IsValueOf p rs event text value
    pub stands : t ≡ s
    pub replies : r ≡ session.Shown value

  -- what it is that a command does
  abbrev pub DoesAs : Command → Session → Reply → Type 0
  DoesAs (session.Ask q) t r = (e : ℕ) × (event_of p rs q ≡ Some e) × (t ≡ asking s e) × (r ≡ session.At (Some e))
  DoesAs session.Listing t r = (e : ℕ) × (s.at.asked ≡ Some e) × (t ≡ s) × (r ≡ session.Answer e)
  DoesAs session.Up t r = Steps IsGreatestBelow t r
  DoesAs session.Down t r = Steps IsLeastAbove t r
  DoesAs (session.Go n) t r = (n < length rs) × (t ≡ looking_at s n) × (r ≡ session.At (Some n))
  DoesAs session.Sources t r = Finds t r
  DoesAs (session.WhyNot line place) t r = Denies line place t r
  DoesAs session.Frames t r = (n : ℕ) × (s.at.cursor ≡ Some n) × (t ≡ s) × (r ≡ session.Backtrace (backtrace p rs n))
  DoesAs (session.Show text) t r = Shows text t r
  DoesAs session.Undo t r = Returns t r ⊎ ((s.past ≡ []) × (t ≡ s) × (r ≡ session.NothingToUndo))
  DoesAs session.Quit t r = (t ≡ s) × (r ≡ session.End)

  pub does_as : (c : Command) (t : Session) (r : Reply) → Does p lines rs covers s c t r → DoesAs c t r
  does_as _ _ _ (session.ask q e is) = (e, is, refl, refl)
  does_as _ _ _ (session.listing e is) = (e, is, refl, refl)
  does_as _ _ _ (session.up e n m asked cursor leads) = record { event = e; from = n; target = m; asked = asked; cursor = cursor; leads = leads; stands = refl; replies = refl }
  does_as _ _ _ (session.down e n m asked cursor leads) = record { event = e; from = n; target = m; asked = asked; cursor = cursor; leads = leads; stands = refl; replies = refl }
  does_as _ _ _ (session.go n lt) = (lt, refl, refl)
  does_as _ _ _ (session.sources n found cursor are) = record { event = n; found = found; cursor = cursor; sources = are; stands = refl; replies = refl }
  does_as _ _ _ (session.whynot line place n items placed never are) =
      record { statement = n; items = items; placed = placed; never = never; are = are; stands = refl; replies = refl }
  does_as _ _ _ (session.frames n cursor) = (n, cursor, refl, refl)
  does_as _ _ _ (session.show n text v cursor worth) = record { event = n; value = v; cursor = cursor; worth = worth; stands = refl; replies = refl }
  does_as _ _ _ (session.undo position past is) = inl (record { position = position; past = past; is = is; stands = refl; replies = refl })
  does_as _ _ _ (session.nothing is) = inr (is, refl, refl)
  does_as _ _ _ session.quit = (refl, refl)

  abbrev Same : Session → Session → Reply → Reply → Type 0
  Same t u r q = (t ≡ u) × (r ≡ q)

  one_step : (to : List ℕ → ℕ → ℕ → Type 0) → ((events : List ℕ) (n m k : ℕ) → to events n m → to events n k → m ≡ k)
      → (t u : Session) (r q : Reply) → Steps to t r → Steps to u q → Same t u r q
  one_step to one t u r q a b =
      let event = same_Some b.event a.event (sym b.asked ∙ a.asked) in
      let from = same_Some b.from a.from (sym b.cursor ∙ a.cursor) in
      let leads = subst (λ e. to (answer_to p rs e) a.from b.target) event (subst (λ n. to (answer_to p rs b.event) n b.target) from b.leads) in
      let target = one (answer_to p rs a.event) a.from a.target b.target a.leads leads in
      (a.stands ∙ ap (looking_at s) target ∙ sym b.stands, a.replies ∙ ap (λ m. session.At (Some m)) target ∙ sym b.replies)

  one_finding : (t u : Session) (r q : Reply) → Finds t r → Finds u q → Same t u r q
  one_finding t u r q a b =
      let event = same_Some b.event a.event (sym b.cursor ∙ a.cursor) in
      let found = one_list p rs a.event a.found b.found a.sources (subst (λ n. AreSources p rs n b.found) event b.sources) in
      (a.stands ∙ sym b.stands, a.replies ∙ ap session.From found ∙ sym b.replies)

  one_denial : ItemsAreOne → (line place : ℕ) (t u : Session) (r q : Reply) → Denies line place t r → Denies line place u q → Same t u r q
  one_denial one line place t u r q a b =
      let same = one_place (numbers_on lines line (statements_of p)) place a.statement b.statement a.placed b.placed in
      let items = one p rs covers a.statement a.items b.items a.are (subst (λ n. AreItems p rs covers n b.items) same b.are) in
      (a.stands ∙ sym b.stands, a.replies ∙ ap session.Items items ∙ sym b.replies)

  one_showing : OneValue → (text : List ℕ) (t u : Session) (r q : Reply) → Shows text t r → Shows text u q → Same t u r q
  one_showing one text t u r q a b =
      let event = same_Some b.event a.event (sym b.cursor ∙ a.cursor) in
      let value = one p rs a.event text a.value b.value a.worth (subst (λ n. IsValueOf p rs n text b.value) event b.worth) in
      (a.stands ∙ sym b.stands, a.replies ∙ ap session.Shown value ∙ sym b.replies)

  one_return : (t u : Session) (r q : Reply) → Returns t r → Returns u q → Same t u r q
  one_return t u r q a b =
      let same = same_cons a.position b.position a.past b.past (sym a.is ∙ b.is) in
      (a.stands ∙ ap₂ (λ x xs. record { at = x; past = xs }) same.0 same.1 ∙ sym b.stands, a.replies ∙ ap (λ x. session.At x.cursor) same.0 ∙ sym b.replies)

  one_deed : ItemsAreOne → OneValue → (c : Command) (t u : Session) (r q : Reply) → DoesAs c t r → DoesAs c u q → Same t u r q
  one_deed one worth (session.Ask k) t u r q (e, is, at, says) (f, also, there, tells) =
      let same = same_Some e f (sym is ∙ also) in
      (at ∙ ap (asking s) same ∙ sym there, says ∙ ap (λ n. session.At (Some n)) same ∙ sym tells)
  one_deed one worth session.Listing t u r q (e, is, at, says) (f, also, there, tells) =
      (at ∙ sym there, says ∙ ap session.Answer (same_Some e f (sym is ∙ also)) ∙ sym tells)
  one_deed one worth session.Up t u r q a b = one_step IsGreatestBelow one_greatest t u r q a b
  one_deed one worth session.Down t u r q a b = one_step IsLeastAbove one_least t u r q a b
  one_deed one worth (session.Go n) t u r q (lt, at, says) (le, there, tells) = (at ∙ sym there, says ∙ sym tells)
  one_deed one worth session.Sources t u r q a b = one_finding t u r q a b
  one_deed one worth (session.WhyNot line place) t u r q a b = one_denial one line place t u r q a b
  one_deed one worth session.Frames t u r q (n, is, at, says) (m, also, there, tells) =
      (at ∙ sym there, says ∙ ap (λ e. session.Backtrace (backtrace p rs e)) (same_Some n m (sym is ∙ also)) ∙ sym tells)
  one_deed one worth (session.Show text) t u r q a b = one_showing worth text t u r q a b
  one_deed one worth session.Undo t u r q (inl a) (inl b) = one_return t u r q a b
  one_deed one worth session.Undo t u r q (inl a) (inr b) = absurd (nil_cons a.position a.past (sym b.0 ∙ a.is))
  one_deed one worth session.Undo t u r q (inr a) (inl b) = absurd (nil_cons b.position b.past (sym a.0 ∙ b.is))
  one_deed one worth session.Undo t u r q (inr a) (inr b) = (a.1 ∙ sym b.1, a.2 ∙ sym b.2)
  one_deed one worth session.Quit t u r q a b = (a.0 ∙ sym b.0, a.1 ∙ sym b.1)

  one_serving : ItemsAreOne → OneValue → (line : List ℕ) (t u : Session) (r q : Reply) → Serves p lines rs covers s (Says line) t r → Serves p lines rs covers s (Says line) u q → Same t u r q
  one_serving one worth line t u r q a b =
      let same = one_command line b.command a.command b.meant a.meant in
      one_deed one worth a.command t u r q (does_as a.command t r a.does) (does_as a.command u q (subst (λ c. Does p lines rs covers s c u q) same b.does))

  one : ItemsAreOne → OneValue → (line : List ℕ) (t u : Session) (r q : Reply) → Replies p lines rs covers s line t r → Replies p lines rs covers s line u q → Same t u r q
  one items worth line _ _ _ _ (session.served t r a) (session.served u q b) = one_serving items worth line t u r q a b
  one items worth line _ _ _ _ (session.served t r a) (session.no_such none) = absurd (none t r a)
  one items worth line _ _ _ _ (session.no_such none) (session.served u q b) = absurd (none u q b)
  one items worth line _ _ _ _ (session.no_such none) (session.no_such nothing) = (refl, refl)

pub one_reply_to_line : ItemsAreOne → OneValue → OneReply
one_reply_to_line items worth p lines rs covers s line t u r q a b = one p lines rs covers s items worth line t u r q a b
