-- What a state of a run has executed and crossed, and what is reached in it; all of this stays.
use Rattle.std.proofs.Common.{◌≡◌, ◌<◌, ◌∙◌, ◌⊎◌, ⊎_elim, ℕ, Bool, true, false, List, Option, Some, refl}
use Rattle.std.specs.Prelude.{None as Absent}
use Rattle.wy_kernel.specs.Program.{Program}
use Rattle.wy_kernel.specs.View.{NONE}
use Rattle.wy_value.specs.declared.value.Value.{Value}
use Rattle.wy_value.specs.declared.value.Value.TheVariants as val
use Rattle.wy_event.specs.declared.record.Kind.{Kind}
use Rattle.wy_event.specs.declared.record.Kind.TheVariants as kind
use Rattle.wy_event.specs.Record.{Recorded}
use Rattle.wy_index.specs.Found.{body_as, number}
use Rattle.wy_steps.specs.Sets.{Sets}
use Rattle.wy_steps.specs.State.{Noted, State}
use Rattle.wy_steps.specs.Steps.{event_in}
use Rattle.wy_typing.specs.Types.{text_type}
use Rattle.law_typed_states.specs.Typed.{made_type}
use Rattle.law_typed_states.proofs.Moments.{Later}
use Rattle.wy_static.specs.declared.point.Point.{Point}
use Rattle.wy_static.specs.declared.point.Point.TheVariants as point
use Rattle.wy_static.specs.declared.point.LinkKind.{LinkKind}
use Rattle.wy_static.specs.declared.point.LinkKind.TheVariants as link_kind
use Rattle.wy_static.specs.declared.point.Link.{Link}
use Rattle.wy_static.specs.Links.{IsLink}
use Rattle.wy_static.specs.LookUps.{method_of}
use Rattle.law_reached.specs.Laws.{IsPoint}

-- ---- events

pub record Happened {A : Sets} (n : List (Noted A)) (Q : Recorded → Type 0) : Type 0 where
  pub number : ℕ
  pub event : Recorded
  pub there : event_in n number ≡ Some event
  pub is : Q event

-- the number of the arm of a truth
abbrev pub arm_number : Bool → ℕ
arm_number true = 1
arm_number false = 0

-- an event of such a kind, site, target and value shows that the point was executed
abbrev pub ShownBy : Point → Kind → ℕ → Option ℕ → Value → Type 0
ShownBy (point.Entry m) k site entity v = (k ≡ kind.Call) × (entity ≡ Some m)
ShownBy (point.Init c) k site entity v = (k ≡ kind.Init) × (entity ≡ Some c)
ShownBy (point.Arm s n) k site entity v = (k ≡ kind.Test) × (site ≡ s) × (v ≡ val.Arm n)
ShownBy (point.Catch s) k site entity v = (k ≡ kind.Catch) × (site ≡ s)
ShownBy point.Start k site entity v = ⊥
ShownBy (point.Statement n) k site entity v = ⊥

-- a call, or an initialization, that begins at the point
abbrev pub BegunBy : Point → Kind → Option ℕ → Type 0
BegunBy (point.Entry m) k entity = (k ≡ kind.Call) × (entity ≡ Some m)
BegunBy (point.Init c) k entity = (k ≡ kind.Init) × (entity ≡ Some c)
BegunBy point.Start k entity = ⊥
BegunBy (point.Statement n) k entity = ⊥
BegunBy (point.Arm s n) k entity = ⊥
BegunBy (point.Catch s) k entity = ⊥

abbrev pub Shows : Point → Recorded → Type 0
Shows q e = ShownBy q e.kind e.site e.entity e.value

abbrev pub Begins : Point → Recorded → Type 0
Begins q e = BegunBy q e.kind e.entity

abbrev pub IsCalling : Kind → Type 0
IsCalling kind.Call = Unit {0}
IsCalling kind.Init = Unit {0}
IsCalling _ = ⊥

-- a New that makes a String
abbrev pub MakesText : Recorded → Type 0
MakesText e = (e.kind ≡ kind.New) × (made_type e ≡ text_type)

module _ {A : Sets} where
  -- the frame is of the body of this number
  abbrev pub CallerIs : List (Noted A) → Option ℕ → ℕ → Type 0
  CallerIs n Absent b = b ≡ NONE
  CallerIs n (Some f) b = (e : Recorded) × (event_in n f ≡ Some e) × (body_as e.kind (number e.entity) ≡ b)

  pub caller_up : (m n : List (Noted A)) (f : Option ℕ) (b : ℕ) → Later m n → CallerIs m f b → CallerIs n f b
  caller_up m n Absent b le h = h
  caller_up m n (Some f) b le h = (h.0, le f h.0 h.1, h.2)

  pub happened_up : (m n : List (Noted A)) (Q : Recorded → Type 0) → Later m n → Happened m Q → Happened n Q
  happened_up m n Q le h = record { number = h.number; event = h.event; there = le h.number h.event h.there; is = h.is }

  -- the second state comes after the first, in the same body
  pub record Grows (s t : State A) : Type 0 where
    pub later : Later s.noted t.noted
    pub begun : (n : ℕ) → 0 < (s.coverage n).begins → 0 < (t.coverage n).begins
    pub frame : t.frame ≡ s.frame

  pub grows_nowhere : (s : State A) → Grows s s
  grows_nowhere s = record { later = λ k e h. h; begun = λ n h. h; frame = refl }

  pub grows_on : (s t u : State A) → Grows s t → Grows t u → Grows s u
  grows_on s t u g h = record { later = λ k e i. h.later k e (g.later k e i); begun = λ n i. h.begun n (g.begun n i); frame = h.frame ∙ g.frame }

  module _ (p : Program) where
    abbrev pub Executed : State A → Point → Type 0
    Executed s point.Start = Unit {0}
    Executed s (point.Statement n) = (0 < (s.coverage n).begins) × (n < p.statements)
    Executed s (point.Entry m) = Happened s.noted (Shows (point.Entry m))
    Executed s (point.Init c) = Happened s.noted (Shows (point.Init c))
    Executed s (point.Arm site v) = Happened s.noted (Shows (point.Arm site v))
    Executed s (point.Catch site) = Happened s.noted (Shows (point.Catch site))

    -- what holds of the lists of events and of the coverage
    abbrev pub Wider : State A → State A → Type 0
    Wider s t = Later s.noted t.noted × ((n : ℕ) → 0 < (s.coverage n).begins → 0 < (t.coverage n).begins)

    pub executed_up : (s t : State A) (q : Point) → Wider s t → Executed s q → Executed t q
    executed_up s t point.Start g h = tt
    executed_up s t (point.Statement n) g h = (g.1 n h.0, h.1)
    executed_up s t (point.Entry m) g h = happened_up s.noted t.noted (Shows (point.Entry m)) g.0 h
    executed_up s t (point.Init c) g h = happened_up s.noted t.noted (Shows (point.Init c)) g.0 h
    executed_up s t (point.Arm site v) g h = happened_up s.noted t.noted (Shows (point.Arm site v)) g.0 h
    executed_up s t (point.Catch site) g h = happened_up s.noted t.noted (Shows (point.Catch site)) g.0 h

    -- a Call or Init of the link's target stands at its site, in the body in which its source stands
    pub record Taken (s : State A) (l : Link) : Type 0 where
      pub number : ℕ
      pub event : Recorded
      pub there : event_in s.noted number ≡ Some event
      pub begins : Begins l.to event
      pub site : event.site ≡ l.site
      pub caller : CallerIs s.noted event.frame (method_of p l.from)

    abbrev pub CrossedAs : LinkKind → State A → Link → Type 0
    CrossedAs link_kind.Call s l = Taken s l
    CrossedAs link_kind.Into s l = Executed s l.from × Executed s l.to
    CrossedAs link_kind.Next s l = Executed s l.from × Executed s l.to
    CrossedAs (link_kind.Arm v) s l = Executed s l.from × Executed s l.to
    CrossedAs link_kind.Catch s l = Executed s l.from × Executed s l.to

    abbrev pub Crossed : State A → Link → Type 0
    Crossed s l = CrossedAs l.kind s l

    pub taken_up : (s t : State A) (l : Link) → Wider s t → Taken s l → Taken t l
    taken_up s t l g h = record { number = h.number; event = h.event; there = g.0 h.number h.event h.there; begins = h.begins; site = h.site; caller = caller_up s.noted t.noted h.event.frame _ g.0 h.caller }

    pub crossed_up : (s t : State A) (k : LinkKind) (l : Link) → Wider s t → CrossedAs k s l → CrossedAs k t l
    crossed_up s t link_kind.Call l g h = taken_up s t l g h
    crossed_up s t link_kind.Into l g h = (executed_up s t l.from g h.0, executed_up s t l.to g h.1)
    crossed_up s t link_kind.Next l g h = (executed_up s t l.from g h.0, executed_up s t l.to g h.1)
    crossed_up s t (link_kind.Arm v) l g h = (executed_up s t l.from g h.0, executed_up s t l.to g h.1)
    crossed_up s t link_kind.Catch l g h = (executed_up s t l.from g h.0, executed_up s t l.to g h.1)

    -- Start is reached, and what a crossed link leads to from a point that is
    pub data Reached (s : State A) : Point → Type 0 where
      at_start : Reached s point.Start
      onward : (l : Link) (q : Point) → IsLink p l → Crossed s l → Reached s l.from → l.to ≡ q → Reached s q

    pub reached_up : (s t : State A) (q : Point) → Wider s t → Reached s q → Reached t q
    reached_up s t q g at_start = at_start
    reached_up s t q g (onward l r i c h e) = onward l r i (crossed_up s t l.kind l g c) (reached_up s t l.from g h) e

    -- a link of the program is called along by the event, from an executed point
    pub record Stands (s : State A) (e : Recorded) : Type 0 where
      pub link : Link
      pub is_link : IsLink p link
      pub is_call : link.kind ≡ link_kind.Call
      pub begins : Begins link.to e
      pub site : e.site ≡ link.site
      pub caller : CallerIs s.noted e.frame (method_of p link.from)
      pub executed : Executed s link.from

    pub stands_up : (s t : State A) (e : Recorded) → Wider s t → Stands s e → Stands t e
    stands_up s t e g h = record { link = h.link; is_link = h.is_link; is_call = h.is_call; begins = h.begins; site = h.site; caller = caller_up s.noted t.noted e.frame _ g.0 h.caller; executed = executed_up s t h.link.from g h.executed }

    -- ---- what every state of a run keeps

    pub record Sound (s : State A) (e : Recorded) : Type 0 where
      pub stands : IsCalling e.kind → Stands s e
      pub no_text : MakesText e → ⊥

    pub record Inv (s : State A) : Type 0 where
      pub reached : (q : Point) → IsPoint p q → Executed s q → Reached s q
      pub sound : (k : ℕ) (e : Recorded) → event_in s.noted k ≡ Some e → Sound s e

    pub sound_up : (s t : State A) (e : Recorded) → Wider s t → Sound s e → Sound t e
    sound_up s t e g h = record { stands = λ c. stands_up s t e g (h.stands c); no_text = h.no_text }

    -- it is kept where what is new is reached and sound
    pub inv_on : (s t : State A) → Wider s t → Inv s → ((q : Point) → IsPoint p q → Executed t q → Executed s q ⊎ Reached t q)
        → ((k : ℕ) (e : Recorded) → event_in t.noted k ≡ Some e → (event_in s.noted k ≡ Some e) ⊎ Sound t e) → Inv t
    inv_on s t g i f h = record {
      reached = λ q x e. ⊎_elim (λ (o : Executed s q). reached_up s t q g (i.reached q x o)) (λ (r : Reached t q). r) (f q x e);
      sound = λ k e there. ⊎_elim (λ (o : event_in s.noted k ≡ Some e). sound_up s t e g (i.sound k e o)) (λ (r : Sound t e). r) (h k e there);
    }
