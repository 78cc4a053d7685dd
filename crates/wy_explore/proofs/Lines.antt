-- A line is read as the command that it says, which is one.
use Rattle.std.proofs.Common.{◌≡◌, ◌∙◌, ℕ, Bool, true, false, List, ◌++◌, Some, refl, sym, ap, ap₂, subst}
use Rattle.std.specs.Prelude.{None as Absent, Option, codes, if◌then◌else◌, option_map}
use Rattle.std.specs.Str.{bytes_eq, IsUtf8}
use Rattle.std.proofs.lemmas.Option.{none-some, same_Some, some_pair_parts}
use Rattle.std.proofs.lemmas.Slice.Eq.{bytes_eq-Decides}
use Rattle.wy_ask.specs.Questions.{Asked, Spells}
use Rattle.wy_ask.specs.Reading.{behind, by_front}
use Rattle.wy_ask.proofs.Fronts.{behind_only, behind_there}
use Rattle.wy_ask.proofs.Named as named
use Rattle.wy_ask.proofs.Spellings as spellings
use Rattle.wy_explore.specs.declared.command.Command as read
use Rattle.wy_explore.specs.Commands.{Ask, Down, Frames, Go, IsMeant, Listing, Quit, Reads, Show, Sources, Undo, Up, WhyNot, Worded, command_in, said_in, short_in, worded}
use Rattle.wy_explore.specs.Session.{Command, Says}
use Rattle.wy_explore.specs.Session as session
use Rattle.wy_explore.proofs.Ascii.{ShowsNothing, command_is_text}

-- ---- a line means one command

abbrev Meant : Option Worded → Command → Type 0
Meant Absent c = ⊥
Meant (Some w) c = IsMeant w c

meant : (line : List ℕ) (c : Command) → Says line c → Meant (said_in line) c
meant _ _ (session.ask q word spells) = (q, spells, refl)
meant _ _ session.listing = refl
meant _ _ session.up = refl
meant _ _ session.down = refl
meant _ _ (session.go n word is) = (n, is, refl)
meant _ _ session.sources = refl
meant _ _ (session.whynot line place word spells) = (line, place, spells, refl)
meant _ _ session.frames = refl
meant _ _ (session.show text short) = (short, refl)
meant _ _ session.undo = refl
meant _ _ session.quit = refl

one_question : (word : List ℕ) (q r : Asked) → Spells q word → Spells r word → q ≡ r
one_question word q r a b = same_Some q r (sym (spellings.read q word a) ∙ spellings.read r word b)

one_meaning : (o : Option Worded) (c d : Command) → Meant o c → Meant o d → c ≡ d
one_meaning Absent c d a b = absurd a
one_meaning (Some (Ask word)) c d (q, a, is) (r, b, at) = is ∙ ap session.Ask (one_question word q r a b) ∙ sym at
one_meaning (Some Listing) c d a b = a ∙ sym b
one_meaning (Some Up) c d a b = a ∙ sym b
one_meaning (Some Down) c d a b = a ∙ sym b
one_meaning (Some (Go word)) c d (n, a, is) (m, b, at) = is ∙ ap session.Go (same_Some n m (sym a ∙ b)) ∙ sym at
one_meaning (Some Sources) c d a b = a ∙ sym b
one_meaning (Some (WhyNot word)) c d (l, k, a, is) (m, j, b, at) =
    let same = some_pair_parts l m k j (sym (named.read l k word a) ∙ named.read m j word b) in
    is ∙ ap₂ session.WhyNot same.0 same.1 ∙ sym at
one_meaning (Some Frames) c d a b = a ∙ sym b
one_meaning (Some (Show text)) c d a b = a.1 ∙ sym b.1
one_meaning (Some Undo) c d a b = a ∙ sym b
one_meaning (Some Quit) c d a b = a ∙ sym b

pub one_command : (line : List ℕ) (c d : Command) → Says line c → Says line d → c ≡ d
one_command line c d a b = one_meaning (said_in line) c d (meant line c a) (meant line d b)

-- ---- and says it

abbrev Said : List ℕ → Worded → Type 0
Said line w = (c : Command) → IsMeant w c → Says line c

front_cases : {X Y P : Type 0} (o : Option X) (f : X → Option Y) (other : Option Y) (y : Y) → by_front o f other ≡ Some y → ((x : X) → o ≡ Some x → f x ≡ Some y → P) → (other ≡ Some y → P) → P
front_cases Absent f other y e there absent = absent e
front_cases (Some x) f other y e there absent = there x refl e

test_cases : {Y P : Type 0} (b : Bool) (x : Y) (other : Option Y) (y : Y) → (if b then Some x else other) ≡ Some y → (b ≡ true → x ≡ y → P) → (other ≡ Some y → P) → P
test_cases true x other y e there absent = there refl (same_Some x y e)
test_cases false x other y e there absent = absent e

-- a command of one word is said by that word
short_said : (line word : List ℕ) (v : Worded) (c : Command) → ((d : Command) → IsMeant v d → d ≡ c) → Says word c → bytes_eq line word ≡ true → Said line v
short_said line word v c only says is d means = subst (Says line) (sym (only d means)) (subst (λ l. Says l c) (sym ((bytes_eq-Decides line word).0 is)) says)

short : (line : List ℕ) (w : Worded) → short_in line ≡ Some w → Said line w
short line w e =
    test_cases (bytes_eq line (codes "list")) Listing _ w e (λ is at. subst (Said line) at (short_said line (codes "list") Listing session.Listing (λ d m. m) session.listing is)) (λ e.
    test_cases (bytes_eq line (codes "up")) Up _ w e (λ is at. subst (Said line) at (short_said line (codes "up") Up session.Up (λ d m. m) session.up is)) (λ e.
    test_cases (bytes_eq line (codes "down")) Down _ w e (λ is at. subst (Said line) at (short_said line (codes "down") Down session.Down (λ d m. m) session.down is)) (λ e.
    test_cases (bytes_eq line (codes "sources")) Sources _ w e (λ is at. subst (Said line) at (short_said line (codes "sources") Sources session.Sources (λ d m. m) session.sources is)) (λ e.
    test_cases (bytes_eq line (codes "frames")) Frames _ w e (λ is at. subst (Said line) at (short_said line (codes "frames") Frames session.Frames (λ d m. m) session.frames is)) (λ e.
    test_cases (bytes_eq line (codes "undo")) Undo _ w e (λ is at. subst (Said line) at (short_said line (codes "undo") Undo session.Undo (λ d m. m) session.undo is)) (λ e.
    test_cases (bytes_eq line (codes "quit")) Quit Absent w e (λ is at. subst (Said line) at (short_said line (codes "quit") Quit session.Quit (λ d m. m) session.quit is)) (λ e.
    absurd (none-some w e))))))))

ask_said : (word : List ℕ) → Said (codes "ask " ++ word) (Ask word)
ask_said word c (q, spells, is) = subst (Says (codes "ask " ++ word)) (sym is) (session.ask q word spells)

go_said : (word : List ℕ) → Said (codes "go " ++ word) (Go word)
go_said word c (n, number, is) = subst (Says (codes "go " ++ word)) (sym is) (session.go n word number)

whynot_said : (word : List ℕ) → Said (codes "whynot " ++ word) (WhyNot word)
whynot_said word c (line, place, spells, is) = subst (Says (codes "whynot " ++ word)) (sym is) (session.whynot line place word spells)

show_said : (text : List ℕ) → Said (codes "show " ++ text) (Show text)
show_said text c (short, is) = subst (Says (codes "show " ++ text)) (sym is) (session.show text short)

text_said : (line : List ℕ) (w : Worded) → command_in line ≡ Some w → Said line w
text_said line w e =
    front_cases (behind (codes "ask ") line) (λ word. Some (Ask word)) _ w e
    (λ word is f. subst (Said line) (same_Some (Ask word) w f) (subst (λ l. Said l (Ask word)) (sym (behind_only (codes "ask ") line word is)) (ask_said word)))
    (λ e. front_cases (behind (codes "go ") line) (λ word. Some (Go word)) _ w e
    (λ word is f. subst (Said line) (same_Some (Go word) w f) (subst (λ l. Said l (Go word)) (sym (behind_only (codes "go ") line word is)) (go_said word)))
    (λ e. front_cases (behind (codes "whynot ") line) (λ word. Some (WhyNot word)) _ w e
    (λ word is f. subst (Said line) (same_Some (WhyNot word) w f) (subst (λ l. Said l (WhyNot word)) (sym (behind_only (codes "whynot ") line word is)) (whynot_said word)))
    (λ e. short line w e)))

said : (line : List ℕ) (w : Worded) → said_in line ≡ Some w → Said line w
said line w e =
    front_cases (behind (codes "show ") line) (λ text. Some (Show text)) _ w e
    (λ text is f. subst (Said line) (same_Some (Show text) w f) (subst (λ l. Said l (Show text)) (sym (behind_only (codes "show ") line text is)) (show_said text)))
    (λ e. text_said line w e)

pub reads_line : (line : List ℕ) (r : Option read.Command) → option_map worded r ≡ said_in line → Reads line r
reads_line line Absent is = λ c says. subst (λ o. Meant o c) (sym is) (meant line c says)
reads_line line (Some command) is = λ c. (λ says. subst (λ o. Meant o c) (sym is) (meant line c says), λ means. said line (worded command) (sym is) c means)

-- ---- with nothing to be shown, or with it

abbrev Front : List ℕ → Option (List ℕ)
Front line = behind (codes "show ") line

abbrev with_front : Option (List ℕ) → List ℕ → Option Worded
with_front front line = by_front front (λ text. Some (Show text)) (command_in line)

pub reads_text : (line : List ℕ) (r : Option read.Command) → Front line ≡ Absent → option_map worded r ≡ command_in line → Reads line r
reads_text line r other is = reads_line line r (is ∙ ap (λ front. with_front front line) (sym other))

pub reads_shown : (line text : List ℕ) (command : read.Command) → Front line ≡ Some text → worded command ≡ Show text → Reads line (Some command)
reads_shown line text command there is = reads_line line (Some command) (ap Some is ∙ ap (λ front. with_front front line) (sym there))

shows_nothing : (line : List ℕ) (c : Command) → Says line c → Front line ≡ Absent → ShowsNothing c
shows_nothing _ _ (session.ask q word spells) other = tt
shows_nothing _ _ session.listing other = tt
shows_nothing _ _ session.up other = tt
shows_nothing _ _ session.down other = tt
shows_nothing _ _ (session.go n word is) other = tt
shows_nothing _ _ session.sources other = tt
shows_nothing _ _ (session.whynot line place word spells) other = tt
shows_nothing _ _ session.frames other = tt
shows_nothing _ _ (session.show text short) other = none-some text (sym other ∙ behind_there (codes "show ") text)
shows_nothing _ _ session.undo other = tt
shows_nothing _ _ session.quit other = tt

pub no_text : (line : List ℕ) → Front line ≡ Absent → ¬ (IsUtf8 line) → Reads line Absent
no_text line other not c says = not (command_is_text line c says (shows_nothing line c says other))
