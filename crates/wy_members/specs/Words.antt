-- The word of each modifier (JLS 3.9, 9.6.4.4).
use Rattle.std.specs.Prelude.{◌≡◌, ◌↔◌, ℕ, List, [], Option, Some, None, codes, if◌then◌else◌, bytes_eq}
use Rattle.std.proofs.Common.{refl, sym, ap, ◌∙◌}
use Rattle.std.proofs.lemmas.Option.{same_Some}
use Rattle.wy_syntax.specs.declared.declaration.Modifier.{Modifier}
use Rattle.wy_syntax.specs.declared.declaration.Modifier.TheVariants as modifier
use Rattle.wy_members.specs.Keys.{Key}

abbrev pub word_of : Modifier → List ℕ
word_of modifier.Public = codes "public"
word_of modifier.Private = codes "private"
word_of modifier.Protected = codes "protected"
word_of modifier.Static = codes "static"
word_of modifier.Final = codes "final"
word_of modifier.Abstract = codes "abstract"
word_of modifier.Override = codes "@Override"

-- the modifier that a word is
meant : List ℕ → Option Modifier
meant word =
    if bytes_eq word (codes "public") then Some modifier.Public else
    if bytes_eq word (codes "private") then Some modifier.Private else
    if bytes_eq word (codes "protected") then Some modifier.Protected else
    if bytes_eq word (codes "static") then Some modifier.Static else
    if bytes_eq word (codes "final") then Some modifier.Final else
    if bytes_eq word (codes "abstract") then Some modifier.Abstract else Some modifier.Override

meant_by_its_word : (m : Modifier) → meant (word_of m) ≡ Some m
unfolding meant
meant_by_its_word modifier.Public = refl
meant_by_its_word modifier.Private = refl
meant_by_its_word modifier.Protected = refl
meant_by_its_word modifier.Static = refl
meant_by_its_word modifier.Final = refl
meant_by_its_word modifier.Abstract = refl
meant_by_its_word modifier.Override = refl

same_modifier : (m n : Modifier) → word_of m ≡ word_of n → m ≡ n
same_modifier m n e = same_Some m n (sym (meant_by_its_word m) ∙ ap meant e ∙ meant_by_its_word n)

-- what two modifiers share where they are the same: their word
abbrev pub key_of_word : Modifier → Key
key_of_word m = record { class = None; name = word_of m; params = [] }

pub same_by_word : (m n : Modifier) → (m ≡ n) ↔ (key_of_word m ≡ key_of_word n)
same_by_word m n = (λ e. ap key_of_word e, λ e. same_modifier m n (ap (λ (k : Key). k.name) e))
