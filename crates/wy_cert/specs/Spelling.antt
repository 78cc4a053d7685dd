-- The bytes of a certificate: its first line, and then a line for each event that is listed.
use Rattle.std.specs.Prelude.{◌≡◌, ℕ, ◌^◌, ◌<◌, ◌≤◌, Bool, true, ◌&&◌, ◌||◌, nat_le, List, [], ◌∷◌, ◌++◌, length, map, codes}
use Rattle.std.specs.Fmt.{decimal}
use Rattle.std.specs.List.{AllByRecursion, flat_map, list_all}
use Rattle.wy_why.specs.declared.source.Role.{Role}
use Rattle.wy_why.specs.declared.source.Role.TheVariants as role
use Rattle.wy_why.specs.declared.source.Source.{Source}
use Rattle.wy_why.specs.Answer.{Rises}
use Rattle.wy_cert.specs.declared.certificate.Listed.{Listed}
use Rattle.wy_cert.specs.declared.certificate.Certificate.{Certificate}

-- the events that are listed
abbrev pub events : List Listed → List ℕ
events listed = map (λ (l : Listed). l.event) listed

-- ---- the text

abbrev pub space : ℕ
space = 32

abbrev pub colon : ℕ
colon = 58

abbrev pub line_feed : ℕ
line_feed = 10

-- d, h and c
abbrev pub letter_of : Role → ℕ
letter_of role.Data = 100
letter_of role.Choice = 104
letter_of role.Control = 99

-- as " d:7"
abbrev pub source_text : Source → List ℕ
source_text s = space ∷ letter_of s.role ∷ colon ∷ decimal s.event

-- as "8 c:2 d:7"
abbrev pub line_text : Listed → List ℕ
line_text l = decimal l.event ++ (flat_map source_text l.sources ++ line_feed ∷ [])

-- the format and its version, the seal, the event that is asked about, and how many lines follow
abbrev pub head_text : List ℕ → ℕ → ℕ → List ℕ
head_text hex event count =
    codes "whycert 1 " ++ (hex ++ (space ∷ (decimal event ++ (space ∷ (decimal count ++ line_feed ∷ [])))))

abbrev pub spelled : Certificate → List ℕ
spelled c = head_text c.hex c.event (length c.listed) ++ flat_map line_text c.listed

-- ---- what has a spelling

-- "0" to "9", "a" to "f"
abbrev pub is_hex : ℕ → Bool
is_hex b = (nat_le 48 b && nat_le b 57) || (nat_le 97 b && nat_le b 102)

-- the text of a seal, which has 32 bytes
abbrev pub IsSealText : List ℕ → Type 0
IsSealText hex = (length hex ≡ 64) × (list_all is_hex hex ≡ true)

abbrev pub FitsSource : Source → Type 0
FitsSource s = s.event < 2 ^ 32

abbrev pub FitsLine : Listed → Type 0
FitsLine l = (l.event < 2 ^ 32) × AllByRecursion FitsSource l.sources

-- numbers have 32 bits, a seal has 32 bytes, and each listed event is above the one before it
pub record IsWritten (c : Certificate) : Type 0 where
  pub hex : IsSealText c.hex
  pub event : c.event < 2 ^ 32
  pub few : length c.listed < 2 ^ 32
  pub lines : AllByRecursion FitsLine c.listed
  pub rises : Rises 0 (2 ^ 32) (events c.listed)
