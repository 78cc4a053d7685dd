-- When a certificate is good for a trace, and which event is told where it isn't.
use Rattle.std.specs.Prelude.{◌≡◌, ◌⊎◌, ◌↔◌, ℕ, ◌<◌, ◌≤◌, List, map, length, Contains}
use Rattle.std.specs.List.Sorted.{IsStrictlySortedBy}
use Rattle.hex.specs.Hex.{encode_lower}
use Rattle.wy_event.specs.Record.{Recorded}
use Rattle.wy_event.specs.Sources as records
use Rattle.wy_event.specs.Sources.{Owners, closure}
use Rattle.wy_why.specs.declared.source.Source.{Source}
use Rattle.wy_why.specs.Answer.{up_to}
use Rattle.wy_why.specs.Sources.{source_cmp, source_of}
use Rattle.wy_cert.specs.declared.certificate.Certificate.{Certificate}
use Rattle.wy_cert.specs.declared.certificate.Listed.{Listed}
use Rattle.wy_cert.specs.Spelling.{IsWritten, events, spelled}

-- all that an event comes from directly, by event and then by role, each once
pub record AreSources (owner : Owners) (rs : List Recorded) (event : ℕ) (found : List Source) : Type 0 where
  pub exact : (s : records.Source) → Contains (map source_of found) s
      ↔ Contains (records.sources owner rs event) s
  pub in_order : IsStrictlySortedBy source_cmp found

-- an event comes from another directly
abbrev pub ComesFrom : Owners → List Recorded → ℕ → ℕ → Type 0
ComesFrom owner rs n w = (role : records.Role)
    × Contains (records.sources owner rs n) (record { role = role; event = w })

abbrev pub IsListed : Certificate → ℕ → Type 0
IsListed c n = Contains (events c.listed) n

-- a line of a certificate is as it ought to be: its event is one of the trace, its sources are those of the event
-- and are listed, and it is what is asked about or is a source of a greater listed event
pub record IsSound (owner : Owners) (rs : List Recorded) (c : Certificate) (l : Listed) : Type 0 where
  pub there : l.event < length rs
  pub sources : AreSources owner rs l.event l.sources
  pub closed : (s : Source) → Contains l.sources s → IsListed c s.event
  pub needed : (l.event ≡ c.event)
      ⊎ ((n : ℕ) × IsListed c n × (l.event < n) × ComesFrom owner rs n l.event)

-- what is asked about is listed, and nothing above it is
pub record IsLast (c : Certificate) : Type 0 where
  pub listed : IsListed c c.event
  pub greatest : (n : ℕ) → IsListed c n → n ≤ c.event

abbrev pub AllSound : Owners → List Recorded → Certificate → Type 0
AllSound owner rs c = (l : Listed) → Contains c.listed l → IsSound owner rs c l

-- a certificate is good for a trace with these records and this seal
pub record IsGood (owner : Owners) (rs : List Recorded) (seal : List ℕ) (c : Certificate)
    : Type 0 where
  pub of_trace : c.hex ≡ encode_lower seal
  pub there : c.event < length rs
  pub last : IsLast c
  pub sound : AllSound owner rs c

-- the event that is told of a certificate of this trace that isn't good: the least one whose line isn't sound,
-- and what is asked about where each line is
pub data IsFault (owner : Owners) (rs : List Recorded) (c : Certificate) : ℕ → Type 0 where
  least : (l : Listed) → Contains c.listed l → ¬ IsSound owner rs c l
      → ((k : Listed) → Contains c.listed k → k.event < l.event → IsSound owner rs c k)
      → IsFault owner rs c l.event
  not_last : AllSound owner rs c → ¬ IsLast c → IsFault owner rs c c.event

-- these bytes are the certificate of the answer about this event
pub record Certifies (owner : Owners) (rs : List Recorded) (seal : List ℕ) (event : ℕ) (bytes : List ℕ)
    : Type 0 where
  pub certificate : Certificate
  pub asked : certificate.event ≡ event
  pub listed : events certificate.listed ≡ up_to event (closure owner rs event)
  pub written : IsWritten certificate
  pub good : IsGood owner rs seal certificate
  pub spelled : bytes ≡ spelled certificate
