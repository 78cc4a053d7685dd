-- The files that the words name, as a shelf holds them.
use Rattle.std.specs.Prelude.{◌≡◌, ◌<◌, ◌≤◌, ℕ, List, [], length, Option, Some, None}
use Rattle.wy_kernel.specs.Limits.{input_limit}
use Rattle.wy_outside.specs.Shelf.{Files}
use Rattle.wy_reply.specs.Lines.{absent_line, too_long_line}
use Rattle.wy_reply.specs.Tellings.{Given, Bytes, Lacking}

-- the file of this name is this text, and has at most so many bytes
pub record Holds (files : Files) (name : List ℕ) (limit : ℕ) (text : List ℕ) : Type 0 where
  pub found : files name ≡ Some text
  pub within : length text ≤ limit

-- what is due where there is no file of this name, or one of more bytes
pub data Lacks (files : Files) (name : List ℕ) (limit : ℕ) : ℕ → List ℕ → Type 0 where
  absent : files name ≡ None → Lacks files name limit 3 (absent_line name)
  too_long : (text : List ℕ) → files name ≡ Some text → limit < length text → Lacks files name limit 8 (too_long_line name)

-- the input of a run: that file, and nothing where none is named
abbrev pub IsInput : Files → Option (List ℕ) → List ℕ → Type 0
IsInput files None input = input ≡ []
IsInput files (Some name) input = Holds files name input_limit input

-- bytes of a certificate
abbrev pub certificate_limit : ℕ
certificate_limit = 536870912

-- what is given as a certificate by the name of its file
pub data Gives (files : Files) (name : List ℕ) : Given → Type 0 where
  bytes : (text : List ℕ) → Holds files name certificate_limit text → Gives files name (Bytes text)
  lacking : (status : ℕ) (text : List ℕ) → Lacks files name certificate_limit status text
      → Gives files name (Lacking status text)
