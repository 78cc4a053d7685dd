-- What two items share where one is the same as the other.
use Rattle.std.specs.Prelude.{ℕ, List, Option}
use Rattle.wy_kernel.specs.declared.types.Ty.{Ty}
use Rattle.wy_members.specs.declared.broken.key.Key as memory

-- the class that declares it, where one does; its name; and the types of its parameters
pub record Key : Type 0 where
  pub class : Option ℕ
  pub name : List ℕ
  pub params : List Ty

abbrev pub key_of : memory.Key → Key
key_of k = record { class = k.class; name = k.name.now; params = k.params.now }
