-- Lists by keys, while an index of methods is made.
use Rattle.std.specs.Prelude.{◌≡◌, ℕ, ◌<◌, List, [], length, map, Option, Some, None, slice_get, nat_eq}
use Rattle.std.specs.HashMap.{HashMap, get, get_by_text}
use Rattle.std.specs.List.{Contains}
use Rattle.std.specs.declared.alloc.Global.{Global}
use Rattle.std.specs.declared.string.String.{String}
use Rattle.std.specs.declared.vec.Vec.{Vec}
use Rattle.wy_kernel.specs.declared.types.MethodForm.{MethodForm}
use Rattle.wy_kernel.specs.declared.types.MethodForm.TheVariants as kind
use Rattle.wy_kernel.specs.Program.{Method}
use Rattle.wy_table.specs.Methods.{IsAlike, IsNamed, Lists}

abbrev pub items_or_none : Option (Vec ℕ Global) → List ℕ
items_or_none None = []
items_or_none (Some list) = list.items

-- what is listed by a key
abbrev pub listed : {S : Type 0} → HashMap ℕ (Vec ℕ Global) S → ℕ → List ℕ
listed lists key = items_or_none (get nat_eq lists key)

abbrev pub listed_by_text : {S : Type 0} → HashMap (String Global) (Vec ℕ Global) S → List ℕ → List ℕ
listed_by_text lists name = items_or_none (get_by_text lists name)

-- each place is listed by its key, and only places are
pub record ListsByKey {S : Type 0} (keys : List (Option ℕ)) (lists : HashMap ℕ (Vec ℕ Global) S) : Type 0 where
  pub each : (k key : ℕ) → slice_get keys k ≡ Some (Some key) → Contains (listed lists key) k
  pub in_range : (key k : ℕ) → Contains (listed lists key) k → k < length keys

-- by each name, the methods that are called by it
abbrev pub ListsNames : {S : Type 0} → List Method → HashMap (String Global) (Vec ℕ Global) S → Type 0
ListsNames methods lists = (name : List ℕ) → Lists methods (λ k m. IsNamed name m) (listed_by_text lists name)

-- a group for each method, and one for methods with one name and the same parameter types
pub record AlikeTogether (methods : List Method) (groups : List ℕ) : Type 0 where
  pub a_group_a_method : length groups ≡ length methods
  pub together : (j k : ℕ) (m other : Method) → slice_get methods j ≡ Some m → slice_get methods k ≡ Some other → IsAlike m other → slice_get groups j ≡ slice_get groups k

abbrev pub constructor_class : MethodForm → ℕ → Option ℕ
constructor_class kind.Constructor class = Some class
constructor_class kind.Static class = None
constructor_class kind.Instance class = None
constructor_class kind.Fields class = None

abbrev pub constructor_key : Method → Option ℕ
constructor_key m = constructor_class m.form m.class

abbrev pub named_group : MethodForm → ℕ → Option ℕ
named_group kind.Static group = Some group
named_group kind.Instance group = Some group
named_group kind.Constructor group = None
named_group kind.Fields group = None

abbrev pub group_key : Method → ℕ → Option ℕ
group_key m group = named_group m.form group

pub record AreNamedGroups (methods : List Method) (groups : List ℕ) (keys : List (Option ℕ)) : Type 0 where
  pub a_key_a_method : length keys ≡ length methods
  pub each : (k group : ℕ) (m : Method) → slice_get methods k ≡ Some m → slice_get groups k ≡ Some group → slice_get keys k ≡ Some (group_key m group)
