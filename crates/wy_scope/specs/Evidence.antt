-- What a scope shows of a link between regions that was not crossed in it.
use Rattle.std.specs.Prelude.{ℕ, List, [], if◌then◌else◌, filter}
use Rattle.wy_kernel.specs.Program.{Program}
use Rattle.wy_event.specs.Record.{Recorded}
use Rattle.wy_index.specs.declared.found.Hit.{Hit}
use Rattle.wy_static.specs.declared.point.Link.{Link}
use Rattle.wy_static.specs.LookUps.{method_of}
use Rattle.wy_whynot.specs.declared.item.Made.{Made}
use Rattle.wy_whynot.specs.Evidence.{arm_of, calls_method, is_call_from, targets_of, tests_at}
use Rattle.wy_scope.specs.declared.item.ScopeItem.{ScopeItem}
use Rattle.wy_scope.specs.Scope.{hits_of_scope}

-- the tests of its arm, in order, that gave another value
unfoldable pub tests_in : List Recorded → ℕ → Link → List ℕ
tests_in rs call l = tests_at (arm_of l.kind) (hits_of_scope rs call l.site)

-- the methods that were called by some hits from a body, where a link calls one
abbrev pub made_of : List Hit → Link → ℕ → List Made
made_of hits l body =
    if calls_method l then targets_of (filter (is_call_from body) hits) else []

-- those that were called at its site from the body in which it stands
unfoldable pub made_in : Program → List Recorded → ℕ → Link → List Made
made_in p rs call l = made_of (hits_of_scope rs call l.site) l (method_of p l.from)

-- a link with its evidence
pub record Evidence : Type 0 where
  pub link : Link
  pub tests : List ℕ
  pub made : List Made

-- what an item says
abbrev pub evidence_in : ScopeItem → Evidence
evidence_in item = record {
  link = item.link;
  tests = item.tests.items;
  made = item.made.items;
}

abbrev pub evidence : Program → List Recorded → ℕ → Link → Evidence
evidence p rs call l = record {
  link = l;
  tests = tests_in rs call l;
  made = made_in p rs call l;
}
