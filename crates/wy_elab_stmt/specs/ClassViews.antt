-- The bodies of a class in memory, as the definitions see them.
use Rattle.std.specs.Prelude.{List, [], map, option_map, Result, Ok, Err}
use Rattle.wy_kernel.specs.View.{body_of, statement}
use Rattle.wy_constant.specs.Refusal.{Refusal}
use Rattle.wy_constant.specs.Scope.{FixedText}
use Rattle.wy_elab_body.specs.Bodies.{Growing, Growth}
use Rattle.wy_elab_body.specs.Views.{making_of, bodies_seen}
use Rattle.wy_elab_stmt.specs.declared.growth.Growing as memory_growing
use Rattle.wy_elab_stmt.specs.declared.growth.Growth as memory_growth
use Rattle.wy_elab_stmt.specs.declared.class_body.ClassBodies as memory_bodies
use Rattle.wy_elab_stmt.specs.Classes.{ClassBodies}

-- a body so far, with the texts that forms held when it was left
abbrev pub growing_of : memory_growing.Growing → List FixedText → Growing
growing_of g texts = record { making = making_of g.making texts; parts = map statement g.parts.items }

-- a class so far; each of its two bodies that grow was left with other texts
abbrev pub growth_of : memory_growth.Growth → List FixedText → List FixedText → Growth
growth_of g first second = record { initializer = growing_of g.initializer first; fields = growing_of g.fields second; bodies = bodies_seen g.bodies }

-- a body that goes on begins with the texts of then, so those with which it was left say nothing
abbrev pub left : Growing → Growing
left g = record { making = record { scope = g.making.scope; locals = g.making.locals; texts = [] }; parts = g.parts }

abbrev pub both_left : Growth → Growth
both_left g = record { initializer = left g.initializer; fields = left g.fields; bodies = g.bodies }

abbrev pub at_rest : Result (Growth × List FixedText) Refusal → Result (Growth × List FixedText) Refusal
at_rest (Ok p) = Ok (both_left p.0, p.1)
at_rest (Err e) = Err e

abbrev pub class_bodies_seen : memory_bodies.ClassBodies → ClassBodies
class_bodies_seen b = record { bodies = bodies_seen b.bodies; initializer = option_map body_of b.initializer }
