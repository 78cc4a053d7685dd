use Rattle.std.proofs.Common.{ap, ◌∙◌, find}
use Rattle.wy_kernel.specs.Statements.{has_number}
use Rattle.wy_kernel.proofs.Found.{of_bodies}
use Rattle.wy_kernel.proofs.Numbered.{found_number, found_listed, is_there, in_first, in_second}
use Rattle.wy_kernel.proofs.program.Program.statement.Goals as goal

pub unwrap-requires : goal.unwrap-requires
unwrap-requires c = is_there c.args.n (of_bodies c.args.self.now.bodies.items) (of_bodies c.args.self.now.init_bodies.items) c.find_in_bodies.result c.find_in_bodies-in-None.result c.in-None.is (c.find_in_bodies.ensures ∙ ap (λ z. find (has_number c.args.n) (of_bodies z)) c.deref.ensures.value) (c.find_in_bodies-in-None.ensures ∙ ap (λ z. find (has_number c.args.n) (of_bodies z)) c.deref-in-None.ensures.value) c.requires

pub returns-in-Some-clause-numbered : goal.returns-in-Some-clause-numbered
returns-in-Some-clause-numbered c = found_number c.args.n _ _ (in_first c.args.n (of_bodies c.args.self.now.bodies.items) (of_bodies c.args.self.now.init_bodies.items) c.find_in_bodies.result c.in-Some.found c.in-Some.is (c.find_in_bodies.ensures ∙ ap (λ z. find (has_number c.args.n) (of_bodies z)) c.deref.ensures.value))

pub returns-in-Some-clause-listed : goal.returns-in-Some-clause-listed
returns-in-Some-clause-listed c = found_listed c.args.n _ _ (in_first c.args.n (of_bodies c.args.self.now.bodies.items) (of_bodies c.args.self.now.init_bodies.items) c.find_in_bodies.result c.in-Some.found c.in-Some.is (c.find_in_bodies.ensures ∙ ap (λ z. find (has_number c.args.n) (of_bodies z)) c.deref.ensures.value))

pub returns-in-None-clause-numbered : goal.returns-in-None-clause-numbered
returns-in-None-clause-numbered c = found_number c.args.n _ _ (in_second c.args.n (of_bodies c.args.self.now.bodies.items) (of_bodies c.args.self.now.init_bodies.items) c.find_in_bodies.result c.find_in_bodies-in-None.result c.unwrap.result c.in-None.is (c.find_in_bodies.ensures ∙ ap (λ z. find (has_number c.args.n) (of_bodies z)) c.deref.ensures.value) c.unwrap.ensures (c.find_in_bodies-in-None.ensures ∙ ap (λ z. find (has_number c.args.n) (of_bodies z)) c.deref-in-None.ensures.value))

pub returns-in-None-clause-listed : goal.returns-in-None-clause-listed
returns-in-None-clause-listed c = found_listed c.args.n _ _ (in_second c.args.n (of_bodies c.args.self.now.bodies.items) (of_bodies c.args.self.now.init_bodies.items) c.find_in_bodies.result c.find_in_bodies-in-None.result c.unwrap.result c.in-None.is (c.find_in_bodies.ensures ∙ ap (λ z. find (has_number c.args.n) (of_bodies z)) c.deref.ensures.value) c.unwrap.ensures (c.find_in_bodies-in-None.ensures ∙ ap (λ z. find (has_number c.args.n) (of_bodies z)) c.deref-in-None.ensures.value))
