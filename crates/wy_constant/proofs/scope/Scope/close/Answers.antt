use Rattle.std.proofs.Common.{◌≡◌, [], map, rules}
use Rattle.wy_constant.specs.Scopes.{text_of, variables_of}
use Rattle.wy_constant.proofs.Blocks.{close_goes, close_stays}
use Rattle.wy_constant.proofs.scope.Scope.close.Goals as goal

pub returns-in-Some : goal.returns-in-Some
returns-in-Some c =
    close_goes c.self.inside.class c.self.inside.has_this (variables_of c.self.inside.variables) (variables_of c.truncate.new.self) c.self.inside.blocks.items c.pop.new.self.items
    c.in-Some.outside c.self.inside.next (map text_of c.self.inside.texts.items) _ c.in-Some.ensures.items c.truncate.ensures c.self.view_is

pub returns-in_default : goal.returns-in_default
returns-in_default c =
    let e : c.self.inside.blocks.items ≡ [] = search rules in
    let f : c.pop.new.self.items ≡ [] = search rules in
    close_stays c.self.inside.class c.self.inside.has_this (variables_of c.self.inside.variables) c.self.inside.blocks.items c.pop.new.self.items
    c.self.inside.next (map text_of c.self.inside.texts.items) _ e f c.self.view_is
