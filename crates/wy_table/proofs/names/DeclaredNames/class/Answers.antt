use Rattle.std.proofs.Common.{rules, ◌≡◌, ◌∙◌}
use Rattle.std.specs.HashMap.{get_by_text}
use Rattle.wy_table.proofs.names.DeclaredNames.class.Goals as goal

pub returns : goal.returns
returns c = λ classes fields keeps.
    let found : c.copied.result ≡ get_by_text c.args.self.now.classes c.args.name.now = search rules in
    found ∙ keeps.of_classes c.args.name.now
