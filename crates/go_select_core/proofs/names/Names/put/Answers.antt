use Rattle.std.proofs.Common.{ap, ◌∙◌}
use Rattle.go_select_core.specs.mirrors.Names.{names_shown, known_of}
use Rattle.go_select_core.proofs.ListedNames.{found_put}
use Rattle.go_select_core.proofs.names.Names.put.Goals as goal

pub returns : goal.returns
returns c = λ q. ap (λ es. known_of (names_shown es) q) c.in_ok-insert.ensures.entries ∙ found_put c.args.self.now.known.entries c.args.id c.args.known q
