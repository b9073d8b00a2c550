use Rattle.std.proofs.Common.{◌↔◌, IsTrue, subst}
use Rattle.go_path_core.specs.Path.{elements, MayImport}
use Rattle.go_path_core.proofs.import_path.may_import.Goals as goal

pub returns : goal.returns
returns c = subst (λ text. IsTrue c.may_import_text.result ↔ MayImport (elements c.args.from.now) (elements text)) c.as_text.ensures c.may_import_text.ensures
