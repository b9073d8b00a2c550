use Rattle.std.proofs.Common.{◌||◌, ℕ, List, sym, ap, ◌∙◌}
use Rattle.std.specs.Str.{bytes_eq}
use Rattle.go_complete_core.specs.views.Imported.{comes_to, has_path}
use Rattle.go_complete_core.proofs.ViewsPaths.{path_put}
use Rattle.go_complete_core.proofs.views.view.add_path.Goals as goal

pub returns-in-Ok : goal.returns-in-Ok
returns-in-Ok c path =
    let same = ap (λ (p : List ℕ). bytes_eq p path) (c.as_str.ensures.text ∙ c.path.ensures) ∙ sym (ap (comes_to path) c.in-Package.is) in
    path_put c.args.paths.now c.insert.new.self c.as_str.result c.in-Ok.ensures.updates path ∙ ap (λ b. has_path c.args.paths.now.keys path || b) same
