use Rattle.std.proofs.Common.{◌∙◌, ℕ, List, Option, false, ap, sym}
use Rattle.std.specs.Option.{option_map_or}
use Rattle.go_graph_core.specs.Sources.{SourceModel}
use Rattle.govisd_disk.specs.Scopes.{ScopeModel, has_file}
use Rattle.govisd_disk.proofs.ScopeLemmas.{none_from, some_from}
use Rattle.govisd_disk.proofs.scopes.has_fault.Goals as goal

pub returns-in-Some : goal.returns-in-Some
returns-in-Some c =
    let scope : ScopeModel = (c.args.scope.now.package.now, c.args.scope.now.file.now) in
    c.has_file.ensures
    ∙ (ap (has_file scope c.in-Some.path.now) c.name.ensures
    ∙ sym (ap (λ (o : Option (List ℕ × SourceModel)). option_map_or (λ s. has_file scope s.0 s.1.name) o false) (some_from _ _ _ _ c.source_of.ensures c.in-Some.is)))

pub returns-in-None : goal.returns-in-None
returns-in-None c =
    let scope : ScopeModel = (c.args.scope.now.package.now, c.args.scope.now.file.now) in
    sym (ap (λ (o : Option (List ℕ × SourceModel)). option_map_or (λ s. has_file scope s.0 s.1.name) o false) (none_from _ _ _ c.source_of.ensures c.in-None.is))
