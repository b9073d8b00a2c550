use Rattle.std.proofs.Common.{subst}
use Rattle.go_graph_core.specs.Packages.{IsPackageName, IsNameOf, trees_of}
use Rattle.go_graph_core.proofs.Assemblies.{name_of}
use Rattle.go_graph_core.proofs.assembly.Package.name.Goals as goal

pub returns : goal.returns
returns c =
    let name : IsNameOf c.clause_name.result.now c.self.inside.source.1 = subst (IsNameOf c.clause_name.result.now) c.files.ensures.files c.clause_name.ensures in
    subst (λ p. IsPackageName (trees_of p.1) c.clause_name.result.now) c.self.view_is (name_of c.self.inside.source.1 c.clause_name.result.now c.self.invariant name)
