use Rattle.std.proofs.Common.{◌≡◌, List, length, map, sym, subst, ◌∙◌, arith}
use Rattle.std.proofs.lemmas.List.{length-map}
use Rattle.go_digraph_core.specs.declared.cycle.edge.Edge.{Edge}
use Rattle.go_digraph_core.specs.cycle.Cycle.{InRange}
use Rattle.go_machine_core.specs.link.Packages.{PackageOf, package_shown}
use Rattle.go_machine_core.proofs.LinkReaching.{rows_in_range}
use Rattle.go_machine_core.proofs.link.reached.reached_packages.Goals as goal

pub reached_from-requires-clause-edges : goal.reached_from-requires-clause-edges
reached_from-requires-clause-edges c =
    let ps = map package_shown c.args.packages.now in
    subst (λ (g : List Edge). InRange (length c.args.packages.now) g) (sym (c.deref.ensures.value ∙ c.in_ok-edges.ensures))
    (rows_in_range (length c.args.packages.now) 0 (map (λ (p : PackageOf). p.imports) ps) (omega (arith, length-map ps (λ (p : PackageOf). p.imports), length-map c.args.packages.now package_shown)) c.requires.below)
