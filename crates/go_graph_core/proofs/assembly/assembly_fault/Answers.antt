use Rattle.std.proofs.Common.{inl, inr}
use Rattle.go_graph_core.specs.Packages.{IsNameOf}
use Rattle.go_graph_core.proofs.Assemblies.{name_of_first}
use Rattle.go_graph_core.proofs.Faults.{k4_first, k3_first, last_flaw}
use Rattle.go_graph_core.proofs.assembly.assembly_fault.Goals as goal

pub returns-in-Some : goal.returns-in-Some
returns-in-Some c = inl (k4_first c.args.files.now c.in-Some.fault c.in-Some.ensures)

pub returns-in-Some-first_fault : goal.returns-in-Some-first_fault
returns-in-Some-first_fault c = inr (inl (k3_first c.args.files.now c.in-Some-first_fault.fault c.in_default.ensures c.in-Some-first_fault.ensures))

pub returns : goal.returns
returns c =
    let name : IsNameOf c.as_str.result.now c.args.files.now = name_of_first c.args.files.now c.index-files-0.result c.in-Some-clause.clause.now c.as_str.result.now c.requires c.index-files-0.is c.in-Some-clause.ensures c.as_str.ensures in
    last_flaw c.args.files.now c.as_str.result c.first_fault-3.result c.in_default.ensures c.in_default-first_fault.ensures name c.first_fault-3.ensures
