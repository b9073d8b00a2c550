use Rattle.std.proofs.Common.{◌≡◌, drop}
use Rattle.std.specs.List.{list_all}
use Rattle.go_denote_core.specs.Look.{look_of}
use Rattle.go_denote_core.specs.Calls.{is_printable}
use Rattle.go_denote_core.proofs.conversions.all_printable.Given as goal

abbrev pub invariant-loop-argument : goal.invariant-loop-argument
invariant-loop-argument g l =
    let look = look_of (g.E.TypeLooks.types l.env) (g.E.Names.names l.env) in
    list_all (is_printable look) (drop l.argument-index l.arguments) ≡ list_all (is_printable look) l.arguments
