use Rattle.std.proofs.Common.{◌≡◌, drop, map}
use Rattle.std.specs.Prelude.{slice_get}
use Rattle.go_object_core.specs.Objects.{object_shown}
use Rattle.go_machine_core.specs.link.Functions.{all_functions}
use Rattle.go_machine_core.proofs.link.functions.function_at.Given as goal

abbrev pub invariant-loop-object : goal.invariant-loop-object
invariant-loop-object g l = slice_get (all_functions (map object_shown l.objects)) l.number ≡ slice_get (all_functions (map object_shown (drop l.object-index l.objects))) l.rest
