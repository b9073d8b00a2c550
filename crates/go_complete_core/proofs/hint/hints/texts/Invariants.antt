use Rattle.std.proofs.Common.{◌≡◌, take}
use Rattle.go_complete_core.specs.place.Completions.{texts_of}
use Rattle.go_complete_core.proofs.hint.hints.texts.Given as goal

abbrev pub invariant-loop-name : goal.invariant-loop-name
invariant-loop-name l = texts_of l.all ≡ take l.name-index l.names
