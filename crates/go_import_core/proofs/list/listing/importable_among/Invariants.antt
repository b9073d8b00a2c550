use Rattle.go_import_core.specs.list.Importing.{IsImportable}
use Rattle.go_import_core.proofs.ListPicking.{AreThose}
use Rattle.go_import_core.proofs.list.listing.importable_among.Given as goal

abbrev pub invariant-loop-number : goal.invariant-loop-number
invariant-loop-number l = AreThose (IsImportable l.packages l.own) l.number l.numbers.items
