-- How parts are stored, so that a model may hold one.
use Rattle.std.specs.Coded.{Coded}
use Rattle.go_package_core.specs.contracts.package_part.part.Part as part
use Rattle.go_package_core.specs.package_part.Parts.{PartModel}

abbrev pub coded_part : Coded PartModel
coded_part = part.the_row.coded
