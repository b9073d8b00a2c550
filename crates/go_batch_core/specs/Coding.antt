-- Parts and batches as they are stored.
use Rattle.std.specs.Prelude.{refl, List, Option}
use Rattle.std.specs.Coded.{Coded, code_by, coded×, coded_list, coded_option}
use Rattle.go_block_core.specs.graph_core.Workspaces.{PackageModel, coded_package}
use Rattle.go_package_core.specs.package_part.Parts.{PartModel}
use Rattle.go_package_core.specs.contracts.package_part.part.Part as part
use Rattle.go_batch_core.specs.declared.slot.Slot.{Slot}
use Rattle.go_batch_core.specs.contracts.slot.Slot as slot
use Rattle.go_batch_core.specs.Batches.{BatchModel, batch_with}

abbrev pub coded_part : Coded PartModel
coded_part = part.the_row.coded

abbrev pub coded_batch : Coded BatchModel
coded_batch = code_by (List PackageModel × (List Slot × List (Option PartModel))) (coded× (coded_list coded_package) (coded× (coded_list slot.the_row.coded) (coded_list (coded_option coded_part)))) (λ b. (b.sources, (b.slots, b.parts))) (λ p. batch_with p.0 p.1.0 p.1.1) (λ _. refl)
