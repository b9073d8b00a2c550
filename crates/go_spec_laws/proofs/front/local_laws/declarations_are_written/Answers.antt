use Rattle.go_spec_laws.proofs.FrontLocalBlocks as blocks
use Rattle.go_spec_laws.proofs.FrontLocalNames as names
use Rattle.go_spec_laws.proofs.front.local_laws.declarations_are_written.Goals as goal

pub returns-clause-names : goal.returns-clause-names
returns-clause-names g c = names.names_are_written _ _

pub returns-clause-blocks : goal.returns-clause-blocks
returns-clause-blocks g c = blocks.blocks_are_innermost _ _
