-- A file with another name in place of an identifier, and the blocks of its package.
use Rattle.std.proofs.Common.{refl, ap, subst}
use Rattle.go_names_core.specs.block_core.Blocks.{AreBlocks}
use Rattle.go_names_core.specs.block_core.Naming.{file_specs, package_named}
use Rattle.go_graph_core.specs.Packages.{Trees}
use Rattle.go_tree_nodes.specs.Trees.{FileTree}
use Rattle.go_tree_core.specs.copies.Respelled.{respelled_ident}
use Rattle.go_answer_laws.specs.completions.Respelled.{ident_of, put_in_place}
use Rattle.go_answer_laws.specs.completions.Laws.{IdentifiersCanBeRespelled, BlocksStay}
use Rattle.go_answer_laws.proofs.CompletionsBlocks.{blocks_same, file_same}
use Rattle.go_answer_laws.proofs.CompletionsFilesAnew.{file_respells}

pub identifiers_respelled : IdentifiersCanBeRespelled
identifiers_respelled name f k o put =
    let m = file_respells f k o name put.plain put.well put.follows put.there put.identifier in
    record { respells = m.respells; rest = m.rest }

pub blocks_stay : BlocksStay
blocks_stay i files c d name n f k o put changed one two =
    let g = put_in_place name o f in
    let it = identifiers_respelled name f k o put in
    blocks_same changed.file f g (λ m. file_same (respelled_ident o.span.start name) m (ident_of o) name f g refl it.respells) (ap file_specs it.rest) (ap (λ (t : FileTree). t.name) it.rest) changed.back changed.front i.imports c.blocks d.blocks
    (subst (λ (ts : Trees). AreBlocks ts (package_named ts i.imports) c.blocks) changed.old one.blocks) (subst (λ (ts : Trees). AreBlocks ts (package_named ts i.imports) d.blocks) changed.new two.blocks)
