use Rattle.std.proofs.Common.{map, take}
use Rattle.std.specs.List.{AllZip}
use Rattle.go_block_core.specs.Exports.{name_and_decl}
use Rattle.go_doc_core.specs.symbol.Symbols.{IsSymbolOf, symbol_shown}
use Rattle.go_doc_core.specs.symbol.mirrors.Docs.{AreDocsOf, docs_shown}
use Rattle.go_doc_core.proofs.symbol.symbols.listed.Given as goal

abbrev pub invariant-loop-named : goal.invariant-loop-named
invariant-loop-named l = record {
  docs : AreDocsOf l.«package».1 (docs_shown l.docs);
  so_far : AllZip (IsSymbolOf l.«package».1) (map name_and_decl (take l.named-index l.names)) (map symbol_shown l.symbols.items);
}
