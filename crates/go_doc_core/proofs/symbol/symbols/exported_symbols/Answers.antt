use Rattle.std.proofs.Common.{List, ℕ, map, sym, ◌∙◌, subst}
use Rattle.std.specs.List.{AllZip}
use Rattle.go_block_core.specs.decl_core.declared.keys.DeclRef.{DeclRef}
use Rattle.go_block_core.specs.graph_core.Packages.{trees_of}
use Rattle.go_block_core.specs.Holding.{package_block}
use Rattle.go_doc_core.specs.symbol.Symbols.{IsSymbolOf, symbol_shown}
use Rattle.go_doc_core.specs.symbol.mirrors.Docs.{AreDeclaredIn}
use Rattle.go_doc_core.proofs.SymbolDeclared.{block_declared, exported_declared}
use Rattle.go_doc_core.proofs.SymbolDistinct.{AreApart, block_apart, exported_apart}
use Rattle.go_doc_core.proofs.SymbolSorting.{symbols_are}
use Rattle.go_doc_core.proofs.symbol.symbols.exported_symbols.Goals as goal

pub listed-requires : goal.listed-requires
listed-requires c =
    let files = c.args.«package».now.1 in
    let same = c.names.ensures ∙ c.requires in
    subst (AreDeclaredIn files) (sym same) (exported_declared files (package_block (trees_of files)) (block_declared files c.files-files.ensures.assembled.trees))

pub returns : goal.returns
returns c =
    let files = c.args.«package».now.1 in
    let zipped = subst (λ (l : List (List ℕ × DeclRef)). AllZip (IsSymbolOf files) l (map symbol_shown c.in_ok-symbols.symbols.items)) c.names.ensures c.in_ok-symbols.ensures in
    symbols_are files c.args.exports.now.names c.in_ok-symbols.symbols.items c.sort.new.symbols.items (subst AreApart (sym c.requires) (exported_apart (package_block (trees_of files)) (block_apart (trees_of files)))) zipped c.sort.ensures.permutation c.sort.ensures.sorted
