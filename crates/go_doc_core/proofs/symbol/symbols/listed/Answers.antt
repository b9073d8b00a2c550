use Rattle.std.proofs.Common.{sym}
use Rattle.go_block_core.specs.Exports.{name_and_decl}
use Rattle.go_doc_core.specs.symbol.Symbols.{IsSymbolOf, symbol_shown}
use Rattle.go_doc_core.specs.symbol.mirrors.Docs.{docs_shown}
use Rattle.go_doc_core.proofs.SymbolShowing.{declared_at, declared_within, has_number, item_at, shown, zip_next}
use Rattle.go_doc_core.proofs.symbol.symbols.listed.Goals as goal

pub docs_of-requires : goal.docs_of-requires
docs_of-requires c = (
    let n = c.in-Some.first.now in
    declared_within c.args.«package».now.1 (name_and_decl n) (declared_at c.args.«package».now.1 c.args.names.now 0 n c.requires (sym c.in-Some.ensures.value))
    )

pub docs_for-requires-clause-within : goal.docs_for-requires-clause-within
docs_for-requires-clause-within c =
    let n = c.named-item.result in
    let at = item_at c.args.names.now c.loop-named.named-index n c.loop-named-test.true c.named-item.is in
    declared_within c.args.«package».now.1 (name_and_decl n) (declared_at c.args.«package».now.1 c.args.names.now c.loop-named.named-index n c.requires at)

pub symbol-requires-clause-some : goal.symbol-requires-clause-some
symbol-requires-clause-some c =
    let n = c.named-item.result in
    let at = item_at c.args.names.now c.loop-named.named-index n c.loop-named-test.true c.named-item.is in
    has_number c.args.«package».now.1 (docs_shown c.in_ok-docs-2.docs) (name_and_decl n) c.in_ok-docs-2.ensures.docs c.in_ok-docs-2.ensures.file (declared_at c.args.«package».now.1 c.args.names.now c.loop-named.named-index n c.requires at)

pub loop-named-preserved : goal.loop-named-preserved
loop-named-preserved c =
    let files = c.args.«package».now.1 in
    let n = c.named-item.result in
    let at = item_at c.args.names.now c.loop-named.named-index n c.loop-named-test.true c.named-item.is in
    let one = shown files (docs_shown c.in_ok-docs-2.docs) (name_and_decl n) c.in_ok-docs-2.ensures.docs c.in_ok-docs-2.ensures.file (declared_at files c.args.names.now c.loop-named.named-index n c.requires at) (symbol_shown c.symbol.result) c.symbol.ensures in
    record {
      docs = c.in_ok-docs-2.ensures.docs;
      so_far = zip_next (IsSymbolOf files) name_and_decl symbol_shown c.args.names.now c.loop-named.symbols.items c.add.new.all.items c.loop-named.named-index n c.symbol.result c.loop-named-test.true c.named-item.is c.in_ok-add.ensures c.loop-named.invariant.so_far one;
    }
