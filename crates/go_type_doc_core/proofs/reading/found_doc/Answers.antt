use Rattle.std.proofs.Common.{sym}
use Rattle.go_type_doc_core.specs.mirrors.Read.{read_shown}
use Rattle.go_type_doc_core.proofs.Kept.{method_told, read_found}
use Rattle.go_type_doc_core.proofs.reading.found_doc.Goals as goal

pub doc-requires : goal.doc-requires
doc-requires c =
    let h = read_found c.requires.0 c.args.read.now.files.entries (c.args.path, c.args.decl.file) c.in-Some.docs.now c.requires.1 (sym c.in-Some.ensures.value) in
    (h.of_part.input.source.1, h.docs)

pub returns-in-Some : goal.returns-in-Some
returns-in-Some c = λ s h.
    method_told s c.args.path.now c.args.decl (read_shown c.in-Some.docs.now) c.doc.result.now (read_found s c.args.read.now.files.entries (c.args.path, c.args.decl.file) c.in-Some.docs.now h (sym c.in-Some.ensures.value)) c.doc.ensures
