use Rattle.go_type_doc_core.proofs.Kept.{has_the_file, part_doc_none}
use Rattle.go_type_doc_core.proofs.reading.new_doc.Goals as goal

pub read_doc-requires : goal.read_doc-requires
read_doc-requires c = has_the_file c.args.part.now c.args.decl c.has_file.result c.has_file.ensures c.if-has_file.true

pub returns-else-has_file-clause-doc : goal.returns-else-has_file-clause-doc
returns-else-has_file-clause-doc c = part_doc_none c.args.part.now c.args.decl c.has_file.result c.has_file.ensures c.if-has_file.false
