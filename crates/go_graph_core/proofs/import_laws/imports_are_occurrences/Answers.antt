use Rattle.go_graph_core.proofs.ImportOccurrences.{texts_are_strings, texts_are_occurrences}
use Rattle.go_graph_core.proofs.import_laws.imports_are_occurrences.Goals as goal

pub returns-clause-strings : goal.returns-clause-strings
returns-clause-strings c = texts_are_strings

pub returns-clause-occurrences : goal.returns-clause-occurrences
returns-clause-occurrences c = texts_are_occurrences
