use Rattle.std.proofs.Common.{sym, ◌∙◌}
use Rattle.go_tree_nodes.specs.Shapes.{file_of}
use Rattle.go_tree_core.specs.Occurrences.{file_occs}
use Rattle.go_tree_core.proofs.Covering.{found_value, passed_value, covering_covers, none_covers, only_found, only_none, seek_is}
use Rattle.go_tree_core.proofs.Order.{occs_follow}
use Rattle.go_tree_core.proofs.seek.at.Goals as goal

pub returns-in-Found-clause-value : goal.returns-in-Found-clause-value
returns-in-Found-clause-value c = sym (found_value c.args.offset c.in-Found.number (file_occs (file_of c.args.file.now)) c.requires.few (seek_is c.args.offset (file_occs (file_of c.args.file.now)) _ c.visit_file.ensures.1 ∙ c.in-Found.is))

pub returns-in-Found-clause-covers : goal.returns-in-Found-clause-covers
returns-in-Found-clause-covers c = covering_covers c.args.offset c.in-Found.number (file_occs (file_of c.args.file.now)) (sym (returns-in-Found-clause-value c))

pub returns-in-Found-clause-only : goal.returns-in-Found-clause-only
returns-in-Found-clause-only c = λ high i order covered.
    let same = only_found c.args.offset high c.in-Found.number i (file_occs (file_of c.args.file.now)) (sym (returns-in-Found-clause-value c)) (occs_follow (file_of c.args.file.now) high order) covered in
    cc

pub returns-in-Passed-clause-value : goal.returns-in-Passed-clause-value
returns-in-Passed-clause-value c = sym (passed_value c.args.offset c.in-Passed.field-0 (file_occs (file_of c.args.file.now)) (seek_is c.args.offset (file_occs (file_of c.args.file.now)) _ c.visit_file.ensures.1 ∙ c.in-Passed.is))

pub returns-in-Passed-clause-none : goal.returns-in-Passed-clause-none
returns-in-Passed-clause-none c = λ none. none_covers c.args.offset 0 c.in-Passed.field-0 (file_occs (file_of c.args.file.now)) (seek_is c.args.offset (file_occs (file_of c.args.file.now)) _ c.visit_file.ensures.1 ∙ c.in-Passed.is)

pub returns-in-Passed-clause-only : goal.returns-in-Passed-clause-only
returns-in-Passed-clause-only c = λ high i order covered.
    absurd (only_none c.args.offset 0 c.in-Passed.field-0 i (file_occs (file_of c.args.file.now)) (seek_is c.args.offset (file_occs (file_of c.args.file.now)) _ c.visit_file.ensures.1 ∙ c.in-Passed.is) covered)
