use Rattle.std.proofs.Common.{◌++◌, ap, map, ◌∙◌}
use Rattle.go_tree_nodes.specs.Shapes.{file_of}
use Rattle.go_tree_core.specs.Occurrences.{file_occs}
use Rattle.go_report_core.specs.usage.Used.{blank_places, judged_import, used_places}
use Rattle.go_report_core.specs.usage.mirrors.Steps.{with_places}
use Rattle.go_report_core.proofs.UsagePlaces.{judged_once, on_ok_then}
use Rattle.go_report_core.proofs.usage.unused.refuse_unused.Goals as goal

pub returns-clause-value : goal.returns-clause-value
returns-clause-value c =
    let f = file_of c.args.tree.now in
    let us = c.args.answers.now in
    let all = blank_places f ++ used_places c.args.blocks.now c.args.file (file_occs f) us in
    on_ok_then c.judge_unused.result (λ e. e ∙ (ap (λ k. map (judged_import (with_places k all)) us) c.new-places.ensures.empty ∙ judged_once all us)) c.judge_unused.ensures.value
