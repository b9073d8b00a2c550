use Rattle.std.proofs.Common.{◌≡◌, ◌++◌, ap, map, sym, ◌∙◌}
use Rattle.go_tree_nodes.specs.Shapes.{file_of}
use Rattle.go_tree_core.specs.Occurrences.{file_occs}
use Rattle.go_report_core.specs.usage.Used.{blank_places, judged_import, used_places}
use Rattle.go_report_core.specs.usage.mirrors.Steps.{with_places}
use Rattle.go_report_core.proofs.UsagePlaces.{places_append}
use Rattle.go_report_core.proofs.usage.unused.judge_unused.Goals as goal

pub returns-clause-value : goal.returns-clause-value
returns-clause-value c =
    let b = c.args.blocks.now in
    let file = c.args.file in
    let f = file_of c.args.tree.now in
    let us = c.args.answers.now in
    let old = c.args.places.now.keys in
    let first = blank_places f in
    let used = used_places b file (file_occs f) us in
    let keys : c.add_used_places.new.places.keys ≡ with_places old (first ++ used) =
    c.in_ok-add_used_places.ensures
    ∙ (ap (λ os. with_places c.add_all_blanks.new.places.keys (used_places b file os us)) (c.deref.ensures.value ∙ c.in_ok-occs.ensures.value)
    ∙ (ap (λ k. with_places k used) c.in_ok-add_all_blanks.ensures
    ∙ sym (places_append old first used))) in
    c.judge_all.ensures ∙ ap (λ k. map (judged_import k) us) keys
