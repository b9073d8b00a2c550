use Rattle.std.proofs.Common.{◌∷◌, [], ap, map, ◌∙◌}
use Rattle.std.proofs.lemmas.List.{map-append}
use Rattle.go_lsp_core.specs.edits.Edits.{part_of}
use Rattle.go_reference_core.proofs.RenameRetold.{no_end_at, parts_all, parts_more}
use Rattle.go_reference_core.proofs.rename.texts.edits_at.Goals as goal

pub loop-at-preserved : goal.loop-at-preserved
loop-at-preserved c =
    parts_more c.args.len c.args.new.now c.args.offsets.now c.loop-at.at-index (map part_of c.loop-at.edits.items) _ (part_of c.in-Some.edit) c.loop-at-test.true c.in-Some.ensures
    (ap (map part_of) c.in_ok-push-in-Some.ensures.items ∙ map-append part_of c.loop-at.edits.items (c.in-Some.edit ∷ [])) c.loop-at.invariant

pub returns-in-None : goal.returns-in-None
returns-in-None c = no_end_at c.args.len c.args.offsets.now c.loop-at.at-index c.loop-at-test.true c.in-None.ensures

pub returns : goal.returns
returns c = parts_all c.args.len c.args.new.now c.args.offsets.now c.loop-at.at-index _ c.loop-at-test.false c.loop-at.invariant
