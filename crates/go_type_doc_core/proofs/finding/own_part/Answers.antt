use Rattle.go_query_core.proofs.Listed.{no_part, part_of}
use Rattle.go_type_doc_core.proofs.finding.own_part.Goals as goal

pub returns-in-Some-number_of : goal.returns-in-Some-number_of
returns-in-Some-number_of c =
    part_of c.args.snapshot.now c.sources.result.now c.packages-packages.result.now c.sources.ensures.value c.packages-packages.ensures.packages c.packages-packages.ensures.well c.args.path.now c.as_str.result.now c.as_str.ensures.text c.in-Some-number_of.number
    c.in-Some-number_of.ensures.0 c.in-Some.part.now c.in-Some-number_of.ensures.1 c.in-Some.ensures

pub returns-in-None-number_of : goal.returns-in-None-number_of
returns-in-None-number_of c =
    no_part c.args.snapshot.now c.sources.result.now c.packages-packages.result.now c.sources.ensures.value c.packages-packages.ensures.packages c.packages-packages.ensures.well c.args.path.now c.as_str.result.now c.as_str.ensures.text c.in-None-number_of.ensures
