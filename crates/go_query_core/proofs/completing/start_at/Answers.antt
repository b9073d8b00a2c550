use Rattle.std.proofs.Common.{◌<◌, Some, length, slice_get, sym, ap, ◌∙◌, subst, arith}
use Rattle.std.proofs.lemmas.Option.{slice_get-get_or}
use Rattle.go_complete_core.specs.snap_core.Snapshots.{file_in_shown}
use Rattle.go_query_core.proofs.Spotted.{as_many, begun}
use Rattle.go_query_core.proofs.completing.start_at.Goals as goal

pub index-requires : goal.index-requires
index-requires c =
    let answers = c.args.file.made.now.answers.answers in
    let lt : c.in-Some.number.0 < length answers.items = subst (λ n. c.in-Some.number.0 < n) (sym (as_many (file_in_shown c.args.file) c.requires)) c.in-Some.ensures.covers.0 in
    omega (arith, lt, answers.ok.0)

pub returns-in-Some : goal.returns-in-Some
returns-in-Some c =
    let uses = c.args.file.made.now.answers.answers.items in
    let lt : c.in-Some.number.0 < length uses = subst (λ n. c.in-Some.number.0 < n) (sym (as_many (file_in_shown c.args.file) c.requires)) c.in-Some.ensures.covers.0 in
    begun (file_in_shown c.args.file) c.args.offset c.in-Some.number.0 c.index.result.now c.requires c.in-Some.ensures.covers (slice_get-get_or uses c.in-Some.number.0 c.index.result.now lt ∙ ap Some (sym c.index.ensures))
