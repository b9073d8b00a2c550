use Rattle.std.proofs.Common.{◌<◌, length, sym, subst, arith}
use Rattle.go_complete_core.specs.snap_core.Snapshots.{file_in_shown}
use Rattle.go_query_core.proofs.Using.{used_at}
use Rattle.go_query_core.proofs.defining.use_at.Goals as goal

pub index-requires : goal.index-requires
index-requires c =
    let answers = c.args.file.made.now.answers.answers in
    let lt : c.in-Some.number.0 < length answers.items = subst (λ n. c.in-Some.number.0 < n) (sym c.requires.many) c.in-Some.ensures.covers.0 in
    omega (arith, lt, answers.ok.0)

pub returns-in-Some : goal.returns-in-Some
returns-in-Some c =
    let lt : c.in-Some.number.0 < length c.args.file.made.now.answers.answers.items = subst (λ n. c.in-Some.number.0 < n) (sym c.requires.many) c.in-Some.ensures.covers.0 in
    used_at (file_in_shown c.args.file) c.args.offset c.in-Some.number.0 c.index.result.now c.in-Some.ensures.covers lt c.index.ensures
