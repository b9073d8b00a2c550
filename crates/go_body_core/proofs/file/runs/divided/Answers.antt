use Rattle.std.proofs.Common.{sym, ◌∙◌}
use Rattle.go_body_core.proofs.FileRunning.{funcs_within, funcs_left}
use Rattle.go_body_core.proofs.file.runs.divided.Goals as goal

pub split_at-functions-requires : goal.split_at-functions-requires
split_at-functions-requires c =
    let all = c.args.all.now in
    funcs_within all.decls.now c.split_at-decls.result.0.now c.split_at-decls.result.1.now _ _ c.split_at-decls.ensures.by_index.0 c.requires.typed c.functions_in.ensures

pub returns-clause-first : goal.returns-clause-first
returns-clause-first c = c.split_at-functions.ensures.front_len ∙ c.functions_in.ensures

pub returns-clause-rest : goal.returns-clause-rest
returns-clause-rest c =
    let all = c.args.all.now in
    funcs_left all.decls.now c.split_at-decls.result.0.now c.split_at-decls.result.1.now _ _ _ c.split_at-decls.ensures.by_index.0 c.requires.typed c.functions_in.ensures c.split_at-functions.ensures.back_len
