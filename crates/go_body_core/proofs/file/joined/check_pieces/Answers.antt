use Rattle.std.proofs.Common.{◌≡◌, map, All, sym, ap, subst, ◌∙◌}
use Rattle.std.specs.List.{flat_map}
use Rattle.go_tree_nodes.specs.Shapes.{top_of}
use Rattle.go_body_core.specs.function.Laws.{AreFuncTypes}
use Rattle.go_body_core.specs.declared.file.whole.CheckedFile.{CheckedFile}
use Rattle.go_body_core.specs.file.Files.{tops_uses, tops_faults, tops_locals}
use Rattle.go_body_core.specs.file.Package.{checked_file_shown}
use Rattle.go_body_core.specs.file.Runs.{IsRunMade, run_checked}
use Rattle.go_body_core.specs.file.Stands.{stand_of, tops_funcs}
use Rattle.go_body_core.proofs.FileRunning.{zip_long, noted_as, runs_made, runs_used, runs_broken, runs_declare}
use Rattle.go_body_core.proofs.file.joined.check_pieces.Goals as goal

pub runs_of-requires : goal.runs_of-requires
runs_of-requires g c =
    let at = c.args.at.now in
    zip_long (AreFuncTypes (stand_of g.P.ImportedNames.shows at)) (tops_funcs (map top_of c.args.decls.now)) at.functions.now c.requires.made.typed

pub check_runs-requires-clause-made : goal.check_runs-requires-clause-made
check_runs-requires-clause-made g c κs within =
    let at = c.args.at.now in
    let st = stand_of g.P.ImportedNames.shows at in
    subst (All (IsRunMade st at.initial.now)) (sym c.as_slice.ensures.value) (runs_made st at.initial.now c.args.decls.now at.functions.now c.in_ok-runs.runs.items c.in_ok-runs.ensures c.requires.made)

pub returns-clause-uses : goal.returns-clause-uses
returns-clause-uses g c =
    let st = stand_of g.P.ImportedNames.shows c.args.at.now in
    let cs = c.in_ok-checked.checked.items in
    let same : map checked_file_shown cs ≡ map (run_checked st) c.in_ok-runs.runs.items = c.in_ok-checked.ensures ∙ ap (map (run_checked st)) c.as_slice.ensures.value in
    let all : flat_map (λ (x : CheckedFile). x.uses.items) cs ≡ tops_uses st (map top_of c.args.decls.now) = runs_used st c.args.decls.now c.in_ok-runs.runs.items cs c.in_ok-runs.ensures.all same in
    noted_as c.gather.result c.args.notes.now.uses.items c.gather.new.notes.uses.items (flat_map (λ (x : CheckedFile). x.uses.items) cs) (tops_uses st (map top_of c.args.decls.now)) all c.gather.ensures.uses

pub returns-clause-faults : goal.returns-clause-faults
returns-clause-faults g c =
    let st = stand_of g.P.ImportedNames.shows c.args.at.now in
    let cs = c.in_ok-checked.checked.items in
    let same : map checked_file_shown cs ≡ map (run_checked st) c.in_ok-runs.runs.items = c.in_ok-checked.ensures ∙ ap (map (run_checked st)) c.as_slice.ensures.value in
    let all : flat_map (λ (x : CheckedFile). x.faults.items) cs ≡ tops_faults st (map top_of c.args.decls.now) = runs_broken st c.args.decls.now c.in_ok-runs.runs.items cs c.in_ok-runs.ensures.all same in
    noted_as c.gather.result c.args.notes.now.faults.items c.gather.new.notes.faults.items (flat_map (λ (x : CheckedFile). x.faults.items) cs) (tops_faults st (map top_of c.args.decls.now)) all c.gather.ensures.faults

pub returns-clause-declared : goal.returns-clause-declared
returns-clause-declared g c =
    let st = stand_of g.P.ImportedNames.shows c.args.at.now in
    let cs = c.in_ok-checked.checked.items in
    let same : map checked_file_shown cs ≡ map (run_checked st) c.in_ok-runs.runs.items = c.in_ok-checked.ensures ∙ ap (map (run_checked st)) c.as_slice.ensures.value in
    let all : flat_map (λ (x : CheckedFile). x.locals.items) cs ≡ tops_locals st (map top_of c.args.decls.now) = runs_declare st c.args.decls.now c.in_ok-runs.runs.items cs c.in_ok-runs.ensures.all same in
    noted_as c.gather.result c.args.declared.now.items c.gather.new.declared.items (flat_map (λ (x : CheckedFile). x.locals.items) cs) (tops_locals st (map top_of c.args.decls.now)) all c.gather.ensures.declared
