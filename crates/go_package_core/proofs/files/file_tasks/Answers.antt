use Rattle.std.proofs.Common.{[], ◌≡◌, ◌+◌, ◌<◌, ◌≤◌, map, length, take, refl, ap, sym, subst, ◌∙◌, arith}
use Rattle.std.specs.Prelude.{Some, slice_get}
use Rattle.std.specs.List.{AllZip, enumerate_from}
use Rattle.std.proofs.lemmas.List.{length-map, take_all}
use Rattle.std.proofs.lemmas.List.FromFn.{length-enumerate_from}
use Rattle.go_tree_nodes.specs.Shapes.{file_of}
use Rattle.go_block_core.specs.graph_core.Packages.{trees_of, tree_shown}
use Rattle.go_term_core.specs.decl_core.Shown.{decl_shown}
use Rattle.go_body_core.specs.typexpr_core.EntryOutlines.{outline_shown}
use Rattle.go_report_core.specs.declared_core.Laws.{package_decls}
use Rattle.go_body_core.specs.env_core.Scenes.{scene_shown}
use Rattle.go_package_core.specs.prepare.Inlines.{AreOutlinedTypes, types_stand}
use Rattle.go_package_core.specs.prepare.Packages.{outlines_in, package_in_shown}
use Rattle.go_package_core.specs.Checked.{IsFileChecked}
use Rattle.go_package_core.specs.mirrors.TasksOf.{IsTaskOf}
use Rattle.go_package_core.proofs.Numbered.{zip_length}
use Rattle.go_package_core.proofs.Stages.{initial_many}
use Rattle.go_package_core.proofs.Steps.{as_many_trees, before_as, before_more, before_within, checked_there, functions_there, initial_there, outline_is, outline_there, tree_there, trees_within}
use Rattle.go_package_core.proofs.Corresponding.{task_more}
use Rattle.go_package_core.proofs.files.file_tasks.Goals as goal

pub loop-file-init : goal.loop-file-init
loop-file-init g c =
    let p = package_in_shown g.P.ImportedNames.shows c.args.at.now in
    let d = c.args.declared.now in
    record {
      tasks = subst (λ l. AllZip (IsTaskOf g.N.ImportedNames.shows p c.args.scene.now.types.now d.known.items c.args.type_faults.now d.looped.items) [] l) (sym c.new-tasks.ensures.items) tt;
      first = refl;
    }

pub index-requires : goal.index-requires
index-requires g c =
    let p = package_in_shown g.P.ImportedNames.shows c.args.at.now in
    let lt = c.loop-file-test.true in
    let many = initial_many p c.args.scene.now.types.now c.args.ready.now.initial.items (map outline_shown c.args.outlines.now) c.requires.ready.initial c.requires.outlines in
    let outlines = length-map c.args.outlines.now outline_shown in
    let v = c.args.ready.now.initial.ok.0 in
    omega (arith, lt, many, outlines, v)

pub index-requires-in-loop-file : goal.index-requires-in-loop-file
index-requires-in-loop-file g c =
    let p = package_in_shown g.P.ImportedNames.shows c.args.at.now in
    let types = c.args.scene.now.types.now in
    let lt = c.loop-file-test.true in
    let fs = c.args.ready.now.functions.items in
    let zip = zip_length (λ o of_file. AreOutlinedTypes (types_stand p types o) o.1 of_file) (enumerate_from 0 (outlines_in p)) (map (λ of_file. of_file.items) fs) c.requires.ready.functions in
    let shown = length-map fs (λ of_file. of_file.items) in
    let numbered = length-enumerate_from 0 (outlines_in p) in
    let outlines = sym (ap length c.requires.outlines) ∙ length-map c.args.outlines.now outline_shown in
    let v = c.args.ready.now.functions.ok.0 in
    omega (arith, lt, zip, shown, numbered, outlines, v)

pub tree-requires : goal.tree-requires
tree-requires g c =
    let p = package_in_shown g.P.ImportedNames.shows c.args.at.now in
    let lt = c.loop-file-test.true in
    let sources = c.args.at.now.package.now.1 in
    let many = as_many_trees p c.args.outlines.now c.requires.outlines in
    let trees = length-map (trees_of sources) tree_shown in
    let within = trees_within sources in
    omega (arith, lt, many, trees, within)

pub overflow_add-first : goal.overflow_add-first
overflow_add-first g c =
    let p = package_in_shown g.P.ImportedNames.shows c.args.at.now in
    let n = c.loop-file.file in
    let outline = c.index-outlines-file.result in
    let count = c.len-first.ensures in
    let held = outline.decls.ok.0 in
    let shown = length-map outline.decls.items decl_shown in
    let counted : c.len-first.result ≡ length (map decl_shown outline.decls.items) = omega (arith, count, held, shown) in
    let more = before_more c.args.outlines.now n c.loop-file.first c.len-first.result outline c.loop-file-test.true c.index-outlines-file.is counted c.loop-file.invariant.first in
    let within = before_within c.args.outlines.now (n + 1) in
    let all = c.requires.looped ∙ sym (ap (λ l. length (package_decls l)) c.requires.outlines) in
    let looped = c.deref-in-loop-file-3.ensures in
    let small = c.deref-in-loop-file-3.type_inv.0 in
    let flags = ap length looped.value in
    omega (arith, more, within, all, flags, small)

pub loop-file-preserved : goal.loop-file-preserved
loop-file-preserved g c =
    let p = package_in_shown g.P.ImportedNames.shows c.args.at.now in
    let shows = g.N.ImportedNames.shows in
    let types = c.args.scene.now.types.now in
    let d = c.args.declared.now in
    let n = c.loop-file.file in
    let outline = c.index-outlines-file.result in
    let f = file_of c.tree.result.now in
    let at = tree_there p (trees_of c.args.at.now.package.now.1) n f refl c.tree.ensures.tree in
    let same = outline_is p c.args.outlines.now n outline f c.requires.outlines c.loop-file-test.true c.index-outlines-file.is at in
    let there = outline_there p n f at ∙ ap Some (sym same) in
    let first = before_as p c.args.outlines.now n c.loop-file.first c.requires.outlines c.loop-file.invariant.first in
    let held = c.args.ready.now.initial.items in
    let lt = c.loop-file-test.true in
    let many = initial_many p types held (map outline_shown c.args.outlines.now) c.requires.ready.initial c.requires.outlines in
    let outlines = length-map c.args.outlines.now outline_shown in
    let inside : n < length held = omega (arith, lt, many, outlines) in
    let initial = initial_there p types (shows c.args.names.now) (scene_shown c.args.scene.now) c.deref-in-loop-file.result.now n f (outline_shown outline) outline.places c.requires.names c.requires.scene refl same there held c.index.result.now c.requires.ready.initial inside c.index.ensures in
    let functions =
    functions_there p types (shows c.args.names.now) (scene_shown c.args.scene.now) c.deref-in-loop-file.result.now n f (outline_shown outline) outline.places c.requires.names c.requires.scene refl same there c.args.ready.now.functions.items c.index-in-loop-file.result.now c.deref.result.now
    c.requires.ready.functions c.index-in-loop-file.ensures c.deref.ensures.value in
    let count = c.len-first.ensures in
    let held = outline.decls.ok.0 in
    let shown = length-map outline.decls.items decl_shown in
    let counted : c.len-first.result ≡ length (map decl_shown outline.decls.items) = omega (arith, count, held, shown) in
    record {
      tasks = task_more (IsTaskOf shows p types d.known.items c.args.type_faults.now d.looped.items) p.trees n f c.loop-file.tasks.items c.add.new.all.items _ at c.in_ok-add.ensures
          (record {
            ready = record { table = refl; placed = c.tree.ensures.placed; initial = initial; functions = functions };
            checked = λ a answered.
                subst (λ k. IsFileChecked p types k c.args.type_faults.now d.looped.items (n, f) a) c.deref-in-loop-file.ensures.value
                (checked_there p types (shows c.args.names.now) (scene_shown c.args.scene.now) c.deref-in-loop-file.result.now n f (outline_shown outline) outline.places c.requires.names c.requires.scene refl same there c.args.type_faults.now d.looped.items
                c.deref-in-loop-file-3.result.now c.imports_at.result.now (map decl_shown c.deref-in-loop-file-2.result.now) c.loop-file.first a c.imports_at.ensures (ap (map decl_shown) c.deref-in-loop-file-2.ensures.value) first
                c.deref-in-loop-file-3.ensures.value answered.uses answered.settled answered.locals);
          }) c.loop-file.invariant.tasks;
      first = before_more c.args.outlines.now n c.loop-file.first c.len-first.result outline c.loop-file-test.true c.index-outlines-file.is counted c.loop-file.invariant.first;
    }

pub returns : goal.returns
returns g c =
    let p = package_in_shown g.P.ImportedNames.shows c.args.at.now in
    let d = c.args.declared.now in
    let past = c.loop-file-test.false in
    let many = as_many_trees p c.args.outlines.now c.requires.outlines in
    let all : length p.trees ≤ c.loop-file.file = omega (arith, past, many) in
    subst (λ fs. AllZip (IsTaskOf g.N.ImportedNames.shows p c.args.scene.now.types.now d.known.items c.args.type_faults.now d.looped.items) (enumerate_from 0 fs) c.loop-file.tasks.items) (take_all c.loop-file.file p.trees all)
    c.loop-file.invariant.tasks
