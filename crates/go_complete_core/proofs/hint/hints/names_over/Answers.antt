use Rattle.std.proofs.Common.{List, map, ap, ◌∙◌}
use Rattle.go_typexpr_core.specs.entry.Outlines.{FileOutline, outline_shown}
use Rattle.go_typexpr_core.specs.entry.Meanings.{Shows}
use Rattle.go_candidate_core.specs.declared_core.Written.{package_written}
use Rattle.go_package_core.specs.prepare.Packages.{outlines_in, package_in_shown, shows_in}
use Rattle.go_package_core.proofs.PrepareMade.{all_outlines}
use Rattle.go_cursor_core.specs.Spots.{spot_seen}
use Rattle.go_complete_core.specs.hint.Hints.{shown_alone}
use Rattle.go_complete_core.proofs.HintGiving.{item_none, item_there, no_outline, outline_at}
use Rattle.go_complete_core.proofs.hint.hints.names_over.Goals as goal

pub written_faces-requires : goal.written_faces-requires
written_faces-requires g c =
    let q = package_in_shown shown_alone c.args.at.now in
    all_outlines (map outline_shown c.args.outlines.now) q.trees c.requires.outlines

pub names_kept-requires-clause-written : goal.names_kept-requires-clause-written
names_kept-requires-clause-written g c =
    let q = package_in_shown shown_alone c.args.at.now in
    c.in_ok-written.ensures
    ∙ (ap (λ (s : Shows). package_written s c.path-path.result.now q.blocks c.args.types.now (map outline_shown c.args.outlines.now)) c.requires.names
    ∙ (ap (λ path. package_written (shows_in q) path q.blocks c.args.types.now (map outline_shown c.args.outlines.now)) c.path-path.ensures
    ∙ ap (λ (os : List FileOutline). package_written (shows_in q) q.path q.blocks c.args.types.now os) c.requires.outlines))

pub names_kept-requires-clause-outline : goal.names_kept-requires-clause-outline
names_kept-requires-clause-outline g c =
    outline_at c.args.outlines.now (outlines_in (package_in_shown shown_alone c.args.at.now)) c.args.number c.in-Some.outline.now c.requires.outlines
    (item_there c.args.outlines.now c.args.number c.get.result c.in-Some.outline c.get.ensures.lookup c.in-Some.is)

pub returns : goal.returns
returns g c =
    no_outline c.args.part.now (package_in_shown shown_alone c.args.at.now) c.args.types.now c.requires.seen c.args.number (spot_seen c.args.found.now) c.new.result.items c.args.outlines.now c.requires.outlines
    (item_none c.args.outlines.now c.args.number c.get.result c.get.ensures.lookup c.in-None.is)
