use Rattle.std.proofs.Common.{Option, subst}
use Rattle.std.specs.Option.{option_map}
use Rattle.std.specs.declared.alloc.Global.{Global}
use Rattle.std.specs.declared.string.String.{String}
use Rattle.std.specs.declared.vec.Vec.{Vec}
use Rattle.std.proofs.lemmas.Result.{IfOk-weaker}
use Rattle.go_cursor_core.specs.Spots.{spot_seen}
use Rattle.go_complete_core.specs.place.Completed.{Completes}
use Rattle.go_complete_core.specs.place.Completions.{texts_of}
use Rattle.go_complete_core.specs.snap_core.Snapshots.{file_in_shown}
use Rattle.go_query_core.proofs.Completed.{by_names, by_types}
use Rattle.go_query_core.proofs.completing.names_for.Goals as goal

pub names_there-requires-clause-spot : goal.names_there-requires-clause-spot
names_there-requires-clause-spot c = c.requires.asked.among

pub names_by_types-requires-clause-named : goal.names_by_types-requires-clause-named
names_by_types-requires-clause-named c = c.requires.asked.among

pub names_by_types-requires-clause-file : goal.names_by_types-requires-clause-file
names_by_types-requires-clause-file c = c.requires.spots.listed

pub returns-in-Some-clause-ok : goal.returns-in-Some-clause-ok
returns-in-Some-clause-ok c =
    let f = file_in_shown c.args.file in
    let u = spot_seen c.args.found.now in
    by_names f c.args.offset u (texts_of c.in-Some.names) c.requires.asked
    (subst (λ (r : Option (Vec (String Global) Global)). Completes f.of_part f.number f.tree u (option_map texts_of r)) c.in-Some.is c.in_ok-names.ensures.ok)

pub returns-in-None-clause-ok : goal.returns-in-None-clause-ok
returns-in-None-clause-ok c =
    let f = file_in_shown c.args.file in
    let u = spot_seen c.args.found.now in
    IfOk-weaker c.names_by_types.result _ _
    (λ r h. by_types f c.args.offset u (texts_of r) c.requires.asked
    (subst (λ (r : Option (Vec (String Global) Global)). Completes f.of_part f.number f.tree u (option_map texts_of r)) c.in-None.is c.in_ok-names.ensures.ok) h) c.names_by_types.ensures.ok
