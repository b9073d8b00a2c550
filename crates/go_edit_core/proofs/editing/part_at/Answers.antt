use Rattle.std.proofs.Common.{rules, ◌<◌, length, Some, refl, sym, ap, subst, arith}
use Rattle.std.proofs.lemmas.Option.{slice_get_within}
use Rattle.go_import_core.specs.head.Heads.{HaveSameHeads}
use Rattle.go_edit_core.specs.Edits.{DifferAt}
use Rattle.go_edit_core.proofs.EditedParts.{assembled, at_index, found_at, one_each, place_of, same_path}
use Rattle.go_edit_core.proofs.editing.part_at.Goals as goal

pub bounds-parts-number : goal.bounds-parts-number
bounds-parts-number c =
    let s = c.args.earlier.now in
    let lt = place_of s.sources s.parts c.args.number c.requires.one c.sources-sources.ensures.whole.made c.requires.there in
    omega (arith, lt, ap length c.parts-parts.ensures)

pub offset_bounds-parts-number : goal.offset_bounds-parts-number
offset_bounds-parts-number c =
    let s = c.args.earlier.now in
    let below = place_of s.sources s.parts c.args.number c.requires.one c.sources-sources.ensures.whole.made c.requires.there in
    let lt : c.args.number < length c.parts-parts.result.now = omega (arith, below, ap length c.parts-parts.ensures) in
    search rules

pub bounds-packages-number : goal.bounds-packages-number
bounds-packages-number c = omega (arith, slice_get_within c.args.workspace.now c.args.number c.requires.other c.requires.here, ap length c.packages-packages.ensures.packages)

pub have_same_heads-requires : goal.have_same_heads-requires
have_same_heads-requires c = subst (λ l. DifferAt l c.args.workspace.now c.args.number) (sym c.sources-sources.ensures.value) c.requires

pub edited_part-requires-clause-assembled : goal.edited_part-requires-clause-assembled
edited_part-requires-clause-assembled c =
    let s = c.args.earlier.now in
    let ps = c.args.workspace.now in
    let n = c.args.number in
    let made = c.sources-sources.ensures.whole.made in
    let p = c.index-packages-number.result in
    let heads : HaveSameHeads s.sources ps = subst (λ l. HaveSameHeads l ps) c.sources-sources.ensures.value (c.in_ok-heads.ensures c.if-not-heads.false) in
    let had = at_index s.parts c.parts-parts.result.now n c.index-parts-number.result (Some c.in-Some.part) (place_of s.sources s.parts n c.requires.one made c.requires.there) c.index-parts-number.is c.parts-parts.ensures c.in-Some.is in
    let numbered = at_index ps c.packages-packages.result.now n p p (slice_get_within ps n c.requires.other c.requires.here) c.index-packages-number.is c.packages-packages.ensures.packages refl in
    assembled s.sources ps s.parts n c.in-Some.part p heads made had numbered

pub edited_part-requires-clause-path : goal.edited_part-requires-clause-path
edited_part-requires-clause-path c =
    let s = c.args.earlier.now in
    let ps = c.args.workspace.now in
    let n = c.args.number in
    let made = c.sources-sources.ensures.whole.made in
    let p = c.index-packages-number.result in
    let heads : HaveSameHeads s.sources ps = subst (λ l. HaveSameHeads l ps) c.sources-sources.ensures.value (c.in_ok-heads.ensures c.if-not-heads.false) in
    let had = at_index s.parts c.parts-parts.result.now n c.index-parts-number.result (Some c.in-Some.part) (place_of s.sources s.parts n c.requires.one made c.requires.there) c.index-parts-number.is c.parts-parts.ensures c.in-Some.is in
    let numbered = at_index ps c.packages-packages.result.now n p p (slice_get_within ps n c.requires.other c.requires.here) c.index-packages-number.is c.packages-packages.ensures.packages refl in
    same_path s.sources ps s.parts n c.in-Some.part p heads made had numbered

pub edited_part-requires-clause-imports : goal.edited_part-requires-clause-imports
edited_part-requires-clause-imports c =
    let s = c.args.earlier.now in
    let ps = c.args.workspace.now in
    let n = c.args.number in
    let made = c.sources-sources.ensures.whole.made in
    let p = c.index-packages-number.result in
    let heads : HaveSameHeads s.sources ps = subst (λ l. HaveSameHeads l ps) c.sources-sources.ensures.value (c.in_ok-heads.ensures c.if-not-heads.false) in
    let had = at_index s.parts c.parts-parts.result.now n c.index-parts-number.result (Some c.in-Some.part) (place_of s.sources s.parts n c.requires.one made c.requires.there) c.index-parts-number.is c.parts-parts.ensures c.in-Some.is in
    let numbered = at_index ps c.packages-packages.result.now n p p (slice_get_within ps n c.requires.other c.requires.here) c.index-packages-number.is c.packages-packages.ensures.packages refl in
    one_each s.sources ps s.parts n c.in-Some.part p heads made had numbered

pub returns : goal.returns
returns c =
    let s = c.args.earlier.now in
    let ps = c.args.workspace.now in
    let n = c.args.number in
    let made = c.sources-sources.ensures.whole.made in
    let p = c.index-packages-number.result in
    let heads : HaveSameHeads s.sources ps = subst (λ l. HaveSameHeads l ps) c.sources-sources.ensures.value (c.in_ok-heads.ensures c.if-not-heads.false) in
    let had = at_index s.parts c.parts-parts.result.now n c.index-parts-number.result (Some c.in-Some.part) (place_of s.sources s.parts n c.requires.one made c.requires.there) c.index-parts-number.is c.parts-parts.ensures c.in-Some.is in
    let numbered = at_index ps c.packages-packages.result.now n p p (slice_get_within ps n c.requires.other c.requires.here) c.index-packages-number.is c.packages-packages.ensures.packages refl in
    found_at s.sources ps s.parts n c.in-Some.part p heads made had numbered c.in_ok-found.found c.in_ok-found.ensures
