use Rattle.std.proofs.Common.{◌≡◌, suc, ◌+◌, [], ◌∷◌, ◌++◌, None, take, get_or, refl, sym, ap, ◌∙◌, arith}
use Rattle.std.specs.Prelude.{string_bytes}
use Rattle.std.proofs.Math.Seq.{take-suc}
use Rattle.go_collections_core.specs.name_table.Named.{entries_named, value_at}
use Rattle.go_collections_core.proofs.NameTableOnce.{copied_absent}
use Rattle.go_collections_core.proofs.NameTableEntries.{named_push, named_count}
use Rattle.go_collections_core.proofs.NameTablePlacing.{none_placed, placed_more}
use Rattle.go_collections_core.proofs.name_table.places.Places.of.Goals as goal

pub loop-place-init : goal.loop-place-init
loop-place-init g c = none_placed _ _ _ refl

pub loop-place-preserved : goal.loop-place-preserved
loop-place-preserved g c =
    let at = c.loop-place in
    let es = c.args.entries.now in
    let k = at.place in
    let d = c.index-entries-place.result in
    let lt = c.loop-place-test.true in
    let ns = entries_named (take k es) in
    let name = c.as_str.result.now in
    let is : name ≡ string_bytes (get_or es k d).0 = c.as_str.ensures.value ∙ ap (λ e. string_bytes e.0) c.index-entries-place.is in
    let absent : value_at ns name ≡ None = ap (value_at ns) is ∙ copied_absent es k d lt ns refl c.requires in
    let up : k + 1 ≡ suc k = omega arith in
    let more : entries_named (take (k + 1) es) ≡ ns ++ (name, (get_or es k d).1) ∷ [] = ap (λ n. entries_named (take n es)) up ∙ (ap entries_named (take-suc es k d lt) ∙ named_push (take k es) (get_or es k d).0 name (get_or es k d).1 (sym is)) in
    placed_more at.places.slots.items c.note.new.self.slots.items at.places.more c.note.new.self.more ns (entries_named (take (k + 1) es)) name (get_or es k d).1 k at.invariant absent (named_count es k lt) more c.in_ok-note.ensures.ok
