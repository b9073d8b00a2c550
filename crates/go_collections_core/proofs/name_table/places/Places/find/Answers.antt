use Rattle.std.proofs.Common.{◌≡◌, ℕ, None, ap, ◌∙◌, sym, length, arith}
use Rattle.std.specs.Prelude.{slice_get}
use Rattle.go_collections_core.specs.name_table.Named.{entries_named}
use Rattle.go_collections_core.specs.name_table.Placed.{start_of, IsNear, if_named}
use Rattle.go_collections_core.proofs.NameTablePlacing.{any_is, found_behind, none_near, too_few}
use Rattle.go_collections_core.proofs.name_table.places.Places.find.Goals.{then-slots-ge-WAYS+in_default, else-slots-ge-WAYS}
use Rattle.go_collections_core.proofs.name_table.places.Places.find.Goals as goal

pub returns-in-Some : goal.returns-in-Some
returns-in-Some g c = sym (any_is (entries_named c.args.entries.now) c.args.name.now c.in-Some.ensures.found.0 c.in-Some.value.now c.requires.once c.in-Some.ensures.found.1)

pub returns : goal.returns
returns g c =
    let slots = c.args.self.now.slots.items in
    let names = entries_named c.args.entries.now in
    let size : c.as_slice-slots.result.now ≡ slots = c.as_slice-slots.ensures.value in
    let none : (i : ℕ) → IsNear slots (start_of c.args.name.now (length slots)) i → if_named (slice_get names i) c.args.name.now ≡ None = elim c.if-slots-ge-WAYS.branch [ then-slots-ge-WAYS+in_default w ↦ none_near slots names c.args.name.now w.start_of-start.result (w.start_of-start.ensures.value ∙ ap (λ s. start_of c.args.name.now (length s)) size) (λ m p from to at. w.in_default.ensures.none m p from to (ap (λ s. slice_get s m) size ∙ at)) | else-slots-ge-WAYS w ↦ too_few slots names c.args.name.now (omega (arith, w.if-slots-ge-WAYS.false, (let same : length c.as_slice-slots.result.now ≡ length slots = ap length size in same))) ] in
    c.find_behind.ensures ∙ found_behind slots c.args.self.now.more names c.args.name.now c.requires.placed none
