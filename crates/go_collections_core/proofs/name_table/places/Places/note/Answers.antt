use Rattle.std.proofs.Common.{◌≡◌, ap, ◌∙◌, length, arith}
use Rattle.go_collections_core.specs.name_table.Placed.{start_of}
use Rattle.std.specs.Prelude.{slice_get}
use Rattle.go_collections_core.proofs.NameTablePlacing.{noted_near, noted_behind}
use Rattle.go_collections_core.proofs.name_table.places.Places.note.Goals as goal

pub returns-in-Some-clause-ok : goal.returns-in-Some-clause-ok
returns-in-Some-clause-ok c =
    let slots = c.args.self.now.slots.items in
    let size : c.len-len.result ≡ length slots = omega (arith, c.len-len.ensures, c.args.self.now.slots.ok.0) in
    let is = c.start_of-start.ensures.value ∙ ap (start_of c.args.name.now) size in
    let e = c.in-Some.ensures in
    noted_near slots c.args.self.now.more c.args.name.now c.args.place c.in-Some.free c.start_of-start.result is (omega (arith, c.start_of-start.ensures.room, size)) e.0 e.1 (λ i at. e.2 i (ap (λ s. slice_get s c.in-Some.free) c.as_slice.ensures.value ∙ at))

pub returns-clause-ok : goal.returns-clause-ok
returns-clause-ok c = noted_behind c.args.self.now.slots.items c.args.self.now.more c.insert.new.self c.in_ok-key.key c.args.name.now c.args.place c.in_ok-key.ensures.ok c.in_ok-insert.ensures.updates
