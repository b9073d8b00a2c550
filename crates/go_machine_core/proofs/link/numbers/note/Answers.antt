use Rattle.std.proofs.Common.{◌≡◌, ap, sym, ◌∙◌, cond, Some, Option, ℕ, Bool}
use Rattle.std.specs.Prelude.{option_map}
use Rattle.go_machine_core.specs.declared.link.places.Place.{Place}
use Rattle.go_machine_core.specs.link.Functions.{is_at, place_shown}
use Rattle.go_machine_core.specs.link.mirrors.Numbering.{found_key}
use Rattle.go_machine_core.proofs.LinkLaying.{place_back}
use Rattle.go_machine_core.proofs.link.numbers.note.Goals as goal

pub returns-in_ok-insert : goal.returns-in_ok-insert
returns-in_ok-insert c k =
    let old : Option ℕ = found_key k c.args.numbers.now.entries in
    c.in_ok-insert.ensures.updates.0 k
    ∙ (ap (λ (b : Bool). cond b (Some c.args.number) old) (place_back (place_shown c.in-Some.place) (place_shown k))
    ∙ ap (λ (p : Option Place). cond (is_at (place_shown k) (option_map place_shown p)) (Some c.args.number) old) (sym c.in-Some.is))
