use Rattle.std.proofs.Common.{◌≡◌, length, sym, ap, ◌∙◌, rules}
use Rattle.go_summary_core.proofs.Places.{picked_many}
use Rattle.go_summary_core.proofs.reached.ReachedSummaries.len.Goals as goal

pub returns-clause-value : goal.returns-clause-value
returns-clause-value c =
    let places = c.self.inside.places.items in
    let n : c.len.result ≡ length places = search rules in
    n ∙ (sym (picked_many c.self.inside.told places c.self.invariant.below) ∙ ap length c.self.view_is)
