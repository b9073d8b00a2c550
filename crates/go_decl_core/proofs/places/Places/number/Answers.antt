use Rattle.std.proofs.Common.{rules}
use Rattle.std.proofs.lemmas.List.Sorted.{answers_always}
use Rattle.go_decl_core.proofs.Tables.{searched}
use Rattle.go_decl_core.proofs.places.Places.number.Goals as goal

pub returns : goal.returns
returns c =
    let facts = c.binary_search_by_key.ensures in
    let by_key = facts.position (λ place. place.at) (answers_always _ _ _ (λ f a r g called. search rules)) in
    rw (← c.self.view_is, ← c.deref.ensures.value, c.ok.ensures.value) (searched _ c.args.offset _ (rw c.deref.ensures.value c.self.invariant) facts.bound by_key)
