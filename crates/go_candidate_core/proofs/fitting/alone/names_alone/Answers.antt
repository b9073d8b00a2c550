use Rattle.std.proofs.Common.{Bor, ℕ, List, map, subst}
use Rattle.std.specs.Prelude.{◌↔◌, Contains, filter, string_bytes}
use Rattle.go_summary_core.specs.shown.Shown.{texts}
use Rattle.go_summary_core.specs.Views.{faces_told}
use Rattle.go_candidate_core.specs.fitting.Fitting.{fits_alone}
use Rattle.go_candidate_core.proofs.FittingFits.{each_alone}
use Rattle.go_candidate_core.proofs.fitting.alone.names_alone.Goals as goal

pub returns-in-Ok-clause-each : goal.returns-in-Ok-clause-each
returns-in-Ok-clause-each c =
    let found : List (List ℕ) = map string_bytes c.in-Ok.found.items in
    each_alone c.args.scopes.now (faces_told c.args.reached.now) c.args.stand (texts c.in_ok-all.all.items) found
    (subst (λ (l : List (Bor (List ℕ))). (name : List ℕ) → Contains found name ↔ Contains (filter (fits_alone c.args.scopes.now (faces_told c.args.reached.now) c.args.stand) (texts l)) name) c.deref.ensures.value c.in-Ok.ensures.each) c.in_ok-all.ensures.found
