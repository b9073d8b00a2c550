use Rattle.std.proofs.Common.{rules, ◌≡◌, slice_get, sym, ap, ◌∙◌}
use Rattle.go_submit_core.proofs.history.kept.KeptSnapshot.over.Goals as goal

pub over-requires : goal.over-requires
over-requires c n mark a b at there =
    let is : c.in_ok-packages.packages.items ≡ c.args.snapshot.now.sources = search rules in
    c.requires.packages n mark a b (ap (λ s. slice_get s.sources n) (sym c.earlier.view_is) ∙ at) (ap (λ l. slice_get l n) (sym is) ∙ there)

pub over-requires-2 : goal.over-requires-2
over-requires-2 c n mark a b at there =
    let is : c.in_ok-parts.parts.items ≡ c.args.snapshot.now.parts = search rules in
    c.requires.parts n mark a b (ap (λ s. slice_get s.parts n) (sym c.earlier.view_is) ∙ at) (ap (λ l. slice_get l n) (sym is) ∙ there)

pub over-requires-3 : goal.over-requires-3
over-requires-3 c n mark a b at there =
    let is : c.in_ok-faults.faults.items ≡ c.faults-2.result.now = search rules in
    c.in_ok-same_faults.ensures n (ap (λ l. slice_get l n) (sym c.as_slice.ensures.value) ∙ mark) a b at (ap (λ l. slice_get l n) (sym is) ∙ there)
