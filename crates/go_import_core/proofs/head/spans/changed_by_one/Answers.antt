use Rattle.std.proofs.Common.{◌≡◌, ◌∙◌, ℕ, List, ◌++◌, ◌∷◌, [], subst}
use Rattle.go_import_core.proofs.HeadUnmoved.{ArePartedAt, same_but}
use Rattle.go_import_core.proofs.head.spans.changed_by_one.Goals as goal

pub returns-then-last-end-clause-same : goal.returns-then-last-end-clause-same
returns-then-last-end-clause-same c =
    let ps = c.args.packages.now in
    let qs = c.args.others.now in
    let own = c.args.own.now in
    let past = own ++ 48 ∷ [] in
    let low = c.count_before-start.result in
    let high = c.count_before-end.result in
    let first : c.count_before-first.result ≡ low = c.if-first-start.true in
    let last : c.count_before-last.result ≡ high = c.if-last-end.true in
    same_but own ps qs low high c.requires.one.order c.requires.other.order c.requires.outside
    (subst (λ (k : ℕ). ArePartedAt own ps k) first (subst (λ (t : List ℕ). ArePartedAt t ps c.count_before-first.result) c.as_str.ensures.text (c.count_before-first.ensures.before, c.count_before-first.ensures.behind)))
    (subst (λ (k : ℕ). ArePartedAt past ps k) last (subst (λ (t : List ℕ). ArePartedAt t ps c.count_before-last.result) (c.as_str-2.ensures.value ∙ c.in_ok-behind.ensures) (c.count_before-last.ensures.before, c.count_before-last.ensures.behind)))
    (subst (λ (t : List ℕ). ArePartedAt t qs low) c.as_str-3.ensures.text (c.count_before-start.ensures.before, c.count_before-start.ensures.behind))
    (subst (λ (t : List ℕ). ArePartedAt t qs high) (c.as_str-4.ensures.value ∙ c.in_ok-behind.ensures) (c.count_before-end.ensures.before, c.count_before-end.ensures.behind))
