use Rattle.std.proofs.Common.{◌≡◌, ◌≤◌, ◌∙◌, ℕ, List, [], append-nil, arith, false, length, subst, sym, true}
use Rattle.std.specs.List.{AllWithin}
use Rattle.std.specs.Ordering.{is_lt}
use Rattle.go_graph_core.specs.Workspaces.{PackageModel, by_bytes}
use Rattle.go_import_core.proofs.HeadSpanning.{ends_ordered, span_has, span_is, span_piece}
use Rattle.go_import_core.proofs.head.spans.span_of.Goals as goal

pub returns-then-start-end-clause-inside : goal.returns-then-start-end-clause-inside
returns-then-start-end-clause-inside c =
    let ps = c.args.packages.now in
    span_has c.args.own.now ps c.count_before-start.result c.count_before-end.result c.if-start-end.true
    (subst (λ (t : List ℕ). AllWithin (λ (p : PackageModel). is_lt (by_bytes p.0 t) ≡ true) ps 0 c.count_before-start.result) c.as_str.ensures.text c.count_before-start.ensures.before)
    (subst (λ (t : List ℕ). AllWithin (λ (p : PackageModel). is_lt (by_bytes p.0 t) ≡ false) ps c.count_before-end.result (length ps)) (c.as_str-2.ensures.value ∙ c.in_ok-behind.ensures) c.count_before-end.ensures.behind)

pub returns-then-start-end-clause-near : goal.returns-then-start-end-clause-near
returns-then-start-end-clause-near c =
    let ps = c.args.packages.now in
    span_is c.args.own.now ps c.count_before-start.result c.count_before-end.result c.if-start-end.true c.count_before-end.ensures.bound
    (subst (λ (t : List ℕ). AllWithin (λ (p : PackageModel). is_lt (by_bytes p.0 t) ≡ true) ps 0 c.count_before-start.result) c.as_str.ensures.text c.count_before-start.ensures.before)
    (subst (λ (t : List ℕ). AllWithin (λ (p : PackageModel). is_lt (by_bytes p.0 t) ≡ false) ps c.count_before-start.result (length ps)) c.as_str.ensures.text c.count_before-start.ensures.behind)
    (subst (λ (t : List ℕ). AllWithin (λ (p : PackageModel). is_lt (by_bytes p.0 t) ≡ true) ps 0 c.count_before-end.result) (c.as_str-2.ensures.value ∙ c.in_ok-behind.ensures) c.count_before-end.ensures.before)
    (subst (λ (t : List ℕ). AllWithin (λ (p : PackageModel). is_lt (by_bytes p.0 t) ≡ false) ps c.count_before-end.result (length ps)) (c.as_str-2.ensures.value ∙ c.in_ok-behind.ensures) c.count_before-end.ensures.behind)

pub returns-then-start-end-clause-piece : goal.returns-then-start-end-clause-piece
returns-then-start-end-clause-piece c = span_piece c.args.own.now c.args.packages.now c.count_before-start.result c.count_before-end.result c.if-start-end.true c.count_before-end.ensures.bound

pub returns-clause-near : goal.returns-clause-near
returns-clause-near c =
    let ps = c.args.packages.now in
    let le : c.count_before-start.result ≤ c.count_before-end.result =
    ends_ordered c.args.own.now ps c.count_before-start.result c.count_before-end.result c.count_before-start.ensures.bound
    (subst (λ (t : List ℕ). AllWithin (λ (p : PackageModel). is_lt (by_bytes p.0 t) ≡ true) ps 0 c.count_before-start.result) c.as_str.ensures.text c.count_before-start.ensures.before)
    (subst (λ (t : List ℕ). AllWithin (λ (p : PackageModel). is_lt (by_bytes p.0 t) ≡ false) ps c.count_before-end.result (length ps)) (c.as_str-2.ensures.value ∙ c.in_ok-behind.ensures) c.count_before-end.ensures.behind) in
    absurd (omega (arith, le, c.if-start-end.false))

pub returns-clause-piece : goal.returns-clause-piece
returns-clause-piece c = ([], [], sym (append-nil c.args.packages.now))
