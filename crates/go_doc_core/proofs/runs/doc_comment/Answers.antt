use Rattle.std.proofs.Common.{ℕ, List, Bor, ap, subst, sym, ◌∙◌}
use Rattle.std.specs.Prelude.{option_map}
use Rattle.go_doc_core.specs.mirrors.Climbing.{IsRunBetween}
use Rattle.go_doc_core.proofs.DocLemmas.{never_cut, no_doc, some_doc}
use Rattle.go_doc_core.proofs.runs.doc_comment.Goals as goal

pub returns-in-Some-slice : goal.returns-in-Some-slice
returns-in-Some-slice c =
    let run = subst (λ (t : List ℕ). IsRunBetween t c.args.comments.now c.min-place.result c.args.behind c.run_above.result) c.as_bytes.ensures.value c.run_above.ensures in
    some_doc c.args.text.now c.args.comments.now c.args.at c.args.behind c.requires.order c.requires.texts c.min-place.result c.run_above.result c.in-Some.span c.in-Some-slice.doc.now c.min-place.ensures run c.in-Some.is
    (sym c.slice.ensures ∙ ap (option_map (λ (s : Bor (List ℕ)). s.now)) c.in-Some-slice.is)

pub returns-in-None-slice : goal.returns-in-None-slice
returns-in-None-slice c =
    let run = subst (λ (t : List ℕ). IsRunBetween t c.args.comments.now c.min-place.result c.args.behind c.run_above.result) c.as_bytes.ensures.value c.run_above.ensures in
    absurd (never_cut c.args.text.now c.args.comments.now c.args.at c.args.behind c.requires.order c.requires.texts c.min-place.result c.run_above.result c.in-Some.span run c.in-Some.is
    (sym c.slice.ensures ∙ ap (option_map (λ (s : Bor (List ℕ)). s.now)) c.in-None-slice.is))

pub returns-in-None : goal.returns-in-None
returns-in-None c =
    let run = subst (λ (t : List ℕ). IsRunBetween t c.args.comments.now c.min-place.result c.args.behind c.run_above.result) c.as_bytes.ensures.value c.run_above.ensures in
    no_doc c.args.text.now c.args.comments.now c.args.at c.args.behind c.requires.order c.requires.texts c.min-place.result c.run_above.result c.min-place.ensures run c.in-None.is
