-- The order in which workers do things does not count.
use Rattle.std.proofs.Common.{◌≡◌, ◌+◌, List, [], ◌∷◌, map, take, refl, sym, ap, ◌∙◌, subst}
use Rattle.std.specs.List.{fold}
use Rattle.std.proofs.lemmas.List.Sums.{fold-append}
use Rattle.go_graph_core.specs.Workspaces.{PackageModel, replaced}
use Rattle.go_submit_core.specs.Laws.{OneWorker, submissions_of}
use Rattle.go_submit_core.specs.Published.{IsOneWorker, sources_of}
use Rattle.go_submit_core.specs.Submitted.{submitted}
use Rattle.go_submit_core.specs.Trees.{TreeModel}
use Rattle.go_submit_core.specs.declared.published.PublishedBatch.{PublishedBatch}
use Rattle.go_submit_core.specs.declared.submission.Submission.{Submission}
use Rattle.go_headline_laws.specs.separation.Laws.{RunsAreSound, SourcesAreWell}
use Rattle.go_headline_laws.specs.Headline.{OrderDoesNotCount, built}

-- trees put into packages one after another
abbrev put_trees : List PackageModel → List TreeModel → List PackageModel
put_trees ps ts = fold (λ w (t : TreeModel). replaced t.own w t.packages) ps ts

trees_put : (ps : List PackageModel) (ss : List Submission) → submitted ps ss ≡ put_trees ps (map (λ (x : Submission). x.tree) ss)
trees_put ps [] = refl
trees_put ps (s ∷ ss) = trees_put (replaced s.tree.own ps s.tree.packages) ss

-- all batches, one after another, are one list of submissions
all_submitted : (ps : List PackageModel) (bs : List PublishedBatch) → fold (λ w (b : PublishedBatch). submitted w b.submissions) ps bs ≡ submitted ps (submissions_of bs)
all_submitted ps [] = refl
all_submitted ps (b ∷ bs) =
    all_submitted (submitted ps b.submissions) bs
    ∙ sym (fold-append (λ w (s : Submission). replaced s.tree.own w s.tree.packages) ps b.submissions (submissions_of bs))

sources_built : (bs : List PublishedBatch) → sources_of bs ≡ put_trees [] (built bs)
sources_built bs = all_submitted [] bs ∙ trees_put [] (submissions_of bs)

pub order_does_not_count : RunsAreSound → SourcesAreWell → OneWorker → OrderDoesNotCount
order_does_not_count sound well one es fs rs qs t u fit x y j k b c at there same =
    let ps : List PackageModel = sources_of (take (j + 1) t.published) in
    let equal : sources_of (take (k + 1) u.published) ≡ ps = sources_built (take (k + 1) u.published) ∙ (ap (put_trees []) (sym same) ∙ sym (sources_built (take (j + 1) t.published))) in
    let other : IsOneWorker ps c.snapshot = subst (λ (qs : List PackageModel). IsOneWorker qs c.snapshot) equal ((sound fs qs u y).each k c there) in
    one ps b.snapshot c.snapshot (well es rs t fit x (j + 1)).well ((sound es rs t x).each j b at) other
