use Rattle.std.proofs.Common.{◌≡◌, ℕ, List, [], ◌∷◌, ◌++◌, Option, Some, sym, ap, ◌∙◌, subst}
use Rattle.std.specs.Arc.{arc_value}
use Rattle.go_submit_core.specs.declared.batches.Listing.{Listing}
use Rattle.go_submit_core.specs.declared.published.PublishedBatch.{PublishedBatch}
use Rattle.go_submit_core.specs.Modules.{with_trees}
use Rattle.go_submit_core.specs.Published.{LeavesWhere}
use Rattle.go_submit_core.specs.mirrors.Keeping.{IsKept}
use Rattle.go_submit_core.proofs.Sounds.{kept_push}
use Rattle.go_submit_core.proofs.batches.Batches.with_batch.Goals as goal

pub behind-requires : goal.behind-requires
behind-requires c = subst (λ (o : Option PublishedBatch). LeavesWhere o c.args.batch.snapshot c.args.same.now) (sym c.last_kept.ensures) c.requires.leaves

pub invariant_of-result : goal.invariant_of-result
invariant_of-result c =
    let i = c.self.inside in
    let b : PublishedBatch = c.args.batch in
    let bs : List PublishedBatch = c.args.self.now in
    let last : Option PublishedBatch = (arc_value i.list).last in
    let old : List (List ℕ) = (arc_value i.list).modules in
    let kept : IsKept bs last old = subst (λ (l : List PublishedBatch). IsKept l last old) c.self.view_is c.self.invariant in
    let listed : c.in_ok-kept.kept ≡ b = c.in_ok-kept.ensures in
    let batches : c.in_ok-batches.batches ≡ bs ++ b ∷ [] = c.in_ok-batches.ensures ∙ ap (λ (w : Listing). w.batches ++ c.in_ok-kept.kept ∷ []) c.deref-2.ensures ∙ ap (λ (l : List PublishedBatch). l ++ c.in_ok-kept.kept ∷ []) c.self.view_is ∙ ap (λ (k : PublishedBatch). bs ++ k ∷ []) listed in
    let modules : c.in_ok-modules.modules ≡ with_trees old b.submissions = c.in_ok-modules.ensures ∙ ap (λ (w : Listing). with_trees w.modules b.submissions) c.deref.ensures in
    let pushed = kept_push bs b last old c.in_ok-modules.modules kept c.requires.whole modules c.are_workspaces.ensures in
    let here : IsKept c.in_ok-batches.batches (Some b) c.in_ok-modules.modules = subst (λ (l : List PublishedBatch). IsKept l (Some b) c.in_ok-modules.modules) (sym batches) pushed in
    subst (λ (w : Listing). IsKept w.batches w.last w.modules) (sym c.in_ok-new.ensures.ok) here
