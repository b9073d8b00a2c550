use Rattle.std.proofs.Common.{◌≡◌, List, [], ◌∷◌, ◌++◌, sym, ap, ◌∙◌, subst, fold, drop}
use Rattle.go_submit_core.specs.Published.{BeginsWith}
use Rattle.go_submit_core.specs.declared.published.PublishedBatch.{PublishedBatch}
use Rattle.go_board_core.proofs.Grows.{grows, fold-last}
use Rattle.go_board_core.proofs.ends.publish.Goals as goal

pub publish_as-requires : goal.publish_as-requires
publish_as-requires g c next is =
    let now : List PublishedBatch = c.append.new.self.desk.shown.value in
    let same : now ≡ c.args.writer.desk.shown.value = ap (λ d. d.shown.value) c.append.ensures.desk in
    let last : next ≡ c.args.next = is ∙ ap (λ ps. fold (λ _ n. n) now ps) c.in-Ok.ensures.pending ∙ fold-last now (drop c.args.writer.behind c.args.writer.log.items) c.args.next in
    let up : BeginsWith c.args.next now = subst (λ (z : List PublishedBatch). BeginsWith c.args.next z) (sym same) c.requires in
    grows _ _ now next (subst (λ (z : List PublishedBatch). BeginsWith z now) (sym last) up)
