use Rattle.std.proofs.Common.{rules, ◌≡◌, ◌+◌, ◌<◌, ◌≤◌, [], ◌∷◌, ◌++◌, length, ap, ◌∙◌}
use Rattle.go_summary_core.proofs.Growing.{behind_grown, piece_grown}
use Rattle.go_summary_core.proofs.list.SummaryList.push.Goals.{then-len-lt-PIECE+in_ok-put, else-len-lt-PIECE+in_ok-piece+in_ok-put-2}
use Rattle.go_summary_core.proofs.list.SummaryList.push.Goals as goal

pub invariant_of-self-2 : goal.invariant_of-self-2
invariant_of-self-2 c =
    let before = c.self.inside in
    let full = before.full.items in
    let last = before.last.items in
    let s = c.args.summary in
    let n = c.in_ok-count.count in
    let more : n ≡ before.count + 1 = search rules in
    let after = c.if-len-lt-PIECE.self-inside in
    let many : c.len.result ≡ length last = search rules in
    elim c.if-len-lt-PIECE.branch [
      | then-len-lt-PIECE+in_ok-put w ↦
          let small : length last + 1 < 64 = search rules in
          behind_grown full last before.count n s c.self.invariant more c.path-path.ensures.own after.full.items after.last.items (ap (λ i. i.full.items) w.self-inside-is) (ap (λ i. i.last.items) w.self-inside-is ∙ w.in_ok-put.ensures.added) small
      | else-len-lt-PIECE+in_ok-piece+in_ok-put-2 w ↦
          let large : 64 ≤ length last + 1 = search rules in
          piece_grown full last before.count n s c.self.invariant more c.path-path.ensures.own after.full.items after.last.items w.in_ok-piece.piece (ap (λ i. i.full.items) w.self-inside-is ∙ w.in_ok-put-2.ensures.added) (ap (λ i. i.last.items) w.self-inside-is ∙ w.clear.ensures.items) w.in_ok-piece.ensures large
    ]
