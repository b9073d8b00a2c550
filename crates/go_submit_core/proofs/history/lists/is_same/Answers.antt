use Rattle.std.proofs.Common.{rules, ◌≡◌, sym, ◌∙◌}
use Rattle.go_submit_core.proofs.HistoryRules.{rule_means, same_fault}
use Rattle.go_submit_core.proofs.history.lists.is_same.Goals.{then-fault-other, else-fault-other, then-fault-other-2, else-fault-other-2}
use Rattle.go_submit_core.proofs.history.lists.is_same.Goals as goal

pub returns-then-fault-other-3 : goal.returns-then-fault-other-3
returns-then-fault-other-3 c e =
    let f = c.args.fault.now in
    let g = c.args.other.now in
    let rule : f.rule ≡ g.rule = rule_means f.rule g.rule (sym c.eq.ensures ∙ e) in
    elim c.if-fault-other-2.branch [
      | then-fault-other-2 w ↦ elim c.if-fault-other.branch [
        | then-fault-other v ↦
            let packages : f.«package» ≡ g.«package» = search rules in
            let files : f.file ≡ g.file = search rules in
            let offsets : f.offset ≡ g.offset = search rules in
            same_fault f g packages files offsets rule
        | else-fault-other v ↦ absurd (search rules)
      ]
      | else-fault-other-2 w ↦ absurd (search rules)
    ]
