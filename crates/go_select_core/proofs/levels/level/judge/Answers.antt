use Rattle.std.proofs.Common.{◌+◌, ◌||◌, Some, subst, sym, ap, ◌∙◌, refl, arith}
use Rattle.go_embed_core.specs.table_core.Entries.{find_entry}
use Rattle.go_embed_core.specs.Owners.{has_spelled}
use Rattle.go_embed_core.specs.OwnersShown.{owner_shown}
use Rattle.go_select_core.proofs.LevelsListLemmas.{at_read}
use Rattle.go_select_core.proofs.LevelsJudging.{JudgedTo, judge_nothing, judge_one, judge_more, judge_many, judge_second, judge_only, judge_none}
use Rattle.go_select_core.proofs.levels.level.judge.Goals as goal
use Rattle.go_select_core.proofs.levels.level.judge.Goals.{in-Nothing+then-spelled, in-Nothing+else-spelled, in-One+else-reached+else-is_some, then-reached-via-then-reached, then-reached-via-else-reached+then-is_some}

pub types-preserved : goal.types-preserved
types-preserved c =
    let at = at_read c.args.types.now c.types.n c.index-types-n.result (omega arith) c.index-types-n.is in
    let h = has_spelled (owner_shown c.of-owner.result) c.args.name.now in
    elim c.match-hits.branch [
      | in-Nothing+then-spelled w ↦
          subst (λ b. JudgedTo (find_entry c.args.table.now) c.args.name.now c.args.from.now c.args.types.now c.args.first (c.types.n + 1) b c.match-hits.spelled) (sym w.best-is)
          (judge_nothing (find_entry c.args.table.now) c.args.name.now c.args.from.now c.args.types.now c.args.first c.types.n c.index-types-n.result at c.types.auto.n (owner_shown c.of-owner.result) c.of-owner.ensures
          c.types.best c.types.spelled h c.match-hits.spelled c.types.invariant w.in-Nothing.ensures refl (w.spelled-is ∙ w.if-spelled.true ∙ sym (ap (λ b. b || h) w.if-spelled.true)))
      | in-Nothing+else-spelled w ↦
          subst (λ b. JudgedTo (find_entry c.args.table.now) c.args.name.now c.args.from.now c.args.types.now c.args.first (c.types.n + 1) b c.match-hits.spelled) (sym w.best-is)
          (judge_nothing (find_entry c.args.table.now) c.args.name.now c.args.from.now c.args.types.now c.args.first c.types.n c.index-types-n.result at c.types.auto.n (owner_shown c.of-owner.result) c.of-owner.ensures
          c.types.best c.types.spelled h c.match-hits.spelled c.types.invariant w.in-Nothing.ensures refl (w.spelled-is ∙ w.has_spelled-spelled.ensures ∙ sym (ap (λ b. b || h) w.if-spelled.false)))
      | in-One+else-reached+else-is_some w ↦
          subst (λ b. JudgedTo (find_entry c.args.table.now) c.args.name.now c.args.from.now c.args.types.now c.args.first (c.types.n + 1) b c.match-hits.spelled) (sym w.best-is)
          (subst (λ s. JudgedTo (find_entry c.args.table.now) c.args.name.now c.args.from.now c.args.types.now c.args.first (c.types.n + 1) (Some (c.types.n, w.in-One.member)) s) (sym w.spelled-is)
          (judge_one (find_entry c.args.table.now) c.args.name.now c.args.from.now c.args.types.now c.args.first c.types.n c.index-types-n.result at c.types.auto.n (owner_shown c.of-owner.result) c.of-owner.ensures
          w.in-One.member c.types.best c.types.spelled w.is_some.result c.types.invariant w.in-One.ensures w.is_some.ensures w.if-is_some.false w.if-reached.false))
    ]

pub returns-in-More : goal.returns-in-More
returns-in-More c =
    let at = at_read c.args.types.now c.types.n c.index-types-n.result (omega arith) c.index-types-n.is in
    judge_more (find_entry c.args.table.now) c.args.name.now c.args.from.now c.args.types.now c.args.first c.types.n c.index-types-n.result at c.types.auto.n (owner_shown c.of-owner.result) c.of-owner.ensures c.in-More.ensures

pub returns-then-reached : goal.returns-then-reached
returns-then-reached c =
    let at = at_read c.args.types.now c.types.n c.index-types-n.result (omega arith) c.index-types-n.is in
    elim c.then-reached.branch [
      | then-reached-via-then-reached w ↦
          judge_many (find_entry c.args.table.now) c.args.name.now c.args.from.now c.args.types.now c.args.first c.types.n c.index-types-n.result at c.types.auto.n (owner_shown c.of-owner.result) c.of-owner.ensures
          c.in-One.member c.in-One.ensures w.if-reached.true
      | then-reached-via-else-reached+then-is_some w ↦
          judge_second (find_entry c.args.table.now) c.args.name.now c.args.from.now c.args.types.now c.args.first c.types.n c.index-types-n.result at c.types.auto.n (owner_shown c.of-owner.result) c.of-owner.ensures
          c.in-One.member c.types.best c.types.spelled w.is_some.result c.types.invariant c.in-One.ensures w.is_some.ensures w.if-is_some.true
    ]

pub returns-in-Some : goal.returns-in-Some
returns-in-Some c =
    let i = c.in-Some.is in
    let j = c.in-Some.n-is in
    let k = c.in-Some.member-is in
    judge_only (find_entry c.args.table.now) c.args.name.now c.args.from.now c.args.types.now c.args.first c.types.n c.types.best c.types.spelled c.in-Some.n c.in-Some.member c.types.invariant (cc) (omega arith)

pub returns-in-None : goal.returns-in-None
returns-in-None c = judge_none (find_entry c.args.table.now) c.args.name.now c.args.from.now c.args.types.now c.args.first c.types.n c.types.best c.types.spelled c.types.invariant c.in-None.is (omega arith)
