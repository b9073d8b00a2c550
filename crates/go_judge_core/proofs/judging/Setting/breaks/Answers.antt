use Rattle.go_judge_core.proofs.judging.Setting.breaks.Goals as goal

pub returns : goal.returns
returns c = λ holds. (c.in-Some.piece, c.in-Some.is, c.in_ok-holds.ensures holds)
