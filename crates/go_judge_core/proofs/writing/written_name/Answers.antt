use Rattle.go_judge_core.proofs.writing.written_name.Goals as goal

pub returns : goal.returns
returns c = (c.args.count, c.args.name.now, c.in_ok-text.ensures, c.requires)
