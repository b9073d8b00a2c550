use Rattle.go_machine_core.proofs.runs.laws.spent_does_all_steps.Goals as goal

pub returns : goal.returns
returns c = λ p steps out g. (let at = c.spent_means_all_steps.ensures g.0.functions g.0.starts steps out g.2 in (g.0, g.1, at.0, at.1, at.2))
