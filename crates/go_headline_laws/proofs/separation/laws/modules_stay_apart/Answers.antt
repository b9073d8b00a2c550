use Rattle.go_headline_laws.proofs.SeparationApart.{modules_stay_apart, replays_stay_apart, runs_stay_apart}
use Rattle.go_headline_laws.proofs.separation.laws.modules_stay_apart.Goals as goal

pub returns-clause-step : goal.returns-clause-step
returns-clause-step c = modules_stay_apart

pub returns-clause-runs : goal.returns-clause-runs
returns-clause-runs c = runs_stay_apart

pub returns-clause-replays : goal.returns-clause-replays
returns-clause-replays c = replays_stay_apart
