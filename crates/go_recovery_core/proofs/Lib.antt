pub mod MendBracketLemmas
pub mod MendMendLemmas
pub mod StandinAlike
pub mod StandinBroken
pub mod StandinJudged
pub mod StandinTried
pub mod StandinWalls
pub mod StandinWords
