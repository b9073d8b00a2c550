pub mod DaemonLemmas
pub mod EditorLemmas
pub mod FlagLemmas
pub mod LaunchLemmas
pub mod MadeLemmas
pub mod RunLemmas
pub mod SayLemmas
