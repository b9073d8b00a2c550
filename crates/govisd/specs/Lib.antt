pub mod Daemons
pub mod Editors
pub mod Launches
pub mod Runs
pub mod Says
