pub mod EntryCodes
