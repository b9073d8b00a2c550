pub mod InlineCodes
