pub mod SummaryCodes
