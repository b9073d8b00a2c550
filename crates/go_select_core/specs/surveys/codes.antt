-- How what a model holds is stored.
pub mod SurveyCodes
