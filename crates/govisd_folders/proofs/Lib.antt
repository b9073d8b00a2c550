mod LineLemmas
mod ReportLemmas
mod SelectingLemmas
mod TellingLemmas
mod RunsRunLemmas
