-- What contracts see of looks, as it is stored.
use Rattle.std.specs.Prelude.{refl, ℕ, List}
use Rattle.std.specs.Coded.{Coded, code_by, coded_list, coded×, coded_ℕ}
use Rattle.go_board_core.specs.submit_core.Coding.{coded_batches}
use Rattle.go_board_core.specs.submit_core.declared.published.PublishedBatch.{PublishedBatch}
use Rattle.go_session_core.specs.queries.Looked.{Looked, looked_with}

abbrev pub coded_looked : Coded Looked
coded_looked = code_by (List ℕ × List PublishedBatch) (coded× (coded_list coded_ℕ) coded_batches) (λ l. (l.own, l.board)) (λ p. looked_with p.0 p.1) (λ _. refl)
