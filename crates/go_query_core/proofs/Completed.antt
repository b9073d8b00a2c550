-- The names in place of an identifier: those that are found by what names mean, or those that are found by types.
use Rattle.std.proofs.Common.{ℕ, List}
use Rattle.go_cursor_core.specs.Opened.{FileUsed}
use Rattle.go_complete_core.specs.snap_core.Snapshots.{FoundFile}
use Rattle.go_complete_core.specs.place.Completed.{IsOfTypes, names_placed}
use Rattle.go_complete_core.specs.place.Completions.{AreFoundAt, stand_of}
use Rattle.go_complete_core.specs.hint.Hints.{AreNamesByTypes}
use Rattle.go_query_core.specs.Completing.{IsAskedAt, IsCompletionIn}

module _ (f : FoundFile) (offset : ℕ) (u : FileUsed) (found : List (List ℕ)) (asked : IsAskedAt f offset u) where
  pub by_names : AreFoundAt f.of_part f.number f.tree u found → IsCompletionIn f offset found
  by_names h = (u, asked, record { made = h.made; names = h.names; place = h.place; are = h.are })

  pub by_types : IsOfTypes f.of_part f.number f.tree u → AreNamesByTypes f.of_part f.number f.tree u found → IsCompletionIn f offset found
  by_types h lists =
      let st = stand_of f.of_part h.made f.number f.tree in
      (u, asked, record { made = h.made; names = names_placed st f.tree u h.placed; place = h.placed.place; are = lists h.made h.placed h.of_types })
