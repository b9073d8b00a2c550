-- What the published batches keep.
use Rattle.std.specs.Prelude.{◌≡◌, ℕ, List, Option}
use Rattle.go_submit_core.specs.Laws.{submissions_of}
use Rattle.go_submit_core.specs.Published.{AreSound, last_of, modules_of}
use Rattle.go_submit_core.specs.Submitted.{AreWorkspaces}
use Rattle.go_submit_core.specs.declared.published.PublishedBatch.{PublishedBatch}

pub record IsKept (bs : List PublishedBatch) (last : Option PublishedBatch) (modules : List (List ℕ)) : Type 0 where
  pub sound : AreSound bs
  pub last_is : last ≡ last_of bs
  pub modules_are : modules ≡ modules_of bs
  pub trees : AreWorkspaces (submissions_of bs)
