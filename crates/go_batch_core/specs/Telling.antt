-- What the packages of a batch tell that are finished.
use Rattle.std.specs.Prelude.{◌≡◌, ℕ, Some, length, slice_get}
use Rattle.go_summary_core.specs.Summaries.{SummaryModel, path_of}
use Rattle.go_package_core.specs.package_part.Inputs.{InputModel, path_in}
use Rattle.go_package_core.specs.package_part.Parts.{ContentOf, IsPart, PartModel}
use Rattle.go_snap_core.specs.whole_workspace.Inputs.{Tells}
use Rattle.go_batch_core.specs.Batches.{BatchModel}
use Rattle.go_batch_core.specs.declared.slot.Slot.TheVariants.{Finished, Taken}

-- a package that tells something is finished; what two tell of one path is one summary; none of the path of one that is taken tells anything; and one of the
-- path of a part that is there tells what the input of the part gives
pub record IsToldOnce (b : BatchModel) : Type 0 where
  pub many : length b.parts ≡ length b.slots
  pub finished : (m : ℕ) (t : SummaryModel) → Tells b.parts m t → slice_get b.slots m ≡ Some Finished
  pub once : (m l : ℕ) (t s : SummaryModel) → Tells b.parts m t → Tells b.parts l s → path_of s ≡ path_of t → s ≡ t
  pub taken : (m n number : ℕ) (t : SummaryModel) (i : InputModel) → Tells b.parts m t → slice_get b.slots n ≡ Some (Taken number i) → path_in i ≡ path_of t → ⊥
  pub own : (m n : ℕ) (t : SummaryModel) (p : PartModel) (c : ContentOf) → Tells b.parts m t → slice_get b.parts n ≡ Some (Some p) → path_in p.input ≡ path_of t → IsPart p.input c → c.summary ≡ t
