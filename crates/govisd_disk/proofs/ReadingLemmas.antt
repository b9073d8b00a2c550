-- What is read of a folder, where there is room for what is said of it.
use Rattle.std.proofs.Common.{◌≡◌, List, Result, Ok, Err, OnOk, sym, subst}
use Rattle.std.specs.Prelude.{ℕ, string_bytes}
use Rattle.std.specs.declared.string.String.{String}
use Rattle.govisd_disk.specs.declared.reading.EntryKind.{EntryKind}
use Rattle.govisd_disk.specs.declared.reading.EntryKind.TheVariants as kind
use Rattle.govisd_disk.specs.declared.reading.FoundFolders.{FoundFolders}
use Rattle.govisd_disk.specs.Reads.{Stays, TakesFile, TakesSource}

-- what follows where there is room
pub on_ok : {X E P Q : Type 0} (r : Result X E) → (P → Q) → OnOk r P → OnOk r Q
on_ok (Ok x) follows h = follows h
on_ok (Err e) follows h = tt

-- a regular file was taken
pub file_taken : {X E Y Z : Type 0} (r : Result X E) (k : EntryKind) (own : List ℕ) (name : String Y) (files files' : List (String Y × String Z)) (old new : FoundFolders) → k ≡ kind.File → Stays old new → OnOk r (TakesFile own name files files' (string_bytes old.left_out) (string_bytes new.left_out)) → OnOk r (TakesSource k own name files files' old new)
file_taken r k own name files files' old new is stays taken =
    subst (λ k'. OnOk r (TakesSource k' own name files files' old new)) (sym is) (on_ok r (λ h. (h, stays)) taken)
