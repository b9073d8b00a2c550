-- Packages as they are found and as they go out, one by one.
use Rattle.std.proofs.Common.{◌≡◌, ℕ, ◌+◌, ◌<◌, List, [], ◌∷◌, ◌++◌, length, get_or, take, sym, ◌∙◌, ap, subst}
use Rattle.std.specs.List.{AllZip}
use Rattle.std.proofs.lemmas.List.{take_more}
use Rattle.std.proofs.lemmas.Slice.Zip.{all_zipped_more}
use Rattle.go_wire_core.specs.declared.reply.PackageEntry.{PackageEntry}
use Rattle.go_session_core.specs.query_core.Entries.{EntryOf}
use Rattle.govisd_replies.specs.Told.{IsEntryFor}

pub entry_more : (xs : List EntryOf) (ys : List PackageEntry) (i : ℕ) (x : EntryOf) (y : PackageEntry) → i < length xs → x ≡ get_or xs i x
    → AllZip IsEntryFor (take i xs) ys → IsEntryFor x y → AllZip IsEntryFor (take (i + 1) xs) (ys ++ y ∷ [])
entry_more xs ys i x y lt at h r =
    let e : take (i + 1) xs ≡ take i xs ++ x ∷ [] = take_more xs i x lt ∙ ap (λ (z : EntryOf). take i xs ++ z ∷ []) (sym at) in
    subst (λ (l : List EntryOf). AllZip IsEntryFor l (ys ++ y ∷ [])) (sym e) (all_zipped_more IsEntryFor (take i xs) ys x y h r)
