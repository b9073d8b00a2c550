-- A walk over the files of a package and their trees, side by side.
use Rattle.std.proofs.Common.{◌≡◌, List, [], ◌∷◌, ◌++◌, map, Bor, refl, sym, ap, subst, ◌∙◌, append_assoc, append-nil}
use Rattle.std.specs.List.{AllZip}
use Rattle.std.proofs.lemmas.List.{map-append}
use Rattle.go_tree_nodes.specs.declared.files.File.{File}
use Rattle.go_table_core.specs.Entries.{Entry}
use Rattle.go_typexpr_core.specs.entry.Meanings.{Shows}
use Rattle.go_local_core.specs.declared.Fault.{Fault}
use Rattle.go_body_core.specs.Notes.{TheUse, TheLocal}
use Rattle.go_body_core.specs.declared.file.file_at.FileAt.{FileAt}
use Rattle.go_body_core.specs.declared.file.whole.CheckedFile.{CheckedFile}
use Rattle.go_body_core.specs.file.Files.{file_uses, file_faults, file_locals}
use Rattle.go_body_core.specs.file.Stands.{stand_of}
use Rattle.go_body_core.specs.file.Package.{IsReady, CheckedFileOf, lent_tree, checked_file_shown, file_checked, files_checked}

abbrev noted : List TheUse → List Fault → List TheLocal → CheckedFileOf
noted us fs ls = record { uses = us; faults = fs; locals = ls }

module _ {P : Type 0} (shows : P → Shows) where
  -- the files that are left, each with its tree
  abbrev pub AreLeft : List Entry → List (FileAt P) → List (Bor File) → Type 0
  AreLeft types files trees = AllZip (IsReady shows types) files (map lent_tree trees)

  pub first_ready : (types : List Entry) (files more : List (FileAt P)) (trees rest : List (Bor File)) (a : FileAt P) (t : Bor File) → files ≡ a ∷ more → trees ≡ t ∷ rest → AreLeft types files trees → IsReady shows types a (lent_tree t) × AreLeft types more rest
  first_ready types files more trees rest a t e f h = subst (λ l. AreLeft types l (t ∷ rest)) e (subst (λ l. AreLeft types files l) f h)

  pub file_step : (files more : List (FileAt P)) (trees rest : List (Bor File)) (a : FileAt P) (t : Bor File) (c : CheckedFile) (old new : List CheckedFile) (all : List CheckedFileOf)
      → files ≡ a ∷ more → trees ≡ t ∷ rest → c.uses.items ≡ file_uses (stand_of shows a) a.imports.now (lent_tree t) → c.faults.items ≡ file_faults (stand_of shows a) (lent_tree t)
      → c.locals.items ≡ file_locals (stand_of shows a) (lent_tree t)
      → new ≡ old ++ c ∷ [] → map checked_file_shown old ++ files_checked shows files (map lent_tree trees) ≡ all → map checked_file_shown new ++ files_checked shows more (map lent_tree rest) ≡ all
  file_step files more trees rest a t c old new all e f used broken declared added before =
      let st = stand_of shows a in
      let left = files_checked shows more (map lent_tree rest) in
      let is : checked_file_shown c ≡ file_checked st a.imports.now (lent_tree t) = (λ i. noted (used i) (broken i) (declared i)) in
      ap (λ l. map checked_file_shown l ++ left) added
      ∙ (ap (λ l. l ++ left) (map-append checked_file_shown old (c ∷ []))
      ∙ (append_assoc (map checked_file_shown old) (checked_file_shown c ∷ []) left
      ∙ (ap (λ x. map checked_file_shown old ++ x ∷ left) is
      ∙ (ap (λ l. map checked_file_shown old ++ files_checked shows l (map lent_tree (t ∷ rest))) (sym e)
      ∙ (ap (λ l. map checked_file_shown old ++ files_checked shows files (map lent_tree l)) (sym f) ∙ before)))))

  pub no_files : (files : List (FileAt P)) (trees : List (Bor File)) (now all : List CheckedFileOf) → files ≡ [] → now ++ files_checked shows files (map lent_tree trees) ≡ all → now ≡ all
  no_files files trees now all e done = sym (append-nil now) ∙ (ap (λ l. now ++ files_checked shows l (map lent_tree trees)) (sym e) ∙ done)

  nothing_checked : (files : List (FileAt P)) → files_checked shows files [] ≡ []
  nothing_checked [] = refl
  nothing_checked (a ∷ more) = refl

  pub no_trees : (files : List (FileAt P)) (trees : List (Bor File)) (now all : List CheckedFileOf) → trees ≡ [] → now ++ files_checked shows files (map lent_tree trees) ≡ all → now ≡ all
  no_trees files trees now all e done =
      sym (append-nil now) ∙ (ap (λ l. now ++ l) (sym (nothing_checked files)) ∙ (ap (λ l. now ++ files_checked shows files (map lent_tree l)) (sym e) ∙ done))
