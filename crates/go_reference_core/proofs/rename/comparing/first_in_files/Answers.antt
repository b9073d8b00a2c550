use Rattle.std.proofs.Common.{◌<◌, ◌≤◌, length, map, arith, ◌∙◌, sym}
use Rattle.std.proofs.lemmas.List.{length-map}
use Rattle.go_query_core.specs.package_core.PackagePartParts.{file_shown}
use Rattle.go_reference_core.specs.rename.Moving.{IsMovedFile, moves_of}
use Rattle.go_reference_core.proofs.RenamePaired.{all_paired, differ, none_paired, not_as_many, one_paired, shown_at}
use Rattle.go_reference_core.proofs.rename.comparing.first_in_files.Goals as goal

pub loop-file-init : goal.loop-file-init
loop-file-init c = none_paired (IsMovedFile (moves_of c.args.names.now) c.args.packages.now c.args.«package») (map file_shown c.args.old.now) (map file_shown c.args.new.now)

pub returns-then-new-old : goal.returns-then-new-old
returns-then-new-old c =
    not_as_many (IsMovedFile (moves_of c.args.names.now) c.args.packages.now c.args.«package») (map file_shown c.args.old.now) (map file_shown c.args.new.now)
    (λ same. c.if-new-old.true (sym (length-map c.args.new.now file_shown) ∙ (same ∙ length-map c.args.old.now file_shown)))

pub loop-file-preserved : goal.loop-file-preserved
loop-file-preserved c =
    let old = c.args.old.now in
    let new = c.args.new.now in
    let i = c.loop-file.file in
    let x = c.index-old-file.result in
    let y = c.index-new-file.result in
    let below : i < length old = omega (arith, c.loop-file-test.true) in
    let also : i < length new = omega (arith, c.loop-file-test.true, c.if-new-old.false) in
    let low : i < length (map file_shown old) = omega (arith, below, length-map old file_shown) in
    let high : i < length (map file_shown new) = omega (arith, also, length-map new file_shown) in
    one_paired (IsMovedFile (moves_of c.args.names.now) c.args.packages.now c.args.«package») (map file_shown old) (map file_shown new) i (file_shown x) (file_shown y)
    low (shown_at file_shown old i x below c.index-old-file.is) high (shown_at file_shown new i y also c.index-new-file.is) c.in-None.ensures c.loop-file.invariant

pub returns-in-Some : goal.returns-in-Some
returns-in-Some c =
    let old = c.args.old.now in
    let new = c.args.new.now in
    let i = c.loop-file.file in
    let x = c.index-old-file.result in
    let y = c.index-new-file.result in
    let below : i < length old = omega (arith, c.loop-file-test.true) in
    let also : i < length new = omega (arith, c.loop-file-test.true, c.if-new-old.false) in
    let low : i < length (map file_shown old) = omega (arith, below, length-map old file_shown) in
    let high : i < length (map file_shown new) = omega (arith, also, length-map new file_shown) in
    differ (IsMovedFile (moves_of c.args.names.now) c.args.packages.now c.args.«package») (map file_shown old) (map file_shown new) i (file_shown x) (file_shown y)
    low (shown_at file_shown old i x below c.index-old-file.is) high (shown_at file_shown new i y also c.index-new-file.is) c.in-Some.ensures

pub returns : goal.returns
returns c =
    let old = c.args.old.now in
    let new = c.args.new.now in
    let le : length (map file_shown old) ≤ c.loop-file.file = omega (arith, length-map old file_shown, c.loop-file-test.false) in
    let many = length-map new file_shown ∙ (c.if-new-old.false ∙ sym (length-map old file_shown)) in
    all_paired (IsMovedFile (moves_of c.args.names.now) c.args.packages.now c.args.«package») (map file_shown old) (map file_shown new) c.loop-file.file many le c.loop-file.invariant
