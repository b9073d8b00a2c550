-- Declarations by themselves.
use Rattle.std.specs.Prelude.{◌≡◌, ◌⊎◌, ◌-◌, ℕ, List, [], ◌∷◌, ◌++◌, codes, drop, take}
use Rattle.go_recovery_core.specs.declared.standin.part.Interval.{Interval}
use Rattle.go_recovery_core.specs.standin.Files.{IsFile, IsNoFile}

-- a package clause, and the bytes of a part of the text
abbrev pub clause : List ℕ
clause = codes "package p\n"

abbrev pub alone : List ℕ → Interval → List ℕ
alone text part = clause ++ take (part.end - part.start) (drop part.start text)

-- the second are those of the first that do not parse as files of their own
abbrev pub AreBroken : List ℕ → List Interval → List Interval → Type 0
AreBroken text [] broken = broken ≡ []
AreBroken text (part ∷ parts) broken =
    (IsFile (alone text part) × AreBroken text parts broken)
    ⊎ (IsNoFile (alone text part) × ((rest : List Interval) × (broken ≡ part ∷ rest) × AreBroken text parts rest))

-- a part is added where it does not parse as a file of its own
abbrev pub IsNoted : List ℕ → Interval → List Interval → List Interval → Type 0
IsNoted text part old new = (IsFile (alone text part) × (new ≡ old)) ⊎ (IsNoFile (alone text part) × (new ≡ old ++ part ∷ []))
