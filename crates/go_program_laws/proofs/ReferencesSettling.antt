-- The kinds of types by which a package settles what it declares are those of the types that it knows.
use Rattle.std.proofs.Common.{◌≡◌, ℕ, Bool, true, false, List, [], ◌∷◌, Option, Some, None, refl, sym, ap, ◌∙◌, if◌then◌else◌}
use Rattle.std.proofs.lemmas.Option.{none-some}
use Rattle.go_select_core.specs.type_core.Laws.{or_far}
use Rattle.go_body_core.specs.table_core.Finding.{find-append, or_else, or_none}
use Rattle.go_body_core.specs.table_core.Keys.{same_key_true}
use Rattle.go_select_core.specs.type_core.Together.{kind_known}
use Rattle.go_term_core.specs.decl_core.declared.keys.DeclKey.{DeclKey}
use Rattle.go_term_core.specs.settling.Settled.{kind_of_term}
use Rattle.go_body_core.specs.table_core.Entries.{Entry, find_entry, kinds_in, same_key, term_in}
use Rattle.go_body_core.specs.table_core.Tables.{AreOf}
use Rattle.go_body_core.specs.typexpr_core.EntryEntries.{Meanings, entries_with, package_meanings, package_methods}
use Rattle.go_emit_core.specs.package_core.PreparePackages.{PackageIn, outlines_in, shows_in}
use Rattle.go_report_core.specs.summary_core.Telling.{nothing_else}
use Rattle.go_report_core.specs.summary_core.Views.{types_told}
use Rattle.go_emit_core.specs.package_core.PackagePartInputs.{InputModel, IsInput, path_in}
use Rattle.go_emit_core.specs.package_core.PackagePartParts.{ContentOf, IsPart, package_seen, seen_by}
use Rattle.go_program_laws.specs.types.Functions.{known_types}
use Rattle.go_program_laws.proofs.FaultlessShows.{types_are}

-- what is found among the types of a package has a key of its path
own_path : (path : List ℕ) (es : List Entry) (k : DeclKey) (e : Entry) → AreOf path es → find_entry es k ≡ Some e → k.path ≡ path
own_path path [] k e own is = absurd (none-some e is)
own_path path (x ∷ es) k e own is = by (same_key x.key k) refl is (λ rest. own_path path es k e own.1 rest)
  where
    by : (b : Bool) → same_key x.key k ≡ b → (if b then Some x else find_entry es k) ≡ Some e → (find_entry es k ≡ Some e → k.path ≡ path) → k.path ≡ path
    by true at is rest = ap (λ (j : DeclKey). j.path) (sym (same_key_true x.key k at)) ∙ own.0
    by false at is rest = rest is

module _ (i : InputModel) (c : ContentOf) (input : IsInput i) (part : IsPart i c) (own : AreOf (path_in i) part.checked.types) where
  abbrev far : List Entry
  far = types_told i.reached

  abbrev types : List Entry
  types = part.checked.types

  found_same : (k : DeclKey) (o : Option Entry) → find_entry types k ≡ o → or_else (find_entry far k) o ≡ or_far o (find_entry far k)
  found_same k None is = or_none (find_entry far k)
  found_same k (Some e) is = ap (λ (f : Option Entry). or_else f (Some e)) ((nothing_else i.reached (path_in i) input.own input.reached.others).types k (own_path (path_in i) types k e own is))

  known_is : (k : DeclKey) → find_entry (known_types i c) k ≡ or_far (find_entry types k) (find_entry far k)
  known_is k = ap (λ (es : List Entry). find_entry es k) (types_are i c part) ∙ (find-append far types k ∙ found_same k (find_entry types k) refl)

  abbrev seen : PackageIn
  seen = package_seen i c.blocks (seen_by i)

  abbrev means : Meanings
  means = package_meanings (shows_in seen) seen.path seen.blocks

  pub kind_same : (k : DeclKey) → part.is_checked.types.built.kind k ≡ kinds_in (known_types i c) k
  kind_same k =
      kind_known (find_entry far) (entries_with means seen.path (package_methods means seen.path (outlines_in seen)) (outlines_in seen)) types part.is_checked.types.loops part.is_checked.types.built k
      ∙ ap (λ (o : Option Entry). kind_of_term (term_in o)) (sym (known_is k))
