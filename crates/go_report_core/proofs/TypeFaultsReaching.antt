-- The types and aliases of a package that have a fault since they reach themselves.
use Rattle.std.proofs.Common.{◌≡◌, ℕ, inl, inr, Bool, true, false, ◌&&◌, List, [], ◌∷◌, ◌++◌, Option, Some, None, is_some, option_map, refl, sym, ap, subst, ◌∙◌, arith}
use Rattle.std.specs.Prelude.{◌↔◌, IsTrue, Contains, if◌then◌else◌}
use Rattle.std.specs.List.{AllByRecursion}
use Rattle.std.specs.Str.{bytes_eq}
use Rattle.std.proofs.lemmas.List.Elements.{All-contains, All-from_recursion, Contains-append_cases, Contains-append_left, Contains-append_right}
use Rattle.std.proofs.lemmas.Slice.Eq.{bytes_eq-Decides}
use Rattle.go_path_core.specs.text_core.declared.rule.Rule.TheVariants.{Y1}
use Rattle.go_term_core.specs.decl_core.declared.keys.DeclKey.{DeclKey}
use Rattle.go_term_core.specs.decl_core.declared.keys.DeclRef.{DeclRef}
use Rattle.go_term_core.specs.declared.term.MemberPlace.TheVariants as places
use Rattle.go_term_core.specs.Terms.{Term}
use Rattle.go_summary_core.specs.typexpr_core.AliasesAliases.{alias_ends, alias_in, own_alias}
use Rattle.go_summary_core.specs.typexpr_core.AliasesEnding.{end_in}
use Rattle.go_summary_core.specs.typexpr_core.AliasesLaws.{AreLoopedAliases, AreWithTargets, LoopsAgree, MeansOthers}
use Rattle.go_summary_core.specs.typexpr_core.AliasesNumbers.{option_cases, own_alias_by, same_decl_from, same_decl_true}
use Rattle.go_summary_core.specs.table_core.Entries.{Entry, find_entry, same_decl, same_key}
use Rattle.go_select_core.specs.type_core.Built.{IsLooped, looped_faults}
use Rattle.go_summary_core.specs.typexpr_core.EntryOutlines.{FileOutline}
use Rattle.go_report_core.specs.declared.type_faults.places.PackageFault.{PackageFault}
use Rattle.go_report_core.specs.type_faults.Places.{located}
use Rattle.go_report_core.specs.type_faults.TypeFaults.{alias_faults, loops_faults}
use Rattle.go_report_core.proofs.TypeFaultsLoops.{AreNoLoops, IsNoLoop, aliases_are, is_looped_alias, located_if, loops_are, said_of}

-- keys

key_itself : (k : DeclKey) → same_key k k ≡ true
key_itself k =
    let path : bytes_eq k.path k.path ≡ true = (bytes_eq-Decides k.path k.path).1 refl in
    let decl : same_decl k.decl k.decl ≡ true = same_decl_from k.decl k.decl refl in
    ap (λ b. b && same_decl k.decl k.decl) path ∙ decl

key_true : (a b : DeclKey) → same_key a b ≡ true → a ≡ b
key_true a b h = by (bytes_eq a.path b.path) refl
  where
    by : (c : Bool) → bytes_eq a.path b.path ≡ c → a ≡ b
    by true t =
        let path : a.path ≡ b.path = (bytes_eq-Decides a.path b.path).0 t in
        let decl : a.decl ≡ b.decl = same_decl_true a.decl b.decl (sym (ap (λ c. c && same_decl a.decl b.decl) t) ∙ h) in
        λ i. record { path = path i; decl = decl i }
    by false f = absurd (let no : false ≡ true = sym (ap (λ c. c && same_decl a.decl b.decl) f) ∙ h in cc)

abbrev found_by : Entry → List Entry → DeclKey → Bool → Option Entry
found_by e es k b = if b then Some e else find_entry es k

none_there : (f : PackageFault) → Contains [] f → ⊥
none_there f h = (let lt = h.1 in omega (arith, lt))

-- faults of entries of which this says that they reach themselves

module _ (is : Entry → Bool) (os : List FileOutline) where
  abbrev IsAt : DeclKey → PackageFault → Type 0
  IsAt k f = Contains (located os (places.Declared k.decl) Y1) f

  -- of one that is found by a key
  said_there : (es : List Entry) (k : DeclKey) (e : Entry) (f : PackageFault) → find_entry es k ≡ Some e → ((x : Entry) → x.key ≡ k → is x ≡ true) → IsAt k f → Contains (said_of is os es) f
  said_there [] k e f h holds at = absurd (let no : None ≡ Some e = h in cc)
  said_there (x ∷ es) k e f h holds at = by (same_key x.key k) refl (λ rest. said_there es k e f rest holds at)
    where
      by : (b : Bool) → same_key x.key k ≡ b → (find_entry es k ≡ Some e → Contains (said_of is os es) f) → Contains (located_if (is x) os x.key ++ said_of is os es) f
      by true t more =
          let key : x.key ≡ k = key_true x.key k t in
          let here : IsAt x.key f = subst (λ (j : DeclKey). IsAt j f) (sym key) at in
          Contains-append_left (located_if (is x) os x.key) (said_of is os es) f (subst (λ b. Contains (located_if b os x.key) f) (sym (holds x key)) here)
      by false t more = Contains-append_right (located_if (is x) os x.key) (said_of is os es) f (more (sym (ap (found_by x es k) t) ∙ h))

  -- an entry with the fault
  pub record IsSaidOf (es : List Entry) (f : PackageFault) : Type 0 where
    pub key : DeclKey
    pub entry : Entry
    pub found : find_entry es key ≡ Some entry
    pub said : (e : Entry) × (e.key ≡ key) × (is e ≡ true)
    pub place : IsAt key f

  said_first : (b : Bool) (x : Entry) (es : List Entry) (f : PackageFault) → is x ≡ b → Contains (located_if b os x.key) f → IsSaidOf (x ∷ es) f
  said_first true x es f t at = record { key = x.key; entry = x; found = ap (found_by x es x.key) (key_itself x.key); said = (x, refl, t); place = at }
  said_first false x es f t at = absurd (none_there f at)

  said_rest : (b : Bool) (x : Entry) (es : List Entry) (f : PackageFault) (s : IsSaidOf es f) → same_key x.key s.key ≡ b → IsSaidOf (x ∷ es) f
  said_rest true x es f s t = record { key = s.key; entry = x; found = ap (found_by x es s.key) t; said = s.said; place = s.place }
  said_rest false x es f s t = record { key = s.key; entry = s.entry; found = ap (found_by x es s.key) t ∙ s.found; said = s.said; place = s.place }

  said_from : (es : List Entry) (f : PackageFault) → Contains (said_of is os es) f → IsSaidOf es f
  said_from [] f h = absurd (none_there f h)
  said_from (x ∷ es) f h = elim (Contains-append_cases (located_if (is x) os x.key) (said_of is os es) f h) [
    | inl here ↦ said_first (is x) x es f refl here
    | inr later ↦ (let s = said_from es f later in said_rest (same_key x.key s.key) x es f s refl)
  ]

no_loop : (fs : List PackageFault) (f : PackageFault) → AreNoLoops fs → Contains fs f → f.rule ≡ Y1 → ⊥
no_loop fs f all h = All-contains IsNoLoop fs f (All-from_recursion IsNoLoop fs all) h

-- the types and aliases of a package: what is written of them, and its types with the targets of all names

module _ (path : List ℕ) (far : DeclKey → Term) (xs : List (DeclRef × Term)) (written types : List Entry) (os : List FileOutline) (outside : MeansOthers path far) (are : AreWithTargets path far xs written types) (agree : LoopsAgree)
    (of_type : DeclKey → Bool) (types_are : (k : DeclKey) → IsTrue (of_type k) ↔ IsLooped types k) (looped : List DeclRef) (looped_are : AreLoopedAliases written (alias_ends xs path) looped) where
  abbrev is_type : Entry → Bool
  is_type e = of_type e.key

  abbrev is_alias : Entry → Bool
  is_alias = is_looped_alias looped_are.0 (alias_ends xs path)

  abbrev of_types : List PackageFault
  of_types = loops_faults os types (looped_faults of_type 0 types)

  abbrev of_aliases : List PackageFault
  of_aliases = alias_faults os looped

  alias_faults_are : of_aliases ≡ said_of is_alias os written
  alias_faults_are = ap (alias_faults os) looped_are.2 ∙ aliases_are looped_are.0 os (alias_ends xs path) written

  -- what reaches itself has a fault

  own_in : (k : DeclKey) (w : Term) (b : Bool) → bytes_eq path k.path ≡ b → own_alias xs path k ≡ Some w → alias_in xs k.decl ≡ Some w
  own_in k w true t own = sym (ap (own_alias_by xs k) t) ∙ own
  own_in k w false t own = absurd (let no : None ≡ Some w = sym (ap (own_alias_by xs k) t) ∙ own in cc)

  alias_there : (k : DeclKey) (e : Entry) (w : Term) → find_entry written k ≡ Some e → own_alias xs path k ≡ Some w → IsLooped written k → (f : PackageFault) → IsAt is_alias os k f → Contains (of_types ++ of_aliases) f
  alias_there k e w there own h f at =
      let yes : looped_are.0 k ≡ true = (looped_are.1 k).1 h in
      let ends = end_in xs path k.decl ∙ ap (option_map _) (own_in k w (bytes_eq path k.path) refl own) in
      let both : (looped_are.0 k && is_some (alias_in (alias_ends xs path) k.decl)) ≡ true = ap (λ b. b && is_some (alias_in (alias_ends xs path) k.decl)) yes ∙ ap is_some ends in
      let listed = said_there is_alias os written k e f there (λ x key. ap (λ (j : DeclKey). looped_are.0 j && is_some (alias_in (alias_ends xs path) j.decl)) key ∙ both) at in
      Contains-append_right of_types of_aliases f (subst (λ fs. Contains fs f) (sym alias_faults_are) listed)

  type_there : (k : DeclKey) (e : Entry) → find_entry types k ≡ Some e → IsLooped written k → (f : PackageFault) → IsAt is_type os k f → Contains (of_types ++ of_aliases) f
  type_there k e there h f at =
      let yes : of_type k ≡ true = (types_are k).1 ((agree path far xs written types outside are k e there).0 h) in
      let listed = said_there is_type os types k e f there (λ x key. ap of_type key ∙ yes) at in
      Contains-append_left of_types of_aliases f (subst (λ fs. Contains fs f) (sym (loops_are of_type os types)) listed)

  pub looped_there : (k : DeclKey) (w : Entry) → find_entry written k ≡ Some w → IsLooped written k → (f : PackageFault) → Contains (located os (places.Declared k.decl) Y1) f → Contains (of_types ++ of_aliases) f
  looped_there k w there h f at = elim (option_cases (own_alias xs path k)) [
    | inr a ↦ alias_there k w a.0 there a.1 h f at
    | inl none ↦ elim (option_cases (find_entry types k)) [
      | inr e ↦ type_there k e.0 e.1 h f at
      | inl gone ↦ absurd (let no : None ≡ Some w = sym (are.others k none gone) ∙ there in cc)
    ]
  ]

  -- and nothing else has one

  abbrev pub IsOfLooped : PackageFault → Type 0
  IsOfLooped f = (k : DeclKey) × (w : Entry) × (find_entry written k ≡ Some w) × IsLooped written k × Contains (located os (places.Declared k.decl) Y1) f

  type_from : (f : PackageFault) → Contains of_types f → IsOfLooped f
  type_from f h =
      let s = said_from is_type os types f (subst (λ fs. Contains fs f) (loops_are of_type os types) h) in
      let w = (are.types_are s.key s.entry s.found).1 in
      let yes : of_type s.key ≡ true = ap of_type (sym s.said.1) ∙ s.said.2 in
      (s.key, w.0, w.1, (agree path far xs written types outside are s.key s.entry s.found).1 ((types_are s.key).0 yes), s.place)

  first_true : (a b : Bool) → (a && b) ≡ true → a ≡ true
  first_true true b h = refl
  first_true false b h = h

  alias_from : (f : PackageFault) → Contains of_aliases f → IsOfLooped f
  alias_from f h =
      let s = said_from is_alias os written f (subst (λ fs. Contains fs f) alias_faults_are h) in
      let e = s.said.0 in
      let yes : looped_are.0 s.key ≡ true = ap looped_are.0 (sym s.said.1) ∙ first_true (looped_are.0 e.key) (is_some (alias_in (alias_ends xs path) e.key.decl)) s.said.2 in
      (s.key, s.entry, s.found, (looped_are.1 s.key).0 yes, s.place)

  pub looped_from : (f : PackageFault) → Contains (of_types ++ of_aliases) f → IsOfLooped f
  looped_from f h = elim (Contains-append_cases of_types of_aliases f h) [ inl a ↦ type_from f a | inr b ↦ alias_from f b ]

  pub looped_only : (others more : List PackageFault) → AreNoLoops others → AreNoLoops more → (f : PackageFault) → Contains (((of_types ++ of_aliases) ++ others) ++ more) f → f.rule ≡ Y1 → IsOfLooped f
  looped_only others more none nor f h is = elim (Contains-append_cases ((of_types ++ of_aliases) ++ others) more f h) [
    | inr m ↦ absurd (no_loop more f nor m is)
    | inl l ↦ elim (Contains-append_cases (of_types ++ of_aliases) others f l) [ inl here ↦ looped_from f here | inr o ↦ absurd (no_loop others f none o is) ]
  ]
