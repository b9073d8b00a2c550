-- What is no type, by the ends of chains.
use Rattle.std.proofs.Common.{◌≡◌, ℕ, ◌<◌, ◌⊎◌, inl, inr, Bool, true, false, List, [], ◌∷◌, Option, Some, None, length, get_or, refl, sym, ap, ◌∙◌, subst, arith}
use Rattle.std.specs.Prelude.{slice_get}
use Rattle.std.proofs.lemmas.Option.{slice_get_within, slice_get_cases, slice_get-get_or}
use Rattle.std.proofs.lemmas.Bool.{or_cases, or_left, or_right}
use Rattle.go_term_core.specs.decl_core.declared.keys.DeclKey.{DeclKey}
use Rattle.go_digraph_core.specs.chain.Chains.{ChainLeads, EndsAt, AreEnds, AllInside}
use Rattle.go_term_core.specs.Terms.{Term, NoType, Predeclared, ErrorType, Defined, PointerTo, StructOf, InterfaceOf, is_no_type}
use Rattle.go_table_core.specs.Entries.{Entry, EntryLook, find_entry, term_in}
use Rattle.go_type_core.specs.Built.{AreLoopedEntries, base, NamesNothing, IsNothingBy, IsNoTypeHere, UsesAlong, IsLooped}
use Rattle.go_type_core.specs.mirrors.Numbers.{keys_of, number_of, term_at, IsTable}
use Rattle.go_type_core.specs.mirrors.Chained.{named_number, next_unless, next_bare, is_lacking, is_bad_end, is_bad_at, nothing_at, AreNothing}
use Rattle.go_type_core.proofs.Keyed.{At, at_found, at_number, at_place, not_found, not_numbered, Apart, table_at}
use Rattle.go_type_core.proofs.Looping.{number_below}

-- steps of a chain

pub next_some : (b : Bool) (o : Option ℕ) (j : ℕ) → next_unless b o ≡ Some j → (b ≡ false) × (o ≡ Some j)
next_some true o j h = absurd (cc)
next_some false o j h = (refl, h)

pub named_some : (keys : List DeclKey) (t : Term) (j : ℕ) → named_number keys t ≡ Some j → (k : DeclKey) × (t ≡ Defined k) × (number_of keys k ≡ Some j)
named_some keys NoType j h = absurd (cc)
named_some keys (Predeclared b) j h = absurd (cc)
named_some keys ErrorType j h = absurd (cc)
named_some keys (Defined k) j h = (k, refl, h)
named_some keys (PointerTo t) j h = absurd (cc)
named_some keys (StructOf path fs) j h = absurd (cc)
named_some keys (InterfaceOf path ms) j h = absurd (cc)

pub term_there : (es : List Entry) (i : ℕ) (w : Entry) → slice_get es i ≡ Some w → term_at es i ≡ w.term
term_there es i w h = ap term_in h

-- the type with a number is defined through names, which a function passes, by the type with another
pub record IsStep (written : List Entry) (looped : List Bool) (f : Term → Term) (i j : ℕ) : Type 0 where
  pub user : Entry
  pub stands : slice_get written i ≡ Some user
  pub unmarked : get_or looped i false ≡ false
  pub key : DeclKey
  pub names : f user.term ≡ Defined key
  pub target : Entry
  pub at : At written key j target

-- two chains from one number end at one number
pub leads_one : (next : List (Option ℕ)) (i e o : ℕ) (p q : List ℕ) → ChainLeads next i p e → ChainLeads next i q o → slice_get next e ≡ Some None → slice_get next o ≡ Some None → e ≡ o
leads_one next i e o [] [] h k he ho = sym h ∙ k
leads_one next i e o [] (m ∷ q) h k he ho = (let a : Some (Some m) ≡ Some None = sym k.0 ∙ (ap (slice_get next) h ∙ he) in absurd (let b : Some m ≡ None = cc in (cc)))
leads_one next i e o (n ∷ p) [] h k he ho = (let a : Some (Some n) ≡ Some None = sym h.0 ∙ (ap (slice_get next) k ∙ ho) in absurd (let b : Some n ≡ None = cc in (cc)))
leads_one next i e o (n ∷ p) (m ∷ q) h k he ho =
    let a : Some (Some n) ≡ Some (Some m) = sym h.0 ∙ k.0 in
    let b : n ≡ m = cc in
    leads_one next n e o p q h.1 (subst (λ x. ChainLeads next x q o) (sym b) k.1) he ho

pub ends_one : (next : List (Option ℕ)) (i e o : ℕ) → EndsAt next i e → EndsAt next i o → e ≡ o
ends_one next i e o h k = leads_one next i e o h.0 k.0 h.1 k.1 h.2 k.2

-- a chain that goes one step on
pub ends_on : (next : List (Option ℕ)) (i j e : ℕ) → slice_get next i ≡ Some (Some j) → EndsAt next j e → EndsAt next i e
ends_on next i j e s h = (j ∷ h.0, (s, h.1), h.2)

pub ends_here : (next : List (Option ℕ)) (i : ℕ) → slice_get next i ≡ Some None → EndsAt next i i
ends_here next i s = ([], refl, s)

module _ (written : List Entry) (apart : Apart written) (looped : List Bool) (f : Term → Term) (next : List (Option ℕ))
    (table : IsTable next (length written) (λ i. next_unless (get_or looped i false) (named_number (keys_of written) (f (term_at written i))))) where
  -- what stands in the list of next numbers
  pub next_at : (i : ℕ) (w : Entry) → slice_get written i ≡ Some w → slice_get next i ≡ Some (next_unless (get_or looped i false) (named_number (keys_of written) (f w.term)))
  next_at i w at = table.each i (slice_get_within written i w at) ∙ ap (λ t. Some (next_unless (get_or looped i false) (named_number (keys_of written) (f t)))) (term_there written i w at)

  pub stands_by : (i : ℕ) (o : Option ℕ) → slice_get next i ≡ Some o → (w : Entry) × (slice_get written i ≡ Some w)
  stands_by i o h =
      let lt = slice_get_within next i o h in
      let count = table.as_many in
      elim ((slice_get_cases written i).1) [
        | inl here ↦ (here.0, here.2)
        | inr past ↦ (let le = past.0 in absurd (omega (arith, lt, count, le)))
      ]

  pub step_of : (i j : ℕ) → slice_get next i ≡ Some (Some j) → IsStep written looped f i j
  step_of i j h =
      let w = stands_by i (Some j) h in
      let both : Some (next_unless (get_or looped i false) (named_number (keys_of written) (f w.0.term))) ≡ Some (Some j) = sym (next_at i w.0 w.1) ∙ h in
      let is : next_unless (get_or looped i false) (named_number (keys_of written) (f w.0.term)) ≡ Some j = cc in
      let parts = next_some (get_or looped i false) (named_number (keys_of written) (f w.0.term)) j is in
      let named = named_some (keys_of written) (f w.0.term) j parts.1 in
      let at = at_number written named.0 j named.2 in
      record { user = w.0; stands = w.1; unmarked = parts.0; key = named.0; names = named.1; target = at.0; at = at.1 }

  pub step_to : (i j : ℕ) (w : Entry) (k : DeclKey) → slice_get written i ≡ Some w → get_or looped i false ≡ false → f w.term ≡ Defined k → number_of (keys_of written) k ≡ Some j → slice_get next i ≡ Some (Some j)
  step_to i j w k at unmarked names n =
      next_at i w at ∙ (ap (λ b. Some (next_unless b (named_number (keys_of written) (f w.term)))) unmarked ∙ (ap (λ t. Some (named_number (keys_of written) t)) names ∙ ap Some n))

  pub stop_marked : (i : ℕ) (w : Entry) → slice_get written i ≡ Some w → get_or looped i false ≡ true → slice_get next i ≡ Some None
  stop_marked i w at marked = next_at i w at ∙ ap (λ b. Some (next_unless b (named_number (keys_of written) (f w.term)))) marked

  pub stop_unnamed : (i : ℕ) (w : Entry) → slice_get written i ≡ Some w → get_or looped i false ≡ false → named_number (keys_of written) (f w.term) ≡ None → slice_get next i ≡ Some None
  stop_unnamed i w at unmarked none = next_at i w at ∙ (ap (λ b. Some (next_unless b (named_number (keys_of written) (f w.term)))) unmarked ∙ ap Some none)

  -- what ends a chain without a mark names no type of the package
  pub unnamed_of : (i : ℕ) (w : Entry) → slice_get written i ≡ Some w → slice_get next i ≡ Some None → get_or looped i false ≡ false → named_number (keys_of written) (f w.term) ≡ None
  unnamed_of i w at stop unmarked =
      let both : Some (named_number (keys_of written) (f w.term)) ≡ Some None = ap (λ b. Some (next_unless b (named_number (keys_of written) (f w.term)))) (sym unmarked) ∙ (sym (next_at i w at) ∙ stop) in
      cc

  -- what the numbers lead to is inside
  pub inside : AllInside next
  inside i j h =
      let s = step_of i j h in
      let count = table.as_many in
      let lt = number_below written s.key j s.at.numbered in
      omega (arith, lt, count)

-- what is lacking

pub no_type_is : (t : Term) → is_no_type t ≡ true → t ≡ NoType
no_type_is NoType h = refl
no_type_is (Predeclared b) h = absurd (cc)
no_type_is ErrorType h = absurd (cc)
no_type_is (Defined k) h = absurd (cc)
no_type_is (PointerTo t) h = absurd (cc)
no_type_is (StructOf path fs) h = absurd (cc)
no_type_is (InterfaceOf path ms) h = absurd (cc)

-- what another package has of a key is nothing
abbrev pub FarNothing : EntryLook → DeclKey → Type 0
FarNothing far k = (far k ≡ None) ⊎ ((e : Entry) × (far k ≡ Some e) × (e.term ≡ NoType))

far_cases : (far : EntryLook) (k : DeclKey) (o : Option Entry) → far k ≡ o → term_in o ≡ NoType → FarNothing far k
far_cases far k None e h = inl e
far_cases far k (Some x) e h = inr (x, e, h)

pub far_nothing : (far : EntryLook) (k : DeclKey) → term_in (far k) ≡ NoType → FarNothing far k
far_nothing far k h = far_cases far k (far k) refl h

pub far_term : (far : EntryLook) (k : DeclKey) → FarNothing far k → term_in (far k) ≡ NoType
far_term far k h = elim h [ inl none ↦ ap term_in none | inr some ↦ ap term_in some.1 ∙ some.2 ]

-- a type that is lacking at the end of a chain
pub lacking_is : (far : EntryLook) (t : Term) → is_lacking far t ≡ true → (t ≡ NoType) ⊎ ((k : DeclKey) × (t ≡ Defined k) × FarNothing far k)
lacking_is far NoType h = inl refl
lacking_is far (Predeclared b) h = absurd (cc)
lacking_is far ErrorType h = absurd (cc)
lacking_is far (Defined k) h = inr (k, refl, far_nothing far k (no_type_is (term_in (far k)) h))
lacking_is far (PointerTo t) h = absurd (cc)
lacking_is far (StructOf path fs) h = absurd (cc)
lacking_is far (InterfaceOf path ms) h = absurd (cc)

-- what leads to nothing is seen by the type without stars alone
pub nothing_by_base : (written : List Entry) (far : EntryLook) (t u : Term) (through : List DeclKey) → base t ≡ base u → IsNothingBy written far t through → IsNothingBy written far u through
nothing_by_base written far t u [] e h = elim h [ inl n ↦ inl (sym e ∙ n) | inr k ↦ inr (k.0, sym e ∙ k.1, k.2) ]
nothing_by_base written far t u (k ∷ ks) e h = (sym e ∙ h.0, h.1)

pub looped_found : (written : List Entry) (k : DeclKey) → IsLooped written k → (e : Entry) × (find_entry written k ≡ Some e)
looped_found written k loop = first loop.0 loop.1
  where
    first : (between : List DeclKey) → UsesAlong written k between k → (e : Entry) × (find_entry written k ≡ Some e)
    first [] u = (u.0, u.1)
    first (m ∷ ms) u = (u.0.0, u.0.1)

module _ (written : List Entry) (apart : Apart written) (far : EntryLook) (looped : List Bool) (are : AreLoopedEntries written looped) (next : List (Option ℕ))
    (table : IsTable next (length written) (next_bare (keys_of written) looped written)) where
  -- from the end of a chain to what is nothing

  bad_here : (i : ℕ) (w : Entry) (b : Bool) → slice_get written i ≡ Some w → get_or looped i false ≡ b → slice_get next i ≡ Some None → is_bad_end far looped written i ≡ true → IsNoTypeHere written far (Defined w.key)
  bad_here i w true at mark stop bad = ([], inr (w.key, refl, inl ((are i w at).0 mark)))
  bad_here i w false at mark stop bad =
      let found : find_entry written w.key ≡ Some w = (at_place written i w apart at).found in
      let lack : is_lacking far (base (term_at written i)) ≡ true = elim (or_cases (get_or looped i false) (is_lacking far (base (term_at written i))) bad) [ inl loops ↦ absurd (let both : false ≡ true = sym mark ∙ loops in (cc)) | inr l ↦ l ] in
      let lack_w : is_lacking far (base w.term) ≡ true = ap (λ t. is_lacking far (base t)) (sym (term_there written i w at)) ∙ lack in
      let unnamed : named_number (keys_of written) (base w.term) ≡ None = unnamed_of written apart looped base next table i w at stop mark in
      elim (lacking_is far (base w.term) lack_w) [
        | inl none ↦ (w.key ∷ [], (refl, (w, found, inl none)))
        | inr k ↦ (let no_number : number_of (keys_of written) k.0 ≡ None = ap (named_number (keys_of written)) (sym k.1) ∙ unnamed in
            (w.key ∷ [], (refl, (w, found, inr (k.0, k.1, inr (not_found written k.0 no_number, k.2))))))
      ]

  pub nothing_back : (i e : ℕ) (w : Entry) (path : List ℕ) → slice_get written i ≡ Some w → ChainLeads next i path e → slice_get next e ≡ Some None → is_bad_end far looped written e ≡ true → IsNoTypeHere written far (Defined w.key)
  nothing_back i e w [] at h stop bad = bad_here i w (get_or looped i false) at refl (ap (slice_get next) h ∙ stop) (ap (is_bad_end far looped written) h ∙ bad)
  nothing_back i e w (j ∷ path) at h stop bad =
      let s = step_of written apart looped base next table i j h.0 in
      let rest = nothing_back j e s.target path s.at.stands h.1 stop bad in
      let same : Some s.user ≡ Some w = sym s.stands ∙ at in
      let uw : s.user ≡ w = cc in
      let b : base (Defined s.target.key) ≡ base w.term = ap Defined s.at.key ∙ (sym s.names ∙ ap (λ (x : Entry). base x.term) uw) in
      let found : find_entry written w.key ≡ Some w = (at_place written i w apart at).found in
      (w.key ∷ rest.0, (refl, (w, found, nothing_by_base written far (Defined s.target.key) w.term rest.0 b rest.1)))

  -- from what is nothing to the end of a chain

  abbrev EndsBadly : ℕ → Type 0
  EndsBadly i = (e : ℕ) × EndsAt next i e × (is_bad_end far looped written e ≡ true)

  ends_marked : (i : ℕ) (w : Entry) → slice_get written i ≡ Some w → get_or looped i false ≡ true → EndsBadly i
  ends_marked i w at mark = (i, ends_here next i (stop_marked written apart looped base next table i w at mark), or_left (get_or looped i false) (is_lacking far (base (term_at written i))) mark)

  ends_lacking : (i : ℕ) (w : Entry) (t : Term) → slice_get written i ≡ Some w → get_or looped i false ≡ false → base w.term ≡ t → named_number (keys_of written) t ≡ None → is_lacking far t ≡ true → EndsBadly i
  ends_lacking i w t at mark is unnamed lack = (
    i,
    ends_here next i (stop_unnamed written apart looped base next table i w at mark (ap (named_number (keys_of written)) is ∙ unnamed)),
    or_right (get_or looped i false) (is_lacking far (base (term_at written i))) (ap (λ u. is_lacking far (base u)) (term_there written i w at) ∙ (ap (is_lacking far) is ∙ lack)),
  )

  ends_after : (i j : ℕ) (w : Entry) (k : DeclKey) → slice_get written i ≡ Some w → get_or looped i false ≡ false → base w.term ≡ Defined k → number_of (keys_of written) k ≡ Some j → EndsBadly j → EndsBadly i
  ends_after i j w k at mark is n h = (h.0, ends_on next i j h.0 (step_to written apart looped base next table i j w k at mark is n) h.1, h.2)

  marked_key : (j : ℕ) (k : DeclKey) (e : Entry) → At written k j e → IsLooped written k → get_or looped j false ≡ true
  marked_key j k e at loop = (are j e at.stands).1 (subst (IsLooped written) (sym at.key) loop)

  -- one step towards nothing from a type without a mark
  ends_step : (i : ℕ) (w : Entry) (through : List DeclKey) (b : Bool) → get_or looped i false ≡ b → slice_get written i ≡ Some w → ((j : ℕ) (v : Entry) (ks : List DeclKey) (k : DeclKey) → through ≡ k ∷ ks → slice_get written j ≡ Some v → IsNothingBy written far v.term ks → EndsBadly j) → IsNothingBy written far w.term through → EndsBadly i
  ends_step i w through true mark at more h = ends_marked i w at mark
  ends_step i w [] false mark at more h = elim h [
    | inl none ↦ ends_lacking i w NoType at mark none refl refl
    | inr k ↦ names k.0 k.1 k.2
  ]
    where
      names : (k : DeclKey) → base w.term ≡ Defined k → NamesNothing written far k → EndsBadly i
      names k is n = elim n [
        | inl loop ↦ (let found = looped_found written k loop in
            let a = at_found written k found.0 found.1 in
            ends_after i a.0 w k at mark is a.1.numbered (ends_marked a.0 found.0 a.1.stands (marked_key a.0 k found.0 a.1 loop)))
        | inr gone ↦ ends_lacking i w (Defined k) at mark is (not_numbered written k gone.0) (ap is_no_type (far_term far k gone.1))
      ]
  ends_step i w (k ∷ ks) false mark at more h =
      let a = at_found written k h.1.0 h.1.1 in
      ends_after i a.0 w k at mark h.0 a.1.numbered (more a.0 h.1.0 ks k refl a.1.stands h.1.2)

  pub ends_badly : (through : List DeclKey) (i : ℕ) (w : Entry) → slice_get written i ≡ Some w → IsNothingBy written far w.term through → EndsBadly i
  ends_badly [] i w at h = ends_step i w [] (get_or looped i false) refl at (λ j v ks k e. absurd (cc)) h
  ends_badly (m ∷ ms) i w at h = ends_step i w (m ∷ ms) (get_or looped i false) refl at (λ j v ks k e at' h'. ends_badly ms j v at' (subst (IsNothingBy written far v.term) (let q : ks ≡ ms = cc in q) h')) h

  pub nothing_ends : (i : ℕ) (w : Entry) → slice_get written i ≡ Some w → IsNoTypeHere written far (Defined w.key) → EndsBadly i
  nothing_ends i w at h = by_through h.0 h.1
    where
      found : find_entry written w.key ≡ Some w
      found = (at_place written i w apart at).found

      names : (k : DeclKey) → w.key ≡ k → NamesNothing written far k → EndsBadly i
      names k e n = elim n [
        | inl loop ↦ ends_marked i w at ((are i w at).1 (subst (IsLooped written) (sym e) loop))
        | inr gone ↦ absurd (let both : None ≡ Some w = sym gone.0 ∙ (ap (find_entry written) (sym e) ∙ found) in (cc))
      ]

      by_through : (through : List DeclKey) → IsNothingBy written far (Defined w.key) through → EndsBadly i
      by_through [] n = elim n [ inl none ↦ absurd (cc) | inr k ↦ (let both = k.1 in names k.0 (let e : w.key ≡ k.0 = cc in e) k.2) ]
      by_through (k ∷ ks) n =
          let both = n.0 in
          let e : w.key ≡ k = cc in
          let same : Some n.1.0 ≡ Some w = sym n.1.1 ∙ (ap (find_entry written) (sym e) ∙ found) in
          let nw : n.1.0 ≡ w = cc in
          ends_badly ks i w at (subst (λ (x : Entry). IsNothingBy written far x.term ks) nw n.1.2)

  -- the marks

  bad_back : (ends : List (Option ℕ)) (i : ℕ) (w : Entry) (o : Option ℕ) → AreEnds next ends → slice_get written i ≡ Some w → slice_get ends i ≡ Some o → is_bad_at far looped written o ≡ true → IsNoTypeHere written far (Defined w.key)
  bad_back ends i w None are_ends at h bad = absurd (cc)
  bad_back ends i w (Some e) are_ends at h bad = (let end = are_ends.ends_at i e h in nothing_back i e w end.0 at end.1 end.2 bad)

  bad_there : (ends : List (Option ℕ)) (i : ℕ) (w : Entry) (o : Option ℕ) → AreEnds next ends → slice_get ends i ≡ Some o → EndsBadly i → is_bad_at far looped written o ≡ true
  bad_there ends i w None are_ends h bad = absurd (are_ends.endless i bad.0 h bad.1)
  bad_there ends i w (Some e) are_ends h bad = (let end = are_ends.ends_at i e h in ap (is_bad_end far looped written) (ends_one next i e bad.0 end bad.1) ∙ bad.2)

  pub are_nothing : (ends : List (Option ℕ)) (marks : List Bool) → AreEnds next ends → IsTable marks (length written) (nothing_at far looped written ends) → AreNothing written far marks
  are_nothing ends marks are_ends made i w at =
      let lt : i < length written = slice_get_within written i w at in
      let mark : get_or marks i false ≡ nothing_at far looped written ends i = table_at marks (length written) (nothing_at far looped written ends) false i made lt in
      let count = are_ends.as_many in
      let more = table.as_many in
      let end : slice_get ends i ≡ Some (get_or ends i None) = slice_get-get_or ends i None (omega (arith, lt, count, more)) in
      ((λ yes. bad_back ends i w (get_or ends i None) are_ends at end (sym mark ∙ yes)), (λ h. mark ∙ bad_there ends i w (get_or ends i None) are_ends end (nothing_ends i w at h)))
