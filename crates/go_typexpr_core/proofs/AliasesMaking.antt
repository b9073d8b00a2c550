-- Aliases as the code holds them.
use Rattle.std.proofs.Common.{◌≡◌, ℕ, zero, suc, ◌+◌, ◌<◌, ◌≤◌, inl, inr, ◌↔◌, Bool, true, false, List, [], ◌∷◌, ◌++◌, Option, Some, None, is_some, option_map, map, length, get_or, take, refl, sym, ap, ◌∙◌, subst, arith}
use Rattle.std.specs.Prelude.{slice_get, if◌then◌else◌}
use Rattle.std.specs.Str.{bytes_eq}
use Rattle.std.specs.List.Sorted.{IsPartitionPoint, IsPartitionedBy}
use Rattle.std.proofs.lemmas.Bool.{cases_eq, cases_order}
use Rattle.std.proofs.lemmas.List.{append-nil, append_assoc, length-map, map_more, take_all}
use Rattle.std.proofs.lemmas.Option.{slice_get_within, get_or_from_slice_get}
use Rattle.std.proofs.lemmas.Slice.Eq.{bytes_eq-Decides}
use Rattle.go_digraph_core.specs.chain.Chains.{AllInside, AreEnds}
use Rattle.go_digraph_core.specs.chain.Laws.{counted_end}
use Rattle.go_digraph_core.proofs.ChainCounted.{ends_are_counted}
use Rattle.go_term_core.specs.Shapes.{shape}
use Rattle.go_term_core.specs.decl_core.declared.keys.DeclKey.{DeclKey}
use Rattle.go_term_core.specs.decl_core.declared.keys.DeclRef.{DeclRef}
use Rattle.go_term_core.specs.decl_core.Order.{is_ref_before}
use Rattle.go_term_core.specs.Terms.{Term}
use Rattle.go_type_core.specs.table_core.declared.entry.TypeEntry.{TypeEntry}
use Rattle.go_type_core.specs.table_core.Entries.{Entry, same_decl}
use Rattle.go_type_core.specs.table_core.Keys.{not_before_itself, ref_before_on}
use Rattle.go_type_core.specs.table_core.Shown.{entry_shown}
use Rattle.go_type_core.specs.Built.{AreLoopedEntries, IsLooped}
use Rattle.go_type_core.specs.mirrors.Numbers.{keys_of}
use Rattle.go_type_core.proofs.Building.{looped_key, looped_are}
use Rattle.go_typexpr_core.specs.declared.aliases.written.Alias.{Alias}
use Rattle.go_typexpr_core.specs.aliases.Aliases.{alias_in, alias_ends, decls_of, DeclsRise, end_of}
use Rattle.go_typexpr_core.specs.aliases.Laws.{AreLoopedAliases, looped_alias, looped_aliases}
use Rattle.go_typexpr_core.specs.aliases.Shown.{alias_shown}
use Rattle.go_typexpr_core.specs.aliases.mirrors.Numbered.{decl_number, ended, ends_from, ends_in, marked_alias, marked_aliases, named_number, nexts, own_number}
use Rattle.go_typexpr_core.proofs.AliasesChains.{as_many, ended_is}
use Rattle.go_typexpr_core.proofs.AliasesNumbers.{named_stands, number_first, number_none}

abbrev pub shown : List Alias → List (DeclRef × Term)
shown xs = map alias_shown xs

abbrev pub refs : List Alias → List DeclRef
refs xs = decls_of (map alias_shown xs)

-- declarations of aliases

ref_or : (xs : List Alias) (i : ℕ) (a : Alias) → get_or (refs xs) i a.decl ≡ (get_or xs i a).decl
ref_or [] i a = refl
ref_or (x ∷ xs) zero a = refl
ref_or (x ∷ xs) (suc i) a = ref_or xs i a

pub ref_at : (xs : List Alias) (i : ℕ) → slice_get (refs xs) i ≡ option_map (λ (a : Alias). a.decl) (slice_get xs i)
ref_at [] i = refl
ref_at (x ∷ xs) zero = refl
ref_at (x ∷ xs) (suc i) = ref_at xs i

pub some_ref : (xs : List Alias) (i : ℕ) (a : Alias) → slice_get xs i ≡ Some a → Some a.decl ≡ slice_get (refs xs) i
some_ref xs i a at = sym (ref_at xs i ∙ ap (option_map (λ (x : Alias). x.decl)) at)

pub none_ref : (xs : List Alias) (i : ℕ) → slice_get xs i ≡ None → None ≡ slice_get (refs xs) i
none_ref xs i at = sym (ref_at xs i ∙ ap (option_map (λ (x : Alias). x.decl)) at)

refs_len : (xs : List Alias) → length (refs xs) ≡ length xs
refs_len [] = refl
refs_len (x ∷ xs) = ap suc (refs_len xs)

alias_at : (xs : List Alias) (i : ℕ) (d : DeclRef) → slice_get (refs xs) i ≡ Some d → (a : Alias) × (slice_get xs i ≡ Some a) × (a.decl ≡ d)
alias_at [] i d at = absurd (cc)
alias_at (x ∷ xs) zero d at = (x, refl, (let e : x.decl ≡ d = cc in e))
alias_at (x ∷ xs) (suc i) d at = alias_at xs i d at

rise_between : (xs : List Alias) → DeclsRise (refs xs) → (i j : ℕ) (a : Alias) → i < j → j < length xs → is_ref_before (get_or xs i a).decl (get_or xs j a).decl ≡ true
rise_between xs rise i j a lt within =
    let len = refs_len xs in
    let h : is_ref_before (get_or (refs xs) i a.decl) (get_or (refs xs) j a.decl) ≡ true = rise i j a.decl lt (omega (arith, within, len)) in
    sym (ap (λ d. is_ref_before d (get_or (refs xs) j a.decl)) (ref_or xs i a) ∙ ap (is_ref_before (get_or xs i a).decl) (ref_or xs j a)) ∙ h

pub aliases_split : (xs : List Alias) (d : DeclRef) → DeclsRise (refs xs) → IsPartitionedBy (λ a. is_ref_before a.decl d) xs
aliases_split xs d rise i j a le lt h = elim (cases_eq i j) [
  | inl e ↦ ap (λ n. is_ref_before (get_or xs n a).decl d) e ∙ h
  | inr ne ↦ ref_before_on (get_or xs i a).decl (get_or xs j a).decl d (rise_between xs rise i j a (omega (arith, le, ne)) lt) h
]

-- numbers

module _ (xs : List Alias) (d : DeclRef) (i : ℕ) (split : IsPartitionPoint (λ a. is_ref_before a.decl d ≡ true) (λ a. is_ref_before a.decl d ≡ false) xs i) where
  not_below : (m : ℕ) (x : DeclRef) → m < i → slice_get (refs xs) m ≡ Some x → x ≡ d → ⊥
  not_below m x lt at e =
      let a = alias_at xs m x at in
      let read : get_or xs m a.0 ≡ a.0 = get_or_from_slice_get xs m a.0 a.0 a.1 in
      not_before_itself a.0.decl d (a.2 ∙ e) (ap (λ (y : Alias). is_ref_before y.decl d) (sym read) ∙ split.0 m a.0 (omega arith) lt)

  pub number_here : slice_get (refs xs) i ≡ Some d → Some i ≡ decl_number (refs xs) d
  number_here at = sym (number_first (refs xs) d i at not_below)

  not_above : (m : ℕ) (x : DeclRef) → DeclsRise (refs xs) → i < m → slice_get (refs xs) m ≡ Some x → x ≡ d → ⊥
  not_above m x rise lt at e =
      let a = alias_at xs m x at in
      let within : m < length xs = slice_get_within xs m a.0 a.1 in
      let read : get_or xs m a.0 ≡ a.0 = get_or_from_slice_get xs m a.0 a.0 a.1 in
      let yes : is_ref_before (get_or xs i a.0).decl d ≡ true = ap (is_ref_before (get_or xs i a.0).decl) (sym (ap (λ (y : Alias). y.decl) read ∙ (a.2 ∙ e))) ∙ rise_between xs rise i m a.0 lt within in
      let no : is_ref_before (get_or xs i a.0).decl d ≡ false = split.1 i a.0 (omega arith) (omega (arith, lt, within)) in
      let both : true ≡ false = sym yes ∙ no in
      cc

  pub number_gone : DeclsRise (refs xs) → (slice_get (refs xs) i ≡ Some d → ⊥) → None ≡ decl_number (refs xs) d
  number_gone rise not = sym (number_none (refs xs) d (λ m x at e. elim (cases_order m i) [
    | inl here ↦ not (ap (slice_get (refs xs)) (sym here) ∙ (at ∙ ap Some e))
    | inr apart ↦ elim apart [
      | inl below ↦ not_below m x below at e
      | inr above ↦ not_above m x rise above at e
    ]
  ]))

abbrev own_by : List DeclRef → DeclKey → Bool → Option ℕ
own_by ds k b = if b then decl_number ds k.decl else None

pub own_then : (path : List ℕ) (ds : List DeclRef) (k : DeclKey) (r : Option ℕ) → r ≡ decl_number ds k.decl → path ≡ k.path → r ≡ own_number path ds k
own_then path ds k r is same = is ∙ sym (ap (own_by ds k) ((bytes_eq-Decides path k.path).1 same))

pub own_else : (path : List ℕ) (ds : List DeclRef) (k : DeclKey) → (path ≡ k.path → ⊥) → None ≡ own_number path ds k
own_else path ds k other = by (bytes_eq path k.path) refl
  where
    by : (b : Bool) → bytes_eq path k.path ≡ b → None ≡ own_by ds k (bytes_eq path k.path)
    by true e = absurd (other ((bytes_eq-Decides path k.path).0 e))
    by false e = sym (ap (own_by ds k) e)

-- what aliases name, one by one

pub next_step : (f : Alias → Option ℕ) (xs : List Alias) (old new : List (Option ℕ)) (n : ℕ) (a : Alias) (r : Option ℕ) → n < length xs → a ≡ get_or xs n a → r ≡ f a → old ≡ map f (take n xs) → new ≡ old ++ r ∷ [] → new ≡ map f (take (n + 1) xs)
next_step f xs old new n a r lt is named h pushed =
    pushed ∙ (ap (λ l. l ++ r ∷ []) h ∙ (ap (λ x. map f (take n xs) ++ x ∷ []) (named ∙ ap f is) ∙ sym (map_more f xs n a lt)))

shown_map : (g : DeclRef × Term → Option ℕ) (xs : List Alias) → map (λ (a : Alias). g (alias_shown a)) xs ≡ map g (map alias_shown xs)
shown_map g [] = refl
shown_map g (x ∷ xs) = ap (λ l. g (alias_shown x) ∷ l) (shown_map g xs)

pub next_all : (path : List ℕ) (xs : List Alias) (now : List (Option ℕ)) (n : ℕ) → length xs ≤ n → now ≡ map (λ (a : Alias). named_number path (refs xs) (shape a.term)) (take n xs) → now ≡ nexts path (shown xs)
next_all path xs now n le h =
    h ∙ (ap (map (λ (a : Alias). named_number path (refs xs) (shape a.term))) (take_all n xs le) ∙ shown_map (λ (a : DeclRef × Term). named_number path (refs xs) a.1) xs)

-- ends by numbers

module _ (all : List (DeclRef × Term)) (ends : List (Option ℕ)) where
  abbrev end_at : ℕ → Term
  end_at n = ended all (get_or ends n None)

  in_case : (b : Bool) (i : ℕ) (o : Option ℕ)
      → (if b then Some (end_at i) else option_map (λ n. end_at (suc i + n)) o) ≡ option_map (λ n. end_at (i + n)) (if b then Some 0 else option_map suc o)
  in_case true i o = (let e : i ≡ i + 0 = omega arith in ap (λ n. Some (end_at n)) e)
  in_case false i None = refl
  in_case false i (Some n) = (let e : suc i + n ≡ i + suc n = omega arith in ap (λ m. Some (end_at m)) e)

  in_from : (i : ℕ) (xs : List (DeclRef × Term)) (d : DeclRef) → alias_in (ends_from all ends i xs) d ≡ option_map (λ n. end_at (i + n)) (decl_number (decls_of xs) d)
  in_from i [] d = refl
  in_from i (a ∷ xs) d = ap (λ o. if same_decl a.0 d then Some (end_at i) else o) (in_from (suc i) xs d) ∙ in_case (same_decl a.0 d) i (decl_number (decls_of xs) d)

  zero_plus : (o : Option ℕ) → option_map (λ n. end_at (0 + n)) o ≡ option_map end_at o
  zero_plus None = refl
  zero_plus (Some n) = (let e : 0 + n ≡ n = omega arith in ap (λ m. Some (end_at m)) e)

  in_ends : (d : DeclRef) → alias_in (ends_in all ends) d ≡ option_map end_at (decl_number (decls_of all) d)
  in_ends d = in_from 0 all d ∙ zero_plus (decl_number (decls_of all) d)

is_mapped : (f : ℕ → Term) (o : Option ℕ) → is_some o ≡ is_some (option_map f o)
is_mapped f None = refl
is_mapped f (Some n) = refl

module _ (value : List (DeclRef × Term)) (xs one : List Alias) (ends : List (Option ℕ)) (d : DeclRef) (view : ends_in (shown xs) ends ≡ value) (same : one ≡ xs) where
  read : (o : Option ℕ) → o ≡ decl_number (refs one) d → option_map (end_at (shown xs) ends) o ≡ alias_in value d
  read o is = ap (option_map (end_at (shown xs) ends)) (is ∙ ap (λ l. decl_number (refs l) d) same) ∙ (sym (in_ends (shown xs) ends d) ∙ ap (λ v. alias_in v d) view)

  pub has_shown : (o : Option ℕ) → o ≡ decl_number (refs one) d → is_some o ≡ is_some (alias_in value d)
  has_shown o is = is_mapped (end_at (shown xs) ends) o ∙ ap is_some (read o is)

  pub target_shown : (two : List Alias) (es : List (Option ℕ)) (n : ℕ) (e : Option ℕ) (t : Term) → two ≡ xs → es ≡ ends → Some n ≡ decl_number (refs one) d → e ≡ get_or es n None → t ≡ ended (shown two) e → Some t ≡ alias_in value d
  target_shown two es n e t again are is at end =
      ap Some (end ∙ (ap (λ l. ended (shown l) e) again ∙ ap (ended (shown xs)) (at ∙ ap (λ (l : List (Option ℕ)). get_or l n None) are))) ∙ read (Some n) is

  pub none_shown : None ≡ decl_number (refs one) d → None ≡ alias_in value d
  none_shown is = read None is

-- chains

next_inside : (path : List ℕ) (all xs : List (DeclRef × Term)) (i j : ℕ) → slice_get (map (λ (a : DeclRef × Term). named_number path (decls_of all) a.1) xs) i ≡ Some (Some j) → j < length all
next_inside path all [] i j at = absurd (cc)
next_inside path all (a ∷ xs) zero j at =
    let named : named_number path (decls_of all) a.1 ≡ Some j = cc in
    let s = named_stands all path a.1 j named in
    slice_get_within all j s.0 s.1
next_inside path all (a ∷ xs) (suc i) j at = next_inside path all xs i j at

pub all_inside : (path : List ℕ) (xs : List (DeclRef × Term)) (next : List (Option ℕ)) → next ≡ nexts path xs → AllInside next
all_inside path xs next is i j at =
    let lt : j < length xs = next_inside path xs xs i j (sym (ap (λ (l : List (Option ℕ)). slice_get l i) is) ∙ at) in
    let len : length next ≡ length xs = ap length is ∙ as_many xs path in
    omega (arith, lt, len)

ends_same : (f : Term → Term) (all : List (DeclRef × Term)) (ends : List (Option ℕ)) (i : ℕ) (xs : List (DeclRef × Term))
    → ((j : ℕ) (a : DeclRef × Term) → slice_get xs j ≡ Some a → ended all (get_or ends (i + j) None) ≡ f a.1) → ends_from all ends i xs ≡ map (λ (a : DeclRef × Term). (a.0, f a.1)) xs
ends_same f all ends i [] h = refl
ends_same f all ends i (a ∷ xs) h =
    let e : i ≡ i + 0 = omega arith in
    let first : ended all (get_or ends i None) ≡ f a.1 = ap (λ n. ended all (get_or ends n None)) e ∙ h 0 a refl in
    let rest : ends_from all ends (suc i) xs ≡ map (λ (a : DeclRef × Term). (a.0, f a.1)) xs = ends_same f all ends (suc i) xs (λ j b at. (let n : suc i + j ≡ i + suc j = omega arith in ap (λ n. ended all (get_or ends n None)) n ∙ h (suc j) b at)) in
    ap (λ (t : Term). (a.0, t) ∷ ends_from all ends (suc i) xs) first ∙ ap (λ l. (a.0, f a.1) ∷ l) rest

end_same : (path : List ℕ) (xs : List (DeclRef × Term)) (ends : List (Option ℕ)) → AreEnds (nexts path xs) ends → (j : ℕ) (a : DeclRef × Term) → slice_get xs j ≡ Some a → ended xs (get_or ends j None) ≡ end_of (length xs) xs path a.1
end_same path xs ends are j a at =
    ap (ended xs) (ends_are_counted.listed (nexts path xs) ends are j ∙ ap (λ n. counted_end n (nexts path xs) j) (as_many xs path)) ∙ ended_is xs path j a at

pub ends_are : (path : List ℕ) (xs : List (DeclRef × Term)) (next ends : List (Option ℕ)) → next ≡ nexts path xs → AreEnds next ends → ends_in xs ends ≡ alias_ends xs path
ends_are path xs next ends is are =
    let here : AreEnds (nexts path xs) ends = subst (λ (l : List (Option ℕ)). AreEnds l ends) is are in
    ends_same (λ t. end_of (length xs) xs path t) xs ends 0 xs (λ j a at. (let e : 0 + j ≡ j = omega arith in ap (λ n. ended xs (get_or ends n None)) e ∙ end_same path xs ends here j a at))

-- aliases that reach themselves

pub marked_step : (xs : List (DeclRef × Term)) (ms rest : List Bool) (ws more : List TypeEntry) (m : Bool) (w : TypeEntry) (old new all : List DeclRef)
    → ms ≡ m ∷ rest → ws ≡ w ∷ more → new ≡ old ++ marked_alias xs m (entry_shown w) → old ++ marked_aliases xs ms (map entry_shown ws) ≡ all
    → new ++ marked_aliases xs rest (map entry_shown more) ≡ all
marked_step xs ms rest ws more m w old new all e f added before =
    ap (λ l. l ++ marked_aliases xs rest (map entry_shown more)) added
    ∙ (append_assoc old (marked_alias xs m (entry_shown w)) (marked_aliases xs rest (map entry_shown more))
    ∙ (ap (λ l. old ++ marked_aliases xs l (entry_shown w ∷ map entry_shown more)) (sym e) ∙ (ap (λ l. old ++ marked_aliases xs ms (map entry_shown l)) (sym f) ∙ before)))

pub no_marks : (xs : List (DeclRef × Term)) (ms : List Bool) (ws : List Entry) (now all : List DeclRef) → ms ≡ [] → now ++ marked_aliases xs ms ws ≡ all → now ≡ all
no_marks xs ms ws now all e done = sym (append-nil now) ∙ (ap (λ l. now ++ marked_aliases xs l ws) (sym e) ∙ done)

none_marked : (xs : List (DeclRef × Term)) (ms : List Bool) → [] ≡ marked_aliases xs ms []
none_marked xs [] = refl
none_marked xs (m ∷ ms) = refl

pub no_entries : (xs : List (DeclRef × Term)) (ms : List Bool) (ws : List TypeEntry) (now all : List DeclRef) → ws ≡ [] → now ++ marked_aliases xs ms (map entry_shown ws) ≡ all → now ≡ all
no_entries xs ms ws now all e done =
    sym (append-nil now) ∙ (ap (λ l. now ++ l) (none_marked xs ms) ∙ (ap (λ (l : List TypeEntry). now ++ marked_aliases xs ms (map entry_shown l)) (sym e) ∙ done))

marks_same : (looped : DeclKey → Bool) (xs : List (DeclRef × Term)) (ws : List Entry) (ms : List Bool) → length ms ≡ length ws → ((j : ℕ) (w : Entry) → slice_get ws j ≡ Some w → get_or ms j false ≡ looped w.key)
    → marked_aliases xs ms ws ≡ looped_aliases looped xs ws
marks_same looped xs [] [] e h = refl
marks_same looped xs [] (m ∷ ms) e h = absurd (omega (arith, e))
marks_same looped xs (w ∷ ws) [] e h = absurd (omega (arith, e))
marks_same looped xs (w ∷ ws) (m ∷ ms) e h =
    let rest : marked_aliases xs ms ws ≡ looped_aliases looped xs ws = marks_same looped xs ws ms (omega (arith, e)) (λ j v at. h (suc j) v at) in
    let one : m ≡ looped w.key = h 0 w refl in
    ap (λ b. marked_alias xs b w ++ marked_aliases xs ms ws) one ∙ ap (λ l. looped_alias looped xs w ++ l) rest

bool_same : (b c : Bool) (P : Type 0) → (b ≡ true) ↔ P → (c ≡ true) ↔ P → b ≡ c
bool_same true true P h k = refl
bool_same true false P h k = (let no : false ≡ true = k.1 (h.0 refl) in absurd (cc))
bool_same false true P h k = (let no : false ≡ true = h.1 (k.0 refl) in absurd (cc))
bool_same false false P h k = refl

pub loops_are : (xs : List (DeclRef × Term)) (ws : List Entry) (ms : List Bool) (ds : List DeclRef) → length ms ≡ length ws → AreLoopedEntries ws ms → ds ≡ marked_aliases xs ms ws → AreLoopedAliases ws xs ds
loops_are xs ws ms ds len are is = (
  looped_key (keys_of ws) ms,
  looped_are ws ms are,
  is ∙ marks_same (looped_key (keys_of ws) ms) xs ws ms len (λ j w at. bool_same (get_or ms j false) (looped_key (keys_of ws) ms w.key) (IsLooped ws w.key) (are j w at) (looped_are ws ms are w.key)),
)

pub loops_made : (xs : List (DeclRef × Term)) (ws : List TypeEntry) (ms slice : List Bool) (ds : List DeclRef) → slice ≡ ms → length ms ≡ length ws → AreLoopedEntries (map entry_shown ws) ms
    → ds ≡ marked_aliases xs slice (map entry_shown ws) → AreLoopedAliases (map entry_shown ws) xs ds
loops_made xs ws ms slice ds same len are is = loops_are xs (map entry_shown ws) ms ds (len ∙ sym (length-map ws entry_shown)) are (is ∙ ap (λ l. marked_aliases xs l (map entry_shown ws)) same)
