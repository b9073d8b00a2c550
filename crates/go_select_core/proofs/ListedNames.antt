-- Identifiers in order: what is found of them, and what is listed.
use Rattle.std.proofs.Common.{◌≡◌, ℕ, ◌+◌, Bool, true, false, not, ◌&&◌, ◌||◌, List, [], ◌∷◌, ◌++◌, get_or, Option, Some, None, Contains, Less, refl, sym, ap, ◌∙◌, subst, arith, ◌⊎◌, inl, inr, if◌then◌else◌, cond}
use Rattle.std.specs.Prelude.{slice_get, Ok}
use Rattle.std.specs.declared.cmp.Ordering.{Ordering}
use Rattle.std.specs.declared.cmp.Ordering.TheVariants.{Equal, Greater}
use Rattle.std.specs.Ordering.{nat_cmp, is_eq, match_ordering}
use Rattle.std.specs.Cmp.Lexicographic.{slice_cmp}
use Rattle.std.specs.List.{AllByRecursion}
use Rattle.std.specs.List.Sorted.{IsStrictlySortedBy}
use Rattle.std.specs.Map.{lookup, keys_of}
use Rattle.std.specs.BTreeMap.{insert_entry}
use Rattle.std.specs.Str.{bytes_eq, chars}
use Rattle.std.proofs.lemmas.Bool.{true≢false, and_parts, and_from, not-true, or_cases, or_left, or_right}
use Rattle.std.proofs.lemmas.Slice.Eq.{bytes_eq-Decides}
use Rattle.std.proofs.lemmas.Map.Keys.{sorted_head, sorted_tail}
use Rattle.go_path_core.specs.text_core.Text.{exported, SameId, is_blank}
use Rattle.go_path_core.specs.text_core.declared.name.Name.{Name}
use Rattle.go_path_core.specs.text_core.declared.rule.Rule.{Rule}
use Rattle.go_path_core.specs.text_core.Each.{true_or_false}
use Rattle.go_term_core.specs.Terms.{Term}
use Rattle.go_term_core.proofs.Members.{In, Rises, contained_in, in_back, in_contained, in_either, in_front, pairs_rise, rising_pairs}
use Rattle.go_embed_core.specs.table_core.Entries.{EntryLook}
use Rattle.go_embed_core.specs.declared.member.Member as declared_member
use Rattle.go_embed_core.specs.Owners.{Found, AFieldOf, AMethodOf, AnInterfaces, TheErrorMethod}
use Rattle.go_embed_core.specs.OwnersShown.{found_shown, name_shown, member_package_shown}
use Rattle.go_select_core.specs.declared.levels.level.Reached.{Reached}
use Rattle.go_select_core.specs.declared.names.Known.{Known}
use Rattle.go_select_core.specs.declared.names.Known.TheVariants.{One, More}
use Rattle.go_select_core.specs.declared.levels.search.Selected.{Selected}
use Rattle.go_select_core.specs.levels.Paths.{IsSelected}
use Rattle.go_select_core.specs.levels.Selectors.{Refused, FieldsIn, searched, IsFieldFound, IsSelectedAs, IsFoundSelected, IsFoundAs, IsSelectorAnswer}
use Rattle.go_select_core.specs.levels.Selectors as searches
use Rattle.go_select_core.specs.Selections.{IsIdBefore, IsSelectedBefore, AreSelections, IsListing}
use Rattle.go_select_core.specs.mirrors.Names.{Identifier, identifier_of, identifier_in, Key, key_shown, key_cmp, same_identifier, names_shown, known_of, IsKnown, AreKnown}
use Rattle.go_select_core.specs.mirrors.Listings.{IsWithin, AreWithin, AreListed, is_field_found, selected_at, listed_if, entry_listed, listed_of, IsShown, AreSelectionsIn, is_seen, named_if, seen_of}
use Rattle.go_select_core.proofs.Identifiers.{identifiers_same, same_identifiers, same_swap, identifier_same, same_identifier_of, keys_tie, keys_apart, key_before, names_below}
use Rattle.go_select_core.proofs.LevelsListLemmas.{at_in, at_within}
use Rattle.go_select_core.proofs.Meanings.{selected_same}

abbrev pub KeyedNames : Type 0
KeyedNames = List (Key × Known)

-- 1. A map of identifiers.

-- what a map finds by the order of its keys
pub found_by : (es : KeyedNames) (q : Key) → lookup (λ (k : Key). is_eq (key_cmp q k)) es ≡ known_of (names_shown es) (key_shown q)
found_by [] q = refl
found_by (e ∷ es) q = ap (λ r. cond (is_eq (key_cmp q e.0)) (Some e.1) r) (found_by es q) ∙ ap (λ b. cond b (Some e.1) (known_of (names_shown es) (key_shown q))) (sym (keys_tie q e.0))

module _ (k : Key) (v : Known) (q : Identifier) where
  -- before the first key
  put_first : (es : KeyedNames) → known_of (names_shown ((k, v) ∷ es)) q ≡ (if same_identifier (key_shown k) q then Some v else known_of (names_shown es) q)
  put_first es = ap (λ b. cond b (Some v) (known_of (names_shown es) q)) (same_swap q (key_shown k))

  -- in the place of the same identifier
  put_there : (e : Key × Known) (es : KeyedNames) → key_shown k ≡ key_shown e.0 → known_of (names_shown ((e.0, v) ∷ es)) q ≡ (if same_identifier (key_shown k) q then Some v else known_of (names_shown (e ∷ es)) q)
  put_there e es same = by (same_identifier q (key_shown e.0)) (same_identifier (key_shown k) q) (same_swap (key_shown k) q ∙ ap (same_identifier q) same)
    where
      by : (a b : Bool) → b ≡ a → cond a (Some v) (known_of (names_shown es) q) ≡ (if b then Some v else cond a (Some e.1) (known_of (names_shown es) q))
      by true true h = refl
      by false false h = refl
      by true false h = absurd (true≢false (sym h))
      by false true h = absurd (true≢false h)

  -- further on
  put_behind : (e : Key × Known) (es es' : KeyedNames) → same_identifier (key_shown k) (key_shown e.0) ≡ false → known_of (names_shown es') q ≡ (if same_identifier (key_shown k) q then Some v else known_of (names_shown es) q)
      → known_of (names_shown (e ∷ es')) q ≡ (if same_identifier (key_shown k) q then Some v else known_of (names_shown (e ∷ es)) q)
  put_behind e es es' off rest = by (true_or_false (same_identifier q (key_shown e.0)))
    where
      by : (same_identifier q (key_shown e.0) ≡ true) ⊎ (same_identifier q (key_shown e.0) ≡ false)
          → known_of (names_shown (e ∷ es')) q ≡ (if same_identifier (key_shown k) q then Some v else known_of (names_shown (e ∷ es)) q)
      by (inl h) =
          let same : q ≡ key_shown e.0 = identifiers_same q (key_shown e.0) h in
          let other : same_identifier (key_shown k) q ≡ false = ap (same_identifier (key_shown k)) same ∙ off in
          ap (λ b. cond b (Some e.1) (known_of (names_shown es') q)) h
          ∙ sym (ap (λ b. if b then Some v else cond (same_identifier q (key_shown e.0)) (Some e.1) (known_of (names_shown es) q)) other ∙ ap (λ b. cond b (Some e.1) (known_of (names_shown es) q)) h)
      by (inr h) =
          ap (λ b. cond b (Some e.1) (known_of (names_shown es') q)) h
          ∙ (rest ∙ ap (λ r. if same_identifier (key_shown k) q then Some v else r) (sym (ap (λ b. cond b (Some e.1) (known_of (names_shown es) q)) h)))

-- an identifier that is put is found, and what is found of others stays
pub found_put : (es : KeyedNames) (k : Key) (v : Known) (q : Identifier) → known_of (names_shown (insert_entry key_cmp es k v)) q ≡ (if same_identifier (key_shown k) q then Some v else known_of (names_shown es) q)
found_put [] k v q = put_first k v q []
found_put (e ∷ es) k v q = by (found_put es k v q) (key_cmp k e.0) refl
  where
    by : known_of (names_shown (insert_entry key_cmp es k v)) q ≡ (if same_identifier (key_shown k) q then Some v else known_of (names_shown es) q) → (o : Ordering) → key_cmp k e.0 ≡ o
        → known_of (names_shown (match_ordering o ((k, v) ∷ e ∷ es) ((e.0, v) ∷ es) (e ∷ insert_entry key_cmp es k v))) q ≡ (if same_identifier (key_shown k) q then Some v else known_of (names_shown (e ∷ es)) q)
    by rest Less h = put_first k v q (e ∷ es)
    by rest Equal h = put_there k v q e es (identifiers_same (key_shown k) (key_shown e.0) (keys_tie k e.0 ∙ ap is_eq h))
    by rest Greater h = put_behind k v q e es (insert_entry key_cmp es k v) (keys_apart k e.0 Greater h refl) rest

-- 2. What a map in order finds of its own keys.

below_all : (x : Key) (es : KeyedNames) → AllByRecursion (λ y. key_cmp x y ≡ Less) (keys_of es) → (e : Key × Known) → In es e → key_cmp x e.0 ≡ Less
below_all x [] h e m = absurd m
below_all x (d ∷ es) h e (inl same) = subst (λ (p : Key × Known). key_cmp x p.0 ≡ Less) same h.0
below_all x (d ∷ es) h e (inr m) = below_all x es h.1 e m

pub found_own : (es : KeyedNames) → IsStrictlySortedBy key_cmp (keys_of es) → (e : Key × Known) → In es e → known_of (names_shown es) (key_shown e.0) ≡ Some e.1
found_own [] sorted e m = absurd m
found_own (d ∷ es) sorted e (inl same) =
    subst (λ (p : Key × Known). cond (same_identifier (key_shown p.0) (key_shown d.0)) (Some d.1) (known_of (names_shown es) (key_shown p.0)) ≡ Some p.1) same
    (ap (λ b. cond b (Some d.1) (known_of (names_shown es) (key_shown d.0))) (same_identifiers (key_shown d.0) (key_shown d.0) refl))
found_own (d ∷ es) sorted e (inr m) =
    let less = below_all d.0 es (sorted_head key_cmp d.0 (keys_of es) sorted) e m in
    let off : same_identifier (key_shown e.0) (key_shown d.0) ≡ false = same_swap (key_shown e.0) (key_shown d.0) ∙ keys_apart d.0 e.0 Less less refl in
    ap (λ b. cond b (Some d.1) (known_of (names_shown es) (key_shown e.0))) off ∙ found_own es (sorted_tail key_cmp d.0 (keys_of es) sorted) e m

-- an identifier that is found is a key's
pub found_in : (es : KeyedNames) (q : Identifier) (v : Known) → known_of (names_shown es) q ≡ Some v → (e : Key × Known) × In es e × (key_shown e.0 ≡ q) × (e.1 ≡ v)
found_in [] q v h = cc
found_in (d ∷ es) q v h = by (found_in es q v) (true_or_false (same_identifier q (key_shown d.0)))
  where
    by : (known_of (names_shown es) q ≡ Some v → (e : Key × Known) × In es e × (key_shown e.0 ≡ q) × (e.1 ≡ v)) → (same_identifier q (key_shown d.0) ≡ true) ⊎ (same_identifier q (key_shown d.0) ≡ false)
        → (e : Key × Known) × In (d ∷ es) e × (key_shown e.0 ≡ q) × (e.1 ≡ v)
    by rest (inl t) =
        let s : Some d.1 ≡ Some v = sym (ap (λ b. cond b (Some d.1) (known_of (names_shown es) q)) t) ∙ h in
        (d, inl refl, sym (identifiers_same q (key_shown d.0) t), cc)
    by rest (inr f) =
        let r = rest (sym (ap (λ b. cond b (Some d.1) (known_of (names_shown es) q)) f) ∙ h) in
        (r.0, inr r.1, r.2, r.3)

-- 3. What is listed of one identifier.

field_found : (f : Found) → is_field_found f ≡ true → IsFieldFound f
field_found (AFieldOf path place t) h = tt
field_found (AMethodOf path place pointer g) h = true≢false (sym h)
field_found (AnInterfaces path place g) h = true≢false (sym h)
field_found TheErrorMethod h = true≢false (sym h)

found_field : (f : Found) → IsFieldFound f → is_field_found f ≡ true
found_field (AFieldOf path place t) h = refl
found_field (AMethodOf path place pointer g) h = absurd h
found_field (AnInterfaces path place g) h = absurd h
found_field TheErrorMethod h = absurd h

shown_found : (b : Bool) (f : Found) → b || is_field_found f ≡ true → IsShown b f
shown_found true f h = tt
shown_found false f h = field_found f h

found_shown_so : (b : Bool) (f : Found) → IsShown b f → b || is_field_found f ≡ true
found_shown_so true f h = refl
found_shown_so false f h = found_field f h

-- an item that is listed, with the reason
listed_item : (b : Bool) (item : List Selected) (s : Selected) → In (listed_if b item) s → (b ≡ true) × In item s
listed_item true item s h = (refl, h)
listed_item false item s h = absurd h

-- the member that is listed is the one that is known
pub entry_member : (paths : List (List ℕ)) (types : List Reached) (by_pointer methods : Bool) (known : Known) (s : Selected) → In (entry_listed paths types by_pointer methods known) s → (n : ℕ) × (known ≡ One n s.member)
entry_member paths types by_pointer methods More s h = absurd h
entry_member paths types by_pointer methods (One i m) s h =
    of (slice_get types i) (listed_item (not (is_blank (name_shown m)) && (methods || is_field_found (found_shown m))) (selected_at (get_or paths i []) by_pointer m (slice_get types i)) s h).1
  where
    of : (r : Option Reached) → In (selected_at (get_or paths i []) by_pointer m r) s → (n : ℕ) × (One i m ≡ One n s.member)
    of None h = absurd h
    of (Some r) (inl e) = (i, ap (λ (q : Selected). One i q.member) e)
    of (Some r) (inr e) = absurd e

module _ (look : EntryLook) (t : Term) (name from : List ℕ) (paths : List (List ℕ)) (types : List Reached) (by_pointer methods : Bool) where
  -- what is listed of a name is what it denotes
  pub entry_sound : (i : ℕ) (m : declared_member.Member) (s : Selected) → name_shown m ≡ name → IsKnown look t name from paths types (Some (One i m)) → In (entry_listed paths types by_pointer methods (One i m)) s
      → (is_blank name ≡ false) × IsSelectedAs look t by_pointer name from s × IsShown methods (found_shown s.member)
  entry_sound i m s named h listed =
      let l = listed_item (not (is_blank (name_shown m)) && (methods || is_field_found (found_shown m))) (selected_at (get_or paths i []) by_pointer m (slice_get types i)) s listed in
      let b = and_parts (not (is_blank (name_shown m))) (methods || is_field_found (found_shown m)) l.0 in
      let item : Selected = record { member = m; path = get_or paths i []; through_pointer = by_pointer || h.0.pointer } in
      let at : In (item ∷ []) s = subst (λ r. In (selected_at (get_or paths i []) by_pointer m r) s) h.1 l.1 in
      subst (λ (q : Selected). (is_blank name ≡ false) × IsSelectedAs look t by_pointer name from q × IsShown methods (found_shown q.member)) (elim at [ inl e ↦ e | inr e ↦ absurd e ])
      (sym (ap is_blank named) ∙ not-true (is_blank (name_shown m)) b.0, (h.0.pointer, h.2, refl), shown_found methods (found_shown m) b.1)

  -- and what it denotes is listed
  pub entry_whole : (known : Known) (path : List ℕ) (pointer : Bool) (f : Found) → ((n : ℕ) (m : declared_member.Member) → known ≡ One n m → name_shown m ≡ name) → IsKnown look t name from paths types (Some known) → is_blank name ≡ false
      → IsSelected look t name from path pointer f → IsShown methods f → (s : Selected) × In (entry_listed paths types by_pointer methods known) s
  entry_whole More path pointer f named h blank sel shown = absurd (h path pointer f sel)
  entry_whole (One i m) path pointer f named h blank sel shown =
      let item : Selected = record { member = m; path = get_or paths i []; through_pointer = by_pointer || h.0.pointer } in
      let same : f ≡ found_shown m = (selected_same look t name from path (get_or paths i []) pointer h.0.pointer f (found_shown m) sel h.2).2 in
      let on : not (is_blank (name_shown m)) && (methods || is_field_found (found_shown m)) ≡ true =
      and_from (not (is_blank (name_shown m))) (methods || is_field_found (found_shown m)) (ap not (ap is_blank (named i m refl) ∙ blank)) (found_shown_so methods (found_shown m) (subst (IsShown methods) same shown)) in
      (item, subst (λ b. In (listed_if b (selected_at (get_or paths i []) by_pointer m (slice_get types i))) item) (sym on) (subst (λ r. In (selected_at (get_or paths i []) by_pointer m r) item) (sym h.1) (inl refl)))

-- 4. The whole list.

module _ (paths : List (List ℕ)) (types : List Reached) (by_pointer methods : Bool) where
  -- what is listed is listed of one of the keys
  listed_from : (es : KeyedNames) (s : Selected) → In (listed_of paths types by_pointer methods (names_shown es)) s → (e : Key × Known) × In es e × In (entry_listed paths types by_pointer methods e.1) s
  listed_from [] s h = absurd h
  listed_from (d ∷ es) s h =
      elim (in_either (entry_listed paths types by_pointer methods d.1) (listed_of paths types by_pointer methods (names_shown es)) s h) [
        | inl a ↦ (d, inl refl, a)
        | inr b ↦ let r = listed_from es s b in (r.0, inr r.1, r.2)
      ]

  listed_to : (es : KeyedNames) (e : Key × Known) (s : Selected) → In es e → In (entry_listed paths types by_pointer methods e.1) s → In (listed_of paths types by_pointer methods (names_shown es)) s
  listed_to [] e s m h = absurd m
  listed_to (d ∷ es) e s (inl same) h =
      in_front (entry_listed paths types by_pointer methods d.1) (listed_of paths types by_pointer methods (names_shown es)) s (subst (λ (p : Key × Known). In (entry_listed paths types by_pointer methods p.1) s) (sym same) h)
  listed_to (d ∷ es) e s (inr m) h = in_back (entry_listed paths types by_pointer methods d.1) (listed_of paths types by_pointer methods (names_shown es)) s (listed_to es e s m h)

  -- the entries are of members that have their identifiers
  abbrev Named : KeyedNames → Type 0
  Named es = (e : Key × Known) (n : ℕ) (m : declared_member.Member) → In es e → e.1 ≡ One n m → identifier_in m ≡ key_shown e.0

  rising_more : (b : Bool) (path : List ℕ) (m : declared_member.Member) (r : Option Reached) (rest : List Selected)
      → ((o : Selected) → In rest o → IsIdBefore (name_shown m) (member_package_shown m) (name_shown o.member) (member_package_shown o.member)) → Rises IsSelectedBefore rest → Rises IsSelectedBefore (listed_if b (selected_at path by_pointer m r) ++ rest)
  rising_more false path m r rest below h = h
  rising_more true path m None rest below h = h
  rising_more true path m (Some r) rest below h = (below, h)

  rising_entry : (known : Known) (rest : List Selected) → ((n : ℕ) (m : declared_member.Member) → known ≡ One n m → (o : Selected) → In rest o → IsIdBefore (name_shown m) (member_package_shown m) (name_shown o.member) (member_package_shown o.member))
      → Rises IsSelectedBefore rest → Rises IsSelectedBefore (entry_listed paths types by_pointer methods known ++ rest)
  rising_entry More rest below h = h
  rising_entry (One i m) rest below h = rising_more (not (is_blank (name_shown m)) && (methods || is_field_found (found_shown m))) (get_or paths i []) m (slice_get types i) rest (below i m refl) h

  rising_list : (es : KeyedNames) → IsStrictlySortedBy key_cmp (keys_of es) → Named es → Rises IsSelectedBefore (listed_of paths types by_pointer methods (names_shown es))
  rising_list [] sorted named = tt
  rising_list (d ∷ es) sorted named =
      rising_entry d.1 (listed_of paths types by_pointer methods (names_shown es))
      (λ n m is o there.
      let f = listed_from es o there in
      let k = entry_member paths types by_pointer methods f.0.1 o f.2 in
      let less = below_all d.0 es (sorted_head key_cmp d.0 (keys_of es) sorted) f.0 f.1 in
      key_before d.0 f.0.0 (name_shown m) (member_package_shown m) (name_shown o.member) (member_package_shown o.member) (sym (named d n m (inl refl) is)) (sym (named f.0 k.0 o.member (inr f.1) k.1)) less)
      (rising_list es (sorted_tail key_cmp d.0 (keys_of es) sorted) (λ e n m there is. named e n m (inr there) is))

module _ (look : EntryLook) (t : Term) (paths : List (List ℕ)) (types : List Reached) (by_pointer methods : Bool) (es : KeyedNames) (found : List Selected) (known : AreKnown look t paths types (names_shown es))
    (listed : AreListed paths types by_pointer methods es found) where
  abbrev all : List Selected
  all = listed_of paths types by_pointer methods (names_shown es)

  named : (e : Key × Known) (n : ℕ) (m : declared_member.Member) → In es e → e.1 ≡ One n m → identifier_in m ≡ key_shown e.0
  named e n m there is = known.named (key_shown e.0) n m (found_own es listed.ordered e there ∙ ap (λ k. Some k) is)

  seen : (s : Selected) → In all s → (name from : List ℕ) → SameId (name_shown s.member) (member_package_shown s.member) name from
      → (is_blank name ≡ false) × IsSelectedAs look t by_pointer name from s × IsShown methods (found_shown s.member)
  seen s there name from same =
      let f = listed_from paths types by_pointer methods es s there in
      let k = entry_member paths types by_pointer methods f.0.1 s f.2 in
      let id : key_shown f.0.0 ≡ identifier_of name from = sym (named f.0 k.0 s.member f.1 k.1) ∙ same_identifier_of (name_shown s.member) (member_package_shown s.member) name from same in
      let r : known_of (names_shown es) (identifier_of name from) ≡ Some (One k.0 s.member) = sym (ap (known_of (names_shown es)) id) ∙ (found_own es listed.ordered f.0 f.1 ∙ ap (λ q. Some q) k.1) in
      entry_sound look t name from paths types by_pointer methods k.0 s.member s same.0 (subst (IsKnown look t name from paths types) r (known.each name from)) (subst (λ q. In (entry_listed paths types by_pointer methods q) s) k.1 f.2)

  whole : (name from path : List ℕ) (pointer : Bool) (f : Found) → is_blank name ≡ false → IsSelected look t name from path pointer f → IsShown methods f → (r : Option Known) → known_of (names_shown es) (identifier_of name from) ≡ r
      → (s : Selected) × Contains all s × SameId (name_shown s.member) (member_package_shown s.member) name from
  whole name from path pointer f blank sel shown None e = absurd (let h : IsKnown look t name from paths types None = subst (IsKnown look t name from paths types) e (known.each name from) in h path pointer f sel)
  whole name from path pointer f blank sel shown (Some v) e =
      let g = found_in es (identifier_of name from) v e in
      let h : IsKnown look t name from paths types (Some v) = subst (IsKnown look t name from paths types) e (known.each name from) in
      let id : (n : ℕ) (m : declared_member.Member) → v ≡ One n m → SameId (name_shown m) (member_package_shown m) name from =
      λ n m is. identifier_same (name_shown m) (member_package_shown m) name from (known.named (identifier_of name from) n m (e ∙ ap (λ k. Some k) is)) in
      let n = entry_whole look t name from paths types by_pointer methods v path pointer f (λ n m is. (id n m is).0) h blank sel shown in
      let k = entry_member paths types by_pointer methods v n.0 n.1 in
      (n.0, contained_in all n.0 (listed_to paths types by_pointer methods es g.0 n.0 g.1 (subst (λ q. In (entry_listed paths types by_pointer methods q) n.0) (sym g.3) n.1)), id k.0 n.0.member k.1)

  -- what is listed of identifiers that are known, in order
  pub listing_in : AreSelectionsIn look t by_pointer methods found
  listing_in =
      subst (AreSelectionsIn look t by_pointer methods) (sym listed.is) (record {
        rising = rising_pairs IsSelectedBefore all (rising_list paths types by_pointer methods es listed.ordered named);
        seen = λ s c name from same. seen s (in_contained all s c) name from same;
        whole = λ name from path pointer f blank sel shown. whole name from path pointer f blank sel shown (known_of (names_shown es) (identifier_of name from)) refl;
      })

-- 5. The loop over the map.

within_known : (look : EntryLook) (t : Term) (name from : List ℕ) (paths : List (List ℕ)) (types : List Reached) (known : Known) → IsKnown look t name from paths types (Some known) → IsWithin types known
within_known look t name from paths types (One n m) h = at_within types n h.0 h.1
within_known look t name from paths types More h = tt

pub are_within : (look : EntryLook) (t : Term) (paths : List (List ℕ)) (types : List Reached) (ns : List (Identifier × Known)) → AreKnown look t paths types ns → AreWithin types ns
are_within look t paths types ns known id (One n m) e =
    let r : known_of ns (identifier_in m) ≡ Some (One n m) = ap (known_of ns) (known.named id n m e) ∙ e in
    within_known look t (name_shown m) (member_package_shown m) paths types (One n m) (subst (IsKnown look t (name_shown m) (member_package_shown m) paths types) r (known.each (name_shown m) (member_package_shown m)))
are_within look t paths types ns known id More e = tt

-- the entry at a place of a map in order
pub entry_within : (types : List Reached) (es : KeyedNames) (i : ℕ) (e : Key × Known) → IsStrictlySortedBy key_cmp (keys_of es) → AreWithin types (names_shown es) → slice_get es i ≡ Some e → IsWithin types e.1
entry_within types es i e sorted within at = within (key_shown e.0) e.1 (found_own es sorted e (at_in es i e at))

-- 6. Behind an operand.

pub selections_in_type : (look : EntryLook) (t u : Term) (b : Bool) (found : List Selected) → searches.In u b ≡ searched look t → AreSelectionsIn look u b true found → AreSelections look t found
selections_in_type look t u b found is l =
    record {
      rising = l.rising;
      sound = λ s c. answer s c (name_shown s.member) (member_package_shown s.member) (refl, inr refl);
      seen = answer;
      whole = λ name from path passes f d. let g : IsFoundAs look (searches.In u b) name from path passes f = subst (λ w. IsFoundAs look w name from path passes f) (sym is) d.1 in l.whole name from path g.0 f d.0 g.1 tt;
    }
  where
    answer : (s : Selected) → Contains found s → (name from : List ℕ) → SameId (name_shown s.member) (member_package_shown s.member) name from → IsSelectorAnswer look t name from (Ok s)
    answer s c name from same = let h = l.seen s c name from same in (h.0, subst (λ w. IsFoundSelected look w name from s) is h.1)

-- where methods are left out
pub selections_of_fields : (look : EntryLook) (t u : Term) (found : List Selected) → FieldsIn u ≡ searched look t → AreSelectionsIn look u true false found → AreSelections look t found
selections_of_fields look t u found is l =
    record {
      rising = l.rising;
      sound = λ s c. answer s c (name_shown s.member) (member_package_shown s.member) (refl, inr refl);
      seen = answer;
      whole = λ name from path passes f d. let g : IsFoundAs look (FieldsIn u) name from path passes f = subst (λ w. IsFoundAs look w name from path passes f) (sym is) d.1 in l.whole name from path g.0.0 f d.0 g.0.1 g.1;
    }
  where
    answer : (s : Selected) → Contains found s → (name from : List ℕ) → SameId (name_shown s.member) (member_package_shown s.member) name from → IsSelectorAnswer look t name from (Ok s)
    answer s c name from same = let h = l.seen s c name from same in (h.0, subst (λ w. IsFoundSelected look w name from s) is (h.1, h.2))

-- where the operand is refused
pub selections_of_none : (look : EntryLook) (t : Term) (rule : Rule) (found : List Selected) → Refused rule ≡ searched look t → found ≡ [] → AreSelections look t found
selections_of_none look t rule found is none =
    subst (AreSelections look t) (sym none) (record {
      rising = λ i j d less l. absurd (omega (arith, l));
      sound = λ s c. absurd (omega (arith, c.1));
      seen = λ s c name from same. absurd (omega (arith, c.1));
      whole = λ name from path passes f d. absurd (let g : IsFoundAs look (Refused rule) name from path passes f = subst (λ w. IsFoundAs look w name from path passes f) (sym is) d.1 in g);
    })

-- 7. The names that are seen in a package.

module _ (from : List ℕ) where
  is_seen_so : (s : Selected) → is_seen from s ≡ true → SameId (name_shown s.member) (member_package_shown s.member) (name_shown s.member) from
  is_seen_so s h = (refl, elim (or_cases (exported (chars (name_shown s.member))) (bytes_eq (member_package_shown s.member) from) h) [ inl e ↦ inl e | inr e ↦ inr ((bytes_eq-Decides (member_package_shown s.member) from).0 e) ])

  so_is_seen : (s : Selected) (name : List ℕ) → SameId (name_shown s.member) (member_package_shown s.member) name from → is_seen from s ≡ true
  so_is_seen s name h =
      elim h.1 [
        | inl e ↦ or_left (exported (chars (name_shown s.member))) (bytes_eq (member_package_shown s.member) from) e
        | inr e ↦ or_right (exported (chars (name_shown s.member))) (bytes_eq (member_package_shown s.member) from) ((bytes_eq-Decides (member_package_shown s.member) from).1 e)
      ]

  named_item : (b : Bool) (s : Selected) (n : Name × Selected) → In (named_if b s) n → (b ≡ true) × ((name_shown s.member, s) ≡ n)
  named_item true s n (inl e) = (refl, e)
  named_item true s n (inr e) = absurd e
  named_item false s n h = absurd h

  -- what is listed is selected, and it is seen
  seen_back : (found : List Selected) (n : Name × Selected) → In (seen_of from found) n → In found n.1 × (name_shown n.1.member ≡ n.0) × (is_seen from n.1 ≡ true)
  seen_back [] n h = absurd h
  seen_back (s ∷ ss) n h =
      elim (in_either (named_if (is_seen from s) s) (seen_of from ss) n h) [
        | inl a ↦
            let i = named_item (is_seen from s) s n a in
            subst (λ (m : Name × Selected). In (s ∷ ss) m.1 × (name_shown m.1.member ≡ m.0) × (is_seen from m.1 ≡ true)) i.1 (inl refl, refl, i.0)
        | inr b ↦ let r = seen_back ss n b in (inr r.0, r.1, r.2)
      ]

  seen_there : (found : List Selected) (s : Selected) → In found s → is_seen from s ≡ true → In (seen_of from found) (name_shown s.member, s)
  seen_there [] s m h = absurd m
  seen_there (d ∷ ss) s (inl e) h =
      in_front (named_if (is_seen from d) d) (seen_of from ss) (name_shown s.member, s)
      (subst (λ (q : Selected). In (named_if (is_seen from q) q) (name_shown s.member, s)) (sym e) (subst (λ b. In (named_if b s) (name_shown s.member, s)) (sym h) (inl refl)))
  seen_there (d ∷ ss) s (inr m) h = in_back (named_if (is_seen from d) d) (seen_of from ss) (name_shown s.member, s) (seen_there ss s m h)

  abbrev Below : Name × Selected → Name × Selected → Type 0
  Below a b = slice_cmp nat_cmp a.0 b.0 ≡ Less

  below_more : (b : Bool) (s : Selected) (rest : List (Name × Selected)) → (b ≡ true → (o : Name × Selected) → In rest o → Below (name_shown s.member, s) o) → Rises Below rest → Rises Below (named_if b s ++ rest)
  below_more true s rest below h = (below refl, h)
  below_more false s rest below h = h

  rising_seen : (found : List Selected) → Rises IsSelectedBefore found → Rises Below (seen_of from found)
  rising_seen [] h = tt
  rising_seen (s ∷ ss) h =
      below_more (is_seen from s) s (seen_of from ss)
      (λ on o m.
      let r = seen_back ss o m in
      subst (λ q. slice_cmp nat_cmp (name_shown s.member) q ≡ Less) r.1
      (names_below (name_shown s.member) (member_package_shown s.member) (name_shown o.1.member) (member_package_shown o.1.member) from (h.0 o.1 r.0) (is_seen_so s on) (is_seen_so o.1 r.2)))
      (rising_seen ss h.1)

pub listing_from : (look : EntryLook) (t : Term) (from : List ℕ) (found : List Selected) (names : List (Name × Selected)) → AreSelections look t found → names ≡ seen_of from found → IsListing look t from names
listing_from look t from found names l is =
    subst (IsListing look t from) (sym is) (record {
      rising = rising_pairs (λ (a b : Name × Selected). slice_cmp nat_cmp a.0 b.0 ≡ Less) (seen_of from found) (rising_seen from found (pairs_rise IsSelectedBefore found l.rising));
      sound = λ n c.
          let r = seen_back from found n (in_contained (seen_of from found) n c) in
          let v = is_seen_so from n.1 r.2 in
          subst (λ q. IsSelectorAnswer look t q from (Ok n.1)) r.1 (l.seen n.1 (contained_in found n.1 r.0) (name_shown n.1.member) from v);
      whole = λ name path passes f d.
          let s = l.whole name from path passes f d in
          let there = seen_there from found s.0 (in_contained found s.0 s.1) (so_is_seen from s.0 name s.2) in
          ((name_shown s.0.member, s.0), contained_in (seen_of from found) (name_shown s.0.member, s.0) there, s.2.0);
    })
