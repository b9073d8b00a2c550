-- The types of a package as one.
use Rattle.std.proofs.Common.{◌≡◌, ℕ, zero, suc, ◌+◌, ◌<◌, ◌≤◌, ◌↔◌, Bool, true, false, List, [], ◌∷◌, ◌++◌, Option, Some, None, length, get_or, take, refl, sym, ap, ◌∙◌, subst, arith}
use Rattle.std.specs.Prelude.{slice_get, if◌then◌else◌, IsTrue}
use Rattle.std.proofs.lemmas.Option.{slice_get_within, get_or_from_slice_get}
use Rattle.std.proofs.lemmas.List.{append-nil, length-take-le, take_all, take_more}
use Rattle.go_term_core.specs.text_core.declared.rule.Rule.TheVariants as rules
use Rattle.go_term_core.specs.decl_core.declared.keys.DeclKey.{DeclKey}
use Rattle.go_term_core.specs.declared.settling.kind.Kind.{Kind}
use Rattle.go_term_core.specs.settling.Settled.{kind_of_term}
use Rattle.go_table_core.specs.Entries.{Entry, EntryLook}
use Rattle.go_table_core.specs.Tables.{AreOf, KeysRise, IsKeyBefore}
use Rattle.go_type_core.specs.declared.build.TypeFault.{TypeFault}
use Rattle.go_type_core.specs.Built.{AreLoopedEntries, IsLooped, kept_over, IsEntry, AreEntries, looped_faults, IsBuilt}
use Rattle.go_type_core.specs.mirrors.Numbers.{keys_of, number_of, IsTable}
use Rattle.go_type_core.specs.mirrors.Chained.{under_at, kind_at, known_kind}
use Rattle.go_type_core.specs.mirrors.Making.{marked_faults, entry_at, no_entry}
use Rattle.go_type_core.proofs.Keyed.{at_number, at_place, not_found, Apart}
use Rattle.go_type_core.proofs.Nothings.{looped_found}
use Rattle.go_type_core.proofs.Unders.{IsRooted, underlying_is, nothing_are, kinds_are, known_own, known_other}

-- marks and faults

abbrev marked : List Bool → Option ℕ → Bool
marked marks None = false
marked marks (Some i) = get_or marks i false

-- whether the type of a key is marked
abbrev pub looped_key : List DeclKey → List Bool → DeclKey → Bool
looped_key keys marks k = marked marks (number_of keys k)

looped_cases : (written : List Entry) (marks : List Bool) (k : DeclKey) (o : Option ℕ) → AreLoopedEntries written marks → number_of (keys_of written) k ≡ o → (marked marks o ≡ true) ↔ IsLooped written k
looped_cases written marks k None are n = (
  (λ yes. absurd (cc)),
  (λ loop. (let f = looped_found written k loop in let gone = not_found written k n in absurd (let both : None ≡ Some f.0 = sym gone ∙ f.1 in (cc)))),
)
looped_cases written marks k (Some i) are n =
    let at = at_number written k i n in
    let here = are i at.0 at.1.stands in
    ((λ yes. subst (IsLooped written) at.1.key (here.0 yes)), (λ loop. here.1 (subst (IsLooped written) (sym at.1.key) loop)))

pub looped_are : (written : List Entry) (marks : List Bool) → AreLoopedEntries written marks → (k : DeclKey) → IsTrue (looped_key (keys_of written) marks k) ↔ IsLooped written k
looped_are written marks are k = looped_cases written marks k (number_of (keys_of written) k) are refl

fault : ℕ → TypeFault
fault i = record { entry = i; rule = rules.Y1 }

-- the faults of marks are those of the types with these marks
pub faults_same : (looped : DeclKey → Bool) (i : ℕ) (ws : List Entry) (marks : List Bool) → length marks ≡ length ws → ((j : ℕ) (w : Entry) → slice_get ws j ≡ Some w → get_or marks j false ≡ looped w.key) → marked_faults i marks ≡ looped_faults looped i ws
faults_same looped i [] [] e h = refl
faults_same looped i [] (m ∷ ms) e h = absurd (omega (arith, e))
faults_same looped i (w ∷ ws) [] e h = absurd (omega (arith, e))
faults_same looped i (w ∷ ws) (m ∷ ms) e h =
    let rest : marked_faults (suc i) ms ≡ looped_faults looped (suc i) ws = faults_same looped (suc i) ws ms (omega (arith, e)) (λ j v at. h (suc j) v at) in
    let one : m ≡ looped w.key = h 0 w refl in
    let F : Bool → List TypeFault → List TypeFault = λ b fs. if b then record { entry = i; rule = rules.Y1 } ∷ fs else fs in
    ap (λ b. F b (marked_faults (suc i) ms)) one ∙ ap (F (looped w.key)) rest

pub faults_are : (written : List Entry) (marks : List Bool) → Apart written → length marks ≡ length written → marked_faults 0 marks ≡ looped_faults (looped_key (keys_of written) marks) 0 written
faults_are written marks apart e = faults_same (looped_key (keys_of written) marks) 0 written marks e (λ j w at. ap (marked marks) (sym (at_place written j w apart at).numbered))

-- one mark more
pub faults_more : (i n : ℕ) (ms : List Bool) (m : Bool) → i + length ms ≡ n → marked_faults i (ms ++ m ∷ []) ≡ marked_faults i ms ++ (if m then record { entry = n; rule = rules.Y1 } ∷ [] else [])
faults_more i n [] true e = (let same : i ≡ n = omega (arith, e) in ap (λ x. record { entry = x; rule = rules.Y1 } ∷ []) same)
faults_more i n [] false e = refl
faults_more i n (true ∷ ms) m e = ap (λ fs. record { entry = i; rule = rules.Y1 } ∷ fs) (faults_more (suc i) n ms m (omega (arith, e)))
faults_more i n (false ∷ ms) m e = faults_more (suc i) n ms m (omega (arith, e))

-- entries

-- entries by their numbers
are_entries : (written : List Entry) (far : EntryLook) (kind : DeclKey → Kind) (ws es : List Entry) → length es ≡ length ws → ((i : ℕ) (w e : Entry) → slice_get ws i ≡ Some w → slice_get es i ≡ Some e → IsEntry written far kind w e) → AreEntries written far kind ws es
are_entries written far kind [] [] n h = tt
are_entries written far kind [] (e ∷ es) n h = absurd (omega (arith, n))
are_entries written far kind (w ∷ ws) [] n h = absurd (omega (arith, n))
are_entries written far kind (w ∷ ws) (e ∷ es) n h = (h 0 w e refl refl, are_entries written far kind ws es (omega (arith, n)) (λ i v f at there. h (suc i) v f at there))

module _ (written : List Entry) (far : EntryLook) (looped nothing : List Bool) (next ends : List (Option ℕ)) (ks : List Kind)
    (r : IsRooted written far looped nothing next ends) (made : IsTable ks (length written) (kind_at far nothing written ends)) where
  abbrev the_kind : DeclKey → Kind
  the_kind = known_kind (keys_of written) ks far

  entry_is : (types : List Entry) → IsTable types (length written) (entry_at far the_kind nothing written ends) → (i : ℕ) (w e : Entry) → slice_get written i ≡ Some w → slice_get types i ≡ Some e → IsEntry written far the_kind w e
  entry_is types table i w e at there =
      let lt : i < length written = slice_get_within written i w at in
      let both : Some e ≡ Some (entry_at far the_kind nothing written ends i) = sym there ∙ table.each i lt in
      let is : entry_at far the_kind nothing written ends i ≡ e = cc in
      let at_w : get_or written i no_entry ≡ w = get_or_from_slice_get written i w no_entry at in
      subst (IsEntry written far the_kind w) is (record {
        key = ap (λ x. x.key) at_w;
        name = ap (λ x. x.name) at_w;
        term = underlying_is written far looped nothing next ends r the_kind i w at;
        methods = ap (λ x. kept_over (kind_of_term (under_at far the_kind nothing written ends i)) the_kind x.key.path (under_at far the_kind nothing written ends i) x.methods) at_w;
      })

  pub is_built : (types : List Entry) (faults : List TypeFault) → length looped ≡ length written → IsTable types (length written) (entry_at far the_kind nothing written ends) → faults ≡ marked_faults 0 looped → IsBuilt far written types faults
  is_built types faults count table is = record {
    kind = the_kind;
    kinds_are = kinds_are written far looped nothing next ends r the_kind (known_own written far nothing ends ks r.apart made) (known_other written far ks);
    nothing_is = nothing_are written far looped nothing next ends r the_kind (known_own written far nothing ends ks r.apart made) (known_other written far ks);
    entries = are_entries written far the_kind written types table.as_many (entry_is types table);
    looped = looped_key (keys_of written) looped;
    looped_are = looped_are written looped r.are;
    faults_are = is ∙ faults_are written looped r.apart count;
  }

-- the keys of the types are those that are written

are_of_each : (path : List ℕ) (ws : List Entry) → AreOf path ws → (i : ℕ) (w : Entry) → slice_get ws i ≡ Some w → w.key.path ≡ path
are_of_each path [] own i w at = absurd (cc)
are_of_each path (v ∷ ws) own zero w at = (let vw : v ≡ w = cc in ap (λ x. x.key.path) (sym vw) ∙ own.0)
are_of_each path (v ∷ ws) own (suc i) w at = are_of_each path ws own.1 i w at

abbrev SameKeys : List Entry → List Entry → Type 0
SameKeys ws es = (length es ≡ length ws) × ((i : ℕ) (w e : Entry) → slice_get ws i ≡ Some w → slice_get es i ≡ Some e → e.key ≡ w.key)

same_rest : (w e : Entry) (ws es : List Entry) → SameKeys (w ∷ ws) (e ∷ es) → SameKeys ws es
same_rest w e ws es h = (let n = h.0 in (omega (arith, n), (λ i v f at there. h.1 (suc i) v f at there)))

pub own_kept : (path : List ℕ) (ws es : List Entry) → SameKeys ws es → AreOf path ws → AreOf path es
own_kept path [] [] same own = tt
own_kept path [] (e ∷ es) same own = (let n = same.0 in absurd (omega (arith, n)))
own_kept path (w ∷ ws) [] same own = (let n = same.0 in absurd (omega (arith, n)))
own_kept path (w ∷ ws) (e ∷ es) same own = (ap (λ k. k.path) (same.1 0 w e refl refl) ∙ own.0, own_kept path ws es (same_rest w e ws es same) own.1)

pub rise_kept : (ws es : List Entry) → SameKeys ws es → KeysRise ws → KeysRise es
rise_kept [] [] same rise = tt
rise_kept [] (e ∷ es) same rise = (let n = same.0 in absurd (omega (arith, n)))
rise_kept (w ∷ ws) [] same rise = (let n = same.0 in absurd (omega (arith, n)))
rise_kept (w ∷ []) (e ∷ []) same rise = tt
rise_kept (w ∷ []) (e ∷ f ∷ es) same rise = (let n = same.0 in absurd (omega (arith, n)))
rise_kept (w ∷ v ∷ ws) (e ∷ []) same rise = (let n = same.0 in absurd (omega (arith, n)))
rise_kept (w ∷ v ∷ ws) (e ∷ f ∷ es) same rise =
    let one : e.key ≡ w.key = same.1 0 w e refl refl in
    let two : f.key ≡ v.key = same.1 1 v f refl refl in
    let here = subst (λ k. IsKeyBefore k v.key) (sym one) rise.0 in
    (subst (λ k. IsKeyBefore e.key k) (sym two) here, rise_kept (v ∷ ws) (f ∷ es) (same_rest w e (v ∷ ws) (f ∷ es) same) rise.1)

pub same_keys : (written types : List Entry) (far : EntryLook) (kind : DeclKey → Kind) (nothing : List Bool) (ends : List (Option ℕ)) → IsTable types (length written) (entry_at far kind nothing written ends) → SameKeys written types
same_keys written types far kind nothing ends table = (
  table.as_many,
  λ i w e at there.
      (let both : Some e ≡ Some (entry_at far kind nothing written ends i) = sym there ∙ table.each i (slice_get_within written i w at) in
      let is : e ≡ entry_at far kind nothing written ends i = cc in
      ap (λ x. x.key) is ∙ ap (λ x. x.key) (get_or_from_slice_get written i w no_entry at)),
)

-- faults that a loop finds

pub faults_step : (faults after : List TypeFault) (marks : List Bool) (n : ℕ) (d : Bool) → n < length marks → faults ≡ marked_faults 0 (take n marks) → after ≡ faults ++ (if get_or marks n d then record { entry = n; rule = rules.Y1 } ∷ [] else []) → after ≡ marked_faults 0 (take (n + 1) marks)
faults_step faults after marks n d lt h pushed =
    let count : length (take n marks) ≡ n = length-take-le n marks (omega (arith, lt)) in
    let more : marked_faults 0 (take (n + 1) marks) ≡ marked_faults 0 (take n marks) ++ (if get_or marks n d then record { entry = n; rule = rules.Y1 } ∷ [] else []) = ap (marked_faults 0) (take_more marks n d lt) ∙ faults_more 0 n (take n marks) (get_or marks n d) (omega (arith, count)) in
    pushed ∙ (ap (λ l. l ++ (if get_or marks n d then record { entry = n; rule = rules.Y1 } ∷ [] else [])) h ∙ sym more)

pub faults_all : (faults : List TypeFault) (marks : List Bool) (n : ℕ) → length marks ≤ n → faults ≡ marked_faults 0 (take n marks) → faults ≡ marked_faults 0 marks
faults_all faults marks n le h = h ∙ ap (marked_faults 0) (take_all n marks le)

pub faults_kept : (faults after : List TypeFault) (marks : List Bool) (n : ℕ) (d : Bool) → n < length marks → faults ≡ marked_faults 0 (take n marks) → get_or marks n d ≡ true → after ≡ faults ++ record { entry = n; rule = rules.Y1 } ∷ [] → after ≡ marked_faults 0 (take (n + 1) marks)
faults_kept faults after marks n d lt h mark pushed = faults_step faults after marks n d lt h (pushed ∙ ap (λ b. faults ++ (if b then record { entry = n; rule = rules.Y1 } ∷ [] else [])) (sym mark))

pub faults_left : (faults after : List TypeFault) (marks : List Bool) (n : ℕ) (d : Bool) → n < length marks → faults ≡ marked_faults 0 (take n marks) → get_or marks n d ≡ false → after ≡ faults → after ≡ marked_faults 0 (take (n + 1) marks)
faults_left faults after marks n d lt h mark same = faults_step faults after marks n d lt h (same ∙ (sym (append-nil faults) ∙ ap (λ b. faults ++ (if b then record { entry = n; rule = rules.Y1 } ∷ [] else [])) (sym mark)))
