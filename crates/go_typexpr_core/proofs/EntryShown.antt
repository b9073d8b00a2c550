-- Tables of what packages show.
use Rattle.std.proofs.Common.{◌≡◌, ℕ, suc, ◌+◌, ◌<◌, Bool, true, false, List, [], ◌∷◌, ◌++◌, map, length, get_or, set, Option, Some, None, cond, refl, sym, ap, ◌∙◌, arith}
use Rattle.std.specs.Prelude.{if◌then◌else◌}
use Rattle.std.specs.Str.{bytes_eq, chars}
use Rattle.std.specs.List.{position_from}
use Rattle.std.proofs.lemmas.Bool.{true≢false, false_from_ne_true}
use Rattle.std.proofs.lemmas.Slice.Eq.{bytes_eq-Decides}
use Rattle.std.proofs.lemmas.List.{map-append, length-map}
use Rattle.go_path_core.specs.text_core.Text.{exported}
use Rattle.go_graph_core.specs.collections_core.NameTableNamed.{value_at}
use Rattle.go_term_core.specs.decl_core.declared.keys.DeclRef.{DeclRef}
use Rattle.go_scope_core.specs.block_core.Blocks.{exports_of}
use Rattle.go_scope_core.specs.block_core.Exports.{ExportsModel, exports_model, exported_names}
use Rattle.go_scope_core.specs.block_core.Tables.{in_block}
use Rattle.go_typexpr_core.specs.entry.Showing.{names_shown, shown_in, with_shown, ShowsItsBlock, KeepsOthers}
use Rattle.go_typexpr_core.specs.entry.mirrors.Indexing.{AreNumbered, number_of, numbered}

-- equal texts

pub same_text : (a b : List ℕ) → bytes_eq a b ≡ true → a ≡ b
same_text a b h = (bytes_eq-Decides a b).0 h

text_same : (a b : List ℕ) → a ≡ b → bytes_eq a b ≡ true
text_same a b h = (bytes_eq-Decides a b).1 h

text_apart : (a b : List ℕ) → (a ≡ b → ⊥) → bytes_eq a b ≡ false
text_apart a b h = false_from_ne_true (bytes_eq a b) (λ yes. h (same_text a b yes))

text_turned : (a b : List ℕ) → bytes_eq a b ≡ bytes_eq b a
text_turned a b = by (bytes_eq a b) refl
  where
    by : (c : Bool) → bytes_eq a b ≡ c → c ≡ bytes_eq b a
    by true h = sym (text_same b a (sym (same_text a b h)))
    by false h = sym (text_apart b a (λ same. true≢false (sym (text_same a b (sym same)) ∙ h)))

-- the package of a path by its number

abbrev paths_of : List ExportsModel → List (List ℕ)
paths_of ps = map (λ p. p.path) ps

record Found (ps : List ExportsModel) (path : List ℕ) (k n : ℕ) (d : ExportsModel) : Type 0 where
  pub place : ℕ
  pub is : n ≡ k + place
  pub within : place < length ps
  pub names : names_shown ps path ≡ (get_or ps place d).names
  pub put : (x : ExportsModel) → path ≡ x.path → with_shown ps x ≡ set ps place x
  pub paths : (x : ExportsModel) → path ≡ x.path → paths_of (set ps place x) ≡ paths_of ps

found : (ps : List ExportsModel) (path : List ℕ) (k n : ℕ) (d : ExportsModel) → position_from (bytes_eq path) k (paths_of ps) ≡ Some n → Found ps path k n d
found [] path k n d h = cc
found (p ∷ ps) path k n d h = by (bytes_eq path p.path) refl h (found ps path (k + 1) n d)
  where
    by : (b : Bool) → bytes_eq path p.path ≡ b → cond b (Some k) (position_from (bytes_eq path) (k + 1) (paths_of ps)) ≡ Some n → (position_from (bytes_eq path) (k + 1) (paths_of ps) ≡ Some n → Found ps path (k + 1) n d) → Found (p ∷ ps) path k n d
    by true t e rest = record {
      place = 0;
      is = (let same : k ≡ n = (let s : Some k ≡ Some n = e in cc) in omega (arith, same));
      within = omega arith;
      names = ap (λ b. if b then p.names else names_shown ps path) t;
      put = λ x is. ap (λ b. if b then x ∷ ps else p ∷ with_shown ps x) (ap (λ (q : List ℕ). bytes_eq q p.path) (sym is) ∙ t);
      paths = λ x is. ap (λ (q : List ℕ). q ∷ paths_of ps) (sym is ∙ same_text path p.path t);
    }
    by false t e rest = (let behind = rest e in record {
      place = suc behind.place;
      is = omega (arith, behind.is);
      within = omega (arith, behind.within);
      names = ap (λ b. if b then p.names else names_shown ps path) t ∙ behind.names;
      put = λ x is. ap (λ b. if b then x ∷ ps else p ∷ with_shown ps x) (ap (λ (q : List ℕ). bytes_eq q p.path) (sym is) ∙ t) ∙ ap (λ (l : List ExportsModel). p ∷ l) (behind.put x is);
      paths = λ x is. ap (λ (l : List (List ℕ)). p.path ∷ l) (behind.paths x is);
    })

pub number_within : (ps : List ExportsModel) (path : List ℕ) (n : ℕ) → number_of ps path ≡ Some n → n < length ps
number_within ps path n h = let f = found ps path 0 n (exports_model [] [] []) h in omega (arith, f.is, f.within)

value_numbered : (k : ℕ) (paths : List (List ℕ)) (path : List ℕ) → value_at (numbered k paths) path ≡ position_from (bytes_eq path) k paths
value_numbered k [] path = refl
value_numbered k (p ∷ paths) path = ap (λ o. cond (bytes_eq path p) (Some k) o) (value_numbered (k + 1) paths path)

-- the number of a path is what the table has
pub number_found : (numbers : List (List ℕ × ℕ)) (ps : List ExportsModel) (path : List ℕ) → AreNumbered numbers ps → value_at numbers path ≡ number_of ps path
number_found numbers ps path are = ap (λ l. value_at l path) are ∙ value_numbered 0 (paths_of ps) path

-- another package takes its place
pub numbered_again : (numbers : List (List ℕ × ℕ)) (ps : List ExportsModel) (path : List ℕ) (n : ℕ) (e : ExportsModel) → AreNumbered numbers ps → number_of ps path ≡ Some n → path ≡ e.path
    → (set ps n e ≡ with_shown ps e) × AreNumbered numbers (set ps n e)
numbered_again numbers ps path n e before h is =
    let f = found ps path 0 n e h in
    let same : f.place ≡ n = omega (arith, f.is) in (
      sym (f.put e is ∙ ap (λ (m : ℕ). set ps m e) same),
      before ∙ ap (numbered 0) (sym (f.paths e is) ∙ ap (λ (m : ℕ). paths_of (set ps m e)) same),
    )

-- a package whose path has none goes last

last_shown : (ps : List ExportsModel) (e : ExportsModel) (k : ℕ) → position_from (bytes_eq e.path) k (paths_of ps) ≡ None → ps ++ e ∷ [] ≡ with_shown ps e
last_shown [] e k h = refl
last_shown (p ∷ ps) e k h = by (bytes_eq e.path p.path) refl h (last_shown ps e (k + 1))
  where
    by : (b : Bool) → bytes_eq e.path p.path ≡ b → cond b (Some k) (position_from (bytes_eq e.path) (k + 1) (paths_of ps)) ≡ None → (position_from (bytes_eq e.path) (k + 1) (paths_of ps) ≡ None → ps ++ e ∷ [] ≡ with_shown ps e)
        → p ∷ (ps ++ e ∷ []) ≡ with_shown (p ∷ ps) e
    by true t none rest = cc
    by false t none rest = ap (λ (l : List ExportsModel). p ∷ l) (rest none) ∙ sym (ap (λ b. if b then e ∷ ps else p ∷ with_shown ps e) t)

numbered_more : (k : ℕ) (paths : List (List ℕ)) (last : List ℕ) (n : ℕ) → n ≡ k + length paths → numbered k paths ++ (last, n) ∷ [] ≡ numbered k (paths ++ last ∷ [])
numbered_more k [] last n at = let same : n ≡ k = omega (arith, at) in ap (λ (m : ℕ). (last, m) ∷ []) same
numbered_more k (p ∷ paths) last n at = let at' : n ≡ k + 1 + length paths = omega (arith, at) in ap (λ (l : List (List ℕ × ℕ)). (p, k) ∷ l) (numbered_more (k + 1) paths last n at')

pub numbered_last : (old new : List (List ℕ × ℕ)) (ps : List ExportsModel) (path : List ℕ) (n : ℕ) (e : ExportsModel) → AreNumbered old ps → path ≡ e.path → n ≡ length ps → number_of ps e.path ≡ None → new ≡ old ++ (path, n) ∷ []
    → (ps ++ e ∷ [] ≡ with_shown ps e) × AreNumbered new (ps ++ e ∷ [])
numbered_last old new ps path n e before is count none more = (
  last_shown ps e 0 none,
  (let size : length (paths_of ps) ≡ length ps = length-map ps (λ p. p.path) in
      let first : n ≡ 0 + length (paths_of ps) = omega (arith, count, size) in
      more
      ∙ (ap (λ (l : List (List ℕ × ℕ)). l ++ (path, n) ∷ []) before
      ∙ (ap (λ (q : List ℕ). numbered 0 (paths_of ps) ++ (q, n) ∷ []) is
      ∙ (numbered_more 0 (paths_of ps) e.path n first ∙ ap (numbered 0) (sym (map-append (λ (p : ExportsModel). p.path) ps (e ∷ []))))))),
)

-- what the package of a path shows

pub shown_there : (ps : List ExportsModel) (path name : List ℕ) (n : ℕ) (read : ExportsModel) → number_of ps path ≡ Some n → read ≡ get_or ps n read → exported (chars name) ≡ true → in_block read.names name ≡ shown_in ps path name
shown_there ps path name n read at is visible =
    let f = found ps path 0 n read at in
    let same : n ≡ f.place = omega (arith, f.is) in
    let names : names_shown ps path ≡ read.names = f.names ∙ sym (ap (λ (e : ExportsModel). e.names) (is ∙ ap (λ (m : ℕ). get_or ps m read) same)) in
    sym (ap (λ b. if b then in_block (names_shown ps path) name else None) visible ∙ ap (λ (ns : List (List ℕ × DeclRef)). in_block ns name) names)

nothing_shown : (ps : List ExportsModel) (path : List ℕ) (k : ℕ) → position_from (bytes_eq path) k (paths_of ps) ≡ None → names_shown ps path ≡ []
nothing_shown [] path k h = refl
nothing_shown (p ∷ ps) path k h = by (bytes_eq path p.path) refl h (nothing_shown ps path (k + 1))
  where
    by : (b : Bool) → bytes_eq path p.path ≡ b → cond b (Some k) (position_from (bytes_eq path) (k + 1) (paths_of ps)) ≡ None → (position_from (bytes_eq path) (k + 1) (paths_of ps) ≡ None → names_shown ps path ≡ [])
        → names_shown (p ∷ ps) path ≡ []
    by true t none rest = cc
    by false t none rest = ap (λ b. if b then p.names else names_shown ps path) t ∙ rest none

pub shown_nowhere : (ps : List ExportsModel) (path name : List ℕ) → number_of ps path ≡ None → None ≡ shown_in ps path name
shown_nowhere ps path name at = sym (ap (λ (ns : List (List ℕ × DeclRef)). if exported (chars name) then in_block ns name else None) (nothing_shown ps path 0 at) ∙ neither (exported (chars name)))
  where
    neither : (b : Bool) → ◌≡◌ {A = Option DeclRef} (if b then None else None) None
    neither true = refl
    neither false = refl

pub shown_hidden : (ps : List ExportsModel) (path name : List ℕ) → exported (chars name) ≡ false → None ≡ shown_in ps path name
shown_hidden ps path name hidden = sym (ap (λ b. if b then in_block (names_shown ps path) name else None) hidden)

-- laws

names_of_added : (ps : List ExportsModel) (e : ExportsModel) → names_shown (with_shown ps e) e.path ≡ e.names
names_of_added [] e = ap (λ b. if b then e.names else []) (text_same e.path e.path refl)
names_of_added (p ∷ ps) e = by (bytes_eq e.path p.path) refl (names_of_added ps e)
  where
    by : (b : Bool) → bytes_eq e.path p.path ≡ b → names_shown (with_shown ps e) e.path ≡ e.names → names_shown (if b then e ∷ ps else p ∷ with_shown ps e) e.path ≡ e.names
    by true t rest = ap (λ c. if c then e.names else names_shown ps e.path) (text_same e.path e.path refl)
    by false t rest = ap (λ c. if c then p.names else names_shown (with_shown ps e) e.path) t ∙ rest

exported_found : (ns : List (List ℕ × DeclRef)) (name : List ℕ) → exported (chars name) ≡ true → in_block (exported_names ns) name ≡ in_block ns name
exported_found [] name visible = refl
exported_found (n ∷ ns) name visible = by (exported (chars n.0)) refl (exported_found ns name visible)
  where
    by : (b : Bool) → exported (chars n.0) ≡ b → in_block (exported_names ns) name ≡ in_block ns name → in_block (cond b (n ∷ exported_names ns) (exported_names ns)) name ≡ in_block (n ∷ ns) name
    by true t rest = ap (λ o. cond (bytes_eq name n.0) (Some n.1) o) rest
    by false t rest =
        let other : bytes_eq name n.0 ≡ false = text_apart name n.0 (λ same. true≢false (sym visible ∙ (ap (λ (x : List ℕ). exported (chars x)) same ∙ t))) in
        rest ∙ sym (ap (λ c. cond c (Some n.1) (in_block ns name)) other)

pub shows_its_block : ShowsItsBlock
shows_its_block ps p b name =
    ap (λ (ns : List (List ℕ × DeclRef)). if exported (chars name) then in_block ns name else None) (names_of_added ps (exports_of p b))
    ∙ by (exported (chars name)) refl
  where
    by : (c : Bool) → exported (chars name) ≡ c → (if c then in_block (exported_names b.names) name else None) ≡ (if c then in_block b.names name else None)
    by true t = exported_found b.names name t
    by false t = refl

others_kept : (ps : List ExportsModel) (e : ExportsModel) (path : List ℕ) → (path ≡ e.path → ⊥) → names_shown (with_shown ps e) path ≡ names_shown ps path
others_kept [] e path other = ap (λ b. if b then e.names else []) (text_apart path e.path other)
others_kept (p ∷ ps) e path other = by (bytes_eq e.path p.path) refl (others_kept ps e path other)
  where
    by : (b : Bool) → bytes_eq e.path p.path ≡ b → names_shown (with_shown ps e) path ≡ names_shown ps path → names_shown (if b then e ∷ ps else p ∷ with_shown ps e) path ≡ names_shown (p ∷ ps) path
    by true t rest =
        let same : e.path ≡ p.path = same_text e.path p.path t in
        ap (λ c. if c then e.names else names_shown ps path) (text_apart path e.path other)
        ∙ sym (ap (λ c. if c then p.names else names_shown ps path) (text_apart path p.path (λ is. other (is ∙ sym same))))
    by false t rest = ap (λ (ns : List (List ℕ × DeclRef)). if bytes_eq path p.path then p.names else ns) rest

pub keeps_others : KeepsOthers
keeps_others ps e path name other = ap (λ (ns : List (List ℕ × DeclRef)). if exported (chars name) then in_block ns name else None) (others_kept ps e path other)
