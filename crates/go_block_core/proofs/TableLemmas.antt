-- Tables of names, as blocks.
use Rattle.std.proofs.Common.{◌≡◌, ℕ, ◌+◌, ◌<◌, Bool, true, false, not, List, [], ◌∷◌, ◌++◌, map, length, get_or, drop, Option, Some, None, is_some, refl, sym, ap, ◌∙◌, cond, Bor, append_assoc, append-nil}
use Rattle.std.specs.Prelude.{string_bytes, slice_get}
use Rattle.std.specs.Str.{bytes_eq, chars}
use Rattle.std.specs.declared.string.String.{String}
use Rattle.std.proofs.lemmas.Bool.{true≢false}
use Rattle.std.proofs.lemmas.Slice.Eq.{bytes_eq-Decides}
use Rattle.std.proofs.lemmas.List.{map-append, drop_more}
use Rattle.go_tree_nodes.specs.text_core.Text.{exported}
use Rattle.go_decl_core.specs.declared.keys.DeclRef.{DeclRef}
use Rattle.go_block_core.specs.Exports.{exported_names}
use Rattle.go_block_core.specs.Tables.{in_block, has, with_first, names_in, without}
use Rattle.go_block_core.specs.declared.binding.Binding.{Binding}
use Rattle.go_block_core.specs.Blocks.{BlocksModel, in_some, file_has, file_binding, if_block, held_in}

module _ {X : Type 0} where
  none_from_test : (o : Option X) → is_some o ≡ false → o ≡ None
  none_from_test None h = refl
  none_from_test (Some d) h = absurd (true≢false h)

  -- a name that a block has not
  pub not_there : (block : List (List ℕ × X)) (name : List ℕ) → has block name ≡ false → in_block block name ≡ None
  not_there block name absent = none_from_test (in_block block name) absent

  -- a new name goes last
  pub bound_last : (old new : List (List ℕ × X)) (name : List ℕ) (x : X) → has old name ≡ false → new ≡ old ++ (name, x) ∷ [] → new ≡ with_first old name x
  bound_last old new name x absent more = more ∙ sym (ap (λ b. cond b old (old ++ (name, x) ∷ [])) absent)

  -- and one that is there leaves the block as it is
  pub bound_before : (block : List (List ℕ × X)) (name : List ℕ) (x : X) → has block name ≡ true → block ≡ with_first block name x
  bound_before block name x there = sym (ap (λ b. cond b block (block ++ (name, x) ∷ [])) there)

-- the names of a table, one after another

-- one thing more is listed, of those that are left
pub listed_more : {A : Type 0} (old new : List A) (x : A) (seen rest whole : List A) → new ≡ old ++ x ∷ [] → seen ≡ x ∷ rest → old ++ seen ≡ whole → new ++ rest ≡ whole
listed_more old new x seen rest whole more step before =
    ap (λ l. l ++ rest) more ∙ (append_assoc old (x ∷ []) rest ∙ (ap (λ l. old ++ l) (sym step) ∙ before))

pub name_shown : (old new : List (Bor (List ℕ))) (shown : Bor (List ℕ)) (name : List ℕ) (seen rest whole : List (List ℕ)) → new ≡ old ++ shown ∷ [] → shown.now ≡ name → seen ≡ name ∷ rest → map (λ n. n.now) old ++ seen ≡ whole → map (λ n. n.now) new ++ rest ≡ whole
name_shown old new shown name seen rest whole more is step before =
    listed_more (map (λ n. n.now) old) (map (λ n. n.now) new) name seen rest whole
    (ap (map (λ n. n.now)) more ∙ (map-append (λ n. n.now) old (shown ∷ []) ∙ ap (λ n. map (λ n. n.now) old ++ n ∷ []) is))
    step before

-- nothing is left
pub all_listed : {A : Type 0} (all seen whole : List A) → seen ≡ [] → all ++ seen ≡ whole → all ≡ whole
all_listed all seen whole none before = sym (append-nil all) ∙ (ap (λ l. all ++ l) (sym none) ∙ before)

-- what is left at a place
pub left_at : {E : Type 0} (xs : List E) (i : ℕ) (e : E) → i < length xs → e ≡ get_or xs i e → drop i xs ≡ e ∷ drop (i + 1) xs
left_at xs i e lt is = drop_more xs i e lt ∙ ap (λ x. x ∷ drop (i + 1) xs) (sym is)

-- an entry of a table, as one of a block
abbrev pub entry_of : {X Y : Type 0} → String Y × X → List ℕ × X
entry_of e = (string_bytes e.0, e.1)

-- the names of a table that another block has not, one after another
module _ {X Y Z : Type 0} (other : List (List ℕ × Z)) (shown : List (Bor (List ℕ))) (left rest : List (String Y × X)) (e : String Y × X) (whole : List (List ℕ)) (step : left ≡ e ∷ rest) where
  pub name_left_out : has other (string_bytes e.0) ≡ true → (new : List (Bor (List ℕ))) → new ≡ shown → map (λ n. n.now) shown ++ names_in (without other (map entry_of left)) ≡ whole → map (λ n. n.now) new ++ names_in (without other (map entry_of rest)) ≡ whole
  name_left_out there new same before =
      let behind = without other (map entry_of rest) in
      let gone : names_in (without other (map entry_of left)) ≡ names_in behind = ap (λ es. names_in (without other (map entry_of es))) step ∙ ap (λ b. names_in (cond (not b) (entry_of e ∷ behind) behind)) there in
      ap (λ ns. map (λ n. n.now) ns ++ names_in behind) same ∙ (ap (λ ns. map (λ n. n.now) shown ++ ns) (sym gone) ∙ before)

  pub name_kept : has other (string_bytes e.0) ≡ false → (new : List (Bor (List ℕ))) (name : Bor (List ℕ)) → new ≡ shown ++ name ∷ [] → name.now ≡ string_bytes e.0 → map (λ n. n.now) shown ++ names_in (without other (map entry_of left)) ≡ whole → map (λ n. n.now) new ++ names_in (without other (map entry_of rest)) ≡ whole
  name_kept absent new name more is before =
      let behind = without other (map entry_of rest) in
      let next : names_in (without other (map entry_of left)) ≡ string_bytes e.0 ∷ names_in behind = ap (λ es. names_in (without other (map entry_of es))) step ∙ ap (λ b. names_in (cond (not b) (entry_of e ∷ behind) behind)) absent in
      name_shown shown new name (string_bytes e.0) _ _ _ more is next before

-- the exported names of a table with their declarations, one after another
module _ {Y : Type 0} (old : List (List ℕ × DeclRef)) (left rest : List (String Y × DeclRef)) (e : String Y × DeclRef) (whole : List (List ℕ × DeclRef)) (step : left ≡ e ∷ rest) where
  pub exported_left_out : exported (chars (string_bytes e.0)) ≡ false → (new : List (List ℕ × DeclRef)) → new ≡ old → old ++ exported_names (map entry_of left) ≡ whole → new ++ exported_names (map entry_of rest) ≡ whole
  exported_left_out hidden new same before =
      let behind = exported_names (map entry_of rest) in
      let gone : exported_names (map entry_of left) ≡ behind = ap (λ es. exported_names (map entry_of es)) step ∙ ap (λ b. cond b (entry_of e ∷ behind) behind) hidden in
      ap (λ ns. ns ++ behind) same ∙ (ap (λ es. old ++ es) (sym gone) ∙ before)

  pub exported_kept : exported (chars (string_bytes e.0)) ≡ true → (new : List (List ℕ × DeclRef)) → new ≡ old ++ entry_of e ∷ [] → old ++ exported_names (map entry_of left) ≡ whole → new ++ exported_names (map entry_of rest) ≡ whole
  exported_kept shown new more before =
      let behind = exported_names (map entry_of rest) in
      let next : exported_names (map entry_of left) ≡ entry_of e ∷ behind = ap (λ es. exported_names (map entry_of es)) step ∙ ap (λ b. cond b (entry_of e ∷ behind) behind) shown in
      listed_more old new (entry_of e) _ behind whole more next before

-- what a block has at a name that another has not

module _ {X : Type 0} where
  same_none : (gone : Bool) → ◌≡◌ {A = Option X} None (cond gone None None)
  same_none true = refl
  same_none false = refl

  kept_or_not : (kept : Bool) (name : List ℕ) (e : List ℕ × X) (w : List (List ℕ × X)) → in_block (cond kept (e ∷ w) w) name ≡ cond kept (in_block (e ∷ w) name) (in_block w name)
  kept_or_not true name e w = refl
  kept_or_not false name e w = refl

  pick : (here there gone : Bool) (x : X) (rest all : Option X) → (here ≡ true → there ≡ gone) → rest ≡ cond gone None all → cond (not there) (cond here (Some x) rest) rest ≡ cond gone None (cond here (Some x) all)
  pick true true gone x rest all h e = (let g : true ≡ gone = h refl in e ∙ (ap (λ b. cond b None all) (sym g) ∙ ap (λ b. cond b None (Some x)) g))
  pick true false gone x rest all h e = ap (λ b. cond b None (Some x)) (h refl)
  pick false true gone x rest all h e = e
  pick false false gone x rest all h e = e

module _ {X Z : Type 0} (other : List (List ℕ × Z)) (name : List ℕ) where
  pub in_without : (block : List (List ℕ × X)) → in_block (without other block) name ≡ cond (has other name) None (in_block block name)
  in_without [] = same_none (has other name)
  in_without (e ∷ es) =
      kept_or_not (not (has other e.0)) name e (without other es)
      ∙ pick (bytes_eq name e.0) (has other e.0) (has other name) e.1 (in_block (without other es) name) (in_block es name)
      (λ same. ap (has other) (sym ((bytes_eq-Decides name e.0).0 same))) (in_without es)

-- what a look-up in a file answers

module _ (b : BlocksModel) (file : ℕ) (name : List ℕ) where
  pub hidden_binding : has b.names name ≡ true → None ≡ file_binding b file name
  hidden_binding there = ap (λ gone. cond gone None (in_some (slice_get b.files file) name)) (sym there)

  pub shown_binding : has b.names name ≡ false → file_has b file name ≡ file_binding b file name
  shown_binding absent = ap (λ gone. cond gone None (file_has b file name)) (sym absent)

in_if_block : (o : Option (List (List ℕ × Binding))) (name : List ℕ) → in_block (if_block o) name ≡ in_some o name
in_if_block None name = refl
in_if_block (Some block) name = refl

-- what holds in a file at a name is what a look-up in the file answers
pub held_is_binding : (b : BlocksModel) (file : ℕ) (name : List ℕ) → in_block (held_in b file) name ≡ file_binding b file name
held_is_binding b file name =
    in_without b.names name (if_block (slice_get b.files file))
    ∙ ap (cond (has b.names name) None) (in_if_block (slice_get b.files file) name)
