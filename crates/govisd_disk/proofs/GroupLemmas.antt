-- Folders whose files are parsed together.
use Rattle.std.proofs.Common.{◌≡◌, ◌∙◌, ◌≤◌, ◌+◌, ℕ, List, [], ◌∷◌, ◌++◌, All, length, drop, refl, sym, ap, ap₂, subst, arith, append_assoc}
use Rattle.std.proofs.lemmas.List.{append-nil, drop-append-le, drop_at, length-append, length-drop, length-map, map-append, take-append-le, take_all, take_at}
use Rattle.std.proofs.lemmas.List.Elements.{All-append, All-cons, All-drop, All-head, All-nil, All-tail, All-take}
use Rattle.std.specs.Prelude.{string_bytes}
use Rattle.std.specs.declared.alloc.Global.{Global}
use Rattle.std.specs.declared.string.String.{String}
use Rattle.go_graph_core.specs.Sources.{IsRead, SourceModel}
use Rattle.go_graph_core.specs.Workspaces.{HaveDistinctNames, given_files, texts_of_files}
use Rattle.govisd_disk.specs.declared.groups.Group.{Group}
use Rattle.govisd_disk.specs.Puts.{ArePut, FolderModel, HasDistinctFiles, IsGroup, IsPut, StateModel, counted_files, counted_folders, group_of}
use Rattle.govisd_disk.proofs.PuttingLemmas.{put_more}

-- a name with a text
abbrev pub GivenFile : Type 0
GivenFile = String Global × String Global

-- one more folder, with files behind those of the others
pub counted_more : {Y : Type 0} (fs : List (String Y × ℕ)) (f : String Y × ℕ) (given own : List (List ℕ × List ℕ)) → counted_files fs ≡ length given → f.1 ≡ length own → counted_folders (fs ++ f ∷ []) (given ++ own) ≡ counted_folders fs given ++ (string_bytes f.0, own) ∷ []
counted_more [] f [] own all len = ap (λ (l : List (List ℕ × List ℕ)). (string_bytes f.0, l) ∷ []) (take_all f.1 own (omega (arith, len)))
counted_more [] f (g ∷ given) own all len = absurd (omega (arith, all))
counted_more (x ∷ fs) f given own all len =
    let fits : x.1 ≤ length given = omega (arith, all) in
    ap₂ (λ (l : List (List ℕ × List ℕ)) (rest : List FolderModel). (string_bytes x.0, l) ∷ rest) (take-append-le x.1 given own fits) (
    ap (counted_folders (fs ++ f ∷ [])) (drop-append-le x.1 given own fits)
    ∙ counted_more fs f (drop x.1 given) own (omega (arith, all, length-drop x.1 given)) len
    )

pub counted_files_more : {Y : Type 0} (fs : List (String Y × ℕ)) (f : String Y × ℕ) → counted_files (fs ++ f ∷ []) ≡ counted_files fs + f.1
counted_files_more [] f = omega arith
counted_files_more (x ∷ fs) f = omega (arith, counted_files_more fs f)

-- the folders of a group with one more
pub folders_more : (old : Group) (folders : List (String Global × ℕ)) (files : List GivenFile) (folder : String Global) (count : ℕ) (own : List GivenFile) → IsGroup old → count ≡ length own
    → folders ≡ old.folders.items ++ (folder, count) ∷ [] → files ≡ old.files.items ++ own → counted_folders folders (given_files files) ≡ group_of old ++ (string_bytes folder, given_files own) ∷ []
folders_more old folders files folder count own is len more grown =
    let pair : GivenFile → List ℕ × List ℕ = λ f. (string_bytes f.0, string_bytes f.1) in
    let given : given_files files ≡ given_files old.files.items ++ given_files own = ap given_files grown ∙ map-append pair old.files.items own in
    let counted : counted_files old.folders.items ≡ length (given_files old.files.items) = is.counted ∙ sym (length-map old.files.items pair) in
    ap₂ counted_folders more given ∙ counted_more old.folders.items (folder, count) (given_files old.files.items) (given_files own) counted (len ∙ sym (length-map own pair))

-- it is a group
pub group_more : (old new : Group) (folder : String Global) (count : ℕ) (own : List GivenFile) → IsGroup old → count ≡ length own → HaveDistinctNames (given_files own)
    → new.folders.items ≡ old.folders.items ++ (folder, count) ∷ [] → new.files.items ≡ old.files.items ++ own → IsGroup new
group_more old new folder count own is len distinct folders files =
    let more : FolderModel = (string_bytes folder, given_files own) in
    let all : group_of new ≡ group_of old ++ more ∷ [] = folders_more old new.folders.items new.files.items folder count own is len folders files in
    let many : counted_files new.folders.items ≡ length new.files.items =
    ap counted_files folders ∙ (counted_files_more old.folders.items (folder, count) ∙ (ap₂ (λ (n m : ℕ). n + m) is.counted len ∙ (sym (length-append old.files.items own) ∙ ap length (sym files)))) in
    let apart : All HasDistinctFiles (group_of old ++ more ∷ []) = All-append HasDistinctFiles (group_of old) (more ∷ []) is.distinct (All-cons HasDistinctFiles more [] distinct (All-nil HasDistinctFiles)) in
    record { counted = many; distinct = subst (All HasDistinctFiles) (sym all) apart }

-- the first folder has the first files
counted_first : {Y : Type 0} (f : String Y × ℕ) (fs : List (String Y × ℕ)) (own rest : List SourceModel) → length own ≡ f.1 → counted_folders (f ∷ fs) (texts_of_files (own ++ rest)) ≡ (string_bytes f.0, texts_of_files own) ∷ counted_folders fs (texts_of_files rest)
counted_first f fs own rest len =
    let many : length (texts_of_files own) ≡ f.1 = length-map own (λ (s : SourceModel). (s.name, s.text)) ∙ len in
    ap (counted_folders (f ∷ fs)) (map-append (λ (s : SourceModel). (s.name, s.text)) own rest)
    ∙ ap₂ (λ (l m : List (List ℕ × List ℕ)). (string_bytes f.0, l) ∷ counted_folders fs m) (take_at (texts_of_files own) (texts_of_files rest) f.1 many) (drop_at (texts_of_files own) (texts_of_files rest) f.1 many)

-- of the folders of a group some are put, and these are left, with files that are read
pub record AreLeft {Y : Type 0} (own : List ℕ) (all : List FolderModel) (old now : StateModel) (fs : List (String Y × ℕ)) (left : List SourceModel) : Type 0 where
  pub done : List FolderModel
  pub put : ArePut own done old now
  pub folders : done ++ counted_folders fs (texts_of_files left) ≡ all
  pub read : All IsRead left
  pub distinct : All HasDistinctFiles (counted_folders fs (texts_of_files left))
  pub counted : counted_files fs ≡ length left

-- none is put
pub none_put : (own : List ℕ) (g : Group) (old : StateModel) (fs : List (String Global × ℕ)) (left : List SourceModel) → IsGroup g → fs ≡ g.folders.items → texts_of_files left ≡ given_files g.files.items → All IsRead left → AreLeft own (group_of g) old old fs left
none_put own g old fs left is same texts read =
    let folders : counted_folders fs (texts_of_files left) ≡ group_of g = ap₂ counted_folders same texts in
    let many : length left ≡ length g.files.items = sym (length-map left (λ (s : SourceModel). (s.name, s.text))) ∙ (ap length texts ∙ length-map g.files.items (λ f. (string_bytes f.0, string_bytes f.1))) in
    record { done = []; put = refl; folders = folders; read = read; distinct = subst (All HasDistinctFiles) (sym folders) is.distinct; counted = ap counted_files same ∙ (is.counted ∙ sym many) }

-- all are put
pub all_put : {Y : Type 0} (own : List ℕ) (all : List FolderModel) (old now : StateModel) (fs : List (String Y × ℕ)) (left : List SourceModel) → length fs ≡ 0 → AreLeft own all old now fs left → ArePut own all old now
all_put own all old now [] left none is = subst (λ l. ArePut own l old now) (sym (append-nil is.done) ∙ is.folders) is.put
all_put own all old now (f ∷ fs) left none is = absurd (omega (arith, none))

-- the same by other names
pub left_at : {Y : Type 0} (own : List ℕ) (all : List FolderModel) (old now : StateModel) (fs gs : List (String Y × ℕ)) (left left' : List SourceModel) → fs ≡ gs → left ≡ left' → AreLeft own all old now fs left → AreLeft own all old now gs left'
left_at own all old now fs gs left left' same files is = subst (λ l. AreLeft own all old now gs l) files (subst (λ l. AreLeft own all old now l left) same is)

module _ {Y : Type 0} (own : List ℕ) (all : List FolderModel) (old now : StateModel) (f : String Y × ℕ) (fs : List (String Y × ℕ)) where
  -- there are as many files as the next folder has
  pub next_fit : (left : List SourceModel) → AreLeft own all old now (f ∷ fs) left → f.1 ≤ length left
  next_fit left is = omega (arith, is.counted)

  module _ (files rest : List SourceModel) (len : length files ≡ f.1) (is : AreLeft own all old now (f ∷ fs) (files ++ rest)) where
    -- they are read
    pub next_read : All IsRead files
    next_read = subst (All IsRead) (take_at files rest (length files) refl) (All-take IsRead (length files) (files ++ rest) is.read)

    -- and have distinct names
    pub next_distinct : HaveDistinctNames (texts_of_files files)
    next_distinct = All-head HasDistinctFiles (string_bytes f.0, texts_of_files files) _ (subst (All HasDistinctFiles) (counted_first f fs files rest len) is.distinct)

    -- the folder is put
    pub next_put : (new : StateModel) → IsPut own (string_bytes f.0, texts_of_files files) now new → AreLeft own all old new fs rest
    next_put new put =
        let first = counted_first f fs files rest len in
        let next : FolderModel = (string_bytes f.0, texts_of_files files) in
        record {
          done = is.done ++ next ∷ [];
          put = put_more own is.done next old now new is.put put;
          folders = append_assoc is.done (next ∷ []) (counted_folders fs (texts_of_files rest)) ∙ (ap (λ l. is.done ++ l) (sym first) ∙ is.folders);
          read = subst (All IsRead) (drop_at files rest (length files) refl) (All-drop IsRead (length files) (files ++ rest) is.read);
          distinct = All-tail HasDistinctFiles next _ (subst (All HasDistinctFiles) first is.distinct);
          counted = omega (arith, is.counted, length-append files rest, len);
        }

-- folders behind those that are put
put_behind : (own : List ℕ) (fs gs : List FolderModel) (old mid new : StateModel) → ArePut own fs old mid → ArePut own gs mid new → ArePut own (fs ++ gs) old new
put_behind own [] gs old mid new h is = subst (λ s. ArePut own gs s new) h is
put_behind own (f ∷ fs) gs old mid new h is = (h.0, h.1, put_behind own fs gs h.0 mid new h.2 is)

-- of these folders some are put, and the others are those of a group
pub record AreGrouped (own : List ℕ) (fs : List FolderModel) (g : Group) (old now : StateModel) : Type 0 where
  pub done : List FolderModel
  pub put : ArePut own done old now
  pub group : IsGroup g
  pub folders : done ++ group_of g ≡ fs

-- a group without folders
pub grouped_none : (own : List ℕ) (fs : List FolderModel) (g : Group) (old now : StateModel) → ArePut own fs old now → IsGroup g → group_of g ≡ [] → AreGrouped own fs g old now
grouped_none own fs g old now put is none = record { done = fs; put = put; group = is; folders = ap (λ l. fs ++ l) none ∙ append-nil fs }

-- a group that gets a folder
pub grouped_more : (own : List ℕ) (fs : List FolderModel) (f : FolderModel) (g new : Group) (old now : StateModel) → AreGrouped own fs g old now → IsGroup new → group_of new ≡ group_of g ++ f ∷ [] → AreGrouped own (fs ++ f ∷ []) new old now
grouped_more own fs f g new old now is group more =
    record { done = is.done; put = is.put; group = group; folders = ap (λ l. is.done ++ l) more ∙ (sym (append_assoc is.done (group_of g) (f ∷ [])) ∙ ap (λ l. l ++ f ∷ []) is.folders) }

-- a group that is put
pub grouped_put : (own : List ℕ) (fs : List FolderModel) (g : Group) (old now new : StateModel) → AreGrouped own fs g old now → ArePut own (group_of g) now new → ArePut own fs old new
grouped_put own fs g old now new is put = subst (λ l. ArePut own l old new) is.folders (put_behind own is.done (group_of g) old now new is.put put)
